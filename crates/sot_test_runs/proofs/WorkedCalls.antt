-- What the worked missions may be asked: their nodes run, and the vehicle moves.
use Rattle.std.proofs.Common.{◌≡◌, ℤ, List, [], ◌∷◌, sym, ap, ◌∙◌, length}
use Rattle.std.specs.Prelude.{slice_get}
use Rattle.sot_lang.specs.declared.term.Term.{Term}
use Rattle.sot_lang.specs.Tables.{Tables}
use Rattle.sot_lang.specs.OwnerNames.{seen_width}
use Rattle.sot_code.specs.Recorded.{MayRun, MayTickPlant}
use Rattle.sot_worked_missions.specs.Divide.{IsDivide}
use Rattle.sot_worked_missions.specs.Line.{IsLine}

pub calc_may_run : (D : Term → Type 0) (p : Tables) (n : ℤ) → IsDivide D p → MayRun p 0 (n ∷ []) []
calc_may_run D p n h = record {
  node = h.nodes.0;
  acts = h.nodes.1.body.0;
  is = ap (λ l. slice_get l 0) h.nodes.2;
  coded = h.nodes.1.body.1;
  reads = sym (ap length h.nodes.1.reads);
  locals_are = sym (ap length h.nodes.1.locals);
}

pub slow_may_run : (N : Term → Type 0) (p : Tables) (x : ℤ) → IsLine N p → MayRun p 1 (x ∷ []) []
slow_may_run N p x h = record {
  node = h.nodes.1;
  acts = h.nodes.3.body.0;
  is = ap (λ l. slice_get l 1) h.nodes.4;
  coded = h.nodes.3.body.1;
  reads = sym (ap length h.nodes.3.reads);
  locals_are = sym (ap length h.nodes.3.locals);
}

pub pos_may_tick : (N : Term → Type 0) (p : Tables) (state : List ℤ) (cmd w : ℤ) → IsLine N p → length state ≡ 1 → MayTickPlant p 0 state (cmd ∷ []) [] (w ∷ [])
pos_may_tick N p state cmd w h one = record {
  plant = h.plants.0;
  is = ap (λ l. slice_get l 0) h.plants.2;
  states = one ∙ sym (ap length h.plants.1.states);
  inputs = sym (ap length h.plants.1.inputs);
  seen_are = sym (ap (seen_width p.plants) h.plants.1.sees);
  disturbances = sym (ap length h.plants.1.noise);
}
