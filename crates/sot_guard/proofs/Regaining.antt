-- Trust that comes back, and what the tests at a beginning need.
use Rattle.std.proofs.Common.{◌≡◌, ℕ, ℤ, Bool, true, false, ◌↔◌, List, length, refl, sym}
use Rattle.std.specs.Prelude.{slice_index_or}
use Rattle.std.proofs.lemmas.Bool.{false≢true}
use Rattle.sot_lists.specs.Places.{At}
use Rattle.sot_calendar.specs.Due.{IsDue}
use Rattle.sot_lang.specs.declared.tables.NodeInfo.{NodeInfo}
use Rattle.sot_lang.specs.declared.tables.ModuleInfo.{ModuleInfo}
use Rattle.sot_tube.specs.Admitted.{Admitted}
use Rattle.sot_tube.specs.Certified.{IsWellCertified}
use Rattle.sot_world.specs.Configurations.{Configuration, IsSized}
use Rattle.sot_world.specs.Changes.{ArePoints}
use Rattle.sot_guard.specs.Guarding.{IsGuarding}
use Rattle.sot_guard.specs.HeldParts.{MayBeHeld, AnswersAt}
use Rattle.sot_guard.specs.Resuming.{RegainsTrust}
use Rattle.sot_guard.proofs.Holding.{held_at, held_keeps}

pub may_be_held : (a : Admitted) (points : List (List ℤ)) → IsWellCertified a.program a.cert.jitter a.cert → ArePoints a.program points
    → MayBeHeld a.program a.cert.jitter points
may_be_held a points certified are = record {
  points_are = are;
  boxes = λ m info at. (certified.boxes m info at).0;
  few = λ m info at. certified.module_jitter m info at;
}

module _ (a : Admitted) (t : Bool) (C : Configuration) (g : IsGuarding a t C) (off : t ≡ false) (left left_dm : List Bool)
    (sizes : length left ≡ length a.program.nodes) (sizes_dm : length left_dm ≡ length a.program.modules)
    (nodes : (n : ℕ) (node : NodeInfo) → At a.program.nodes n node → (slice_index_or left n false ≡ true) ↔ IsDue node.period node.offset C.time)
    (modules : (m : ℕ) (info : ModuleInfo) → At a.program.modules m info
    → (slice_index_or left_dm m false ≡ true) ↔ IsDue info.period info.offset C.time)
    (answers : (m : ℕ) → AnswersAt a.program a.cert.jitter C.time C.scalars C.points m true) where
  -- what is due is left, and the models are trusted again
  pub regains : RegainsTrust (record { accepted = a; trusted = t; at = C })
      (record { accepted = a; trusted = true; at = record C { left = left; left_dm = left_dm } })
  regains =
      let D : Configuration = record C { left = left; left_dm = left_dm } in
      let sized : IsSized a.program (record C { left = left; left_dm = left_dm }) = record {
        left = sizes;
        left_dm = sizes_dm;
        modes = g.sizes.modes;
        scalars = g.sizes.scalars;
        locals = g.sizes.locals;
        points = g.sizes.points;
      } in
      record {
        was = off;
        is = refl;
        accepted = refl;
        leaves = record { left = nodes; left_dm = modules; sizes = sized; rest = refl };
        modes = g.safe off;
        held = λ m. held_at a.program a.cert.jitter D nodes m (answers m);
        tubes =
            held_keeps a.program a.cert.jitter D g.scalars g.locals sized nodes modules (g.safe off)
            (λ m. held_at a.program a.cert.jitter D nodes m (answers m));
      }

  pub regained_guards : IsGuarding a true (record C { left = left; left_dm = left_dm })
  regained_guards = record {
    rules = g.rules;
    certified = g.certified;
    time = g.time;
    scalars = g.scalars;
    locals = g.locals;
    sizes = regains.leaves.sizes;
    points = g.points;
    tubes = λ on. regains.tubes;
    safe = λ no. absurd (false≢true (sym no));
  }
