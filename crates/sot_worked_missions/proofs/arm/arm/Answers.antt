-- Of `arm`: its promises.
use Rattle.std.proofs.Common.{◌∙◌, ap}
use Rattle.std.specs.Prelude.{ℕ}
use Rattle.std.specs.Global.{Vec}
use Rattle.sot_lang.specs.declared.term.Term.{Term}
use Rattle.sot_lang.specs.declared.tables.StateInfo.{StateInfo}
use Rattle.sot_lang.specs.declared.tables.NoiseInfo.{NoiseInfo}
use Rattle.sot_worked_missions.proofs.arm.arm.Goals as goal

pub returns : goal.returns
returns c = record {
  name = c.in_ok-arm.ensures.name;
  states = ap (λ (v : Vec StateInfo). v.items) c.in_ok-arm.ensures.states ∙ c.in_ok-states.ensures;
  inputs = c.in_ok-arm.ensures.inputs;
  sees = ap (λ (v : Vec ℕ). v.items) c.in_ok-arm.ensures.sees ∙ c.new.ensures.items;
  noise = ap (λ (v : Vec NoiseInfo). v.items) c.in_ok-arm.ensures.noise ∙ c.in_ok-noise.ensures;
  «place» = c.in_ok-next.ensures.0;
  speed = c.in_ok-next.ensures.1;
  is_place = c.in_ok-next.ensures.2;
  is_speed = c.in_ok-next.ensures.3;
  next = ap (λ (v : Vec Term). v.items) c.in_ok-arm.ensures.next ∙ c.in_ok-next.ensures.4;
}
