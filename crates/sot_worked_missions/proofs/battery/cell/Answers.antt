-- Of `cell`: its promises.
use Rattle.std.proofs.Common.{◌∙◌, ap}
use Rattle.std.specs.Prelude.{ℕ}
use Rattle.std.specs.Global.{Vec}
use Rattle.sot_lang.specs.declared.term.Term.{Term}
use Rattle.sot_lang.specs.declared.tables.StateInfo.{StateInfo}
use Rattle.sot_lang.specs.declared.tables.NoiseInfo.{NoiseInfo}
use Rattle.sot_worked_missions.proofs.battery.cell.Goals as goal

pub returns : goal.returns
returns c = record {
  name = c.in_ok-cell.ensures.name;
  states = ap (λ (v : Vec StateInfo). v.items) c.in_ok-cell.ensures.states ∙ c.in_ok-states.ensures;
  inputs = c.in_ok-cell.ensures.inputs;
  sees = ap (λ (v : Vec ℕ). v.items) c.in_ok-cell.ensures.sees ∙ c.in_ok-sees.ensures.items;
  noise = ap (λ (v : Vec NoiseInfo). v.items) c.in_ok-cell.ensures.noise ∙ c.in_ok-noise.ensures;
  height = c.in_ok-next.ensures.0;
  battery = c.in_ok-next.ensures.1;
  is_height = c.in_ok-next.ensures.2;
  is_battery = c.in_ok-next.ensures.3;
  next = ap (λ (v : Vec Term). v.items) c.in_ok-cell.ensures.next ∙ c.in_ok-next.ensures.4;
}
