use Rattle.sot_monitor.specs.Moments.{number_in}
use Rattle.sot_monitor.proofs.Adding.{by_answer}
use Rattle.sot_monitor.proofs.over.holds_now.Goals as goal

pub returns-clause-verdict : goal.returns-clause-verdict
returns-clause-verdict c = λ x Ms rest stands always. by_answer c.step.result Ms rest (number_in c.args.scene.now) x (c.step.ensures.holds x Ms stands) always
