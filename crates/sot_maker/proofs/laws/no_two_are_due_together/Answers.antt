use Rattle.std.proofs.Common.{◌-◌, ◌/◌, ◌%◌, ◌<◌, arith}
use Rattle.sot_maker.proofs.Apart.{fast_apart, slow_apart}
use Rattle.sot_maker.proofs.laws.no_two_are_due_together.Goals as goal

pub returns : goal.returns
returns c = λ w t.
    let slow : w % 2 < 2 = omega arith in
    let late : (w / 2) % 2 < 2 = omega arith in
    let other : 1 - (w / 2) % 2 < 2 = omega arith in (
      λ one two. fast_apart t (w % 2) ((w / 2) % 2) slow late one two,
      λ one two. slow_apart t (w % 2) ((w / 2) % 2) slow late one two,
      λ one two.
          slow_apart t (w % 2) (1 - (w / 2) % 2) slow other one two,
    )
