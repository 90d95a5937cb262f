use Rattle.std.proofs.Common.{◌≡◌, sym, subst}
use Rattle.sot_lang.specs.Ranges.{input_ranges}
use Rattle.sot_box.specs.Boxes.{IsWithin}
use Rattle.sot_tube.proofs.Tubes.{tube_inside}
use Rattle.sot_tube.proofs.laws.tubes_hold_the_reach.Goals as goal

pub returns-clause-any : goal.returns-clause-any
returns-clause-any c p plant region box k s inside within =
    tube_inside p plant (IsWithin (input_ranges p plant)) (input_ranges p plant) region box k s (λ d w. w) within inside

pub returns-clause-held : goal.returns-clause-held
returns-clause-held c p plant commands region box k s held inside within in_commands =
    tube_inside p plant (λ d. d ≡ held) commands region box k s (λ d is. subst (IsWithin commands) (sym is) in_commands) within inside
