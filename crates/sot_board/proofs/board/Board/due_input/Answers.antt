use Rattle.std.proofs.Common.{◌≡◌, ◌↔◌, List, ◌∷◌, drop, subst}
use Rattle.std.specs.Prelude.{IsTrue}
use Rattle.sot_flight.specs.Plans.{StatedInput}
use Rattle.sot_board.specs.Calls.{InputDue}
use Rattle.sot_board.proofs.board.Board.due_input.Goals as goal

pub returns : goal.returns
returns c =
    let b = c.self.inside in
    subst (λ s. IsTrue c.is_due.result ↔ InputDue s.position) c.self.view_is
    (subst (λ t. IsTrue c.is_due.result ↔ ((x : StatedInput) × (rest : List StatedInput) × (drop b.next_input b.flight.now.inputs ≡ x ∷ rest) × (x.at ≡ t)))
    c.time.ensures.value c.is_due.ensures)
