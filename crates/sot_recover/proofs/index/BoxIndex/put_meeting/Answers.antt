use Rattle.std.proofs.Common.{ℕ, ◌∙◌, subst}
use Rattle.std.specs.Prelude.{◌↔◌}
use Rattle.sot_lists.specs.Places.{Has}
use Rattle.sot_recover.specs.Meeting.{MeetsAt}
use Rattle.sot_recover.proofs.index.BoxIndex.put_meeting.Goals as goal

pub returns-clause-places : goal.returns-clause-places
returns-clause-places c =
    subst (λ boxes. (i : ℕ) → Has c.put_all.new.found.items i ↔ MeetsAt boxes c.args.b.now i) (c.deref.ensures.value ∙ c.self.view_is)
    c.in_ok-put_all.ensures.places
