use Rattle.std.proofs.Common.{true, refl, subst}
use Rattle.sot_trace_lines.specs.Kept.{ShowsRead}
use Rattle.sot_trace_lines.specs.Readers.{fire_at}
use Rattle.sot_guard_lines.specs.Readers.{said_draft}
use Rattle.sot_guard_lines.proofs.ShownSaid.{taken_on, none_taken}
use Rattle.sot_guard_lines.proofs.read.read_draft.Goals as goal

pub returns-in-Some : goal.returns-in-Some
returns-in-Some c = λ list.
    let o = fire_at c.args.p.now true 0 c.args.text.now in
    taken_on said_draft list c.in-Some.line c.draft_of.result o (subst (λ l. ShowsRead list l o) c.in-Some.is (c.read_fire.ensures 0 true list refl))
    (λ s shows. c.draft_of.ensures list s shows)

pub returns-in-None : goal.returns-in-None
returns-in-None c = λ list.
    let o = fire_at c.args.p.now true 0 c.args.text.now in
    none_taken said_draft list o (subst (λ l. ShowsRead list l o) c.in-None.is (c.read_fire.ensures 0 true list refl))
