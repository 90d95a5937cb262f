use Rattle.std.proofs.Common.{◌≡◌, ◌∙◌, ℕ, List, [], length, rules, tests, sym, ap, subst}
use Rattle.std.proofs.lemmas.List.{append-nil}
use Rattle.sot_turn.specs.Prefixes.{IsPrefix}
use Rattle.sot_turn.specs.Passes.{pass_seen}
use Rattle.sot_world.specs.HistoryEntry.{Logged}
use Rattle.sot_board.specs.Versions.{drafts_of}
use Rattle.sot_fly_worker.proofs.Firing.{in_step}
use Rattle.sot_fly_worker.proofs.take.take_in_step.Goals as goal

pub give-pass-requires-clause-goes_on : goal.give-pass-requires-clause-goes_on
give-pass-requires-clause-goes_on g c = ([], ap (λ b. b.entries) c.lend.ensures.value ∙ sym c.take-held.ensures.held_seen ∙ sym (append-nil _))

pub returns-clause-in_step : goal.returns-clause-in_step
returns-clause-in_step g c =
    let n : ℕ = c.args.node in
    let found : List Logged = c.lend.result.now.entries in
    let known : List Logged = pass_seen c.args.pass in
    let on : IsPrefix known found = subst (λ b. IsPrefix known b.entries) (sym c.lend.ensures.value) c.take-held.ensures.goes_on in
    let fired : c.fired-fired.result ≡ length (drafts_of n found) = c.fired-fired.ensures in
    let same : c.fired-fired.result ≡ c.len.result = search (rules, tests) in
    let long : c.len.result ≡ length (drafts_of n known) = search (rules, ap length c.requires.drafts) in
    in_step n known found on (sym fired ∙ same ∙ long) ∙ sym c.requires.drafts
