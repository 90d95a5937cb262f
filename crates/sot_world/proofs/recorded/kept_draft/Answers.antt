use Rattle.std.proofs.Common.{rules, ◌∙◌, ◌≡◌, ◌+◌, ap, arith, pos, [], ◌∷◌, ◌++◌, length}
use Rattle.std.proofs.lemmas.List.{length-append}
use Rattle.sot_world.specs.HistoryRecords.{Firing, logged, entry_in, entry_end, end_of, flags_in, count_there}
use Rattle.sot_world.proofs.Words.{far_firing}
use Rattle.sot_world.proofs.Records.{firing_written}
use Rattle.sot_world.proofs.recorded.kept_draft.Goals as goal

pub returns-clause-same : goal.returns-clause-same
returns-clause-same c =
    let ns = c.append_draft-there.new.numbers.items in
    let old = c.args.numbers.now.items in
    let there = c.append_draft-there.result in
    let kept = c.append_draft-there.ensures.kept in
    let place : c.len-place.result ≡ length old = search rules in
    let all : ns ≡ (old ++ pos c.args.time ∷ pos c.args.node ∷ []) ++ kept.0 = kept.1 ∙ ap (λ l. l ++ kept.0) c.append_front.ensures.items in
    ap (entry_in ns) c.far_word.ensures ∙ ap (logged ns) (far_firing there c.len-place.result c.args.enabled (omega (arith, c.append_draft-there.type_inv)))
    ∙ ap (λ at. logged ns (Firing at there c.args.enabled)) place ∙ ap (λ l. logged l (Firing (length old) there c.args.enabled)) all
    ∙ firing_written old kept.0 c.args.time c.args.node there c.args.enabled c.args.draft.now (omega (arith, c.ranges.time.fits))
    (omega (arith, c.ranges.node.fits)) kept.3

pub returns-clause-inside : goal.returns-clause-inside
returns-clause-inside c =
    let ns = c.append_draft-there.new.numbers.items in
    let old = c.args.numbers.now.items in
    let there = c.append_draft-there.result in
    let kept = c.append_draft-there.ensures.kept in
    let place : c.len-place.result ≡ length old = search rules in
    let size = ap length kept.1 ∙ length-append c.append_front.new.to.items kept.0 in
    let front = ap length c.append_front.ensures.items ∙ length-append old (pos c.args.time ∷ pos c.args.node ∷ []) in
    let ends : entry_end ns c.far_word.result ≡ c.len-place.result + 2 + count_there (flags_in 8 there) =
    ap (entry_end ns) c.far_word.ensures ∙ ap (end_of ns) (far_firing there c.len-place.result c.args.enabled (omega (arith, c.append_draft-there.type_inv))) in
    omega (arith, ends, size, front, place, kept.2)
