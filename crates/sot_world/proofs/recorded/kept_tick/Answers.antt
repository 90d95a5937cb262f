use Rattle.std.proofs.Common.{rules, ◌∙◌, ◌≡◌, ap, arith, pos, [], ◌∷◌, ◌++◌, length}
use Rattle.sot_world.specs.HistoryRecords.{Moves, logged, entry_in}
use Rattle.sot_world.proofs.Words.{far_moves}
use Rattle.sot_world.proofs.Records.{moves_written}
use Rattle.sot_world.proofs.recorded.kept_tick.Goals as goal

pub returns-clause-same : goal.returns-clause-same
returns-clause-same c =
    let ns = c.append-2.new.to.items in
    let old = c.args.numbers.now.items in
    let noise = c.args.noise.now in
    let states = c.args.states.now in
    let place : c.len-place.result ≡ length old = search rules in
    let all : ns ≡ ((old ++ pos c.args.time ∷ []) ++ pos (length noise) ∷ noise) ++ pos (length states) ∷ states =
    c.append-2.ensures.items ∙ ap (λ l. l ++ pos (length states) ∷ states)
    (c.append.ensures.items ∙ ap (λ l. l ++ pos (length noise) ∷ noise) c.append_one.ensures.items) in
    ap (entry_in ns) c.far_word.ensures ∙ ap (logged ns) (far_moves c.len-place.result) ∙ ap (λ at. logged ns (Moves at)) place
    ∙ ap (λ l. logged l (Moves (length old))) all
    ∙ moves_written old noise states c.args.time (omega (arith, c.ranges.time.fits))
