use Rattle.std.proofs.Common.{ℕ, List, refl, sym, subst, arith}
use Rattle.std.specs.String.{string_bytes}
use Rattle.sot_lists.proofs.Places.{read_at}
use Rattle.sot_bridge.specs.Words.{Asks}
use Rattle.sot_bridge.proofs.DelayWords.{three, asks_these}
use Rattle.sot_bridge.proofs.top.asked.Goals as goal

pub bounds-words-0 : goal.bounds-words-0
bounds-words-0 c =
    let asks = c.in_ok-delay.ensures.ok in
    let count = three c.args.words.now asks.0 asks.1 c.in_ok-delay.delay asks.2 in
    omega (arith, count)

pub bounds-words-1 : goal.bounds-words-1
bounds-words-1 c =
    let asks = c.in_ok-delay.ensures.ok in
    let count = three c.args.words.now asks.0 asks.1 c.in_ok-delay.delay asks.2 in
    omega (arith, count)

pub returns-clause-ok : goal.returns-clause-ok
returns-clause-ok c =
    let words = c.args.words.now in
    let delay = c.in_ok-delay.delay in
    let asks = c.in_ok-delay.ensures.ok in
    let count = three words asks.0 asks.1 delay asks.2 in
    let first = c.index-words-0.result in
    let second = c.index-words-1.result in
    let at_0 = read_at words words 0 first refl (omega (arith, count)) c.index-words-0.is in
    let at_1 = read_at words words 1 second refl (omega (arith, count)) c.index-words-1.is in
    let these = asks_these words asks.0 asks.1 delay first second asks.2 at_0 at_1 in
    subst (λ (x : List ℕ). Asks words x c.as_str-2.result.now delay) (sym c.as_str.ensures.value)
    (subst (λ (y : List ℕ). Asks words (string_bytes first) y delay) (sym c.as_str-2.ensures.value) these)
