-- The words of a generator, one after another.
use Rattle.std.proofs.Common.{◌≡◌, ℕ, zero, suc, ◌+◌, refl, ap, ◌∙◌, arith}
use Rattle.rand_pcg.specs.Lcg.{Lcg, state_after, next_state, next}
use Rattle.rand_pcg.specs.Pcg.{multiplier_64}
use Rattle.sot_random_words.specs.Words.{words_from}

-- a step after some steps is the last of one step more
pub state_more : (w m increment n state : ℕ) → next_state w m increment (state_after w m increment n state) ≡ state_after w m increment (suc n) state
unfolding state_after
state_more w m increment zero state = refl
state_more w m increment (suc n) state = state_more w m increment n (next_state w m increment state)

-- the generator after one word more
pub words_more : (seed stream i : ℕ) → next 64 multiplier_64 (words_from seed stream i) ≡ words_from seed stream (suc i)
unfolding state_after
words_more seed stream i =
    let g = words_from seed stream 0 in
    let e = state_more 64 multiplier_64 g.increment i g.state in
    let at : ℕ → Lcg = λ s. record { state = s; increment = g.increment } in
    ap at e

-- .. as a loop counts them that begins after some words
pub words_on : (seed stream given i : ℕ) (words more : Lcg) → words ≡ words_from seed stream (given + i) → more ≡ next 64 multiplier_64 words
    → more ≡ words_from seed stream (given + (i + 1))
words_on seed stream given i words more is step =
    let e : suc (given + i) ≡ given + (i + 1) = omega arith in
    step ∙ ap (next 64 multiplier_64) is ∙ words_more seed stream (given + i) ∙ ap (words_from seed stream) e
