use Rattle.std.proofs.Common.{◌≡◌, ℕ, ◌<◌, ⊎_elim, ◌∙◌, subst, sym, arith, length, false}
use Rattle.std.specs.Prelude.{slice_set, slice_index_or, MatchBool}
use Rattle.std.proofs.lemmas.List.{length-set, get_or-set_same, get_or-set_other}
use Rattle.std.proofs.lemmas.Bool.{cases_eq}
use Rattle.sot_recover.proofs.growing.put_first_ranks.Goals as goal

pub loop-i-init : goal.loop-i-init
loop-i-init c = (c.requires.size, λ k lt. absurd (omega (arith, lt)))

pub loop-i-preserved : goal.loop-i-preserved
loop-i-preserved c =
    let l = c.loop-i in
    let x = c.first_rank.result in
    let room : l.i < length l.ranks = (let a = l.invariant.0 in let b = c.loop-i-test.true in omega (arith, a, b)) in
    let Says : ℕ → ℕ → Type 0 = λ n r. MatchBool (slice_index_or c.args.set.now n false) (r ≡ 0) (r ≡ 4294967295) in (
      length-set l.ranks l.i x ∙ l.invariant.0,
      λ k lt. ⊎_elim
          (λ (here : k ≡ l.i). subst (λ n. Says n (slice_index_or (slice_set l.ranks l.i x) n 0)) (sym here)
          (subst (Says l.i) (sym (get_or-set_same l.ranks l.i x 0 room)) c.first_rank.ensures))
          (λ (ne : k ≡ l.i → ⊥). subst (Says k) (sym (get_or-set_other l.ranks l.i k x 0 ne)) (l.invariant.1 k (omega (arith, lt, ne))))
          (cases_eq k l.i),
    )

pub returns-clause-ranks : goal.returns-clause-ranks
returns-clause-ranks c = λ k lt. (let b = c.loop-i-test.false in c.loop-i.invariant.1 k (omega (arith, lt, b)))
