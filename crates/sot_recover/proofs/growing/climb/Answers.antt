use Rattle.std.proofs.Common.{◌≡◌, ℕ, suc, ◌+◌, ◌-◌, ◌<◌, ◌≤◌, ◌⊎◌, ◌↔◌, inl, inr, ⊎_elim, refl, sym, ◌∙◌, subst, arith, length, false}
use Rattle.std.specs.Prelude.{MatchBool, if◌then◌else◌, slice_index_or}
use Rattle.std.proofs.lemmas.Bool.{false≢true}
use Rattle.sot_lists.specs.Places.{Has}
use Rattle.sot_lists.proofs.Places.{has_cases}
use Rattle.sot_recover.specs.Sets.{IsSet}
use Rattle.sot_recover.specs.Thinned.{count}
use Rattle.sot_recover.specs.Entered.{MayEnter, RanksAfter}
use Rattle.sot_recover.proofs.Sets.{count_room, flag_cases}
use Rattle.sot_recover.proofs.Levels.{first_level, next_level, are_ranks, going_on, entered_low, smaller}
use Rattle.sot_recover.proofs.growing.climb.Goals as goal

pub loop-more-init : goal.loop-more-init
loop-more-init g c =
    (let first = first_level (g.L.Landing.lands c.args.places.now) c.args.set.now c.args.near.items c.args.ranks.now c.requires.size c.requires.first
    c.requires.near in record {
      sizes = (refl, c.requires.size, c.requires.marked_size);
      marks = c.requires.marks;
      level = first;
      rank_low = omega arith;
      low = λ i lt. ⊎_elim (λ a. inl (omega (arith, a))) (λ b. inr b) (first.none_between i lt);
      going = omega arith;
    })

pub overflow_add-rank : goal.overflow_add-rank
overflow_add-rank g c =
    let l = c.loop-more in
    let low : l.rank ≤ count l.set = subst (λ b. MatchBool b (l.rank ≤ count l.set)
    ((i : ℕ) → i < length l.ranks → g.L.Landing.lands c.args.places.now l.set i → IsSet l.set i)) c.loop-more-test.true l.invariant.going in
    let room = count_room l.set in
    let few = c.requires.few in
    let size = l.invariant.sizes.0 in
    omega (arith, low, room, few, size)

pub enter-more-requires-clause-there : goal.enter-more-requires-clause-there
enter-more-requires-clause-there g c i h = ((c.in_ok-put_entering.ensures i).0 (subst (λ xs. Has xs i) c.deref-in-loop-more.ensures.value h)).1.0

pub enter-more-requires-clause-new : goal.enter-more-requires-clause-new
enter-more-requires-clause-new g c i h = ((c.in_ok-put_entering.ensures i).0 (subst (λ xs. Has xs i) c.deref-in-loop-more.ensures.value h)).1.1

pub loop-more-smaller : goal.loop-more-smaller
loop-more-smaller g c =
    let l = c.loop-more in
    let e = c.enter-more.ensures in
    let same : length c.enter-more.new.set ≡ length l.set = e.sizes.0 in
    let room : count c.enter-more.new.set ≤ length l.set = (let r = count_room c.enter-more.new.set in omega (arith, r, same)) in
    let s = smaller c.enter-more.result (length l.set) (count l.set) (count c.enter-more.new.set) ((i : ℕ) → Has c.put_entering.new.fresh.items i → ⊥) room
    (subst (λ xs. MatchBool c.enter-more.result (count l.set < count c.enter-more.new.set) ((i : ℕ) → Has xs i → ⊥)) c.deref-in-loop-more.ensures.value
    e.some) in
    subst (λ b. suc (if c.enter-more.result then suc (length c.enter-more.new.set - count c.enter-more.new.set) else 0) ≤
    (if b then suc (length l.set - count l.set) else 0)) (sym c.loop-more-test.true)
    (subst (λ n. suc (if c.enter-more.result then suc (n - count c.enter-more.new.set) else 0) ≤ suc (length l.set - count l.set)) (sym same) s)

pub loop-more-preserved : goal.loop-more-preserved
loop-more-preserved g c =
    let l = c.loop-more in
    let inv = l.invariant in
    let lands = g.L.Landing.lands c.args.places.now in
    let e = c.enter-more.ensures in
    let fresh = c.put_entering.new.fresh.items in
    let are = c.deref-in-loop-more.ensures.value in
    let low : l.rank ≤ count l.set = subst (λ b. MatchBool b (l.rank ≤ count l.set) ((i : ℕ) → i < length l.ranks → lands l.set i → IsSet l.set i))
    c.loop-more-test.true inv.going in
    let count_fits = count_room l.set in
    let few = c.requires.few in
    let size = inv.sizes.0 in
    let room : l.rank + 1 < 4294967295 = omega (arith, low, count_fits, few, size) in
    let fresh_are : (i : ℕ) → Has fresh i ↔ (Has l.near.items i × MayEnter lands l.set i) = λ i. (let w = c.in_ok-put_entering.ensures i in
    (λ h. (let v = w.0 h in (subst (λ xs. Has xs i) c.deref.ensures.value v.0, v.1)), λ v. w.1 (subst (λ xs. Has xs i) (sym c.deref.ensures.value) v.0, v.1)))
    in
    let set_are : (i : ℕ) → IsSet c.enter-more.new.set i ↔ (IsSet l.set i ⊎ Has fresh i) =
    subst (λ xs. (i : ℕ) → IsSet c.enter-more.new.set i ↔ (IsSet l.set i ⊎ Has xs i)) are e.set in
    let some : MatchBool c.enter-more.result (count l.set < count c.enter-more.new.set) ((i : ℕ) → Has fresh i → ⊥) =
    subst (λ xs. MatchBool c.enter-more.result (count l.set < count c.enter-more.new.set) ((i : ℕ) → Has xs i → ⊥)) are e.some in
    let hang = c.in_ok-put_all_hanging.ensures in
    let marked_same : length l.marked ≡ length l.set = inv.sizes.2 ∙ sym inv.sizes.0 in
    record {
      sizes = (e.sizes.0 ∙ inv.sizes.0, e.sizes.1 ∙ inv.sizes.0, hang.size ∙ inv.sizes.2);
      marks = hang.none;
      level =
          next_level lands (g.L.Landing.hangs c.args.places.now) c.requires.more c.requires.hanging c.args.set.now l.set c.enter-more.new.set l.near.items fresh
          c.put_all_hanging.new.near.items l.ranks c.enter-more.new.ranks l.rank inv.level room e.sizes.0 e.sizes.1 fresh_are set_are
          (subst (λ xs. (i : ℕ) → RanksAfter xs l.ranks c.enter-more.new.ranks (l.rank + 1) i) are e.ranks)
          (λ j i f h lt. hang.near j i (subst (λ xs. Has xs j) (sym c.deref-in-loop-more-2.ensures.value) f) h (omega (arith, lt, marked_same)));
      rank_low = (let same = e.sizes.0 in omega (arith, low, count_fits, same));
      low = λ i lt.
          let in_ranks : i < length l.ranks = (let a = inv.level.set_size in let b = e.sizes.1 in omega (arith, lt, a, b)) in
          let after = (subst (λ xs. (q : ℕ) → RanksAfter xs l.ranks c.enter-more.new.ranks (l.rank + 1) q) are e.ranks) i in
          ⊎_elim
          (λ (f : Has fresh i). let r = after.0 f in let grown =
          entered_low c.enter-more.result l.rank (count l.set) (count c.enter-more.new.set) fresh i low some f in inl (omega (arith, r, grown)))
          (λ (none : Has fresh i → ⊥). let r = after.1 none in let grown = e.grown in
          ⊎_elim (λ a. inl (omega (arith, r, a, grown))) (λ b. inr (r ∙ b)) (inv.low i in_ranks))
          (has_cases fresh i);
      going =
          going_on c.enter-more.result l.rank (count l.set) (count c.enter-more.new.set) ((i : ℕ) → Has fresh i → ⊥)
          ((i : ℕ) → i < length c.enter-more.new.ranks → lands c.enter-more.new.set i → IsSet c.enter-more.new.set i) low some
          (λ none i lt land.
          let in_set : i < length l.set = (let a = e.sizes.1 in omega (arith, lt, a)) in
          let in_ranks : i < length l.ranks = (let a = inv.level.set_size in omega (arith, in_set, a)) in
          let back : (q : ℕ) → IsSet c.enter-more.new.set q → IsSet l.set q = λ q s. ⊎_elim (λ x. x) (λ f. absurd (none q f)) ((set_are q).0 s) in
          let land' = c.requires.more c.enter-more.new.set l.set i back land in
          ⊎_elim (λ s. (set_are i).1 (inl s)) (λ n. ⊎_elim (λ s. (set_are i).1 (inl s))
          (λ out. absurd (none i ((fresh_are i).1 (n, (in_set, (λ s. false≢true (sym out ∙ s)), land'))))) (flag_cases (slice_index_or l.set i false)))
          (inv.level.all_near i in_ranks land'));
    }

pub returns-clause-ranks : goal.returns-clause-ranks
returns-clause-ranks g c =
    let l = c.loop-more in
    let lands = g.L.Landing.lands c.args.places.now in
    let whole : (i : ℕ) → i < length l.ranks → lands l.set i
    → IsSet l.set i = subst (λ b. MatchBool b (l.rank ≤ count l.set) ((i : ℕ) → i < length l.ranks → lands l.set i → IsSet l.set i)) c.loop-more-test.false
    l.invariant.going in
    are_ranks lands (g.L.Landing.hangs c.args.places.now) c.requires.more c.requires.hanging c.args.set.now l.set l.near.items l.ranks l.rank (count l.set)
    l.invariant.level whole (let a = l.invariant.rank_low in let b = l.invariant.sizes.0 in let f = c.requires.few in omega (arith, a, b, f))
    (let a = count_room l.set in let b = l.invariant.level.set_size in omega (arith, a, b))
    (let b = l.invariant.level.set_size in let d = l.invariant.sizes.0 in let f = c.requires.few in omega (arith, b, d, f)) l.invariant.low
