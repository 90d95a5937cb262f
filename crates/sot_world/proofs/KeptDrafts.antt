-- The draft of a record, read slot by slot, and its slots as the bits of a number.
use Rattle.std.proofs.Common.{◌≡◌, ◌≢◌, ℕ, suc, ◌+◌, ◌-◌, ◌*◌, ◌/◌, ◌%◌, ◌<◌, ◌≤◌, ◌==◌, ℤ, pos, Bool, true, false, Option, None, Some, List, [], ◌∷◌, ◌++◌}
use Rattle.std.proofs.Common.{◌||◌, ◌^◌, if◌then◌else◌, length, drop, replicate, get_or, refl, sym, ap, ap₂, ◌∙◌, subst, arith}
use Rattle.std.specs.Prelude.{is_some, slice_get, slice_index_or, IfSome}
use Rattle.std.proofs.Math.ListN.{set}
use Rattle.std.proofs.Math.Nat.{pow-succ', pow-le-pow_right}
use Rattle.std.proofs.Math.Seq.{drop-cons, set-append_seam}
use Rattle.std.proofs.lemmas.List.{append_assoc, drop_all, length-append}
use Rattle.std.proofs.lemmas.Option.{same_Some}
use Rattle.sot_world.specs.HistoryRecords.{slots_filled, count_there, flags_in}

-- the slots before this one are read, and the others are blank; their numbers begin at this place, and their bits are left
pub record ReadSoFar (there : ℕ) (numbers : List ℤ) (from i left at : ℕ) (draft : List (Option ℤ)) : Type 0 where
  pub done : List (Option ℤ)
  pub many : length done ≡ i
  pub kept : draft ≡ done ++ replicate (8 - i) None
  pub rest : slots_filled (flags_in 8 there) (drop from numbers) ≡ done ++ slots_filled (flags_in (8 - i) left) (drop at numbers)
  pub inside : at + count_there (flags_in (8 - i) left) ≤ length numbers

pub read_start : (there : ℕ) (numbers : List ℤ) (from : ℕ) → from + count_there (flags_in 8 there) ≤ length numbers
    → ReadSoFar there numbers from 0 there from (replicate 8 None)
read_start there numbers from inside = record { done = []; many = refl; kept = refl; rest = refl; inside = inside }

module _ (there : ℕ) (numbers : List ℤ) (from i left at : ℕ) (draft : List (Option ℤ)) (below : i < 8) (sofar : ReadSoFar there numbers from i left at draft)
  where
    more_flags : 8 - i ≡ suc (8 - suc i)
    more_flags = omega (arith, below)

    flag_here : (b : Bool) → (left % 2 == 1) ≡ b → flags_in (8 - i) left ≡ b ∷ flags_in (8 - suc i) (left / 2)
    flag_here b is = ap (λ n. flags_in n left) more_flags ∙ ap (λ x. x ∷ flags_in (8 - suc i) (left / 2)) is

    blanks : replicate {A = Option ℤ} (8 - i) None ≡ None ∷ replicate (8 - suc i) None
    blanks = ap (λ n. replicate {A = Option ℤ} n None) more_flags

    pub number_inside : (left % 2 == 1) ≡ true → at < length numbers
    number_inside is = (let e = ap count_there (flag_here true is) in omega (arith, e, sofar.inside))

    next_there : (left % 2 == 1) ≡ true → ReadSoFar there numbers from (suc i) (left / 2) (suc at) (set draft i (Some (get_or numbers at (pos 0))))
    next_there is =
        let n = get_or numbers at (pos 0) in
        let here = flag_here true is in
        let e = ap count_there here in
        let number : drop at numbers ≡ n ∷ drop (suc at) numbers = drop-cons numbers at _ (number_inside is) in
        record {
          done = sofar.done ++ Some n ∷ [];
          many = length-append sofar.done (Some n ∷ []) ∙ omega (arith, sofar.many);
          kept =
              ap (λ d. set d i (Some n)) (sofar.kept ∙ ap (λ l. sofar.done ++ l) blanks)
              ∙ ap (λ k. set (sofar.done ++ None ∷ replicate (8 - suc i) None) k (Some n)) (sym sofar.many)
              ∙ set-append_seam sofar.done None (replicate (8 - suc i) None) (Some n)
              ∙ sym (append_assoc sofar.done (Some n ∷ []) (replicate (8 - suc i) None));
          rest =
              sofar.rest ∙ ap₂ (λ bs ns. sofar.done ++ slots_filled bs ns) here number
              ∙ sym (append_assoc sofar.done (Some n ∷ []) (slots_filled (flags_in (8 - suc i) (left / 2)) (drop (suc at) numbers)));
          inside = omega (arith, e, sofar.inside);
        }

    next_blank : (left % 2 == 1) ≡ false → ReadSoFar there numbers from (suc i) (left / 2) at draft
    next_blank is =
        let here = flag_here false is in
        let e = ap count_there here in
        record {
          done = sofar.done ++ None ∷ [];
          many = length-append sofar.done (None ∷ []) ∙ omega (arith, sofar.many);
          kept = sofar.kept ∙ ap (λ l. sofar.done ++ l) blanks ∙ sym (append_assoc sofar.done (None ∷ []) (replicate (8 - suc i) None));
          rest =
              sofar.rest ∙ ap (λ bs. sofar.done ++ slots_filled bs (drop at numbers)) here
              ∙ sym (append_assoc sofar.done (None ∷ []) (slots_filled (flags_in (8 - suc i) (left / 2)) (drop at numbers)));
          inside = omega (arith, e, sofar.inside);
        }

    one_more : (n : ℕ) → suc n ≡ n + 1
    one_more n = omega arith

    -- the same, as code counts
    pub read_there : (new : List (Option ℤ)) → left % 2 ≡ 1 → new ≡ set draft i (Some (get_or numbers at (pos 0)))
        → ReadSoFar there numbers from (i + 1) (left / 2) (at + 1) new
    read_there new is set_is =
        let odd = ap (λ m. m == 1) is in
        subst (λ n. ReadSoFar there numbers from n (left / 2) (at + 1) new) (one_more i)
        (subst (λ n. ReadSoFar there numbers from (suc i) (left / 2) n new) (one_more at)
        (subst (ReadSoFar there numbers from (suc i) (left / 2) (suc at)) (sym set_is) (next_there odd)))

    pub read_blank : left % 2 ≢ 1 → ReadSoFar there numbers from (i + 1) (left / 2) at draft
    read_blank is =
        let even : left % 2 ≡ 0 = omega (arith, is) in
        subst (λ n. ReadSoFar there numbers from n (left / 2) at draft) (one_more i) (next_blank (ap (λ m. m == 1) even))

pub read_all : (there : ℕ) (numbers : List ℤ) (from left at : ℕ) (draft : List (Option ℤ)) → ReadSoFar there numbers from 8 left at draft
    → draft ≡ slots_filled (flags_in 8 there) (drop from numbers)
read_all there numbers from left at draft sofar = sofar.kept ∙ sym sofar.rest

-- the first slot of eight whose others are blank
others_blank : (d : List (Option ℤ)) → length d ≡ 8
    → ((((((is_some (slice_index_or d 1 None) || is_some (slice_index_or d 2 None)) || is_some (slice_index_or d 3 None)) || is_some (slice_index_or d 4 None))
    || is_some (slice_index_or d 5 None)) || is_some (slice_index_or d 6 None)) || is_some (slice_index_or d 7 None)) ≡ false
    → (o : Option ℤ) → slice_get d 0 ≡ Some o → d ≡ o ∷ replicate 7 None
others_blank (x ∷ None ∷ None ∷ None ∷ None ∷ None ∷ None ∷ None ∷ []) eight h o at = ap (λ y. y ∷ replicate 7 None) (same_Some x o at)
others_blank (x ∷ None ∷ None ∷ None ∷ None ∷ None ∷ None ∷ Some n ∷ d) eight h o at = cc
others_blank (x ∷ None ∷ None ∷ None ∷ None ∷ None ∷ Some n ∷ d) eight h o at = cc
others_blank (x ∷ None ∷ None ∷ None ∷ None ∷ Some n ∷ d) eight h o at = cc
others_blank (x ∷ None ∷ None ∷ None ∷ Some n ∷ d) eight h o at = cc
others_blank (x ∷ None ∷ None ∷ Some n ∷ d) eight h o at = cc
others_blank (x ∷ None ∷ Some n ∷ d) eight h o at = cc
others_blank (x ∷ Some n ∷ d) eight h o at = cc
others_blank [] eight h o at = absurd (omega (arith, eight))
others_blank (x ∷ []) eight h o at = absurd (omega (arith, eight))
others_blank (x ∷ None ∷ []) eight h o at = absurd (omega (arith, eight))
others_blank (x ∷ None ∷ None ∷ []) eight h o at = absurd (omega (arith, eight))
others_blank (x ∷ None ∷ None ∷ None ∷ []) eight h o at = absurd (omega (arith, eight))
others_blank (x ∷ None ∷ None ∷ None ∷ None ∷ []) eight h o at = absurd (omega (arith, eight))
others_blank (x ∷ None ∷ None ∷ None ∷ None ∷ None ∷ []) eight h o at = absurd (omega (arith, eight))
others_blank (x ∷ None ∷ None ∷ None ∷ None ∷ None ∷ None ∷ []) eight h o at = absurd (omega (arith, eight))
others_blank (x ∷ None ∷ None ∷ None ∷ None ∷ None ∷ None ∷ None ∷ y ∷ d) eight h o at = absurd (omega (arith, eight))

-- the number in it, as code looks for it
pub alone : (d : List (Option ℤ)) → length d ≡ 8 → (b₁ b₂ b₃ b₄ b₅ b₆ b₇ : Bool)
    → b₁ ≡ is_some (slice_index_or d 1 None) → b₂ ≡ is_some (slice_index_or d 2 None) → b₃ ≡ is_some (slice_index_or d 3 None)
    → b₄ ≡ is_some (slice_index_or d 4 None)
    → b₅ ≡ is_some (slice_index_or d 5 None) → b₆ ≡ is_some (slice_index_or d 6 None) → b₇ ≡ is_some (slice_index_or d 7 None)
    → ((((((b₁ || b₂) || b₃) || b₄) || b₅) || b₆) || b₇) ≡ false → (o : Option ℤ) → slice_get d 0 ≡ Some o → IfSome o (λ n. d ≡ Some n ∷ replicate 7 None)
alone d eight b₁ b₂ b₃ b₄ b₅ b₆ b₇ e₁ e₂ e₃ e₄ e₅ e₆ e₇ none None at = tt
alone d eight b₁ b₂ b₃ b₄ b₅ b₆ b₇ e₁ e₂ e₃ e₄ e₅ e₆ e₇ none (Some n) at =
    let or : Bool → Bool → Bool = λ a b. a || b in
    let same = ap₂ or (ap₂ or (ap₂ or (ap₂ or (ap₂ or (ap₂ or e₁ e₂) e₃) e₄) e₅) e₆) e₇ in
    others_blank d eight (sym same ∙ none) (Some n) at

flags_behind : (b : Bool) (k bits : ℕ) → flags_in (suc k) (if b then 2 * bits + 1 else 2 * bits) ≡ b ∷ flags_in k bits
flags_behind true k bits =
    let last : (2 * bits + 1) % 2 ≡ 1 = omega arith in
    let others : (2 * bits + 1) / 2 ≡ bits = omega arith in
    ap₂ (λ r n. (r == 1) ∷ flags_in k n) last others
flags_behind false k bits =
    let last : (2 * bits) % 2 ≡ 0 = omega arith in
    let others : (2 * bits) / 2 ≡ bits = omega arith in
    ap₂ (λ r n. (r == 1) ∷ flags_in k n) last others

behind_small : (b : Bool) (i bits : ℕ) → bits < 2 ^ i → (if b then 2 * bits + 1 else 2 * bits) < 2 ^ suc i
behind_small true i bits small = (let e = pow-succ' 2 i in omega (arith, e, small))
behind_small false i bits small = (let e = pow-succ' 2 i in omega (arith, e, small))

-- the bits of the last so many flags
pub record BitsSoFar (there : List Bool) (i bits : ℕ) : Type 0 where
  pub flags : flags_in i bits ≡ drop (8 - i) there
  pub small : bits < 2 ^ i

pub bits_start : (there : List Bool) → length there ≡ 8 → BitsSoFar there 0 0
bits_start there eight = record { flags = sym (drop_all 8 there (omega (arith, eight))); small = omega arith }

module _ (there : List Bool) (i bits : ℕ) (eight : length there ≡ 8) (below : i < 8) (sofar : BitsSoFar there i bits) where
  pub bits_below : bits < 128
  bits_below = (let last : i ≤ 7 = omega (arith, below) in let most : 2 ^ i ≤ 2 ^ 7 = pow-le-pow_right (omega arith) last in omega (arith, most, sofar.small))

  flags_here : drop (8 - suc i) there ≡ slice_index_or there (7 - i) false ∷ drop (8 - i) there
  flags_here =
      let here : 8 - suc i ≡ 7 - i = omega arith in
      let next : suc (7 - i) ≡ 8 - i = omega (arith, below) in
      ap (λ k. drop k there) here ∙ drop-cons there (7 - i) false (omega (arith, eight, below))
      ∙ ap (λ k. slice_index_or there (7 - i) false ∷ drop k there) next

  pub bits_next : (new : ℕ) → new ≡ (if slice_index_or there (7 - i) false then 2 * bits + 1 else 2 * bits) → BitsSoFar there (i + 1) new
  bits_next new new_is =
      let b = slice_index_or there (7 - i) false in
      let one : suc i ≡ i + 1 = omega arith in
      subst (λ k. BitsSoFar there k new) one
      (record {
        flags = ap (flags_in (suc i)) new_is ∙ flags_behind b i bits ∙ ap (λ x. b ∷ x) sofar.flags ∙ sym flags_here;
        small = subst (λ n. n < 2 ^ suc i) (sym new_is) (behind_small b i bits sofar.small);
      })

pub bits_all : (there : List Bool) (i bits : ℕ) → i ≡ 8 → BitsSoFar there i bits → flags_in 8 bits ≡ there
bits_all there i bits all sofar = subst (λ k. flags_in k bits ≡ drop (8 - k) there) all sofar.flags
