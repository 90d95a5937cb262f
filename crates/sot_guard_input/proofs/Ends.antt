-- Line ends in bytes that come piece by piece.
use Rattle.std.proofs.Common.{◌≡◌, ℕ, suc, zero, ◌+◌, ◌<◌, ◌≤◌, ◌==◌, ◌||◌, true, false, List, [], ◌∷◌, ◌++◌}
use Rattle.std.proofs.Common.{inl, inr, length, take, drop, ◌-◌, refl, sym, ap, ◌∙◌, arith}
use Rattle.std.proofs.Math.Seq.{drop-append_seam, take-append-add}
use Rattle.std.proofs.lemmas.List.{take_rest, length-take-le, take-append-le}
use Rattle.std.proofs.lemmas.Bool.{cases_Bool}
use Rattle.std.proofs.lemmas.List.Folds.{list_any-append}
use Rattle.memchr.specs.Find.{Nowhere, Passes, is_byte}
use Rattle.sot_text.specs.LineEnds.{line_len}
use Rattle.sot_guard_input.specs.Waiting.{has_end}

-- a byte that is one
pub end_at : (k : ℕ) (bs : List ℕ) → k < length bs → Passes (is_byte 10) bs k → has_end bs ≡ true
end_at k [] inside here = absurd (omega arith)
end_at zero (b ∷ bs) inside here = ap (λ x. x || has_end bs) here
end_at (suc k) (b ∷ bs) inside here =
    elim (cases_Bool (b == 10)) [
      | inl end ↦ ap (λ x. x || has_end bs) end
      | inr more ↦ ap (λ x. x || has_end bs) more ∙ end_at k bs (omega arith) here
    ]

-- .. and none that is
pub no_end : (bs : List ℕ) → Nowhere (Passes (is_byte 10) bs) 0 (length bs) → has_end bs ≡ false
no_end [] none = refl
no_end (b ∷ bs) none =
    elim (cases_Bool (b == 10)) [
      | inl end ↦ absurd (none 0 (omega arith) (omega arith) end)
      | inr more ↦ ap (λ x. x || has_end bs) more ∙ no_end bs (λ j low high passes. none (suc j) (omega arith) (omega arith) passes)
    ]

-- bytes behind bytes without a line end
pub later_end : (a b : List ℕ) → has_end a ≡ false → has_end (a ++ b) ≡ has_end b
later_end a b none = list_any-append (λ x. x == 10) a b ∙ ap (λ x. x || has_end b) none

pub later_len : (a b : List ℕ) → has_end a ≡ false → line_len (a ++ b) ≡ length a + line_len b
later_len [] b none = omega arith
later_len (x ∷ a) b none =
    elim (cases_Bool (x == 10)) [
      | inl end ↦ (let never : true ≡ false = sym (ap (λ y. y || has_end a) end) ∙ none in absurd cc)
      | inr more ↦ (let rest = later_len a b (sym (ap (λ y. y || has_end a) more) ∙ none) in rw more (omega arith))
    ]

-- the first line of bytes of which the front has no line end
pub found_behind : (front more all : List ℕ) (len : ℕ) → has_end front ≡ false → all ≡ front ++ more
    → has_end (take (length all - length front) (drop (length front) all)) ≡ true
    → len ≡ line_len (take (length all - length front) (drop (length front) all))
    → (has_end all ≡ true) × (length front + len ≡ line_len all)
found_behind front more all len none is found at =
    let rest : take (length all - length front) (drop (length front) all) ≡ more = take_rest all (length front)
    ∙ ap (drop (length front)) is ∙ drop-append_seam front more in (
      ap has_end is ∙ later_end front more none ∙ sym (ap has_end rest) ∙ found,
      ap (λ n. length front + n) (at ∙ ap line_len rest) ∙ sym (ap line_len is ∙ later_len front more none),
    )

-- bytes that were put behind the first ones of a room
pub put_behind : (room buf post : List ℕ) (end n : ℕ) → end ≤ length room → n ≤ length buf
    → take (end + n) (take end room ++ (buf ++ post)) ≡ take end room ++ take n buf
put_behind room buf post end n inside few =
    ap (λ k. take (k + n) (take end room ++ (buf ++ post))) (sym (length-take-le end room inside))
    ∙ take-append-add (take end room) (buf ++ post) n
    ∙ ap (λ x. take end room ++ x) (take-append-le n buf post few)
