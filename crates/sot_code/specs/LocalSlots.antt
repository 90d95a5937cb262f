-- At most sixteen numbers, kept in sixteen slots.
use Rattle.std.specs.Prelude.{◌≡◌, ℕ, ◌-◌, ◌≤◌, ℤ, pos, List, ◌++◌, length, take, drop, replicate}
use Rattle.std.proofs.Common.{take-append-drop, length-take-le, ap, sym, subst, ◌∙◌}
use Rattle.sot_code.specs.declared.locals.Locals.TheInside as locals

abbrev pub local_list : locals.Inside → List ℤ
local_list l = take l.count l.at

-- the slots behind the count hold 0
abbrev pub IsLocals : locals.Inside → Type 0
IsLocals l =
    (l.count ≤ 16) × (length l.at ≡ 16) × (drop l.count l.at ≡ replicate (16 - l.count) (pos 0))

abbrev pub locals_of : List ℤ → locals.Inside
locals_of xs = record { count = length xs; at = xs ++ replicate (16 - length xs) (pos 0) }

-- the first n of sixteen, and zeros in place of the others
taken-length : {A : Type 0} (n : ℕ) (xs : List A) → length xs ≡ 16 → n ≤ 16 → length (take n xs) ≡ n
taken-length n xs size within = length-take-le n xs (subst (λ m. n ≤ m) (sym size) within)

taken-padded : {A : Type 0} (n : ℕ) (xs : List A) (x : A) → length xs ≡ 16 → n ≤ 16
    → drop n xs ≡ replicate (16 - n) x
    → take n xs ++ replicate (16 - length (take n xs)) x ≡ xs
taken-padded n xs x size within rest =
    ap (λ m. take n xs ++ replicate (16 - m) x) (taken-length n xs size within)
    ∙ ap (λ l. take n xs ++ l) (sym rest) ∙ take-append-drop n xs

-- the numbers give the slots back
pub locals_of-local_list : (l : locals.Inside) → IsLocals l → locals_of (local_list l) ≡ l
locals_of-local_list l h i = record {
  count = taken-length l.count l.at h.1 h.0 i;
  at = taken-padded l.count l.at (pos 0) h.1 h.0 h.2 i;
}
