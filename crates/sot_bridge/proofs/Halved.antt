-- The two halves of a text are no longer than it.
use Rattle.std.proofs.Common.{◌≡◌, ℕ, ◌+◌, ◌≤◌, Bool, true, false, List, [], ◌∷◌, ◌++◌, Option, None, Some, length, refl, sym, ap, ◌∙◌, subst, arith}
use Rattle.std.proofs.Common.{length-append}
use Rattle.std.specs.Prelude.{if◌then◌else◌}
use Rattle.std.specs.Option.{option_map}
use Rattle.std.proofs.lemmas.Option.{same_Some}
use Rattle.sot_text.specs.LineEnds.{lines}
use Rattle.sot_bridge.specs.declared.halves.MissionHalves.{MissionHalves as Slices}
use Rattle.sot_bridge.proofs.Dividing.{joined_lines}
use Rattle.sot_bridge.specs.MissionHalves.{MissionHalves, halves_seen, is_bridge, joined, behind, halves_in, halves_of}

short_in : (ls : List (List ℕ)) (h : MissionHalves) → halves_in ls ≡ Some h → length h.a + length h.b ≤ length (joined ls)
short_in [] h e = absurd cc
short_in (l ∷ ls) h e = go (is_bridge l) (halves_in ls) (short_in ls) e
  where
    go : (b : Bool) (o : Option MissionHalves) → ((g : MissionHalves) → o ≡ Some g → length g.a + length g.b ≤ length (joined ls))
        → (if b then Some (let r : MissionHalves = record { a = []; b = joined ls } in r) else option_map (behind l) o) ≡ Some h
        → length h.a + length h.b ≤ length (l ++ joined ls)
    go true o below e =
        let same = same_Some (let r : MissionHalves = record { a = []; b = joined ls } in r) h e in
        let front : 0 ≡ length h.a = ap (λ (x : MissionHalves). length x.a) same in
        let back : length (joined ls) ≡ length h.b = ap (λ (x : MissionHalves). length x.b) same in
        let size = length-append l (joined ls) in
        omega (arith, front, back, size)
    go false None below e = absurd cc
    go false (Some g) below e =
        let same = same_Some (behind l g) h e in
        let front : length (l ++ g.a) ≡ length h.a = ap (λ (x : MissionHalves). length x.a) same in
        let back : length g.b ≡ length h.b = ap (λ (x : MissionHalves). length x.b) same in
        let inner = below g refl in
        let size = length-append l (joined ls) in
        let longer = length-append l g.a in
        omega (arith, front, back, inner, size, longer)

pub halves_short : (bytes : List ℕ) (h : MissionHalves) → halves_of bytes ≡ Some h → length h.a + length h.b ≤ length bytes
halves_short bytes h e = subst (λ (x : List ℕ). length h.a + length h.b ≤ length x) (joined_lines bytes) (short_in (lines bytes) h e)

-- what `divide` returned, as halves
pub divided : (o : Option Slices) (h : Slices) (x : Option MissionHalves) → o ≡ Some h → option_map halves_seen o ≡ x → x ≡ Some (halves_seen h)
divided o h x is e = sym e ∙ ap (option_map halves_seen) is

pub undivided : (o : Option Slices) (x : Option MissionHalves) → ((h : Slices) → o ≡ Some h → ⊥) → option_map halves_seen o ≡ x → x ≡ None
undivided None x differs e = sym e
undivided (Some h) x differs e = absurd (differs h refl)
