-- The two names among the words.
use Rattle.std.proofs.Common.{◌≡◌, ◌∙◌, ℕ, List, [], ◌∷◌, length, sym, ap, ap₂, Global}
use Rattle.std.specs.Prelude.{String, slice_get}
use Rattle.std.specs.Fmt.{decimal}
use Rattle.std.specs.String.{string_bytes}
use Rattle.std.proofs.lemmas.List.{length-map}
use Rattle.std.proofs.lemmas.Option.{same_Some}
use Rattle.sot_lists.specs.Places.{At}
use Rattle.sot_lists.proofs.Places.{at_map}
use Rattle.sot_bridge.specs.Words.{Asks}

pub three : (words : List (String Global)) (from to : List ℕ) (delay : ℕ) → Asks words from to delay → length words ≡ 3
three words from to delay asks = sym (length-map words string_bytes) ∙ ap length asks.0

-- the names that are asked for are the first two words
pub asks_these : (words : List (String Global)) (from to : List ℕ) (delay : ℕ) (first second : String Global) → Asks words from to delay
    → At words 0 first → At words 1 second → Asks words (string_bytes first) (string_bytes second) delay
asks_these words from to delay first second asks at_0 at_1 =
    let e = asks.0 in
    let one : from ≡ string_bytes first = same_Some from (string_bytes first) (ap (λ l. slice_get l 0) (sym e) ∙ at_map string_bytes words 0 first at_0) in
    let two : to ≡ string_bytes second = same_Some to (string_bytes second) (ap (λ l. slice_get l 1) (sym e) ∙ at_map string_bytes words 1 second at_1) in
    (e ∙ ap₂ (λ (x y : List ℕ). x ∷ y ∷ decimal delay ∷ []) one two, asks.1)
