-- Escapes leave every character but two as it is.
use Rattle.std.proofs.Common.{◌≡◌, ◌≢◌, ℕ, ◌+◌, ◌≤◌, ◌/◌, ◌%◌, List, [], ◌∷◌, ◌++◌, Bool, true, false, cond, map, refl, sym, ap, ◌∙◌, arith}
use Rattle.std.proofs.Math.Dec.{ltb}
use Rattle.std.proofs.Math.Utf8.{encode}
use Rattle.std.proofs.lemmas.Bool.Decides.{nat_tests}
use Rattle.std.proofs.lemmas.Bool.{ltb-true}
use Rattle.std.proofs.lemmas.Str.{encode_ascii, encodes-append, chars-encodes}
use Rattle.std.proofs.lemmas.Grind.{flat_map-append}
use Rattle.std.proofs.lemmas.List.{append-nil}
use Rattle.std.specs.Str.{chars, IsUtf8, encode_utf8_all}
use Rattle.sot_json.specs.Pointers.{escape_of, escaped}

plain : (b : ℕ) → b ≢ 126 → b ≢ 47 → escape_of b ≡ b ∷ []
plain b h k = grind (arith, nat_tests)

AreHigh : List ℕ → Type 0
AreHigh [] = Unit {0}
AreHigh (b ∷ bs) = (128 ≤ b) × AreHigh bs

high_plain : (bs : List ℕ) → AreHigh bs → escaped bs ≡ bs
unfolding AreHigh
high_plain [] h = refl
high_plain (b ∷ bs) h =
    let high : 128 ≤ b = h.0 in
    let e : escape_of b ≡ b ∷ [] = plain b (λ k. omega (arith, k)) (λ k. omega (arith, k)) in
    rw (e, high_plain bs h.1) refl

high_bytes : (x y z : Bool) (c : ℕ) → x ≡ false → AreHigh
    (cond x (c ∷ []) (cond y ((192 + c / 64) ∷ (128 + c % 64) ∷ [])
    (cond z ((224 + c / 4096) ∷ (128 + c / 64 % 64) ∷ (128 + c % 64) ∷ [])
    ((240 + c / 262144) ∷ (128 + c / 4096 % 64) ∷ (128 + c / 64 % 64) ∷ (128 + c % 64) ∷ []))))
unfolding AreHigh
high_bytes true y z c h = cc
high_bytes false true z c h = (omega arith, (omega arith, tt))
high_bytes false false true c h = (omega arith, (omega arith, (omega arith, tt)))
high_bytes false false false c h = (omega arith, (omega arith, (omega arith, (omega arith, tt))))

by_size : (x : Bool) (c : ℕ) → ltb c 128 ≡ x → c ≢ 126 → c ≢ 47 → escaped (encode c) ≡ encode c
unfolding encode
by_size true c e h k = rw (encode_ascii c (ltb-true c 128 e), plain c h k) refl
by_size false c e h k = high_plain (encode c) (high_bytes (ltb c 128) (ltb c 2048) (ltb c 65536) c e)

pub escaped_char : (c : ℕ) → c ≢ 126 → c ≢ 47 → escaped (encode c) ≡ encode c
escaped_char c h k = by_size (ltb c 128) c refl h k

-- one more character
pub escaped_push : (cs : List ℕ) (c : ℕ) → escaped (encode_utf8_all (cs ++ c ∷ [])) ≡ escaped (encode_utf8_all cs) ++ escaped (encode c)
escaped_push cs c =
    ap escaped (encodes-append cs (c ∷ []) ∙ ap (λ e. encode_utf8_all cs ++ e) (append-nil (encode c)))
    ∙ flat_map-append escape_of (encode_utf8_all cs) (encode c)

map_same : (cs : List ℕ) → map (λ c. c) cs ≡ cs
map_same [] = refl
map_same (c ∷ cs) = ap (λ ds. c ∷ ds) (map_same cs)

-- the characters of a text spell it
pub all_spelled : (bs cs : List ℕ) → IsUtf8 bs → map (λ c. c) cs ≡ chars bs → encode_utf8_all cs ≡ bs
all_spelled bs cs u h =
    let e : cs ≡ chars bs = sym (map_same cs) ∙ h in
    let f : encode_utf8_all (chars bs) ≡ bs = ap (λ x. encode_utf8_all (chars x)) (sym u.1.1) ∙ ap encode_utf8_all (chars-encodes u.0 u.1.0) ∙ u.1.1 in
    ap encode_utf8_all e ∙ f
