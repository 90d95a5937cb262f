-- Words of which none holds a line end, and none that begins a line begins with '%'.
use Rattle.std.proofs.Common.{◌≡◌, ℕ, zero, suc, ◌==◌, ◌&&◌, ◌||◌, not, Bool, true, false, cond, List, [], ◌∷◌, ◌++◌, replicate, inl, inr, refl, ap, ◌∙◌}
use Rattle.std.proofs.Common.{append_assoc}
use Rattle.sot_print.specs.declared.gap.Gap.{Gap}
use Rattle.sot_print.specs.declared.gap.Gap.TheVariants.{Touching, Space, Line}
use Rattle.sot_print.specs.Words.{Word, blanks, laid, text_of}
use Rattle.sot_certified_text.specs.Plain.{EndsLine, IsPlain}
use Rattle.sot_certified_text.proofs.PlainTexts.{is_plain, is_one_line, begins_plain, both, first_of, second_of, not_true, plain_text, goes_on}

-- no line begins with a word that has this gap before it
abbrev pub stays : Gap → Bool
stays Touching = true
stays Space = true
stays (Line indent) = false

abbrev pub is_tidy : Word → Bool
is_tidy w = is_one_line w.text && (begins_plain w.text || stays w.before)

abbrev pub are_tidy : List Word → Bool
are_tidy [] = true
are_tidy (w ∷ ws) = is_tidy w && are_tidy ws

abbrev pub Tidy : List Word → Type 0
Tidy ws = are_tidy ws ≡ true

pub joined : (as_ bs : List Word) → Tidy as_ → Tidy bs → Tidy (as_ ++ bs)
joined [] bs a b = b
joined (w ∷ ws) bs a b = both (is_tidy w) (are_tidy (ws ++ bs)) (first_of (is_tidy w) (are_tidy ws) a) (joined ws bs (second_of (is_tidy w) (are_tidy ws) a) b)

pub then_word : (w : Word) (ws : List Word) → is_tidy w ≡ true → Tidy ws → Tidy (w ∷ ws)
then_word w ws a b = both (is_tidy w) (are_tidy ws) a b

pub choice : (b : Bool) (as_ bs : List Word) → Tidy as_ → Tidy bs → Tidy (cond b as_ bs)
choice true as_ bs yes_ no_ = yes_
choice false as_ bs yes_ no_ = no_

-- the text of tidy words is plain

indented : (n : ℕ) (text rest : List ℕ) → begins_plain text ≡ true → is_one_line text ≡ true
    → is_plain true (replicate n 32 ++ (text ++ rest)) ≡ is_plain false rest
indented zero [] rest opens one = absurd cc
indented zero (b ∷ bs) rest opens one =
    let other : (b == 37) ≡ false = not_true (b == 37) opens in
    let no_end : (b == 10) ≡ false = not_true (b == 10) (first_of (not (b == 10)) (is_one_line bs) one) in
    rw (other, no_end) (goes_on bs rest (second_of (not (b == 10)) (is_one_line bs) one))
indented (suc n) text rest opens one = spaces n
  where
    spaces : (n : ℕ) → is_plain false (replicate n 32 ++ (text ++ rest)) ≡ is_plain false rest
    spaces zero = goes_on text rest one
    spaces (suc n) = spaces n

or_false : (b : Bool) → (b || false) ≡ true → b ≡ true
or_false true e = refl
or_false false e = absurd cc

word_goes : (gap : Gap) (text rest : List ℕ) → is_one_line text ≡ true → (begins_plain text || stays gap) ≡ true
    → is_plain false (blanks gap ++ (text ++ rest)) ≡ is_plain false rest
word_goes Touching text rest one opens = goes_on text rest one
word_goes Space text rest one opens = goes_on text rest one
word_goes (Line indent) text rest one opens = indented indent text rest (or_false (begins_plain text) opens) one

laid_goes : (ws : List Word) (rest : List ℕ) → Tidy ws → is_plain false (laid ws ++ rest) ≡ is_plain false rest
laid_goes [] rest tidy = refl
laid_goes (w ∷ ws) rest tidy =
    let own : is_tidy w ≡ true = first_of (is_tidy w) (are_tidy ws) tidy in
    ap (is_plain false) (append_assoc (blanks w.before) (w.text ++ laid ws) rest ∙ ap (λ bs. blanks w.before ++ bs) (append_assoc w.text (laid ws) rest))
    ∙ word_goes w.before w.text (laid ws ++ rest) (first_of (is_one_line w.text) (begins_plain w.text || stays w.before) own)
    (second_of (is_one_line w.text) (begins_plain w.text || stays w.before) own)
    ∙ laid_goes ws rest (second_of (is_tidy w) (are_tidy ws) tidy)

-- the first byte of a text
abbrev pub opens_plain : List ℕ → Bool
opens_plain [] = true
opens_plain (b ∷ bs) = not (b == 37)

begins_well : (bs : List ℕ) → opens_plain bs ≡ true → is_plain false bs ≡ true → is_plain true bs ≡ true
begins_well [] opens goes = refl
begins_well (b ∷ bs) opens goes = both (not (b == 37)) (is_plain (b == 10) bs) opens goes

pub plain_words : (ws : List Word) → Tidy ws → opens_plain (text_of ws) ≡ true → IsPlain (text_of ws)
plain_words [] tidy opens = refl
plain_words (w ∷ ws) tidy opens = plain_text (laid (w ∷ ws) ++ 10 ∷ []) (begins_well (laid (w ∷ ws) ++ 10 ∷ []) opens (laid_goes (w ∷ ws) (10 ∷ []) tidy))

pub ended_words : (ws : List Word) → EndsLine (text_of ws)
ended_words [] = inl refl
ended_words (w ∷ ws) = inr (laid (w ∷ ws), refl)
