-- Words one after another, each of which may follow the one before.
use Rattle.std.proofs.Common.{◌≡◌, ℕ, ◌<◌, ◌==◌, ◌&&◌, ◌||◌, not, Bool, true, false, cond, List, [], ◌∷◌, ◌++◌, length, codes, refl, sym, ap, subst, ◌∙◌}
use Rattle.std.proofs.Common.{append_assoc, arith}
use Rattle.std.specs.Char.{is_ascii_digit}
use Rattle.std.proofs.lemmas.Bool.{cond-false}
use Rattle.std.proofs.lemmas.Bool.Decides.{nat_tests}
use Rattle.sot_text.specs.declared.token.Kind.TheVariants.{Sign}
use Rattle.sot_text.specs.declared.lexeme.Front.TheVariants.{Token}
use Rattle.sot_text.specs.Lexeme.{begins_word, is_in_word, front, sign, IsTokenText}
use Rattle.sot_text.specs.Inside.{sign_by_two}
use Rattle.sot_text.proofs.Signs.{by_two}
use Rattle.sot_text.proofs.Fronts.{front_sign}
use Rattle.sot_text.proofs.Limits.{some_text}
use Rattle.sot_print.specs.declared.gap.Gap.{Gap}
use Rattle.sot_print.specs.declared.gap.Gap.TheVariants.{Touching, Space, Line}
use Rattle.sot_print.specs.Words.{Word, sign as a_sign}
use Rattle.sot_print.specs.Layout.{AreTokens, MayFollow, MayGoOn, AreParted}
use Rattle.sot_print.proofs.Ends.{front_goes, blank_ends}

abbrev pub IsTok : Word → Type 0
IsTok w = IsTokenText w.kind w.text

-- these words are tokens that may stand behind a word
abbrev pub Follows : Word → List Word → Type 0
Follows a [] = Unit {0}
Follows a (w ∷ ws) = IsTok w × MayFollow a w.before w × Follows w ws

-- behind any token
abbrev pub Fits : List Word → Type 0
Fits more = (v : Word) → IsTok v → Follows v more

-- behind a word, whatever fits behind them
pub record Sits (a : Word) (ws : List Word) : Type 0 where
  pub go : (more : List Word) → Fits more → Follows a (ws ++ more)

abbrev pub SitsAnywhere : List Word → Type 0
SitsAnywhere ws = (v : Word) → IsTok v → Sits v ws

-- any token may follow with this gap
abbrev pub Enters : Word → Gap → Type 0
Enters a gap = (w : Word) → IsTok w → MayFollow a gap w

pub spaced : (a : Word) → Enters a Space
spaced a = λ w is. tt

pub lined : (a : Word) (indent : ℕ) → Enters a (Line indent)
lined a indent = λ w is. tt

pub ended : SitsAnywhere []
ended = λ v is. record { go = λ more fits. fits v is }

pub then_word : {a w : Word} {ws : List Word} → IsTok w → MayFollow a w.before w → Sits w ws → Sits a (w ∷ ws)
then_word is follows sits = record { go = λ more fits. (is, follows, sits.go more fits) }

pub joined : {a : Word} (as_ bs : List Word) → Sits a as_ → SitsAnywhere bs → Sits a (as_ ++ bs)
joined {a = a} as_ bs sits fit =
    record { go = λ more fits. subst (λ ws. Follows a ws) (sym (append_assoc as_ bs more)) (sits.go (bs ++ more) (λ v is. (fit v is).go more fits)) }

pub choice : {a : Word} (b : Bool) (as_ bs : List Word) → Sits a as_ → Sits a bs → Sits a (cond b as_ bs)
choice true as_ bs yes_ no_ = yes_
choice false as_ bs yes_ no_ = no_

-- what the lexer takes for a sign
abbrev pub is_sign_text : List ℕ → Bool
is_sign_text [] = false
is_sign_text (a ∷ as_) = not (begins_word a) && not (is_ascii_digit a) && sign_by_two (a ∷ as_) == length (a ∷ as_)

sign_parts : (p q r : Bool) → (not p && not q && r) ≡ true → (p ≡ false) × (q ≡ false) × (r ≡ true)
sign_parts false false true e = (refl, refl, refl)
sign_parts false false false e = absurd cc
sign_parts false true r e = absurd cc
sign_parts true q r e = absurd cc

some_sign : (n k : ℕ) → 0 < k → n ≡ k → sign n ≡ Token Sign k
some_sign n k some e = ap sign e ∙ cond-false (k == 0) _ _ (grind (arith, nat_tests))

pub sign_token : (text : List ℕ) → is_sign_text text ≡ true → IsTokenText Sign text
sign_token [] e = absurd cc
sign_token (a ∷ as_) e =
    let parts = sign_parts (begins_word a) (is_ascii_digit a) (sign_by_two (a ∷ as_) == length (a ∷ as_)) e in
    let len : sign_by_two (a ∷ as_) ≡ length (a ∷ as_) = grind (arith, nat_tests) in
    front_sign a as_ parts.0 parts.1 ∙ some_sign _ (length (a ∷ as_)) (omega arith) (sym (by_two (a ∷ as_)) ∙ len)

-- a sign that may stand directly behind any token
abbrev pub is_closing : List ℕ → Bool
is_closing [] = false
is_closing (c ∷ cs) = not (is_in_word c) && not (is_ascii_digit c) && not (c == 46 || c == 61)

closing_parts : (p q r s : Bool) → (not p && not q && not (r || s)) ≡ true → (p ≡ false) × (q ≡ false) × (r ≡ false) × (s ≡ false)
closing_parts false false false false e = (refl, refl, refl, refl)
closing_parts false false false true e = absurd cc
closing_parts false false true s e = absurd cc
closing_parts false true r s e = absurd cc
closing_parts true q r s e = absurd cc

none_long : (p q r s t u v w : Bool) → v ≡ false → w ≡ false → (p && w || q && v || r && w || s && w || t && w || u && w) ≡ false
none_long p q r s t u v w no_point no_equal = rw (no_point, no_equal) (six p q r s t u)
  where
    none : (b : Bool) → (b && false) ≡ false
    none true = refl
    none false = refl

    six : (p q r s t u : Bool) → (p && false || q && false || r && false || s && false || t && false || u && false) ≡ false
    six p q r s t u = simp none

closing_goes : (v : Word) (text rest : List ℕ) → IsTok v → is_closing text ≡ true → front (v.text ++ (text ++ rest)) ≡ Token v.kind (length v.text)
closing_goes v [] rest is e = absurd cc
closing_goes v (c ∷ cs) rest is e =
    let parts = closing_parts (is_in_word c) (is_ascii_digit c) (c == 46) (c == 61) e in
    front_goes v.kind v.text (c ∷ (cs ++ rest)) is
    (blank_ends v.text c (cs ++ rest) parts.0 parts.1 parts.2
    (λ a. none_long (a == 58) (a == 46) (a == 60) (a == 62) (a == 61) (a == 33) (c == 46) (c == 61) parts.2 parts.3) (some_text v.kind v.text is))

-- it stands directly behind any token
pub closes : (text : List ℕ) (ws : List Word) → is_sign_text text ≡ true → is_closing text ≡ true → Sits (a_sign Touching text) ws
    → SitsAnywhere (a_sign Touching text ∷ ws)
closes text ws is closing sits = λ v tok. then_word (sign_token text is) (λ rest. closing_goes v text rest tok closing) sits

-- a sign behind which any token may stand directly
abbrev pub AlwaysEnds : List ℕ → Type 0
AlwaysEnds text = (rest : List ℕ) → sign_by_two (text ++ rest) ≡ length text

opening_goes : (text rest : List ℕ) → is_sign_text text ≡ true → AlwaysEnds text → front (text ++ rest) ≡ Token Sign (length text)
opening_goes [] rest e ends = absurd cc
opening_goes (a ∷ as_) rest e ends =
    let parts = sign_parts (begins_word a) (is_ascii_digit a) (sign_by_two (a ∷ as_) == length (a ∷ as_)) e in
    front_sign a (as_ ++ rest) parts.0 parts.1 ∙ some_sign _ (length (a ∷ as_)) (omega arith) (sym (by_two ((a ∷ as_) ++ rest)) ∙ ends rest)

pub opens : (gap : Gap) (text : List ℕ) → is_sign_text text ≡ true → AlwaysEnds text → Enters (a_sign gap text) Touching
opens gap text is ends = λ w tok rest. opening_goes text (w.text ++ rest) is ends

pub round_ends : AlwaysEnds (codes "(")
round_ends [] = refl
round_ends (b ∷ bs) = refl

pub square_ends : AlwaysEnds (codes "[")
square_ends [] = refl
square_ends (b ∷ bs) = refl

pub brace_ends : AlwaysEnds (codes "{")
brace_ends [] = refl
brace_ends (b ∷ bs) = refl

pub minus_ends : AlwaysEnds (codes "-")
minus_ends [] = refl
minus_ends (b ∷ bs) = refl

pub dots_ends : AlwaysEnds (codes "..")
dots_ends rest = refl

-- so words are tokens and parted
pub follows_parted : (w : Word) (ws : List Word) → Follows w ws → AreTokens ws × MayGoOn w ws × AreParted ws
follows_parted w [] f = (tt, tt, tt)
follows_parted w (v ∷ ws) f = (let more = follows_parted v ws f.2 in ((f.0, more.0), f.1, (more.1, more.2)))
