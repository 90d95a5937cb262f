-- But for nesting, tokens have one fault at the most.
use Rattle.std.proofs.Common.{◌≡◌, ℕ, ◌<◌, ◌≤◌, length, length-append, List, [], ◌∷◌, ◌++◌, None, refl, sym, ap, subst, ◌∙◌, append_assoc, arith}
use Rattle.sot_text.specs.Reading.{Lexeme}
use Rattle.sot_text.specs.Ahead.{Ahead, ahead_from}
use Rattle.sot_text.proofs.Aheads.{ahead_comes, comes_unique}
use Rattle.sot_parser.specs.declared.syntax.Syntax.{Syntax}
use Rattle.sot_parser.specs.declared.syntax.Syntax.TheVariants.{Lex, Token}
use Rattle.sot_parser.specs.Declarations.{DeclarationForm}
use Rattle.sot_parser.specs.Programs.{spelled_program, program_levels}
use Rattle.sot_law_fault_place.specs.Places.{IsText, Begins, BeginsNone, IsFirstWrong, IsFaultOf, no_token, wrong_token, too_short, too_deep, IsExact}
use Rattle.sot_law_fault_place.specs.Laws.{TextsAreOnlyDeep, ExactPlacesAreOne, DeepComesBefore, ProgramsHaveNoFault}

-- a text that goes on with a token with which none does
never : (before behind : List Lexeme) (t : Lexeme) → BeginsNone (before ++ t ∷ []) → Begins (before ++ t ∷ behind) → ⊥
never before behind t none (more, real, text) =
    let whole : (before ++ t ∷ behind) ++ more ≡ (before ++ t ∷ []) ++ (behind ++ more) = append_assoc before (t ∷ behind) more
    ∙ sym (append_assoc before (t ∷ []) (behind ++ more)) in
    none (behind ++ more) (subst IsText whole text)

wrong_never : (ahead : Ahead) (t : Lexeme) → IsFirstWrong ahead t → Begins ahead.tokens → ⊥
wrong_never ahead t w begins = never w.before w.behind t w.nothing (subst Begins w.tokens begins)

-- one list, parted at two tokens
pub data Parted (a b : List Lexeme) (s t : Lexeme) : Type 0 where
  together : a ≡ b → s ≡ t → Parted a b s t
  earlier : (m : List Lexeme) → b ≡ a ++ s ∷ m → Parted a b s t
  later : (m : List Lexeme) → a ≡ b ++ t ∷ m → Parted a b s t

behind_one : (x : Lexeme) (a b : List Lexeme) (s t : Lexeme) → Parted a b s t → Parted (x ∷ a) (x ∷ b) s t
behind_one x a b s t (together e f) = together (ap (λ us. x ∷ us) e) f
behind_one x a b s t (earlier m e) = earlier m (ap (λ us. x ∷ us) e)
behind_one x a b s t (later m e) = later m (ap (λ us. x ∷ us) e)

parted : (a b c d : List Lexeme) (s t : Lexeme) → a ++ s ∷ c ≡ b ++ t ∷ d → Parted a b s t
parted [] [] c d s t e = together refl cc
parted [] (y ∷ b) c d s t e = let is : s ≡ y = cc in earlier b (ap (λ x. x ∷ b) (sym is))
parted (x ∷ a) [] c d s t e = let is : x ≡ t = cc in later a (ap (λ y. y ∷ a) is)
parted (x ∷ a) (y ∷ b) c d s t e =
    let head : x ≡ y = cc in
    let tail : a ++ s ∷ c ≡ b ++ t ∷ d = cc in
    subst (λ z. Parted (x ∷ a) (z ∷ b) s t) head (behind_one x a b s t (parted a b c d s t tail))

same_wrong : (ahead : Ahead) (s t : Lexeme) → IsFirstWrong ahead s → IsFirstWrong ahead t → s ≡ t
same_wrong ahead s t v w = by (parted v.before w.before v.behind w.behind s t (sym v.tokens ∙ w.tokens))
  where
    by : Parted v.before w.before s t → s ≡ t
    by (together e f) = f
    by (earlier m e) = absurd (never v.before m s v.nothing (subst Begins e w.begins))
    by (later m e) = absurd (never w.before m t w.nothing (subst Begins e v.begins))

pub deep_comes_before : DeepComesBefore
deep_comes_before ahead wrong token w d = by (parted d.before w.before d.behind w.behind token wrong (sym d.tokens ∙ w.tokens))
  where
    by : Parted d.before w.before token wrong → length d.before < length w.before
    by (together e f) = absurd (never w.before [] wrong w.nothing (subst Begins (ap (λ us. us ++ token ∷ []) e ∙ ap (λ t. w.before ++ t ∷ []) f) d.begins))
    by (earlier m e) = omega (arith, ap length e, length-append d.before (token ∷ m))
    by (later m e) =
        let whole : d.before ++ token ∷ [] ≡ w.before ++ wrong ∷ (m ++ token ∷ []) = ap (λ us. us ++ token ∷ []) e
        ∙ append_assoc w.before (wrong ∷ m) (token ∷ []) in
        absurd (never w.before (m ++ token ∷ []) wrong w.nothing (subst Begins whole d.begins))

pub texts_are_only_deep : TextsAreOnlyDeep
texts_are_only_deep bytes ahead fault (no_token f some begins is) text ended = absurd cc
texts_are_only_deep bytes ahead fault (wrong_token t w is) text ended =
    absurd (w.nothing w.behind (subst IsText (w.tokens ∙ sym (append_assoc w.before (t ∷ []) w.behind)) text))
texts_are_only_deep bytes ahead fault (too_short c is) text ended = absurd (c.no_text text)
texts_are_only_deep bytes ahead fault (too_deep t d is) text ended = (t, d, is)

pub exact_places_are_one : ExactPlacesAreOne
exact_places_are_one bytes ahead fault other (no_token f some begins is) (no_token g more starts same) exact also =
    let one : f ≡ g = cc in is ∙ (ap (λ l. Lex l) one ∙ sym same)
exact_places_are_one bytes ahead fault other (no_token f some begins is) (wrong_token t w same) exact also = absurd (wrong_never ahead t w begins)
exact_places_are_one bytes ahead fault other (no_token f some begins is) (too_short c same) exact also = let ended = c.ended in absurd cc
exact_places_are_one bytes ahead fault other (wrong_token t w is) (no_token g more starts same) exact also = absurd (wrong_never ahead t w starts)
exact_places_are_one bytes ahead fault other (wrong_token s v is) (wrong_token t w same) exact also =
    is ∙ (ap (λ (l : Lexeme). Token l.at) (same_wrong ahead s t v w) ∙ sym same)
exact_places_are_one bytes ahead fault other (wrong_token s v is) (too_short c same) exact also = absurd (wrong_never ahead s v c.begins)
exact_places_are_one bytes ahead fault other (too_short c is) (no_token g more starts same) exact also = let ended = c.ended in absurd cc
exact_places_are_one bytes ahead fault other (too_short c is) (wrong_token t w same) exact also = absurd (wrong_never ahead t w c.begins)
exact_places_are_one bytes ahead fault other (too_short c is) (too_short d same) exact also = is ∙ sym same
exact_places_are_one bytes ahead fault other (too_deep t d is) y exact also = absurd (subst IsExact is exact)
exact_places_are_one bytes ahead fault other x (too_deep t d same) exact also = absurd (subst IsExact same also)

-- the tokens of a program are a text within 64 levels, with nothing behind
no_fault : (bytes : List ℕ) (ahead : Ahead) (fault : Syntax) → IsFaultOf bytes ahead fault → (tokens : List Lexeme)
    → ahead ≡ record { tokens = tokens; end = None } → (form : List DeclarationForm) → tokens ≡ spelled_program form → program_levels form ≤ 64 → ⊥
no_fault bytes ahead fault (no_token f some begins is) tokens same form spelled fits = let none : ahead.end ≡ None = ap (λ (a : Ahead). a.end) same in absurd cc
no_fault bytes ahead fault (wrong_token t w is) tokens same form spelled fits =
    let text : ahead.tokens ≡ spelled_program form = ap (λ (a : Ahead). a.tokens) same ∙ spelled in
    w.nothing w.behind (form, append_assoc w.before (t ∷ []) w.behind ∙ (sym w.tokens ∙ text))
no_fault bytes ahead fault (too_short c is) tokens same form spelled fits = c.no_text (form, ap (λ (a : Ahead). a.tokens) same ∙ spelled)
no_fault bytes ahead fault (too_deep t d is) tokens same form spelled fits =
    let text : ahead.tokens ≡ spelled_program form = ap (λ (a : Ahead). a.tokens) same ∙ spelled in
    let deep_ : 64 < program_levels form = d.only_deep form d.behind (sym text ∙ (d.tokens ∙ sym (append_assoc d.before (t ∷ []) d.behind))) in
    absurd (omega (arith, deep_, fits))

pub programs_have_no_fault : ProgramsHaveNoFault
programs_have_no_fault bytes at fault is program spells =
    let b : Ahead = record { tokens = spells.tokens; end = None } in
    let same : ahead_from bytes at ≡ b = comes_unique bytes at (ahead_from bytes at) b (ahead_comes bytes at) spells.text in
    no_fault bytes (ahead_from bytes at) fault is spells.tokens same spells.is.form spells.is.spelled spells.is.nests
