-- Tokens that stand for words.
use Rattle.std.proofs.Common.{◌≡◌, ℕ, List, [], ◌∷◌, ◌++◌, map, refl, sym, ap, subst, ◌∙◌}
use Rattle.sot_text.specs.Reading.{Lexeme}
use Rattle.sot_parser.specs.Pieces.{Keyword, Sign, Named, Digits}
use Rattle.sot_print.specs.declared.gap.Gap.{Gap}
use Rattle.sot_print.specs.Words.{Word, keyword, sign, name, number}
use Rattle.sot_print.specs.Layout.{Spelled, token_spelled, word_spelled}

-- the first of these tokens is this word, and others follow
pub record First (w : Word) (ts vs : List Lexeme) : Type 0 where
  pub token : Lexeme
  pub begins : ts ≡ token ∷ vs
  pub kind : token.kind ≡ w.kind
  pub text : token.text ≡ w.text

-- these tokens begin with these words, and others follow
abbrev pub Takes : List Lexeme → List Word → List Lexeme → Type 0
Takes ts [] us = ts ≡ us
Takes ts (w ∷ ws) us = (vs : List Lexeme) × First w ts vs × Takes vs ws us

pub split : (ws ys : List Word) (ts us : List Lexeme) → Takes ts (ws ++ ys) us → (vs : List Lexeme) × Takes ts ws vs × Takes vs ys us
split [] ys ts us h = (ts, refl, h)
split (w ∷ ws) ys ts us h = (let more = split ws ys h.0 us h.2 in (more.0, (h.0, h.1, more.1), more.2))

pub join : (ws ys : List Word) (ts vs us : List Lexeme) → Takes ts ws vs → Takes vs ys us → Takes ts (ws ++ ys) us
join [] ys ts vs us h k = (let P : List Lexeme → Type 0 = λ xs. Takes xs ys us in subst P (sym h) k)
join (w ∷ ws) ys ts vs us h k = (h.0, h.1, join ws ys h.0 vs us h.2 k)

-- tokens of the same kinds and texts as the words
pub all_taken : (ts : List Lexeme) (ws : List Word) → map token_spelled ts ≡ map word_spelled ws → Takes ts ws []
all_taken [] [] e = refl
all_taken [] (w ∷ ws) e = absurd cc
all_taken (t ∷ ts) [] e = absurd cc
all_taken (t ∷ ts) (w ∷ ws) e =
    let first : token_spelled t ≡ word_spelled w = cc in
    let others : map token_spelled ts ≡ map word_spelled ws = cc in
    (ts, record { token = t; begins = refl; kind = ap (λ (s : Spelled). s.kind) first; text = ap (λ (s : Spelled). s.text) first }, all_taken ts ws others)

-- the tokens of the grammar that words are
abbrev pub a_keyword : {gap : Gap} {text : List ℕ} {ts vs : List Lexeme} → First (keyword gap text) ts vs → Keyword text
a_keyword f = record { token = f.token; is = record { kind = f.kind; text_is = f.text } }

abbrev pub a_sign : {gap : Gap} {text : List ℕ} {ts vs : List Lexeme} → First (sign gap text) ts vs → Sign text
a_sign f = record { token = f.token; is = record { kind = f.kind; text_is = f.text } }

abbrev pub a_name : {gap : Gap} {text : List ℕ} {ts vs : List Lexeme} → First (name gap text) ts vs → Named
a_name f = record { token = f.token; is = f.kind }

abbrev pub a_number : {gap : Gap} {text : List ℕ} {ts vs : List Lexeme} → First (number gap text) ts vs → Digits
a_number f = record { token = f.token; is = f.kind }

-- one behind the other
pub led : {w : Word} {ts vs us : List Lexeme} (f : First w ts vs) → vs ≡ us → ts ≡ f.token ∷ us
led f more = f.begins ∙ ap (λ xs. f.token ∷ xs) more

pub onto : (form : List Lexeme → List Lexeme) {ts vs us : List Lexeme} → ts ≡ form vs → vs ≡ us → ts ≡ form us
onto form begins more = begins ∙ ap form more
