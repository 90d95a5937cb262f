-- The tokens of a text are token texts.
use Rattle.std.proofs.Common.{◌≡◌, ℕ, ◌+◌, List, [], ◌∷◌, take, drop, Some, Ok, refl, sym, ap, ◌∙◌, subst}
use Rattle.std.proofs.lemmas.List.{length-take-le}
use Rattle.sot_text.specs.declared.lexeme.Front.{Front}
use Rattle.sot_text.specs.declared.lexeme.Front.TheVariants.{End, Token, BadByte, NameLong, LiteralWide}
use Rattle.sot_text.specs.Lexeme.{front, IsTokenText}
use Rattle.sot_text.specs.Reading.{Lexeme, Lexes, span, lexed, next_from}
use Rattle.sot_text.proofs.Fronts.{token_whole}

abbrev pub AreTexts : List Lexeme → Type 0
AreTexts [] = Unit {0}
AreTexts (t ∷ ts) = IsTokenText t.kind t.text × AreTexts ts

one_lexed : (bytes : List ℕ) (from : ℕ) (f : Front) (t : Lexeme) → front (drop from bytes) ≡ f → lexed bytes from f ≡ Ok (Some t) → IsTokenText t.kind t.text
one_lexed bytes from End t is e = absurd cc
one_lexed bytes from (Token kind len) t is e =
    let whole = token_whole (drop from bytes) kind len is in
    let there : Lexeme = record { kind = kind; text = take len (drop from bytes); at = span bytes from; to = from + len } in
    let same : there ≡ t = cc in
    let P : Lexeme → Type 0 = λ x. IsTokenText x.kind x.text in
    subst P same (whole.whole ∙ ap (λ n. Token kind n) (sym (length-take-le len (drop from bytes) whole.within)))
one_lexed bytes from BadByte t is e = absurd cc
one_lexed bytes from (NameLong len) t is e = absurd cc
one_lexed bytes from (LiteralWide len) t is e = absurd cc

pub lexes_texts : (bytes : List ℕ) (at : ℕ) (ts : List Lexeme) (to : ℕ) → Lexes bytes at ts to → AreTexts ts
lexes_texts bytes at [] to run = tt
lexes_texts bytes at (t ∷ ts) to run =
    (one_lexed bytes (next_from bytes at) (front (drop (next_from bytes at) bytes)) t refl run.0, lexes_texts bytes t.to ts to run.1)
