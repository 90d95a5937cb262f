-- What the grammar of statements takes from that of expressions.
use Rattle.std.proofs.Common.{◌≡◌, ℕ, ◌≤◌, ◌<◌, List, ◌∷◌, length, Ok, arith}
use Rattle.sot_text.specs.Reading.{Lexeme}
use Rattle.sot_expression.specs.Phrases.{Phrase, a_number, a_truth, a_name, a_field, a_group, an_abs, a_pair, a_clamp, a_rescale, a_minus, a_rest, a_join}
use Rattle.sot_expression.specs.Phrases.{a_not, an_if, spelled, IsPhrase, part_of, levels_of, Stops}
use Rattle.sot_expression.specs.ExpressionReaders.{Part, expression_at}
use Rattle.sot_expression.proofs.Soundness.{reads_only_phrases}
use Rattle.sot_expression.proofs.EachRead.{reads_each_phrase}

pub expression_sound : (room : ℕ) (ts us : List Lexeme) (part : Part) → expression_at room ts ≡ Ok (part, us)
    → (f : Phrase) × IsPhrase f × (ts ≡ spelled f us) × (part ≡ part_of f) × (levels_of f ≤ room)
expression_sound room ts us part e = let r = reads_only_phrases room ts part us e in (r.phrase, r.is_phrase, r.tokens, r.part_is, r.levels)

pub expression_full : (room : ℕ) (f : Phrase) (us : List Lexeme) → IsPhrase f → levels_of f ≤ room → Stops us
    → expression_at room (spelled f us) ≡ Ok (part_of f, us)
expression_full = reads_each_phrase

-- a phrase has some token
pub phrase_longer : (f : Phrase) (us : List Lexeme) → length us < length (spelled f us)
phrase_longer (a_number n) us = omega arith
phrase_longer (a_truth value t) us = omega arith
phrase_longer (a_name n) us = omega arith
phrase_longer (a_field n dot f) us = omega arith
phrase_longer (a_group open_ f close) us = omega (arith, phrase_longer f (close ∷ us))
phrase_longer (an_abs w open_ f close) us = omega (arith, phrase_longer f (close ∷ us))
phrase_longer (a_pair func w open_ f comma g close) us = omega (arith, phrase_longer f (comma ∷ spelled g (close ∷ us)), phrase_longer g (close ∷ us))
phrase_longer (a_clamp w open_ f comma g comma2 h close) us =
    omega (
      arith,
      phrase_longer f (comma ∷ spelled g (comma2 ∷ spelled h (close ∷ us))),
      phrase_longer g (comma2 ∷ spelled h (close ∷ us)),
      phrase_longer h (close ∷ us),
    )
phrase_longer (a_rescale w open_ f comma n close) us = omega (arith, phrase_longer f (comma ∷ n ∷ close ∷ us))
phrase_longer (a_minus t f) us = omega (arith, phrase_longer f us)
phrase_longer (a_rest f t n) us = omega (arith, phrase_longer f (t ∷ n ∷ us))
phrase_longer (a_join op f t g) us = omega (arith, phrase_longer f (t ∷ spelled g us), phrase_longer g us)
phrase_longer (a_not t f) us = omega (arith, phrase_longer f us)
phrase_longer (an_if t c u f v g) us = omega (arith, phrase_longer c (u ∷ spelled f (v ∷ spelled g us)), phrase_longer f (v ∷ spelled g us), phrase_longer g us)
