-- The tokens to come, taken one by one off their lexer.
use Rattle.std.proofs.Common.{◌≡◌, ℕ, List, Option, None, Some, Ok, Err, refl, sym, ap, ◌∙◌}
use Rattle.sot_text.specs.declared.token.LexFault.{LexFault}
use Rattle.sot_text.specs.declared.token.Token.{Token}
use Rattle.sot_text.specs.Reading.{Reading, outcome, next_lexeme}
use Rattle.sot_text.specs.Ahead.{ahead_with, ahead_from}
use Rattle.sot_text.proofs.Aheads.{ahead_step}
use Rattle.sot_expression.specs.Stream.{ahead_of}

-- one token more, or the end
pub pulled : (found : Option Token) (bytes : List ℕ) (at : ℕ) (after : Reading) → outcome (Ok found) ≡ next_lexeme bytes at → after.bytes ≡ bytes
    → ((t : Token) → found ≡ Some t → after.at ≡ t.to) → ahead_of found None after ≡ ahead_from bytes at
pulled None bytes at after next same on = ap (ahead_with (ahead_from bytes)) next ∙ sym (ahead_step bytes at)
pulled (Some t) bytes at after next same on =
    let place = on t refl in
    rw (same, place) (ap (ahead_with (ahead_from bytes)) next ∙ sym (ahead_step bytes at))

-- nothing more at a fault
pub faulted : (e : LexFault) (bytes : List ℕ) (at : ℕ) (after : Reading) → outcome (Err e) ≡ next_lexeme bytes at
    → ahead_of None (Some e) after ≡ ahead_from bytes at
faulted e bytes at after next = ap (ahead_with (ahead_from bytes)) next ∙ sym (ahead_step bytes at)
