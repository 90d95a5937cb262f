-- What `lend` says of the borrow.
use Rattle.std.specs.Prelude.{[]}
use Rattle.std.specs.Borrow.{Lends, MutBor, Fml}
use denote.RattleType.{RattleType}
use mir.Syntax.{named}
use Rattle.sot_turn_journal.specs.declared.Journal.{Ghosts}
use Rattle.sot_turn.specs.declared.turn.Held.{Held}
use Rattle.sot_turn.specs.contracts.turn.Held.{the_row}
use Rattle.sot_turn.specs.Passes.{with_value}

-- the held value ends as the last value behind the reference
abbrev pub LendsValue : (Value Ground Entry : RattleType)
    (journal : Ghosts Value.Denot Ground.Denot Entry.Denot) →
    MutBor (Held Value.Denot Ground.Denot Entry.Denot journal) → MutBor Value.Denot → Fml
LendsValue Value Ground Entry journal held lent =
    Lends (the_row (record { mir = named 1; lft = [] }) Value Ground Entry journal) Value held lent
    (with_value held.now)
