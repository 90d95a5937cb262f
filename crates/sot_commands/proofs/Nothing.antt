-- What is taken of a source: all that it has left, or nothing.
use Rattle.std.proofs.Common.{ℕ, List, [], Option, refl}
use Rattle.sot_ports.specs.Whole.{ReadsAll}
use Rattle.sot_commands.specs.declared.words.Command.{Command}
use Rattle.sot_commands.specs.declared.words.Command.TheVariants.{Check, Fly, Replay, Recover, Watch, Format, Certify, Make, Soak}
use Rattle.sot_commands.specs.Words.{Reads}
use Rattle.sot_commands.specs.Ends.{Takes}

-- a command that reads takes all
pub takes_all : (c : Command) (left after : Option (List ℕ)) (bytes : List ℕ) → Reads c → ReadsAll left after bytes → Takes c left after bytes
takes_all Check left after bytes reads all = all
takes_all Fly left after bytes reads all = all
takes_all Replay left after bytes reads all = all
takes_all Recover left after bytes reads all = all
takes_all (Watch formula) left after bytes reads all = all
takes_all Format left after bytes reads all = all
takes_all Certify left after bytes reads all = all
takes_all (Make n seed) left after bytes reads all = absurd reads
takes_all (Soak n seed) left after bytes reads all = absurd reads

-- and one that does not takes nothing
pub takes_none : (c : Command) (left : Option (List ℕ)) → ¬ (Reads c) → Takes c left left []
takes_none Check left none = absurd (none tt)
takes_none Fly left none = absurd (none tt)
takes_none Replay left none = absurd (none tt)
takes_none Recover left none = absurd (none tt)
takes_none (Watch formula) left none = absurd (none tt)
takes_none Format left none = absurd (none tt)
takes_none Certify left none = absurd (none tt)
takes_none (Make n seed) left none = (refl, refl)
takes_none (Soak n seed) left none = (refl, refl)
