use Rattle.std.proofs.Common.{sym, subst}
use Rattle.std.specs.Str.{IsUtf8}
use Rattle.sot_syntax_tree.specs.Letters.{letters_of}
use Rattle.sot_syntax_tree.proofs.Names.{name_utf8}
use Rattle.sot_syntax_tree.proofs.name.Name.as_str.Goals as goal

pub from_utf8_unchecked-requires : goal.from_utf8_unchecked-requires
from_utf8_unchecked-requires c = subst IsUtf8 (sym c.as_slice.ensures) (name_utf8 (letters_of c.self.inside.letters) c.self.invariant)
