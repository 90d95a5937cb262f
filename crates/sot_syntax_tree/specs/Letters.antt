-- The bytes of a name, as contracts see them.
use Rattle.std.specs.Prelude.{ℕ, List}
use Rattle.sot_syntax_tree.specs.declared.letters.Letters.{Letters}
use Rattle.sot_syntax_tree.specs.declared.letters.Letters.TheVariants.{Few, Many}

abbrev pub letters_of : Letters → List ℕ
letters_of (Few row) = row
letters_of (Many row) = row.value
