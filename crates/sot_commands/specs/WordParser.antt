-- The program's commands as `clap` sees them.
use Rattle.std.specs.Prelude.{ℕ, List, [], ◌∷◌, Bool, true, false, ◌==◌, codes}
use Rattle.std.specs.Prelude.{Some}
use Rattle.clap.specs.declared.builder.action.ArgAction.TheVariants.{Set}
use Rattle.clap.specs.Walk.{Rule}
use Rattle.clap.specs.Simple.{App, Shape, new_rule, new_shape, with_subcommand}

-- a word that begins with '-'
abbrev pub is_dashed : List ℕ → Bool
is_dashed [] = false
is_dashed (b ∷ bs) = b == 45

-- a command without arguments of its own, one of whose subcommands has to be named; the words are
-- those behind the program's name
abbrev pub top : Shape
top =
    record (new_shape (codes "soter")) {
      no_binary_name = true;
      disable_help_flag = true;
      disable_help_subcommand = true;
      subcommand_required = true;
    }

abbrev pub bare : App
bare = record { top = top; subs = [] }

-- an argument that has to be there, with one value
abbrev pub one_value : List ℕ → Rule
one_value id = record (new_rule id) { required = true; action = Some Set }

-- a command with two numbers behind its word
abbrev pub numbered : List ℕ → Shape
numbered name =
    record (new_shape name) { rules = one_value (codes "N") ∷ one_value (codes "SEED") ∷ [] }

-- a command with a formula behind its word
abbrev pub watching : Shape
watching = record (new_shape (codes "watch")) { rules = one_value (codes "FORMULA") ∷ [] }

-- the commands that read a mission alone
abbrev pub missions : App
missions =
    with_subcommand (with_subcommand (with_subcommand (with_subcommand bare
    (new_shape (codes "check"))) (new_shape (codes "fly"))) (new_shape (codes "replay")))
    (new_shape (codes "recover"))

-- the commands that read a text: those of `missions`, the one that has a formula besides, and
-- those that read a program
abbrev pub readers : App
readers =
    with_subcommand (with_subcommand (with_subcommand missions watching)
    (new_shape (codes "format"))) (new_shape (codes "certify"))

-- all commands: those that read a text, and those that read nothing
abbrev pub program : App
program =
    with_subcommand (with_subcommand readers (numbered (codes "make"))) (numbered (codes "soak"))
