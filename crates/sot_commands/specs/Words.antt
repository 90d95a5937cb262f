-- Which words ask for which command.
use Rattle.std.specs.Prelude.{◌≡◌, ℕ, ◌≤◌, List, [], ◌∷◌, false, codes, map, String}
use Rattle.std.specs.Fmt.{decimal}
use Rattle.std.specs.String.{string_bytes}
use Rattle.std.proofs.Common.{Global}
use Rattle.sot_commands.specs.declared.words.Command.{Command}
use Rattle.sot_commands.specs.declared.words.Command.TheVariants.{Check, Fly, Replay, Format}
use Rattle.sot_commands.specs.declared.words.Command.TheVariants.{Recover, Watch, Certify}
use Rattle.sot_commands.specs.declared.words.Command.TheVariants.{Make, Soak}
use Rattle.sot_commands.specs.WordParser.{is_dashed}

-- the word of a command
abbrev pub word_of : Command → List ℕ
word_of Check = codes "check"
word_of Fly = codes "fly"
word_of Replay = codes "replay"
word_of Recover = codes "recover"
word_of (Watch formula) = codes "watch"
word_of Format = codes "format"
word_of Certify = codes "certify"
word_of (Make n seed) = codes "make"
word_of (Soak n seed) = codes "soak"

-- the words behind it: a formula, or two numbers in decimal, without zeros in front
abbrev pub words_behind : Command → List (List ℕ)
words_behind Check = []
words_behind Fly = []
words_behind Replay = []
words_behind Recover = []
words_behind (Watch formula) = formula.now ∷ []
words_behind Format = []
words_behind Certify = []
words_behind (Make n seed) = decimal n ∷ decimal seed ∷ []
words_behind (Soak n seed) = decimal n ∷ decimal seed ∷ []

-- 1 to 100 modules, and a seed of at most 10^12
abbrev pub AreAsked : ℕ → ℕ → Type 0
AreAsked n seed = (1 ≤ n) × (n ≤ 100) × (seed ≤ 1000000000000)

-- numbers are in their bounds, and no formula begins with `-`
abbrev pub IsInForm : Command → Type 0
IsInForm Check = Unit {0}
IsInForm Fly = Unit {0}
IsInForm Replay = Unit {0}
IsInForm Recover = Unit {0}
IsInForm (Watch formula) = is_dashed formula.now ≡ false
IsInForm Format = Unit {0}
IsInForm Certify = Unit {0}
IsInForm (Make n seed) = AreAsked n seed
IsInForm (Soak n seed) = AreAsked n seed

-- the words ask for this command: they are its word, and those behind it
abbrev pub Asks : List (String Global) → Command → Type 0
Asks words command =
    (map string_bytes words ≡ word_of command ∷ words_behind command) × IsInForm command

-- the commands that read an input
abbrev pub Reads : Command → Type 0
Reads Check = Unit {0}
Reads Fly = Unit {0}
Reads Replay = Unit {0}
Reads Recover = Unit {0}
Reads (Watch formula) = Unit {0}
Reads Format = Unit {0}
Reads Certify = Unit {0}
Reads (Make n seed) = ⊥
Reads (Soak n seed) = ⊥

-- the commands that fly
abbrev pub Flies : Command → Type 0
Flies Check = ⊥
Flies Fly = Unit {0}
Flies Replay = ⊥
Flies Recover = ⊥
Flies (Watch formula) = Unit {0}
Flies Format = ⊥
Flies Certify = ⊥
Flies (Make n seed) = ⊥
Flies (Soak n seed) = Unit {0}

-- the words ask for a command that flies
abbrev pub AsksFlight : List (String Global) → Type 0
AsksFlight words = (command : Command) × Flies command × Asks words command

-- the words ask for a flight that a formula watches
abbrev pub AsksWatch : List (String Global) → Type 0
AsksWatch words = (formula : _) × Asks words (Watch formula)

-- the words ask for a command that reads, or for none that does
abbrev pub AsksReader : List (String Global) → Type 0
AsksReader words = (command : Command) × Reads command × Asks words command

abbrev pub AsksNoReader : List (String Global) → Type 0
AsksNoReader words = (command : Command) → Reads command → ¬ (Asks words command)

-- the words ask for no command
abbrev pub AsksNone : List (String Global) → Type 0
AsksNone words = (command : Command) → ¬ (Asks words command)

-- behind the first word stand these two numbers, and no more words
abbrev pub HasNumbers : List (String Global) → ℕ → ℕ → Type 0
HasNumbers words n seed =
    (name : List ℕ) × (map string_bytes words ≡ name ∷ decimal n ∷ decimal seed ∷ [])
    × AreAsked n seed

-- behind the first word stands this formula, and no more words
abbrev pub HasFormula : List (String Global) → List ℕ → Type 0
HasFormula words formula = (name : List ℕ) × (map string_bytes words ≡ name ∷ formula ∷ [])

-- behind the first word stand the numbers or the formula of this command, if it has any
abbrev pub IsNumbered : List (String Global) → Command → Type 0
IsNumbered words Check = Unit {0}
IsNumbered words Fly = Unit {0}
IsNumbered words Replay = Unit {0}
IsNumbered words Recover = Unit {0}
IsNumbered words (Watch formula) = HasFormula words formula.now
IsNumbered words Format = Unit {0}
IsNumbered words Certify = Unit {0}
IsNumbered words (Make n seed) = HasNumbers words n seed
IsNumbered words (Soak n seed) = HasNumbers words n seed
