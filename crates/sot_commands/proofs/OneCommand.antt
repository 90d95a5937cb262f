-- Words ask for one command, but for where the text of a formula lies.
use Rattle.std.proofs.Common.{◌≡◌, ℕ, ◌<◌, ◌^◌, List, [], ◌∷◌, refl, sym, ap, ap₂, ◌∙◌, arith, codes, map, drop, Global, Bor}
use Rattle.std.specs.Prelude.{if◌then◌else◌, String}
use Rattle.std.specs.Str.{bytes_eq}
use Rattle.std.specs.Fmt.{decimal}
use Rattle.std.proofs.lemmas.Fmt.{decimal_injective}
use Rattle.sot_commands.specs.declared.words.Command.{Command}
use Rattle.sot_commands.specs.declared.words.Command.TheVariants.{Check, Fly, Replay, Recover, Watch, Format, Certify, Make, Soak}
use Rattle.sot_commands.specs.Words.{word_of, words_behind, IsInForm, Asks}

-- a text, wherever it lies
abbrev pub at_text : List ℕ → Bor (List ℕ)
at_text text = record { ref_ptr = (0, 0); now = text }

-- a command without the place of its formula's text
abbrev pub plain : Command → Command
plain Check = Check
plain Fly = Fly
plain Replay = Replay
plain Recover = Recover
plain (Watch formula) = Watch (at_text formula.now)
plain Format = Format
plain Certify = Certify
plain (Make n seed) = Make n seed
plain (Soak n seed) = Soak n seed

-- its numbers, and its formula
numbers_in : Command → List ℕ
numbers_in Check = []
numbers_in Fly = []
numbers_in Replay = []
numbers_in Recover = []
numbers_in (Watch formula) = []
numbers_in Format = []
numbers_in Certify = []
numbers_in (Make n seed) = n ∷ seed ∷ []
numbers_in (Soak n seed) = n ∷ seed ∷ []

formula_in : Command → List ℕ
formula_in Check = []
formula_in Fly = []
formula_in Replay = []
formula_in Recover = []
formula_in (Watch formula) = formula.now
formula_in Format = []
formula_in Certify = []
formula_in (Make n seed) = []
formula_in (Soak n seed) = []

-- a command is told by its word, its numbers and its formula
told : List ℕ → List ℕ → List ℕ → Command
told word [] formula =
    if bytes_eq word (codes "check") then Check
    else if bytes_eq word (codes "fly") then Fly
    else if bytes_eq word (codes "replay") then Replay
    else if bytes_eq word (codes "recover") then Recover
    else if bytes_eq word (codes "watch") then Watch (at_text formula)
    else if bytes_eq word (codes "format") then Format
    else Certify
told word (n ∷ []) formula = Check
told word (n ∷ seed ∷ more) formula = if bytes_eq word (codes "make") then Make n seed else Soak n seed

told_words : (c : Command) → told (word_of c) (numbers_in c) (formula_in c) ≡ plain c
unfolding told numbers_in formula_in
told_words Check = refl
told_words Fly = refl
told_words Replay = refl
told_words Recover = refl
told_words (Watch formula) = refl
told_words Format = refl
told_words Certify = refl
told_words (Make n seed) = refl
told_words (Soak n seed) = refl

-- one word behind the first is a formula, and two are numbers
two_behind : List (List ℕ) → List (List ℕ)
two_behind [] = []
two_behind (t ∷ []) = []
two_behind (t ∷ u ∷ more) = t ∷ u ∷ more

one_behind : List (List ℕ) → List ℕ
one_behind [] = []
one_behind (t ∷ []) = t
one_behind (t ∷ u ∷ more) = []

numbers_behind : (c : Command) → two_behind (words_behind c) ≡ map decimal (numbers_in c)
unfolding two_behind numbers_in
numbers_behind Check = refl
numbers_behind Fly = refl
numbers_behind Replay = refl
numbers_behind Recover = refl
numbers_behind (Watch formula) = refl
numbers_behind Format = refl
numbers_behind Certify = refl
numbers_behind (Make n seed) = refl
numbers_behind (Soak n seed) = refl

formula_behind : (c : Command) → one_behind (words_behind c) ≡ formula_in c
unfolding one_behind formula_in
formula_behind Check = refl
formula_behind Fly = refl
formula_behind Replay = refl
formula_behind Recover = refl
formula_behind (Watch formula) = refl
formula_behind Format = refl
formula_behind Certify = refl
formula_behind (Make n seed) = refl
formula_behind (Soak n seed) = refl

-- numbers are told by their decimals
AreShort : List ℕ → Type 0
AreShort [] = Unit {0}
AreShort (n ∷ ns) = (n < 2 ^ 64) × AreShort ns

short_numbers : (c : Command) → IsInForm c → AreShort (numbers_in c)
unfolding AreShort numbers_in
short_numbers Check form = tt
short_numbers Fly form = tt
short_numbers Replay form = tt
short_numbers Recover form = tt
short_numbers (Watch formula) form = tt
short_numbers Format form = tt
short_numbers Certify form = tt
short_numbers (Make n seed) form = (omega arith, (omega arith, tt))
short_numbers (Soak n seed) form = (omega arith, (omega arith, tt))

head_same : (a b : List ℕ) (xs ys : List (List ℕ)) → a ∷ xs ≡ b ∷ ys → a ≡ b
head_same a b xs ys e = cc

same_numbers : (ms ns : List ℕ) → AreShort ms → AreShort ns → map decimal ms ≡ map decimal ns → ms ≡ ns
unfolding AreShort
same_numbers [] [] x y e = refl
same_numbers [] (n ∷ ns) x y e = absurd cc
same_numbers (m ∷ ms) [] x y e = absurd cc
same_numbers (m ∷ ms) (n ∷ ns) (x, xs) (y, ys) e =
    let head = head_same (decimal m) (decimal n) (map decimal ms) (map decimal ns) e in
    ap₂ (λ (k : ℕ) (ks : List ℕ). k ∷ ks) (decimal_injective m n x y head) (same_numbers ms ns xs ys (ap (drop 1) e))

-- words ask for one command
pub same_command : (words : List (String Global)) (c d : Command) → Asks words c → Asks words d → plain c ≡ plain d
same_command words c d a b =
    let both = sym a.0 ∙ b.0 in
    let word = head_same (word_of c) (word_of d) (words_behind c) (words_behind d) both in
    let behind : words_behind c ≡ words_behind d = ap (drop 1) both in
    let numbers = same_numbers (numbers_in c) (numbers_in d) (short_numbers c a.1) (short_numbers d b.1)
    (sym (numbers_behind c) ∙ ap two_behind behind ∙ numbers_behind d) in
    let formulas : formula_in c ≡ formula_in d = sym (formula_behind c) ∙ ap one_behind behind ∙ formula_behind d in
    sym (told_words c) ∙ (λ i. told (word i) (numbers i) (formulas i)) ∙ told_words d
