-- The records of a history: words, and numbers that stand in one list. Nothing here has to be
-- trusted: which entries a history has, is said by the clauses of its calls in the entries
-- themselves (`HistoryEntry`), whatever the words are.
use Rattle.std.specs.Prelude.{ℕ, zero, suc, ℤ, pos, ◌+◌, ◌*◌, ◌/◌, ◌%◌, ◌==◌, ◌-ℤ◌, Bool, true}
use Rattle.std.specs.Prelude.{false, if◌then◌else◌, Option, None, Some, List, [], ◌∷◌, take, drop}
use Rattle.std.specs.Prelude.{replicate, slice_index_or, unsigned_abs}
use Rattle.sot_world.specs.declared.mode.Mode.{Mode}
use Rattle.sot_world.specs.declared.mode.Mode.TheVariants.{Ac, Sc}
use Rattle.sot_world.specs.HistoryEntry.{Logged, InputAt, FireAt, DecideAt, TickAt}

-- a draft: numbers in order, in the slots where one is there
abbrev pub slots_filled : List Bool → List ℤ → List (Option ℤ)
slots_filled [] ns = []
slots_filled (false ∷ bs) ns = None ∷ slots_filled bs ns
slots_filled (true ∷ bs) [] = None ∷ slots_filled bs []
slots_filled (true ∷ bs) (n ∷ ns) = Some n ∷ slots_filled bs ns

-- how many slots have a number
abbrev pub count_there : List Bool → ℕ
count_there [] = 0
count_there (false ∷ bs) = count_there bs
count_there (true ∷ bs) = suc (count_there bs)

-- so many flags in the bits of a number, the first one in the lowest
abbrev pub flags_in : ℕ → ℕ → List Bool
flags_in zero bits = []
flags_in (suc k) bits = (bits % 2 == 1) ∷ flags_in k (bits / 2)

-- the count at a place, which stands before the numbers that it counts
abbrev pub count_at : List ℤ → ℕ → ℕ
count_at numbers at = unsigned_abs (slice_index_or numbers at (pos 0))

-- the numbers that the count at a place counts, which stand behind it
abbrev pub counted_at : List ℤ → ℕ → List ℤ
counted_at numbers at = take (count_at numbers at) (drop (at + 1) numbers)

-- where the numbers end that the count at a place counts
abbrev pub end_at : List ℤ → ℕ → ℕ
end_at numbers at = at + 1 + count_at numbers at

-- a number of 32 bits at a place
abbrev pub short_at : List ℤ → ℕ → ℕ
short_at numbers at = count_at numbers at % 4294967296

-- what a word says: most are of the first two forms, which hold all of an entry; of the others
-- there is a place of the list, where their time stands
pub data Record : Type 0 where
  -- a draft with a number in its first slot alone
  One : (time node : ℕ) (number : ℤ) (enabled : Bool) → Record
  Decision : (time decider : ℕ) (mode : Mode) → Record
  -- a time, a node, and the numbers of a draft, in the slots that have a bit, the first one the
  -- lowest
  Firing : (place there : ℕ) (enabled : Bool) → Record
  -- a time and a module
  LateDecision : (place : ℕ) (mode : Mode) → Record
  -- a time, a topic, and a count before the numbers of a value
  Value : (place : ℕ) → Record
  -- a time, and disturbances and states, each behind their count
  Moves : (place : ℕ) → Record

-- a flag as a number
abbrev pub bit_of : Bool → ℕ
bit_of b = if b then 1 else 0

-- a word that holds an entry: three bits of its form, a flag, 18 bits of time, 10 of an index, and
-- 32 of a number
abbrev pub near_word : (form flag time index number : ℕ) → ℕ
near_word form flag time index number =
    form + 8 * (flag + 2 * (time + 262144 * (index + 1024 * number)))

-- a word that holds a place: three bits of its form, a flag, eight bits of slots, and the place
abbrev pub far_word : (form flag there place : ℕ) → ℕ
far_word form flag there place = form + 8 * (flag + 2 * (there + 256 * place))

-- the parts of words
abbrev pub flag_in : ℕ → Bool
flag_in word = word / 8 % 2 == 1

abbrev pub time_in : ℕ → ℕ
time_in word = word / 16 % 262144

abbrev pub index_in : ℕ → ℕ
index_in word = word / 4194304 % 1024

-- the number in a word, which is counted from the lowest number of 32 bits on
abbrev pub number_in : ℕ → ℤ
number_in word = pos (word / 4294967296) -ℤ pos 2147483648

abbrev pub there_in : ℕ → ℕ
there_in word = word / 16 % 256

abbrev pub place_in : ℕ → ℕ
place_in word = word / 4096

abbrev pub mode_in : ℕ → Mode
mode_in word = if flag_in word then Ac else Sc

-- a word as a record of a form
abbrev pub record_as : ℕ → ℕ → Record
record_as form word =
    if form == 0 then One (time_in word) (index_in word) (number_in word) (flag_in word)
    else if form == 1 then Decision (time_in word) (index_in word) (mode_in word)
    else if form == 2 then Firing (place_in word) (there_in word) (flag_in word)
    else if form == 3 then LateDecision (place_in word) (mode_in word)
    else if form == 4 then Value (place_in word)
    else Moves (place_in word)

-- a word as a record of the form that it says
abbrev pub record_in : ℕ → Record
record_in word = record_as (word % 8) word

-- an entry, with its numbers from the list
abbrev pub logged : List ℤ → Record → Logged
logged numbers (One time node number enabled) =
    FireAt time node (Some number ∷ replicate 7 None) enabled
logged numbers (Decision time m mode) = DecideAt time m mode
logged numbers (Firing place there enabled) =
    FireAt (short_at numbers place) (short_at numbers (place + 1))
    (slots_filled (flags_in 8 there) (drop (place + 2) numbers)) enabled
logged numbers (LateDecision place mode) =
    DecideAt (short_at numbers place) (short_at numbers (place + 1)) mode
logged numbers (Value place) =
    InputAt (short_at numbers place) (short_at numbers (place + 1)) (counted_at numbers (place + 2))
logged numbers (Moves place) =
    TickAt (short_at numbers place) (counted_at numbers (place + 1))
    (counted_at numbers (end_at numbers (place + 1)))

-- where an entry's numbers end
abbrev pub end_of : List ℤ → Record → ℕ
end_of numbers (One time node number enabled) = 0
end_of numbers (Decision time m mode) = 0
end_of numbers (Firing place there enabled) = place + 2 + count_there (flags_in 8 there)
end_of numbers (LateDecision place mode) = place + 2
end_of numbers (Value place) = end_at numbers (place + 2)
end_of numbers (Moves place) = end_at numbers (end_at numbers (place + 1))

-- the entry that a word tells of, and where its numbers end
abbrev pub entry_in : List ℤ → ℕ → Logged
entry_in numbers word = logged numbers (record_in word)

abbrev pub entry_end : List ℤ → ℕ → ℕ
entry_end numbers word = end_of numbers (record_in word)
