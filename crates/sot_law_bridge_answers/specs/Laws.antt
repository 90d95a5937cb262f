-- What a bridge says of two missions that it does not fly.
use Rattle.std.specs.Prelude.{◌≡◌, ◌⊎◌, ℕ, List, ◌++◌, Some}
use Rattle.sot_commands.specs.declared.words.Command.TheVariants.{Fly}
use Rattle.sot_commands.specs.Answers as soter
use Rattle.sot_commands.specs.Laws.{SaysDeep, TellOneRule}
use Rattle.sot_bridge.specs.MissionHalves.{MissionHalves, halves_of}
use Rattle.sot_bridge.specs.declared.answer.Which.{Which}
use Rattle.sot_bridge.specs.declared.answer.Which.TheVariants.{A, B}
use Rattle.sot_bridge.specs.Answers.{Refutes, Rejects, word_of}

abbrev pub half_of : Which → MissionHalves → List ℕ
half_of A halves = halves.a
half_of B halves = halves.b

abbrev pub RefusedOnce : Type 0
RefusedOnce =
    (from to : List ℕ) (delay : ℕ) (bytes text other : List ℕ) → Refutes from to delay bytes text
    → Refutes from to delay bytes other → text ≡ other

-- behind the word for one mission, two texts tell faults of typing that begin at one place and
-- break one rule, or one of them says that something nests too deep
abbrev pub TellOneMission : List ℕ → List ℕ → Type 0
TellOneMission text other =
    (which : Which) × (x y : List ℕ) × (text ≡ word_of which ++ x) × (other ≡ word_of which ++ y)
    × (TellOneRule x y ⊎ SaysDeep x ⊎ SaysDeep y)

abbrev pub RejectedOnce : Type 0
RejectedOnce =
    (from to : List ℕ) (delay : ℕ) (bytes text other : List ℕ) → Rejects from to delay bytes text
    → Rejects from to delay bytes other → (text ≡ other) ⊎ TellOneMission text other

-- of one mission it is said, behind its word, what `fly` of `soter` says of that mission alone
abbrev pub RefusesLikeFly : Type 0
RefusesLikeFly =
    (from to : List ℕ) (delay : ℕ) (bytes text : List ℕ) → Refutes from to delay bytes text
    → (halves : MissionHalves) × (which : Which) × (line : List ℕ) × (halves_of bytes ≡ Some halves)
    × (text ≡ word_of which ++ line) × soter.Refutes 0 Fly (half_of which halves) line
