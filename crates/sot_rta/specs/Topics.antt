-- Which topics some scalars are of.
use Rattle.std.specs.Prelude.{ℕ, ◌≡◌, ◌⊎◌, List}
use Rattle.sot_lang.specs.declared.tables.ScalarInfo.{ScalarInfo}
use Rattle.sot_lists.specs.Places.{At, Has}

-- some of these scalars is of topic t
abbrev pub AreSomeOf : List ScalarInfo → List ℕ → ℕ → Type 0
AreSomeOf infos scalars t =
    (k : ℕ) × Has scalars k × ((info : ScalarInfo) × At infos k info × (info.topic ≡ t))

-- t is a topic of one of the two lists alone
abbrev pub IsOfOneAlone : List ScalarInfo → List ℕ → List ℕ → ℕ → Type 0
IsOfOneAlone infos some others t =
    (AreSomeOf infos some t × (AreSomeOf infos others t → ⊥))
    ⊎ (AreSomeOf infos others t × (AreSomeOf infos some t → ⊥))

-- t is a topic of the first list and not of the second
abbrev pub IsMissing : List ScalarInfo → List ℕ → List ℕ → ℕ → Type 0
IsMissing infos some others t = AreSomeOf infos some t × (AreSomeOf infos others t → ⊥)

-- t is a topic of both lists or of none
abbrev pub AreAlike : List ScalarInfo → List ℕ → List ℕ → ℕ → Type 0
AreAlike infos some others t =
    (AreSomeOf infos some t → AreSomeOf infos others t)
    × (AreSomeOf infos others t → AreSomeOf infos some t)

-- a topic of the first list is one of the second
abbrev pub GoesOver : List ScalarInfo → List ℕ → List ℕ → ℕ → Type 0
GoesOver infos some others t = AreSomeOf infos some t → AreSomeOf infos others t
