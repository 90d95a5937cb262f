-- Which topics a bridge may join.
use Rattle.std.specs.Prelude.{◌≡◌, ℕ, ◌+◌, ◌<◌, ◌≤ℤ◌, Bool, List}
use Rattle.sot_lists.specs.Places.{At}
use Rattle.sot_lang.specs.declared.tables.TopicInfo.{TopicInfo}
use Rattle.sot_lang.specs.declared.tables.ScalarInfo.{ScalarInfo}
use Rattle.sot_lang.specs.Tables.{Tables}

-- a topic has this name, and is an environment topic or is none
abbrev pub HasName : List ℕ → Bool → TopicInfo → Type 0
HasName name outside info = (info.name ≡ name) × (info.outside ≡ outside)

-- topic k of the program has this name, and is an environment topic or is none
abbrev pub IsNamed : Tables → List ℕ → Bool → ℕ → Type 0
IsNamed p name outside k = (info : TopicInfo) × At p.topics k info × HasName name outside info

-- what a scalar holds the other one may hold: they have one scale, both are truth values or none
-- is, and the one's range is inside the other's
pub record Suits (x y : ScalarInfo) : Type 0 where
  pub scale : x.scale ≡ y.scale
  pub truth : x.truth ≡ y.truth
  pub low : y.lo ≤ℤ x.lo
  pub high : x.hi ≤ℤ y.hi

-- a topic of p and one of q have as many scalars, and place by place the one suits the other
pub record Match (p q : Tables) (a b : TopicInfo) : Type 0 where
  pub count : a.count ≡ b.count
  pub each : (i : ℕ) (x y : ScalarInfo) → i < a.count → At p.scalars (a.first + i) x
      → At q.scalars (b.first + i) y → Suits x y
