-- For which nodes of a flight the start of a thread is tried.
use Rattle.std.specs.Prelude.{ℕ, suc, ◌+◌, ◌*◌, ◌<◌, ◌≡◌, Bool, true, false, ◌&&◌, ◌||◌, nat_le}
use Rattle.std.specs.Prelude.{nat_lt}
use Rattle.std.specs.Prelude.{if◌then◌else◌, List, [], ◌∷◌, length, take, slice_get, slice_index_or}
use Rattle.std.specs.Option.{option_map_or}
use Rattle.sot_lang.specs.declared.act.Act.{Act, Row_of-Act, end_of-Act, more_of-Act}
use Rattle.sot_lang.specs.declared.act.Act.TheVariants.{Assign, Publish, Repeat', If'}
use Rattle.sot_lang.specs.declared.tables.NodeInfo.{NodeInfo}
use Rattle.sot_lang.specs.Tables.{Tables}
use Rattle.sot_flight.specs.Plans.{Plan, Crew, Coded, Script, Wild, Guest}
use Rattle.sot_flight.specs.Counts.{firing_count}

-- how many statements a statement is: itself, and all that stand in it, with loops unrolled
abbrev mutual
  pub weight : Act → ℕ
  weight (Assign k t at) = 1
  weight (Publish k t at) = 1
  weight (If' t s1 us s2 vs) = suc (row_weight us + row_weight vs)
  weight (Repeat' n s us) = suc (n * row_weight us)

  pub row_weight : {m : _} → Row_of-Act m → ℕ
  row_weight end_of-Act = 0
  row_weight (more_of-Act a rest) = weight a + row_weight rest

-- the same of a block
abbrev pub statements : List Act → ℕ
statements [] = 0
statements (a ∷ rest) = weight a + statements rest

-- a node's body has at least 1,000 statements, with loops unrolled
abbrev pub has_long_body : NodeInfo → Bool
has_long_body node = option_map_or (λ v. nat_le 1000 (statements v.items)) node.body false

-- how many of these nodes have a long body
abbrev pub long_count : List NodeInfo → ℕ
long_count [] = 0
long_count (n ∷ ns) = (if has_long_body n then 1 else 0) + long_count ns

-- the body of node n is one of the first 16 long ones
abbrev pub is_long : Tables → ℕ → Bool
is_long p n =
    option_map_or has_long_body (slice_get p.nodes n) false
    && nat_lt (long_count (take n p.nodes)) 16

-- the program has at most 64 nodes, and they fire at most 100,000 times up to the horizon
abbrev pub is_small : Tables → Plan → Bool
is_small p f = nat_le (length p.nodes) 64 && nat_le (firing_count f.horizon p.nodes) 100000

abbrev pub is_guest : Crew → Bool
is_guest Coded = false
is_guest (Script drafts) = false
is_guest (Wild spread seed stream) = false
is_guest (Guest index) = true

-- a guest flies node n
abbrev pub has_guest : Plan → ℕ → Bool
has_guest f n = option_map_or is_guest (slice_get f.crews n) false

-- the start of a thread is tried for node n: the flight is small, or a guest flies the node, or its
-- body is one of the first long ones
abbrev pub is_tried : Tables → Plan → ℕ → Bool
is_tried p f n = is_small p f || has_guest f n || is_long p n

-- of each of so many nodes it is noted whether this holds
pub record AreNoted (count : ℕ) (holds : ℕ → Bool) (noted : List Bool) : Type 0 where
  pub each : length noted ≡ count
  pub is : (n : ℕ) → n < count → slice_index_or noted n false ≡ holds n
