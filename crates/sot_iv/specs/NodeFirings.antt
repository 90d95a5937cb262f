-- What the evaluation of a node's body needs and gives.
use Rattle.std.specs.Prelude.{◌≡◌, ℕ, ◌-◌, ◌+◌, List, ◌++◌, Ok, Err, length, replicate, take, drop}
use Rattle.sot_box.specs.Sides.{Side}
use Rattle.sot_lists.specs.Places.{At}
use Rattle.sot_lang.specs.declared.act.Act.{Act}
use Rattle.sot_lang.specs.declared.tables.NodeInfo.{NodeInfo}
use Rattle.sot_lang.specs.Tables.{Tables}
use Rattle.sot_lang.specs.Ranges.{local_ranges, write_ranges}
use Rattle.sot_lang.specs.TableRules.{IsCoded}
use Rattle.sot_iv.specs.declared.drafted.Drafted.{Drafted}
use Rattle.sot_iv.specs.declared.drafted.Drafted.TheVariants.{Absent}
use Rattle.sot_iv.specs.TermIntervals.{OrMayTrap}
use Rattle.sot_iv.specs.BodyIntervals.{Intervals, IsExecutionIntervals}

-- the node is coded, and there is an interval for each of its read slots and each of its locals
pub record MayEvaluate (p : Tables) (n : ℕ) (ranges : List Side) : Type 0 where
  pub node : NodeInfo
  pub acts : List Act
  pub is : At p.nodes n node
  pub coded : IsCoded node acts
  pub names : length ranges ≡ length node.reads.items + length node.locals.items

-- what is drafted, in eight slots
abbrev pub drafts_of : OrMayTrap Intervals → OrMayTrap (List Drafted)
drafts_of (Ok f) = Ok (f.draft ++ replicate (8 - length f.draft) Absent)
drafts_of (Err t) = Err t

-- the answer is what the node's body drafts, what it reads and its locals in these intervals, or
-- its first trap
abbrev pub IsNodeDraft : Tables → ℕ → List Side → OrMayTrap (List Drafted) → Type 0
IsNodeDraft p n ranges result =
    (node : NodeInfo) (acts : List Act) → At p.nodes n node → IsCoded node acts →
    (o : OrMayTrap Intervals) × IsExecutionIntervals acts (local_ranges node) (write_ranges p node)
    (take (length node.reads.items) ranges) (drop (length node.reads.items) ranges) o
    × (result ≡ drafts_of o)
