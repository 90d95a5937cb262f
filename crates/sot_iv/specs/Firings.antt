-- What the evaluation of a body holds, and what it needs of a node.
use Rattle.std.specs.Prelude.{ℕ, ◌<◌, ◌≤◌, List, length, slice_set, Ok}
use Rattle.sot_text.specs.declared.token.Span.{Span}
use Rattle.sot_lang.specs.Ranges.{local_ranges, write_ranges}
use Rattle.sot_iv.specs.declared.drafted.Drafted.TheVariants.{Sure}
use Rattle.sot_iv.specs.TermIntervals.{OrMayTrap}
use Rattle.sot_iv.specs.Evaluation.{and_then, put_at, act_intervals, body_intervals, repeated}
use Rattle.sot_lang.specs.declared.act.Act.{Act}
use Rattle.sot_box.specs.Sides.{Side}
use Rattle.sot_lists.specs.Places.{At}
use Rattle.sot_lang.specs.declared.tables.NodeInfo.{NodeInfo}
use Rattle.sot_lang.specs.Tables.{Tables}
use Rattle.sot_iv.specs.declared.drafted.Drafted.{Drafted}
use Rattle.sot_iv.specs.BodyIntervals.{Intervals}

abbrev pub state : List Side → List Drafted → Intervals
state locals draft = record { locals = locals; draft = draft }

-- what one statement, some statements, and so many turns of a block leave
abbrev pub step_of : Tables → NodeInfo → List Side → Act → Intervals → OrMayTrap Intervals
step_of p node seen one f = act_intervals seen (local_ranges node) (write_ranges p node) one f

abbrev pub run_of : Tables → NodeInfo → List Side → List Act → Intervals → OrMayTrap Intervals
run_of p node seen acts f = body_intervals seen (local_ranges node) (write_ranges p node) acts f

abbrev pub turns_of : Tables → NodeInfo → List Side → ℕ → List Act → Intervals → OrMayTrap Intervals
turns_of p node seen count acts f = repeated count (run_of p node seen acts) f

-- an interval is assigned, or drafted
abbrev pub assign_of : NodeInfo → ℕ → Span → OrMayTrap Side → Intervals → OrMayTrap Intervals
assign_of node k at value f =
    and_then (and_then value (put_at (local_ranges node) k at))
    (λ x. Ok (record { locals = slice_set f.locals k x; draft = f.draft }))

abbrev pub publish_of : Tables → NodeInfo → ℕ → Span → OrMayTrap Side → Intervals
    → OrMayTrap Intervals
publish_of p node k at value f =
    and_then (and_then value (put_at (write_ranges p node) k at))
    (λ x. Ok (record { locals = f.locals; draft = slice_set f.draft k (Sure x) }))

-- a node has at most 16 locals, and writes at most 8 scalars, which exist
pub record IsRunnable (p : Tables) (node : NodeInfo) : Type 0 where
  pub few_locals : length node.locals.items ≤ 16
  pub few : length node.writes.items ≤ 8
  pub written : (i k : ℕ) → At node.writes.items i k → k < length p.scalars
