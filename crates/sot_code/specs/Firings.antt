-- Firings as the code makes them.
use Rattle.std.specs.Prelude.{◌≡◌, ℕ, ◌<◌, ◌≤◌, ℤ, List, Option, Some, slice_set, Result, Ok, Err}
use Rattle.std.specs.Prelude.{length, take, drop}
use Rattle.sot_text.specs.declared.token.Span.{Span}
use Rattle.sot_lists.specs.Places.{At}
use Rattle.sot_lang.specs.declared.act.Act.{Act}
use Rattle.sot_lang.specs.declared.trap.Trap.{Trap}
use Rattle.sot_lang.specs.declared.tables.NodeInfo.{NodeInfo}
use Rattle.sot_lang.specs.Tables.{Tables}
use Rattle.sot_lang.specs.Ranges.{local_ranges, write_ranges}
use Rattle.sot_lang.specs.Values.{Outcome, then_with}
use Rattle.sot_lang.specs.Bodies.{Fired, act, body, times, in_range}

-- the locals, which stand behind what is read, and the drafts of the scalars that the node writes
abbrev pub fired_at : NodeInfo → List ℤ → List (Option ℤ) → Fired
fired_at node numbers draft =
    record {
      locals = drop (length node.reads.items) numbers;
      draft = take (length node.writes.items) draft;
    }

-- an outcome is what the numbers and the draft hold now, or the trap
abbrev pub Ends : {U : Type 0} → NodeInfo → Result U Trap → List ℤ → List (Option ℤ) → Outcome Fired
    → Type 0
Ends node (Ok u) numbers draft o = o ≡ Ok (fired_at node numbers draft)
Ends node (Err t) numbers draft o = o ≡ Err t

-- what one statement, some statements, and so many turns of a block leave
abbrev pub step_of : Tables → NodeInfo → List ℤ → Act → Fired → Outcome Fired
step_of p node numbers one f =
    act (take (length node.reads.items) numbers) (local_ranges node) (write_ranges p node) one f

abbrev pub run_of : Tables → NodeInfo → List ℤ → List Act → Fired → Outcome Fired
run_of p node numbers acts f =
    body (take (length node.reads.items) numbers) (local_ranges node) (write_ranges p node) acts f

abbrev pub turns_of : Tables → NodeInfo → List ℤ → ℕ → List Act → Fired → Outcome Fired
turns_of p node numbers count acts f = times count (run_of p node numbers acts) f

-- a node writes at most eight scalars, which exist
pub record IsRunnable (p : Tables) (node : NodeInfo) : Type 0 where
  pub few : length node.writes.items ≤ 8
  pub written : (i k : ℕ) → At node.writes.items i k → k < length p.scalars

-- a value is assigned, or drafted
abbrev pub assign_of : NodeInfo → ℕ → Span → Outcome ℤ → Fired → Outcome Fired
assign_of node k at value f =
    then_with (then_with value (in_range (local_ranges node) k at))
    (λ z. Ok (record { locals = slice_set f.locals k z; draft = f.draft }))

abbrev pub publish_of : Tables → NodeInfo → ℕ → Span → Outcome ℤ → Fired → Outcome Fired
publish_of p node k at value f =
    then_with (then_with value (in_range (write_ranges p node) k at))
    (λ z. Ok (record { locals = f.locals; draft = slice_set f.draft k (Some z) }))
