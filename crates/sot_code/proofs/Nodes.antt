-- A firing's end, as it is handed out.
use Rattle.std.proofs.Common.{◌≡◌, ℕ, ◌-◌, ◌≤◌, ℤ, Option, None, List, ◌++◌, Ok, Err, take, drop, length, replicate, sym, ap, ◌∙◌, arith}
use Rattle.std.proofs.lemmas.List.{length-map, take-append-drop, take-replicate, drop-replicate, length-take-le}
use Rattle.sot_lists.specs.Places.{At}
use Rattle.sot_lang.specs.declared.act.Act.{Act}
use Rattle.sot_lang.specs.declared.trap.Trap.{Trap}
use Rattle.sot_lang.specs.declared.tables.NodeInfo.{NodeInfo}
use Rattle.sot_lang.specs.Tables.{Tables}
use Rattle.sot_lang.specs.Ranges.{local_ranges, write_ranges, range_of}
use Rattle.sot_lang.specs.TableRules.{MeetsTableRules}
use Rattle.sot_lang.specs.Bodies as bodies
use Rattle.std.proofs.Math.Seq.{take-append_seam, drop-append_seam}
use Rattle.sot_code.specs.Firings.{fired_at, run_of, IsRunnable}
use Rattle.sot_code.specs.Recorded.{in_slots, recorded}

-- what an execution begins with: the locals, and nothing drafted
pub starts : (p : Tables) (node : NodeInfo) (acts : List Act) (numbers : List ℤ) → length node.writes.items ≤ 8
    → bodies.execution acts (local_ranges node) (write_ranges p node) (take (length node.reads.items) numbers) (drop (length node.reads.items) numbers)
    ≡ run_of p node numbers acts (fired_at node numbers (replicate 8 None))
unfolding bodies.execution
starts p node acts numbers few =
    let count = length node.writes.items in
    let e : replicate (length (write_ranges p node)) None ≡ take count (replicate 8 None) =
    ap (λ n. replicate n None) (length-map node.writes.items (range_of p.scalars)) ∙ sym (take-replicate count 8 None few) in
    ap (λ d. run_of p node numbers acts (record { locals = drop (length node.reads.items) numbers; draft = d })) e

-- a draft in its eight slots is what its first slots hold, where the others hold nothing
pub slots_are : (n : ℕ) (draft : List (Option ℤ)) → n ≤ 8 → length draft ≡ 8 → drop n draft ≡ drop n (replicate 8 None) → in_slots (take n draft) ≡ draft
slots_are n draft few size rest =
    let taken : length (take n draft) ≡ n = length-take-le n draft (omega arith) in
    ap (λ k. take n draft ++ replicate (8 - k) None) taken
    ∙ ap (λ l. take n draft ++ l) (sym (rest ∙ drop-replicate n 8 None))
    ∙ take-append-drop n draft

module _ (p : Tables) (node : NodeInfo) (acts : List Act) (numbers : List ℤ) (few : length node.writes.items ≤ 8) where
  pub fires : (new : List ℤ) (draft : List (Option ℤ)) (locals : List ℤ) → length draft ≡ 8
      → drop (length node.writes.items) draft ≡ drop (length node.writes.items) (replicate 8 None)
      → locals ≡ drop (length node.reads.items) new → run_of p node numbers acts (fired_at node numbers (replicate 8 None)) ≡ Ok (fired_at node new draft)
      → Ok (record { locals = locals; draft = draft }) ≡ recorded
      (bodies.execution acts (local_ranges node) (write_ranges p node) (take (length node.reads.items) numbers) (drop (length node.reads.items) numbers))
  fires new draft locals size rest is ends =
      let slots = slots_are (length node.writes.items) draft few size rest in
      sym (ap recorded (starts p node acts numbers few ∙ ends) ∙ ap (λ d. Ok (record { locals = drop (length node.reads.items) new; draft = d })) slots
      ∙ ap (λ l. Ok (record { locals = l; draft = draft })) (sym is))

  pub traps : (t : Trap) → run_of p node numbers acts (fired_at node numbers (replicate 8 None)) ≡ Err t
      → Err t ≡ recorded (bodies.execution acts (local_ranges node) (write_ranges p node) (take (length node.reads.items) numbers)
      (drop (length node.reads.items) numbers))
  traps t ends = sym (ap recorded (starts p node acts numbers few ∙ ends))

-- a node of tables that meet their rules can run
pub runnable : (p : Tables) (n : ℕ) (node : NodeInfo) → MeetsTableRules p → At p.nodes n node → IsRunnable p node
runnable p n node rules at = record { few = (rules.nodes n node at).writes; written = λ i k h. rules.typed.inside n node k at (i, h) }

-- numbers that are joined are taken apart again
pub taken_front : (seen locals numbers : List ℤ) (n : ℕ) → length seen ≡ n → numbers ≡ seen ++ locals → take n numbers ≡ seen
taken_front seen locals numbers n size is = rw (is, ← size) (take-append_seam seen locals)

pub taken_back : (seen locals numbers : List ℤ) (n : ℕ) → length seen ≡ n → numbers ≡ seen ++ locals → drop n numbers ≡ locals
taken_back seen locals numbers n size is = rw (is, ← size) (drop-append_seam seen locals)
