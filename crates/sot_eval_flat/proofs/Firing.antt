-- A firing in flat form is the execution of the body.
use Rattle.std.proofs.Common.{◌≡◌, ℕ, ◌≤◌, ℤ, Option, None, List, ◌++◌, Ok, Result, take, drop, length, replicate, sym, ap, ◌∙◌, subst}
use Rattle.sot_lists.specs.Places.{At}
use Rattle.sot_lang.specs.declared.act.Act.{Act}
use Rattle.sot_lang.specs.declared.trap.Trap.{Trap}
use Rattle.sot_lang.specs.declared.tables.NodeInfo.{NodeInfo}
use Rattle.sot_lang.specs.Tables.{Tables}
use Rattle.sot_lang.specs.Ranges.{local_ranges, write_ranges}
use Rattle.sot_lang.specs.TableRules.{IsCoded}
use Rattle.sot_lang.specs.Bodies.{execution}
use Rattle.sot_lang.proofs.Owners.{one_body}
use Rattle.std.proofs.lemmas.Option.{same_Some}
use Rattle.sot_code.specs.declared.fired.Fired.{Fired}
use Rattle.sot_code.specs.Recorded.{recorded, IsExecution, MayRun}
use Rattle.sot_code.proofs.Nodes.{fires, taken_front, taken_back}
use Rattle.sot_eval_flat.specs.Flows.{state, FlowAll}
use Rattle.sot_eval_flat.specs.Shapes.{IsRoom}
use Rattle.sot_eval_flat.specs.Carries.{name_count}
use Rattle.sot_eval_flat.specs.FlatForm.{IsFlatOf}
use Rattle.sot_eval_flat.specs.declared.flat.Flat.{Flat}

-- the one node and body at a place
pub only : (p : Tables) (n : ℕ) (node : NodeInfo) (acts : List Act) (seen locals : List ℤ) (result : Result Fired Trap) → At p.nodes n node → IsCoded node acts
    → result ≡ recorded (execution acts (local_ranges node) (write_ranges p node) seen locals) → IsExecution p n seen locals result
only p n node acts seen locals result at coded e other others there theirs =
    let same : node ≡ other = same_Some node other (sym at ∙ there) in
    let bodies : acts ≡ others = one_body other acts others (subst (λ x. IsCoded x acts) same coded) theirs in
    e ∙ ap (λ x. recorded (execution acts (local_ranges x) (write_ranges p x) seen locals)) same
    ∙ ap (λ us. recorded (execution us (local_ranges other) (write_ranges p other) seen locals)) bodies

-- the node of what is asked is that of the flat form
pub same_node : (p : Tables) (n : ℕ) (flat : Flat) (seen locals : List ℤ) → (f : IsFlatOf p n flat) → (m : MayRun p n seen locals) → m.node ≡ f.node
same_node p n flat seen locals f m = same_Some m.node f.node (sym m.is ∙ f.is)

-- where the steps led without a trap
pub goes : (p : Tables) (n : ℕ) (flat : Flat) (seen locals : List ℤ) (before after : List ℤ) (blank draft : List (Option ℤ)) (new : List ℤ)
    (f : IsFlatOf p n flat)
    → length f.node.writes.items ≤ 8 → MayRun p n seen locals → IsRoom flat.shape.names flat.shape.constants.items before
    → take flat.shape.names before ≡ seen ++ locals → blank ≡ replicate 8 None → FlowAll flat.steps.items (state before blank) (state after draft)
    → new ≡ drop flat.reads (take flat.shape.names after) → IsExecution p n seen locals (Ok (record { locals = new; draft = draft }))
goes p n flat seen locals before after blank draft new f few may room joined is_blank flow new_is =
    let same = same_node p n flat seen locals f may in
    let reads : length seen ≡ length f.node.reads.items = may.reads ∙ ap (λ x. length x.reads.items) same in
    let s = state before blank in
    let t = state after draft in
    let numbers = take (name_count f.node) before in
    let joined' : numbers ≡ seen ++ locals = ap (λ k. take k before) (sym f.names) ∙ joined in
    let l = f.carries s t (subst (λ k. IsRoom k flat.shape.constants.items before) f.names room) flow in
    let locals_are : new ≡ drop (length f.node.reads.items) (take (name_count f.node) after) =
    new_is ∙ ap (λ k. drop k (take flat.shape.names after)) f.reads ∙ ap (λ k. drop (length f.node.reads.items) (take k after)) f.names in
    let done = fires p f.node f.acts numbers few (take (name_count f.node) after) draft new (l.slots ∙ ap length is_blank)
    (l.unused ∙ ap (drop (length f.node.writes.items)) is_blank) locals_are (rw is_blank at l.ends) in
    only p n f.node f.acts seen locals (Ok (record { locals = new; draft = draft })) f.is f.coded
    (done
    ∙ ap (λ x. recorded (execution f.acts (local_ranges f.node) (write_ranges p f.node) x (drop (length f.node.reads.items) numbers)))
    (taken_front seen locals numbers (length f.node.reads.items) reads joined')
    ∙ ap (λ x. recorded (execution f.acts (local_ranges f.node) (write_ranges p f.node) seen x))
    (taken_back seen locals numbers (length f.node.reads.items) reads joined'))
