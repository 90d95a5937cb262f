use Rattle.std.proofs.Common.{arith, ◌≡◌, ◌+◌, length, take, drop, get_or, replicate, List, ap, ap₂, sym, ◌∙◌, subst}
use Rattle.std.specs.Option.{option_copied}
use Rattle.sot_lists.specs.Places.{At}
use Rattle.sot_lang.specs.Tables.{Tables}
use Rattle.sot_lang.specs.TableRules.{MeetsTableRules, IsCoded}
use Rattle.std.proofs.lemmas.List.{length-map}
use Rattle.sot_box.specs.Sides.{Side, AreOrdered}
use Rattle.sot_lang.specs.declared.act.Act.{Act}
use Rattle.sot_lang.specs.declared.tables.NodeInfo.{NodeInfo}
use Rattle.sot_lang.specs.Ranges.{local_ranges, write_ranges, range_of}
use Rattle.sot_lang.specs.OwnerNames.{node_truths}
use Rattle.sot_iv.specs.declared.drafted.Drafted.{Drafted}
use Rattle.sot_iv.specs.declared.drafted.Drafted.TheVariants.{Absent}
use Rattle.sot_iv.specs.TermIntervals.{OrMayTrap}
use Rattle.sot_iv.specs.BodyIntervals.{Intervals, IsExecutionIntervals}
use Rattle.sot_iv.specs.Firings.{state, run_of}
use Rattle.sot_iv.specs.NodeFirings.{drafts_of}
use Rattle.sot_iv.proofs.Bodies.{execution_is}
use Rattle.sot_iv.proofs.Nodes.{runnable, front_ordered, back_ordered}
use Rattle.sot_lang.proofs.Owners.{node_is, one_body}
use Rattle.sot_iv.proofs.node.iv_node.Goals as goal

-- what holds of the node and the body that the code reads holds of those that the caller names
handed : (p : Tables) (rs : List Side) (result : OrMayTrap (List Drafted)) (info node : NodeInfo) → info ≡ node → (us acts : List Act) → us ≡ acts →
    (o : OrMayTrap Intervals) × IsExecutionIntervals us (local_ranges info) (write_ranges p info) (take (length info.reads.items) rs)
    (drop (length info.reads.items) rs) o × (result ≡ drafts_of o) →
    (o : OrMayTrap Intervals) × IsExecutionIntervals acts (local_ranges node) (write_ranges p node) (take (length node.reads.items) rs)
    (drop (length node.reads.items) rs) o × (result ≡ drafts_of o)
handed p rs result info node same us acts bodies h = (
  h.0,
  subst (λ x. IsExecutionIntervals acts (local_ranges x) (write_ranges p x) (take (length x.reads.items) rs) (drop (length x.reads.items) rs) h.0) same
      (subst (λ l. IsExecutionIntervals l (local_ranges info) (write_ranges p info) (take (length info.reads.items) rs) (drop (length info.reads.items) rs) h.0)
      bodies h.1),
  h.2,
)

pub fire-requires-clause-node : goal.fire-requires-clause-node
fire-requires-clause-node c =
    let p = c.args.p.now in
    let info = c.index-info.result.now in
    let is : info ≡ get_or p.nodes c.args.node info = c.index-info.ensures ∙ ap (λ (t : Tables). get_or t.nodes c.args.node info) c.p.view_is in
    let same = node_is p c.args.node c.requires.node info c.requires.is is in
    let here : At p.nodes c.args.node info = subst (λ x. At p.nodes c.args.node x) same c.requires.is in
    let tables : MeetsTableRules p = subst MeetsTableRules c.p.view_is c.p.invariant in
    runnable p c.args.node info tables here

pub fire-requires-clause-fits : goal.fire-requires-clause-fits
fire-requires-clause-fits c =
    let p = c.args.p.now in
    let info = c.index-info.result.now in
    let is : info ≡ get_or p.nodes c.args.node info = c.index-info.ensures ∙ ap (λ (t : Tables). get_or t.nodes c.args.node info) c.p.view_is in
    let same = node_is p c.args.node c.requires.node info c.requires.is is in
    let here : At p.nodes c.args.node info = subst (λ x. At p.nodes c.args.node x) same c.requires.is in
    let tables : MeetsTableRules p = subst MeetsTableRules c.p.view_is c.p.invariant in
    let body_is = sym c.as_ref.ensures.value ∙ ap option_copied c.unwrap-acts.ensures in
    (tables.nodes c.args.node info here).body c.deref.result.now (c.unwrap-acts.result.now, body_is, sym c.deref.ensures.value)

pub fire-requires-clause-size : goal.fire-requires-clause-size
fire-requires-clause-size c =
    let p = c.args.p.now in
    let info = c.index-info.result.now in
    let is : info ≡ get_or p.nodes c.args.node info = c.index-info.ensures ∙ ap (λ (t : Tables). get_or t.nodes c.args.node info) c.p.view_is in
    let same = node_is p c.args.node c.requires.node info c.requires.is is in
    let base : c.len.result ≡ length info.reads.items = c.len.ensures ∙ info.reads.ok.0 in
    let names : length c.args.ranges.now ≡ length info.reads.items + length info.locals.items =
    subst (λ x. length c.args.ranges.now ≡ length x.reads.items + length x.locals.items) same c.requires.names in
    let whole = ap length c.as_slice.ensures.value in
    omega (arith, base, names, whole, c.split_at.ensures.back_len)

pub returns : goal.returns
returns c node acts at coded =
    let p = c.args.p.now in
    let info = c.index-info.result.now in
    let is : info ≡ get_or p.nodes c.args.node info = c.index-info.ensures ∙ ap (λ (t : Tables). get_or t.nodes c.args.node info) c.p.view_is in
    let same = node_is p c.args.node c.requires.node info c.requires.is is in
    let here : At p.nodes c.args.node info = subst (λ x. At p.nodes c.args.node x) same c.requires.is in
    let tables : MeetsTableRules p = subst MeetsTableRules c.p.view_is c.p.invariant in
    let theirs : info ≡ node = sym (node_is p c.args.node node info at is) in
    let base : c.len.result ≡ length info.reads.items = c.len.ensures ∙ info.reads.ok.0 in
    let body_is = sym c.as_ref.ensures.value ∙ ap option_copied c.unwrap-acts.ensures in
    let ours : IsCoded info c.deref.result.now = (c.unwrap-acts.result.now, body_is, sym c.deref.ensures.value) in
    let bodies : c.deref.result.now ≡ acts = one_body node c.deref.result.now acts (subst (λ x. IsCoded x c.deref.result.now) theirs ours) coded in
    let fits = (tables.nodes c.args.node info here).body c.deref.result.now ours in
    let rs = c.args.ranges.now in
    let front : c.split_at.result.0.now ≡ take (length info.reads.items) rs = c.split_at.ensures.front ∙ ap₂ take base c.as_slice.ensures.value in
    let back : c.split_at.result.1.now ≡ drop (length info.reads.items) rs = c.split_at.ensures.back ∙ ap₂ drop base c.as_slice.ensures.value in
    let ordered : AreOrdered rs = subst AreOrdered c.as_slice.ensures.value c.as_slice.ensures.ordered in
    let writes : length (write_ranges p info) ≡ length info.writes.items = length-map info.writes.items (range_of p.scalars) in
    let fired = c.fire.ensures
    ∙ ap₂ (λ s l. drafts_of (run_of p info s c.deref.result.now (state l (replicate (length info.writes.items) Absent)))) front back
    ∙ ap (λ k. drafts_of (run_of p info (take (length info.reads.items) rs) c.deref.result.now
    (state (drop (length info.reads.items) rs) (replicate k Absent)))) (sym writes) in
    let are = execution_is (node_truths p info) (length info.locals.items) (length info.writes.items) (take (length info.reads.items) rs) (local_ranges info)
    (write_ranges p info) (front_ordered rs (length info.reads.items) ordered) c.deref.result.now (drop (length info.reads.items) rs) fits
    (back_ordered rs (length info.reads.items) ordered) in
    handed p rs c.fire.result info node theirs c.deref.result.now acts bodies (
      run_of p info (take (length info.reads.items) rs) c.deref.result.now
          (state (drop (length info.reads.items) rs) (replicate (length (write_ranges p info)) Absent)),
      are,
      fired,
    )
