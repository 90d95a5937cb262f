use Rattle.std.proofs.Common.{arith, ◌≡◌, length, get_or, ap, sym, ◌∙◌, subst}
use Rattle.std.specs.Option.{option_copied}
use Rattle.sot_lists.specs.Places.{At}
use Rattle.sot_lang.specs.Tables.{Tables}
use Rattle.sot_lang.specs.Bodies.{execution}
use Rattle.sot_lang.specs.Ranges.{local_ranges, write_ranges}
use Rattle.sot_lang.specs.TableRules.{MeetsTableRules, IsCoded}
use Rattle.sot_code.specs.Recorded.{recorded}
use Rattle.sot_code.proofs.Nodes.{runnable}
use Rattle.sot_lang.proofs.Owners.{node_is, one_body}
use Rattle.sot_code.proofs.node.run_node_over.Goals as goal

pub execute-requires-clause-node : goal.execute-requires-clause-node
execute-requires-clause-node g c =
    let p = c.args.p.now in
    let info = c.index-info.result.now in
    let is : info ≡ get_or p.nodes c.args.node info = c.index-info.ensures ∙ ap (λ (t : Tables). get_or t.nodes c.args.node info) c.p.view_is in
    let here : At p.nodes c.args.node info = subst (λ x. At p.nodes c.args.node x) (node_is p c.args.node c.requires.run.node info c.requires.run.is is)
    c.requires.run.is in
    runnable p c.args.node info (subst MeetsTableRules c.p.view_is c.p.invariant) here

pub execute-requires-clause-few : goal.execute-requires-clause-few
execute-requires-clause-few g c =
    let p = c.args.p.now in
    let info = c.index-info.result.now in
    let is : info ≡ get_or p.nodes c.args.node info = c.index-info.ensures ∙ ap (λ (t : Tables). get_or t.nodes c.args.node info) c.p.view_is in
    let here : At p.nodes c.args.node info = subst (λ x. At p.nodes c.args.node x) (node_is p c.args.node c.requires.run.node info c.requires.run.is is)
    c.requires.run.is in
    let rules' : MeetsTableRules p = subst MeetsTableRules c.p.view_is c.p.invariant in
    (rules'.nodes c.args.node info here).locals

pub execute-requires-clause-fits : goal.execute-requires-clause-fits
execute-requires-clause-fits g c =
    let p = c.args.p.now in
    let info = c.index-info.result.now in
    let is : info ≡ get_or p.nodes c.args.node info = c.index-info.ensures ∙ ap (λ (t : Tables). get_or t.nodes c.args.node info) c.p.view_is in
    let here : At p.nodes c.args.node info = subst (λ x. At p.nodes c.args.node x) (node_is p c.args.node c.requires.run.node info c.requires.run.is is)
    c.requires.run.is in
    let rules' : MeetsTableRules p = subst MeetsTableRules c.p.view_is c.p.invariant in
    let body_is = sym c.as_ref.ensures.value ∙ ap option_copied c.unwrap-acts.ensures in
    (rules'.nodes c.args.node info here).body c.deref.result.now (c.unwrap-acts.result.now, body_is, sym c.deref.ensures.value)

pub execute-requires-clause-reads : goal.execute-requires-clause-reads
execute-requires-clause-reads g c =
    let p = c.args.p.now in
    let info = c.index-info.result.now in
    let is : info ≡ get_or p.nodes c.args.node info = c.index-info.ensures ∙ ap (λ (t : Tables). get_or t.nodes c.args.node info) c.p.view_is in
    let same = node_is p c.args.node c.requires.run.node info c.requires.run.is is in
    subst (λ x. length (g.V.Seen.numbers c.args.seen.now) ≡ length x.reads.items) same c.requires.run.reads

pub execute-requires-clause-locals : goal.execute-requires-clause-locals
execute-requires-clause-locals g c =
    let p = c.args.p.now in
    let info = c.index-info.result.now in
    let is : info ≡ get_or p.nodes c.args.node info = c.index-info.ensures ∙ ap (λ (t : Tables). get_or t.nodes c.args.node info) c.p.view_is in
    let same = node_is p c.args.node c.requires.run.node info c.requires.run.is is in
    subst (λ x. length c.args.locals.now ≡ length x.locals.items) same c.requires.run.locals_are

pub execute-requires-clause-names : goal.execute-requires-clause-names
execute-requires-clause-names g c =
    let p = c.args.p.now in
    let info = c.index-info.result.now in
    let is : info ≡ get_or p.nodes c.args.node info = c.index-info.ensures ∙ ap (λ (t : Tables). get_or t.nodes c.args.node info) c.p.view_is in
    let same = node_is p c.args.node c.requires.run.node info c.requires.run.is is in
    let here : At p.nodes c.args.node info = subst (λ x. At p.nodes c.args.node x) same c.requires.run.is in
    let r = (subst MeetsTableRules c.p.view_is c.p.invariant).nodes c.args.node info here in
    omega (arith, r.reads, r.locals)

pub returns : goal.returns
returns g c node acts at coded =
    let p = c.args.p.now in
    let info = c.index-info.result.now in
    let seen = g.V.Seen.numbers c.args.seen.now in
    let locals = c.args.locals.now in
    let is : info ≡ get_or p.nodes c.args.node info = c.index-info.ensures ∙ ap (λ (t : Tables). get_or t.nodes c.args.node info) c.p.view_is in
    let theirs : info ≡ node = sym (node_is p c.args.node node info at is) in
    let body_is = sym c.as_ref.ensures.value ∙ ap option_copied c.unwrap-acts.ensures in
    let ours : IsCoded info c.deref.result.now = (c.unwrap-acts.result.now, body_is, sym c.deref.ensures.value) in
    let bodies : c.deref.result.now ≡ acts = one_body node c.deref.result.now acts (subst (λ x. IsCoded x c.deref.result.now) theirs ours) coded in
    c.execute.ensures
    ∙ ap (λ x. recorded (execution c.deref.result.now (local_ranges x) (write_ranges p x) seen locals)) theirs
    ∙ ap (λ us. recorded (execution us (local_ranges node) (write_ranges p node) seen locals)) bodies
