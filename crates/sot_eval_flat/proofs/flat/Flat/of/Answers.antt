use Rattle.std.proofs.Common.{arith, ◌≡◌, ◌+◌, get_or, ap, ap₂, sym, ◌∙◌, subst}
use Rattle.std.specs.Option.{option_copied}
use Rattle.sot_lists.specs.Places.{At}
use Rattle.sot_lang.specs.Tables.{Tables}
use Rattle.sot_lang.specs.TableRules.{MeetsTableRules}
use Rattle.sot_lang.proofs.Owners.{node_is}
use Rattle.sot_code.proofs.Nodes.{runnable}
use Rattle.sot_eval_flat.proofs.flat.Flat.of.Goals as goal

pub block-requires-clause-node : goal.block-requires-clause-node
block-requires-clause-node c =
    let p = c.args.p.now in
    let info = c.index-info.result.now in
    let is : info ≡ get_or p.nodes c.args.node info = c.index-info.ensures ∙ ap (λ (t : Tables). get_or t.nodes c.args.node info) c.p.view_is in
    let here : At p.nodes c.args.node info = subst (λ x. At p.nodes c.args.node x) (node_is p c.args.node c.requires.coded.0 info c.requires.coded.2 is)
    c.requires.coded.2 in
    runnable p c.args.node info (subst MeetsTableRules c.p.view_is c.p.invariant) here

pub block-requires-clause-fits : goal.block-requires-clause-fits
block-requires-clause-fits c =
    let p = c.args.p.now in
    let info = c.index-info.result.now in
    let is : info ≡ get_or p.nodes c.args.node info = c.index-info.ensures ∙ ap (λ (t : Tables). get_or t.nodes c.args.node info) c.p.view_is in
    let here : At p.nodes c.args.node info = subst (λ x. At p.nodes c.args.node x) (node_is p c.args.node c.requires.coded.0 info c.requires.coded.2 is)
    c.requires.coded.2 in
    let rules' : MeetsTableRules p = subst MeetsTableRules c.p.view_is c.p.invariant in
    let body_is = sym c.as_ref.ensures.value ∙ ap option_copied c.unwrap-acts.ensures in
    (rules'.nodes c.args.node info here).body c.deref-2.result.now (c.unwrap-acts.result.now, body_is, sym c.deref-2.ensures.value)

pub block-requires-clause-few : goal.block-requires-clause-few
block-requires-clause-few c =
    let p = c.args.p.now in
    let info = c.index-info.result.now in
    let is : info ≡ get_or p.nodes c.args.node info = c.index-info.ensures ∙ ap (λ (t : Tables). get_or t.nodes c.args.node info) c.p.view_is in
    let here : At p.nodes c.args.node info = subst (λ x. At p.nodes c.args.node x) (node_is p c.args.node c.requires.coded.0 info c.requires.coded.2 is)
    c.requires.coded.2 in
    let r = (subst MeetsTableRules c.p.view_is c.p.invariant).nodes c.args.node info here in
    let reads = c.len-reads.ensures ∙ info.reads.ok.0 in
    let locals = c.len.ensures ∙ info.locals.ok.0 in
    let stated = c.len-2.ensures ∙ c.add_ranges.new.constants.ok.0 in
    omega (arith, reads, locals, stated, r.reads, r.locals, c.if-len-names.false)

pub returns : goal.returns
returns c =
    let p = c.args.p.now in
    let info = c.index-info.result.now in
    let is : info ≡ get_or p.nodes c.args.node info = c.index-info.ensures ∙ ap (λ (t : Tables). get_or t.nodes c.args.node info) c.p.view_is in
    let here : At p.nodes c.args.node info = subst (λ x. At p.nodes c.args.node x) (node_is p c.args.node c.requires.coded.0 info c.requires.coded.2 is)
    c.requires.coded.2 in
    let r = (subst MeetsTableRules c.p.view_is c.p.invariant).nodes c.args.node info here in
    let body_is = sym c.as_ref.ensures.value ∙ ap option_copied c.unwrap-acts.ensures in
    let reads = c.len-reads.ensures ∙ info.reads.ok.0 in
    let locals = c.len.ensures ∙ info.locals.ok.0 in
    let stated = c.len-2.ensures ∙ c.add_ranges.new.constants.ok.0 in
    record {
      node = info;
      acts = c.deref-2.result.now;
      is = here;
      coded = (c.unwrap-acts.result.now, body_is, sym c.deref-2.ensures.value);
      locals = r.locals;
      writes = r.writes;
      reads = reads;
      names = ap₂ (λ a b. a + b) reads locals;
      few = omega (arith, reads, locals, stated, r.reads, r.locals, c.if-len-names.false);
      carries = c.in_ok-steps.ensures;
    }
