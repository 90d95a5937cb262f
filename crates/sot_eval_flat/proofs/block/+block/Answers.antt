use Rattle.std.proofs.Common.{rules, arith, ◌≡◌, ◌+◌, ◌<◌, [], ◌∷◌, ◌++◌, length, get_or, take, refl, ap, sym, subst, ◌∙◌, FitsSigned, w64}
use Rattle.std.proofs.lemmas.List.{take_more, take_all}
use Rattle.std.proofs.lemmas.Option.{slice_get-get_or}
use Rattle.sot_lang.specs.Tables.{Tables}
use Rattle.sot_lang.specs.declared.act.Act.{the_lemmas}
use Rattle.sot_lang.specs.OwnerNames.{node_truths}
use Rattle.sot_lang.specs.ActRules.{ActsFit}
use Rattle.sot_lang.proofs.ActRows.{ActFits-If, ActFits-Repeat}
use Rattle.sot_lang.proofs.Owners.{fits_at, node_places}
use Rattle.sot_code.proofs.Filling.{read_word}
use Rattle.sot_eval_flat.specs.Shapes.{Gives, Bounds}
use Rattle.sot_eval_flat.specs.Carries.{name_count, left_from, Leaves, Carries, CarriesOpen, OneMore}
use Rattle.sot_eval_flat.proofs.Making.{if_ok}
use Rattle.sot_eval_flat.proofs.Carrying.{one_assign, one_publish, one_if, one_repeat, none_carried}
use Rattle.sot_eval_flat.proofs.block.+block.Goals as goal

pub append-put_value-requires-clause-places : goal.append-put_value-requires-clause-places
append-put_value-requires-clause-places t c =
    let f = rw c.in-Assign.is at c.requires.fits in
    node_places c.args.p.now c.args.node.now c.in-Assign.value _ f.1 c.requires.names

pub append-index-info-requires-in-Publish : goal.append-index-info-requires-in-Publish
append-index-info-requires-in-Publish t c =
    let f = rw c.in-Publish.is at c.requires.fits in
    let writes = c.args.node.now.writes.items in
    let slot = c.in-Publish.slot in
    let below : c.index.result.now < length c.args.p.now.scalars =
    c.requires.node.written slot c.index.result.now (rw (slice_get-get_or writes slot c.index.result.now f.0, ← c.index.ensures) refl) in
    let same : length c.p.inside.scalars.items ≡ length c.args.p.now.scalars = ap (λ (x : Tables). length x.scalars) c.p.view_is in
    omega (arith, below, same, c.p.inside.scalars.ok.0)

pub append-put_value-requires-in-Publish-clause-places : goal.append-put_value-requires-in-Publish-clause-places
append-put_value-requires-in-Publish-clause-places t c =
    let f = rw c.in-Publish.is at c.requires.fits in
    node_places c.args.p.now c.args.node.now c.in-Publish.value _ f.1 c.requires.names

pub append-compile_all-requires-clause-places : goal.append-compile_all-requires-clause-places
append-compile_all-requires-clause-places t c =
    let f = ActFits-If _ _ _ c.in-If.cond c.in-If.yes c.in-If.no (rw c.in-If.is at c.requires.fits) in
    node_places c.args.p.now c.args.node.now c.in-If.cond _ f.1 c.requires.names

pub append-block-requires : goal.append-block-requires
append-block-requires t c =
    let f = ActFits-If _ _ _ c.in-If.cond c.in-If.yes c.in-If.no (rw c.in-If.is at c.requires.fits) in (
      search (rules, the_lemmas, c.in-If.is, c.deref.ensures.value, c.decreases),
      (
        c.requires.node,
        (
          subst (λ us. ActsFit (node_truths c.args.p.now c.args.node.now) (length c.args.node.now.locals.items)
              (length c.args.node.now.writes.items) us) (sym c.deref.ensures.value) f.2,
          (c.requires.names, c.requires.few),
        ),
      ),
    )

pub append-block-requires-in-If : goal.append-block-requires-in-If
append-block-requires-in-If t c =
    let f = ActFits-If _ _ _ c.in-If.cond c.in-If.yes c.in-If.no (rw c.in-If.is at c.requires.fits) in (
      search (rules, the_lemmas, c.in-If.is, c.deref-in-If.ensures.value, c.decreases),
      (
        c.requires.node,
        (
          subst (λ us. ActsFit (node_truths c.args.p.now c.args.node.now) (length c.args.node.now.locals.items)
              (length c.args.node.now.writes.items) us) (sym c.deref-in-If.ensures.value) f.3,
          (c.requires.names, c.requires.few),
        ),
      ),
    )

pub append-block-requires-in-Repeat : goal.append-block-requires-in-Repeat
append-block-requires-in-Repeat t c =
    let f = ActFits-Repeat _ _ _ c.in-Repeat.times c.in-Repeat.body (rw c.in-Repeat.is at c.requires.fits) in (
      search (rules, the_lemmas, c.in-Repeat.is, c.deref-in-Repeat.ensures.value, c.decreases),
      (
        c.requires.node,
        (
          subst (λ us. ActsFit (node_truths c.args.p.now c.args.node.now) (length c.args.node.now.locals.items)
              (length c.args.node.now.writes.items) us) (sym c.deref-in-Repeat.ensures.value) f.2,
          (c.requires.names, c.requires.few),
        ),
      ),
    )

pub append-returns-in-Assign : goal.append-returns-in-Assign
append-returns-in-Assign t c =
    let p = c.args.p.now in
    let node = c.args.node.now in
    let stated = c.args.shape.now.constants.items in
    let f = rw c.in-Assign.is at c.requires.fits in
    let info = c.index-info.result.now in
    let lo_fits : FitsSigned w64 info.lo = search rules in
    let hi_fits : FitsSigned w64 info.hi = search rules in
    let h = rw (read_word info.lo lo_fits, read_word info.hi hi_fits) at c.put_value.ensures in
    let reads = c.len.ensures ∙ node.reads.ok.0 in
    let to = c.len.result + c.in-Assign.local in
    let to_is : to ≡ length node.reads.items + c.in-Assign.local = ap (λ r. r + c.in-Assign.local) reads in
    if_ok c.put_value.result _ _
    (λ x w.
    subst (λ one. OneMore p node stated one c.args.steps.now.items c.args.line.now.items c.args.steps.now.items c.put_value.new.line.items)
    (sym c.in-Assign.is)
    (one_assign p node stated c.in-Assign.local c.in-Assign.value c.in-Assign.at info to c.args.steps.now.items c.args.line.now.items
    c.put_value.new.line.items w.0 f.0 c.index-info.ensures to_is
    (subst (λ n. Bounds n stated c.in-Assign.value info.lo info.hi to w.0) (sym c.requires.names) w.2) w.1))
    h

pub append-returns-in_ok-push-in-Publish : goal.append-returns-in_ok-push-in-Publish
append-returns-in_ok-push-in-Publish t c =
    let p = c.args.p.now in
    let node = c.args.node.now in
    let stated = c.args.shape.now.constants.items in
    let f = rw c.in-Publish.is at c.requires.fits in
    let writes = node.writes.items in
    let slot = c.in-Publish.slot in
    let place = c.index.result.now in
    let info = c.index-info-in-Publish.result.now in
    let below : place < length p.scalars =
    c.requires.node.written slot place (rw (slice_get-get_or writes slot place f.0, ← c.index.ensures) refl) in
    let here : info ≡ get_or p.scalars place info = c.index-info-in-Publish.ensures ∙ ap (λ (x : Tables). get_or x.scalars place info) c.p.view_is in
    let lo_fits : FitsSigned w64 info.lo = search rules in
    let hi_fits : FitsSigned w64 info.hi = search rules in
    let w = rw (read_word info.lo lo_fits, read_word info.hi hi_fits) at c.in_ok-put_value-in-Publish.ensures in
    let count = c.len-in-Publish.ensures ∙ c.args.shape.now.constants.ok.0 in
    let to = c.args.shape.now.names + c.len-in-Publish.result in
    let to_is : to ≡ name_count node + length stated = omega (arith, count, c.requires.names) in
    let closes = c.in_ok-close-in-Publish.ensures in
    subst (λ one. OneMore p node stated one c.args.steps.now.items c.args.line.now.items c.push.new.self.items c.close.new.line.items)
    (sym c.in-Publish.is)
    (one_publish p node stated slot place c.in-Publish.value c.in-Publish.at info to c.args.steps.now.items c.close.new.steps.items c.push.new.self.items
    c.args.line.now.items c.put_value-in-Publish.new.line.items c.close.new.line.items w.0 f.0 c.index.ensures below here to_is
    (omega (arith, to_is, c.requires.few, c.requires.names))
    (subst (λ n. Bounds n stated c.in-Publish.value info.lo info.hi to w.0) (sym c.requires.names) w.2) w.1 closes.1 c.in_ok-push-in-Publish.ensures.items
    closes.0)

pub append-returns-in_ok-push-in-If : goal.append-returns-in_ok-push-in-If
append-returns-in_ok-push-in-If t c =
    let p = c.args.p.now in
    let node = c.args.node.now in
    let stated = c.args.shape.now.constants.items in
    let w = c.in_ok-place-in-If.ensures in
    let place = c.in_ok-place-in-If.place in
    let count : c.len-in-If.result ≡ length stated = c.len-in-If.ensures ∙ c.args.shape.now.constants.ok.0 in
    let based = subst (λ k. Gives c.args.shape.now.names stated (c.args.shape.now.names + k) c.in-If.cond w.0 place) count w.2 in
    let reckons = subst (λ n. Gives n stated (n + length stated) c.in-If.cond w.0 place) (sym c.requires.names) based in
    let closes = c.in_ok-close-in-If.ensures in
    let first = subst (Carries p node stated c.in_ok-yes-in-If.yes.items) c.deref.ensures.value c.in_ok-yes-in-If.ensures in
    let second = subst (Carries p node stated c.in_ok-no-in-If.no.items) c.deref-in-If.ensures.value c.in_ok-no-in-If.ensures in
    subst (λ one. OneMore p node stated one c.args.steps.now.items c.args.line.now.items c.push-in-If.new.self.items c.close-in-If.new.line.items)
    (sym c.in-If.is)
    (one_if p node stated c.in-If.cond c.in-If.yes c.in-If.no place c.in_ok-yes-in-If.yes c.in_ok-no-in-If.no c.args.steps.now.items
    c.close-in-If.new.steps.items c.push-in-If.new.self.items c.args.line.now.items c.compile_all.new.line.items c.close-in-If.new.line.items w.0 reckons w.1
    closes.1 c.in_ok-push-in-If.ensures.items closes.0 first second)

pub append-returns-in_ok-push-in-Repeat : goal.append-returns-in_ok-push-in-Repeat
append-returns-in_ok-push-in-Repeat t c =
    let p = c.args.p.now in
    let node = c.args.node.now in
    let stated = c.args.shape.now.constants.items in
    let closes = c.in_ok-close-in-Repeat.ensures in
    let carries = subst (Carries p node stated c.in_ok-body-in-Repeat.body.items) c.deref-in-Repeat.ensures.value c.in_ok-body-in-Repeat.ensures in
    subst (λ one. OneMore p node stated one c.args.steps.now.items c.args.line.now.items c.push-in-Repeat.new.self.items c.close-in-Repeat.new.line.items)
    (sym c.in-Repeat.is)
    (one_repeat p node stated c.in-Repeat.times c.in-Repeat.body c.in_ok-body-in-Repeat.body c.args.steps.now.items c.close-in-Repeat.new.steps.items
    c.push-in-Repeat.new.self.items c.args.line.now.items c.close-in-Repeat.new.line.items closes.1 c.in_ok-push-in-Repeat.ensures.items closes.0 carries)

pub block-loop-one-init : goal.block-loop-one-init
block-loop-one-init t c =
    none_carried c.args.p.now c.args.node.now c.args.shape.now.constants.items c.new-steps.result.items c.new-line.result.items c.new-steps.ensures.items
    c.new-line.ensures.items

pub block-append-requires : goal.block-append-requires
block-append-requires t c =
    let f = fits_at _ _ _ c.args.acts.now c.loop-one.one-index c.one-item.result c.requires.fits (omega arith) c.one-item.is in
    (search (rules, the_lemmas, c.one-item.is, c.decreases), (c.requires.node, (f, (c.requires.names, c.requires.few))))

pub block-loop-one-preserved : goal.block-loop-one-preserved
block-loop-one-preserved t c =
    let acts = c.args.acts.now in
    let i = c.loop-one.one-index in
    let one = c.one-item.result in
    let longer : take (i + 1) acts ≡ take i acts ++ one ∷ [] =
    take_more acts i one (omega arith) ∙ ap (λ x. take i acts ++ x ∷ []) (sym c.one-item.is) in
    subst (λ us. CarriesOpen c.args.p.now c.args.node.now c.args.shape.now.constants.items c.append.new.steps.items c.append.new.line.items us) (sym longer)
    (c.in_ok-append.ensures (take i acts) c.loop-one.invariant)

pub block-returns : goal.block-returns
block-returns t c = λ s u room flow.
    let acts = c.args.acts.now in
    let all : take c.loop-one.one-index acts ≡ acts = take_all c.loop-one.one-index acts (omega (arith, c.loop-one-test.false)) in
    subst (λ us. Leaves c.args.node.now c.args.shape.now.constants.items (left_from c.args.p.now c.args.node.now us s) s u) all
    (c.loop-one.invariant s u room (c.in_ok-close.ensures.1 s u flow))
