use Rattle.std.proofs.Common.{◌≡◌, ◌<◌, ◌+◌, ℤ, [], ◌∷◌, ◌++◌, get_or, length, drop, decimal, Ok, sym, ap, ◌∙◌, subst, length-append, arith, rules, FitsSigned}
use Rattle.std.proofs.Common.{w64}
use Rattle.std.specs.Prelude.{slice_index_or}
use Rattle.serde_json.specs.View.{view, items_view}
use Rattle.sot_lists.proofs.Places.{read_or}
use Rattle.sot_box.specs.Sides.{nought}
use Rattle.sot_json.specs.Answers.{IsUnder, Fails}
use Rattle.sot_json.specs.Json.{each_after}
use Rattle.sot_json.specs.Says.{Says}
use Rattle.sot_json.proofs.Lists.{goes_on, ends, is_done}
use Rattle.sot_flight.specs.ListForms.{number_in, number_at}
use Rattle.sot_code.proofs.Filling.{read_word}
use Rattle.sot_flight.proofs.lists.each_in.Goals as goal

pub returns-in-Err : goal.returns-in-Err
returns-in-Err c =
    let l = c.loop-i in
    let ranges = c.args.ranges.now in
    let items = c.deref-item-items.ensures.value in
    let there : c.loop-i.i < length c.args.list.now.items = omega (arith, c.loop-i-test.true, ap length items) in
    let inside : c.loop-i.i < length ranges = omega (arith, there, c.requires, c.args.list.now.ok.0) in
    let range = read_or ranges l.i c.index-ranges-i.result nought inside c.index-ranges-i.is
    ∙ ap (λ n. slice_index_or ranges n nought) (sym l.invariant.count) in
    ends (number_at ranges) l.found.items c.args.list.now.items l.i c.item-item.result c.in-Err.fail c.fault_under_index.result _ there
    (c.item-item.is ∙ ap (λ l. get_or l c.loop-i.i c.item-item.result) items)
    (subst (λ n. IsUnder (decimal n) c.in-Err.fail c.fault_under_index.result) (sym l.invariant.count) c.fault_under_index.ensures)
    (subst (λ r. Fails c.in-Err.fail (number_in r (view c.item-item.result))) range c.in-Err.ensures) l.invariant.rest

pub loop-i-preserved : goal.loop-i-preserved
loop-i-preserved c =
    let l = c.loop-i in
    let ranges = c.args.ranges.now in
    let list = c.args.list.now.items in
    let items = c.deref-item-items.ensures.value in
    let fits : FitsSigned w64 c.in-Ok.number = search rules in
    let pushed = c.in_ok-push-in-Ok.ensures.items ∙ ap (λ z. l.found.items ++ z ∷ []) (read_word c.in-Ok.number fits) in
    let size = ap length pushed in
    let more = length-append l.found.items (c.in-Ok.number ∷ []) in
    let so_far = l.invariant.count in
    let there : c.loop-i.i < length list = omega (arith, c.loop-i-test.true, ap length items) in
    let inside : c.loop-i.i < length ranges = omega (arith, there, c.requires, c.args.list.now.ok.0) in
    let range = read_or ranges l.i c.index-ranges-i.result nought inside c.index-ranges-i.is
    ∙ ap (λ n. slice_index_or ranges n nought) (sym l.invariant.count) in
    let told = λ (z : ℤ). let s : Says ℤ = Ok z in s in
    let read = subst (λ r. number_in r (view c.item-item.result) ≡ told c.in-Ok.number) range c.in-Ok.ensures in
    let on = goes_on (number_at ranges) l.found.items list l.i c.item-item.result c.in-Ok.number _ there
    (c.item-item.is ∙ ap (λ l. get_or l c.loop-i.i c.item-item.result) items) read l.invariant.rest in
    record {
      count = size ∙ more ∙ ap (λ n. n + 1) so_far;
      rest = ap (λ found. each_after (number_at ranges) found (items_view (drop (c.loop-i.i + 1) list))) pushed ∙ on;
    }

pub returns : goal.returns
returns c =
    let l = c.loop-i in
    is_done (number_at c.args.ranges.now) l.found.items c.args.list.now.items l.i _
    (omega (arith, c.loop-i-test.false, ap length c.deref-item-items.ensures.value)) l.invariant.rest
