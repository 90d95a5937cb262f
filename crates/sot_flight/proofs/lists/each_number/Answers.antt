use Rattle.std.proofs.Common.{◌≡◌, ◌+◌, ℤ, List, [], ◌∷◌, ◌++◌, length, drop, decimal, ap, ◌∙◌, subst, arith, rules, FitsSigned, w64}
use Rattle.serde_json.specs.View.{items_view}
use Rattle.sot_json.specs.Json.{each_after}
use Rattle.sot_json.specs.Answers.{IsUnder}
use Rattle.sot_cert.specs.CertFormat.{number}
use Rattle.sot_json.proofs.Lists.{goes_on, ends, is_done}
use Rattle.sot_code.proofs.Filling.{read_word}
use Rattle.sot_flight.proofs.lists.each_number.Goals as goal

pub returns-in-Err : goal.returns-in-Err
returns-in-Err c =
    let l = c.loop-item in
    let n : c.len.result ≡ length l.found.items = search rules in
    ends (λ done. number) l.found.items c.deref-item-items.result.now l.item-index c.item-item.result c.in-Err.fail c.fault_under_index.result _ (omega arith)
    c.item-item.is (subst (λ n. IsUnder (decimal n) c.in-Err.fail c.fault_under_index.result) n c.fault_under_index.ensures) c.in-Err.ensures l.invariant

pub returns : goal.returns
returns c =
    let l = c.loop-item in
    is_done (λ done. number) l.found.items c.deref-item-items.result.now l.item-index _ (omega (arith, c.loop-item-test.false)) l.invariant

pub loop-item-preserved : goal.loop-item-preserved
loop-item-preserved c =
    let l = c.loop-item in
    let f = λ (done : List (ℤ)). number in
    let items = c.deref-item-items.result.now in
    let on = goes_on f l.found.items items l.item-index c.item-item.result c.in-Ok.number _ (omega arith) c.item-item.is c.in-Ok.ensures l.invariant in
    let fits : FitsSigned w64 c.in-Ok.number = search rules in
    let pushed = c.in_ok-push-in-Ok.ensures.items ∙ ap (λ z. l.found.items ++ z ∷ []) (read_word c.in-Ok.number fits) in
    ap (λ found. each_after f found (items_view (drop (c.loop-item.item-index + 1) items))) pushed ∙ on
