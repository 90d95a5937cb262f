-- What is left to show of `put_sides`.
use Rattle.std.proofs.Common.{rules, arith, ◌≡◌, ◌+◌, ◌<◌, ◌≤◌, ◌∙◌, [], length, drop, take, decimal, ap, sym, subst, Ok}
use Rattle.std.proofs.lemmas.List.{length-take-le, take_all, take_more_set}
use Rattle.serde_json.specs.View.{items_view}
use Rattle.sot_json.specs.Answers.{IsUnder}
use Rattle.sot_json.specs.Json.{each_after}
use Rattle.sot_cert.specs.CertFormat.{side}
use Rattle.sot_json.proofs.Lists.{goes_on, ends, is_done}
use Rattle.sot_cert.proofs.cells.put_sides.Goals as goal

pub loop-i-preserved : goal.loop-i-preserved
loop-i-preserved c =
    let l = c.loop-i in
    let inside : l.i < length l.sides = omega (arith, l.invariant.size, c.requires, c.loop-i-test.true) in
    record {
      size = search (rules, l.invariant.size);
      read = subst (λ done. each_after (λ _. side) done (items_view (drop (l.i + 1) c.args.list.now)) ≡ each_after (λ _. side) [] (items_view c.args.list.now))
          (sym (take_more_set l.sides l.i c.in-Ok.side inside))
          (goes_on (λ done. side) (take l.i l.sides) c.args.list.now l.i c.index-list-i.result c.in-Ok.side _ c.loop-i-test.true c.index-list-i.is
          c.in-Ok.ensures l.invariant.read);
    }

pub returns-in-Err-clause-says : goal.returns-in-Err-clause-says
returns-in-Err-clause-says c =
    let l = c.loop-i in
    let some : l.i ≤ length l.sides = omega (arith, l.invariant.size, c.requires, c.loop-i-test.true) in
    ends (λ done. side) (take l.i l.sides) c.args.list.now l.i c.index-list-i.result c.in-Err.fail c.fault_under_index.result _ c.loop-i-test.true
    c.index-list-i.is
    (subst (λ n. IsUnder (decimal n) c.in-Err.fail c.fault_under_index.result) (sym (length-take-le l.i l.sides some)) c.fault_under_index.ensures)
    c.in-Err.ensures l.invariant.read

pub returns-clause-says : goal.returns-clause-says
returns-clause-says c =
    let l = c.loop-i in
    let all : length l.sides ≤ l.i = omega (arith, l.invariant.size, c.requires, c.loop-i-test.false) in
    is_done (λ done. side) (take l.i l.sides) c.args.list.now l.i _ c.loop-i-test.false l.invariant.read
    ∙ ap Ok (take_all l.i l.sides all)
