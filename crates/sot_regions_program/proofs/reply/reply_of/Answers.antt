use Rattle.std.proofs.Common.{◌≡◌, Err, ap, subst}
use Rattle.std.specs.Prelude.{IfOk}
use Rattle.sot_report.specs.FaultTexts.{syntax_text}
use Rattle.sot_regions_program.proofs.Forms.{typed_result, misspelled_result}
use Rattle.sot_regions_program.proofs.reply.reply_of.Goals as goal

pub of_tree-answer-requires-clause-spelled : goal.of_tree-answer-requires-clause-spelled
of_tree-answer-requires-clause-spelled g c κs within =
    let found = c.in-Ok.ensures.ok in
    rw (c.new.ensures.bytes, c.new.ensures.at) at found

pub returns-in-Ok : goal.returns-in-Ok
returns-in-Ok g c =
    let found = c.in-Ok.ensures.ok in
    typed_result c.of_tree-answer.result c.args.jitter c.args.bytes.now _ (rw (c.new.ensures.bytes, c.new.ensures.at) at found)
    c.of_tree-answer.ensures

pub returns-in-Err-Syntax : goal.returns-in-Err-Syntax
returns-in-Err-Syntax g c =
    let is = ap (λ e. Err e) c.in-Err-Syntax.field-0-is in
    let none = c.in-Err-Syntax.ensures.syntax c.in-Err-Syntax.fault is in
    let place = c.in-Err-Syntax.ensures.place c.in-Err-Syntax.fault is in
    let text = subst (λ f. IfOk c.faulty.result (λ a. a.text.items ≡ syntax_text f)) c.in-Err-Syntax.fault-is c.faulty.ensures.text in
    misspelled_result c.faulty.result c.args.jitter c.args.bytes.now c.in-Err-Syntax.fault
    (rw (c.new.ensures.bytes, c.new.ensures.at) at none) (rw (c.new.ensures.bytes, c.new.ensures.at) at place)
    c.faulty.ensures.status text
