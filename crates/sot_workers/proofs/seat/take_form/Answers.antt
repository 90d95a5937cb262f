use Rattle.std.proofs.Common.{◌<◌, length, refl, sym, subst, arith}
use Rattle.std.specs.Prelude.{slice_set}
use Rattle.std.proofs.lemmas.Option.{slice_get_read}
use Rattle.sot_eval_flat.specs.FlatForm.{IsFormOf}
use Rattle.sot_workers.specs.Forms.{AreFormsOf}
use Rattle.sot_workers.proofs.FormFacts.{forms_taken}
use Rattle.sot_workers.proofs.seat.take_form.Goals as goal

pub returns-clause-stay : goal.returns-clause-stay
returns-clause-stay c = λ p are.
    let forms = c.args.forms.now.items in
    subst (λ x. AreFormsOf p (slice_set forms c.args.node x)) (sym c.take.ensures.after) (forms_taken p forms c.args.node are)

pub returns-clause-form : goal.returns-clause-form
returns-clause-form c = λ p are.
    let forms = c.args.forms.now.items in
    let k = c.args.node in
    let was = c.index_mut.result.now in
    let there : k < length forms = omega (arith, c.if-place-len.false, c.len.ensures, c.args.forms.now.ok.0) in
    subst (IsFormOf p k) (sym c.take.ensures.value) (are k was (slice_get_read forms (length forms) k was refl there c.index_mut.ensures.value))
