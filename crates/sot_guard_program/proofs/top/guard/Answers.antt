use Rattle.std.proofs.Common.{◌≡◌, ◌≢◌, ◌==◌, [], true, false, length, refl, inl, inr, sym, ap, ◌∙◌}
use Rattle.std.proofs.lemmas.Bool.{eqb-true}
use Rattle.std.proofs.lemmas.List.{nil_from_length}
use Rattle.sot_ports.specs.Outside.{outside}
use Rattle.sot_guard_program.specs.Ends.{ears_at}
use Rattle.sot_guard_program.specs.Moments.{mouth}
use Rattle.sot_guard_program.specs.Says.{Says, SaysAll}
use Rattle.sot_guard_program.proofs.Passing.{passes_nil}
use Rattle.sot_guard_program.proofs.Judged.{answered}
use Rattle.sot_guard_program.proofs.Results.{silent, usage_result, no_word}
use Rattle.sot_guard_program.proofs.NeverLater.{never_later}
use Rattle.sot_guard_program.proofs.top.guard.Goals as goal

pub returns-then-not-is_empty-clause-ends : goal.returns-then-not-is_empty-clause-ends
returns-then-not-is_empty-clause-ends g c =
    let held = g.K.Sink.held in
    let faults = g.K.Sink.faults in
    let source = c.args.source.now in
    let sink = c.args.sink.now in
    let words = c.args.words.now in
    let e = ears_at (outside (g.S.Source.left source) (held sink) (g.S.Source.faults source) (faults sink)) [] false in
    let some : words ≢ [] = λ none.
    let never : false ≡ true = sym c.if-not-is_empty.true ∙ c.is_empty.ensures ∙ ap (λ l. length l == 0) none in
    absurd cc in
    record {
      waiting = [];
      ended = false;
      is =
          answered e e (mouth (held sink) (faults sink)) (mouth (held c.tell.new.sink) (faults c.tell.new.sink)) c.tell.result.0 (Says words) []
          c.fixed.result (passes_nil e) (usage_result c.fixed.result words e some c.fixed.ensures.status c.fixed.ensures.text)
          (inl (some, refl, inr (refl, refl))) c.tell.ensures;
    }

pub returns-in-Ok-clause-ends : goal.returns-in-Ok-clause-ends
returns-in-Ok-clause-ends g c =
    let held = g.K.Sink.held in
    let faults = g.K.Sink.faults in
    let before = outside (g.S.Source.left c.args.source.now) (held c.args.sink.now) (g.S.Source.faults c.args.source.now) (faults c.args.sink.now) in
    let new = c.attend.new in
    let after = outside (g.S.Source.left new.source) (held new.sink) (g.S.Source.faults new.source) (faults new.sink) in
    let words = c.args.words.now in
    let none = nil_from_length words (eqb-true (length words) 0 (sym c.is_empty.ensures ∙ c.if-not-is_empty.false)) in
    no_word words before after c.attend.result.0 none c.attend.ensures

pub returns-in-Err-clause-ends : goal.returns-in-Err-clause-ends
returns-in-Err-clause-ends g c =
    let held = g.K.Sink.held in
    let faults = g.K.Sink.faults in
    let o = outside (g.S.Source.left c.args.source.now) (held c.args.sink.now) (g.S.Source.faults c.args.source.now) (faults c.args.sink.now) in
    let words = c.args.words.now in
    let none = nil_from_length words (eqb-true (length words) 0 (sym c.is_empty.ensures ∙ c.if-not-is_empty.false)) in
    no_word words o o 6 none
    (record {
      waiting = [];
      ended = false;
      is = silent SaysAll (ears_at o [] false) (mouth (held c.args.sink.now) (faults c.args.sink.now)) (inr (inr (inr (inr (refl, refl)))));
    })

pub returns-then-not-is_empty-clause-memory : goal.returns-then-not-is_empty-clause-memory
returns-then-not-is_empty-clause-memory g c six = never_later c.args.words.now _ _ _ (returns-then-not-is_empty-clause-ends g c) six

pub returns-in-Ok-clause-memory : goal.returns-in-Ok-clause-memory
returns-in-Ok-clause-memory g c six = never_later c.args.words.now _ _ _ (returns-in-Ok-clause-ends g c) six

pub returns-in-Err-clause-memory : goal.returns-in-Err-clause-memory
returns-in-Err-clause-memory g c six = never_later c.args.words.now _ _ _ (returns-in-Err-clause-ends g c) six
