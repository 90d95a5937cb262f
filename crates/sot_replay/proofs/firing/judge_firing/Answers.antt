use Rattle.std.proofs.Common.{◌≡◌, ◌∙◌, sym, subst}
use Rattle.std.specs.Prelude.{IfOk}
use Rattle.std.proofs.lemmas.Bool.{both_ways}
use Rattle.sot_lang.specs.Tables.{Tables}
use Rattle.sot_trace_lines.specs.Spelled.{FireLine, IsSpelled}
use Rattle.sot_replay.specs.declared.fail.LineKind.{LineKind}
use Rattle.sot_replay.specs.declared.fail.LineKind.TheVariants.{WrongTime}
use Rattle.sot_replay.specs.declared.judged.Judged.TheVariants.{Fails}
use Rattle.sot_replay.specs.Judges.{kind_of, IsReadOn}
use Rattle.sot_world.specs.NodeSorts.{IsCodedNode, IsExternalNode}
use Rattle.sot_replay.proofs.FirstFailing.{wrong_time, refused}
use Rattle.sot_replay.proofs.ReadOn.{read_fails}
use Rattle.sot_replay.proofs.firing.judge_firing.Goals as goal

pub returns-then-not-is_now : goal.returns-then-not-is_now
returns-then-not-is_now c =
    let b = c.args.board.now in
    let line = c.args.line.now in
    let n = c.args.node in
    read_fails b b line c.read_on.result WrongTime (subst (λ (p : Tables). IfOk c.read_on.result (λ j. IsReadOn p line (Fails WrongTime) j)) c.typed-p.ensures
    c.read_on.ensures)
    (λ x spells.
    let (t, on, slots, is, reads) = c.requires.begins.1 x spells in
    wrong_time b.accepted.program b.accepted.cert.jitter b.plan b.entries b.position line (FireLine t n on slots)
    (subst (IsSpelled b.accepted.program line) is spells)
    (λ same. both_ways c.is_now.result c.if-not-is_now.true ((c.is_now.ensures t reads).1 (same ∙ sym c.time.ensures))))

pub returns-in-Err : goal.returns-in-Err
returns-in-Err c =
    let b = c.args.board.now in
    let line = c.args.line.now in
    let n = c.args.node in
    let typed = subst (λ (p : Tables). IfOk c.read_on-in-Err.result (λ j. IsReadOn p line (Fails c.kind_of.result) j)) c.typed-p.ensures
    c.read_on-in-Err.ensures in
    read_fails b b line c.read_on-in-Err.result (kind_of c.in-Err.why)
    (subst (λ (k : LineKind). IfOk c.read_on-in-Err.result (λ j. IsReadOn b.accepted.program line (Fails k) j)) c.kind_of.ensures typed)
    (λ x spells.
    let (t, on, slots, is, reads) = c.requires.begins.1 x spells in
    let time : t ≡ b.position.at.time = (c.is_now.ensures t reads).0 c.if-not-is_now.false ∙ c.time.ensures in
    refused b.accepted.program b.accepted.cert.jitter b.plan b.entries b.position line (FireLine t n on slots)
    (subst (IsSpelled b.accepted.program line) is spells) time c.in-Err.why c.in-Err.ensures)

pub judge_coded-requires-clause-coded : goal.judge_coded-requires-clause-coded
judge_coded-requires-clause-coded c = subst (λ (p : Tables). IsCodedNode p c.args.node) c.typed-p.ensures (c.is_coded.ensures.coded c.if-is_coded.true)

pub judge_stated-requires-clause-external : goal.judge_stated-requires-clause-external
judge_stated-requires-clause-external c =
    subst (λ (p : Tables). IsExternalNode p c.args.node) c.typed-p.ensures (c.is_coded.ensures.external c.if-is_coded.false)
