use Rattle.std.proofs.Common.{ap, arith}
use Rattle.std.specs.Prelude.{option_map}
use Rattle.sot_sections.specs.declared.mission.Need.TheVariants as needs
use Rattle.sot_commands.proofs.Replayed.{replayed_result, mission_words, trace_within}
use Rattle.sot_commands.proofs.replay.replay.Goals as goal

pub judge-answer-requires-clause-words : goal.judge-answer-requires-clause-words
judge-answer-requires-clause-words g c κs within = mission_words needs.Replay c.args.guests c.args.bytes.now _ c.in-Ok.ensures.ok.mission

pub judge-answer-requires-clause-short : goal.judge-answer-requires-clause-short
judge-answer-requires-clause-short g c κs within =
    let inside = trace_within c.args.guests c.args.bytes.now _ c.in-Ok.ensures.ok.mission c.unwrap-trace.result.now
    (ap (option_map (λ b. b.now)) c.unwrap-trace.ensures) in
    omega (arith, inside, c.requires)

pub returns-in-Some : goal.returns-in-Some
returns-in-Some g c =
    replayed_result c.args.guests c.judge-answer.result c.args.bytes.now _ c.in-Some.flight c.unwrap-trace.result.now c.in-Ok.ensures.ok.mission c.in-Some.is
    (ap (option_map (λ b. b.now)) c.unwrap-trace.ensures) c.judge-answer.ensures
