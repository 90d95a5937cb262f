use Rattle.std.proofs.Common.{◌≡◌, ◌+◌, [], Option, Some, rules, sym, ◌∙◌, ap₂, arith}
use Rattle.std.specs.Option.{option_map}
use Rattle.sot_sections.specs.declared.mission.SectionFault.{SectionFault}
use Rattle.sot_sections.specs.Sections.{Parts, fault_behind, or_missing, unless, needed, parts_of, split_of}
use Rattle.sot_sections.specs.Dividing.{divided, end_line, section_lines}
use Rattle.sot_sections.proofs.SectionSteps.{collected, collected_ok}
use Rattle.sot_sections.proofs.mission.split.Goals as goal

pub take_section-cert-requires-clause-begins : goal.take_section-cert-requires-clause-begins
take_section-cert-requires-clause-begins c = (c.front-program.ensures.rest 1).begins

pub take_section-flight-requires-clause-begins : goal.take_section-flight-requires-clause-begins
take_section-flight-requires-clause-begins c = (c.take_section-cert.ensures.rest 1).begins

pub take_section-trace-requires-clause-begins : goal.take_section-trace-requires-clause-begins
take_section-trace-requires-clause-begins c = (c.take_section-flight.ensures.rest 1).begins

pub fault_behind-requires : goal.fault_behind-requires
fault_behind-requires c = (c.take_section-trace.ensures.rest 1).begins

pub line_behind-line-requires : goal.line_behind-line-requires
line_behind-line-requires c =
    let program = c.front-program in
    let cert = c.take_section-cert in
    let flight = c.take_section-flight in
    let trace = c.take_section-trace in
    let n₁ = end_line 1 program.result.body.now in
    let n₂ = n₁ + section_lines (option_map (λ b. b.now) cert.result.body) in
    let n₃ = n₂ + section_lines (option_map (λ b. b.now) flight.result.body) in
    omega (arith, c.requires, (program.ensures.rest 1).room, (cert.ensures.rest n₁).room, (flight.ensures.rest n₂).room, (trace.ensures.rest n₃).room)

pub returns-in-Some : goal.returns-in-Some
returns-in-Some c =
    let program = c.front-program in
    let cert = c.take_section-cert in
    let flight = c.take_section-flight in
    let trace = c.take_section-trace in
    let cert_body = option_map (λ b. b.now) cert.result.body in
    let flight_body = option_map (λ b. b.now) flight.result.body in
    let trace_body = option_map (λ b. b.now) trace.result.body in
    let n₁ = end_line 1 program.result.body.now in
    let n₂ = n₁ + section_lines cert_body in
    let n₃ = n₂ + section_lines flight_body in
    let n₄ = n₃ + section_lines trace_body in
    let whole = collected c.args.bytes.now n₁ n₂ n₃ n₄ _ _ _ _ program.result.rest.now cert.result.rest.now flight.result.rest.now trace.result.rest.now
    program.result.body.now cert_body flight_body trace_body c.args.need (program.ensures.body 1) (program.ensures.rest 1) (cert.ensures.body n₁)
    (cert.ensures.rest n₁)
    (flight.ensures.body n₂) (flight.ensures.rest n₂) (trace.ensures.body n₃) (trace.ensures.rest n₃) in
    let none : trace.result.rest.now ≡ [] = search rules in
    let are : needed c.args.need program.result.body.now cert_body flight_body trace_body ≡ Some (parts_of c.in-Some.sections) = sym c.in-Some.ensures in
    sym (whole ∙ collected_ok n₄ trace.result.rest.now program.result.body.now cert_body flight_body trace_body c.args.need (parts_of c.in-Some.sections) none
    are)

pub returns : goal.returns
returns c =
    let program = c.front-program in
    let cert = c.take_section-cert in
    let flight = c.take_section-flight in
    let trace = c.take_section-trace in
    let cert_body = option_map (λ b. b.now) cert.result.body in
    let flight_body = option_map (λ b. b.now) flight.result.body in
    let trace_body = option_map (λ b. b.now) trace.result.body in
    let n₁ = end_line 1 program.result.body.now in
    let n₂ = n₁ + section_lines cert_body in
    let n₃ = n₂ + section_lines flight_body in
    let n₄ = n₃ + section_lines trace_body in
    let line : c.line_behind-line.result ≡ n₄ = c.line_behind-line.ensures in
    let whole = collected c.args.bytes.now n₁ n₂ n₃ n₄ _ _ _ _ program.result.rest.now cert.result.rest.now flight.result.rest.now trace.result.rest.now
    program.result.body.now cert_body flight_body trace_body c.args.need (program.ensures.body 1) (program.ensures.rest 1) (cert.ensures.body n₁)
    (cert.ensures.rest n₁)
    (flight.ensures.body n₂) (flight.ensures.rest n₂) (trace.ensures.body n₃) (trace.ensures.rest n₃) in
    let here : split_of c.args.bytes.now c.args.need ≡ unless (fault_behind 3 (divided c.line_behind-line.result trace.result.rest.now).sections)
    (or_missing c.line_behind-line.result (needed c.args.need program.result.body.now cert_body flight_body trace_body)) = rw line whole in
    c.answer.ensures ∙ ap₂ (λ (r : Option SectionFault) (q : Option Parts). unless r (or_missing c.line_behind-line.result q)) c.fault_behind.ensures
    c.needed-parts.ensures ∙ sym here
