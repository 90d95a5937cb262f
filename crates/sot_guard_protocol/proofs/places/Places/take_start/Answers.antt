use Rattle.std.proofs.Common.{length, ap, subst, ⊎_elim, ◌∙◌, arith}
use Rattle.sot_lang.specs.TableRules.{MeetsTableRules}
use Rattle.sot_trace_lines.specs.Shown.{Holds}
use Rattle.sot_guard_protocol.specs.Openings.{Starting}
use Rattle.sot_guard_protocol.proofs.places.Places.take_start.Goals as goal

pub unreachable-requires : goal.unreachable-requires
unreachable-requires c =
    let rules = subst MeetsTableRules (c.typed.ensures.program ∙ ap (λ (a : Starting). a.accepted.program) c.self.view_is) c.keeps_rules.ensures in
    let width = rules.plants c.args.plant c.requires.1.0 c.requires.1.1 in
    let held = subst (λ b. Holds b c.args.numbers.now c.requires.0) c.if-not-whole.false c.requires.2 in
    let size = ap length held ∙ c.requires.1.2 in
    ⊎_elim (λ none. omega (arith, none, size, width.some_state)) (λ many. omega (arith, many, size, width.states)) c.in-None.ensures
