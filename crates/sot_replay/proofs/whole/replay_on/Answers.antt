use Rattle.std.proofs.Common.{◌≡◌, ℕ, ◌+◌, ◌++◌, suc, length, sym, subst, arith}
use Rattle.std.proofs.lemmas.Result.{err_from_is_err_and}
use Rattle.sot_lang.specs.Tables.{Tables}
use Rattle.sot_flight.specs.Plans.{Plan}
use Rattle.sot_replay.specs.declared.fail.LineKind.TheVariants.{Ended}
use Rattle.sot_replay.specs.Replays.{opening_lines, IsRefusedAt}
use Rattle.sot_replay.specs.Openings.{IsOpeningRefused}
use Rattle.sot_replay.proofs.Answering.{opening_tells, opening_refused, all_is_trace, more_is_refused, fail_map}
use Rattle.sot_replay.proofs.whole.replay_on.Goals as goal

pub returns-in_err-read_opening-clause-refused : goal.returns-in_err-read_opening-clause-refused
returns-in_err-read_opening-clause-refused c =
    let b = c.args.board.now in
    let lines = c.args.lines.now in
    let q = err_from_is_err_and c.from_residual.result c.from_residual.ensures.1 in
    let told = fail_map c.in_err-read_opening.field-0.0 _ (IsRefusedAt b.accepted.program b.accepted.cert.jitter b.plan lines.to_come)
    (λ at kind (place, numbered, refused).
    let one = subst (λ (p : Tables). IsOpeningRefused p c.flight.result.now lines.to_come place kind) c.typed.ensures refused in
    let two = subst (λ (f : Plan). IsOpeningRefused b.accepted.program f lines.to_come place kind) c.flight.ensures one in
    opening_refused b c.reveal_invariant.ensures c.requires.none lines.to_come at place kind (omega (arith, numbered, c.requires.none_lent)) two)
    c.in_err-read_opening.ensures.refused in
    rw (q.1, q.2) told

pub returns-in_err-follow-clause-refused : goal.returns-in_err-follow-clause-refused
returns-in_err-follow-clause-refused c =
    let b = c.args.board.now in
    let lines = c.args.lines.now in
    let q = err_from_is_err_and c.from_residual-in_err-follow.result c.from_residual-in_err-follow.ensures.1 in
    let one = subst (λ (p : Tables). (lines.to_come ≡ opening_lines p c.flight.result.now ++ c.read_opening.new.lines.to_come)
    × (c.read_opening.new.lines.number ≡ lines.number + length (opening_lines p c.flight.result.now))) c.typed.ensures c.in_ok-read_opening.ensures.read in
    let two = subst (λ (f : Plan). (lines.to_come ≡ opening_lines b.accepted.program f ++ c.read_opening.new.lines.to_come)
    × (c.read_opening.new.lines.number ≡ lines.number + length (opening_lines b.accepted.program f))) c.flight.ensures one in
    let number : c.read_opening.new.lines.number ≡ suc (length (opening_lines b.accepted.program b.plan)) = omega (arith, two.1, c.requires.none_lent) in
    let told = fail_map c.in_err-follow.field-0.0 _ (IsRefusedAt b.accepted.program b.accepted.cert.jitter b.plan lines.to_come)
    (λ at kind refused. subst (λ l. IsRefusedAt b.accepted.program b.accepted.cert.jitter b.plan l at kind) (sym two.0)
    (refused (opening_lines b.accepted.program b.plan) (opening_tells b c.reveal_invariant.ensures c.requires.none) number))
    c.in_err-follow.ensures.refused in
    rw (q.1, q.2) told

pub returns-in-None-clause-legal : goal.returns-in-None-clause-legal
returns-in-None-clause-legal c =
    let b = c.args.board.now in
    let lines = c.args.lines.now in
    let one = subst (λ (p : Tables). (lines.to_come ≡ opening_lines p c.flight.result.now ++ c.read_opening.new.lines.to_come)
    × (c.read_opening.new.lines.number ≡ lines.number + length (opening_lines p c.flight.result.now))) c.typed.ensures c.in_ok-read_opening.ensures.read in
    let two = subst (λ (f : Plan). (lines.to_come ≡ opening_lines b.accepted.program f ++ c.read_opening.new.lines.to_come)
    × (c.read_opening.new.lines.number ≡ lines.number + length (opening_lines b.accepted.program f))) c.flight.ensures one in
    let number : c.read_opening.new.lines.number ≡ 1 + length (opening_lines b.accepted.program b.plan) = omega (arith, two.1, c.requires.none_lent) in
    all_is_trace b c.follow.new.board c.reveal_invariant.ensures c.requires.none lines.to_come c.read_opening.new.lines.to_come two.0
    c.read_opening.new.lines.number number c.follow.new.lines.to_come c.follow.new.lines.number c.in_ok-follow.ensures.ended c.in-None.ensures.0

pub returns-in-Some-clause-refused : goal.returns-in-Some-clause-refused
returns-in-Some-clause-refused c =
    let b = c.args.board.now in
    let lines = c.args.lines.now in
    let one = subst (λ (p : Tables). (lines.to_come ≡ opening_lines p c.flight.result.now ++ c.read_opening.new.lines.to_come)
    × (c.read_opening.new.lines.number ≡ lines.number + length (opening_lines p c.flight.result.now))) c.typed.ensures c.in_ok-read_opening.ensures.read in
    let two = subst (λ (f : Plan). (lines.to_come ≡ opening_lines b.accepted.program f ++ c.read_opening.new.lines.to_come)
    × (c.read_opening.new.lines.number ≡ lines.number + length (opening_lines b.accepted.program f))) c.flight.ensures one in
    let number : c.read_opening.new.lines.number ≡ 1 + length (opening_lines b.accepted.program b.plan) = omega (arith, two.1, c.requires.none_lent) in
    let (here, numbered, step) = c.in-Some.ensures in
    subst (λ (n : ℕ). IsRefusedAt b.accepted.program b.accepted.cert.jitter b.plan lines.to_come n Ended) (sym numbered)
    (more_is_refused b c.follow.new.board c.reveal_invariant.ensures c.requires.none lines.to_come c.read_opening.new.lines.to_come two.0
    c.read_opening.new.lines.number number c.follow.new.lines.to_come c.follow.new.lines.number c.in_ok-follow.ensures.ended
    c.requires.words c.in-Some.field-0-1.now c.next.new.self.to_come here)
