use Rattle.std.proofs.Common.{◌≤◌, ◌+◌, Err, length, sym, ap, ◌∙◌, arith}
use Rattle.std.proofs.lemmas.List.{take_rest, length-drop}
use Rattle.sot_text.specs.declared.token.Span.{Span}
use Rattle.sot_text.specs.declared.token.LexFault.TheVariants as faults
use Rattle.sot_text.specs.declared.lexeme.Front.TheVariants as fronts
use Rattle.sot_text.specs.Reading.{Reading}
use Rattle.sot_text.proofs.Aheads.{token_text}
use Rattle.sot_text.proofs.Starts.{column_at}
use Rattle.sot_text.proofs.Nexts.{next_at, token_is, place_behind}
use Rattle.sot_text.proofs.lexer.Lexer.next.Goals as goal

pub further-self-inside-requires : goal.further-self-inside-requires
further-self-inside-requires c =
    let bytes = c.self.inside.bytes.now in
    let from = c.next_start-start.result.at in
    let column = column_at bytes from c.next_start-start.result.place c.next_start-start.ensures.place in
    omega (arith, column, c.in-Token.ensures.within, ap length (take_rest bytes from), length-drop from bytes)

pub invariant_of-self : goal.invariant_of-self
invariant_of-self c =
    let bytes = c.self.inside.bytes.now in
    let from = c.next_start-start.result.at in
    let len = c.in-Token.len in
    let within : from + len ≤ length bytes = omega (arith, c.in-Token.ensures.within, ap length (take_rest bytes from), length-drop from bytes) in
    let place = place_behind bytes from len c.in-Token.kind c.next_start-start.result.place c.further-self-inside.result c.next_start-start.ensures.place
    c.further-self-inside.ensures c.in-Token.ensures.front in
    (within, c.self.invariant.1, place)

pub returns-in-End-clause-next : goal.returns-in-End-clause-next
returns-in-End-clause-next c =
    next_at c.args.self.now c.self.inside.bytes.now c.self.inside.at c.next_start-start.result.at fronts.End (sym c.self.view_is) c.next_start-start.ensures.at
    c.in-End.ensures.front

pub returns-in-Token-clause-next : goal.returns-in-Token-clause-next
returns-in-Token-clause-next c =
    let bytes = c.self.inside.bytes.now in
    let from = c.next_start-start.result.at in
    let token = fronts.Token c.in-Token.kind c.in-Token.len in
    token_is bytes from c.in-Token.len c.in-Token.kind c.next_start-start.result.place c.next_start-start.ensures.place
    ∙ next_at c.args.self.now bytes c.self.inside.at c.next_start-start.result.at token (sym c.self.view_is) c.next_start-start.ensures.at
    c.in-Token.ensures.front

pub returns-in-Token-clause-bytes : goal.returns-in-Token-clause-bytes
returns-in-Token-clause-bytes c = ap (λ (r : Reading). r.bytes) c.self.view_is

pub returns-in-Token-clause-whole : goal.returns-in-Token-clause-whole
returns-in-Token-clause-whole c =
    let from = c.next_start-start.result.at in
    token_text c.self.inside.bytes.now _ c.in-Token.kind c.in-Token.len from _ (sym c.in-Token.ensures.front) (take_rest c.self.inside.bytes.now from)
    (omega arith)

pub returns-in-Token-clause-forward : goal.returns-in-Token-clause-forward
returns-in-Token-clause-forward c =
    omega (arith, ap (λ (r : Reading). r.at) c.self.view_is, c.in-Token.ensures.some)

pub returns-in-Token-clause-within : goal.returns-in-Token-clause-within
returns-in-Token-clause-within c =
    let bytes = c.self.inside.bytes.now in
    let from = c.next_start-start.result.at in
    omega (arith, c.in-Token.ensures.some, c.in-Token.ensures.within, ap length (take_rest bytes from), length-drop from bytes)

pub returns-in-BadByte-clause-next : goal.returns-in-BadByte-clause-next
returns-in-BadByte-clause-next c =
    let bytes = c.self.inside.bytes.now in
    let from = c.next_start-start.result.at in
    ap (λ (at : Span). Err (faults.BadByte at)) c.next_start-start.ensures.place
    ∙ next_at c.args.self.now bytes c.self.inside.at c.next_start-start.result.at fronts.BadByte (sym c.self.view_is) c.next_start-start.ensures.at
    c.in-BadByte.ensures.front

pub returns-in-NameLong-clause-next : goal.returns-in-NameLong-clause-next
returns-in-NameLong-clause-next c =
    let bytes = c.self.inside.bytes.now in
    let from = c.next_start-start.result.at in
    ap (λ (at : Span). Err (faults.NameLong at)) c.next_start-start.ensures.place
    ∙ next_at c.args.self.now bytes c.self.inside.at c.next_start-start.result.at (fronts.NameLong c.in-NameLong.len) (sym c.self.view_is)
    c.next_start-start.ensures.at c.in-NameLong.ensures.front

pub returns-in-LiteralWide-clause-next : goal.returns-in-LiteralWide-clause-next
returns-in-LiteralWide-clause-next c =
    let bytes = c.self.inside.bytes.now in
    let from = c.next_start-start.result.at in
    ap (λ (at : Span). Err (faults.LiteralWide at)) c.next_start-start.ensures.place
    ∙ next_at c.args.self.now bytes c.self.inside.at c.next_start-start.result.at (fronts.LiteralWide c.in-LiteralWide.len) (sym c.self.view_is)
    c.next_start-start.ensures.at c.in-LiteralWide.ensures.front
