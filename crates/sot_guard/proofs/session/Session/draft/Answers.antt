use Rattle.std.proofs.Common.{◌<◌, false, length, refl, sym, ap, ◌∙◌, subst, arith}
use Rattle.std.proofs.lemmas.Bool.{false≢true}
use Rattle.std.proofs.lemmas.Option.{slice_get_within}
use Rattle.sot_lists.proofs.Places.{read_or}
use Rattle.sot_world.specs.Configurations.{is_left}
use Rattle.sot_guard.specs.Hearing.{IsExternal, has_drafted, program_of}
use Rattle.sot_guard.proofs.AlongSession.{drafts_along}
use Rattle.sot_guard.proofs.session.Session.draft.Goals as goal

pub returns-then-not-is_external : goal.returns-then-not-is_external
returns-then-not-is_external c =
    let turn = ap (λ h. h.turn) (sym c.self.view_is) ∙ c.in-Instant.is in
    let program = c.typed.ensures ∙ ap program_of c.self.view_is in (
      refl,
      (
        turn,
        λ e. false≢true (sym c.if-not-is_external.true ∙ c.is_external.ensures.1 (subst (λ t. IsExternal t c.args.node) (sym program) e)),
      ),
    )

pub left-requires : goal.left-requires
left-requires c =
    let e = subst (λ t. IsExternal t c.args.node) c.typed.ensures (c.is_external.ensures.0 c.if-not-is_external.false) in
    slice_get_within c.self.inside.guard.accepted.program.nodes c.args.node e.0 e.1

pub returns-then-not-left : goal.returns-then-not-left
returns-then-not-left c =
    let turn = ap (λ h. h.turn) (sym c.self.view_is) ∙ c.in-Instant.is in
    let program = c.typed.ensures ∙ ap program_of c.self.view_is in
    let external = subst (λ t. IsExternal t c.args.node) program (c.is_external.ensures.0 c.if-not-is_external.false) in
    let left = ap (λ h. is_left h.guarding.at c.args.node) (sym c.self.view_is) ∙ sym c.left.ensures ∙ c.if-not-left.true in
    (refl, (turn, external, left))

pub index-requires : goal.index-requires
index-requires c =
    let e = subst (λ t. IsExternal t c.args.node) c.typed.ensures (c.is_external.ensures.0 c.if-not-is_external.false) in
    let lt = slice_get_within c.self.inside.guard.accepted.program.nodes c.args.node e.0 e.1 in
    omega (arith, lt, c.self.invariant.hears.drafted, c.self.inside.drafted.ok.0)

pub returns-then-index : goal.returns-then-index
returns-then-index c =
    let turn = ap (λ h. h.turn) (sym c.self.view_is) ∙ c.in-Instant.is in
    let program = c.typed.ensures ∙ ap program_of c.self.view_is in
    let external = subst (λ t. IsExternal t c.args.node) program (c.is_external.ensures.0 c.if-not-is_external.false) in
    let left = ap (λ h. is_left h.guarding.at c.args.node) (sym c.self.view_is) ∙ sym c.left.ensures ∙ c.if-not-left.false in
    let e = subst (λ t. IsExternal t c.args.node) c.typed.ensures (c.is_external.ensures.0 c.if-not-is_external.false) in
    let there = slice_get_within c.self.inside.guard.accepted.program.nodes c.args.node e.0 e.1 in
    let lt : c.args.node < length c.self.inside.drafted.items = omega (arith, there, c.self.invariant.hears.drafted) in
    let has = ap (λ h. has_drafted h c.args.node) (sym c.self.view_is)
    ∙ sym (read_or c.self.inside.drafted.items c.args.node c.index.result.now false lt c.index.ensures) ∙ c.if-index.true in
    (refl, (turn, external, left, has))

pub index_mut-requires : goal.index_mut-requires
index_mut-requires c =
    let e = subst (λ t. IsExternal t c.args.node) c.typed.ensures (c.is_external.ensures.0 c.if-not-is_external.false) in
    let lt = slice_get_within c.self.inside.guard.accepted.program.nodes c.args.node e.0 e.1 in
    omega (arith, lt, c.self.invariant.hears.drafts, c.self.inside.drafts.ok.0)

pub index_mut-requires-2 : goal.index_mut-requires-2
index_mut-requires-2 c =
    let e = subst (λ t. IsExternal t c.args.node) c.typed.ensures (c.is_external.ensures.0 c.if-not-is_external.false) in
    let lt = slice_get_within c.self.inside.guard.accepted.program.nodes c.args.node e.0 e.1 in
    omega (arith, lt, c.self.invariant.hears.drafted, c.self.inside.drafted.ok.0)

pub returns : goal.returns
returns c =
    let turn = ap (λ h. h.turn) (sym c.self.view_is) ∙ c.in-Instant.is in
    let program = c.typed.ensures ∙ ap program_of c.self.view_is in
    let external = subst (λ t. IsExternal t c.args.node) program (c.is_external.ensures.0 c.if-not-is_external.false) in
    let left = ap (λ h. is_left h.guarding.at c.args.node) (sym c.self.view_is) ∙ sym c.left.ensures ∙ c.if-not-left.false in
    let e = subst (λ t. IsExternal t c.args.node) c.typed.ensures (c.is_external.ensures.0 c.if-not-is_external.false) in
    let there = slice_get_within c.self.inside.guard.accepted.program.nodes c.args.node e.0 e.1 in
    let lt : c.args.node < length c.self.inside.drafted.items = omega (arith, there, c.self.invariant.hears.drafted) in
    let first = ap (λ h. has_drafted h c.args.node) (sym c.self.view_is)
    ∙ sym (read_or c.self.inside.drafted.items c.args.node c.index.result.now false lt c.index.ensures) ∙ c.if-index.false in
    record {
      turn = turn;
      external = external;
      left = left;
      first = first;
      rest = drafts_along _ _ c.args.node c.args.draft.now c.self.view_is;
    }
