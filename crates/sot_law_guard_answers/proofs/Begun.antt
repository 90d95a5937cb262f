-- A talk begins in one way.
use Rattle.std.proofs.Common.{◌≡◌, ◌∙◌, ℕ, ℤ, Bool, false, List, length, slice_index_or, sym, ap, arith}
use Rattle.std.proofs.lemmas.List.{ext_get_or}
use Rattle.sot_lists.specs.Places.{At}
use Rattle.sot_lists.proofs.Places.{at_below}
use Rattle.sot_calendar.specs.Due.{IsDue}
use Rattle.sot_lang.specs.Tables.{Tables}
use Rattle.sot_tube.specs.Admitted.{Admitted}
use Rattle.sot_world.specs.Configurations.{Configuration, is_left, is_left_dm}
use Rattle.sot_world.proofs.Unique.{same_flag}
use Rattle.sot_guard.specs.Beginning.{IsOpeningAt}
use Rattle.sot_law_guard_answers.specs.Answers.{TalksBeginOnce}
use Rattle.sot_law_guard_answers.proofs.Parts.{same_guarding, no_drafts_once, none_drafted_once}

-- flags that agree at each place
same_flags : {A : Type 0} (xs : List A) (ys zs : List Bool) → length ys ≡ length xs → length zs ≡ length xs
    → ((k : ℕ) (x : A) → At xs k x → slice_index_or ys k false ≡ slice_index_or zs k false) → ys ≡ zs
same_flags xs ys zs a b h = ext_get_or false ys zs (a ∙ sym b) (λ k lt. let here = at_below xs k (omega (arith, lt, a)) in h k here.0 here.1)

-- there is one opening at a time and at points
opening_once : (p : Tables) (time : ℕ) (start : List (List ℤ)) (C D : Configuration) → IsOpeningAt p time start C → IsOpeningAt p time start D → C ≡ D
opening_once p time start C D c d =
    same_configuration (c.time_is ∙ sym d.time_is)
    (same_flags p.nodes C.left D.left c.sizes.left d.sizes.left
    (λ n node at. same_flag (is_left C n) (is_left D n) (IsDue node.period node.offset time) (c.left n node at) (d.left n node at)))
    (same_flags p.modules C.left_dm D.left_dm c.sizes.left_dm d.sizes.left_dm
    (λ m a at. same_flag (is_left_dm C m) (is_left_dm D m) (IsDue a.period a.offset time) (c.left_dm m a at) (d.left_dm m a at)))
    (c.modes ∙ sym d.modes) (c.scalars ∙ sym d.scalars) (c.locals ∙ sym d.locals) (c.points ∙ sym d.points)
  where
    same_configuration : C.time ≡ D.time → C.left ≡ D.left → C.left_dm ≡ D.left_dm → C.modes ≡ D.modes → C.scalars ≡ D.scalars
        → C.locals ≡ D.locals → C.points ≡ D.points → C ≡ D
    same_configuration t l m o s k q i = record { time = t i; left = l i; left_dm = m i; modes = o i; scalars = s i; locals = k i; points = q i }

pub begun_once : TalksBeginOnce
begun_once accepted time start t u kept kept' a b =
    let h = t.hearing in
    let k = u.hearing in
    let same = a.accepted_is ∙ sym b.accepted_is in
    let nodes = ap (λ (x : Admitted). length x.program.nodes) same in
    let places = opening_once accepted.program time start h.guarding.at k.guarding.at a.opening b.opening in (
      record {
        guarding = same_guarding h.guarding k.guarding same (a.trusted ∙ sym b.trusted) places;
        turn = a.turn ∙ sym b.turn;
        seen = a.seen ∙ sym b.seen;
        drafts =
            no_drafts_once h.drafts k.drafts (kept.session.drafts ∙ nodes ∙ sym kept'.session.drafts) a.no_drafts.drafts b.no_drafts.drafts;
        drafted =
            none_drafted_once h.drafted k.drafted (kept.session.drafted ∙ nodes ∙ sym kept'.session.drafted) a.no_drafts.drafted b.no_drafts.drafted;
      },
      a.no_events ∙ sym b.no_events,
    )
