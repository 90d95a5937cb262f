-- What is heard in a session changes it in one way.
use Rattle.std.proofs.Common.{◌≡◌, ◌∙◌, ℕ, ℤ, List, Option, length, refl, sym, ap, subst}
use Rattle.sot_lang.specs.Tables.{Tables}
use Rattle.sot_tube.specs.Admitted.{Admitted}
use Rattle.sot_world.specs.Configurations.{IsSized}
use Rattle.sot_world.specs.Steps.{Input}
use Rattle.sot_world.specs.Outcomes.{InputTaken}
use Rattle.sot_world.proofs.Unique.{steps_are_unique}
use Rattle.sot_guard.specs.declared.outside.Outside.{Outside}
use Rattle.sot_guard.specs.declared.told.Told.{Told}
use Rattle.sot_guard.specs.Hearing.{Hearing, IsHearing, program_of, jitter_of, guard_at}
use Rattle.sot_guard.specs.Hearing.{TakesInput, TakesDraft, GoesThrough, TakesTick, IsWithdrawn, PassesUnseen, Resumes}
use Rattle.sot_law_guard_answers.specs.Answers.{AreOneSession}
use Rattle.sot_law_guard_answers.proofs.Parts.{IsLong, long, same_guarding, no_drafts_once, none_drafted_once}
use Rattle.sot_law_guard_answers.proofs.Instants.{keeps_lengths, instant_once}
use Rattle.sot_law_guard_answers.proofs.Moves.{tick_once, unseen_once, withdrawn_once}
use Rattle.sot_law_guard_answers.proofs.Outsides.{outside_once}
use Rattle.sot_law_guard_answers.proofs.Resumes.{regains_once}

-- the same session with something else told of its last instant
abbrev pub retold : Hearing → List Told → Hearing
retold h x = record h { told = x }

pub one_with_itself : (h : Hearing) (x : List Told) → AreOneSession h (retold h x)
one_with_itself h x = record { guarding = refl; turn = refl; seen = refl; drafts = refl; drafted = refl }

-- sessions that come from one, with another guard
with_guard : (h : Hearing) (x : List Told) (k k' : Hearing) → k ≡ record h { guarding = k.guarding } → k' ≡ record (retold h x) { guarding = k'.guarding }
    → k.guarding ≡ k'.guarding → AreOneSession k k'
with_guard h x k k' rest rest' same = record {
  guarding = same;
  turn = ap (λ (y : Hearing). y.turn) rest ∙ sym (ap (λ (y : Hearing). y.turn) rest');
  seen = ap (λ (y : Hearing). y.seen) rest ∙ sym (ap (λ (y : Hearing). y.seen) rest');
  drafts = ap (λ (y : Hearing). y.drafts) rest ∙ sym (ap (λ (y : Hearing). y.drafts) rest');
  drafted = ap (λ (y : Hearing). y.drafted) rest ∙ sym (ap (λ (y : Hearing). y.drafted) rest');
}

module _ (h : Hearing) (x : List Told) (k k' : Hearing) where
  pub input_once : (topic : ℕ) (value : List ℤ) → TakesInput h topic value k → TakesInput (retold h x) topic value k' → AreOneSession k k'
  input_once topic value s t =
      let same : k.guarding.at ≡ k'.guarding.at =
      (steps_are_unique (program_of h) 0 h.guarding.at (Input topic value) k.guarding.at k'.guarding.at InputTaken InputTaken s.step refl t.step refl).0 in
      record {
        guarding =
            ap (λ (y : Hearing). y.guarding) s.rest ∙ ap (guard_at h.guarding) same ∙ sym (ap (λ (y : Hearing). y.guarding) t.rest);
        turn = ap (λ (y : Hearing). y.turn) s.rest ∙ sym (ap (λ (y : Hearing). y.turn) t.rest);
        seen = ap (λ (y : Hearing). y.seen) s.rest ∙ sym (ap (λ (y : Hearing). y.seen) t.rest);
        drafts = ap (λ (y : Hearing). y.drafts) s.rest ∙ sym (ap (λ (y : Hearing). y.drafts) t.rest);
        drafted = ap (λ (y : Hearing). y.drafted) s.rest ∙ sym (ap (λ (y : Hearing). y.drafted) t.rest);
      }

  pub draft_once : (n : ℕ) (draft : List (Option ℤ)) → TakesDraft h n draft k → TakesDraft (retold h x) n draft k' → AreOneSession k k'
  draft_once n draft s t = record {
    guarding = ap (λ (y : Hearing). y.guarding) s.rest ∙ sym (ap (λ (y : Hearing). y.guarding) t.rest);
    turn = ap (λ (y : Hearing). y.turn) s.rest ∙ sym (ap (λ (y : Hearing). y.turn) t.rest);
    seen = ap (λ (y : Hearing). y.seen) s.rest ∙ sym (ap (λ (y : Hearing). y.seen) t.rest);
    drafts = ap (λ (y : Hearing). y.drafts) s.rest ∙ sym (ap (λ (y : Hearing). y.drafts) t.rest);
    drafted = ap (λ (y : Hearing). y.drafted) s.rest ∙ sym (ap (λ (y : Hearing). y.drafted) t.rest);
  }

  pub resumed_once : Resumes h k → Resumes (retold h x) k' → AreOneSession k k'
  resumed_once s t = with_guard h x k k' s.rest t.rest (regains_once h.guarding k.guarding k'.guarding s.regains t.regains)

  -- all of an instant
  pub go_once : IsHearing k → IsHearing k' → GoesThrough h k → GoesThrough (retold h x) k' → AreOneSession k k' × (k.told ≡ k'.told)
  go_once many many' s t =
      let both = instant_once h.guarding.trusted (program_of h) (jitter_of h) h.drafts k.told k'.told h.guarding.at k.guarding.at k'.guarding.at s.order
      t.order s.happened t.happened s.settled t.settled in
      let accepted = s.accepted ∙ sym t.accepted in
      let nodes = ap (λ (a : Admitted). length a.program.nodes) accepted in (
        record {
          guarding = same_guarding k.guarding k'.guarding accepted (s.trusted ∙ sym t.trusted) both.1;
          turn = s.next ∙ sym t.next;
          seen = s.seen ∙ sym t.seen;
          drafts = no_drafts_once k.drafts k'.drafts (many.drafts ∙ nodes ∙ sym many'.drafts) s.no_drafts.drafts t.no_drafts.drafts;
          drafted = none_drafted_once k.drafted k'.drafted (many.drafted ∙ nodes ∙ sym many'.drafted) s.no_drafts.drafted t.no_drafts.drafted;
        },
        both.0,
      )

  -- a tick
  module _ (sized : IsSized (program_of k) k.guarding.at) (sized' : IsSized (program_of k') k'.guarding.at) where
    long_here : k.guarding.accepted ≡ h.guarding.accepted → IsLong (program_of h) k.guarding.at
    long_here accepted = long (program_of h) (program_of k) k.guarding.at (ap (λ (a : Admitted). a.program) accepted) sized

    long_there : k'.guarding.accepted ≡ h.guarding.accepted → IsLong (program_of h) k'.guarding.at
    long_there accepted = long (program_of h) (program_of k') k'.guarding.at (ap (λ (a : Admitted). a.program) accepted) sized'

    pub ticked_once : (points : List (List ℤ)) (o u : Option Outside) → TakesTick h points o k → TakesTick (retold h x) points u k'
        → (o ≡ u) × AreOneSession k k'
    ticked_once points o u s t =
        let same : o ≡ u =
        outside_once h.guarding s.moved t.moved points o u s.moves.points t.moves.points s.judged t.judged in
        let there = subst (λ (w : Option Outside). TakesTick (retold h x) points w k') (sym same) t in (
          same,
          record {
            guarding =
                tick_once h.guarding s.moved there.moved k.guarding k'.guarding points s.moves there.moves s.accepted there.accepted (long_here s.accepted)
                (long_there there.accepted) o s.judged there.judged s.asked there.asked;
            turn = ap (λ (y : Hearing). y.turn) s.rest ∙ sym (ap (λ (y : Hearing). y.turn) t.rest);
            seen = ap (λ (y : Hearing). y.seen) s.rest ∙ sym (ap (λ (y : Hearing). y.seen) t.rest);
            drafts = ap (λ (y : Hearing). y.drafts) s.rest ∙ sym (ap (λ (y : Hearing). y.drafts) t.rest);
            drafted = ap (λ (y : Hearing). y.drafted) s.rest ∙ sym (ap (λ (y : Hearing). y.drafted) t.rest);
          },
        )

  -- the plants are lost from sight
  pub blind_tick_once : IsLong (program_of h) k.guarding.at → IsLong (program_of h) k'.guarding.at → PassesUnseen h k → PassesUnseen (retold h x) k'
      → AreOneSession k k'
  blind_tick_once many many' s t = record {
    guarding =
        unseen_once h.guarding s.moved t.moved k.guarding k'.guarding h.guarding.at.points s.moves t.moves s.accepted t.accepted many many' s.falls t.falls;
    turn = ap (λ (y : Hearing). y.turn) s.rest ∙ sym (ap (λ (y : Hearing). y.turn) t.rest);
    seen = ap (λ (y : Hearing). y.seen) s.rest ∙ sym (ap (λ (y : Hearing). y.seen) t.rest);
    drafts = ap (λ (y : Hearing). y.drafts) s.rest ∙ sym (ap (λ (y : Hearing). y.drafts) t.rest);
    drafted = ap (λ (y : Hearing). y.drafted) s.rest ∙ sym (ap (λ (y : Hearing). y.drafted) t.rest);
  }

  pub blind_instant_once : IsLong (program_of h) k.guarding.at → IsLong (program_of h) k'.guarding.at → IsWithdrawn h k → IsWithdrawn (retold h x) k'
      → AreOneSession k k'
  blind_instant_once many many' s t =
      with_guard h x k k' s.rest t.rest (withdrawn_once h.guarding k.guarding k'.guarding s.falls t.falls many many')

-- a configuration before an instant is as long as the one behind it
pub long_before : (p : Tables) (k u : Hearing) → program_of u ≡ p → GoesThrough k u → IsSized (program_of u) u.guarding.at → IsLong p k.guarding.at
long_before p k u same goes sized =
    let here = long p (program_of u) u.guarding.at same sized in
    let kept = keeps_lengths k.guarding.trusted (program_of k) (jitter_of k) k.drafts u.told k.guarding.at u.guarding.at goes.happened in
    record { left = sym kept.left ∙ here.left; left_dm = sym kept.left_dm ∙ here.left_dm; modes = sym kept.modes ∙ here.modes }
