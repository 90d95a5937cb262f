-- What one turn changes of a shift.
use Rattle.std.specs.Prelude.{ℕ, suc, ◌≡◌, ◌⊎◌, true, List, [], ◌++◌, length, Option}
use Rattle.std.specs.Prelude.{vec_capacity}
use Rattle.sot_lang.specs.Tables.{Tables}
use Rattle.sot_world.specs.HistoryEntry.{Logged}
use Rattle.sot_flight.specs.Plans.{Plan}
use Rattle.sot_turn.specs.Prefixes.{IsPrefix}
use Rattle.sot_turn.specs.Passes.{pass_lock, pass_ground, pass_seen, pass_added}
use Rattle.sot_tube.specs.Admitted.{Admitted}
use Rattle.sot_board.specs.Flown.{FlownBy}
use Rattle.sot_board.specs.Versions.{drafts_of}
use Rattle.sot_fly_worker.specs.declared.shift.Shift.{Shift}
use Rattle.sot_fly_worker.specs.Askings.{Asking, AsksOneMore}
use Rattle.sot_fly_worker.specs.Answers.{FitsFiring}
use Rattle.sot_fly_worker.specs.Shifts.{EachGuest, AreFirings}

-- what is seen has gone on by entries that are no firings of the node
abbrev pub IsQuiet : ℕ → List Logged → List Logged → Type 0
IsQuiet n old new = (more : List Logged) × (new ≡ old ++ more) × (drafts_of n more ≡ [])

-- the node has fired once, and the guest was asked once, which fits this firing
pub record AnswersOnce (p : Tables) (jitter : ℕ) (f : Plan) (n : ℕ) (old new : List Logged)
    (before after : Option (List Asking)) : Type 0 where
  pub one : Asking
  pub asked : AsksOneMore before after one
  pub goes_on : IsPrefix old new
  pub count : length (drafts_of n new) ≡ suc (length (drafts_of n old))
  pub fits : FitsFiring p jitter f n new (length (drafts_of n old)) one

-- the guest was not asked and the node has not fired, or both once
abbrev pub AnswersOn : Tables → ℕ → Plan → ℕ → List Logged → List Logged → Option (List Asking)
    → Option (List Asking) → Type 0
AnswersOn p jitter f n old new before after =
    (IsQuiet n old new × (after ≡ before)) ⊎ AnswersOnce p jitter f n old new before after

-- a turn of a shift that knows this program and this flight
pub record IsTurned {C : Type 0} (asked : C → Option (List Asking)) (a : Admitted) (f : Plan)
    (old new : Shift C) : Type 0 where
  pub node : new.node ≡ old.node
  pub form : new.form ≡ old.form
  pub lock : pass_lock new.pass ≡ pass_lock old.pass
  pub ground : pass_ground new.pass ≡ pass_ground old.pass
  pub drafts : new.drafts.items ≡ drafts_of old.node (pass_seen new.pass)
  pub room : vec_capacity new.drafts ≡ vec_capacity old.drafts
  pub own : List Logged
  pub added : pass_added new.pass ≡ pass_added old.pass ++ own
  pub only_firings : AreFirings old.node own
  pub all_firings : new.drafts.items ≡ old.drafts.items ++ drafts_of old.node own
  pub guest : EachGuest (AnswersOn a.program a.cert.jitter f old.node (pass_seen old.pass)
      (pass_seen new.pass)) asked old.guest new.guest
  pub finished : new.finished ≡ true → FlownBy a.program a.cert.jitter f (pass_seen new.pass)
