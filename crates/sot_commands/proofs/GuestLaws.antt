-- What is told of guests is told of one flight: bytes spell one, and a written trace is of one history.
use Rattle.std.proofs.Common.{◌≡◌, ℕ, List, Option, Some, sym, ◌∙◌, subst}
use Rattle.std.specs.Global.{Vec}
use Rattle.sot_flight.specs.Plans.{Plan}
use Rattle.sot_report.specs.Missions.{Mission}
use Rattle.sot_workers.specs.Asked.{EachUnnamedStays}
use Rattle.sot_commands.specs.declared.telling.Telling.{Telling}
use Rattle.sot_commands.specs.Answers.{SpellsFor}
use Rattle.sot_commands.specs.Guests.{GuestsFlew, Flew, UnnamedStay}
use Rattle.sot_commands.specs.Steps.{GuestsStand, GuestsDid}
use Rattle.sot_commands.proofs.Guests.{did_mapped}
use Rattle.sot_sections.specs.declared.mission.Need.TheVariants as needs
use Rattle.sot_law_trace_unique.proofs.OneHistory.{one_history}
use Rattle.sot_fly_worker.specs.Askings.{Asking}
use Rattle.sot_commands.specs.GuestLaws.{FlewOnce}
use Rattle.sot_commands.proofs.OneAnswer.{flight_same}

pub flew_once : {C : Type 0} (told : C → Option (List Asking)) → FlewOnce told
flew_once told guests bytes text before after other_before other_after x y = (
  flight_same needs.Fly guests bytes x.mission y.mission x.spelled y.spelled x.plan y.plan x.flight y.flight,
  one_history needs.Fly guests bytes x.mission y.mission x.plan y.plan x.mission.cert.jitter y.mission.cert.jitter x.flew.history y.flew.history x.spelled
      y.spelled x.flew.flown y.flew.flown (sym x.flew.text_is ∙ y.flew.text_is),
)

-- what the guests of a flight did is what those of the mission did that the bytes spell
module _ {C : Type 0} (told : C → Option (List Asking)) (guests : ℕ) (bytes : List ℕ) (m : Mission) (f : Plan) (before after : Vec C)
    (spells : SpellsFor needs.Fly guests bytes m) (is : m.flight ≡ Some f) where
  pub mission_did : (telling : Telling) (status : ℕ) (said : List ℕ)
      → GuestsDid telling status said (λ text. GuestsFlew told m.tables m.cert.jitter f text before.items after.items) before after
      → GuestsDid telling status said (λ text. Flew told guests bytes text before.items after.items) before after
  mission_did telling status said did =
      did_mapped telling status said _ _ before after (λ text flew. record { mission = m; spelled = spells; plan = f; flight = is; flew = flew }) did

  pub mission_stand : GuestsStand told (EachUnnamedStays f before.items after.items) before after
      → GuestsStand told (UnnamedStay guests bytes before.items after.items) before after
  mission_stand stand = record {
    count = stand.count;
    go_on = stand.go_on;
    stay =
        λ n g spells' is'. subst (λ (h : Plan). EachUnnamedStays h before.items after.items)
        (flight_same needs.Fly guests bytes m n spells spells' f g is is') stand.stay;
  }
