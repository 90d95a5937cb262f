-- What becomes of guests.
use Rattle.std.proofs.Common.{◌≡◌, ◌⊎◌, ⊎_elim, ℕ, zero, suc, List, [], ◌∷◌, Option, None, Some, Result, Ok, Err, inl, inr, refl, sym, ap, ◌∙◌, subst}
use Rattle.std.proofs.Common.{append-nil, arith, ◌+◌, ◌++◌, ◌<◌}
use Rattle.std.specs.Prelude.{IfOk, ◌≢◌, vec_len}
use Rattle.std.specs.Global.{Vec}
use Rattle.std.specs.Io.KnownBytes.{Appends}
use Rattle.std.specs.declared.alloc.AllocError.{AllocError}
use Rattle.std.proofs.lemmas.Bool.{cases_eq}
use Rattle.std.proofs.lemmas.Option.{same_Some}
use Rattle.sot_lists.specs.Places.{At}
use Rattle.sot_lists.proofs.Places.{at_same}
use Rattle.sot_lang.specs.Tables.{Tables}
use Rattle.sot_tube.specs.Admitted.{Admitted}
use Rattle.sot_world.specs.HistoryEntry.{Logged}
use Rattle.sot_flight.specs.Plans.{Plan, Crew, Coded, Script, Wild, Guest}
use Rattle.sot_board.specs.Flown.{FlownBy}
use Rattle.sot_trace.specs.Traces.{trace_text}
use Rattle.sot_board.specs.Standing.{Standing}
use Rattle.sot_fly_worker.specs.Askings.{Asking}
use Rattle.sot_fly_worker.specs.Answers.{Answered}
use Rattle.sot_workers.specs.Asked.{EachAnswered, EachUnnamedStays}
use Rattle.sot_cli.specs.declared.answer.Answer.{Answer}
use Rattle.sot_commands.specs.declared.telling.Telling.{Telling}
use Rattle.sot_commands.specs.declared.telling.Telling.TheVariants.{Trace, Summary, Verdict}
use Rattle.sot_commands.specs.WatchTexts.{holds_text, fails_text}
use Rattle.sot_commands.specs.Steps.{Tells, IsBehind, FlewAndTold, GuestsStand, GuestsDid}
use Rattle.sot_ports.specs.Outside.{Written}
use Rattle.sot_sections.specs.declared.mission.Need.TheVariants as needs
use Rattle.sot_commands.specs.Guests.{TellsOn, GuestsGoOn, GuestsFlew, UnnamedStay, IsNoTrace}

-- what is told as before is told on
tells_same : (o : Option (List Asking)) → TellsOn o o
tells_same None = tt
tells_same (Some list) = (list, [], refl, sym (append-nil list))

-- guests that stay as they are go on
pub stay_told : {C : Type 0} (told : C → Option (List Asking)) (guests : List C) → GuestsGoOn told guests guests
stay_told told guests i was now at at' = subst (λ x. TellsOn (told was) (told x)) (at_same guests i was now at at') (tells_same (told was))

-- a guest is named by a node, or by none
named_or_not : (crews : List Crew) (i : ℕ) → ((n : ℕ) × At crews n (Guest i)) ⊎ ((n : ℕ) → At crews n (Guest i) → ⊥)
named_or_not [] i = inr (λ n at. absurd cc)
named_or_not (crew ∷ crews) i = behind (here crew) (named_or_not crews i)
  where
    here : (c : Crew) → (c ≡ Guest i) ⊎ (c ≡ Guest i → ⊥)
    here Coded = inr (λ e. absurd cc)
    here (Script drafts) = inr (λ e. absurd cc)
    here (Wild spread seed stream) = inr (λ e. absurd cc)
    here (Guest j) = ⊎_elim (λ same. inl (ap (λ (k : ℕ). Guest k) same)) (λ differ. inr (λ e. differ (let same : j ≡ i = cc in same))) (cases_eq j i)

    at_none : (crew ≡ Guest i → ⊥) → ((n : ℕ) → At crews n (Guest i) → ⊥) → (n : ℕ) → At (crew ∷ crews) n (Guest i) → ⊥
    at_none differ none zero at = differ (same_Some crew (Guest i) at)
    at_none differ none (suc n) at = none n at

    behind : (crew ≡ Guest i) ⊎ (crew ≡ Guest i → ⊥) → ((n : ℕ) × At crews n (Guest i)) ⊎ ((n : ℕ) → At crews n (Guest i) → ⊥)
        → ((n : ℕ) × At (crew ∷ crews) n (Guest i)) ⊎ ((n : ℕ) → At (crew ∷ crews) n (Guest i) → ⊥)
    behind (inl is) rest = inl (0, ap (λ (c : Crew). Some c) is)
    behind (inr differ) (inl (n, at)) = inl (suc n, at)
    behind (inr differ) (inr none) = inr (at_none differ none)

-- a list that answers firings is told on
answered_on : (t : Tables) (jitter : ℕ) (f : Plan) (n : ℕ) (history : List Logged) (before after : Option (List Asking))
    → Answered t jitter f n history before after → TellsOn before after
answered_on t jitter f n history before None answered = tt
answered_on t jitter f n history before (Some after) answered = (answered.first, answered.more, answered.before_is, answered.after_is)

-- guests that flew go on
pub flew_told : {C : Type 0} (told : C → Option (List Asking)) (a : Admitted) (f : Plan) (history : List Logged) (before after : List C)
    → EachAnswered told a f history before after → EachUnnamedStays f before after → GuestsGoOn told before after
flew_told told a f history before after answered unnamed i was now at at' =
    ⊎_elim
    (λ (n, named). answered_on a.program a.cert.jitter f n history (told was) (told now) (answered n i was now named at at'))
    (λ none. subst (λ x. TellsOn (told was) (told x)) (sym (unnamed i was now none at at')) (tells_same (told was)))
    (named_or_not f.crews i)

-- a history that is told, with what stands behind its trace
module _ (t : Tables) (f : Plan) (history : List Logged) (status : ℕ) (said : List ℕ) where
  behind_of : (telling : Telling) → telling ≢ Summary → Tells telling t f history status said
      → (behind : List ℕ) × IsBehind telling status behind × (said ≡ trace_text t f.start history ++ behind)
  behind_of Trace other (inl (plain, ended, is)) = ([], (ended, refl), is ∙ sym (append-nil (trace_text t f.start history)))
  behind_of Trace other (inr verdict) = absurd verdict
  behind_of Summary other tells = absurd (other refl)
  behind_of (Verdict formula) other (inl (plain, ended, is)) = absurd (plain tt)
  behind_of (Verdict formula) other (inr (x, means, inl (ended, (always, is)))) = (holds_text (f.horizon + 1), inl (ended, (f.horizon + 1, refl)), is)
  behind_of (Verdict formula) other (inr (x, means, inr (one, (time, first, is)))) = (fails_text time, inr (one, (time, refl)), is)

  module _ (Fly : List ℕ → Type 0) (fly : (text : List ℕ) → text ≡ trace_text t f.start history → Fly text) where
    flew_as : (telling : Telling) → telling ≢ Summary → Tells telling t f history status said → FlewAndTold telling status said Fly
    flew_as telling other tells =
        (let (behind, stands, is) = behind_of telling other tells in
        (trace_text t f.start history, behind, stands, is, fly (trace_text t f.start history) refl))

    -- at another status than 0 it is a verdict's
    unasked_as : {X : Type 0} (telling : Telling) → Tells telling t f history status said → status ≢ 0 → X ⊎ FlewAndTold telling status said Fly
    unasked_as Trace (inl (plain, ended, is)) more = absurd (more ended)
    unasked_as Trace (inr verdict) more = absurd verdict
    unasked_as Summary (inl (plain, ended, is)) more = absurd (more ended)
    unasked_as Summary (inr verdict) more = absurd verdict
    unasked_as (Verdict formula) tells more = inr (flew_as (Verdict formula) (λ e. absurd cc) tells)

-- and that of the mission that the bytes spell
told_mapped : (telling : Telling) (status : ℕ) (said : List ℕ) (Fly Flies : List ℕ → Type 0) → ((text : List ℕ) → Fly text → Flies text)
    → FlewAndTold telling status said Fly → FlewAndTold telling status said Flies
told_mapped telling status said Fly Flies so (text, behind, stands, is, fly) = (text, behind, stands, is, so text fly)

unasked_mapped : {X : Type 0} (telling : Telling) (status : ℕ) (said : List ℕ) (Fly Flies : List ℕ → Type 0) → ((text : List ℕ) → Fly text → Flies text)
    → X ⊎ FlewAndTold telling status said Fly → X ⊎ FlewAndTold telling status said Flies
unasked_mapped telling status said Fly Flies so (inl x) = inl x
unasked_mapped telling status said Fly Flies so (inr flew) = inr (told_mapped telling status said Fly Flies so flew)

pub did_mapped : {C : Type 0} (telling : Telling) (status : ℕ) (said : List ℕ) (Fly Flies : List ℕ → Type 0) (before after : Vec C)
    → ((text : List ℕ) → Fly text → Flies text) → GuestsDid telling status said Fly before after → GuestsDid telling status said Flies before after
did_mapped telling status said Fly Flies before after so did = record {
  unasked = λ more. unasked_mapped telling status said Fly Flies so (did.unasked more);
  flew = λ zero other. told_mapped telling status said Fly Flies so (did.flew zero other);
}

-- guests that nobody asked are as they were
pub unnamed_same : {C : Type 0} (f : Plan) (guests : List C) → EachUnnamedStays f guests guests
unnamed_same f guests i was now unnamed at at' = at_same guests i now was at' at

pub unnamed_stay : {C : Type 0} (count : ℕ) (bytes : List ℕ) (guests : List C) → UnnamedStay count bytes guests guests
unnamed_stay count bytes guests m f spells is = unnamed_same f guests

pub all_stand : {C : Type 0} (told : C → Option (List Asking)) (Stay : Type 0) (guests : Vec C) → Stay → GuestsStand told Stay guests guests
all_stand told Stay guests stay = record { count = refl; go_on = stay_told told guests.items; stay = stay }

-- where no flight was flown, they stay whatever is answered
pub unflown : {C : Type 0} (telling : Telling) (r : Result Answer AllocError) (Fly : List ℕ → Type 0) (guests : Vec C) (status : ℕ) → 0 < status
    → IfOk r (λ a. a.status ≡ status) → IfOk r (λ a. IsNoTrace a.text.items)
    → IfOk r (λ a. GuestsDid telling a.status a.text.items Fly guests guests)
unflown telling (Ok a) Fly guests status other is untraced = record {
  unasked = λ more. inl (refl, untraced);
  flew = λ zero flies. absurd (omega (arith, is, zero, other));
}
unflown telling (Err e) Fly guests status other is untraced = tt

-- where memory ran out before the flight
pub lacking : {C : Type 0} (told : C → Option (List Asking)) (f : Plan) (before after : Vec C) → vec_len after ≡ vec_len before → after.items ≡ before.items
    → GuestsStand told (EachUnnamedStays f before.items after.items) before after
lacking told f before after count same = record {
  count = count;
  go_on = subst (λ l. GuestsGoOn told before.items l) (sym same) (stay_told told before.items);
  stay = subst (λ l. EachUnnamedStays f before.items l) (sym same) (unnamed_same f before.items);
}

-- where it was flown, by a history of the board
module _ {C : Type 0} (told : C → Option (List Asking)) (acc : Admitted) (f : Plan) (b : Standing) (before after : Vec C) (is : b.accepted ≡ acc)
    (plan : b.plan ≡ f) (answered : EachAnswered told b.accepted b.plan b.entries before.items after.items)
    (unnamed : EachUnnamedStays b.plan before.items after.items) where
  stayed : EachUnnamedStays f before.items after.items
  stayed = subst (λ (g : Plan). EachUnnamedStays g before.items after.items) plan unnamed

  asked : EachAnswered told acc f b.entries before.items after.items
  asked =
      subst (λ (g : Plan). EachAnswered told acc g b.entries before.items after.items) plan
      (subst (λ (x : Admitted). EachAnswered told x b.plan b.entries before.items after.items) is answered)

  pub flown_stand : vec_len after ≡ vec_len before → GuestsStand told (EachUnnamedStays f before.items after.items) before after
  flown_stand count = record { count = count; go_on = flew_told told acc f b.entries before.items after.items asked stayed; stay = stayed }

  pub flown_did : FlownBy acc.program acc.cert.jitter f b.entries → (telling : Telling) (status : ℕ) (said : List ℕ)
      → Tells telling acc.program f b.entries status said
      → GuestsDid telling status said (λ text. GuestsFlew told acc.program acc.cert.jitter f text before.items after.items) before after
  flown_did flown telling status said tells =
      let fly : (text : List ℕ) → text ≡ trace_text acc.program f.start b.entries
      → GuestsFlew told acc.program acc.cert.jitter f text before.items after.items =
      λ text text_is. record { history = b.entries; flown = flown; text_is = text_is; answered = asked; unnamed = stayed } in record {
        unasked = λ more. unasked_as acc.program f b.entries status said _ fly telling tells more;
        flew = λ zero other. flew_as acc.program f b.entries status said _ fly telling other tells;
      }

-- at status 0 all of the text was written, and it is the answer's status
pub all_written : (held after : Option (List ℕ)) (faults faults_after said : ℕ) (text : List ℕ) (status : ℕ)
    → Written held after faults faults_after said text status → status ≡ 0 → (said ≡ 0) × Appends held after text
all_written held after faults faults_after said text status (inl (is, calm, appended)) none = (sym is ∙ none, appended)
all_written held after faults faults_after said text status (inr (five, rose, part)) none = absurd (omega (arith, five, none))
