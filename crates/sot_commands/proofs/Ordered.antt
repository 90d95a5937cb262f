-- From a flight that was ordered to the end of the call.
use Rattle.std.proofs.Common.{◌≡◌, ℕ, ◌≤◌, List, Option, Some, inl, inr, refl, sym, ◌∙◌, subst, arith, Global}
use Rattle.std.specs.Prelude.{◌⊎◌, ◌≢◌, String, vec_len}
use Rattle.std.specs.Global.{Vec}
use Rattle.std.specs.Io.KnownBytes.{Keeps, Appends}
use Rattle.sot_ports.specs.Whole.{ReadsAll}
use Rattle.sot_flight.specs.Plans.{Plan}
use Rattle.sot_report.specs.Missions.{Mission}
use Rattle.sot_sections.specs.declared.mission.Need.TheVariants as needs
use Rattle.sot_fly_worker.specs.Askings.{Asking}
use Rattle.sot_commands.specs.declared.words.Command.{Command}
use Rattle.sot_commands.specs.declared.words.Command.TheVariants.{Check, Fly, Replay, Recover, Watch, Format, Certify, Make, Soak}
use Rattle.sot_commands.specs.declared.telling.Telling.{Telling}
use Rattle.sot_commands.specs.declared.telling.Telling.TheVariants.{Trace, Summary, Verdict}
use Rattle.sot_commands.specs.declared.order.FlightOrder.{FlightOrder}
use Rattle.sot_commands.specs.Words.{Asks, AsksWatch}
use Rattle.sot_commands.specs.Answers.{SpellsFor, Replies}
use Rattle.sot_ports.specs.Outside.{Outside, Written}
use Rattle.sot_commands.specs.Ends.{Ends}
use Rattle.sot_commands.specs.Guests.{GuestsEnd, GuestsFlew, Flew, UnnamedStay, FlewAndWrote, IsNothing, SaysHolds, SaysFails, IsNoTrace, WroteNoTrace}
use Rattle.sot_commands.specs.Steps.{JudgesWatched, GuestsStand, GuestsDid, IsBehind, FlewAndTold}
use Rattle.sot_commands.specs.Orders.{Orders, IsOrdered, IsVerdict, FliesBytes, FlightEnds, handed_in}
use Rattle.sot_commands.proofs.OneCommand.{same_command}
use Rattle.sot_commands.proofs.Endings.{ends_said, ends_silent}
use Rattle.sot_commands.proofs.Forms.{flown}
use Rattle.sot_commands.proofs.GuestLaws.{mission_did}
use Rattle.sot_commands.proofs.Guests.{stay_told, all_written}

-- what is said of a mission that was read, and what its guests did, is said of its bytes
pub mission_said : {C : Type 0} (told : C → Option (List Asking)) (guests : ℕ) (bytes : List ℕ) (m : Mission) (f : Plan) (was now : Vec C)
    → SpellsFor needs.Fly guests bytes m → m.flight ≡ Some f → (telling : Telling) (status : ℕ) (said : List ℕ)
    → JudgesWatched telling m.tables m.cert f status said
    × GuestsDid telling status said (λ text. GuestsFlew told m.tables m.cert.jitter f text was.items now.items) was now
    → FliesBytes guests telling bytes status said × GuestsDid telling status said (λ text. Flew told guests bytes text was.items now.items) was now
mission_said told guests bytes m f was now spells is telling status said (judged, did) =
    (flown guests bytes said m f spells is telling status judged, mission_did told guests bytes m f was now spells is telling status said did)

-- what is said of the mission of a flight, or of one that is summed, is said of the order
pub traced : (telling : Telling) (guests : ℕ) (mission : List ℕ) (status : ℕ) (said : List ℕ) → telling ≢ Summary
    → FliesBytes guests telling mission status said
    → FliesBytes (handed_in telling guests) telling mission status said
traced Trace guests mission status said other flies = flies
traced Summary guests mission status said other flies = absurd (other refl)
traced (Verdict formula) guests mission status said other flies = flies

pub summed : (telling : Telling) (guests : ℕ) (mission : List ℕ) (status : ℕ) (said : List ℕ) → telling ≡ Summary → FliesBytes 0 Summary mission status said
    → FliesBytes (handed_in telling guests) telling mission status said
summed telling guests mission status said is flies =
    subst (λ (t : Telling). FliesBytes (handed_in t guests) t mission status said) (sym is) flies

-- a flight that is summed was flown without the guests, and no trace of it is told
pub summed_did : {C : Type 0} (telling : Telling) (status : ℕ) (said : List ℕ) (Did Does : List ℕ → Type 0) (guests was now : Vec C) → telling ≡ Summary
    → GuestsDid Summary status said Did was now → GuestsDid telling status said Does guests guests
summed_did telling status said Did Does guests was now is did = record {
  unasked = λ more. inl (refl, untraced (did.unasked more));
  flew = λ zero other. absurd (other is);
}
  where
    untraced : ((now ≡ was) × IsNoTrace said) ⊎ FlewAndTold Summary status said Did → IsNoTrace said
    untraced (inl (same, none)) = none
    untraced (inr (text, behind, stands, whole, flew)) = absurd stands

-- a command that ordered a flight replies with what is said of it
replies_of : (guests : ℕ) (c : Command) (bytes mission : List ℕ) (telling : Telling) (status : ℕ) (text : List ℕ) → Orders c bytes telling mission
    → FliesBytes (handed_in telling guests) telling mission status text
    → Replies guests c bytes status text
replies_of guests Check bytes mission telling status text orders flies = absurd orders
replies_of guests Fly bytes mission telling status text (is, same) flies =
    subst (λ (b : List ℕ). FliesBytes guests Trace b status text) same (subst (λ (t : Telling). FliesBytes (handed_in t guests) t mission status text) is flies)
replies_of guests Replay bytes mission telling status text orders flies = absurd orders
replies_of guests Recover bytes mission telling status text orders flies = absurd orders
replies_of guests (Watch formula) bytes mission telling status text (is, same) flies =
    subst (λ (b : List ℕ). FliesBytes guests (Verdict formula) b status text) same
    (subst (λ (t : Telling). FliesBytes (handed_in t guests) t mission status text) is flies)
replies_of guests Format bytes mission telling status text orders flies = absurd orders
replies_of guests Certify bytes mission telling status text orders flies = absurd orders
replies_of guests (Make n seed) bytes mission telling status text orders flies = absurd orders
replies_of guests (Soak n seed) bytes mission telling status text (is, same) flies =
    subst (λ (b : List ℕ). FliesBytes 0 Summary b status text) same (subst (λ (t : Telling). FliesBytes (handed_in t guests) t mission status text) is flies)

-- of a flight nothing is said at status 6
said_some : (guests : ℕ) (telling : Telling) (mission : List ℕ) (said : ℕ) (text : List ℕ) (held after : Option (List ℕ)) (faults faults_after status : ℕ)
    → FliesBytes guests telling mission said text → Written held after faults faults_after said text status → status ≢ 6
said_some guests telling mission said text held after faults faults_after status flies (inr (five, rose, part)) six = absurd (omega (arith, five, six))
said_some guests telling mission said text held after faults faults_after status (inl (zero, flies)) (inl (is, calm, wrote)) six =
    absurd (omega (arith, zero, is, six))
said_some guests telling mission said text held after faults faults_after status (inr (inl (one, refuses))) (inl (is, calm, wrote)) six =
    absurd (omega (arith, one, is, six))
said_some guests telling mission said text held after faults faults_after status (inr (inr (three, faulty))) (inl (is, calm, wrote)) six =
    absurd (omega (arith, three, is, six))

-- what is said late is said at a late status, or not written
pub said_late : (held after : Option (List ℕ)) (faults faults_after said : ℕ) (text : List ℕ) (status : ℕ) → said ≡ 7
    → Written held after faults faults_after said text status → 4 ≤ status
said_late held after faults faults_after said text status late (inl (is, calm, wrote)) = omega (arith, late, is)
said_late held after faults faults_after said text status late (inr (five, rose, part)) = omega (arith, five)

-- the call ends as the flight does
pub ordered_ends : (guests : ℕ) (words : List (String Global)) (before after : Outside) (order : FlightOrder) (status : ℕ)
    → IsOrdered words before.left after.left order → after.read_faults ≡ before.read_faults
    → FlightEnds guests order.telling order.text.items before.held after.held before.write_faults after.write_faults status
    → (status ≡ 6 → Keeps before.held after.held) → Ends guests words before after status
ordered_ends guests words before after order status ordered read (inl (six, wrote)) keeps =
    ends_silent guests words before after status (inl (six, read)) wrote (keeps six)
ordered_ends guests words before after order status (c, asks, (bytes, takes, short, orders)) read (inr (said, text, flies, written)) keeps =
    ends_said guests words before after text said status (inl
    (c, asks, inl (bytes, takes, short, replies_of guests c bytes order.text.items order.telling said text orders flies))) read written

-- where no flight was asked for, or none was left, the guests are as they were
pub untouched : {C : Type 0} (told : C → Option (List Asking)) (Flies Watches : Type 0) (IsMission : List ℕ → Type 0) (held held_after : Option (List ℕ))
    (guests : Vec C) (status : ℕ) → (status ≤ 1 → Flies → ⊥) → (status ≤ 1 → Watches → ⊥)
    → GuestsEnd told Flies Watches IsMission held held_after guests guests status
untouched told Flies Watches IsMission held held_after guests status never unwatched = record {
  count = refl;
  go_on = stay_told told guests.items;
  stay = λ _ _. refl;
  unasked = λ _ _ _. inl refl;
  unnamed = inl refl;
  flew = λ zero flies. absurd (never (omega (arith, zero)) flies);
  watched = λ zero watches. absurd (unwatched (omega (arith, zero)) watches);
  failed = λ one watches. absurd (unwatched (omega (arith, one)) watches);
}

-- the guests of a trace that was said and written, or not
stays_but_for_traces : {C : Type 0} (telling : Telling) (was now : Vec C) → (telling ≡ Summary → now ≡ was) → (telling ≡ Trace → ⊥)
    → (IsVerdict telling → ⊥) → now ≡ was
stays_but_for_traces Trace was now alone none unwatched = absurd (none refl)
stays_but_for_traces Summary was now alone none unwatched = alone refl
stays_but_for_traces (Verdict formula) was now alone none unwatched = absurd (unwatched tt)

not_summed : (telling : Telling) → IsVerdict telling → telling ≢ Summary
not_summed Trace verdict e = verdict
not_summed Summary verdict e = verdict
not_summed (Verdict formula) verdict e = absurd cc

-- at status 0 stands behind a trace that the formula holds, and at 1 that it fails
behind_fails : (telling : Telling) (status : ℕ) (behind : List ℕ) → IsBehind telling status behind → status ≢ 0
    → (status ≡ 1) × IsVerdict telling × SaysFails behind
behind_fails Trace status behind stands more = absurd (more stands.0)
behind_fails Summary status behind stands more = absurd stands
behind_fails (Verdict formula) status behind (inl (zero, holds)) more = absurd (more zero)
behind_fails (Verdict formula) status behind (inr (one, fails)) more = (one, tt, fails)

behind_holds : (telling : Telling) (status : ℕ) (behind : List ℕ) → IsBehind telling status behind → status ≡ 0 → IsVerdict telling → SaysHolds behind
behind_holds Trace status behind stands zero verdict = absurd verdict
behind_holds Summary status behind stands zero verdict = absurd stands
behind_holds (Verdict formula) status behind (inl (is, holds)) zero verdict = holds
behind_holds (Verdict formula) status behind (inr (one, fails)) zero verdict = absurd (omega (arith, one, zero))

module _ {C : Type 0} (told : C → Option (List Asking)) (telling : Telling) (said : ℕ) (text : List ℕ) (mission : List ℕ) (held held_after : Option (List ℕ))
    (was now : Vec C) where
  abbrev Wrote : (List ℕ → Type 0) → Type 0
  Wrote IsBehindIt = FlewAndWrote told (vec_len was) (λ bytes. bytes ≡ mission) IsBehindIt held held_after was.items now.items

  abbrev Told : ℕ → Type 0
  Told status = FlewAndTold telling status text (λ x. Flew told (vec_len was) mission x was.items now.items)

  -- what was told was written
  wrote_fails : Appends held held_after text → Told said → said ≢ 0 → Wrote SaysFails
  wrote_fails wrote (trace, behind, stands, is, flew) more =
      (mission, trace, behind, refl, (behind_fails telling said behind stands more).2, subst (Appends held held_after) is wrote, flew)

  wrote_holds : Appends held held_after text → Told said → said ≡ 0 → IsVerdict telling → Wrote SaysHolds
  wrote_holds wrote (trace, behind, stands, is, flew) zero verdict =
      (mission, trace, behind, refl, behind_holds telling said behind stands zero verdict, subst (Appends held held_after) is wrote, flew)

  unasked_said : (status : ℕ) (faults faults_after : ℕ) → (said ≢ 0 → ((now ≡ was) × IsNoTrace text) ⊎ Told said)
      → Written held held_after faults faults_after said text status
      → status ≢ 0 → status ≢ 5 → status ≢ 6 → (now ≡ was) ⊎ ((status ≡ 1) × IsVerdict telling)
  unasked_said status faults faults_after unasked (inl (is, calm, wrote)) zero five six = by (unasked (λ none. zero (is ∙ none)))
    where
      by : ((now ≡ was) × IsNoTrace text) ⊎ Told said → (now ≡ was) ⊎ ((status ≡ 1) × IsVerdict telling)
      by (inl (same, untraced)) = inl same
      by (inr (trace, behind, stands, whole, flew)) =
          (let (one, verdict, fails) = behind_fails telling said behind stands (λ none. zero (is ∙ none)) in inr (is ∙ one, verdict))
  unasked_said status faults faults_after unasked (inr (is, rose, part)) zero five six = absurd (five is)

  failed_said : (status : ℕ) (faults faults_after : ℕ) → (said ≢ 0 → ((now ≡ was) × IsNoTrace text) ⊎ Told said)
      → Written held held_after faults faults_after said text status
      → status ≡ 1 → ((now ≡ was) × WroteNoTrace held held_after) ⊎ Wrote SaysFails
  failed_said status faults faults_after unasked (inl (is, calm, wrote)) one = by (unasked (λ none. absurd (omega (arith, is, one, none))))
    where
      by : ((now ≡ was) × IsNoTrace text) ⊎ Told said → ((now ≡ was) × WroteNoTrace held held_after) ⊎ Wrote SaysFails
      by (inl (same, untraced)) = inl (same, (text, wrote, untraced))
      by (inr flew) = inr (wrote_fails wrote flew (λ none. absurd (omega (arith, is, one, none))))
  failed_said status faults faults_after unasked (inr (is, rose, part)) one = absurd (omega (arith, is, one))

-- the trace of `fly` has nothing behind it
wrote_trace : {C : Type 0} (told : C → Option (List Asking)) (telling : Telling) (said : ℕ) (text mission : List ℕ) (held held_after : Option (List ℕ))
    (was now : Vec C) → Appends held held_after text
    → FlewAndTold telling said text (λ x. Flew told (vec_len was) mission x was.items now.items) → telling ≡ Trace
    → FlewAndWrote told (vec_len was) (λ bytes. bytes ≡ mission) IsNothing held held_after was.items now.items
wrote_trace told Trace said text mission held held_after was now wrote (trace, behind, stands, is, flew) e =
    (mission, trace, behind, refl, stands.1, subst (Appends held held_after) is wrote, flew)
wrote_trace told Summary said text mission held held_after was now wrote flew e = absurd cc
wrote_trace told (Verdict formula) said text mission held held_after was now wrote flew e = absurd cc

pub trace_not_summed : (telling : Telling) → telling ≡ Trace → telling ≢ Summary
trace_not_summed telling trace summary = (let e = sym trace ∙ summary in absurd cc)

-- what was said was written, or a part of it
pub said_guests : {C : Type 0} (told : C → Option (List Asking)) (telling : Telling) (said : ℕ) (text mission : List ℕ) (held held_after : Option (List ℕ))
    (faults faults_after : ℕ) (was now : Vec C) (status : ℕ) → Written held held_after faults faults_after said text status
    → GuestsDid telling said text (λ x. Flew told (vec_len was) mission x was.items now.items) was now
    → GuestsStand told (UnnamedStay (vec_len was) mission was.items now.items) was now → (telling ≡ Summary → now ≡ was)
    → GuestsEnd told (telling ≡ Trace) (IsVerdict telling) (λ bytes. bytes ≡ mission) held held_after was now status
said_guests told telling said text mission held held_after faults faults_after was now status written did stand alone = record {
  count = stand.count;
  go_on = stand.go_on;
  stay = stays_but_for_traces telling was now alone;
  unasked = unasked_said told telling said text mission held held_after was now status faults faults_after did.unasked written;
  unnamed = inr (mission, refl, stand.stay);
  flew =
      λ zero trace. (let wrote = all_written held held_after faults faults_after said text status written zero in
      wrote_trace told telling said text mission held held_after was now wrote.1 (did.flew wrote.0 (trace_not_summed telling trace)) trace);
  watched =
      λ zero verdict. (let wrote = all_written held held_after faults faults_after said text status written zero in
      wrote_holds told telling said text mission held held_after was now wrote.1 (did.flew wrote.0 (not_summed telling verdict)) wrote.0 verdict);
  failed = λ one verdict. failed_said told telling said text mission held held_after was now status faults faults_after did.unasked written one;
}

-- what is said of a flight that was ordered, and of its guests
abbrev pub FliesAndDid : {C : Type 0} → (C → Option (List Asking)) → Telling → List ℕ → Vec C → Vec C → ℕ → List ℕ → Type 0
FliesAndDid told telling mission was now said text =
    FliesBytes (handed_in telling (vec_len was)) telling mission said text
    × GuestsDid telling said text (λ x. Flew told (vec_len was) mission x was.items now.items) was now

-- how the call ends where this was said of its flight, and written or not
module _ {C : Type 0} (told : C → Option (List Asking)) (telling : Telling) (mission : List ℕ) (held held_after : Option (List ℕ)) (faults faults_after : ℕ)
    (was now : Vec C) (said status : ℕ) where
  -- a text of which this holds, with how it was written
  abbrev SaidAndWritten : Type 0
  SaidAndWritten =
      (text : List ℕ) × FliesAndDid told telling mission was now said text × Written held held_after faults faults_after said text status

  pub flight_ends : SaidAndWritten → FlightEnds (vec_len was) telling mission held held_after faults faults_after status
  flight_ends (text, (flies, did), written) = inr (said, text, flies, written)

  pub never_six : SaidAndWritten → status ≢ 6
  never_six (text, (flies, did), written) =
      said_some (handed_in telling (vec_len was)) telling mission said text held held_after faults faults_after status flies written

  pub flight_guests : GuestsStand told (UnnamedStay (vec_len was) mission was.items now.items) was now → (telling ≡ Summary → now ≡ was) → SaidAndWritten
      → GuestsEnd told (telling ≡ Trace) (IsVerdict telling) (λ bytes. bytes ≡ mission) held held_after was now status
  flight_guests stand alone (text, (flies, did), written) =
      said_guests told telling said text mission held held_after faults faults_after was now status written did stand alone

-- and where memory ran out
pub silent_guests : {C : Type 0} (told : C → Option (List Asking)) (telling : Telling) (mission : List ℕ) (held held_after : Option (List ℕ)) (was now : Vec C)
    → GuestsStand told (UnnamedStay (vec_len was) mission was.items now.items) was now → (telling ≡ Summary → now ≡ was)
    → GuestsEnd told (telling ≡ Trace) (IsVerdict telling) (λ bytes. bytes ≡ mission) held held_after was now 6
silent_guests told telling mission held held_after was now stand alone = record {
  count = stand.count;
  go_on = stand.go_on;
  stay = stays_but_for_traces telling was now alone;
  unasked = λ zero five six. absurd (six refl);
  unnamed = inr (mission, refl, stand.stay);
  flew = λ zero trace. absurd (omega (arith, zero));
  watched = λ zero verdict. absurd (omega (arith, zero));
  failed = λ one verdict. absurd (omega (arith, one));
}

-- words that ask for one flight ask for no other
watch_or_fly : (words : List (String Global)) → Asks words Fly → AsksWatch words → ⊥
watch_or_fly words fly (formula, watch) = (let e = same_command words Fly (Watch formula) fly watch in absurd cc)

watch_or_soak : (words : List (String Global)) (n seed : ℕ) → Asks words (Soak n seed) → AsksWatch words → ⊥
watch_or_soak words n seed soak (formula, watch) = (let e = same_command words (Soak n seed) (Watch formula) soak watch in absurd cc)

fly_or_soak : (words : List (String Global)) (n seed : ℕ) → Asks words (Soak n seed) → Asks words Fly → ⊥
fly_or_soak words n seed soak fly = (let e = same_command words (Soak n seed) Fly soak fly in absurd cc)

module _ {C : Type 0} (told : C → Option (List Asking)) (words : List (String Global)) (left after : Option (List ℕ)) (order : FlightOrder)
    (held held_after : Option (List ℕ)) (was now : Vec C) (status : ℕ)
    (did : GuestsEnd told (order.telling ≡ Trace) (IsVerdict order.telling) (λ bytes. bytes ≡ order.text.items) held held_after was now status) where
  abbrev Ended : Type 0
  Ended = GuestsEnd told (Asks words Fly) (AsksWatch words) (ReadsAll left after) held held_after was now status

  abbrev Kept : (List ℕ → Type 0) → (List ℕ → Type 0) → Type 0
  Kept IsMission IsBehindIt = FlewAndWrote told (vec_len was) IsMission IsBehindIt held held_after was.items now.items

  -- the mission of the order is the one that was read
  module _ (bytes : List ℕ) (same : order.text.items ≡ bytes) (reads : ReadsAll left after bytes) where
    all_read : (b : List ℕ) → b ≡ order.text.items → ReadsAll left after b
    all_read b is = subst (λ (x : List ℕ). ReadsAll left after x) (sym (is ∙ same)) reads

    flew_read : (IsBehindIt : List ℕ → Type 0) → Kept (λ b. b ≡ order.text.items) IsBehindIt → Kept (ReadsAll left after) IsBehindIt
    flew_read IsBehindIt (b, text, behind, is, stands, wrote, flew) = (b, text, behind, all_read b is, stands, wrote, flew)

    unnamed_read : (now ≡ was) ⊎ ((b : List ℕ) × (b ≡ order.text.items) × UnnamedStay (vec_len was) b was.items now.items)
        → (now ≡ was) ⊎ ((b : List ℕ) × ReadsAll left after b × UnnamedStay (vec_len was) b was.items now.items)
    unnamed_read (inl stay) = inl stay
    unnamed_read (inr (b, is, stay)) = inr (b, all_read b is, stay)

    failed_read : ((now ≡ was) × WroteNoTrace held held_after) ⊎ Kept (λ b. b ≡ order.text.items) SaysFails
        → ((now ≡ was) × WroteNoTrace held held_after) ⊎ Kept (ReadsAll left after) SaysFails
    failed_read (inl stay) = inl stay
    failed_read (inr flew) = inr (flew_read SaysFails flew)

    -- the guests of a `fly` flew it
    plain_unasked : order.telling ≡ Trace → (now ≡ was) ⊎ ((status ≡ 1) × IsVerdict order.telling) → (now ≡ was) ⊎ ((status ≡ 1) × AsksWatch words)
    plain_unasked trace (inl stay) = inl stay
    plain_unasked trace (inr (one, verdict)) = absurd (subst IsVerdict trace verdict)

    flown_guests : Asks words Fly → order.telling ≡ Trace → Ended
    flown_guests asks trace = record {
      count = did.count;
      go_on = did.go_on;
      stay = λ none unwatched. absurd (none asks);
      unasked = λ zero five six. plain_unasked trace (did.unasked zero five six);
      unnamed = unnamed_read did.unnamed;
      flew = λ zero fly. flew_read IsNothing (did.flew zero trace);
      watched = λ zero watch. absurd (watch_or_fly words asks watch);
      failed = λ one watch. absurd (watch_or_fly words asks watch);
    }

    -- and so did those of a `watch`
    watched_unasked : AsksWatch words → (now ≡ was) ⊎ ((status ≡ 1) × IsVerdict order.telling) → (now ≡ was) ⊎ ((status ≡ 1) × AsksWatch words)
    watched_unasked watch (inl stay) = inl stay
    watched_unasked watch (inr (one, verdict)) = inr (one, watch)

    watched_guests : AsksWatch words → IsVerdict order.telling → Ended
    watched_guests asks verdict = record {
      count = did.count;
      go_on = did.go_on;
      stay = λ none unwatched. absurd (unwatched asks);
      unasked = λ zero five six. watched_unasked asks (did.unasked zero five six);
      unnamed = unnamed_read did.unnamed;
      flew = λ zero fly. absurd (watch_or_fly words fly asks);
      watched = λ zero watch. flew_read SaysHolds (did.watched zero verdict);
      failed = λ one watch. failed_read (did.failed one verdict);
    }

  -- and those of a `soak` were not asked
  summed_guests : (n seed : ℕ) → Asks words (Soak n seed) → order.telling ≡ Summary → Ended
  summed_guests n seed asks summary =
      let same : now ≡ was = did.stay (λ trace. (let e = sym summary ∙ trace in absurd cc)) (λ verdict. subst IsVerdict summary verdict) in
      subst (λ (x : Vec C). GuestsEnd told (Asks words Fly) (AsksWatch words) (ReadsAll left after) held held_after was x status) (sym same)
      (untouched told (Asks words Fly) (AsksWatch words) (ReadsAll left after) held held_after was status
      (λ low fly. fly_or_soak words n seed asks fly) (λ low watch. watch_or_soak words n seed asks watch))

  pub ordered_guests : IsOrdered words left after order → Ended
  ordered_guests (Check, asks, (bytes, takes, short, orders)) = absurd orders
  ordered_guests (Fly, asks, (bytes, takes, short, (trace, same))) = flown_guests bytes same takes asks trace
  ordered_guests (Replay, asks, (bytes, takes, short, orders)) = absurd orders
  ordered_guests (Recover, asks, (bytes, takes, short, orders)) = absurd orders
  ordered_guests (Watch formula, asks, (bytes, takes, short, (verdict, same))) =
      watched_guests bytes same takes (formula, asks) (subst IsVerdict (sym verdict) tt)
  ordered_guests (Format, asks, (bytes, takes, short, orders)) = absurd orders
  ordered_guests (Certify, asks, (bytes, takes, short, orders)) = absurd orders
  ordered_guests (Make n seed, asks, (bytes, takes, short, orders)) = absurd orders
  ordered_guests (Soak n seed, asks, (bytes, takes, short, (summary, same))) = summed_guests n seed asks summary
