-- Lines that spell firings.
use Rattle.std.proofs.Common.{◌≡◌, ◌∙◌, ◌⊎◌, inl, inr, ℕ, ℤ, Bool, List, [], ◌∷◌, Option, Some, None, length, take, map, replicate, ◌<◌, ◌-◌, refl, sym, ap}
use Rattle.std.proofs.Common.{subst, arith}
use Rattle.std.specs.Option.{option_map, option_map_or}
use Rattle.std.proofs.Math.Seq.{take-append_seam}
use Rattle.std.proofs.lemmas.List.{length-append, length-replicate}
use Rattle.std.proofs.lemmas.Option.{slice_get_within}
use Rattle.sot_lists.specs.Places.{At}
use Rattle.sot_lists.proofs.Places.{at_same}
use Rattle.sot_lang.specs.declared.act.Act.{Act}
use Rattle.sot_lang.specs.declared.tables.NodeInfo.{NodeInfo}
use Rattle.sot_lang.specs.Tables.{Tables}
use Rattle.sot_lang.specs.TableRules.{IsCoded}
use Rattle.sot_code.specs.Recorded.{in_slots}
use Rattle.sot_world.specs.Configurations.{Configuration}
use Rattle.sot_world.specs.Steps.{Code, Guest, Step}
use Rattle.sot_world.specs.Outcomes.{Recorded, Records}
use Rattle.sot_world.specs.Events.{slot_count}
use Rattle.sot_world.specs.HistoryEntry.{Logged, FireAt}
use Rattle.sot_world.proofs.Possible.{slots_of}
use Rattle.sot_flight.specs.Plans as plans
use Rattle.sot_flight.specs.Stated.{draft_of}
use Rattle.sot_board.specs.Standing.{Standing, IsStanding}
use Rattle.sot_board.specs.Flown.{Position, fired_of, IsStated, IsStatedDraft, Tells}
use Rattle.sot_board.specs.Calls.{Logs}
use Rattle.sot_board.proofs.Crews.{crew_drafts}
use Rattle.sot_trace.specs.Lines.{line_of, writes_of}
use Rattle.sot_trace.specs.Words.{AreWords}
use Rattle.sot_trace_lines.specs.Bits.{Has64Bits}
use Rattle.sot_trace_lines.specs.Spelled.{FireLine, IsSpelled}
use Rattle.sot_trace_lines.specs.Shown.{ShowsDraft}
use Rattle.sot_trace_lines.specs.Laws.{marks_of}
use Rattle.sot_replay.specs.GoesOn.{AreHandedOver}
use Rattle.sot_replay.specs.Tests.{IsNextLine}
use Rattle.sot_replay.proofs.SpelledEntries.{spells_entry, firing_of, fires}
use Rattle.sot_replay.proofs.Judging.{same_one, one_line}
use Rattle.sot_replay.proofs.Drafts.{unmarked, has_marked}

-- a firing of a node that no guest flies hands over nothing
pub own_handed : (f : plans.Plan) (t n : ℕ) (d : List (Option ℤ)) (on : Bool) → ((i : ℕ) → At f.crews n (plans.Guest i) → ⊥)
    → AreHandedOver f (FireAt t n d on ∷ [])
own_handed f t n d on not i time node index draft enabled at crew k z there =
    let same = same_one (FireAt t n d on) i (FireAt time node draft enabled) at in
    let n_is : node ≡ n = cc in
    absurd (not index (subst (λ m. At f.crews m (plans.Guest index)) n_is crew))

-- .. and a guest's draft of numbers of 64 bits is one that a guest hands over
given_handed : (f : plans.Plan) (t n : ℕ) (d : List (Option ℤ)) (on : Bool) → ((k : ℕ) (z : ℤ) → At d k (Some z) → Has64Bits z)
    → AreHandedOver f (FireAt t n d on ∷ [])
given_handed f t n d on bits i time node index draft enabled at crew k z there =
    let same = same_one (FireAt t n d on) i (FireAt time node draft enabled) at in
    let d_is : draft ≡ d = cc in
    bits k z (subst (λ x. At x k (Some z)) d_is there)

-- a coded node has no guest
pub coded_no_guest : (b : Standing) → IsStanding b → (n : ℕ) (info : NodeInfo) (acts : List Act) → At b.accepted.program.nodes n info → IsCoded info acts
    → (i : ℕ) → At b.plan.crews n (plans.Guest i) → ⊥
coded_no_guest b stands n info acts at coded i crew =
    let none = stands.fits.crewed n info (plans.Guest i) at crew in
    let both = sym coded.1 ∙ none in
    cc

-- where a draft is stated, there is one
one_stated :
    (p : Tables) (f : plans.Plan) (P : Position) (n : ℕ) (info : NodeInfo) (crew : plans.Crew) (stated d : List (Option ℤ)) → At p.nodes n info
    → At f.crews n crew → draft_of p info crew (fired_of P n) ≡ Some stated → IsStated p f P (Guest n d) → d ≡ stated
one_stated p f P n info crew stated d at at_crew is (node, other, there, at_other, given) =
    let o = ap (λ x. draft_of p x other (fired_of P n)) (at_same p.nodes n node info there at)
    ∙ ap (λ x. draft_of p info x (fired_of P n)) (at_same f.crews n other crew at_other at_crew) ∙ is in
    subst (λ x. IsStatedDraft x d) o given

-- the draft that an entry tells of a guest's firing
guest_draft : (p : Tables) (C D : Configuration) (r : Recorded) (e : Logged) (t n : ℕ) (given slots : List (Option ℤ)) (on : Bool)
    → Records p C (Guest n given) D r → Tells C (Guest n given) r D e → e ≡ FireAt t n slots on → slots ≡ in_slots given
guest_draft p C D r e t n given slots on records (d, enabled, was, is) same =
    let both = sym same ∙ is in
    let told : slots ≡ in_slots d = cc in
    let drafts = sym was ∙ records in
    let d_is : d ≡ given = cc in
    told ∙ ap in_slots d_is

-- a guest's draft has eight slots, each with a number of 64 bits or nothing
pub guest_handed :
    (b : Standing) → IsStanding b → (new : Standing) (n : ℕ) (given slots : List (Option ℤ)) (on : Bool)
    → Logs b new (Guest n given) (FireAt b.position.at.time n slots on)
    → ((k : ℕ) (z : ℤ) → k < 8 → At slots k (Some z) → Has64Bits z) → AreHandedOver b.plan (FireAt b.position.at.time n slots on ∷ [])
guest_handed b stands new n given slots on logs bits =
    let p = b.accepted.program in
    let step = subst (λ x. Step p b.accepted.cert.jitter b.position.at x new.position.at) logs.event_is logs.flies.step in
    let records = subst (λ x. Records p b.position.at x new.position.at logs.flies.recorded) logs.event_is logs.flies.records in
    let tells = subst (λ x. Tells b.position.at x logs.flies.recorded new.position.at (FireAt b.position.at.time n slots on)) logs.event_is logs.flies.tells in
    let is = guest_draft p b.position.at new.position.at logs.flies.recorded (FireAt b.position.at.time n slots on) b.position.at.time n given slots on records
    tells refl in
    let few = (stands.kept.rules.nodes n step.node step.is).writes in
    let eight : length slots ≡ 8 = (let size = ap length is ∙ length-append given (replicate (8 - length given) None) in
    omega (arith, size, length-replicate {A = Option ℤ} (8 - length given) None, step.slots, few)) in
    given_handed b.plan b.position.at.time n slots on (λ k z at. bits k z (omega (arith, slice_get_within slots k (Some z) at, eight)) at)

module _ (b : Standing) (stands : IsStanding b) (words : AreWords b.accepted.program) (line : List ℕ) (t n : ℕ) (on : Bool) (slots : List (Option (Bool × ℤ)))
    (spelled : IsSpelled b.accepted.program line (FireLine t n on slots)) where
  -- the entry and the event of which a line tells with which the flight goes on
  firing_event :
      (next : IsNextLine b.accepted.program b.accepted.cert.jitter b.plan b.position line)
      → (draft : List (Option ℤ)) × (next.0 ≡ FireAt t n draft on) × (marks_of b.accepted.program (writes_of b.accepted.program n) draft ≡ slots)
      × ((next.2.event ≡ Code n) ⊎ ((d : List (Option ℤ)) × (next.2.event ≡ Guest n d)))
  firing_event (e, Q, flies, handed, same) =
      let p = b.accepted.program in
      let spells = spells_entry b stands words line (FireLine t n on slots) spelled e Q flies same in
      let entry = firing_of p e t n on slots spells in
      (entry.0, entry.1, entry.2, fires b.position.at Q.at flies.recorded flies.event e t n entry.0 on entry.1 flies.tells)

  -- of a coded node it is the line of what its code gives
  pub code_line :
      (info : NodeInfo) (acts : List Act) → At b.accepted.program.nodes n info → IsCoded info acts → (new : Standing) (entry : Logged)
      → Logs b new (Code n) entry → IsNextLine b.accepted.program b.accepted.cert.jitter b.plan b.position line
      → line ≡ line_of b.accepted.program entry
  code_line info acts at coded new entry logs next = next.4 ∙ one_line b new (Code n) entry next.0 next.1 logs next.2 (is_code (firing_event next).3)
    where
      is_code : (next.2.event ≡ Code n) ⊎ ((d : List (Option ℤ)) × (next.2.event ≡ Guest n d)) → next.2.event ≡ Code n
      is_code (inl is) = is
      is_code (inr (d, is)) =
          let step = subst (λ x. Step b.accepted.program b.accepted.cert.jitter b.position.at x next.1.at) is next.2.step in
          let node = at_same b.accepted.program.nodes n step.node info step.is at in
          let both = sym coded.1 ∙ ap (λ x. x.body) (sym node) ∙ step.external in
          absurd cc

  -- of an external one it tells of a guest's event
  is_guest :
      (info : NodeInfo) → At b.accepted.program.nodes n info → info.body ≡ None
      → (next : IsNextLine b.accepted.program b.accepted.cert.jitter b.plan b.position line)
      → (next.2.event ≡ Code n) ⊎ ((d : List (Option ℤ)) × (next.2.event ≡ Guest n d)) → (d : List (Option ℤ)) × (next.2.event ≡ Guest n d)
  is_guest info at external next (inr is) = is
  is_guest info at external next (inl is) =
      let step = subst (λ x. Step b.accepted.program b.accepted.cert.jitter b.position.at x next.1.at) is next.2.step in
      let node = at_same b.accepted.program.nodes n step.node info step.is at in
      let both = sym step.coded.1 ∙ ap (λ x. x.body) node ∙ external in
      absurd cc

  -- .. with the draft that is stated, where no guest flies it
  pub stated_line :
      (info : NodeInfo) → At b.accepted.program.nodes n info → info.body ≡ None → ((i : ℕ) → At b.plan.crews n (plans.Guest i) → ⊥)
      → (new : Standing) (draft : List (Option ℤ)) (entry : Logged) → Logs b new (Guest n draft) entry
      → IsNextLine b.accepted.program b.accepted.cert.jitter b.plan b.position line → line ≡ line_of b.accepted.program entry
  stated_line info at external not new draft entry logs next =
      let p = b.accepted.program in
      let event = is_guest info at external next (firing_event next).3 in
      let crew = crew_drafts b stands n (info, at, external) not in
      let given = one_stated p b.plan b.position n crew.0 crew.1 crew.5.0 event.0 crew.2 crew.3 crew.5.1
      (subst (IsStated p b.plan b.position) event.1 next.2.stated) in
      let own = one_stated p b.plan b.position n crew.0 crew.1 crew.5.0 draft crew.2 crew.3 crew.5.1
      (subst (IsStated p b.plan b.position) logs.event_is logs.flies.stated) in
      next.4 ∙ one_line b new (Guest n draft) entry next.0 next.1 logs next.2 (event.1 ∙ ap (Guest n) (given ∙ sym own))

  -- .. with the draft that the line spells, where a guest does
  pub guest_line :
      (info : NodeInfo) → At b.accepted.program.nodes n info → info.body ≡ None → (draft : List (Option ℤ)) → ShowsDraft (Some draft) slots
      → (new : Standing) (entry : Logged) → Logs b new (Guest n (take (slot_count b.accepted.program n) draft)) entry
      → IsNextLine b.accepted.program b.accepted.cert.jitter b.plan b.position line → line ≡ line_of b.accepted.program entry
  guest_line info at external draft shows new entry logs next =
      let p = b.accepted.program in
      let told = firing_event next in
      let event = is_guest info at external next told.3 in
      let step = subst (λ x. Step p b.accepted.cert.jitter b.position.at x next.1.at) event.1 next.2.step in
      let records = subst (λ x. Records p b.position.at x next.1.at next.2.recorded) event.1 next.2.records in
      let tells = subst (λ x. Tells b.position.at x next.2.recorded next.1.at next.0) event.1 next.2.tells in
      let given = guest_draft p b.position.at next.1.at next.2.recorded next.0 t n event.0 told.0 on records tells told.1 in
      let size : length event.0 ≡ length (writes_of p n) = step.slots
      ∙ sym (ap (λ o. length (option_map_or (λ (x : NodeInfo). x.writes.items) o [])) step.is) in
      let shown : draft ≡ in_slots event.0 = shows ∙ ap (λ l. in_slots (map (option_map (λ (slot : Bool × ℤ). slot.1)) l))
      (sym told.2 ∙ ap (marks_of p (writes_of p n)) given) ∙ ap in_slots (unmarked p (writes_of p n) event.0 size) in
      let count : slot_count p n ≡ length event.0 = slots_of p n step.node step.is ∙ sym step.slots in
      let own : take (slot_count p n) draft ≡ event.0 = ap (λ k. take k draft) count ∙ ap (take (length event.0)) shown ∙ take-append_seam event.0 _ in
      next.4 ∙ one_line b new (Guest n (take (slot_count p n) draft)) entry next.0 next.1 logs next.2 (event.1 ∙ ap (Guest n) (sym own))

  -- a guest hands over no number of more than 64 bits
  pub no_wide_draft : (i : ℕ) → At b.plan.crews n (plans.Guest i) → ShowsDraft None slots
      → IsNextLine b.accepted.program b.accepted.cert.jitter b.plan b.position line → ⊥
  no_wide_draft i crew (slot, has, wide) next =
      let told = firing_event next in
      let there = has_marked b.accepted.program (writes_of b.accepted.program n) told.0 slots slot told.2 has in
      wide (next.3 0 t n i told.0 on (ap Some told.1) crew there.0 slot.1 there.1)
