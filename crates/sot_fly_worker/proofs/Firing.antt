-- What a turn finds, and what a firing in it leaves.
use Rattle.std.proofs.Common.{◌≡◌, ◌<◌, ℕ, ℤ, Bool, List, [], ◌∷◌, ◌++◌, length, take, Option, Some, refl, sym, ap, ◌∙◌, subst, arith, eq-eqb}
use Rattle.std.specs.Prelude.{if◌then◌else◌}
use Rattle.std.proofs.lemmas.List.{append_assoc, append-nil, length-append}
use Rattle.std.proofs.lemmas.Option.{same_Some}
use Rattle.sot_lists.proofs.Places.{at_below}
use Rattle.sot_code.specs.Recorded.{in_slots}
use Rattle.sot_world.specs.Events.{slot_count}
use Rattle.sot_world.specs.HistoryEntry.{Logged, FireAt}
use Rattle.sot_world.specs.Outcomes.{Records}
use Rattle.sot_world.specs.Steps.{Event, Guest}
use Rattle.sot_flight.specs.Plans.{Plan}
use Rattle.sot_tube.specs.Admitted.{Admitted}
use Rattle.std.proofs.Math.Seq.{drop-append_seam}
use Rattle.sot_turn.specs.Prefixes.{IsPrefix, behind}
use Rattle.sot_board.specs.declared.view.View.{View}
use Rattle.sot_board.specs.declared.receipt.Receipt.{Receipt}
use Rattle.sot_board.specs.Flown.{Tells}
use Rattle.sot_board.specs.Versions.{drafts_of}
use Rattle.sot_board.specs.Standing.{Standing}
use Rattle.sot_board.specs.Calls.{LogsFiring}
use Rattle.sot_board.specs.Commits.{IsTakenFrom}
use Rattle.sot_board.specs.Views.{viewed_numbers}
use Rattle.sot_board.proofs.Entries.{drafts_append}
use Rattle.sot_board.proofs.ViewLaws.{views_stay}
use Rattle.sot_fly_worker.specs.Askings.{asking}
use Rattle.sot_fly_worker.specs.Answers.{FitsFiring}
use Rattle.sot_fly_worker.specs.Rooms.{HasRoomFor}
use Rattle.sot_fly_worker.specs.Holds.{HasNode, IsDueView, IsSeen, Appends, HasFired}

-- a list without elements
pub nil_of : {A : Type 0} (xs : List A) → length xs ≡ 0 → xs ≡ []
nil_of [] e = refl
nil_of (x ∷ xs) e = absurd (omega arith)

-- a list begins with itself, and with what the list that it begins with begins with
pub goes_here : {A : Type 0} (xs : List A) → IsPrefix xs xs
goes_here xs = ([], sym (append-nil xs))

pub goes_further : {A : Type 0} (xs ys zs : List A) → IsPrefix xs ys → IsPrefix ys zs → IsPrefix xs zs
goes_further xs ys zs p q = (p.0 ++ q.0, q.1 ∙ (ap (λ l. l ++ q.0) p.1 ∙ append_assoc xs p.0 q.0))

-- where a node has fired as often as before, it has not fired in between
pub none_between : (n : ℕ) (known found : List Logged) (on : IsPrefix known found) → length (drafts_of n found) ≡ length (drafts_of n known)
    → drafts_of n on.0 ≡ []
none_between n known found on same =
    let all : drafts_of n found ≡ drafts_of n known ++ drafts_of n on.0 = ap (drafts_of n) on.1 ∙ drafts_append n known on.0 in
    let sizes = ap length all ∙ length-append (drafts_of n known) (drafts_of n on.0) in
    nil_of (drafts_of n on.0) (omega (arith, sizes, same))

-- so its drafts are the same
pub in_step : (n : ℕ) (known found : List Logged) → IsPrefix known found → length (drafts_of n found) ≡ length (drafts_of n known)
    → drafts_of n found ≡ drafts_of n known
in_step n known found on same =
    ap (drafts_of n) on.1 ∙ drafts_append n known on.0 ∙ ap (λ l. drafts_of n known ++ l) (none_between n known found on same) ∙ append-nil (drafts_of n known)

-- the drafts with one firing more
pub one_more : (n time : ℕ) (draft : List (Option ℤ)) (enabled : Bool) (es : List Logged)
    → drafts_of n (es ++ FireAt time n draft enabled ∷ []) ≡ drafts_of n es ++ draft ∷ []
one_more n time draft enabled es =
    drafts_append n es (FireAt time n draft enabled ∷ []) ∙ ap (λ b. drafts_of n es ++ (if b then draft ∷ [] else [])) (eq-eqb n n refl)

pub noted : (old new : Standing) (n : ℕ) (draft : List (Option ℤ)) → Appends old new n draft → drafts_of n new.entries ≡ drafts_of n old.entries ++ draft ∷ []
noted old new n draft added = ap (drafts_of n) added.entries ∙ one_more n added.time draft added.enabled old.entries

-- what its draft is noted with: its node, its place behind the drafts before, and room
pub noted_there : (old new : Standing) (n : ℕ) (draft : List (Option ℤ)) → Appends old new n draft → n < length old.accepted.program.nodes
    → n < length new.accepted.program.nodes
noted_there old new n draft added lt = subst (λ a. n < length a.program.nodes) (sym added.accepted) lt

pub noted_last :
    (old new : Standing) (n : ℕ) (draft : List (Option ℤ)) (before : List (List (Option ℤ))) → Appends old new n draft → drafts_of n old.entries ≡ before
    → drafts_of n new.entries ≡ before ++ draft ∷ []
noted_last old new n draft before added was = noted old new n draft added ∙ ap (λ l. l ++ draft ∷ []) was

pub noted_room :
    (old new : Standing) (n : ℕ) (draft : List (Option ℤ)) (room : ℕ) → Appends old new n draft
    → HasRoomFor old.accepted.program.nodes old.plan.horizon n room → HasRoomFor new.accepted.program.nodes new.plan.horizon n room
noted_room old new n draft room added has =
    subst (λ a. HasRoomFor a.program.nodes new.plan.horizon n room) (sym added.accepted)
    (subst (λ f. HasRoomFor old.accepted.program.nodes f.horizon n room) (sym added.plan) has)

-- a firing at a board which has gone on, without a firing of the node, from what was known
pub has_fired :
    (known : List Logged) (old new : Standing) (n : ℕ) (draft : List (Option ℤ)) (before after : List Logged) → IsPrefix known old.entries
    → drafts_of n old.entries ≡ drafts_of n known → Appends old new n draft
    → after ≡ before ++ behind old.entries new.entries → HasFired n draft known new.entries before after
has_fired known old new n draft before after on same added gave = record {
  between = on.0;
  time = added.time;
  enabled = added.enabled;
  no_other = none_between n known old.entries on (ap length same);
  seen =
      added.entries ∙ ap (λ es. es ++ FireAt added.time n draft added.enabled ∷ []) on.1
      ∙ append_assoc known on.0 (FireAt added.time n draft added.enabled ∷ []);
  adds =
      gave ∙ ap (λ es. before ++ behind old.entries es) added.entries
      ∙ ap (λ es. before ++ es) (drop-append_seam old.entries (FireAt added.time n draft added.enabled ∷ []));
}

-- what is seen after a firing has the firing's draft more
pub fired_drafts : (n : ℕ) (draft : List (Option ℤ)) (old new before after : List Logged) → HasFired n draft old new before after
    → drafts_of n new ≡ drafts_of n old ++ draft ∷ []
fired_drafts n draft old new before after fired =
    let last = fired.between ++ FireAt fired.time n draft fired.enabled ∷ [] in
    ap (drafts_of n) fired.seen ∙ drafts_append n old last ∙ ap (λ l. drafts_of n old ++ l)
    (one_more n fired.time draft fired.enabled fired.between ∙ ap (λ l. l ++ draft ∷ []) fired.no_other)

-- what a firing at a board leaves
pub appends : (old new : Standing) (n : ℕ) (event : Event) (receipt : Receipt) → LogsFiring old new n event receipt → Appends old new n receipt.draft
appends old new n event receipt logged = record {
  time = old.position.at.time;
  enabled = logged.enabled;
  entries = logged.logs.entries;
  accepted = logged.logs.accepted;
  plan = logged.logs.plan;
}

-- the draft of a guest's firing is the one that was handed in
pub guest_draft : (old new : Standing) (n : ℕ) (draft : List (Option ℤ)) (receipt : Receipt) → LogsFiring old new n (Guest n draft) receipt
    → receipt.draft ≡ in_slots draft
guest_draft old new n draft receipt logged =
    let flies = logged.logs.flies in
    let entry = FireAt old.position.at.time n receipt.draft logged.enabled in
    let asked = subst (λ e. Tells old.position.at e flies.recorded new.position.at entry) logged.logs.event_is flies.tells in
    let records = subst (λ e. Records old.accepted.program old.position.at e new.position.at flies.recorded) logged.logs.event_is flies.records in
    let same : asked.0 ≡ draft = (let e = sym asked.2 ∙ records in cc) in
    let slots : receipt.draft ≡ in_slots asked.0 = (let e = asked.3 in cc) in
    slots ∙ ap in_slots same

-- a node of a known ground is one of the board's program
pub node_there : (ground : Option (Admitted × Plan)) (n : ℕ) (b : Standing) → HasNode ground n → ground ≡ Some (b.accepted, b.plan)
    → n < length b.accepted.program.nodes
node_there ground n b (a, f, known, lt) is =
    subst (λ (x : Admitted × Plan). n < length x.0.program.nodes) (same_Some (a, f) (b.accepted, b.plan) (sym known ∙ is)) lt

-- two boards of one ground have one program
pub same_program : (ground : Option (Admitted × Plan)) (b c : Standing) → ground ≡ Some (b.accepted, b.plan) → ground ≡ Some (c.accepted, c.plan)
    → b.accepted.program ≡ c.accepted.program
same_program ground b c one two = ap (λ (x : Admitted × Plan). x.0.program) (same_Some (b.accepted, b.plan) (c.accepted, c.plan) (sym one ∙ two))

-- a view that was seen was taken from any board that has gone on from there
pub taken_from : (ground : Option (Admitted × Plan)) (known : List Logged) (n : ℕ) (v : View) (b : Standing) → IsSeen ground known n v
    → ground ≡ Some (b.accepted, b.plan) → IsPrefix known b.entries → IsTakenFrom b v
taken_from ground known n v b seen is on =
    let same = same_Some (b.accepted, b.plan) (seen.board.accepted, seen.board.plan) (sym is ∙ seen.ground_is) in
    views_stay seen.board b on.0 n v seen.due.standing seen.due.view (ap (λ x. x.0) same) (ap (λ x. x.1) same) (on.1 ∙ ap (λ es. es ++ on.0) (sym seen.entries))

-- an asking with a view fits the firing after it
fits_board :
    (b : Standing) (n : ℕ) (v : View) (draft : List (Option ℤ)) (new before after : List Logged) → IsDueView b n v → n < length b.accepted.program.nodes
    → HasFired n (in_slots (take (slot_count b.accepted.program n) draft)) b.entries new before after
    → FitsFiring b.accepted.program b.accepted.cert.jitter b.plan n new (length (drafts_of n b.entries)) (asking (viewed_numbers v) draft)
fits_board b n v draft new before after due lt fired =
    let info = at_below b.accepted.program.nodes n lt in
    record {
      first = b.entries;
      between = fired.between;
      rest = [];
      time = fired.time;
      draft = in_slots (take (slot_count b.accepted.program n) draft);
      enabled = fired.enabled;
      history_is = fired.seen;
      number = refl;
      no_other = fired.no_other;
      position = b.position;
      flown = due.standing.flown;
      left = due.left;
      info = info.0;
      is = info.1;
      values = due.view.numbers info.0 info.1;
      draft_is = refl;
    }

pub fits_firing :
    (a : Admitted) (f : Plan) (known : List Logged) (n : ℕ) (v : View) (draft : List (Option ℤ)) (new before after : List Logged)
    → IsSeen (Some (a, f)) known n v → n < length a.program.nodes
    → HasFired n (in_slots (take (slot_count a.program n) draft)) known new before after
    → FitsFiring a.program a.cert.jitter f n new (length (drafts_of n known)) (asking (viewed_numbers v) draft)
fits_firing a f known n v draft new before after seen lt fired =
    let same = same_Some (a, f) (seen.board.accepted, seen.board.plan) seen.ground_is in
    let b = seen.board in
    let lt' = subst (λ (x : Admitted × Plan). n < length x.0.program.nodes) same lt in
    let fired' = subst (λ es. HasFired n (in_slots (take (slot_count b.accepted.program n) draft)) es new before after) (sym seen.entries)
    (subst (λ (x : Admitted × Plan). HasFired n (in_slots (take (slot_count x.0.program n) draft)) known new before after) same fired) in
    subst (λ (x : Admitted × Plan). FitsFiring x.0.program x.0.cert.jitter x.1 n new (length (drafts_of n known)) (asking (viewed_numbers v) draft)) (sym same)
    (subst (λ es. FitsFiring b.accepted.program b.accepted.cert.jitter b.plan n new (length (drafts_of n es)) (asking (viewed_numbers v) draft)) seen.entries
    (fits_board b n v draft new before after seen.due lt' fired'))
