-- What each way through a turn makes of a shift.
use Rattle.std.proofs.Common.{◌≡◌, ◌↔◌, inl, inr, ℕ, ℤ, true, false, List, [], ◌∷◌, ◌++◌, length, take, Option, None, Some, refl, sym, ap, ap₂, ◌∙◌, subst}
use Rattle.std.proofs.Common.{arith}
use Rattle.std.specs.Prelude.{vec_capacity}
use Rattle.std.proofs.lemmas.List.{append_assoc, append-nil, length-append}
use Rattle.std.proofs.lemmas.Option.{same_Some}
use Rattle.sot_code.specs.Recorded.{in_slots}
use Rattle.sot_lang.specs.Tables.{Tables}
use Rattle.sot_world.specs.Events.{slot_count}
use Rattle.sot_world.specs.HistoryEntry.{Logged, FireAt}
use Rattle.sot_flight.specs.Plans.{Plan}
use Rattle.sot_tube.specs.Admitted.{Admitted}
use Rattle.std.proofs.Math.Seq.{drop-length}
use Rattle.sot_turn.specs.Prefixes.{IsPrefix, behind}
use Rattle.sot_turn.specs.Passes.{pass_lock, pass_ground, pass_seen, pass_added}
use Rattle.sot_board.specs.declared.view.View.{View}
use Rattle.sot_world.specs.Configurations.{is_left}
use Rattle.sot_board.specs.Flown.{IsEnd, FlownBy}
use Rattle.sot_board.specs.Standing.{Standing, IsStanding}
use Rattle.sot_board.specs.Versions.{drafts_of}
use Rattle.sot_board.specs.Views.{viewed_numbers}
use Rattle.sot_board.proofs.Entries.{drafts_append}
use Rattle.sot_fly_worker.specs.declared.shift.Shift.{Shift}
use Rattle.sot_fly_worker.specs.Askings.{Asking, asking, AsksOneMore}
use Rattle.sot_fly_worker.specs.Answers.{FitsFiring}
use Rattle.sot_fly_worker.specs.Shifts.{EachGuest, IsOnShift}
use Rattle.sot_fly_worker.specs.Rooms.{HasRoomFor}
use Rattle.sot_fly_worker.specs.Holds.{IsDueView, IsSeen, HasFired, HasRoomIn}
use Rattle.sot_fly_worker.specs.Turned.{IsQuiet, AnswersOn}
use Rattle.sot_fly_worker.specs.Turns.{TakesTurn}
use Rattle.sot_fly_worker.proofs.Histories.{same_drafts}
use Rattle.sot_fly_worker.proofs.Firing.{one_more, none_between, fired_drafts, fits_firing}
use Rattle.sot_fly_worker.proofs.Turning.{one_turn_more}

-- a list that went on with as many drafts went on quietly
pub quiet : (n : ℕ) (old new : List Logged) → IsPrefix old new → drafts_of n new ≡ drafts_of n old → IsQuiet n old new
quiet n old new on same = (on.0, on.1, none_between n old new on (ap length same))

-- what is flown on a board is flown where the same is known and seen
pub flown_here :
    (ground : Option (Admitted × Plan)) (a : Admitted) (f : Plan) (b : Standing) (seen : List Logged) → ground ≡ Some (a, f)
    → ground ≡ Some (b.accepted, b.plan) → seen ≡ b.entries
    → FlownBy b.accepted.program b.accepted.cert.jitter b.plan b.entries → FlownBy a.program a.cert.jitter f seen
flown_here ground a f b seen known is same flown =
    let one = same_Some (b.accepted, b.plan) (a, f) (sym is ∙ known) in
    subst (λ es. FlownBy a.program a.cert.jitter f es) (sym same) (subst (λ (x : Admitted × Plan). FlownBy x.0.program x.0.cert.jitter x.1 b.entries) one flown)

-- a view that was taken of a board whose ground is known and whose history was seen
pub seen_here : (ground : Option (Admitted × Plan)) (known : List Logged) (n : ℕ) (v : View) (b : Standing) → IsDueView b n v
    → ground ≡ Some (b.accepted, b.plan) → known ≡ b.entries → IsSeen ground known n v
seen_here ground known n v b due is same = record { board = b; due = due; ground_is = is; entries = sym same }

-- .. with its program
pub seen_program :
    (ground : Option (Admitted × Plan)) (known : List Logged) (n : ℕ) (v : View) (b : Standing) (p : Tables) → IsDueView b n v
    → ground ≡ Some (b.accepted, b.plan) → known ≡ b.entries → p ≡ b.accepted.program
    → (seen : IsSeen ground known n v) × (p ≡ seen.board.accepted.program)
seen_program ground known n v b p due is same program = (record { board = b; due = due; ground_is = is; entries = sym same }, program)

-- room that is known for one ground
pub room_here : (ground : Option (Admitted × Plan)) (a : Admitted) (f : Plan) (n room : ℕ) → ground ≡ Some (a, f)
    → HasRoomFor a.program.nodes f.horizon n room → HasRoomIn ground n room
room_here ground a f n room known has b g is =
    subst (λ (x : Admitted × Plan). HasRoomFor x.0.program.nodes x.1.horizon n room) (same_Some (a, f) (b, g) (sym known ∙ is)) has

pub not_yet : {P : Type 0} → false ≡ true → P
not_yet both = absurd cc

-- each guest tells what it told
same_guests : {C : Type 0} (asked : C → Option (List Asking)) (p : Tables) (j : ℕ) (f : Plan) (n : ℕ) (old new : List Logged) (guest : Option C)
    → IsQuiet n old new → EachGuest (AnswersOn p j f n old new) asked guest guest
same_guests asked p j f n old new None still = tt
same_guests asked p j f n old new (Some x) still = inl (still, refl)

module _ {C : Type 0} (asked : C → Option (List Asking)) (began old new : Shift C) (was : IsOnShift asked began old)
    (node : new.node ≡ old.node) (form : new.form ≡ old.form) (lock : pass_lock new.pass ≡ pass_lock old.pass)
    (ground : pass_ground new.pass ≡ pass_ground old.pass) where
  -- nothing was done
  pub quiet_turn :
      IsQuiet old.node (pass_seen old.pass) (pass_seen new.pass) → pass_added new.pass ≡ pass_added old.pass → new.drafts.items ≡ old.drafts.items
      → vec_capacity new.drafts ≡ vec_capacity old.drafts → new.guest ≡ old.guest
      → (new.finished ≡ true → FlownBy was.at_work.accepted.program was.at_work.accepted.cert.jitter was.at_work.plan (pass_seen new.pass))
      → IsOnShift asked began new
  quiet_turn still nothing drafts room guest finished =
      let a = was.at_work.accepted in
      let f = was.at_work.plan in
      one_turn_more asked began old new was (record {
        node = node;
        form = form;
        lock = lock;
        ground = ground;
        room = room;
        drafts = drafts ∙ was.at_work.drafts ∙ sym (ap (drafts_of old.node) still.1 ∙ same_drafts old.node (pass_seen old.pass) still.0 still.2);
        own = [];
        added = nothing ∙ sym (append-nil (pass_added old.pass));
        only_firings = tt;
        all_firings = drafts ∙ sym (append-nil old.drafts.items);
        guest = subst (λ g. EachGuest (AnswersOn a.program a.cert.jitter f old.node (pass_seen old.pass) (pass_seen new.pass)) asked old.guest g) (sym guest)
            (same_guests asked a.program a.cert.jitter f old.node (pass_seen old.pass) (pass_seen new.pass) old.guest still);
        finished = finished;
      })

  -- a node without a guest has fired
  pub unasked_turn :
      (known : List Logged) (draft : List (Option ℤ)) → drafts_of old.node known ≡ old.drafts.items
      → HasFired old.node draft known (pass_seen new.pass) (pass_added old.pass) (pass_added new.pass)
      → new.drafts.items ≡ drafts_of old.node (pass_seen new.pass) → vec_capacity new.drafts ≡ vec_capacity old.drafts → old.guest ≡ None → new.guest ≡ old.guest → new.finished ≡ false → IsOnShift asked began new
  unasked_turn known draft same fired drafts room none guest unfinished =
      let a = was.at_work.accepted in
      let f = was.at_work.plan in
      let R = AnswersOn a.program a.cert.jitter f old.node (pass_seen old.pass) (pass_seen new.pass) in
      one_turn_more asked began old new was (record {
        node = node;
        form = form;
        lock = lock;
        ground = ground;
        drafts = drafts;
        room = room;
        own = FireAt fired.time old.node draft fired.enabled ∷ [];
        added = fired.adds;
        only_firings = (refl, tt);
        all_firings =
            drafts ∙ fired_drafts old.node draft known (pass_seen new.pass) (pass_added old.pass) (pass_added new.pass) fired ∙ ap (λ l. l ++ draft ∷ []) same
            ∙ ap (λ l. old.drafts.items ++ l) (sym (one_more old.node fired.time draft fired.enabled []));
        guest = subst (λ g. EachGuest R asked old.guest g) (sym (guest ∙ none)) (subst (λ g. EachGuest R asked g None) (sym none) tt);
        finished = λ yes. not_yet (sym unfinished ∙ yes);
      })

  -- a guest was asked, and its node has fired
  pub asked_turn :
      (known : List Logged) (v : View) (draft : List (Option ℤ)) (before after : C) → IsQuiet old.node (pass_seen old.pass) known
      → IsSeen (pass_ground old.pass) known old.node v
      → ((a : Admitted) (f : Plan) → pass_ground old.pass ≡ Some (a, f)
      → HasFired old.node (in_slots (take (slot_count a.program old.node) draft)) known (pass_seen new.pass) (pass_added old.pass) (pass_added new.pass))
      → new.drafts.items ≡ drafts_of old.node (pass_seen new.pass) → vec_capacity new.drafts ≡ vec_capacity old.drafts → old.guest ≡ Some before → new.guest ≡ Some after
      → AsksOneMore (asked before) (asked after) (asking (viewed_numbers v) draft)
      → new.finished ≡ false → IsOnShift asked began new
  asked_turn known v draft before after still seen fires drafts room one two tells unfinished =
      let a = was.at_work.accepted in
      let f = was.at_work.plan in
      let n = old.node in
      let fired = fires a f was.at_work.ground in
      let slots = in_slots (take (slot_count a.program n) draft) in
      let R = AnswersOn a.program a.cert.jitter f n (pass_seen old.pass) (pass_seen new.pass) in
      let same : drafts_of n known ≡ drafts_of n (pass_seen old.pass) = ap (drafts_of n) still.1 ∙ same_drafts n (pass_seen old.pass) still.0 still.2 in
      let fits = fits_firing a f known n v draft (pass_seen new.pass) (pass_added old.pass) (pass_added new.pass)
      (subst (λ g. IsSeen g known n v) was.at_work.ground seen) was.at_work.there fired in
      let last = fired.between ++ FireAt fired.time n slots fired.enabled ∷ [] in
      let on : pass_seen new.pass ≡ pass_seen old.pass ++ (still.0 ++ last) = fired.seen ∙ ap (λ es. es ++ last) still.1
      ∙ append_assoc (pass_seen old.pass) still.0 last in
      let all : drafts_of n (pass_seen new.pass) ≡ drafts_of n known ++ drafts_of n last = ap (drafts_of n) fired.seen ∙ drafts_append n known last in
      let once : drafts_of n last ≡ slots ∷ [] = one_more n fired.time slots fired.enabled fired.between ∙ ap (λ l. l ++ slots ∷ []) fired.no_other in
      let sizes = ap length all ∙ length-append (drafts_of n known) (drafts_of n last) in
      let answers : R (asked before) (asked after) = inr (record {
        one = asking (viewed_numbers v) draft;
        asked = tells;
        goes_on = (still.0 ++ last, on);
        count = omega (arith, sizes, ap length once, ap length same);
        fits = subst (λ k. FitsFiring a.program a.cert.jitter f n (pass_seen new.pass) k (asking (viewed_numbers v) draft)) (ap length same) fits;
      }) in
      one_turn_more asked began old new was (record {
        node = node;
        form = form;
        lock = lock;
        ground = ground;
        drafts = drafts;
        room = room;
        own = FireAt fired.time old.node slots fired.enabled ∷ [];
        added = fired.adds;
        only_firings = (refl, tt);
        all_firings =
            drafts ∙ fired_drafts old.node slots known (pass_seen new.pass) (pass_added old.pass) (pass_added new.pass) fired
            ∙ ap (λ l. l ++ slots ∷ []) (same ∙ sym was.at_work.drafts)
            ∙ ap (λ l. old.drafts.items ++ l) (sym (one_more old.node fired.time slots fired.enabled []));
        guest = subst (λ g. EachGuest R asked old.guest g) (sym two) (subst (λ g. EachGuest R asked g (Some after)) (sym one) answers);
        finished = λ yes. not_yet (sym unfinished ∙ yes);
      })

-- the same firing, of what is the same
pub fired_along :
    (m n : ℕ) (draft : List (Option ℤ)) (old old' new added added' after : List Logged) → m ≡ n → old ≡ old' → added ≡ added'
    → HasFired m draft old new added after → HasFired n draft old' new added' after
fired_along m n draft old old' new added added' after node seen has fired =
    subst (λ x. HasFired n draft old' new x after) has (subst (λ x. HasFired n draft x new added after) seen
    (subst (λ x. HasFired x draft old new added after) node fired))

-- shifts of the same parts
pub same_shift :
    {C : Type 0} (s t : Shift C) → (s.node ≡ t.node) × (s.finished ≡ t.finished) × (s.pass ≡ t.pass) × (s.drafts ≡ t.drafts) × (s.guest ≡ t.guest)
    × (s.form ≡ t.form) → t ≡ s
same_shift s t (node, finished, pass, drafts, guest, form) =
    λ i. record { node = sym node i; finished = sym finished i; pass = sym pass i; drafts = sym drafts i; guest = sym guest i; form = sym form i }

-- where the list is the one that was found, nothing was added
pub nothing_added : (before held after seen now : List Logged) → after ≡ held ++ behind seen now → held ≡ before → seen ≡ now → after ≡ before
nothing_added before held after seen now gave was same =
    gave ∙ ap₂ (λ l es. l ++ behind es now) was same ∙ ap (λ l. before ++ l) (drop-length now) ∙ append-nil before

-- a turn in which the shift rested at a board
pub turn_rests :
    {C : Type 0} (a : Admitted) (f : Plan) (b : Standing) (old new : Shift C) → IsStanding b → pass_ground old.pass ≡ Some (b.accepted, b.plan)
    → IsPrefix (pass_seen old.pass) b.entries
    → is_left b.position.at old.node ≡ false → pass_seen new.pass ≡ b.entries → pass_added new.pass ≡ pass_added old.pass
    → (new.finished ≡ true) ↔ IsEnd b.accepted.program b.plan b.position
    → pass_ground old.pass ≡ Some (a, f) → TakesTurn a f old new
turn_rests a f b old new standing ground on left seen adds finished known =
    subst (λ (x : Admitted × Plan). TakesTurn x.0 x.1 old new) (same_Some (b.accepted, b.plan) (a, f) (sym ground ∙ known))
    (record {
      found = b.entries;
      goes_on = on;
      position = b.position;
      flown = standing.flown;
      does = inl (left, record { seen = seen; adds = adds; finished = finished });
    })

-- a turn in which its node fired
pub turn_fires :
    {C : Type 0} (a : Admitted) (f : Plan) (b : Standing) (old new : Shift C) (draft : List (Option ℤ)) → IsStanding b
    → pass_ground old.pass ≡ Some (b.accepted, b.plan) → IsPrefix (pass_seen old.pass) b.entries
    → is_left b.position.at old.node ≡ true → HasFired old.node draft b.entries (pass_seen new.pass) (pass_added old.pass) (pass_added new.pass)
    → new.finished ≡ false
    → pass_ground old.pass ≡ Some (a, f) → TakesTurn a f old new
turn_fires a f b old new draft standing ground on left fired unfinished known =
    subst (λ (x : Admitted × Plan). TakesTurn x.0 x.1 old new) (same_Some (b.accepted, b.plan) (a, f) (sym ground ∙ known))
    (record {
      found = b.entries;
      goes_on = on;
      position = b.position;
      flown = standing.flown;
      does =
          inr (
            left,
            record {
              time = fired.time;
              draft = draft;
              enabled = fired.enabled;
              between = fired.between;
              no_other = fired.no_other;
              seen = fired.seen;
              adds = fired.adds;
              unfinished = unfinished;
            },
          );
    })
