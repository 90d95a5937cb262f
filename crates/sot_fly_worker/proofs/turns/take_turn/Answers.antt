use Rattle.std.proofs.Common.{◌∙◌, ℕ, false, [], Some, refl, sym, ap, subst}
use Rattle.std.specs.Prelude.{vec_capacity}
use Rattle.std.proofs.lemmas.List.{append-nil}
use Rattle.std.proofs.lemmas.Option.{same_Some}
use Rattle.sot_flight.specs.Plans.{Plan, Guest}
use Rattle.sot_lists.specs.Places.{At}
use Rattle.sot_tube.specs.Admitted.{Admitted}
use Rattle.sot_turn.specs.Prefixes.{IsPrefix}
use Rattle.sot_turn.specs.Passes.{pass_ground, pass_seen, pass_added}
use Rattle.sot_board.proofs.NothingLeft.{nodes_from}
use Rattle.sot_eval_flat.specs.FlatForm.{IsFormOf}
use Rattle.sot_fly_worker.proofs.Firing.{node_there}
use Rattle.sot_fly_worker.proofs.Turning.{form_along}
use Rattle.sot_fly_worker.specs.Shifts.{IsOnShift}
use Rattle.sot_fly_worker.specs.Turns.{TakesTurn}
use Rattle.sot_board.specs.Versions.{drafts_of}
use Rattle.sot_board.specs.Views.{viewed_node}
use Rattle.sot_fly_worker.specs.Shifts.{HasItsGuest}
use Rattle.sot_world.specs.NodeSorts.{IsCodedNode, IsExternalNode}
use Rattle.sot_fly_worker.specs.Holds.{HasNode, IsDueView, HasRoomIn}
use Rattle.sot_fly_worker.specs.Turned.{IsQuiet}
use Rattle.sot_world.proofs.Options.{none_there}
use Rattle.sot_fly_worker.proofs.Arms.{quiet, flown_here, seen_here, seen_program, not_yet, quiet_turn, unasked_turn, asked_turn, nothing_added, same_shift}
use Rattle.sot_fly_worker.proofs.Arms.{turn_rests, room_here}
use Rattle.sot_fly_worker.proofs.Arms.{turn_fires, fired_along}
use Rattle.sot_fly_worker.proofs.turns.take_turn.Goals as goal

pub give-requires-clause-goes_on : goal.give-requires-clause-goes_on
give-requires-clause-goes_on g c = ([], ap (λ b. b.entries) c.lend.ensures.value ∙ sym c.take_in_step-held.ensures.seen ∙ sym (append-nil _))

pub give-requires-in-Idle-clause-goes_on : goal.give-requires-in-Idle-clause-goes_on
give-requires-in-Idle-clause-goes_on g c = ([], ap (λ b. b.entries) c.lend.ensures.value ∙ sym c.take_in_step-held.ensures.seen ∙ sym (append-nil _))

pub give-pass-requires-clause-goes_on : goal.give-pass-requires-clause-goes_on
give-pass-requires-clause-goes_on g c = ([], ap (λ b. b.entries) c.lend.ensures.value ∙ sym c.take_in_step-held.ensures.seen ∙ sym (append-nil _))

pub give-pass-requires-in-Runs-clause-goes_on : goal.give-pass-requires-in-Runs-clause-goes_on
give-pass-requires-in-Runs-clause-goes_on g c = ([], ap (λ b. b.entries) c.lend.ensures.value ∙ sym c.take_in_step-held.ensures.seen ∙ sym (append-nil _))

pub give-pass-requires-in-Asks-clause-goes_on : goal.give-pass-requires-in-Asks-clause-goes_on
give-pass-requires-in-Asks-clause-goes_on g c = ([], ap (λ b. b.entries) c.lend.ensures.value ∙ sym c.take_in_step-held.ensures.seen ∙ sym (append-nil _))

pub fire_stated-pass-requires-clause-there : goal.fire_stated-pass-requires-clause-there
fire_stated-pass-requires-clause-there g c =
    let at = c.requires.at_work in
    (at.accepted, at.plan, c.give-pass.ensures.ground ∙ c.take_in_step-held.ensures.ground ∙ at.ground, at.there)

pub fire_stated-pass-requires-clause-external : goal.fire_stated-pass-requires-clause-external
fire_stated-pass-requires-clause-external g c = λ a f is.
    let b = c.lend.result.now in
    let held = c.take_in_step-held.ensures in
    let known = c.give-pass.ensures.ground ∙ held.ground ∙ held.ground_now ∙ ap (λ x. Some (x.accepted, x.plan)) (sym c.lend.ensures.value) in
    subst (λ (x : Admitted × Plan). IsExternalNode x.0.program c.args.shift.node) (same_Some (b.accepted, b.plan) (a, f) (sym known ∙ is))
    c.in-Stated.ensures.sight.2

pub fire_stated-pass-requires-clause-room : goal.fire_stated-pass-requires-clause-room
fire_stated-pass-requires-clause-room g c =
    let at = c.requires.at_work in
    room_here (pass_ground c.give-pass.result) at.accepted at.plan c.args.shift.node _ (c.give-pass.ensures.ground ∙ c.take_in_step-held.ensures.ground ∙ at.ground)
    at.room

pub fire_code-pass-requires-clause-room : goal.fire_code-pass-requires-clause-room
fire_code-pass-requires-clause-room g c =
    let at = c.requires.at_work in
    let ground = c.give-pass-in-Runs.ensures.ground ∙ c.take_in_step-held.ensures.ground ∙ at.ground in
    subst (λ n. HasRoomIn (pass_ground c.give-pass-in-Runs.result) n (vec_capacity c.args.shift.drafts)) (sym c.in-Runs.ensures.sight.3.view.node)
    (room_here (pass_ground c.give-pass-in-Runs.result) at.accepted at.plan c.args.shift.node _ ground at.room)

pub fire_guest-pass-requires-clause-room : goal.fire_guest-pass-requires-clause-room
fire_guest-pass-requires-clause-room g c =
    let at = c.requires.at_work in
    let ground = c.give-pass-in-Asks.ensures.ground ∙ c.take_in_step-held.ensures.ground ∙ at.ground in
    room_here (pass_ground c.give-pass-in-Asks.result) at.accepted at.plan c.args.shift.node _ ground at.room

pub fire_code-pass-requires-clause-there : goal.fire_code-pass-requires-clause-there
fire_code-pass-requires-clause-there g c =
    let at = c.requires.at_work in
    let ground = c.give-pass-in-Runs.ensures.ground ∙ c.take_in_step-held.ensures.ground ∙ at.ground in
    subst (HasNode (pass_ground c.give-pass-in-Runs.result)) (sym c.in-Runs.ensures.sight.3.view.node) (at.accepted, at.plan, ground, at.there)

pub fire_code-pass-requires-clause-coded : goal.fire_code-pass-requires-clause-coded
fire_code-pass-requires-clause-coded g c =
    let runs = c.in-Runs.ensures.sight in
    subst (IsCodedNode c.in-Runs.p.now) (sym runs.3.view.node) (subst (λ t. IsCodedNode t c.args.shift.node) (sym runs.1) runs.2)

pub fire_code-pass-requires-clause-seen : goal.fire_code-pass-requires-clause-seen
fire_code-pass-requires-clause-seen g c =
    let v = c.in-Runs.view in
    let b = c.lend.result.now in
    let runs = c.in-Runs.ensures.sight in
    let held = c.take_in_step-held.ensures in
    let due = subst (λ n. IsDueView b n v) (sym runs.3.view.node) runs.3 in
    let ground = c.give-pass-in-Runs.ensures.ground ∙ held.ground ∙ held.ground_now ∙ ap (λ x. Some (x.accepted, x.plan)) (sym c.lend.ensures.value) in
    seen_program (pass_ground c.give-pass-in-Runs.result) (pass_seen c.give-pass-in-Runs.result)
    (viewed_node v) v b c.in-Runs.p.now due ground c.give-pass-in-Runs.ensures.seen runs.1

pub fire_code-pass-requires-clause-form : goal.fire_code-pass-requires-clause-form
fire_code-pass-requires-clause-form g c =
    let at = c.requires.at_work in
    let old = c.args.shift in
    let b = c.lend.result.now in
    let runs = c.in-Runs.ensures.sight in
    let ground = c.take_in_step-held.ensures.ground_now ∙ ap (λ x. Some (x.accepted, x.plan)) (sym c.lend.ensures.value) in
    let same = same_Some (at.accepted, at.plan) (b.accepted, b.plan) (sym at.ground ∙ ground) in
    let program = ap (λ (x : Admitted × Plan). x.0.program) same ∙ sym runs.1 in
    form_along c.in-Runs.p.now old.node (viewed_node c.in-Runs.view) old.form old.form (sym runs.3.view.node) refl
    (subst (λ t. IsFormOf t old.node old.form) program at.form)

pub fire_guest-pass-requires-clause-there : goal.fire_guest-pass-requires-clause-there
fire_guest-pass-requires-clause-there g c =
    let at = c.requires.at_work in
    (at.accepted, at.plan, c.give-pass-in-Asks.ensures.ground ∙ c.take_in_step-held.ensures.ground ∙ at.ground, at.there)

pub fire_guest-pass-requires-clause-guest : goal.fire_guest-pass-requires-clause-guest
fire_guest-pass-requires-clause-guest g c = λ a f is.
    let at = c.requires.at_work in
    let n = c.args.shift.node in
    let has = subst (HasItsGuest at.plan n) c.in-Some.is at.guest in
    let known = c.give-pass-in-Asks.ensures.ground ∙ c.take_in_step-held.ensures.ground ∙ at.ground in
    subst (λ (x : Admitted × Plan). (i : ℕ) × At x.1.crews n (Guest i)) (same_Some (at.accepted, at.plan) (a, f) (sym known ∙ is)) has

pub returns-in-Ended-clause-on_shift : goal.returns-in-Ended-clause-on_shift
returns-in-Ended-clause-on_shift g c = λ began was.
    let old = c.args.shift in
    let b = c.lend.result.now in
    let value = c.lend.ensures.value in
    let held = c.take_in_step-held.ensures in
    let known = pass_seen old.pass in
    let on : IsPrefix known b.entries = subst (λ x. IsPrefix known x.entries) (sym value) held.goes_on in
    let ground = held.ground_now ∙ ap (λ x. Some (x.accepted, x.plan)) (sym value) in
    let same = ap (λ x. drafts_of old.node x.entries) value ∙ held.in_step ∙ c.requires.at_work.drafts in
    let still = subst (IsQuiet old.node known) (sym c.give.ensures.seen) (quiet old.node known b.entries on same) in
    let nothing = nothing_added (pass_added old.pass) _ _ _ b.entries c.give.ensures.added held.added (held.seen ∙ ap (λ x. x.entries) (sym value)) in
    quiet_turn g.C.Controller.asked began old _ was refl refl (c.give.ensures.lock ∙ held.lock) (c.give.ensures.ground ∙ held.ground) still nothing refl refl refl
    (λ yes. flown_here (pass_ground old.pass) was.at_work.accepted was.at_work.plan b (pass_seen c.give.result) was.at_work.ground ground c.give.ensures.seen
    (b.position, c.see.ensures.standing.flown, c.in-Ended.ensures.sight))

pub returns-in-Ended-clause-turn : goal.returns-in-Ended-clause-turn
returns-in-Ended-clause-turn g c = λ a f is.
    let old = c.args.shift in
    let b = c.lend.result.now in
    let value = c.lend.ensures.value in
    let held = c.take_in_step-held.ensures in
    let known = pass_seen old.pass in
    let on : IsPrefix known b.entries = subst (λ x. IsPrefix known x.entries) (sym value) held.goes_on in
    let ground = held.ground_now ∙ ap (λ x. Some (x.accepted, x.plan)) (sym value) in
    let nothing = nothing_added (pass_added old.pass) _ _ _ b.entries c.give.ensures.added held.added (held.seen ∙ ap (λ x. x.entries) (sym value)) in
    let at = c.requires.at_work in
    let there = node_there (pass_ground old.pass) old.node b (at.accepted, at.plan, at.ground, at.there) ground in
    let end = c.in-Ended.ensures.sight in
    turn_rests a f b old _ c.see.ensures.standing ground on (nodes_from b.accepted.program b.position.at end.nothing old.node there) c.give.ensures.seen nothing
    ((λ yes. end), (λ at_end. refl)) is

pub returns-in-Idle-clause-on_shift : goal.returns-in-Idle-clause-on_shift
returns-in-Idle-clause-on_shift g c = λ began was.
    let old = c.args.shift in
    let b = c.lend.result.now in
    let value = c.lend.ensures.value in
    let held = c.take_in_step-held.ensures in
    let known = pass_seen old.pass in
    let on : IsPrefix known b.entries = subst (λ x. IsPrefix known x.entries) (sym value) held.goes_on in
    let ground = held.ground_now ∙ ap (λ x. Some (x.accepted, x.plan)) (sym value) in
    let same = ap (λ x. drafts_of old.node x.entries) value ∙ held.in_step ∙ c.requires.at_work.drafts in
    let still = subst (IsQuiet old.node known) (sym c.give-in-Idle.ensures.seen) (quiet old.node known b.entries on same) in
    let nothing = nothing_added (pass_added old.pass) _ _ _ b.entries c.give-in-Idle.ensures.added held.added (held.seen ∙ ap (λ x. x.entries) (sym value)) in
    subst (λ s. IsOnShift g.C.Controller.asked began s) (same_shift c.unfinished.result
    (record { node = old.node; finished = false; pass = c.give-in-Idle.result; drafts = old.drafts; guest = old.guest; form = old.form }) c.unfinished.ensures)
    (quiet_turn g.C.Controller.asked began old _ was refl refl (c.give-in-Idle.ensures.lock ∙ held.lock) (c.give-in-Idle.ensures.ground ∙ held.ground) still
    nothing refl refl refl not_yet)

pub returns-in-Idle-clause-turn : goal.returns-in-Idle-clause-turn
returns-in-Idle-clause-turn g c = λ a f is.
    let old = c.args.shift in
    let b = c.lend.result.now in
    let value = c.lend.ensures.value in
    let held = c.take_in_step-held.ensures in
    let known = pass_seen old.pass in
    let on : IsPrefix known b.entries = subst (λ x. IsPrefix known x.entries) (sym value) held.goes_on in
    let ground = held.ground_now ∙ ap (λ x. Some (x.accepted, x.plan)) (sym value) in
    let nothing = nothing_added (pass_added old.pass) _ _ _ b.entries c.give-in-Idle.ensures.added held.added (held.seen ∙ ap (λ x. x.entries) (sym value)) in
    let idle = c.in-Idle.ensures.sight in
    subst (λ s. TakesTurn a f old s) (same_shift c.unfinished.result
    (record { node = old.node; finished = false; pass = c.give-in-Idle.result; drafts = old.drafts; guest = old.guest; form = old.form }) c.unfinished.ensures)
    (turn_rests a f b old _ c.see.ensures.standing ground on idle.0 c.give-in-Idle.ensures.seen nothing (not_yet, (λ at_end. absurd (idle.1 at_end))) is)

pub returns-in-Stated-clause-on_shift : goal.returns-in-Stated-clause-on_shift
returns-in-Stated-clause-on_shift g c = λ began was.
    let old = c.args.shift in
    let b = c.lend.result.now in
    let value = c.lend.ensures.value in
    let held = c.take_in_step-held.ensures in
    let known = pass_seen old.pass in
    let on : IsPrefix known b.entries = subst (λ x. IsPrefix known x.entries) (sym value) held.goes_on in
    let ground = held.ground_now ∙ ap (λ x. Some (x.accepted, x.plan)) (sym value) in
    let same = ap (λ x. drafts_of old.node x.entries) value ∙ held.in_step ∙ c.requires.at_work.drafts in
    let nothing = nothing_added (pass_added old.pass) _ _ _ b.entries c.give-pass.ensures.added held.added (held.seen ∙ ap (λ x. x.entries) (sym value)) in
    let gave = c.give-pass.ensures in
    let fired = c.fire_stated-pass.ensures in
    let once = fired_along _ _ _ _ b.entries _ _ (pass_added old.pass) _ refl gave.seen nothing fired.fired.1 in
    subst (λ s. IsOnShift g.C.Controller.asked began s) (same_shift c.unfinished-in-Stated.result
    (record { node = old.node; finished = false; pass = c.fire_stated-pass.result; drafts = c.fire_stated-pass.new.drafts; guest = old.guest; form = old.form })
    c.unfinished-in-Stated.ensures)
    (unasked_turn g.C.Controller.asked began old _ was refl refl (fired.lock ∙ gave.lock ∙ held.lock) (fired.ground ∙ gave.ground ∙ held.ground) b.entries
    fired.fired.0 (same ∙ sym c.requires.at_work.drafts) once fired.drafts fired.room (none_there old.guest (sym c.is_some.ensures ∙ c.in-Stated.ensures.sight.0)) refl
    refl)

pub returns-in-Stated-clause-turn : goal.returns-in-Stated-clause-turn
returns-in-Stated-clause-turn g c = λ a f is.
    let old = c.args.shift in
    let b = c.lend.result.now in
    let value = c.lend.ensures.value in
    let held = c.take_in_step-held.ensures in
    let known = pass_seen old.pass in
    let on : IsPrefix known b.entries = subst (λ x. IsPrefix known x.entries) (sym value) held.goes_on in
    let ground = held.ground_now ∙ ap (λ x. Some (x.accepted, x.plan)) (sym value) in
    let nothing = nothing_added (pass_added old.pass) _ _ _ b.entries c.give-pass.ensures.added held.added (held.seen ∙ ap (λ x. x.entries) (sym value)) in
    let gave = c.give-pass.ensures in
    let fired = c.fire_stated-pass.ensures in
    let once = fired_along _ _ _ _ b.entries _ _ (pass_added old.pass) _ refl gave.seen nothing fired.fired.1 in
    subst (λ s. TakesTurn a f old s) (same_shift c.unfinished-in-Stated.result
    (record { node = old.node; finished = false; pass = c.fire_stated-pass.result; drafts = c.fire_stated-pass.new.drafts; guest = old.guest; form = old.form })
    c.unfinished-in-Stated.ensures)
    (turn_fires a f b old _ fired.fired.0 c.see.ensures.standing ground on c.in-Stated.ensures.sight.1 once refl is)

pub returns-in-Runs-clause-on_shift : goal.returns-in-Runs-clause-on_shift
returns-in-Runs-clause-on_shift g c = λ began was.
    let old = c.args.shift in
    let b = c.lend.result.now in
    let value = c.lend.ensures.value in
    let held = c.take_in_step-held.ensures in
    let known = pass_seen old.pass in
    let on : IsPrefix known b.entries = subst (λ x. IsPrefix known x.entries) (sym value) held.goes_on in
    let ground = held.ground_now ∙ ap (λ x. Some (x.accepted, x.plan)) (sym value) in
    let same = ap (λ x. drafts_of old.node x.entries) value ∙ held.in_step ∙ c.requires.at_work.drafts in
    let nothing = nothing_added (pass_added old.pass) _ _ _ b.entries
    c.give-pass-in-Runs.ensures.added held.added (held.seen ∙ ap (λ x. x.entries) (sym value)) in
    let runs = c.in-Runs.ensures.sight in
    let gave = c.give-pass-in-Runs.ensures in
    let fired = c.fire_code-pass.ensures in
    let drafts = fired.drafts ∙ ap (λ n. drafts_of n (pass_seen c.fire_code-pass.result)) runs.3.view.node in
    let once = fired_along _ _ _ _ b.entries _ _ (pass_added old.pass) _ runs.3.view.node gave.seen nothing fired.fired.1 in
    subst (λ s. IsOnShift g.C.Controller.asked began s) (same_shift c.unfinished-in-Runs.result
    (record { node = old.node; finished = false; pass = c.fire_code-pass.result; drafts = c.fire_code-pass.new.drafts; guest = old.guest; form = old.form })
    c.unfinished-in-Runs.ensures)
    (unasked_turn g.C.Controller.asked began old _ was refl refl (fired.lock ∙ gave.lock ∙ held.lock) (fired.ground ∙ gave.ground ∙ held.ground) b.entries
    fired.fired.0 (same ∙ sym c.requires.at_work.drafts) once drafts fired.room (none_there old.guest (sym c.is_some.ensures ∙ runs.0)) refl refl)

pub returns-in-Runs-clause-turn : goal.returns-in-Runs-clause-turn
returns-in-Runs-clause-turn g c = λ a f is.
    let old = c.args.shift in
    let b = c.lend.result.now in
    let value = c.lend.ensures.value in
    let held = c.take_in_step-held.ensures in
    let known = pass_seen old.pass in
    let on : IsPrefix known b.entries = subst (λ x. IsPrefix known x.entries) (sym value) held.goes_on in
    let ground = held.ground_now ∙ ap (λ x. Some (x.accepted, x.plan)) (sym value) in
    let nothing = nothing_added (pass_added old.pass) _ _ _ b.entries
    c.give-pass-in-Runs.ensures.added held.added (held.seen ∙ ap (λ x. x.entries) (sym value)) in
    let runs = c.in-Runs.ensures.sight in
    let gave = c.give-pass-in-Runs.ensures in
    let fired = c.fire_code-pass.ensures in
    let once = fired_along _ _ _ _ b.entries _ _ (pass_added old.pass) _ runs.3.view.node gave.seen nothing fired.fired.1 in
    subst (λ s. TakesTurn a f old s) (same_shift c.unfinished-in-Runs.result
    (record { node = old.node; finished = false; pass = c.fire_code-pass.result; drafts = c.fire_code-pass.new.drafts; guest = old.guest; form = old.form })
    c.unfinished-in-Runs.ensures)
    (turn_fires a f b old _ fired.fired.0 c.see.ensures.standing ground on runs.3.left once refl is)

pub returns-in-Some-clause-on_shift : goal.returns-in-Some-clause-on_shift
returns-in-Some-clause-on_shift g c = λ began was.
    let old = c.args.shift in
    let b = c.lend.result.now in
    let value = c.lend.ensures.value in
    let held = c.take_in_step-held.ensures in
    let known = pass_seen old.pass in
    let on : IsPrefix known b.entries = subst (λ x. IsPrefix known x.entries) (sym value) held.goes_on in
    let ground = held.ground_now ∙ ap (λ x. Some (x.accepted, x.plan)) (sym value) in
    let same = ap (λ x. drafts_of old.node x.entries) value ∙ held.in_step ∙ c.requires.at_work.drafts in
    let v = c.in-Asks.view in
    let gave = c.give-pass-in-Asks.ensures in
    let fired = c.fire_guest-pass.ensures in
    let nothing = nothing_added (pass_added old.pass) _ _ _ b.entries gave.added held.added (held.seen ∙ ap (λ x. x.entries) (sym value)) in
    let still = subst (IsQuiet old.node known) (sym gave.seen) (quiet old.node known b.entries on same) in
    let then = pass_seen c.give-pass-in-Asks.result in
    subst (λ s. IsOnShift g.C.Controller.asked began s) (same_shift c.unfinished-in-Asks.result
    (record {
      node = old.node;
      finished = false;
      pass = c.fire_guest-pass.result;
      drafts = c.fire_guest-pass.new.drafts;
      guest = Some c.ask-draft.new.guest;
      form = old.form;
    }) c.unfinished-in-Asks.ensures)
    (asked_turn g.C.Controller.asked began old _ was refl refl (fired.lock ∙ gave.lock ∙ held.lock) (fired.ground ∙ gave.ground ∙ held.ground)
    then v c.ask-draft.result c.in-Some.asked c.ask-draft.new.guest still
    (seen_here (pass_ground old.pass) then old.node v b c.in-Asks.ensures.sight.1 ground gave.seen)
    (λ a f is. fired_along _ _ _ _ _ _ _ (pass_added old.pass) _ refl refl nothing (fired.fired a f (gave.ground ∙ held.ground ∙ is))) fired.drafts fired.room c.in-Some.is
    refl c.ask-draft.ensures refl)

pub returns-in-Some-clause-turn : goal.returns-in-Some-clause-turn
returns-in-Some-clause-turn g c = λ a f is.
    let old = c.args.shift in
    let b = c.lend.result.now in
    let value = c.lend.ensures.value in
    let held = c.take_in_step-held.ensures in
    let known = pass_seen old.pass in
    let on : IsPrefix known b.entries = subst (λ x. IsPrefix known x.entries) (sym value) held.goes_on in
    let ground = held.ground_now ∙ ap (λ x. Some (x.accepted, x.plan)) (sym value) in
    let gave = c.give-pass-in-Asks.ensures in
    let fired = c.fire_guest-pass.ensures in
    let nothing = nothing_added (pass_added old.pass) _ _ _ b.entries gave.added held.added (held.seen ∙ ap (λ x. x.entries) (sym value)) in
    let due = c.in-Asks.ensures.sight.1 in
    let once = fired_along _ _ _ _ b.entries _ _ (pass_added old.pass) _ refl gave.seen nothing (fired.fired a f (gave.ground ∙ held.ground ∙ is)) in
    subst (λ s. TakesTurn a f old s) (same_shift c.unfinished-in-Asks.result
    (record {
      node = old.node;
      finished = false;
      pass = c.fire_guest-pass.result;
      drafts = c.fire_guest-pass.new.drafts;
      guest = Some c.ask-draft.new.guest;
      form = old.form;
    }) c.unfinished-in-Asks.ensures)
    (turn_fires a f b old _ _ c.see.ensures.standing ground on due.left once refl is)
