-- Room for drafts, in lists that are taken, given back and set.
use Rattle.std.proofs.Common.{◌≡◌, ◌≢◌, ℕ, zero, suc, ◌+◌, ◌<◌, ◌≤◌, ⊎_elim, Bool, false, List, [], ◌∷◌, ◌++◌, length, Option, Some, refl, sym, ap, ◌∙◌, subst, arith}
use Rattle.std.specs.Prelude.{slice_index_or, slice_set, vec_capacity}
use Rattle.std.proofs.lemmas.Bool.{cases_eq}
use Rattle.sot_lists.specs.Places.{At}
use Rattle.sot_lists.proofs.Places.{at_same}
use Rattle.sot_lang.specs.declared.tables.NodeInfo.{NodeInfo}
use Rattle.sot_tube.specs.Admitted.{Admitted}
use Rattle.sot_flight.specs.Plans.{Plan, Guest}
use Rattle.sot_flight.specs.Counts.{due_count}
use Rattle.sot_board.specs.Standing.{Standing}
use Rattle.sot_ordered_board.specs.Crews.{IsOwn}
use Rattle.sot_fly_worker.specs.Rooms.{HasRoomFor}
use Rattle.sot_fly_worker.proofs.Turning.{last_or_before}
use Rattle.sot_workers.specs.declared.lists.NodeList.{NodeList}
use Rattle.sot_workers.specs.Flying.{IsMine, IsMineAmong, IsFrom}
use Rattle.sot_workers.specs.Instants.{IsSameInstant}
use Rattle.sot_workers.specs.Lists.{HaveRoom, HaveRoomIn, KeepsRoom, AreKept}
use Rattle.sot_workers.proofs.ListFacts.{at_set_cases}
use Rattle.sot_workers.proofs.Placing.{ground_same}

-- one list more, of the node behind the others
pub room_more :
    (nodes : List NodeInfo) (h : ℕ) (lists : List NodeList) (list : NodeList) (node : NodeInfo) → At nodes (length lists) node
    → due_count node.period node.offset h ≤ vec_capacity list.drafts → HaveRoom nodes h (λ n. Unit {0}) lists
    → HaveRoom nodes h (λ n. Unit {0}) (lists ++ list ∷ [])
room_more nodes h lists list node at few has n l there is info info_at =
    ⊎_elim
    (λ before. has n l before tt info info_at)
    (λ last.
    let same : info ≡ node = at_same nodes n info node info_at (subst (λ i. At nodes i node) (sym last.0) at) in
    subst (λ x. due_count info.period info.offset h ≤ vec_capacity x.drafts) (sym last.1)
    (subst (λ x. due_count x.period x.offset h ≤ vec_capacity list.drafts) (sym same) few))
    (last_or_before lists list n l there)

-- where only some lists stay, and only of some of these it is said
pub room_kept :
    (nodes : List NodeInfo) (h : ℕ) (Is Js Ks : ℕ → Type 0) (old new : List NodeList) → AreKept Ks old new → ((n : ℕ) → Js n → Ks n) → ((n : ℕ) → Js n → Is n)
    → HaveRoom nodes h Is old → HaveRoom nodes h Js new
room_kept nodes h Is Js Ks old new kept there fewer has n list at is = has n list (kept n list (there n is) at) (fewer n is)

-- the same ground
pub room_along : (ground ground' : Option (Admitted × Plan)) (Is : Plan → ℕ → Type 0) (lists : List NodeList) → ground' ≡ ground
    → HaveRoomIn ground Is lists → HaveRoomIn ground' Is lists
room_along ground ground' Is lists same has a f is = has a f (sym same ∙ is)

-- fewer nodes, where a ground is known or not
pub room_fewer : (ground : Option (Admitted × Plan)) (Is Js : Plan → ℕ → Type 0) (lists : List NodeList) → ((f : Plan) (n : ℕ) → Js f n → Is f n)
    → HaveRoomIn ground Is lists → HaveRoomIn ground Js lists
room_fewer ground Is Js lists fewer has a f is n list at js = has a f is n list at (fewer f n js)

-- what no guest flies is flown by none before any; what a guest flies, by none before it, and what later ones fly is not its node
pub own_from : (k : ℕ) (f : Plan) (n : ℕ) → IsOwn f n → IsFrom k f n
own_from k f n own i at = absurd (own i at)

pub from_none : (k : ℕ) (f : Plan) (n : ℕ) → IsFrom k f n → IsFrom 0 f n
from_none k f n from i at = omega arith

pub guest_from : (number : ℕ) (f : Plan) (n : ℕ) → At f.crews n (Guest number) → IsFrom number f n
guest_from number f n at i there = (let e : Guest i ≡ Guest number = at_same f.crews n (Guest i) (Guest number) there at in let same : i ≡ number = cc in omega (arith, same))

pub from_later : (number : ℕ) (f : Plan) (n : ℕ) → IsFrom (number + 1) f n → IsFrom number f n
from_later number f n from i at = (let later = from i at in omega (arith, later))

pub from_other : (number : ℕ) (f : Plan) (node n : ℕ) → At f.crews node (Guest number) → IsFrom (number + 1) f n → n ≢ node
from_other number f node n crew from same = (let later = from number (subst (λ k. At f.crews k (Guest number)) (sym same) crew) in omega (arith, later))

-- a list that was taken from its place has room
pub taken_room :
    (ground : Option (Admitted × Plan)) (a : Admitted) (f : Plan) (node : ℕ) (lists : List NodeList) (room : ℕ) (list : NodeList)
    → HaveRoomIn ground (λ f n. IsOwn f n × (n ≡ node)) lists → ground ≡ Some (a, f) → IsOwn f node → At lists node list → room ≡ vec_capacity list.drafts
    → HasRoomFor a.program.nodes f.horizon node room
taken_room ground a f node lists room list has is own at same =
    subst (HasRoomFor a.program.nodes f.horizon node) (sym same) (has a f is node list at (own, refl))

-- flags with one more
among_same : (away : List Bool) (x : Bool) (n : ℕ) → n < length away → slice_index_or (away ++ x ∷ []) n false ≡ slice_index_or away n false
among_same [] x n lt = absurd (omega (arith, lt))
among_same (y ∷ away) x zero lt = refl
among_same (y ∷ away) x (suc n) lt = among_same away x n (omega (arith, lt))

among_last : (away : List Bool) (x : Bool) → slice_index_or (away ++ x ∷ []) (length away) false ≡ x
among_last [] x = refl
among_last (y ∷ away) x = among_last away x

-- the worker of one node more is stationed, and it is noted whether it has a thread
pub room_stationed :
    (ground : Option (Admitted × Plan)) (place : ℕ) (away : List Bool) (thread : Bool) (old new : List NodeList) → length away ≡ place
    → AreKept (λ n. n ≢ place) old new → (thread ≡ false → HaveRoomIn ground (λ f n. IsOwn f n × (n ≡ place)) new)
    → HaveRoomIn ground (IsMineAmong place away) old → HaveRoomIn ground (IsMineAmong (place + 1) (away ++ thread ∷ [])) new
room_stationed ground place away thread old new size kept here has a f is n list at mine =
    ⊎_elim
    (λ same.
    let noted : slice_index_or (away ++ thread ∷ []) n false ≡ thread =
    ap (λ i. slice_index_or (away ++ thread ∷ []) i false) (same ∙ sym size) ∙ among_last away thread in
    here (sym noted ∙ mine.1 (omega (arith, same))) a f is n list at (mine.0, same))
    (λ other.
    has a f is n list (kept n list other at) (mine.0, (λ lt. sym (among_same away thread n (omega (arith, lt, size))) ∙ mine.1 (omega (arith, lt)))))
    (cases_eq n place)

-- the crew of a flight that is the one of the ground
pub ground_crew :
    (ground : Option (Admitted × Plan)) (a : Admitted) (f flown : Plan) (node number : ℕ)
    → (known : (b : Admitted) × (ground ≡ Some (b, flown)) × (length flown.crews ≡ length b.program.nodes)) → ground ≡ Some (a, f)
    → At flown.crews node (Guest number) → At f.crews node (Guest number)
ground_crew ground a f flown node number known is crew =
    subst (λ (x : Plan). At x.crews node (Guest number)) (ground_same ground known.0 a flown f known.1 is).1 crew

-- ---- beside a board

pub room_moved : (old new : Standing) (away : List Bool) (lists : List NodeList) → new.accepted ≡ old.accepted → new.plan ≡ old.plan
    → KeepsRoom old away lists → KeepsRoom new away lists
room_moved old new away lists accepted plan has =
    subst (λ a. HaveRoom a.program.nodes new.plan.horizon (IsMine new.plan away) lists) (sym accepted)
    (subst (λ f. HaveRoom old.accepted.program.nodes f.horizon (IsMine f away) lists) (sym plan) has)

pub room_same : (old new : Standing) (away : List Bool) (lists : List NodeList) → IsSameInstant old new → KeepsRoom old away lists → KeepsRoom new away lists
room_same old new away lists same has = room_moved old new away lists same.accepted same.plan has

-- a list of as much room in the place of another
pub room_set :
    (nodes : List NodeInfo) (h : ℕ) (Is : ℕ → Type 0) (lists : List NodeList) (k : ℕ) (old new : NodeList) → At lists k old
    → vec_capacity new.drafts ≡ vec_capacity old.drafts → HaveRoom nodes h Is lists → HaveRoom nodes h Is (slice_set lists k new)
room_set nodes h Is lists k old new there same has n list at is =
    ⊎_elim
    (λ e.
    let here = has k old there (subst Is e.0 is) in
    subst (λ l. HasRoomFor nodes h n (vec_capacity l.drafts)) (sym e.1)
    (subst (λ i. HasRoomFor nodes h i (vec_capacity new.drafts)) (sym e.0) (subst (HasRoomFor nodes h k) (sym same) here)))
    (λ b. has n list b.1 is)
    (at_set_cases lists k n new list at)

-- of the board of a ground
pub room_beside : (ground : Option (Admitted × Plan)) (b : Standing) (Is : Plan → ℕ → Type 0) (lists : List NodeList) → ground ≡ Some (b.accepted, b.plan)
    → HaveRoom b.accepted.program.nodes b.plan.horizon (Is b.plan) lists → HaveRoomIn ground Is lists
room_beside ground b Is lists known has a f is =
    let same = ground_same ground b.accepted a b.plan f known is in
    subst (λ x. HaveRoom x.program.nodes f.horizon (Is f) lists) same.0
    (subst (λ x. HaveRoom b.accepted.program.nodes x.horizon (Is x) lists) same.1 has)
