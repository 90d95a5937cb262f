-- A history leads to one position.
use Rattle.std.proofs.Common.{◌≡◌, ◌⊎◌, ⊎_elim, inl, inr, ℕ, zero, suc, ℤ, Bool, false, List, [], ◌∷◌, Option, length, take, drop, refl, sym, ap, ◌∙◌, subst}
use Rattle.std.proofs.Common.{arith}
use Rattle.std.specs.Prelude.{slice_index_or}
use Rattle.std.proofs.Math.Seq.{take-append_seam}
use Rattle.std.proofs.lemmas.List.{ext_get_or}
use Rattle.std.proofs.lemmas.Option.{slice_get_cases}
use Rattle.sot_lists.specs.Places.{At}
use Rattle.sot_lists.proofs.Places.{at_same}
use Rattle.sot_lang.specs.Tables.{Tables}
use Rattle.sot_code.specs.Recorded.{in_slots}
use Rattle.sot_world.specs.Configurations.{Configuration, IsOpening, is_left, is_left_dm}
use Rattle.sot_world.specs.Steps.{Event, Input, Code, Guest, Decide, Tick, Step, CodeFires, GuestFires}
use Rattle.sot_world.specs.Outcomes.{Recorded, NodeFired, Records}
use Rattle.sot_world.specs.HistoryEntry.{Logged, InputAt, FireAt, DecideAt, TickAt}
use Rattle.sot_world.proofs.Unique.{same_flag, steps_are_unique}
use Rattle.sot_flight.specs.Plans.{Plan}
use Rattle.sot_flight.specs.Stated.{stated_noise}
use Rattle.sot_board.specs.Flown.{Position, IsStated, Tells, Flies, Leads, IsStart, FlownSoFar, inputs_after, fired_after}

same_lists : {A : Type 0} (xs : List A) (ys zs : List Bool) → length ys ≡ length xs → length zs ≡ length xs
    → ((k : ℕ) (x : A) → At xs k x → slice_index_or ys k false ≡ slice_index_or zs k false) → ys ≡ zs
same_lists xs ys zs a b h =
    ext_get_or false ys zs (a ∙ sym b) (λ i lt. ⊎_elim (λ here. h i here.0 here.2) (λ past. absurd (omega (arith, past.0, a))) (slice_get_cases xs i).1)

opening_same : (p : Tables) (start : List (List ℤ)) (C D : Configuration) → IsOpening p start C → IsOpening p start D → C ≡ D
opening_same p start C D c d = λ i. record {
  time = (c.time ∙ sym d.time) i;
  left =
      same_lists p.nodes C.left D.left c.sizes.left d.sizes.left (λ n node at. same_flag (is_left C n) (is_left D n) _ (c.left n node at) (d.left n node at)) i;
  left_dm =
      same_lists p.modules C.left_dm D.left_dm c.sizes.left_dm d.sizes.left_dm
      (λ m a at. same_flag (is_left_dm C m) (is_left_dm D m) _ (c.left_dm m a at) (d.left_dm m a at)) i;
  modes = (c.modes ∙ sym d.modes) i;
  scalars = (c.scalars ∙ sym d.scalars) i;
  locals = (c.locals ∙ sym d.locals) i;
  points = (c.points ∙ sym d.points) i;
}

same_position : (P Q : Position) → P.at ≡ Q.at → P.inputs ≡ Q.inputs → P.fired ≡ Q.fired → P ≡ Q
same_position P Q a b d = λ i. record { at = a i; inputs = b i; fired = d i }

start_same : (p : Tables) (f : Plan) (P Q : Position) → IsStart p f P → IsStart p f Q → P ≡ Q
start_same p f P Q a b = same_position P Q (opening_same p f.start P.at Q.at a.opening b.opening) (a.inputs ∙ sym b.inputs) (a.fired ∙ sym b.fired)

-- the event of which an entry tells; of a firing the draft's slots are told
abbrev IsEventOf : Tables → Plan → Position → Logged → Event → Type 0
IsEventOf p f P (InputAt time k value) e = e ≡ Input k value
IsEventOf p f P (FireAt time n slots on) e = (e ≡ Code n) ⊎ ((d : List (Option ℤ)) × (e ≡ Guest n d) × (slots ≡ in_slots d))
IsEventOf p f P (DecideAt time m mode) e = e ≡ Decide m
IsEventOf p f P (TickAt time noise states) e = e ≡ Tick (stated_noise p f P.at.time)

drafts_same : (draft d : List (Option ℤ)) (a b : Bool) (r : Recorded) → r ≡ NodeFired draft a → r ≡ NodeFired d b → draft ≡ d
drafts_same draft d a b r s t = (let e = sym s ∙ t in cc)

event_of : (p : Tables) (f : Plan) (P : Position) (D : Configuration) (r : Recorded) (entry : Logged) (e : Event) → IsStated p f P e → Records p P.at e D r
    → Tells P.at e r D entry → IsEventOf p f P entry e
event_of p f P D r entry (Input k value) stated records told = subst (λ x. IsEventOf p f P x (Input k value)) (sym told) refl
event_of p f P D r entry (Code n) stated records told = subst (λ x. IsEventOf p f P x (Code n)) (sym told.3) (inl refl)
event_of p f P D r entry (Guest n d) stated records told =
    subst (λ x. IsEventOf p f P x (Guest n d)) (sym told.3) (inr (d, refl, ap in_slots (drafts_same told.0 d told.1 _ r told.2 records)))
event_of p f P D r entry (Decide m) stated records told = subst (λ x. IsEventOf p f P x (Decide m)) (sym told.2) refl
event_of p f P D r entry (Tick noise) stated records told = subst (λ x. IsEventOf p f P x (Tick noise)) (sym told) (ap Tick stated.2)

not_both : (p : Tables) (n : ℕ) (d : List (Option ℤ)) (C D E : Configuration) → CodeFires p n C D → GuestFires p n d C E → ⊥
not_both p n d C D E s t =
    let node = at_same p.nodes n s.node t.node s.is t.is in
    let both = sym s.coded.1 ∙ ap (λ x. x.body) node ∙ t.external in
    cc

guest_drafts : (p : Tables) (n : ℕ) (d e : List (Option ℤ)) (C D E : Configuration) → GuestFires p n d C D → GuestFires p n e C E → in_slots d ≡ in_slots e
    → d ≡ e
guest_drafts p n d e C D E s t same =
    let node = at_same p.nodes n s.node t.node s.is t.is in
    let size : length d ≡ length e = s.slots ∙ ap (λ x. length x.writes.items) node ∙ sym t.slots in
    sym (take-append_seam d _) ∙ ap (take (length d)) same ∙ ap (λ k. take k (in_slots e)) size ∙ take-append_seam e _

-- two events of which one entry tells are one
events_same :
    (p : Tables) (j : ℕ) (f : Plan) (P : Position) (entry : Logged) (e e' : Event) (D D' : Configuration) → IsEventOf p f P entry e → IsEventOf p f P entry e'
    → Step p j P.at e D → Step p j P.at e' D' → e ≡ e'
events_same p j f P (InputAt time k value) e e' D D' a b s t = a ∙ sym b
events_same p j f P (FireAt time n slots on) e e' D D' (inl a) (inl b) s t = a ∙ sym b
events_same p j f P (FireAt time n slots on) e e' D D' (inl a) (inr b) s t =
    absurd (not_both p n b.0 P.at D D' (subst (λ x. Step p j P.at x D) a s) (subst (λ x. Step p j P.at x D') b.1 t))
events_same p j f P (FireAt time n slots on) e e' D D' (inr a) (inl b) s t =
    absurd (not_both p n a.0 P.at D' D (subst (λ x. Step p j P.at x D') b t) (subst (λ x. Step p j P.at x D) a.1 s))
events_same p j f P (FireAt time n slots on) e e' D D' (inr a) (inr b) s t =
    a.1 ∙ ap (Guest n) (guest_drafts p n a.0 b.0 P.at D D' (subst (λ x. Step p j P.at x D) a.1 s) (subst (λ x. Step p j P.at x D') b.1 t) (sym a.2 ∙ b.2))
    ∙ sym b.1
events_same p j f P (DecideAt time m mode) e e' D D' a b s t = a ∙ sym b
events_same p j f P (TickAt time noise states) e e' D D' a b s t = a ∙ sym b

-- an entry leads to one position
flies_same : (p : Tables) (j : ℕ) (f : Plan) (P : Position) (entry : Logged) (Q R : Position) → Flies p j f P entry Q → Flies p j f P entry R → Q ≡ R
flies_same p j f P entry Q R a b =
    let e = events_same p j f P entry b.event a.event R.at Q.at (event_of p f P R.at b.recorded entry b.event b.stated b.records b.tells)
    (event_of p f P Q.at a.recorded entry a.event a.stated a.records a.tells) b.step a.step in
    let step = subst (λ x. Step p j P.at x R.at) e b.step in
    let records = subst (λ x. Records p P.at x R.at b.recorded) e b.records in
    let same = steps_are_unique p j P.at a.event Q.at R.at a.recorded b.recorded a.step a.records step records in
    same_position Q R same.0 (a.inputs ∙ ap (λ x. inputs_after x P.inputs) (sym e) ∙ sym b.inputs)
    (a.fired ∙ ap (λ x. fired_after x P.fired) (sym e) ∙ sym b.fired)

leads_same : (p : Tables) (j : ℕ) (f : Plan) (es : List Logged) (P P' Q R : Position) → P ≡ P' → Leads p j f P es Q → Leads p j f P' es R → Q ≡ R
leads_same p j f [] P P' Q R same a b = sym a ∙ same ∙ b
leads_same p j f (e ∷ es) P P' Q R same a b =
    leads_same p j f es a.0 b.0 Q R (flies_same p j f P e a.0 b.0 a.1 (subst (λ x. Flies p j f x e b.0) (sym same) b.1)) a.2 b.2

leads_split : (p : Tables) (j : ℕ) (f : Plan) (k : ℕ) (es : List Logged) (P Q : Position) → Leads p j f P es Q
    → (R : Position) × Leads p j f P (take k es) R × Leads p j f R (drop k es) Q
leads_split p j f zero es P Q led = (P, refl, led)
leads_split p j f (suc k) [] P Q led = (P, refl, led)
leads_split p j f (suc k) (e ∷ es) P Q led = (let rest = leads_split p j f k es led.0 Q led.2 in (rest.0, (led.0, led.1, rest.1), rest.2))

-- where a front of the history leads to P, the rest leads from there to where the history leads
pub from_front : (p : Tables) (j : ℕ) (f : Plan) (k : ℕ) (es : List Logged) (P Q : Position) → FlownSoFar p j f (take k es) P → FlownSoFar p j f es Q
    → Leads p j f P (drop k es) Q
from_front p j f k es P Q front all =
    let split = leads_split p j f k es all.0 Q all.2 in
    let here = leads_same p j f (take k es) all.0 front.0 split.0 P (start_same p f all.0 front.0 all.1 front.1) split.1 front.2 in
    subst (λ x. Leads p j f x (drop k es) Q) here split.2
