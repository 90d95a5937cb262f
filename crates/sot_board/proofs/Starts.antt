-- A board at the start of its flight stands.
use Rattle.std.proofs.Common.{◌≡◌, ℕ, zero, suc, ◌≤◌, Bool, true, false, List, [], ◌∷◌, length, map, replicate, refl, sym, ap, ◌∙◌, subst, arith}
use Rattle.std.specs.Prelude.{slice_index_or}
use Rattle.std.proofs.lemmas.List.{length-map, length-replicate}
use Rattle.std.proofs.lemmas.Option.{get_or_from_slice_get}
use Rattle.sot_lists.specs.Places.{At}
use Rattle.sot_lists.proofs.Places.{at_below, at_map}
use Rattle.sot_lang.specs.declared.tables.NodeInfo.{NodeInfo}
use Rattle.sot_lang.specs.declared.tables.ModuleInfo.{ModuleInfo}
use Rattle.sot_lang.specs.Tables.{Tables}
use Rattle.sot_calendar.specs.Due.{IsDue}
use Rattle.sot_tube.specs.Admitted.{Admitted}
use Rattle.sot_world.specs.Configurations.{Configuration, IsOpening}
use Rattle.sot_world.specs.State.{IsKept}
use Rattle.sot_flight.specs.Plans.{Plan}
use Rattle.sot_flight.specs.Fits.{FitsFlight}
use Rattle.sot_flight.specs.Counts.{due_once, firing_count, decision_count}
use Rattle.sot_board.specs.Flown.{IsStart}
use Rattle.sot_board.specs.Room.{to_come}
use Rattle.sot_board.specs.Standing.{HasStanding}
use Rattle.sot_board.proofs.RoomLemmas.{once_due, counts, at_opening}

-- a list of zeros
abbrev pub zeros_of : ℕ → List ℕ
zeros_of n = replicate n 0

zeros_at : (k n : ℕ) → slice_index_or (zeros_of k) n 0 ≡ zero
zeros_at zero n = refl
zeros_at (suc k) zero = refl
zeros_at (suc k) (suc n) = zeros_at k n

zeros_map : {A : Type 0} (xs : List A) → zeros_of (length xs) ≡ map (λ x. let n : ℕ = 0 in n) xs
zeros_map [] = refl
zeros_map (x ∷ xs) = ap (λ l. 0 ∷ l) (zeros_map xs)

firings : (h : ℕ) (ns : List NodeInfo) → counts h (map (λ n. let r : ℕ × ℕ = (n.period, n.offset) in r) ns) ≡ firing_count h ns
firings h [] = refl
firings h (n ∷ ns) = (let rest = firings h ns in omega (arith, rest))

decisions : (h : ℕ) (ms : List ModuleInfo) → counts h (map (λ m. let r : ℕ × ℕ = (m.period, m.offset) in r) ms) ≡ decision_count h ms
decisions h [] = refl
decisions h (m ∷ ms) = (let rest = decisions h ms in omega (arith, rest))

-- what is left at an opening is due at 0
opening_come :
    {A : Type 0} (times : A → ℕ × ℕ) (xs : List A) (h t : ℕ) (left : List Bool) → t ≡ 0 → length left ≡ length xs
    → ((i : ℕ) (x : A) → At xs i x → slice_index_or left i false ≡ true → IsDue (times x).0 (times x).1 0)
    → to_come t h (map times xs) left ≤ counts h (map times xs)
opening_come times xs h t left now size each =
    subst (λ u. to_come u h (map times xs) left ≤ counts h (map times xs)) (sym now)
    (at_opening h (map times xs) left (size ∙ sym (length-map xs times)) (λ i lt on.
    let x = at_below xs i (omega (arith, lt, length-map xs times)) in
    let is = get_or_from_slice_get (map times xs) i (times x.0) (0, 0) (at_map times xs i x.0 x.1) in
    subst (λ z. due_once z.0 z.1 0 ≡ 1) (sym is) (once_due (times x.0).0 (times x.0).1 0 (each i x.0 x.1 on))))

pub starts : (p : Tables) (f : Plan) (C : Configuration) (fired : List ℕ) → IsOpening p f.start C → fired ≡ zeros_of (length p.nodes)
    → IsStart p f (record { at = C; inputs = f.inputs; fired = fired })
starts p f C fired opening zeros = record { opening = opening; inputs = refl; fired = zeros ∙ zeros_map p.nodes }

pub stands_at_start :
    (a : Admitted) (f : Plan) (guests : ℕ) (C : Configuration) (fired versions : List ℕ) → IsKept a C → FitsFlight a.program guests f
    → IsOpening a.program f.start C
    → fired ≡ zeros_of (length a.program.nodes) → versions ≡ zeros_of (length a.program.topics)
    → HasStanding (record { accepted = a; plan = f; entries = []; position = record { at = C; inputs = f.inputs; fired = fired } }) versions f.events f.numbers
stands_at_start a f guests C fired versions kept fits opening zeros zeros' =
    let p = a.program in
    let nodes = opening_come (λ n. let r : ℕ × ℕ = (n.period, n.offset) in r) p.nodes f.horizon C.time C.left opening.time opening.sizes.left
    (λ i x at on. (opening.left i x at).0 on) in
    let modules = opening_come (λ m. let r : ℕ × ℕ = (m.period, m.offset) in r) p.modules f.horizon C.time C.left_dm opening.time opening.sizes.left_dm
    (λ i x at on. (opening.left_dm i x at).0 on) in
    record {
      standing = record {
        guests = guests;
        fits = fits;
        kept = kept;
        flown = (record { at = C; inputs = f.inputs; fired = fired }, starts p f C fired opening zeros, refl);
        in_time = omega (arith, opening.time);
        ahead = λ i x at. omega (arith, opening.time);
        inputs = fits.inputs;
        ordered = fits.ordered;
        fired_each = ap length zeros ∙ length-replicate (length p.nodes) zero;
        fired = λ n lt. ap (λ l. slice_index_or l n 0) zeros ∙ zeros_at (length p.nodes) n;
      };
      each = ap length zeros' ∙ length-replicate (length p.topics) zero;
      versions_are = λ k lt. ap (λ l. slice_index_or l k 0) zeros' ∙ zeros_at (length p.topics) k;
      room = record {
        ticks = f.horizon;
        horizon_is = omega (arith, opening.time);
        events = omega (arith, nodes, modules, firings f.horizon p.nodes, decisions f.horizon p.modules, fits.events);
        all_numbers = omega (arith, fits.numbers);
      };
      events = omega arith;
    }
