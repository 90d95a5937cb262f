-- How often something is due, and what sums of such counts come to.
use Rattle.std.proofs.Common.{◌≡◌, ℕ, zero, suc, ◌+◌, ◌-◌, ◌*◌, ◌%◌, ◌≤◌, ⊎_elim, Bool, true, false, ◌&&◌, List, [], ◌∷◌, length, map, drop, refl, ap, arith}
use Rattle.std.specs.Prelude.{nat_le, ◌==◌}
use Rattle.std.proofs.lemmas.Bool.{leb-true, le-leb, eqb-true, eq-eqb}
use Rattle.std.proofs.Math.Nat.{mul-le-mul_left}
use Rattle.sot_lists.specs.Places.{At}
use Rattle.sot_lists.proofs.Places.{drop_at}
use Rattle.sot_calendar.specs.Due.{IsDue, Counts, IsDueCount}
use Rattle.sot_lang.specs.declared.tables.PlantInfo.{PlantInfo}
use Rattle.sot_lang.specs.declared.tables.NodeInfo.{NodeInfo}
use Rattle.sot_lang.specs.declared.tables.ModuleInfo.{ModuleInfo}
use Rattle.sot_flight.specs.declared.input.Input.{Input}
use Rattle.sot_flight.specs.Counts.{due_once, due_count, firing_count, decision_count, tick_numbers, draft_numbers, input_numbers}
use Rattle.sot_flight.specs.FlightView.{input_of}

once_due : (period offset t : ℕ) → IsDue period offset t → due_once period offset t ≡ 1
once_due period offset t due =
    let late = le-leb offset t due.0 in
    let even = eq-eqb ((t - offset) % period) 0 due.1 in
    rw (late, even) refl

once_not : (period offset t : ℕ) → (IsDue period offset t → ⊥) → due_once period offset t ≡ 0
once_not period offset t never = go (nat_le offset t) ((t - offset) % period == 0) refl refl
  where
    go : (a b : Bool) → nat_le offset t ≡ a → ((t - offset) % period == 0) ≡ b → due_once period offset t ≡ 0
    go true true late even = absurd (never (leb-true offset t late, eqb-true ((t - offset) % period) 0 even))
    go true false late even = rw (late, even) refl
    go false b late even = rw late refl

counts_once : (period offset t m n : ℕ) → Counts period offset t m n → n ≡ m + due_once period offset t
counts_once period offset t m n c =
    ⊎_elim
    (λ yes'. omega (arith, yes'.1, once_due period offset t yes'.0))
    (λ no'. omega (arith, no'.1, once_not period offset t no'.0))
    c

-- the calendar's count is the sum over the times
pub due_count_is : (period offset h n : ℕ) → IsDueCount period offset h n → n ≡ due_count period offset h
due_count_is period offset zero n is = omega (arith, counts_once period offset zero zero n is)
due_count_is period offset (suc h) n is =
    let before = due_count_is period offset h is.0 is.1 in
    omega (arith, before, counts_once period offset (suc h) is.0 n is.2)

once_small : (period offset t : ℕ) → due_once period offset t ≤ 1
once_small period offset t = go (nat_le offset t && ((t - offset) % period == 0)) refl
  where
    go : (a : Bool) → (nat_le offset t && ((t - offset) % period == 0)) ≡ a → due_once period offset t ≤ 1
    go true is = rw is (omega arith)
    go false is = rw is (omega arith)

-- at most once at each time
pub due_small : (period offset h : ℕ) → due_count period offset h ≤ suc h
due_small period offset zero = omega (arith, once_small period offset zero)
due_small period offset (suc h) = omega (arith, due_small period offset h, once_small period offset (suc h))

pub firings_small : (h : ℕ) (nodes : List NodeInfo) → h ≤ 100000 → firing_count h nodes ≤ 100001 * length nodes
firings_small h [] le = omega arith
firings_small h (n ∷ ns) le = omega (arith, firings_small h ns le, due_small n.period n.offset h)

pub decisions_small : (h : ℕ) (infos : List ModuleInfo) → h ≤ 100000 → decision_count h infos ≤ 100001 * length infos
decisions_small h [] le = omega arith
decisions_small h (m ∷ ms) le = omega (arith, decisions_small h ms le, due_small m.period m.offset h)

pub firings_more : (h : ℕ) (nodes : List NodeInfo) (i : ℕ) (node : NodeInfo) → At nodes i node
    → firing_count h (drop i nodes) ≡ due_count node.period node.offset h + firing_count h (drop (i + 1) nodes)
firings_more h nodes i node at = ap (firing_count h) (drop_at nodes i node at)

pub decisions_more : (h : ℕ) (infos : List ModuleInfo) (i : ℕ) (info : ModuleInfo) → At infos i info
    → decision_count h (drop i infos) ≡ due_count info.period info.offset h + decision_count h (drop (i + 1) infos)
decisions_more h infos i info at = ap (decision_count h) (drop_at infos i info at)

pub ticks_small : (plants : List PlantInfo) → ((k : ℕ) (plant : PlantInfo) → At plants k plant
    → (length plant.noise.items ≤ 4) × (length plant.states.items ≤ 4)) → tick_numbers plants ≤ 8 * length plants
ticks_small [] few = omega arith
ticks_small (k ∷ ks) few = (let here = few 0 k refl in omega (arith, here.0, here.1, ticks_small ks (λ i x at. few (suc i) x at)))

pub ticks_more : (plants : List PlantInfo) (i : ℕ) (plant : PlantInfo) → At plants i plant
    → tick_numbers (drop i plants) ≡ length plant.noise.items + length plant.states.items + tick_numbers (drop (i + 1) plants)
ticks_more plants i plant at = ap tick_numbers (drop_at plants i plant at)

pub drafts_small : (h : ℕ) (nodes : List NodeInfo) → h ≤ 100000 → ((n : ℕ) (node : NodeInfo) → At nodes n node → length node.writes.items ≤ 8)
    → draft_numbers h nodes ≤ 800008 * length nodes
drafts_small h [] le few = omega arith
drafts_small h (n ∷ ns) le few =
    let here = few 0 n refl in
    let one = mul-le-mul_left (due_count n.period n.offset h) here in
    omega (arith, one, drafts_small h ns le (λ i x at. few (suc i) x at), due_small n.period n.offset h)

pub drafts_more : (h : ℕ) (nodes : List NodeInfo) (i : ℕ) (node : NodeInfo) → At nodes i node
    → draft_numbers h (drop i nodes) ≡ due_count node.period node.offset h * length node.writes.items + draft_numbers h (drop (i + 1) nodes)
drafts_more h nodes i node at = ap (draft_numbers h) (drop_at nodes i node at)

pub values_more : (inputs : List Input) (i : ℕ) (input : Input) → At inputs i input
    → input_numbers (map input_of (drop i inputs)) ≡ length input.value.items + input_numbers (map input_of (drop (i + 1) inputs))
values_more inputs i input at = ap (λ l. input_numbers (map input_of l)) (drop_at inputs i input at)
