-- The nodes of what was told.
use Rattle.std.proofs.Common.{◌≡◌, ℕ, zero, suc, ◌<◌, ◌≤◌, List, [], ◌∷◌, ◌++◌, length, arith}
use Rattle.sot_lists.specs.Places.{At}
use Rattle.sot_lang.specs.Tables.{Tables}
use Rattle.sot_world.specs.declared.outcome.Firing.{Firing}
use Rattle.sot_guard.specs.declared.told.Told.{Told}
use Rattle.sot_guard.specs.declared.told.Told.TheVariants.{Decided, Fired}
use Rattle.sot_guard.specs.Instants.{DecideInOrder, FireInOrder, AreInOrder}
use Rattle.sot_guard_protocol.specs.Answers.{AreThere}

-- one of them alone
pub there_at : (p : Tables) (told : List Told) (i : ℕ) (one : Told) → AreThere p told → At told i one → AreThere p (one ∷ [])
there_at p told i one there at zero n firing is = there i n firing cc
there_at p told i one there at (suc j) n firing is = absurd cc

-- firings in order end where they are to end
fires_below : (from end : ℕ) (es : List Told) → FireInOrder from end es → from ≤ end
fires_below from end [] order = order
fires_below from end (Decided m mode ∷ es) order = absurd order
fires_below from end (Fired n firing ∷ es) order = (let rest = fires_below (suc n) end es order.1 in let first = order.0 in omega (arith, rest, first))

fired_below : (from end : ℕ) (es : List Told) → FireInOrder from end es → (i n : ℕ) (firing : Firing) → At es i (Fired n firing) → n < end
fired_below from end [] order i n firing at = absurd cc
fired_below from end (Decided m mode ∷ es) order i n firing at = absurd order
fired_below from end (Fired k other ∷ es) order zero n firing at =
    let rest = fires_below (suc k) end es order.1 in
    let same : k ≡ n = cc in
    omega (arith, rest, same)
fired_below from end (Fired k other ∷ es) order (suc i) n firing at = fired_below (suc k) end es order.1 i n firing at

none_decided : (from end : ℕ) (es fs : List Told) → DecideInOrder from end es → (last : ℕ)
    → ((i n : ℕ) (firing : Firing) → At fs i (Fired n firing) → n < last)
    → (i n : ℕ) (firing : Firing) → At (es ++ fs) i (Fired n firing) → n < last
none_decided from end [] fs order last later i n firing at = later i n firing at
none_decided from end (Decided m mode ∷ es) fs order last later zero n firing at = absurd cc
none_decided from end (Decided m mode ∷ es) fs order last later (suc i) n firing at = none_decided (suc m) end es fs order.1 last later i n firing at
none_decided from end (Fired k other ∷ es) fs order last later i n firing at = absurd order

-- each node that fired is there
pub told_there : (p : Tables) (told : List Told) → AreInOrder p told → AreThere p told
told_there p told order i n firing at =
    none_decided 0 (length p.modules) order.decisions order.firings order.decide (length p.nodes)
    (λ j m other is. fired_below 0 (length p.nodes) order.firings order.fire j m other is) i n firing
    (let same = order.told_are in cc)
