-- A node's evaluation, as it is handed out.
use Rattle.std.proofs.Common.{ℕ, List, [], ◌∷◌, zero, suc, take, drop}
use Rattle.sot_box.specs.Sides.{Side, AreOrdered}
use Rattle.sot_lists.specs.Places.{At}
use Rattle.sot_lang.specs.declared.tables.NodeInfo.{NodeInfo}
use Rattle.sot_lang.specs.Tables.{Tables}
use Rattle.sot_lang.specs.TableRules.{MeetsTableRules}
use Rattle.sot_iv.specs.Firings.{IsRunnable}

-- a node of tables that meet their rules can run
pub runnable : (p : Tables) (n : ℕ) (node : NodeInfo) → MeetsTableRules p → At p.nodes n node → IsRunnable p node
runnable p n node rules at =
    record { few_locals = (rules.nodes n node at).locals; few = (rules.nodes n node at).writes; written = λ i k h. rules.typed.inside n node k at (i, h) }

-- the first and the last of some intervals in order
pub front_ordered : (rs : List Side) (n : ℕ) → AreOrdered rs → AreOrdered (take n rs)
front_ordered [] zero o = tt
front_ordered [] (suc n) o = tt
front_ordered (r ∷ rs) zero o = tt
front_ordered (r ∷ rs) (suc n) o = (o.0, front_ordered rs n o.1)

pub back_ordered : (rs : List Side) (n : ℕ) → AreOrdered rs → AreOrdered (drop n rs)
back_ordered [] zero o = tt
back_ordered [] (suc n) o = tt
back_ordered (r ∷ rs) zero o = o
back_ordered (r ∷ rs) (suc n) o = back_ordered rs n o.1
