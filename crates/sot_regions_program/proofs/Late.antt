-- Whether a jitter is below all periods, looked at one after another.
use Rattle.std.proofs.Common.{ℕ, ◌<◌, ◌≤◌, length, Bool, true, false, refl, inl, inr, arith}
use Rattle.std.specs.Prelude.{◌↔◌, ◌||◌, IsTrue}
use Rattle.std.proofs.lemmas.Option.{slice_get_within}
use Rattle.sot_lists.specs.Places.{At}
use Rattle.sot_lang.specs.declared.tables.NodeInfo.{NodeInfo}
use Rattle.sot_lang.specs.declared.tables.ModuleInfo.{ModuleInfo}
use Rattle.sot_lang.specs.Tables.{Tables}
use Rattle.sot_tube.specs.Checks.{Check}
use Rattle.sot_rta.specs.Refused.{PassBefore}
use Rattle.sot_regions_program.specs.AsAsked.{IsNodeLate, IsModuleLate, IsLate}

abbrev pub node_in_time : ℕ → ℕ → NodeInfo → Check
node_in_time jitter n x = record { Passes = jitter < x.period; Refuses = λ r. ⊥ }

abbrev pub module_in_time : ℕ → ℕ → ModuleInfo → Check
module_in_time jitter m a = record { Passes = jitter < a.period; Refuses = λ r. ⊥ }

pub node_late : (t : Tables) (jitter n : ℕ) (x : NodeInfo) → At t.nodes n x → x.period ≤ jitter → IsTrue true ↔ IsNodeLate t jitter
node_late t jitter n x at le = (λ e. (n, x, at, le), λ late. refl)

pub no_node_late : (t : Tables) (jitter k : ℕ) → length t.nodes ≤ k → PassBefore t.nodes (node_in_time jitter) k → IsTrue false ↔ IsNodeLate t jitter
no_node_late t jitter k all before = (
  λ e. absurd cc,
  λ late.
      let there = slice_get_within t.nodes late.0 late.1 late.2 in
      let less : jitter < late.1.period = before late.0 late.1 (omega (arith, all, there)) late.2 in
      let le = late.3 in
      absurd (omega (arith, less, le)),
)

pub module_late : (t : Tables) (jitter m : ℕ) (a : ModuleInfo) → At t.modules m a → a.period ≤ jitter → IsTrue true ↔ IsModuleLate t jitter
module_late t jitter m a at le = (λ e. (m, a, at, le), λ late. refl)

pub no_module_late : (t : Tables) (jitter k : ℕ) → length t.modules ≤ k → PassBefore t.modules (module_in_time jitter) k
    → IsTrue false ↔ IsModuleLate t jitter
no_module_late t jitter k all before = (
  λ e. absurd cc,
  λ late.
      let there = slice_get_within t.modules late.0 late.1 late.2 in
      let less : jitter < late.1.period = before late.0 late.1 (omega (arith, all, there)) late.2 in
      let le = late.3 in
      absurd (omega (arith, less, le)),
)

pub either_late : (t : Tables) (jitter : ℕ) (node other : Bool) → IsTrue node ↔ IsNodeLate t jitter → IsTrue other ↔ IsModuleLate t jitter
    → IsTrue (node || other) ↔ IsLate t jitter
either_late t jitter true other one two = (λ e. inl (one.0 refl), λ late. refl)
either_late t jitter false true one two = (λ e. inr (two.0 refl), λ late. refl)
either_late t jitter false false one two = (λ e. absurd cc, elim [ inl late ↦ one.1 late | inr late ↦ two.1 late ])
