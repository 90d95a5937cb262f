-- The lists that are made certify the program.
use Rattle.std.proofs.Common.{◌≡◌, ℕ, ◌<◌, false, true, length, subst, arith}
use Rattle.std.proofs.lemmas.Option.{slice_get_within}
use Rattle.sot_lists.specs.Places.{At}
use Rattle.sot_lang.specs.declared.cert.Cells.{Cells}
use Rattle.sot_lang.specs.declared.cert.Cert.{Cert}
use Rattle.sot_lang.specs.declared.tables.NodeInfo.{NodeInfo}
use Rattle.sot_lang.specs.declared.tables.ModuleInfo.{ModuleInfo}
use Rattle.sot_lang.specs.Tables.{Tables}
use Rattle.sot_lang.specs.TableRules.{MeetsTableRules}
use Rattle.sot_lang.specs.CertRules.{FitsTables}
use Rattle.sot_tube.specs.Certified.{IsWellCertified, HasCells}
use Rattle.sot_tube.proofs.VerdictExact.{cells_same}
use Rattle.sot_certify.proofs.Covering.{whole_each}
use Rattle.sot_certify.specs.Conditions.{without_cells}
use Rattle.sot_certify.specs.Made.{IsGood, IsMade}
use Rattle.sot_certify.specs.Certifying.{IsMadeFor}
use Rattle.sot_certify.specs.Steps.{AreEntriesTo, AreListsOf}

module _ (p : Tables) (cert : Cert) (rules : MeetsTableRules p) where
  late_node : cert.jitter ≡ 0 → (n : ℕ) (node : NodeInfo) → At p.nodes n node → cert.jitter < node.period
  late_node none n node at = (let t = rules.typed.node_times n node at in omega (arith, none, t))

  late_module : cert.jitter ≡ 0 → (m : ℕ) (a : ModuleInfo) → At p.modules m a → cert.jitter < a.period
  late_module none m a at = (let t = rules.typed.module_times m a at in omega (arith, none, t))

  module _ (none : cert.jitter ≡ 0) (entries : AreEntriesTo p cert.modules.items (length p.modules)) where
    lists : (m : ℕ) (a : ModuleInfo) (cells : Cells) → At p.modules m a → HasCells cert m cells → AreListsOf p a cells
    lists m a cells at has =
        let e = entries.each m a (slice_get_within p.modules m a at) at in
        subst (AreListsOf p a) (cells_same cert m e.0 cells e.1 has) e.2

    pub fits : FitsTables p cert
    fits = record {
      entries = entries.count;
      closed = λ m a cells at has. (lists m a cells at has).closed;
      reach = λ m a cells at has. (lists m a cells at has).reach;
      node_jitter = late_node none;
      module_jitter = late_module none;
    }

    pub made : IsMadeFor p cert
    made = record {
      jitter = none;
      entries = entries.count;
      cells = λ m a at. (let e = entries.each m a (slice_get_within p.modules m a at) at in (e.0, e.1, e.2.made));
    }

  pub well_certified : (without_cells p).Passes → IsMadeFor p cert → IsWellCertified p 0 cert
  well_certified passes is = record {
    node_jitter = λ n node at. (let t = rules.typed.node_times n node at in omega (arith, t));
    module_jitter = λ m a at. (let t = rules.typed.module_times m a at in omega (arith, t));
    own_node = passes.0.0;
    own_output = passes.0.1.0;
    own_plant = passes.0.1.1.0;
    own_inputs = passes.0.1.1.1;
    entries = λ m a at. (let e = is.cells m a at in (e.0, e.1));
    periods = λ m a at. (passes.1.0 m a at).0.0;
    outputs = λ m a at. (passes.1.0 m a at).0.1;
    boxes = λ m a at. (passes.1.0 m a at).1;
    trap_free = λ n node acts at coded. passes.1.1 n node at acts coded;
    closed_cover = λ m a cells at has. (whole_each (IsGood p a false) a.safe.boxes cells.closed.boxes (closed m a cells at has).whole).holds;
    closed_cells =
        λ m a plant sc acts cells i cell at at_p at_s coded has at_i.
        (whole_each (IsGood p a false) a.safe.boxes cells.closed.boxes (closed m a cells at has).whole).good i cell at_i plant sc acts at_p at_s coded;
    reach_cover = λ m a cells at has. (whole_each (IsGood p a true) a.safer.boxes cells.reach.boxes (reach m a cells at has).whole).holds;
    reach_cells =
        λ m a plant cells i cell at at_p has at_i. (whole_each (IsGood p a true) a.safer.boxes cells.reach.boxes (reach m a cells at has).whole).good i cell
        at_i plant at_p;
  }
    where
      closed : (m : ℕ) (a : ModuleInfo) (cells : Cells) → At p.modules m a → HasCells cert m cells → IsMade p a false cells.closed.boxes
      closed m a cells at has = (let e = is.cells m a at in subst (λ c. IsMade p a false c.closed.boxes) (cells_same cert m e.0 cells e.1 has) e.2.closed)

      reach : (m : ℕ) (a : ModuleInfo) (cells : Cells) → At p.modules m a → HasCells cert m cells → IsMade p a true cells.reach.boxes
      reach m a cells at has = (let e = is.cells m a at in subst (λ c. IsMade p a true c.reach.boxes) (cells_same cert m e.0 cells e.1 has) e.2.reach)
