-- A verdict is acceptance exactly where a program is well certified.
use Rattle.std.proofs.Common.{ℕ, ◌<◌}
use Rattle.sot_lang.specs.declared.cert.Cert.{Cert}
use Rattle.sot_lang.specs.declared.tables.NodeInfo.{NodeInfo}
use Rattle.sot_lang.specs.declared.tables.ModuleInfo.{ModuleInfo}
use Rattle.sot_lang.specs.Tables.{Tables}
use Rattle.sot_lang.specs.TableRules.{IsTyped}
use Rattle.sot_lists.specs.Places.{At}
use Rattle.sot_tube.specs.Certified.{IsWellCertified}
use Rattle.sot_tube.specs.Verdict.{verdict}

module _ (p : Tables) (j : ℕ) (cert : Cert) where
  pub certified_passes : IsWellCertified p j cert → (verdict p j cert).Passes
  certified_passes c = (
    (c.own_node, (c.own_output, (c.own_plant, c.own_inputs))),
    (
      (λ m a at. (c.entries m a at, (c.periods m a at, (c.outputs m a at, c.boxes m a at)))),
      (
        (λ n node at acts coded. c.trap_free n node acts at coded),
        (λ m a at plant at_p sc at_s acts coded cells has. (
          c.closed_cover m a cells at has,
          (
            (λ i cell at_i. c.closed_cells m a plant sc acts cells i cell at at_p at_s coded has at_i),
            (
              c.reach_cover m a cells at has,
              (λ i cell at_i. c.reach_cells m a plant cells i cell at at_p has at_i),
            ),
          ),
        )),
      ),
    ),
  )

  pub passes_certified : IsTyped p → ((n : ℕ) (node : NodeInfo) → At p.nodes n node → j < node.period)
      → ((m : ℕ) (a : ModuleInfo) → At p.modules m a → j < a.period) → (verdict p j cert).Passes → IsWellCertified p j cert
  passes_certified typed nodes modules v = record {
    node_jitter = nodes;
    module_jitter = modules;
    own_node = v.0.0;
    own_output = v.0.1.0;
    own_plant = v.0.1.1.0;
    own_inputs = v.0.1.1.1;
    entries = λ m a at. (v.1.0 m a at).0;
    periods = λ m a at. (v.1.0 m a at).1.0;
    outputs = λ m a at. (v.1.0 m a at).1.1.0;
    boxes = λ m a at. (v.1.0 m a at).1.1.1;
    trap_free = λ n node acts at coded. v.1.1.0 n node at acts coded;
    closed_cover = λ m a cells at has.
        let plant = typed.plant_is m a at in
        let sc = typed.sc_is m a at in
        (v.1.1.1 m a at plant.0 plant.1 sc.0 sc.2 sc.1 sc.3 cells has).0;
    closed_cells = λ m a plant sc acts cells i cell at at_p at_s coded has at_i. (v.1.1.1 m a at plant at_p sc at_s acts coded cells has).1.0 i cell at_i;
    reach_cover = λ m a cells at has.
        let plant = typed.plant_is m a at in
        let sc = typed.sc_is m a at in
        (v.1.1.1 m a at plant.0 plant.1 sc.0 sc.2 sc.1 sc.3 cells has).1.1.0;
    reach_cells = λ m a plant cells i cell at at_p has at_i.
        let sc = typed.sc_is m a at in
        (v.1.1.1 m a at plant at_p sc.0 sc.2 sc.1 sc.3 cells has).1.1.1 i cell at_i;
  }
