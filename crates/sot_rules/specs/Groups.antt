-- The faults of a declaration in groups, each in the order of its list of faults.
use Rattle.std.specs.Prelude.{List, [], ◌∷◌, ◌++◌, not, map, flat_map}
use Rattle.sot_syntax_tree.specs.declared.tree.Ident.{Ident}
use Rattle.sot_syntax_tree.specs.declared.tree.StateDecl.{StateDecl}
use Rattle.sot_syntax_tree.specs.Trees.{Form, Topic, Plant, Node, Module, Program}
use Rattle.sot_rules.specs.declared.fault.TypeFault.{TypeFault}
use Rattle.sot_rules.specs.declared.fault.TypeKind.TheVariants.{Unknown, Twice, KindDiffers}
use Rattle.sot_rules.specs.Names.{meaning, is_node, is_external}
use Rattle.sot_rules.specs.Lists.{are_same, places}
use Rattle.sot_rules.specs.Tests.{form_names, start_place, counts_differ, starts, topic_size}
use Rattle.sot_rules.specs.Tests.{read_size, noise_names, local_names}
use Rattle.sot_rules.specs.Faults.{when, together, repeats, past, passes, start_faults}
use Rattle.sot_rules.specs.Faults.{scale_faults, input_faults, seen_lists, noise_lists, read_faults}
use Rattle.sot_rules.specs.Faults.{write_lists, local_lists}

-- of a topic: the names of its fields, and its initial value
abbrev pub names_faults : Form → List TypeFault
names_faults f = repeats [] (form_names f) ++ past 8 (places (form_names f))

abbrev pub starts_faults : Topic → List TypeFault
starts_faults t =
    when (counts_differ t) (start_place t.init) KindDiffers
    ++ flat_map (λ x. start_faults x.0 x.1) (starts t)

-- of a plant: its state variables, its inputs, the plants that it sees, and its disturbances
abbrev pub states_faults : List StateDecl → List TypeFault
states_faults states =
    repeats [] (map (λ s. s.name) states)
    ++ (past 4 (places (map (λ s. s.name) states)) ++ flat_map (λ s. scale_faults s.scale) states)

abbrev pub inputs_faults : Program → Plant → List TypeFault
inputs_faults p q =
    flat_map (input_faults p q) q.inputs
    ++ (repeats [] q.inputs ++ passes (λ i. topic_size (meaning p i)) 8 0 q.inputs)

abbrev pub sees_faults : Program → Plant → List TypeFault
sees_faults p q =
    flat_map (λ i. together (seen_lists p q i)) q.sees
    ++ (repeats [] q.sees ++ past 16 (places q.sees))

-- of some of the inputs of a plant
abbrev pub some_inputs_faults : Program → Plant → List Ident → List TypeFault
some_inputs_faults p q names =
    flat_map (input_faults p q) names
    ++ (repeats [] names ++ passes (λ i. topic_size (meaning p i)) 8 0 names)

abbrev pub disturbances_faults : Plant → List TypeFault
disturbances_faults q =
    flat_map (λ f. together (noise_lists q f)) q.noise
    ++ (repeats [] (noise_names q) ++ past 4 (places (noise_names q)))

-- of a node: what it reads, what it writes, and its locals
abbrev pub reads_faults : Program → List Ident → List TypeFault
reads_faults p names =
    flat_map (read_faults p) names
    ++ (repeats [] names ++ passes (λ i. read_size (meaning p i)) 64 0 names)

abbrev pub writes_faults : Program → Node → List TypeFault
writes_faults p n =
    flat_map (λ i. together (write_lists p n i)) n.writes
    ++ (repeats [] n.writes ++ passes (λ i. topic_size (meaning p i)) 8 0 n.writes)

-- of some of the names that a node writes
abbrev pub some_writes_faults : Program → Node → List Ident → List TypeFault
some_writes_faults p n names =
    flat_map (λ i. together (write_lists p n i)) names
    ++ (repeats [] names ++ passes (λ i. topic_size (meaning p i)) 8 0 names)

abbrev pub locals_faults : Node → List TypeFault
locals_faults n =
    flat_map (λ l. together (local_lists n l)) n.locals
    ++ (repeats [] (local_names n) ++ past 16 (places (local_names n)))

-- of a module: its two nodes
abbrev pub nodes_faults : Program → Module → List TypeFault
nodes_faults p m = together (
    when (not (is_node (meaning p m.ac))) m.ac.at Unknown
    ∷ when (not (is_node (meaning p m.sc))) m.sc.at Unknown
    ∷ when (is_external (meaning p m.sc)) m.sc.at KindDiffers
    ∷ when (are_same m.ac m.sc) m.sc.at Twice
    ∷ []
    )
