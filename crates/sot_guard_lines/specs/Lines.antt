-- The lines of a decision module that stands beside its plants, each without its line end.
use Rattle.std.specs.Prelude.{ℕ, suc, ◌-◌, ◌%◌, ℤ, pos, List, [], ◌∷◌, ◌++◌, codes}
use Rattle.std.specs.Prelude.{Bool, ◌&&◌, nat_le, nat_eq, is_none, if◌then◌else◌}
use Rattle.std.specs.Prelude.{slice_get, slice_index_or}
use Rattle.std.specs.Option.{option_map_or}
use Rattle.sot_box.specs.Sides.{Side}
use Rattle.sot_lang.specs.declared.tables.PlantInfo.{PlantInfo}
use Rattle.sot_lang.specs.declared.tables.NodeInfo.{NodeInfo}
use Rattle.sot_lang.specs.Tables.{Tables}
use Rattle.sot_lang.specs.Names.{plant_name, module_name}
use Rattle.sot_trace.specs.Names.{scalar_name}
use Rattle.sot_trace.specs.Numbers.{numeral, signed_numeral}

-- ` SCALAR=V`
abbrev pub held_text : Tables → ℕ → ℤ → List ℕ
held_text p k z = codes " " ++ (scalar_name p k ++ (codes "=" ++ signed_numeral z))

-- each of these scalars, with the number that it has
abbrev pub all_held : Tables → List ℕ → List ℤ → List ℕ
all_held p [] scalars = []
all_held p (k ∷ ks) scalars =
    held_text p k (slice_index_or scalars k (pos 0)) ++ all_held p ks scalars

-- the scalars that a plant takes as its inputs, in order
abbrev pub inputs_of : Tables → ℕ → List ℕ
inputs_of p n = option_map_or (λ x. x.inputs.items) (slice_get p.plants n) []

-- `T hold PLANT SCALAR=V ..`: the commands that hold a plant
abbrev pub hold_line : Tables → ℕ → ℕ → List ℤ → List ℕ
hold_line p time plant scalars =
    numeral time ++ (codes " hold "
    ++ (plant_name p plant ++ all_held p (inputs_of p plant) scalars))

-- whether a node is due at a time: at its offset, and then once in each period
abbrev pub is_due : NodeInfo → ℕ → Bool
is_due n t = nat_le n.offset t && nat_eq ((t - n.offset) % n.period) 0

-- ` NODE`, where the node is external and due at a time
abbrev pub due_name : NodeInfo → ℕ → List ℕ
due_name n t = if is_none n.body && is_due n t then codes " " ++ n.name else []

-- each external node that is due at a time, in declared order
abbrev pub due_names : List NodeInfo → ℕ → List ℕ
due_names [] t = []
due_names (n ∷ ns) t = due_name n t ++ due_names ns t

-- `T begins NODE ..`: all plants were observed, and the talk begins. The external nodes are named
-- that are due now
abbrev pub begins_line : Tables → ℕ → List ℕ
begins_line p time = numeral time ++ (codes " begins" ++ due_names p.nodes time)

-- `T ready NODE ..`: the instant was gone through, and the tick may come. The external nodes are
-- named that are due after it
abbrev pub ready_line : Tables → ℕ → List ℕ
ready_line p time = numeral time ++ (codes " ready" ++ due_names p.nodes (suc time))

-- the name of a plant's state variable, and none where nothing stands there
abbrev pub state_of : PlantInfo → ℕ → List ℕ
state_of info state = option_map_or (λ s. s.name) (slice_get info.states.items state) []

abbrev pub state_name : Tables → ℕ → ℕ → List ℕ
state_name p plant state =
    option_map_or (λ x. state_of x state) (slice_get p.plants plant) []

-- `[LO..HI]`
abbrev pub ends_text : Side → List ℕ
ends_text r =
    codes "[" ++ (signed_numeral r.lo ++ (codes ".." ++ (signed_numeral r.hi ++ codes "]")))

-- ` [LO..HI] observed V`
abbrev pub observed_text : Side → ℤ → List ℕ
observed_text r z = codes " " ++ (ends_text r ++ (codes " observed " ++ signed_numeral z))

-- `T outside plant NAME state NAME [LO..HI] observed V`: a state variable is observed outside the
-- interval in which its plant's model allows it to be
abbrev pub outside_line : Tables → ℕ → ℕ → ℕ → Side → ℤ → List ℕ
outside_line p time plant state r z =
    numeral time ++ (codes " outside plant " ++ (plant_name p plant
    ++ (codes " state " ++ (state_name p plant state ++ observed_text r z))))

-- `T resumed`: the models are trusted again
abbrev pub resumed_line : ℕ → List ℕ
resumed_line time = numeral time ++ codes " resumed"

-- `T refused resume module NAME`: the models are not trusted again, since of this module the
-- commands in force do not hold the plant safe
abbrev pub refused_resume_line : Tables → ℕ → ℕ → List ℕ
refused_resume_line p time m =
    numeral time ++ (codes " refused resume module " ++ module_name p m)

-- `end T events E`
abbrev pub end_line : ℕ → ℕ → List ℕ
end_line time events = codes "end " ++ (numeral time ++ (codes " events " ++ numeral events))
