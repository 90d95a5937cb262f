-- The loop of `note_past_kind`: what is noted, and then what is left.
use Rattle.std.proofs.Common.{◌≡◌, map, drop}
use Rattle.std.specs.Prelude.{filter_map}
use Rattle.sot_syntax_tree.specs.TreeViews.{declaration_view}
use Rattle.sot_rules.specs.Lists.{places}
use Rattle.sot_rules.specs.Faults.{least, past}
use Rattle.sot_rules.specs.Kinds.{name_of}
use Rattle.sot_rules.proofs.declarations.kind.note_past_kind.Given as goal

abbrev pub invariant-loop-d : goal.invariant-loop-d
invariant-loop-d l =
    least l.first (past l.left (places (filter_map (name_of l.kind) (map declaration_view (drop l.d-index l.decls)))))
    ≡ least l.fn.first (past l.limit (places (filter_map (name_of l.kind) (map declaration_view l.decls))))
