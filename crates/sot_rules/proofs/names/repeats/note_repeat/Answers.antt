-- Of `note_repeat`: its promises.
use Rattle.std.proofs.Common.{◌∙◌, ℕ, List, Bool, Bor, ap}
use Rattle.std.specs.List.{list_any}
use Rattle.std.specs.Str.{bytes_eq}
use Rattle.sot_rules.specs.declared.fault.TypeKind.TheVariants.{Twice}
use Rattle.sot_rules.specs.Faults.{least, when}
use Rattle.sot_names.specs.SeenNames.{seen_names}
use Rattle.sot_names.specs.NameSets.{keys_in}
use Rattle.sot_names.proofs.SeenNames.{any_seen, seen_insert}
use Rattle.sot_rules.proofs.Repeats.{noted_by}
use Rattle.sot_rules.proofs.names.repeats.note_repeat.Goals as goal

pub returns-clause-noted : goal.returns-clause-noted
returns-clause-noted c =
    let keys = (keys_in c.args.seen.now) in
    let found : Bool = list_any (λ (k : Bor (List ℕ)). bytes_eq c.as_bytes.result.now k.now) keys in
    noted_by _ found c.args.first.now _ c.args.name.now (cc (c.in_ok-added.ensures.added)) c.note.ensures
    ∙ ap (λ b. least c.args.first.now (when b c.args.name.now.at Twice))
    (any_seen c.as_bytes.result.now keys ∙ ap (λ n. list_any (bytes_eq n) (seen_names keys)) c.as_bytes.ensures)

pub returns-clause-seen : goal.returns-clause-seen
returns-clause-seen c =
    ap seen_names c.in_ok-added.ensures.keys ∙ seen_insert (keys_in c.args.seen.now) c.as_bytes.result c.args.name.now c.as_bytes.ensures
