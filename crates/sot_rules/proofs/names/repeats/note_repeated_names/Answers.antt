-- Of `note_repeated_names`: its promises.
use Rattle.std.proofs.Common.{◌≡◌, [], subst}
use Rattle.std.specs.Prelude.{OnOk}
use Rattle.std.proofs.lemmas.List.{map-id}
use Rattle.sot_rules.specs.Faults.{least, repeats}
use Rattle.sot_rules.proofs.names.repeats.note_repeated_names.Goals as goal

pub returns : goal.returns
returns c =
    subst (λ z. OnOk c.note_repeats.result (c.note_repeats.new.first ≡ least c.args.first.now (repeats [] z))) (map-id c.args.names.now) c.note_repeats.ensures
