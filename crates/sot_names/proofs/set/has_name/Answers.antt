-- Of `has_name`: its promises.
use Rattle.std.proofs.Common.{◌∙◌, ap}
use Rattle.std.specs.List.{list_any}
use Rattle.std.specs.Str.{bytes_eq}
use Rattle.sot_names.specs.SeenNames.{seen_names}
use Rattle.sot_names.specs.NameSets.{keys_in}
use Rattle.sot_names.proofs.SeenNames.{any_seen}
use Rattle.sot_names.proofs.set.has_name.Goals as goal

pub returns : goal.returns
returns c =
    c.contains.ensures
    ∙ any_seen c.as_bytes.result.now (keys_in c.args.set.now)
    ∙ ap (λ n. list_any (bytes_eq n) (seen_names (keys_in c.args.set.now))) c.as_bytes.ensures
