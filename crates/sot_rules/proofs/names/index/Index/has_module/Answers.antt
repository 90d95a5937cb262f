-- Of `has_module`: its promises.
use Rattle.std.proofs.Common.{◌∙◌, ap}
use Rattle.std.specs.List.{list_any}
use Rattle.std.specs.Str.{bytes_eq}
use Rattle.sot_rules.proofs.names.index.Index.has_module.Goals as goal

pub returns : goal.returns
returns c =
    c.contains.ensures
    ∙ ap (λ n. list_any (λ k. bytes_eq n k.now) c.args.self.now.owned.keys) c.as_bytes.ensures
    ∙ c.requires.owned c.args.name.now
