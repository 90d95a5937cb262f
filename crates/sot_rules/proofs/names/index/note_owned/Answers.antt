-- Of `note_owned`: its promises.
use Rattle.std.proofs.Common.{◌∙◌, ◌||◌, ap, sym}
use Rattle.std.specs.Str.{bytes_eq}
use Rattle.sot_syntax_tree.specs.TreeViews.{declaration_view}
use Rattle.sot_rules.specs.Tests.{is_plant_of}
use Rattle.sot_rules.specs.Indexes.{is_key}
use Rattle.sot_rules.proofs.NameTables.{keys_more}
use Rattle.sot_rules.proofs.names.index.note_owned.Goals as goal

pub returns-in_ok-insert_full-in-Module : goal.returns-in_ok-insert_full-in-Module
returns-in_ok-insert_full-in-Module c i =
    let keys = c.args.owned.now.keys in
    ap (λ ks. is_key ks i) c.in_ok-insert_full-in-Module.ensures.keys
    ∙ keys_more keys c.as_bytes.result i
    ∙ ap (λ n. is_key keys i || bytes_eq n i.name) c.as_bytes.ensures
    ∙ ap (λ m. is_key keys i || bytes_eq m.plant.name i.name) c.content.ensures
    ∙ sym (ap (λ d. is_key keys i || is_plant_of i (declaration_view d)) c.in-Module.is)
