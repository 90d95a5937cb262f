-- Of `note_all_repeats`: its promises.
use Rattle.std.proofs.Common.{◌≡◌, map, subst, ap}
use Rattle.std.specs.Prelude.{OnOk}
use Rattle.sot_rules.specs.Faults.{least, repeats}
use Rattle.sot_names.specs.SeenNames.{seen_names}
use Rattle.sot_rules.proofs.names.repeats.note_all_repeats.Goals as goal

pub returns : goal.returns
returns g c =
    subst (λ z. OnOk c.note_seen-noted.result (c.note_seen-noted.new.first ≡ least c.args.first.now (repeats z (map g.T.Named.ident c.args.items.now))))
    (ap seen_names c.no_name-seen.ensures.empty) c.note_seen-noted.ensures.noted
