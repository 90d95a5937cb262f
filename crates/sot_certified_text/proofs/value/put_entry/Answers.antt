use Rattle.std.proofs.Common.{ap, sym, ◌∙◌}
use Rattle.serde_json.specs.Data.{put}
use Rattle.serde_json.specs.View.{view, members_view}
use Rattle.serde_json.proofs.Views.{members_view-insert_entry}
use Rattle.sot_certified_text.specs.CertText.{put_data}
use Rattle.sot_certified_text.proofs.value.put_entry.Goals as goal

pub returns-in_ok-insert : goal.returns-in_ok-insert
returns-in_ok-insert c =
    ap members_view c.in_ok-insert.ensures.entries ∙ members_view-insert_entry c.args.map.now.entries c.in_ok-from_str.field-0 c.in_ok-value.value
    ∙ ap (λ k. put k (view c.in_ok-value.value) (members_view c.args.map.now.entries)) c.in_ok-from_str.ensures.ok
    ∙ ap (λ d. put c.args.name.now d (members_view c.args.map.now.entries)) c.in_ok-value.ensures
    ∙ sym (ap (λ e. put_data c.args.name.now e (members_view c.args.map.now.entries)) c.in-Some.is)
