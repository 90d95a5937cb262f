use Rattle.sot_certified_text.proofs.JsonEnds.{json_ends}
use Rattle.sot_certified_text.proofs.laws.line_ends_change_no_json.Goals as goal

pub returns : goal.returns
returns c = json_ends
