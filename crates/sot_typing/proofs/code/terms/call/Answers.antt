-- Of `call`: its promises.
use Rattle.std.proofs.Common.{refl}
use Rattle.sot_typing.proofs.Rows.{call_view}
use Rattle.sot_typing.proofs.code.terms.call.Goals as goal

pub returns : goal.returns
returns c = record { form = call_view c.args.func c.args.parts.terms c.args.at; sort = refl; decimals = c.requires }
