-- What is left to show of `push_escaped`.
use Rattle.std.proofs.Common.{◌≢◌, arith, rules}
use Rattle.sot_json.proofs.Escapes.{escaped_char}
use Rattle.sot_json.proofs.path.push_escaped.Goals as goal

pub returns-in_default : goal.returns-in_default
returns-in_default c =
    let tilde : c.args.c ≢ 126 = (λ e. omega (arith, e)) in
    let slash : c.args.c ≢ 47 = (λ e. omega (arith, e)) in
    let same = escaped_char c.args.c tilde slash in
    rw same (search rules)
