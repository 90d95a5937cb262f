use Rattle.std.proofs.Common.{◌≡◌, map, sym, ap, ◌∙◌}
use Rattle.std.specs.Prelude.{option_map}
use Rattle.std.specs.String.{string_bytes}
use Rattle.clap.specs.Words.{HasMatchesOf, kind_of, subcommand_name_of}
use Rattle.clap.specs.Simple.{subcommand_of}
use Rattle.clap.specs.declared.parser.matches.ArgMatches.TheViews.{out-ArgMatches}
use Rattle.sot_commands.specs.declared.words.WordFail.TheVariants.{Form}
use Rattle.sot_commands.specs.WordParser.{program}
use Rattle.sot_commands.proofs.CommandWords.{dash_asks, found_asks, lost_asks, fault_asks, name_found, is_simple_program}
use Rattle.sot_commands.proofs.words.command_of.Goals as goal

pub returns-then-has_dash-clause-form : goal.returns-then-has_dash-clause-form
returns-then-has_dash-clause-form c = λ form command asks. dash_asks c.args.words.now command (sym c.has_dash.ensures ∙ c.if-has_dash.true) asks

pub returns-in-Ok-clause-ok : goal.returns-in-Ok-clause-ok
returns-in-Ok-clause-ok c =
    let m : HasMatchesOf program (map string_bytes c.args.words.now) c.in-Ok.matches = c.in-Ok.ensures.matches in
    let name : subcommand_name_of c.in-Ok.matches ≡ option_map (λ p. p.0) (subcommand_of program (map string_bytes c.args.words.now)) =
    name_found (out-ArgMatches c.in-Ok.matches).subcommand ∙ ap (option_map (λ p. p.0)) (m is_simple_program).1 in
    found_asks c.args.words.now (subcommand_name_of c.in-Ok.matches) c.found.result (sym c.has_dash.ensures ∙ c.if-has_dash.false) c.in-Ok.ensures.fails name
    c.found.ensures.ok

pub returns-in-Ok-clause-form : goal.returns-in-Ok-clause-form
returns-in-Ok-clause-form c = λ form command.
    let m : HasMatchesOf program (map string_bytes c.args.words.now) c.in-Ok.matches = c.in-Ok.ensures.matches in
    let name : subcommand_name_of c.in-Ok.matches ≡ option_map (λ p. p.0) (subcommand_of program (map string_bytes c.args.words.now)) =
    name_found (out-ArgMatches c.in-Ok.matches).subcommand ∙ ap (option_map (λ p. p.0)) (m is_simple_program).1 in
    lost_asks c.args.words.now (subcommand_name_of c.in-Ok.matches) name (c.found.ensures.form form) command

pub returns-in-Err-clause-form : goal.returns-in-Err-clause-form
returns-in-Err-clause-form c = λ form command asks.
    let is : c.reason.result ≡ Form = cc in
    fault_asks (kind_of c.in-Err.error) c.args.words.now command c.in-Err.ensures.fails (c.reason.ensures is) asks
