use Rattle.std.proofs.Common.{◌≡◌, Some, codes, sym, ◌∙◌, rules}
use Rattle.std.proofs.lemmas.Option.{same_Some}
use Rattle.clap.specs.Words.{subcommand_name_of}
use Rattle.sot_commands.specs.Words.{word_of}
use Rattle.sot_commands.proofs.CommandWords.{watch_wants, make_wants, soak_wants, err_again}
use Rattle.sot_commands.proofs.words.found.Goals as goal

pub returns-in-Err-clause-form : goal.returns-in-Err-clause-form
returns-in-Err-clause-form c = λ form command names behind.
    let is : subcommand_name_of c.args.matches.now ≡ Some (codes "watch") = search rules in
    let w = watch_wants c.args.words.now command (same_Some (codes "watch") (word_of command) (sym is ∙ names)) behind in
    c.in-Err.ensures.form (err_again c.in-Err.fail form) w.0 w.1

pub returns-in-Err-numbers-clause-form : goal.returns-in-Err-numbers-clause-form
returns-in-Err-numbers-clause-form c = λ form command names behind.
    let is : subcommand_name_of c.args.matches.now ≡ Some (codes "make") = search rules in
    let w = make_wants c.args.words.now command (same_Some (codes "make") (word_of command) (sym is ∙ names)) behind in
    c.in-Err-numbers.ensures.form (err_again c.in-Err-numbers.fail form) w.0 w.1 w.2

pub returns-in-Err-numbers-2-clause-form : goal.returns-in-Err-numbers-2-clause-form
returns-in-Err-numbers-2-clause-form c = λ form command names behind.
    let is : subcommand_name_of c.args.matches.now ≡ Some (codes "soak") = search rules in
    let w = soak_wants c.args.words.now command (same_Some (codes "soak") (word_of command) (sym is ∙ names)) behind in
    c.in-Err-numbers-2.ensures.form (err_again c.in-Err-numbers-2.fail form) w.0 w.1 w.2
