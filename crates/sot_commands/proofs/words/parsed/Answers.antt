use Rattle.std.proofs.Common.{map, ap, ◌∙◌, subst}
use Rattle.std.specs.String.{string_bytes}
use Rattle.clap.specs.Simple.{App}
use Rattle.clap.specs.Faults.{fault_of, is_simple_and_free}
use Rattle.clap.specs.Words.{FailsBy}
use Rattle.sot_commands.proofs.CommandWords.{is_free_program}
use Rattle.sot_commands.proofs.words.parsed.Goals as goal

pub returns-clause-fails : goal.returns-clause-fails
returns-clause-fails c =
    let is = c.in_ok-program.ensures in
    subst (λ (a : App). FailsBy (fault_of a (map string_bytes c.args.words.now)) c.try_get_matches_from.result) is
    (c.try_get_matches_from.ensures.kinds (ap is_simple_and_free is ∙ is_free_program))
