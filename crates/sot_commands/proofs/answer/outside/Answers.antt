use Rattle.std.proofs.Common.{◌≡◌, ℤ, List, IfOk, sym, ap, ◌∙◌, subst, length}
use Rattle.sot_world.specs.Opens.{IsFirstOutside}
use Rattle.sot_cli.specs.Starts.{IsOutsideLine}
use Rattle.sot_commands.proofs.answer.outside.Goals as goal

pub outside-requires-clause-all : goal.outside-requires-clause-all
outside-requires-clause-all c = ap length c.start.ensures ∙ c.requires.fits.1.starts

pub outside-requires-clause-first : goal.outside-requires-clause-first
outside-requires-clause-first c =
    subst (λ (s : List (List ℤ)). IsFirstOutside c.args.program.now s c.args.module) (sym c.start.ensures) c.requires.first

pub returns-clause-text : goal.returns-clause-text
returns-clause-text c =
    subst (λ (s : List (List ℤ)). IfOk c.outside.result (λ a. IsOutsideLine c.args.program.now s a.text.items)) c.start.ensures c.outside.ensures.text
