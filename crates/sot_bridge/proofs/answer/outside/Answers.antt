use Rattle.std.proofs.Common.{◌≡◌, ℕ, ℤ, List, ◌++◌, sym, ap, ◌∙◌, subst, length}
use Rattle.sot_world.specs.Opens.{IsFirstOutside}
use Rattle.sot_cli.specs.Starts.{IsOutsideLine}
use Rattle.sot_bridge.specs.Answers.{word_of}
use Rattle.sot_bridge.proofs.answer.outside.Goals as goal

pub outside_line-requires-clause-all : goal.outside_line-requires-clause-all
outside_line-requires-clause-all c = ap length c.start.ensures ∙ c.requires.fits.1.starts

pub outside_line-requires-clause-first : goal.outside_line-requires-clause-first
outside_line-requires-clause-first c =
    subst (λ (s : List (List ℤ)). IsFirstOutside c.args.program.now s c.args.module) (sym c.start.ensures) c.requires.first

pub returns-clause-text : goal.returns-clause-text
returns-clause-text c =
    let line = subst (λ (s : List (List ℤ)). IsOutsideLine c.args.program.now s c.in_ok-line.line.items) c.start.ensures c.in_ok-line.ensures in
    (c.in_ok-line.line.items, line, c.in_ok-text.ensures ∙ ap (λ (l : List ℕ). word_of c.args.which ++ l) c.deref.ensures.value)
