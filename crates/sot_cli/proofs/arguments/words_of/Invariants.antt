use Rattle.std.specs.Prelude.{◌≡◌}
use Rattle.sot_cli.proofs.arguments.words_of.Given as goal

-- the words are the items that were taken so far
abbrev pub invariant-loop-word : goal.invariant-loop-word
invariant-loop-word l = l.words.items ≡ l.yielded
