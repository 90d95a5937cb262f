-- What the loop of `put_program` keeps.
use Rattle.std.proofs.Common.{◌≡◌, ◌++◌, ◌-◌}
use Rattle.std.specs.String.{string_bytes}
use Rattle.sot_random_words.specs.Words.{words_from}
use Rattle.sot_maker.specs.Declarations.{mission_stream, declarations_from, program_text}
use Rattle.sot_maker.proofs.declarations.put_program.Given as goal

-- the words that were given; what is written, and then what is left
abbrev pub invariant-loop-i : goal.invariant-loop-i
invariant-loop-i l = record {
  words : l.words ≡ words_from l.seed mission_stream l.i;
  text : string_bytes l.out ++ declarations_from l.seed l.i (l.n - l.i) ≡ string_bytes l.initial.out ++ program_text l.n l.seed;
}
