use Rattle.std.proofs.Common.{◌≡◌, ◌+◌, ◌-◌, ◌++◌, take, map}
use Rattle.std.specs.Prelude.{Some, None, replicate}
use Rattle.sot_lang.specs.Ranges.{write_ranges}
use Rattle.sot_random_words.specs.Words.{words_from}
use Rattle.sot_flight.specs.Draws.{drawn_from}
use Rattle.sot_flight.proofs.drafts.wild_draft.Given as goal

abbrev pub invariant-loop-i : goal.invariant-loop-i
invariant-loop-i l = record {
  words : l.words ≡ words_from l.seed l.stream (l.given + l.i);
  draft : l.draft ≡ take l.i (map Some (drawn_from l.spread l.seed l.stream l.given (write_ranges l.p l.info))) ++ replicate (8 - l.i) None;
}
