use Rattle.std.proofs.Common.{refl}
use Rattle.sot_replay.proofs.RelayLines.{two_traces, other_first_lines, other_last_lines, spell_nothing}
use Rattle.sot_replay.proofs.RelayRefusals.{refused_lines}
use Rattle.sot_replay.proofs.RelayRules.{rules, words}
use Rattle.sot_replay.proofs.facts.lines_are_as_stated.Goals as goal

pub returns : goal.returns
returns c =
    record {
      order = refl;
      traces = two_traces;
      first = other_first_lines;
      last = other_last_lines;
      nothing = spell_nothing;
      refused = refused_lines;
      laws = λ g. (rules g, words g);
    }
