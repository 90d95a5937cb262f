use Rattle.std.proofs.Common.{rules, ◌∙◌, ◌≤◌, ap, sym, subst, ◌∷◌, [], ◌++◌, length}
use Rattle.std.specs.Prelude.{map}
use Rattle.std.specs.List.{All}
use Rattle.sot_world.specs.HistoryRecords.{entry_in, entry_end}
use Rattle.sot_world.specs.Histories.{entry_of}
use Rattle.sot_world.proofs.Records.{told_push, inside_push}
use Rattle.sot_world.proofs.history.History.push.Goals as goal

pub returns-clause-appended : goal.returns-clause-appended
returns-clause-appended c =
    let behind = c.kept-word.ensures.behind in
    ap (map (entry_in c.kept-word.new.numbers.items)) c.add.ensures.items
    ∙ told_push c.self.inside.numbers.items behind.0 c.kept-word.new.numbers.items c.self.inside.words.items c.kept-word.result (entry_of c.args.e.now) behind.1
    c.self.invariant.inside c.kept-word.ensures.same
    ∙ ap (λ s. s.entries ++ entry_of c.args.e.now ∷ []) c.self.view_is

pub invariant_of-self : goal.invariant_of-self
invariant_of-self c =
    let behind = c.kept-word.ensures.behind in
    let ns = c.kept-word.new.numbers.items in
    record {
      inside =
          subst (All (λ w. entry_end ns w ≤ length ns)) (sym c.add.ensures.items)
          (inside_push c.self.inside.numbers.items behind.0 ns c.self.inside.words.items c.kept-word.result behind.1 c.self.invariant.inside
          c.kept-word.ensures.inside);
      entries = search rules;
      numbers = search rules;
      few = search rules;
      places = search rules;
    }
