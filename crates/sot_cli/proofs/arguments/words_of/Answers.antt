use Rattle.std.proofs.Common.{◌≡◌, ◌∙◌, [], ◌∷◌, ap, subst, sym, map-id, rules, tests}
use Rattle.std.specs.Vec.Iter.{into_iter_items, into_iter_len}
use Rattle.std.proofs.lemmas.Iterator.Consumers.{YieldsList-end}
use Rattle.std.proofs.lemmas.Iterator.Adapters.{YieldsList-from_vec, YieldsList-from_skip}
use Rattle.sot_cli.specs.Words.{AreWordsOf}
use Rattle.sot_cli.proofs.arguments.words_of.Goals.{in-Ok+in-None, in-Err+else-is_err-2}
use Rattle.sot_cli.proofs.arguments.words_of.Goals as goal

pub returns-clause-words : goal.returns-clause-words
returns-clause-words c = elim c.match-args.branch [
  | in-Ok+in-None w ↦ subst (λ a. AreWordsOf a c.match-args.words.items) (sym w.in-Ok.is) (
      let at : w.into_iter-word-iterator.result.iter ≡ w.in-Ok.args
      = ap (λ s. s.iter) w.into_iter-word-iterator.ensures.into_iter_gives ∙ w.skip-word-items.ensures.source in
      let one : w.into_iter-word-iterator.result.n ≡ 1
      = ap (λ s. s.n) w.into_iter-word-iterator.ensures.into_iter_gives ∙ w.skip-word-items.ensures.count in
      let chain = YieldsList-from_skip {s = w.into_iter-word-iterator.result} 1
      (YieldsList-from_vec (into_iter_items w.in-Ok.args) (ap into_iter_items at)
      (ap into_iter_len at ∙ w.in-Ok.args.rest.ok.0)) one in
      let end = YieldsList-end chain w.loop-word.yielded w.loop-word.word-iterator w.loop-word.yielded_by
      w.next.result w.next.new.self w.in-None.is w.next.ensures.steps in
      ap (λ v. v.items) w.words-is ∙ w.loop-word.invariant ∙ sym (map-id w.loop-word.yielded) ∙ end.0)
  | in-Err+else-is_err-2 w ↦ subst (λ a. AreWordsOf a c.match-args.words.items) (sym w.in-Err.is) (
      let pushed : w.push-in-Err.new.self.items ≡ w.new.result ∷ [] = search (rules, tests) in
      (search (rules, tests), (w.new.result, ap (λ v. v.items) w.words-is ∙ pushed, w.new.ensures.bytes)))
]
