use Rattle.std.proofs.Common.{◌≡◌, ◌<◌, ℕ, pos, length, Option, IfOk, sym, ap, ◌∙◌, subst, arith}
use Rattle.sot_lists.proofs.Places.{read_at}
use Rattle.sot_lang.specs.Tables.{Tables}
use Rattle.sot_lang.specs.TableRules.{MeetsTableRules}
use Rattle.sot_trace_lines.specs.Spelled.{Spelled}
use Rattle.sot_trace_lines.specs.Readers.{word_at, topic_named, input_at}
use Rattle.sot_trace_lines.specs.Kept.{bounded, ShowsRead}
use Rattle.sot_lang.specs.TypedView.{tables}
use Rattle.sot_trace_lines.proofs.ShownLines.{input_is}
use Rattle.sot_trace_lines.proofs.Room.{topic_within, wider, fuller}
use Rattle.sot_trace_lines.proofs.read.read_input.Goals as goal

pub returns : goal.returns
returns c =
    let word = c.word_at-word.result in
    let info = c.index.result.now in
    let k = c.in-Some.topic in
    let inside : Tables = tables c.p.inside in
    let lt : k < length inside.topics = omega (arith, c.in-Some.ensures.there, ap (λ (p : Tables). length p.topics) c.p.view_is) in
    let named = ap (λ (p : Tables). topic_named p word.name.now) c.p.view_is ∙ sym c.in-Some.ensures.value in
    let same = λ (t : ℕ). sym (ap (λ (p : Tables). input_at p t c.args.text.now) c.p.view_is)
    ∙ input_is inside t k c.args.text.now word.name.now word.rest.now info (word_at c.args.text.now) (sym c.word_at-word.ensures) named lt c.index.ensures
    in
    let rules = subst MeetsTableRules c.p.view_is c.p.invariant in
    let topics = ap (λ (p : Tables). p.topics) c.p.view_is in
    let at = read_at inside.topics c.args.p.now.topics k info topics c.in-Some.ensures.there c.index.ensures in
    let few = topic_within c.args.p.now k info rules at in
    record {
      read =
          subst (λ (f : ℕ → Option Spelled). IfOk c.read_value.result
          (λ l. (t : ℕ) → c.args.time ≡ bounded (pos t) → ShowsRead c.read_value.new.numbers.items l (f t)))
          (λ i t. sym (same t) i) c.read_value.ensures.read;
      room = wider info.count (length c.args.p.now.scalars) c.args.numbers.now few c.read_value.new.numbers c.read_value.ensures.room;
      full = fuller info.count (length c.args.p.now.scalars) c.args.numbers.now few c.read_value.result c.read_value.ensures.full;
    }
