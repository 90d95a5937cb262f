use Rattle.std.proofs.Common.{◌<◌, length, Option, sym, ap, ◌∙◌, subst, arith}
use Rattle.sot_lang.specs.Tables.{Tables}
use Rattle.sot_lang.specs.TypedView.{tables}
use Rattle.sot_trace_lines.specs.Readers.{word_at}
use Rattle.sot_guard_lines.specs.Sayings.{Saying}
use Rattle.sot_guard_lines.specs.Readers.{plant_named, start_said_at, ShowsReadSaid}
use Rattle.sot_guard_lines.proofs.ShownSaid.{start_is}
use Rattle.sot_guard_lines.proofs.read.read_start.Goals as goal

pub returns-clause-said : goal.returns-clause-said
returns-clause-said c =
    let word = c.word_at-word.result in
    let plant = c.index.result.now in
    let k = c.in-Some.k in
    let inside : Tables = tables c.p.inside in
    let lt : k < length inside.plants = omega (arith, c.in-Some.ensures.there, ap (λ (p : Tables). length p.plants) c.p.view_is) in
    let named = ap (λ (p : Tables). plant_named p word.name.now) c.p.view_is ∙ sym c.in-Some.ensures.value in
    let same = sym (ap (λ (p : Tables). start_said_at p c.args.text.now) c.p.view_is)
    ∙ start_is inside k word.name.now word.rest.now c.in-Some-behind.rest.now plant (word_at c.args.text.now) (sym c.word_at-word.ensures) named lt
    c.index.ensures (sym c.in-Some-behind.ensures)
    in
    subst (λ (o : Option Saying). ShowsReadSaid c.read_point.new.numbers.items c.read_point.result o) (sym same) c.read_point.ensures.said
