use Rattle.std.proofs.Common.{◌≡◌, ◌<◌, ◌≤◌, ◌*◌, length, map, Some, refl, sym, ap, ◌∙◌, subst, arith, rules, FitsSigned, w64}
use Rattle.std.specs.Prelude.{slice_set}
use Rattle.std.proofs.lemmas.Option.{slice_get_read}
use Rattle.std.proofs.lemmas.List.{length-map}
use Rattle.std.proofs.Math.Nat.{mul-le-mul_left}
use Rattle.rand_pcg.specs.Pcg.{output_xsh_rr}
use Rattle.sot_lists.specs.Places.{At}
use Rattle.sot_lists.proofs.Places.{at_map}
use Rattle.sot_lang.specs.Ranges.{write_ranges, range_of}
use Rattle.sot_code.specs.Recorded.{in_slots}
use Rattle.sot_code.proofs.Filling.{read_word, put_more}
use Rattle.sot_flight.specs.Draws.{drawn_from, turn}
use Rattle.sot_random_words.proofs.Words.{words_on}
use Rattle.sot_flight.proofs.Drawn.{drawn_read, drawn_at, length-drawn_from}
use Rattle.sot_flight.proofs.Bounds.{write_at}
use Rattle.sot_flight.proofs.EightSlots.{put_all}
use Rattle.sot_flight.proofs.drafts.wild_draft.Goals as goal

pub overflow_mul-given : goal.overflow_mul-given
overflow_mul-given c =
    let info = c.args.info.now in
    let len : c.len.result ≤ 8 = omega (arith, c.requires.few, c.len.ensures, info.writes.ok.0) in
    omega (arith, mul-le-mul_left c.from.result len, c.from.ensures, c.turn_of.ensures.bound, c.ranges.firing.fits)

pub index-scalar-requires : goal.index-scalar-requires
index-scalar-requires c =
    let info = c.args.info.now in
    let node = c.requires.is.0 in
    let node_at = subst (λ t. At t.nodes node info) (sym c.p.view_is) c.requires.is.1 in
    let below : c.loop-i.i < length info.writes.items = omega (arith, c.len-i-end.ensures, c.loop-i-test.true, info.writes.ok.0) in
    let slot_at = slice_get_read info.writes.items _ c.loop-i.i c.index.result.now refl below c.index.ensures in
    let there = c.p.invariant.typed.inside node info c.index.result.now node_at (c.loop-i.i, slot_at) in
    omega (arith, there, c.p.inside.scalars.ok.0)

pub draw-requires : goal.draw-requires
draw-requires c =
    let scalar = c.index-scalar.result.now in
    let low : FitsSigned w64 scalar.lo = search rules in
    let high : FitsSigned w64 scalar.hi = search rules in
    let info = c.args.info.now in
    let node = c.requires.is.0 in
    let node_at = subst (λ t. At t.nodes node info) (sym c.p.view_is) c.requires.is.1 in
    let below : c.loop-i.i < length info.writes.items = omega (arith, c.len-i-end.ensures, c.loop-i-test.true, info.writes.ok.0) in
    let slot_at = slice_get_read info.writes.items _ c.loop-i.i c.index.result.now refl below c.index.ensures in
    let there = c.p.invariant.typed.inside node info c.index.result.now node_at (c.loop-i.i, slot_at) in
    let scalar_at = slice_get_read c.p.inside.scalars.items _ c.index.result.now scalar refl there c.index-scalar.ensures in
    rw (read_word scalar.lo low, read_word scalar.hi high) (c.p.invariant.scalars c.index.result.now scalar scalar_at).range

pub set-requires : goal.set-requires
set-requires c =
    let info = c.args.info.now in
    omega (arith, c.requires.few, c.len-i-end.ensures, c.loop-i-test.true, info.writes.ok.0)

pub loop-i-preserved : goal.loop-i-preserved
loop-i-preserved c =
    let k = c.loop-i.invariant in
    let i = c.loop-i.i in
    let info = c.args.info.now in
    let node = c.requires.is.0 in
    let scalar = c.index-scalar.result.now in
    let given = c.from.result * c.len.result in
    let low : FitsSigned w64 scalar.lo = search rules in
    let high : FitsSigned w64 scalar.hi = search rules in
    let fits : FitsSigned w64 c.draw.result = search rules in
    let node_at = subst (λ t. At t.nodes node info) (sym c.p.view_is) c.requires.is.1 in
    let below : c.loop-i.i < length info.writes.items = omega (arith, c.len-i-end.ensures, c.loop-i-test.true, info.writes.ok.0) in
    let lt : c.loop-i.i < 8 = omega (arith, c.requires.few, below) in
    let slot_at = slice_get_read info.writes.items _ i c.index.result.now refl below c.index.ensures in
    let there = c.p.invariant.typed.inside node info c.index.result.now node_at (i, slot_at) in
    let scalar_at = subst (λ t. At t.scalars c.index.result.now scalar) c.p.view_is
    (slice_get_read c.p.inside.scalars.items _ c.index.result.now scalar refl there c.index-scalar.ensures) in
    let value = drawn_read c.args.spread scalar.lo scalar.hi c.draw.result _ _ low high c.draw.ensures.value (ap (λ g. output_xsh_rr g.state) k.words) in
    let number_at = drawn_at c.args.spread c.args.seed c.args.stream given _ i _ (write_at c.args.p.now info i c.index.result.now scalar slot_at scalar_at)
    ∙ ap Some (sym value) in
    let at = at_map Some _ i _ number_at in
    record {
      words = words_on c.args.seed c.args.stream given i c.loop-i.words c.draw.new.words k.words c.draw.ensures.next;
      draft =
          c.set.ensures ∙ ap (λ z. slice_set c.loop-i.draft i (Some z)) (read_word c.draw.result fits) ∙ ap (λ d. slice_set d i (Some c.draw.result)) k.draft
          ∙ put_more _ i (Some c.draw.result) at lt;
    }

pub returns : goal.returns
returns c =
    let info = c.args.info.now in
    let i = c.loop-i.i in
    let given = c.from.result * c.len.result in
    let list = drawn_from c.args.spread c.args.seed c.args.stream given (write_ranges c.args.p.now info) in
    let size = length-map list Some ∙ length-drawn_from c.args.spread c.args.seed c.args.stream given (write_ranges c.args.p.now info)
    ∙ length-map info.writes.items (range_of c.args.p.now.scalars) in
    let all : c.loop-i.i ≡ length info.writes.items = omega (arith, c.len-i-end.ensures, c.loop-i.auto.i-end, c.loop-i-test.false, info.writes.ok.0) in
    let len : c.len.result ≡ length info.writes.items = omega (arith, c.len.ensures, info.writes.ok.0) in
    let turns = turn c.args.spread c.args.firing in
    let turned : c.from.result ≡ turns = c.from.ensures ∙ c.turn_of.ensures.value in
    let first : given ≡ turns * length info.writes.items = ap (λ n. n * c.len.result) turned ∙ ap (λ n. turns * n) len in
    c.loop-i.invariant.draft ∙ put_all (map Some list) i (all ∙ sym size)
    ∙ ap (λ n. in_slots (map Some (drawn_from c.args.spread c.args.seed c.args.stream n (write_ranges c.args.p.now info)))) first
