use Rattle.std.proofs.Common.{◌<◌, ◌-◌, pos, refl, sym, ap, ◌∙◌, get_or, length, arith, rules, ℤ, ◌<ℤ◌, w64, SFits, subst}
use Rattle.std.proofs.lemmas.Int.{to_z-of_z, ints}
use Rattle.sot_box.specs.declared.index.Entry.{Entry}
use Rattle.sot_box.proofs.Within.{placed}
use Rattle.sot_box.proofs.Indexes.{places_below, behind_start, behind_more, behind_all, behind_none}
use Rattle.sot_box.proofs.index.indexed_holder.Goals as goal

abbrev nothing : Entry
nothing = record { low = pos 0; place = 0 }

pub loop-left-init : goal.loop-left-init
loop-left-init c =
    behind_start c.args.boxes.now c.args.entries.now c.args.p.now c.first-x.result c.begun_by-left.result c.requires.index.names c.first-x.ensures
    c.begun_by-left.ensures.bound
    (λ k d above below.
    let f : SFits w64 c.first-x.result = search rules in
    subst (λ (z : ℤ). z <ℤ (get_or c.args.entries.now k d).low) (to_z-of_z w64 c.first-x.result f) (c.begun_by-left.ensures.later k d above below))

pub returns-then-reaches-left : goal.returns-then-reaches-left
returns-then-reaches-left c =
    let f : SFits w64 c.first-x.result = search rules in
    let g : SFits w64 (get_or c.args.reaches.now (c.loop-left.left - 1) (pos 0)) = search rules in
    let t = c.if-reaches-left.true in
    let short : get_or c.args.reaches.now (c.loop-left.left - 1) (pos 0) <ℤ c.first-x.result = omega (arith, ints) in
    behind_all c.args.boxes.now c.args.entries.now c.args.reaches.now c.args.p.now c.loop-left.left c.first-x.result (omega arith) c.requires.index
    c.loop-left.invariant c.first-x.ensures short

pub bounds-boxes-place : goal.bounds-boxes-place
bounds-boxes-place c =
    places_below c.args.boxes.now c.args.entries.now c.requires.index.names (c.loop-left.left - 1) nothing (omega (arith, c.loop-left.invariant.within))

pub offset_bounds-boxes-place : goal.offset_bounds-boxes-place
offset_bounds-boxes-place c =
    let lt : (get_or c.args.entries.now (c.loop-left.left - 1) nothing).place < length c.args.boxes.now =
    places_below c.args.boxes.now c.args.entries.now c.requires.index.names (c.loop-left.left - 1) nothing (omega (arith, c.loop-left.invariant.within)) in
    search rules

pub has-requires : goal.has-requires
has-requires c =
    let lt : (get_or c.args.entries.now (c.loop-left.left - 1) nothing).place < length c.args.boxes.now =
    places_below c.args.boxes.now c.args.entries.now c.requires.index.names (c.loop-left.left - 1) nothing (omega (arith, c.loop-left.invariant.within)) in
    sym (ap length c.index-boxes-place.is ∙ c.requires.widths (get_or c.args.entries.now (c.loop-left.left - 1) nothing).place c.index-boxes-place.result lt)

pub returns-then-has : goal.returns-then-has
returns-then-has c =
    let lt : (get_or c.args.entries.now (c.loop-left.left - 1) nothing).place < length c.args.boxes.now =
    places_below c.args.boxes.now c.args.entries.now c.requires.index.names (c.loop-left.left - 1) nothing (omega (arith, c.loop-left.invariant.within)) in (
      c.index-boxes-place.result,
      placed c.args.boxes.now c.args.boxes.now (get_or c.args.entries.now (c.loop-left.left - 1) nothing).place c.index-boxes-place.result refl lt
          c.index-boxes-place.is,
      c.if-has.ensures.0 refl,
    )

pub loop-left-preserved : goal.loop-left-preserved
loop-left-preserved c =
    let lt : (get_or c.args.entries.now (c.loop-left.left - 1) nothing).place < length c.args.boxes.now =
    places_below c.args.boxes.now c.args.entries.now c.requires.index.names (c.loop-left.left - 1) nothing (omega (arith, c.loop-left.invariant.within)) in
    behind_more c.args.boxes.now c.args.entries.now c.args.p.now c.loop-left.left nothing c.index-boxes-place.result (omega arith) c.loop-left.invariant
    (placed c.args.boxes.now c.args.boxes.now (get_or c.args.entries.now (c.loop-left.left - 1) nothing).place c.index-boxes-place.result refl lt
    c.index-boxes-place.is)
    (λ w. let t = c.if-has.ensures.1 w in absurd (cc))

pub returns : goal.returns
returns c =
    behind_none c.args.boxes.now c.args.entries.now c.args.reaches.now c.args.p.now c.loop-left.left (omega arith) c.requires.index c.loop-left.invariant
