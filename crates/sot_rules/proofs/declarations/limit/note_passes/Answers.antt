-- Of `note_passes`: that its loop keeps what it says, and its promises.
use Rattle.std.proofs.Common.{◌≡◌, ◌∙◌, ◌-◌, ap, refl, sym, arith}
use Rattle.sot_rules.specs.Names.{meaning}
use Rattle.sot_rules.specs.Faults.{least, passes}
use Rattle.sot_rules.specs.Indexes.{program_in}
use Rattle.sot_rules.specs.Meanings.{size_of}
use Rattle.sot_rules.proofs.Loops.{none_left}
use Rattle.sot_rules.proofs.Sizes.{fits, overflows}
use Rattle.sot_rules.proofs.declarations.limit.note_passes.Goals as goal

pub returns-then-are_past : goal.returns-then-are_past
returns-then-are_past c =
    sym (c.are_past.ensures c.if-are_past.true (λ i. size_of c.args.plants (meaning (program_in c.args.index.now) i)) c.args.limit 0)

pub loop-name-init : goal.loop-name-init
loop-name-init c =
    let none : c.args.limit - c.args.limit ≡ 0 = omega arith in
    record {
      within = omega arith;
      noted =
          ap (λ s. least c.args.first.now (passes (λ i. size_of c.args.plants (meaning (program_in c.args.index.now) i)) c.args.limit s c.args.names.now)) none;
    }

pub loop-name-preserved : goal.loop-name-preserved
loop-name-preserved c = record {
  within = omega arith;
  noted =
      fits (λ i. size_of c.args.plants (meaning (program_in c.args.index.now) i)) c.args.limit c.args.names.now c.loop-name.name-index c.name-item.result
      c.size_of-size.result c.loop-name.room c.loop-name-test.true c.name-item.is (c.size_of-size.ensures ∙ ap (size_of c.args.plants) c.meaning.ensures)
      c.loop-name.invariant.within _ _ c.if-size-room.false c.loop-name.invariant.noted;
}

pub returns : goal.returns
returns c =
    none_left (λ is. passes (λ i. size_of c.args.plants (meaning (program_in c.args.index.now) i)) c.args.limit (c.args.limit - c.loop-name.room) is) refl
    c.args.names.now
    c.loop-name.name-index _ _ c.loop-name-test.false c.loop-name.invariant.noted

pub returns-then-size-room : goal.returns-then-size-room
returns-then-size-room c =
    overflows (λ i. size_of c.args.plants (meaning (program_in c.args.index.now) i)) c.args.limit c.args.names.now c.loop-name.name-index c.name-item.result
    c.size_of-size.result c.loop-name.room c.loop-name-test.true c.name-item.is (c.size_of-size.ensures ∙ ap (size_of c.args.plants) c.meaning.ensures)
    c.loop-name.invariant.within _ _ _ c.if-size-room.true c.loop-name.invariant.noted c.note.ensures
