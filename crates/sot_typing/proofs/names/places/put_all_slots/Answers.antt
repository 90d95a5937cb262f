-- Of `put_all_slots`: that its loop keeps what it says, and its promises.
use Rattle.std.proofs.Common.{refl}
use Rattle.std.specs.Prelude.{flat_map}
use Rattle.sot_rules.specs.Indexes.{program_in}
use Rattle.sot_typing.specs.Resolved.{slots_meant}
use Rattle.sot_typing.proofs.Listings.{add_next, add_done}
use Rattle.sot_typing.proofs.names.places.put_all_slots.Goals as goal

pub loop-name-preserved : goal.loop-name-preserved
loop-name-preserved c =
    let of = slots_meant (program_in c.args.index.now) in
    add_next (λ ts. ts) (flat_map of) of (λ x more. refl) refl c.args.names.now c.loop-name.name-index c.loop-name.slots.items _ c.loop-name.invariant
    c.name-item.result c.loop-name-test.true c.name-item.is _ c.in_ok-put_slots_meant.ensures

pub returns : goal.returns
returns c =
    let of = slots_meant (program_in c.args.index.now) in
    add_done (λ ts. ts) (flat_map of) of (λ x more. refl) refl c.args.names.now c.loop-name.name-index c.loop-name.slots.items _ c.loop-name.invariant
    c.loop-name-test.false
