use Rattle.std.proofs.Common.{◌+◌, ◌*◌, ◌<◌, ◌≤◌, inl, inr, ⊎_elim, refl, arith}
use Rattle.std.proofs.lemmas.Option.{slice_get_within}
use Rattle.std.proofs.lemmas.Bool.{cases_lt}
use Rattle.sot_lists.specs.Places.{At}
use Rattle.sot_lists.proofs.Places.{read_at}
use Rattle.sot_recover.proofs.Rising.{rise_up}
use Rattle.sot_recover.proofs.index.put_all.Goals as goal

pub put_block_of-requires : goal.put_block_of-requires
put_block_of-requires c =
    let l = c.loop-k in
    let lt = c.loop-k-test.true in
    let few = c.requires.few in
    let here : At c.args.hulls.now l.k c.index-hulls-k.result =
    read_at c.args.hulls.now c.args.hulls.now l.k c.index-hulls-k.result refl c.loop-k-test.true c.index-hulls-k.is in
    record { inside = omega (arith, lt, few); around = λ i b at in_block. c.requires.around l.k i c.index-hulls-k.result b here at in_block }

pub loop-k-preserved : goal.loop-k-preserved
loop-k-preserved c = record {
  places = λ i.
      (let l = c.loop-k in
      let e = c.in_ok-put_block_of.ensures.places i in
      let inv = l.invariant.places i in (
        λ h. ⊎_elim
            (λ old. let w = inv.0 old in let b = w.0 in (omega (arith, b), w.1))
            (λ new. let b = new.0.1 in (omega (arith, b), new.1))
            (e.0 h),
        λ w. ⊎_elim
            (λ (before : i < l.k * 64). e.1 (inl (inv.1 (before, w.1))))
            (λ (rest : l.k * 64 ≤ i). let b = w.0 in e.1 (inr ((rest, omega (arith, b)), w.1)))
            (cases_lt i (l.k * 64)),
      ));
  once = (let l = c.loop-k in
      rise_up (l.k * 64 + 64) ((l.k + 1) * 64) c.put_block_of.new.found.items (omega arith) (c.in_ok-put_block_of.ensures.once l.invariant.once));
}

pub returns-clause-once : goal.returns-clause-once
returns-clause-once c = c.loop-k.invariant.once.0

pub returns-clause-places : goal.returns-clause-places
returns-clause-places c i =
    let inv = c.loop-k.invariant.places i in
    let whole = c.requires.whole in
    let end = c.loop-k-test.false in (
      λ h. (inv.0 h).1,
      λ w. (let lt = slice_get_within c.args.boxes.now i w.0 w.1 in inv.1 (omega (arith, lt, whole, end), w)),
    )
