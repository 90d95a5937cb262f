use Rattle.std.proofs.Common.{◌+◌, inl, inr, ⊎_elim, arith}
use Rattle.std.proofs.lemmas.Option.{slice_get_within}
use Rattle.std.proofs.lemmas.Bool.{false≢true}
use Rattle.sot_recover.specs.Meeting.{Meet}
use Rattle.sot_recover.proofs.Sides.{meet_around}
use Rattle.sot_recover.proofs.Rising.{rise_up}
use Rattle.sot_recover.proofs.index.put_block_of.Goals as goal

pub returns-then-not-meet-clause-places : goal.returns-then-not-meet-clause-places
returns-then-not-meet-clause-places c i =
    let no : Meet c.args.hull.now c.args.b.now → ⊥ = λ m. false≢true (c.if-not-meet.ensures.1 m) in (
      λ h. inl h,
      λ w. ⊎_elim (λ h. h) (λ v.
          let m = v.1 in
          let a = c.requires.around i m.0 m.1 v.0 in
          absurd (no (meet_around c.args.hull.now m.0 c.args.b.now a.0 a.1 m.2))) w,
    )

pub returns-then-not-meet-clause-once : goal.returns-then-not-meet-clause-once
returns-then-not-meet-clause-once c rise = rise_up c.args.from (c.args.from + 64) c.args.found.now.items (omega arith) rise

pub returns-clause-places : goal.returns-clause-places
returns-clause-places c i =
    let e = c.in_ok-put_block.ensures.places i in (
      λ h. ⊎_elim (λ x. inl x) (λ w. let a = w.0 in let b = w.1 in inr ((w.0, (let e = c.min.ensures in omega (arith, b, e))), w.2)) (e.0 h),
      λ w. e.1 (⊎_elim (λ x. inl x) (λ v. let m = v.1 in let lt = slice_get_within c.args.boxes.now i m.0 m.1 in let b = v.0.1 in
          inr (v.0.0, (let e = c.min.ensures in omega (arith, b, lt, e)), v.1)) w),
    )

pub returns-clause-once : goal.returns-clause-once
returns-clause-once c rise = (let e = c.min.ensures in
    rise_up (c.args.from + c.min.result) (c.args.from + 64) c.put_block.new.found.items (omega (arith, e)) (c.in_ok-put_block.ensures.once rise))
