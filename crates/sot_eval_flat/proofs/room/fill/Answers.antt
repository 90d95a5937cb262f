use Rattle.std.proofs.Common.{arith, ◌≡◌, ◌+◌, ◌++◌, pos, length, take, get_or, ap, sym, subst, ◌∙◌}
use Rattle.std.proofs.lemmas.List.{length-take-le, take_at, get_or-take, get_or-append-add}
use Rattle.std.proofs.lemmas.Option.{slice_get_within, get_or_from_slice_get}
use Rattle.std.proofs.Math.Seq.{take-take}
use Rattle.sot_lists.specs.Places.{At}
use Rattle.sot_eval_flat.proofs.room.fill.Goals as goal

pub returns-clause-names : goal.returns-clause-names
returns-clause-names g c =
    let n = c.args.shape.now.names in
    let stated = c.deref.result.now in
    let room = c.put.new.numbers in
    let before = c.put_locals.new.numbers in
    let size : length before ≡ 256 = c.put_locals.ensures.size ∙ c.put_seen.ensures.size ∙ c.requires.size in
    let n_is : length (take n before) ≡ n = length-take-le n before (omega (arith, size, c.requires.few)) in
    let front : take n room ≡ take n before =
    sym (take-take n (n + length stated) room (omega arith)) ∙ ap (take n) c.put.ensures.front ∙ take_at (take n before) stated n n_is in
    front ∙ ap (λ k. take k before) (sym c.requires.names) ∙ c.put_locals.ensures.front ∙ ap (λ l. l ++ c.args.locals.now) c.put_seen.ensures.front

pub returns-clause-room : goal.returns-clause-room
returns-clause-room g c =
    let n = c.args.shape.now.names in
    let stated = c.deref.result.now in
    let room = c.put.new.numbers in
    let before = c.put_locals.new.numbers in
    let size : length before ≡ 256 = c.put_locals.ensures.size ∙ c.put_seen.ensures.size ∙ c.requires.size in
    let n_is : length (take n before) ≡ n = length-take-le n before (omega (arith, size, c.requires.few)) in (
      c.put.ensures.size ∙ size,
      λ k z at.
          let there = subst (λ l. At l k z) (sym c.deref.ensures.value) at in
          let lt = slice_get_within stated k z there in
          sym (get_or-take (n + length stated) room (n + k) (pos 0) (omega (arith, lt))) ∙ ap (λ l. get_or l (n + k) (pos 0)) c.put.ensures.front
          ∙ ap (λ j. get_or (take n before ++ stated) (j + k) (pos 0)) (sym n_is) ∙ get_or-append-add (take n before) stated k (pos 0)
          ∙ get_or_from_slice_get stated k z (pos 0) there,
    )
