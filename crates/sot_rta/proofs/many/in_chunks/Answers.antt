use Rattle.std.proofs.Common.{◌<◌, ◌*◌, ◌∙◌, arith}
use Rattle.std.specs.Result.{is_err}
use Rattle.rayon.proofs.ToStd.{nat_range-All, answers-by_ref, filter_by_mask-find}
use Rattle.sot_rta.proofs.Chunks.{begins, first_of_all}
use Rattle.sot_rta.proofs.many.in_chunks.Goals as goal

pub find_first-requires-clause-items : goal.find_first-requires-clause-items
find_first-requires-clause-items g c κs within =
    let ends = c.into_par_iter.ensures in
    let inside = nat_range-All (λ k. k * c.args.size < c.args.count) 0 c.div_ceil.result
    (λ k low high. begins c.args.size c.args.count k c.requires.size (omega (arith, high, c.div_ceil.ensures))) in
    rw (c.map.ensures.base, c.map.ensures.f, c.with_min_len.ensures.base, ends.0, ends.1) (λ k d lt. ((inside k d lt, c.requires.each), λ y answered p is. tt))

pub returns : goal.returns
returns g c =
    let ends = c.into_par_iter.ensures in
    let found = rw (c.map.ensures.base, c.map.ensures.f, c.with_min_len.ensures.base, ends.0, ends.1, c.div_ceil.ensures) at c.find_first.ensures in
    let is = found.4 ∙ filter_by_mask-find is_err found.0 found.1 (answers-by_ref is_err found.0 found.1 found.3) in
    let chunks = rw found.2.1 at found.2.2 in
    rw (c.unwrap_or.ensures, is) (first_of_all (goal.F-post g c.args.check.now) c.args.size c.args.count c.requires.size found.0 chunks)
