use Rattle.std.proofs.Common.{List, inr, refl, subst}
use Rattle.std.specs.Prelude.{MatchOption, Option, ℤ}
use Rattle.sot_box.specs.Regions.{CoversAll, IsFirstGap}
use Rattle.sot_box.proofs.Laws.{first_gap_uncovered}
use Rattle.sot_recover.specs.Chosen.{chosen}
use Rattle.sot_recover.proofs.least.half_of.Goals as goal

pub returns-in-Some : goal.returns-in-Some
returns-in-Some c =
    let safe = c.args.safe.now.boxes in
    let by = chosen c.args.cells.now c.args.ranks.now c.args.middle in
    let gap = subst (λ (o : Option (List ℤ)). MatchOption o (CoversAll safe by) (λ s. IsFirstGap safe by s)) c.in-Some.is c.in_ok-gap.ensures in
    inr (refl, refl, λ covers. first_gap_uncovered safe by c.in-Some.field-0 gap covers)
