use Rattle.std.proofs.Common.{List, sym, ◌∙◌, subst}
use Rattle.std.specs.Prelude.{MatchOption}
use Rattle.sot_box.specs.Sides.{Side}
use Rattle.sot_box.specs.Regions.{CoversAll, IsFirstGap}
use Rattle.sot_recover.proofs.least.gap_of.Goals as goal

pub uncovered-requires : goal.uncovered-requires
uncovered-requires c = c.requires.safe_width ∙ sym c.in_ok-by.ensures.width

pub returns : goal.returns
returns c =
    subst (λ (bs : List (List Side)). MatchOption c.uncovered.result (CoversAll c.args.safe.now.boxes bs) (λ s. IsFirstGap c.args.safe.now.boxes bs s))
    c.in_ok-by.ensures.boxes c.uncovered.ensures
