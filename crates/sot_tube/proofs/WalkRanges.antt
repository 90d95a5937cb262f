-- The names of a plant as a tube is followed: the box stands in front, and the rest stays.
use Rattle.std.proofs.Common.{◌≡◌, ℕ, ◌+◌, ◌≤◌, List, ◌++◌, Ok, length, sym, ap, ◌∙◌, subst, arith, length-append}
use Rattle.std.specs.Prelude.{drop}
use Rattle.std.proofs.Math.Seq.{drop-append_seam}
use Rattle.std.proofs.lemmas.List.{append_assoc}
use Rattle.sot_box.specs.Sides.{Side}
use Rattle.sot_lang.specs.Tables.{Tables}
use Rattle.sot_lang.specs.Ranges.{bounds}
use Rattle.sot_lang.specs.TableRules.{MeetsTableRules}
use Rattle.sot_iv.specs.TermIntervals.{OrMayTrap, AreTermIntervals}
use Rattle.sot_iv.specs.PlantTicks.{MayTickBox, IsBoxAfterTick, ArePlantRanges, IsBoxOver}
use Rattle.sot_tube.proofs.Walks.{terms_long}

-- a box in front, and the rest
in_front : (front held seen more : List Side) → front ++ held ++ seen ++ more ≡ front ++ (held ++ seen ++ more)
in_front front held seen more =
    append_assoc (front ++ held) seen more ∙ append_assoc front held (seen ++ more) ∙ ap (λ l. front ++ l) (sym (append_assoc held seen more))

module _ (p : Tables) (k : ℕ) (area held seen names : List Side) where
  -- the next box from the ranges of these is that from the box
  pub after : (o : OrMayTrap (List Side)) → ArePlantRanges p k area held seen names → IsBoxOver p k names o → IsBoxAfterTick p k area held seen o
  after o are over info at = subst (λ l. AreTermIntervals info.next.items l o) (are info at) (over info at)

  module _ (next : List Side) (rules : MeetsTableRules p) (step : MayTickBox p k area held seen) (are : ArePlantRanges p k area held seen names)
      (told : IsBoxAfterTick p k area held seen (Ok next)) where
    pub same : length next ≡ length area
    same = terms_long step.plant.next.items _ next (told step.plant step.is) ∙ (rules.plants k step.plant step.is).one_next ∙ sym step.states

    pub front_fits : length next ≤ length names
    front_fits =
        let rest = held ++ seen ++ bounds step.plant in
        let long : length names ≡ length area + length rest = ap length (are step.plant step.is ∙ in_front area held seen (bounds step.plant))
        ∙ length-append area rest in
        omega (arith, same, long)

    pub ranges_next : (more : List Side) → more ≡ next ++ drop (length next) names → ArePlantRanges p k next held seen more
    ranges_next more is info at =
        let rest = held ++ seen ++ bounds info in
        is ∙ ap (λ l. next ++ l) (ap (λ n. drop n names) same ∙ ap (drop (length area)) (are info at ∙ in_front area held seen (bounds info))
        ∙ drop-append_seam area rest) ∙ sym (in_front next held seen (bounds info))
