-- What is found, module after module, and the program with it.
use Rattle.std.proofs.Common.{◌≡◌, ◌∙◌, ℕ, ◌+◌, ◌⊎◌, inl, inr, List, [], ◌∷◌, ◌++◌, length, Option, Some, refl, sym, ap, subst, arith}
use Rattle.std.proofs.lemmas.List.{length-append}
use Rattle.std.proofs.lemmas.Option.{none-some}
use Rattle.sot_lists.specs.Places.{At}
use Rattle.sot_lists.proofs.Places.{at_front}
use Rattle.sot_syntax_tree.specs.Trees.{Program}
use Rattle.sot_syntax_tree.specs.Formed.{IsFormed}
use Rattle.sot_parser.specs.Programs.{Spells}
use Rattle.sot_parser.proofs.ProgramTexts.{spells_unique}
use Rattle.sot_law_print_parse.proofs.FormedPrograms.{spelled_formed}
use Rattle.sot_rules.specs.First.{IsFaultless}
use Rattle.sot_lang.specs.declared.cert.Cells.{Cells}
use Rattle.sot_lang.specs.declared.tables.ModuleInfo.{ModuleInfo}
use Rattle.sot_lang.specs.Tables.{Tables}
use Rattle.sot_regions_rewrite.specs.declared.modules.ModuleRegions.{ModuleRegions}
use Rattle.sot_regions_rewrite.specs.OtherRegions.{with_regions}
use Rattle.sot_law_regions_rewrite.proofs.Formed.{stay_formed}
use Rattle.sot_law_regions_rewrite.proofs.Faultless.{stay_faultless}
use Rattle.sot_regions_program.specs.Findings.{IsFinding}
use Rattle.sot_regions_program.specs.Steps.{AreFindings, MayTake}
use Rattle.sot_regions_program.proofs.Boxes.{last_or, at_last}

-- nothing is found before the first module
pub none_yet : (t : Tables) → AreFindings t [] [] 0
none_yet t = record { regions_count = refl; cells_count = refl; each = λ m a r at_a at_r. absurd (none-some r at_r) }

-- one module more
pub one_finding : (t : Tables) (regions : List ModuleRegions) (cells : List (Option Cells)) (k : ℕ) (r : ModuleRegions) (c : Cells)
    → AreFindings t regions cells k
    → ((a : ModuleInfo) → At t.modules k a → IsFinding a r c) → AreFindings t (regions ++ r ∷ []) (cells ++ Some c ∷ []) (k + 1)
one_finding t regions cells k r c found one =
    let regions_counted = found.regions_count in
    let cells_counted = found.cells_count in
    record {
      regions_count = omega (arith, regions_counted, length-append regions (r ∷ []));
      cells_count = omega (arith, cells_counted, length-append cells (Some c ∷ []));
      each = λ m a x at_a at_x. by m a x at_a (last_or regions r m x at_x);
    }
  where
    by : (m : ℕ) (a : ModuleInfo) (x : ModuleRegions) → At t.modules m a → At regions m x ⊎ ((m ≡ length regions) × (r ≡ x))
        → (d : Cells) × At (cells ++ Some c ∷ []) m (Some d) × IsFinding a x d
    by m a x at_a (inl before) = (let own = found.each m a x at_a before in (own.0, at_front cells (Some c ∷ []) m (Some own.0) own.1, own.2))
    by m a x at_a (inr (last, same)) = (
      c,
      subst (λ (n : ℕ). At (cells ++ Some c ∷ []) n (Some c)) (sym (last ∙ found.regions_count ∙ sym found.cells_count)) (at_last cells (Some c)),
      subst (λ (y : ModuleRegions). IsFinding a y c) same (one a (subst (λ (n : ℕ). At t.modules n a) (last ∙ found.regions_count) at_a)),
    )

-- the program that takes what was found is formed, and breaks no rule of typing
module _ (bytes : List ℕ) (regions : List ModuleRegions) (given changed : Program) (may : MayTake bytes regions) (spelled : Spells bytes 0 given)
    (is : changed ≡ with_regions regions given) where
  changed_is : changed ≡ with_regions regions may.0
  changed_is = is ∙ ap (with_regions regions) (spells_unique bytes 0 given may.0 spelled may.2.0)

  pub changed_formed : IsFormed changed
  changed_formed = subst (λ (q : Program). IsFormed q) (sym changed_is) (stay_formed regions may.0 (spelled_formed bytes 0 may.0 may.2.0) may.3)

  pub changed_faultless : IsFaultless changed
  changed_faultless = subst (λ (q : Program). IsFaultless q) (sym changed_is) (stay_faultless regions may.0 may.2.1.faultless may.3)

pub given_is : (bytes : List ℕ) (regions : List ModuleRegions) (given changed p : Program) → Spells bytes 0 given → changed ≡ with_regions regions given
    → Spells bytes 0 p → changed ≡ with_regions regions p
given_is bytes regions given changed p spelled is spells = is ∙ ap (with_regions regions) (spells_unique bytes 0 given p spelled spells)
