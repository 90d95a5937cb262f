-- The ranks of the cells of a module, by what shrinking and growing promise.
use Rattle.std.proofs.Common.{◌≡◌, ℕ, ◌<◌, ◌≤◌, Bool, inl, inr, ⊎_elim, List, length, sym, ap, ◌∙◌}
use Rattle.std.proofs.Common.{subst, arith}
use Rattle.std.proofs.lemmas.Option.{slice_get_within}
use Rattle.sot_lists.specs.Places.{At}
use Rattle.sot_lists.proofs.Places.{at_below}
use Rattle.sot_box.specs.Sides.{Side}
use Rattle.sot_lang.specs.declared.cert.Cert.{Cert}
use Rattle.sot_lang.specs.Tables.{Tables}
use Rattle.sot_law_runs.specs.Holds.{Guarded}
use Rattle.sot_recover.specs.Sets.{IsSet, KeepIn, AreRanks, at_most}
use Rattle.sot_recover.proofs.Sets.{set_below}
use Rattle.sot_recover.specs.Grounds.{LandsInSet, IsGround}
use Rattle.sot_recover.specs.Surveys.{IsSurveyed}
use Rattle.sot_recover.specs.Found.{AreRanksOf}
use Rattle.sot_recover.proofs.Glue.{AreFlagged, lands_of, ranks_are_so}
use Rattle.sot_recover.proofs.Grounds.{for_each_account}

module _ (p : Tables) (cert : Cert) (m : ℕ) (cells hulls : List (List Side)) (ground : IsGround p cert m cells hulls) (flags set : List Bool)
    (leaving ranks : List ℕ) (surveyed : IsSurveyed p cert m (length cells) cells hulls flags leaving) where
  pub ranked :
      ((i : ℕ) → IsSet set i → IsSet flags i) → ((i : ℕ) → IsSet set i → LandsInSet p cert m set i) →
      ((all : List Bool) → KeepIn (LandsInSet p cert m) all flags → KeepIn (LandsInSet p cert m) all set) →
      length ranks ≡ length cells → length cells ≤ 4096 → AreRanks (LandsInSet p cert m) set ranks → (g : Guarded p cert m) → AreRanksOf g ranks
  ranked fewer keeps greatest size few are g = ranks_are_so g flags set ranks flagged fewer (λ i e. keeps i e g) greatest' size' are' (omega (arith, size, few))
    where
      cells_are : cells ≡ g.cells.closed.boxes
      cells_are = ground.cells_are g

      size' : length ranks ≡ length g.cells.closed.boxes
      size' = size ∙ ap length cells_are

      flagged : AreFlagged g flags
      flagged i = (
        λ e. (let lt : i < length cells = (let a = set_below flags i e in let n = surveyed.set_count in omega (arith, a, n)) in
            let cell = at_below cells i lt in
            (cell.0, subst (λ cs. At cs i cell.0) cells_are cell.1, (surveyed.set_are g i cell.0 lt cell.1).0 e)),
        λ h. (let at : At cells i h.0 = subst (λ cs. At cs i h.0) (sym cells_are) h.1 in (surveyed.set_are g i h.0 (slice_get_within cells i h.0 at) at).1 h.2),
      )

      greatest' : (all : List Bool) → KeepIn (lands_of g) all flags → KeepIn (lands_of g) all set
      greatest' all h = record {
        inside = (greatest all (record { inside = h.inside; land = λ i e. for_each_account p cert m g all i (h.land i e) })).inside;
        land = h.land;
      }

      are' : AreRanks (lands_of g) set ranks
      are' = record {
        zero_are = are.zero_are;
        next_are = λ k i low lt. (let w = are.next_are k i low lt in (
          λ e. ⊎_elim (λ x. inl x) (λ y. inr (y g)) (w.0 e),
          λ h. w.1 (⊎_elim (λ x. inl x) (λ y. inr (for_each_account p cert m g (at_most k ranks) i y)) h),
        ));
        few = are.few;
        last_are = λ i lt l. are.last_are i lt (for_each_account p cert m g (at_most (length ranks) ranks) i l);
      }
