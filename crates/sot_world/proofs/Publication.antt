-- What a firing publishes, scalar by scalar.
use Rattle.std.proofs.Common.{◌≡◌, ℕ, ℤ, pos, true, false, ⊎_elim, List, [], Some, None, sym, ap, ◌∙◌, arith}
use Rattle.std.specs.Prelude.{slice_index_or}
use Rattle.std.proofs.lemmas.Bool.{cases_Bool}
use Rattle.std.proofs.lemmas.List.{get_or-set_same}
use Rattle.std.proofs.lemmas.Option.{slice_get_within}
use Rattle.sot_lang.specs.Ranges.{range_of}
use Rattle.sot_lists.specs.Places.{At}
use Rattle.sot_box.specs.Sides.{IsIn}
use Rattle.sot_world.specs.Configurations.{number_of}
use Rattle.sot_world.specs.Steps.{is_enabled, publish, published}
use Rattle.sot_world.specs.Publication.{FiringsPublishSo}
use Rattle.sot_world.proofs.Publishes.{publish_set, publish_kept, publish_other}

pub firings_publish_so : FiringsPublishSo
firings_publish_so p n node locals draft C D typed sized at f = record {
  taken = λ i k z e at_w at_d inside. at_scalar k (on e)
      ∙ publish_set p node.writes.items draft C.scalars i k z once at_w at_d inside (omega (arith, typed.inside n node k at (i, at_w), sized.scalars));
  refused =
      λ i k z at_w at_d outside. stays k (publish_kept p node.writes.items draft C.scalars i k once at_w
      (λ y at_y inside. outside (subst_z i y z at_y at_d k inside)));
  not_drafted = λ i k at_w at_d. stays k (publish_kept p node.writes.items draft C.scalars i k once at_w (λ y at_y inside. nothing i y at_y at_d));
  not_written = λ k has. stays k (publish_other p node.writes.items draft C.scalars k has);
  disabled = off;
  locals_new =
      ap (λ l. slice_index_or l n []) f.locals_set ∙ get_or-set_same C.locals n locals [] (omega (arith, slice_get_within p.nodes n node at, sized.locals));
}
  where
    once : (a b k : ℕ) → At node.writes.items a k → At node.writes.items b k → a ≡ b
    once a b k x y = typed.once n node a b k at x y

    on : is_enabled p C n ≡ true → D.scalars ≡ publish p node.writes.items draft C.scalars
    on e = f.scalars ∙ ap (λ b. published b p node.writes.items draft C.scalars) e

    off : is_enabled p C n ≡ false → D.scalars ≡ C.scalars
    off e = f.scalars ∙ ap (λ b. published b p node.writes.items draft C.scalars) e

    at_scalar : {xs ys : List ℤ} (k : ℕ) → xs ≡ ys → slice_index_or xs k (pos 0) ≡ slice_index_or ys k (pos 0)
    at_scalar k e = ap (λ xs. slice_index_or xs k (pos 0)) e

    stays : (k : ℕ) → slice_index_or (publish p node.writes.items draft C.scalars) k (pos 0) ≡ number_of C k → number_of D k ≡ number_of C k
    stays k e = ⊎_elim (λ yes'. at_scalar k (on yes') ∙ e) (λ no'. at_scalar k (off no')) (cases_Bool (is_enabled p C n))

    subst_z : (i : ℕ) (y z : ℤ) → At draft i (Some y) → At draft i (Some z) → (k : ℕ) → IsIn (range_of p.scalars k) y → IsIn (range_of p.scalars k) z
    subst_z i y z a b k inside =
        let same : y ≡ z = cc in
        rw (sym same) inside

    nothing : (i : ℕ) (y : ℤ) → At draft i (Some y) → At draft i None → ⊥
    nothing i y a b = cc
