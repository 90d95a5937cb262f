-- Lists that are made element by element.
use Rattle.std.proofs.Common.{◌≡◌, ℕ, zero, suc, ◌+◌, ◌<◌, ◌≤◌, List, [], ◌∷◌, ◌++◌, length, take, drop, map, zip, get_or, Some, sym, ap, ap₂, ◌∙◌, arith}
use Rattle.std.proofs.Common.{min, subst}
use Rattle.std.specs.Prelude.{slice_set}
use Rattle.std.proofs.lemmas.List.{take_more, take_all, length-map}
use Rattle.std.proofs.lemmas.Slice.Zip.{length-zip}
use Rattle.std.proofs.lemmas.Option.{none-some, same_Some, slice_get_within, get_or_from_slice_get}
use Rattle.sot_lists.specs.Places.{At}
use Rattle.sot_syntax_tree.specs.declared.tree.BoxDecl.{BoxDecl}
use Rattle.sot_syntax_tree.specs.TreeViews.{area_view}
use Rattle.sot_syntax_tree.specs.Trees.{Declaration}
use Rattle.sot_box.specs.Sides.{Side}
use Rattle.sot_regions_rewrite.specs.declared.modules.ModuleRegions.{ModuleRegions}
use Rattle.sot_regions_rewrite.specs.OtherRegions.{area_like, areas_like, declaration_with, left_behind, declarations_with}

-- the pair at a place
pub zip_at : {A B : Type 0} (xs : List A) (ys : List B) (i : ℕ) (x : A) (y : B) → At xs i x → At ys i y → At (zip xs ys) i (x, y)
zip_at [] ys i x y a b = absurd (none-some x a)
zip_at (p ∷ ps) [] i x y a b = absurd (none-some y b)
zip_at (p ∷ ps) (q ∷ qs) zero x y a b = ap₂ (λ u v. Some (u, v)) (same_Some p x a) (same_Some q y b)
zip_at (p ∷ ps) (q ∷ qs) (suc i) x y a b = zip_at ps qs i x y a b

-- one element more
pub one_more : {A : Type 0} (xs : List A) (i : ℕ) (x : A) (done after : List A) → At xs i x → done ≡ take i xs → after ≡ done ++ x ∷ []
    → after ≡ take (i + 1) xs
one_more xs i x done after at before is =
    is ∙ ap (λ ys. ys ++ x ∷ []) before
    ∙ sym (take_more xs i x (slice_get_within xs i x at) ∙ ap (λ y. take i xs ++ y ∷ []) (get_or_from_slice_get xs i x x at))

-- all pairs, each changed
pub all_pairs : {A B C : Type 0} (f : A × B → C) (xs : List A) (ys : List B) (count i : ℕ) (done : List C) → count ≡ min (length xs) (length ys) → count ≤ i
    → done ≡ take i (map f (zip xs ys))
    → done ≡ map f (zip xs ys)
all_pairs f xs ys count i done is past made =
    let long : length (map f (zip xs ys)) ≡ min (length xs) (length ys) = length-map (zip xs ys) f ∙ length-zip xs ys in
    let whole : length (map f (zip xs ys)) ≤ i = subst (λ n. n ≤ i) (is ∙ sym long) past in
    made ∙ take_all i (map f (zip xs ys)) whole

-- the first given box
pub first_like : (given : List BoxDecl) (like : BoxDecl) (found : List (List Side)) → 0 < length given → like ≡ get_or given 0 like
    → areas_like (map area_view given) found ≡ map (area_like (area_view like)) found
first_like [] like found some is = absurd (omega (arith, some))
first_like (g ∷ gs) like found some is = ap (λ (b : BoxDecl). map (area_like (area_view b)) found) (sym is)

-- one declaration more
pub one_declaration : (ds : List Declaration) (k : ℕ) (d e : Declaration) (left after : List ModuleRegions) → At ds k d → e ≡ declaration_with left d
    → after ≡ left_behind d left
    → take (suc k) (slice_set ds k e) ++ declarations_with after (drop (suc k) (slice_set ds k e)) ≡ take k ds ++ declarations_with left (drop k ds)
one_declaration [] k d e left after at is behind = absurd (none-some d at)
one_declaration (v ∷ vs) zero d e left after at is behind =
    let same : v ≡ d = same_Some v d at in
    ap₂ (λ (x : Declaration) (rs : List ModuleRegions). x ∷ declarations_with rs vs) (is ∙ ap (declaration_with left) (sym same))
    (behind ∙ ap (λ (x : Declaration). left_behind x left) (sym same))
one_declaration (v ∷ vs) (suc k) d e left after at is behind = ap (λ (ws : List Declaration). v ∷ ws) (one_declaration vs k d e left after at is behind)
