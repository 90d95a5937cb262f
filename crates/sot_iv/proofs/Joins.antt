-- Two lists joined place by place, as far as a loop has come.
use Rattle.std.proofs.Common.{◌≡◌, ℕ, ◌+◌, ◌<◌, List, [], ◌∷◌, ◌++◌, take, drop, length, get_or, refl, sym, ap, ap₂, ◌∙◌, arith, length-take-le}
use Rattle.std.specs.Prelude.{slice_set}
use Rattle.std.proofs.lemmas.List.{take_more, take_more_set, drop_more, drop-set-lt}
use Rattle.std.proofs.lemmas.Grind.{drop_more_same}
use Rattle.sot_box.specs.Sides.{Side}
use Rattle.sot_iv.specs.declared.drafted.Drafted.{Drafted}
use Rattle.sot_iv.specs.Ends.{hull}
use Rattle.sot_iv.specs.Evaluation.{hulls, joined_draft, joined_drafts}

-- one more hull
pub hulls_more : (as' bs : List Side) (a b : Side) → length as' ≡ length bs → hulls (as' ++ a ∷ []) (bs ++ b ∷ []) ≡ hulls as' bs ++ hull a b ∷ []
hulls_more [] [] a b e = refl
hulls_more (x ∷ as') (y ∷ bs) a b e = ap (λ l. hull x y ∷ l) (hulls_more as' bs a b (omega (arith, e)))
hulls_more [] (y ∷ bs) a b e = absurd (omega (arith, e))
hulls_more (x ∷ as') [] a b e = absurd (omega (arith, e))

pub drafts_more : (as' bs : List Drafted) (a b : Drafted) → length as' ≡ length bs
    → joined_drafts (as' ++ a ∷ []) (bs ++ b ∷ []) ≡ joined_drafts as' bs ++ joined_draft a b ∷ []
drafts_more [] [] a b e = refl
drafts_more (x ∷ as') (y ∷ bs) a b e = ap (λ l. joined_draft x y ∷ l) (drafts_more as' bs a b (omega (arith, e)))
drafts_more [] (y ∷ bs) a b e = absurd (omega (arith, e))
drafts_more (x ∷ as') [] a b e = absurd (omega (arith, e))

-- what is still to be joined stands as before
pub left_step : {A : Type 0} (second cur : List A) (i : ℕ) (r : A) → drop i cur ≡ drop i second → drop (i + 1) (slice_set cur i r) ≡ drop (i + 1) second
left_step second cur i r left = drop-set-lt (i + 1) cur i r (omega arith) ∙ drop_more_same cur second i left

same_here : {A : Type 0} (second cur : List A) (i : ℕ) (b : A) → i < length cur → i < length second → drop i cur ≡ drop i second → b ≡ get_or cur i b
    → b ≡ get_or second i b
same_here second cur i b lt lt' left is =
    let e : get_or cur i b ∷ drop (i + 1) cur ≡ get_or second i b ∷ drop (i + 1) second = sym (drop_more cur i b lt) ∙ left ∙ drop_more second i b lt' in
    is ∙ heads e
  where
    heads : {A : Type 0} {x y : A} {xs ys : List A} → x ∷ xs ≡ y ∷ ys → x ≡ y
    heads e = cc

pub drafts_step : (first second cur : List Drafted) (i : ℕ) (a b r : Drafted) → i < length first → length first ≡ length second → length cur ≡ length second
    → a ≡ get_or first i a → b ≡ get_or cur i b → r ≡ joined_draft a b
    → take i cur ≡ joined_drafts (take i first) (take i second) → drop i cur ≡ drop i second
    → take (i + 1) (slice_set cur i r) ≡ joined_drafts (take (i + 1) first) (take (i + 1) second)
drafts_step first second cur i a b r lt e f is_a is_b is_r done left =
    let lt_c : i < length cur = omega (arith, lt, e, f) in
    let lt_s : i < length second = omega (arith, lt, e) in
    let sizes : length (take i first) ≡ length (take i second) = length-take-le i first (omega (arith, lt))
    ∙ sym (length-take-le i second (omega (arith, lt_s))) in
    let t1 : take (i + 1) first ≡ take i first ++ a ∷ [] = take_more first i a lt ∙ ap (λ x. take i first ++ x ∷ []) (sym is_a) in
    let t2 : take (i + 1) second ≡ take i second ++ b ∷ [] = take_more second i b lt_s
    ∙ ap (λ x. take i second ++ x ∷ []) (sym (same_here second cur i b lt_c lt_s left is_b)) in
    take_more_set cur i r lt_c ∙ ap₂ (λ l x. l ++ x ∷ []) done is_r ∙ sym (drafts_more (take i first) (take i second) a b sizes) ∙ sym (ap₂ joined_drafts t1 t2)

pub hulls_step : (first second cur : List Side) (i : ℕ) (a b r : Side) → i < length first → length first ≡ length second → length cur ≡ length second
    → a ≡ get_or first i a → b ≡ get_or cur i b → r ≡ hull a b
    → take i cur ≡ hulls (take i first) (take i second) → drop i cur ≡ drop i second
    → take (i + 1) (slice_set cur i r) ≡ hulls (take (i + 1) first) (take (i + 1) second)
hulls_step first second cur i a b r lt e f is_a is_b is_r done left =
    let lt_c : i < length cur = omega (arith, lt, e, f) in
    let lt_s : i < length second = omega (arith, lt, e) in
    let sizes : length (take i first) ≡ length (take i second) = length-take-le i first (omega (arith, lt))
    ∙ sym (length-take-le i second (omega (arith, lt_s))) in
    let t1 : take (i + 1) first ≡ take i first ++ a ∷ [] = take_more first i a lt ∙ ap (λ x. take i first ++ x ∷ []) (sym is_a) in
    let t2 : take (i + 1) second ≡ take i second ++ b ∷ [] = take_more second i b lt_s
    ∙ ap (λ x. take i second ++ x ∷ []) (sym (same_here second cur i b lt_c lt_s left is_b)) in
    take_more_set cur i r lt_c ∙ ap₂ (λ l x. l ++ x ∷ []) done is_r ∙ sym (hulls_more (take i first) (take i second) a b sizes) ∙ sym (ap₂ hulls t1 t2)
