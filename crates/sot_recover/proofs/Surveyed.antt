-- One cell more is surveyed.
use Rattle.std.proofs.Common.{◌≡◌, ℕ, ◌+◌, ◌<◌, Bool, true, false, ◌⊎◌, ◌↔◌, inl, inr, ⊎_elim, List, [], ◌∷◌, ◌++◌, length, sym, ap, ◌∙◌, subst}
use Rattle.std.proofs.Common.{arith, length-append}
use Rattle.std.specs.Prelude.{slice_index_or}
use Rattle.std.proofs.lemmas.List.{get_or_append_left}
use Rattle.std.proofs.Math.Seq.{get_or-append_seam}
use Rattle.sot_lists.specs.Places.{At, Has}
use Rattle.sot_lists.proofs.Places.{at_same}
use Rattle.sot_box.specs.Sides.{Side}
use Rattle.sot_lang.specs.declared.cert.Cert.{Cert}
use Rattle.sot_lang.specs.Tables.{Tables}
use Rattle.sot_law_runs.specs.Holds.{Guarded}
use Rattle.sot_law_runs.specs.Ranks.{StaysSafer}
use Rattle.sot_recover.proofs.Sets.{flag_cases, one_more}
use Rattle.sot_recover.specs.Grounds.{IsHullOf}
use Rattle.sot_recover.specs.Surveys.{IsSurveyed}
use Rattle.sot_recover.proofs.Boxes.{at_more}

module _ (p : Tables) (cert : Cert) (m i : ℕ) (cells hulls : List (List Side)) (set : List Bool) (leaving : List ℕ)
    (old : IsSurveyed p cert m i cells hulls set leaving) (cell hull : List Side) (at : At cells i cell) (stays : Bool) where
  set_left : (j : ℕ) → j < i → slice_index_or (set ++ stays ∷ []) j false ≡ slice_index_or set j false
  set_left j lt = (let n = old.set_count in get_or_append_left set (stays ∷ []) false j (omega (arith, lt, n)))

  set_seam : slice_index_or (set ++ stays ∷ []) i false ≡ stays
  set_seam = subst (λ n. slice_index_or (set ++ stays ∷ []) n false ≡ stays) old.set_count (get_or-append_seam set stays [] false)

  pub surveyed_more :
      ((g : Guarded p cert m) → IsHullOf g cell hull) → ((g : Guarded p cert m) → (stays ≡ true) ↔ StaysSafer g cell)
      → (hulls' : List (List Side)) (set' : List Bool) (leaving' : List ℕ) →
      hulls' ≡ hulls ++ hull ∷ [] → set' ≡ set ++ stays ∷ [] → ((k : ℕ) → Has leaving' k ↔ (Has leaving k ⊎ ((k ≡ i) × (stays ≡ false))))
      → IsSurveyed p cert m (i + 1) cells hulls' set' leaving'
  surveyed_more is_hull is_safer hulls' set' leaving' hulls_is set_is leaving_is = record {
    hulls_count = ap length hulls_is ∙ length-append hulls (hull ∷ []) ∙ ap (λ n. n + 1) old.hulls_count;
    set_count = ap length set_is ∙ length-append set (stays ∷ []) ∙ ap (λ n. n + 1) old.set_count;
    hulls_are =
        λ g j c h at_c at_h. at_more hulls hull j h (λ k x. (d : List Side) → At cells k d → IsHullOf g d x)
        (λ k x at_x d at_d. old.hulls_are g k d x at_d at_x)
        (λ d at_d. (let one : cell ≡ d = at_same cells i cell d at (subst (λ n. At cells n d) old.hulls_count at_d) in
        subst (λ (q : List Side). IsHullOf g q hull) one (is_hull g)))
        (subst (λ l. At l j h) hulls_is at_h) c at_c;
    set_are = λ g j c lt at_c. ⊎_elim
        (λ (before : j < i). let w = old.set_are g j c before at_c in let e = ap (λ l. slice_index_or l j false) set_is ∙ set_left j before in
        (λ s. w.0 (sym e ∙ s), λ s. e ∙ w.1 s))
        (λ (here : j ≡ i).
        let one : cell ≡ c = at_same cells i cell c at (subst (λ n. At cells n c) here at_c) in
        let w = is_safer g in
        let e : slice_index_or set' j false ≡ stays = ap (λ l. slice_index_or l j false) set_is
        ∙ subst (λ n. slice_index_or (set ++ stays ∷ []) n false ≡ stays) (sym here) set_seam in
        (λ s. subst (StaysSafer g) one (w.0 (sym e ∙ s)), λ s. e ∙ w.1 (subst (StaysSafer g) (sym one) s)))
        (one_more j i lt);
    leaving_are = λ j lt. ⊎_elim
        (λ (before : j < i). ⊎_elim (λ s. inl (ap (λ l. slice_index_or l j false) set_is ∙ set_left j before ∙ s)) (λ h. inr ((leaving_is j).1 (inl h)))
        (old.leaving_are j before))
        (λ (here : j ≡ i). ⊎_elim
        (λ y. inl (ap (λ l. slice_index_or l j false) set_is ∙ subst (λ n. slice_index_or (set ++ stays ∷ []) n false ≡ stays) (sym here) set_seam ∙ y))
        (λ n. inr ((leaving_is j).1 (inr (here, n))))
        (flag_cases stays))
        (one_more j i lt);
  }
