-- The text of a draft tells the draft.
use Rattle.std.proofs.Common.{◌≡◌, ℕ, suc, ℤ, ◌≤◌, Bool, true, false, List, [], ◌∷◌, ◌++◌, Option, Some, None, length, refl, sym, ap, ◌∙◌, arith, drop}
use Rattle.std.proofs.Common.{append_assoc}
use Rattle.std.proofs.lemmas.List.{append_cancel_left}
use Rattle.sot_lang.specs.declared.tables.ScalarInfo.{ScalarInfo}
use Rattle.sot_lang.specs.Tables.{Tables}
use Rattle.sot_lang.specs.TableRules.{MeetsTableRules}
use Rattle.sot_lists.specs.Places.{At, Has}
use Rattle.sot_trace.specs.Names.{scalar_name}
use Rattle.sot_trace.specs.Numbers.{signed_numeral}
use Rattle.sot_trace.specs.Words.{AreWords}
use Rattle.sot_trace.specs.Drafts.{is_in_range, mark, slot_text, draft_text}
use Rattle.sot_trace.proofs.Splits.{Stops, cut_same}
use Rattle.sot_trace.proofs.NumberTexts.{in_number, signed_in, signed_same}
use Rattle.sot_trace.proofs.NameTexts.{in_name, scalar_in, scalar_same}

-- the slots of the scalars of a list are there
abbrev pub AreThere : Tables → List ℕ → Type 0
AreThere p [] = Unit {0}
AreThere p (k ∷ ks) = ((info : ScalarInfo) × At p.scalars k info) × AreThere p ks

-- no scalar stands twice
abbrev pub AreApart : List ℕ → Type 0
AreApart [] = Unit {0}
AreApart (k ∷ ks) = (Has ks k → ⊥) × AreApart ks

pub mark_stops : (b : Bool) (x : List ℕ) → Stops in_name (mark b ++ x)
mark_stops true x = refl
mark_stops false x = refl

mark_past : (b : Bool) (x : List ℕ) → drop 1 (mark b ++ x) ≡ x
mark_past true x = refl
mark_past false x = refl

module _ (p : Tables) where
  -- a slot's text begins with a blank and the scalar's name
  slot_opens : (k : ℕ) (z : ℤ) (x : List ℕ) → slot_text p k (Some z) ++ x ≡ 32 ∷ (scalar_name p k ++ (mark (is_in_range p k z) ++ (signed_numeral z ++ x)))
  slot_opens k z x =
      let m = mark (is_in_range p k z) in
      ap (λ y. 32 ∷ y) (append_assoc (scalar_name p k) (m ++ signed_numeral z) x ∙ ap (λ y. scalar_name p k ++ y) (append_assoc m (signed_numeral z) x))

  pub draft_stops : (q : ℕ → Bool) → q 32 ≡ false → (ks : List ℕ) (d : List (Option ℤ)) → Stops q (draft_text p ks d)
  draft_stops q blank [] d = tt
  draft_stops q blank (k ∷ ks) [] = tt
  draft_stops q blank (k ∷ ks) (None ∷ d) = draft_stops q blank ks d
  draft_stops q blank (k ∷ ks) (Some z ∷ d) = blank

module _ (p : Tables) (rules : MeetsTableRules p) (words : AreWords p) where
  -- a scalar that is named first is in the list
  later : (k : ℕ) (info : ScalarInfo) → At p.scalars k info → (x : List ℕ) → Stops in_name x → (ks : List ℕ) → AreThere p ks → (d : List (Option ℤ))
      → draft_text p ks d ≡ 32 ∷ (scalar_name p k ++ x) → Has ks k
  later k info at x stops [] there d e = absurd cc
  later k info at x stops (j ∷ ks) there [] e = absurd cc
  later k info at x stops (j ∷ ks) there (None ∷ d) e = (let has = later k info at x stops ks there.1 d e in (suc has.0, has.1))
  later k info at x stops (j ∷ ks) there (Some z ∷ d) e =
      let m = mark (is_in_range p j z) in
      let whole : scalar_name p j ++ (m ++ (signed_numeral z ++ draft_text p ks d)) ≡ scalar_name p k ++ x =
      ap (drop 1) (sym (slot_opens p j z (draft_text p ks d)) ∙ e) in
      let parts = cut_same in_name (scalar_name p j) (scalar_name p k) _ x (scalar_in p rules words j there.0.0 there.0.1) (scalar_in p rules words k info at)
      (mark_stops (is_in_range p j z) _) stops whole in
      (0, ap Some (scalar_same p rules words j k there.0.0 info there.0.1 at parts.0))

  -- one slot is drafted, and the other is not
  one_is_not : (k : ℕ) (ks : List ℕ) → AreThere p (k ∷ ks) → AreApart (k ∷ ks) → (z : ℤ) (x : List ℕ) (d : List (Option ℤ))
      → draft_text p ks d ≡ slot_text p k (Some z) ++ x → ⊥
  one_is_not k ks there apart z x d e = apart.0 (later k there.0.0 there.0.1 _ (mark_stops (is_in_range p k z) _) ks there.1 d (e ∙ slot_opens p k z x))

  -- two drafts of the same scalars, with nothing different behind them
  pub draft_same : (ks : List ℕ) → AreThere p ks → AreApart ks → (d e : List (Option ℤ)) → length ks ≤ length d → length ks ≤ length e
      → drop (length ks) d ≡ drop (length ks) e → draft_text p ks d ≡ draft_text p ks e → d ≡ e
  draft_same [] there apart d e ld le rest same = rest
  draft_same (k ∷ ks) there apart [] e ld le rest same = absurd (omega arith)
  draft_same (k ∷ ks) there apart (x ∷ d) [] ld le rest same = absurd (omega arith)
  draft_same (k ∷ ks) there apart (None ∷ d) (None ∷ e) ld le rest same =
      ap (λ y. None ∷ y) (draft_same ks there.1 apart.1 d e (omega arith) (omega arith) rest same)
  draft_same (k ∷ ks) there apart (None ∷ d) (Some w ∷ e) ld le rest same = absurd (one_is_not k ks there apart w (draft_text p ks e) d same)
  draft_same (k ∷ ks) there apart (Some z ∷ d) (None ∷ e) ld le rest same = absurd (one_is_not k ks there apart z (draft_text p ks d) e (sym same))
  draft_same (k ∷ ks) there apart (Some z ∷ d) (Some w ∷ e) ld le rest same =
      let whole = sym (slot_opens p k z (draft_text p ks d)) ∙ same ∙ slot_opens p k w (draft_text p ks e) in
      let marked = append_cancel_left (scalar_name p k) _ _ (ap (drop 1) whole) in
      let bare : signed_numeral z ++ draft_text p ks d ≡ signed_numeral w ++ draft_text p ks e = sym (mark_past (is_in_range p k z) _) ∙ ap (drop 1) marked
      ∙ mark_past (is_in_range p k w) _ in
      let parts = cut_same in_number (signed_numeral z) (signed_numeral w) (draft_text p ks d) (draft_text p ks e) (signed_in z) (signed_in w)
      (draft_stops p in_number refl ks d) (draft_stops p in_number refl ks e) bare in
      let first : z ≡ w = signed_same z w parts.0 in
      let more : d ≡ e = draft_same ks there.1 apart.1 d e (omega arith) (omega arith) rest parts.1 in
      cc
