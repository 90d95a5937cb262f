-- Why a text has no meaning.
use Rattle.std.proofs.Common.{◌≡◌, ◌≢◌, ℕ, ◌≤◌, ◌<◌, ◌==◌, ◌||◌, not, Bool, true, false, length, Option, Some, None, inl, inr, ⊎_elim, ◌⊎◌}
use Rattle.std.proofs.Common.{refl, sym, ap, ap₂, subst, ◌∙◌, arith}
use Rattle.std.proofs.lemmas.Bool.{false≢true}
use Rattle.std.proofs.lemmas.Option.{none-some, same_Some}
use Rattle.sot_lang.specs.Tables.{Tables}
use Rattle.sot_lang.specs.TableRules.{MeetsTableRules}
use Rattle.sot_syntax_tree.specs.declared.tree.Lit.{Lit}
use Rattle.sot_expression.specs.Lexemes.{literal}
use Rattle.sot_formula.specs.declared.quantity.Quantity.{Quantity}
use Rattle.sot_formula.specs.declared.quantity.Comparison.{Comparison}
use Rattle.sot_formula.specs.declared.quantity.Pairing.{Pairing}
use Rattle.sot_formula.specs.declared.what.What.{What}
use Rattle.sot_formula.specs.declared.what.What.TheVariants as whats
use Rattle.sot_formula.specs.declared.words.Single.{Single}
use Rattle.sot_formula.specs.declared.words.Single.TheVariants as singles
use Rattle.sot_formula.specs.declared.words.Double.{Double}
use Rattle.sot_formula.specs.declared.words.Double.TheVariants as doubles
use Rattle.sot_formula.specs.declared.finding.FoundQuantity.{FoundQuantity}
use Rattle.sot_formula.specs.Formulas.{Formula}
use Rattle.sot_formula.specs.Phrases.{Relation, to_number, to_another, of_two}
use Rattle.sot_formula.specs.Phrases.{Reference, Literal, Phrase, a_truth, a_single, a_double, a_row, a_within, a_comparison, StandsIn}
use Rattle.sot_formula.specs.Meanings.{Names, NamesNothing, decimals, IsCompared, Means, AsksNothing, HasTwoScales, HasUnknown, HasOtherScale}
use Rattle.sot_formula.specs.Parts.{IsPlaced, ArePlaced, IsThere, LooksAt, AreThere}
use Rattle.sot_formula.specs.Words.{single_what, double_what}
use Rattle.sot_formula.specs.Reading.{Laid, place, put, compared, against, paired, ticks_of}
use Rattle.sot_formula.proofs.Laying.{found_of, by_of, pair_of, lit_of, laid_relation, laid}
use Rattle.sot_formula.proofs.Meant.{at_either, extends, found_names, names_found, names_there, or_true, differs_true, differs_is, lit_number}

or_left : (a b : Bool) → a ≡ true → (a || b) ≡ true
or_left true b e = refl
or_left false b e = absurd (false≢true e)

or_right : (a b : Bool) → b ≡ true → (a || b) ≡ true
or_right true b e = refl
or_right false b e = e

module _ (p : Tables) (rules : MeetsTableRules p) where
  -- a reference names nothing
  none_names : (r : Reference) → found_of p r ≡ None → NamesNothing p r
  none_names r is q scale h = none-some _ (sym is ∙ names_found p rules r q scale h)

  some_names : (r : Reference) (x : FoundQuantity) → found_of p r ≡ Some x → NamesNothing p r → ⊥
  some_names r x is none = none x.of x.scale (found_names p rules r x is)

  compared_unknown : (r : Reference) (c : Comparison) (z : Lit) (s : Laid) (o : Option FoundQuantity) → found_of p r ≡ o → (compared o c z s).unknown ≡ true
      → (s.unknown ≡ true) ⊎ NamesNothing p r
  compared_unknown r c z s None is e = inr (none_names r is)
  compared_unknown r c z s (Some x) is e = inl e

  against_unknown : (r q : Reference) (c : Comparison) (s : Laid) (o u : Option FoundQuantity) → found_of p r ≡ o → found_of p q ≡ u
      → (against o c u s).unknown ≡ true → (s.unknown ≡ true) ⊎ (NamesNothing p r ⊎ NamesNothing p q)
  against_unknown r q c s None u is is' e = inr (inl (none_names r is))
  against_unknown r q c s (Some x) None is is' e = inr (inr (none_names q is'))
  against_unknown r q c s (Some x) (Some y) is is' e = inl e

  paired_unknown : (r q : Reference) (j : Pairing) (c : Comparison) (z : Lit) (s : Laid) (o u : Option FoundQuantity) → found_of p r ≡ o → found_of p q ≡ u
      → (paired o j u c z s).unknown ≡ true → (s.unknown ≡ true) ⊎ (NamesNothing p r ⊎ NamesNothing p q)
  paired_unknown r q j c z s None u is is' e = inr (inl (none_names r is))
  paired_unknown r q j c z s (Some x) None is is' e = inr (inr (none_names q is'))
  paired_unknown r q j c z s (Some x) (Some y) is is' e = inl e

  relation_unknown : (c : Relation) (s : Laid) → (laid_relation p c s).unknown ≡ true → (s.unknown ≡ true) ⊎ AsksNothing p c
  relation_unknown (to_number r by z) s e = compared_unknown r (by_of by) (lit_of z) s (found_of p r) refl e
  relation_unknown (to_another r by q) s e = against_unknown r q (by_of by) s (found_of p r) (found_of p q) refl refl e
  relation_unknown (of_two r pair q by z) s e = paired_unknown r q (pair_of pair) (by_of by) (lit_of z) s (found_of p r) (found_of p q) refl refl e

  pub unknown_set : (f : Phrase) (s : Laid) → (laid p f s).unknown ≡ true → (s.unknown ≡ true) ⊎ HasUnknown p f
  unknown_set (a_truth value t) s e = inl e
  unknown_set (a_single o w begin f end) s e = unknown_set f s e
  unknown_set (a_double o w begin row end) s e = unknown_set row s e
  unknown_set (a_row o f comma g) s e =
      ⊎_elim (λ a. ⊎_elim (λ b. inl b) (λ b. inr (inl b)) (unknown_set f s a)) (λ b. inr (inr b)) (unknown_set g (laid p f s) e)
  unknown_set (a_within w begin n comma f end) s e = unknown_set f s e
  unknown_set (a_comparison c) s e = relation_unknown c s e

  compared_stays : (c : Comparison) (z : Lit) (s : Laid) (o : Option FoundQuantity) → s.unknown ≡ true → (compared o c z s).unknown ≡ true
  compared_stays c z s None e = refl
  compared_stays c z s (Some x) e = e

  against_stays : (c : Comparison) (s : Laid) (o u : Option FoundQuantity) → s.unknown ≡ true → (against o c u s).unknown ≡ true
  against_stays c s None u e = refl
  against_stays c s (Some x) None e = refl
  against_stays c s (Some x) (Some y) e = e

  paired_stays : (j : Pairing) (c : Comparison) (z : Lit) (s : Laid) (o u : Option FoundQuantity) → s.unknown ≡ true → (paired o j u c z s).unknown ≡ true
  paired_stays j c z s None u e = refl
  paired_stays j c z s (Some x) None e = refl
  paired_stays j c z s (Some x) (Some y) e = e

  relation_stays : (c : Relation) (s : Laid) → s.unknown ≡ true → (laid_relation p c s).unknown ≡ true
  relation_stays (to_number r by z) s e = compared_stays (by_of by) (lit_of z) s (found_of p r) e
  relation_stays (to_another r by q) s e = against_stays (by_of by) s (found_of p r) (found_of p q) e
  relation_stays (of_two r pair q by z) s e = paired_stays (pair_of pair) (by_of by) (lit_of z) s (found_of p r) (found_of p q) e

  unknown_stays : (f : Phrase) (s : Laid) → s.unknown ≡ true → (laid p f s).unknown ≡ true
  unknown_stays (a_truth value t) s e = e
  unknown_stays (a_single o w begin f end) s e = unknown_stays f s e
  unknown_stays (a_double o w begin row end) s e = unknown_stays row s e
  unknown_stays (a_row o f comma g) s e = unknown_stays g (laid p f s) (unknown_stays f s e)
  unknown_stays (a_within w begin n comma f end) s e = unknown_stays f s e
  unknown_stays (a_comparison c) s e = relation_stays c s e

  compared_nothing : (r : Reference) (c : Comparison) (z : Lit) (s : Laid) (o : Option FoundQuantity) → found_of p r ≡ o → NamesNothing p r
      → (compared o c z s).unknown ≡ true
  compared_nothing r c z s None is h = refl
  compared_nothing r c z s (Some x) is h = absurd (some_names r x is h)

  against_nothing : (r q : Reference) (c : Comparison) (s : Laid) (o u : Option FoundQuantity) → found_of p r ≡ o → found_of p q ≡ u
      → NamesNothing p r ⊎ NamesNothing p q → (against o c u s).unknown ≡ true
  against_nothing r q c s None u is is' h = refl
  against_nothing r q c s (Some x) None is is' h = refl
  against_nothing r q c s (Some x) (Some y) is is' h = absurd (⊎_elim (λ a. some_names r x is a) (λ b. some_names q y is' b) h)

  paired_nothing : (r q : Reference) (j : Pairing) (c : Comparison) (z : Lit) (s : Laid) (o u : Option FoundQuantity) → found_of p r ≡ o → found_of p q ≡ u
      → NamesNothing p r ⊎ NamesNothing p q → (paired o j u c z s).unknown ≡ true
  paired_nothing r q j c z s None u is is' h = refl
  paired_nothing r q j c z s (Some x) None is is' h = refl
  paired_nothing r q j c z s (Some x) (Some y) is is' h = absurd (⊎_elim (λ a. some_names r x is a) (λ b. some_names q y is' b) h)

  relation_nothing : (c : Relation) (s : Laid) → AsksNothing p c → (laid_relation p c s).unknown ≡ true
  relation_nothing (to_number r by z) s h = compared_nothing r (by_of by) (lit_of z) s (found_of p r) refl h
  relation_nothing (to_another r by q) s h = against_nothing r q (by_of by) s (found_of p r) (found_of p q) refl refl h
  relation_nothing (of_two r pair q by z) s h = paired_nothing r q (pair_of pair) (by_of by) (lit_of z) s (found_of p r) (found_of p q) refl refl h

  pub unknown_kept : (f : Phrase) (s : Laid) → HasUnknown p f → (laid p f s).unknown ≡ true
  unknown_kept (a_truth value t) s h = absurd h
  unknown_kept (a_single o w begin f end) s h = unknown_kept f s h
  unknown_kept (a_double o w begin row end) s h = unknown_kept row s h
  unknown_kept (a_row o f comma g) s (inl h) = unknown_stays g (laid p f s) (unknown_kept f s h)
  unknown_kept (a_row o f comma g) s (inr h) = unknown_kept g (laid p f s) h
  unknown_kept (a_within w begin n comma f end) s h = unknown_kept f s h
  unknown_kept (a_comparison c) s h = relation_nothing c s h

  -- a comparison has two scales
  abbrev IsOther : Reference → Literal → Type 0
  IsOther r z = (q : Quantity) × (scale : ℕ) × Names p r q scale × (scale ≢ decimals z)

  compared_other : (r : Reference) (c : Comparison) (z : Literal) (s : Laid) (o : Option FoundQuantity) → found_of p r ≡ o → (compared o c (lit_of z) s).differs ≡ true
      → (s.differs ≡ true) ⊎ IsOther r z
  compared_other r c z s None is e = inl e
  compared_other r c z s (Some x) is e =
      ⊎_elim (λ a. inl a)
      (λ b. inr (x.of, x.scale, found_names p rules r x is, subst (λ n. x.scale ≢ n) (lit_number z).1 (differs_true x.scale (lit_of z).scale b)))
      (or_true s.differs (not (x.scale == (lit_of z).scale)) e)

  against_other : (r q : Reference) (c : Comparison) (s : Laid) (o u : Option FoundQuantity) → found_of p r ≡ o → found_of p q ≡ u
      → (against o c u s).differs ≡ true → (s.differs ≡ true) ⊎ ((a b : Quantity) × (m n : ℕ) × Names p r a m × Names p q b n × (m ≢ n))
  against_other r q c s None u is is' e = inl e
  against_other r q c s (Some x) None is is' e = inl e
  against_other r q c s (Some x) (Some y) is is' e =
      ⊎_elim (λ a. inl a)
      (λ b. inr (x.of, y.of, x.scale, y.scale, found_names p rules r x is, found_names p rules q y is', differs_true x.scale y.scale b))
      (or_true s.differs (not (x.scale == y.scale)) e)

  paired_other : (r q : Reference) (j : Pairing) (c : Comparison) (z : Literal) (s : Laid) (o u : Option FoundQuantity) → found_of p r ≡ o → found_of p q ≡ u
      → (paired o j u c (lit_of z) s).differs ≡ true
      → (s.differs ≡ true)
      ⊎ ((a b : Quantity) × (m n : ℕ) × Names p r a m × Names p q b n × ((m ≢ decimals z) ⊎ (n ≢ decimals z)))
  paired_other r q j c z s None u is is' e = inl e
  paired_other r q j c z s (Some x) None is is' e = inl e
  paired_other r q j c z s (Some x) (Some y) is is' e =
      let scale = (lit_of z).scale in
      let says : (n : ℕ) → not (n == scale) ≡ true → n ≢ decimals z = λ n d. subst (λ k. n ≢ k) (lit_number z).1 (differs_true n scale d) in
      ⊎_elim (λ a. inl a)
      (λ b. inr (
        x.of,
        y.of,
        x.scale,
        y.scale,
        found_names p rules r x is,
        found_names p rules q y is',
        ⊎_elim (λ d. inl (says x.scale d)) (λ d. inr (says y.scale d)) (or_true (not (x.scale == scale)) (not (y.scale == scale)) b),
      ))
      (or_true s.differs (not (x.scale == scale) || not (y.scale == scale)) e)

  relation_other : (c : Relation) (s : Laid) → (laid_relation p c s).differs ≡ true → (s.differs ≡ true) ⊎ HasTwoScales p c
  relation_other (to_number r by z) s e = compared_other r (by_of by) z s (found_of p r) refl e
  relation_other (to_another r by q) s e = against_other r q (by_of by) s (found_of p r) (found_of p q) refl refl e
  relation_other (of_two r pair q by z) s e = paired_other r q (pair_of pair) (by_of by) z s (found_of p r) (found_of p q) refl refl e

  pub differs_set : (f : Phrase) (s : Laid) → (laid p f s).differs ≡ true → (s.differs ≡ true) ⊎ HasOtherScale p f
  differs_set (a_truth value t) s e = inl e
  differs_set (a_single o w begin f end) s e = differs_set f s e
  differs_set (a_double o w begin row end) s e = differs_set row s e
  differs_set (a_row o f comma g) s e =
      ⊎_elim (λ a. ⊎_elim (λ b. inl b) (λ b. inr (inl b)) (differs_set f s a)) (λ b. inr (inr b)) (differs_set g (laid p f s) e)
  differs_set (a_within w begin n comma f end) s e = differs_set f s e
  differs_set (a_comparison c) s e = relation_other c s e

  compared_differs : (c : Comparison) (z : Lit) (s : Laid) (o : Option FoundQuantity) → s.differs ≡ true → (compared o c z s).differs ≡ true
  compared_differs c z s None e = e
  compared_differs c z s (Some x) e = or_left s.differs _ e

  against_differs : (c : Comparison) (s : Laid) (o u : Option FoundQuantity) → s.differs ≡ true → (against o c u s).differs ≡ true
  against_differs c s None u e = e
  against_differs c s (Some x) None e = e
  against_differs c s (Some x) (Some y) e = or_left s.differs _ e

  paired_differs : (j : Pairing) (c : Comparison) (z : Lit) (s : Laid) (o u : Option FoundQuantity) → s.differs ≡ true → (paired o j u c z s).differs ≡ true
  paired_differs j c z s None u e = e
  paired_differs j c z s (Some x) None e = e
  paired_differs j c z s (Some x) (Some y) e = or_left s.differs _ e

  relation_differs : (c : Relation) (s : Laid) → s.differs ≡ true → (laid_relation p c s).differs ≡ true
  relation_differs (to_number r by z) s e = compared_differs (by_of by) (lit_of z) s (found_of p r) e
  relation_differs (to_another r by q) s e = against_differs (by_of by) s (found_of p r) (found_of p q) e
  relation_differs (of_two r pair q by z) s e = paired_differs (pair_of pair) (by_of by) (lit_of z) s (found_of p r) (found_of p q) e

  differs_stays : (f : Phrase) (s : Laid) → s.differs ≡ true → (laid p f s).differs ≡ true
  differs_stays (a_truth value t) s e = e
  differs_stays (a_single o w begin f end) s e = differs_stays f s e
  differs_stays (a_double o w begin row end) s e = differs_stays row s e
  differs_stays (a_row o f comma g) s e = differs_stays g (laid p f s) (differs_stays f s e)
  differs_stays (a_within w begin n comma f end) s e = differs_stays f s e
  differs_stays (a_comparison c) s e = relation_differs c s e

  relation_kept : (c : Relation) (s : Laid) → HasTwoScales p c → (laid_relation p c s).differs ≡ true
  relation_kept (to_number r by z) s h =
      ap (λ o. (compared o (by_of by) (lit_of z) s).differs) (names_found p rules r h.0 h.1 h.2)
      ∙ or_right s.differs (not (h.1 == (lit_of z).scale)) (differs_is h.1 (lit_of z).scale (subst (λ n. h.1 ≢ n) (sym (lit_number z).1) h.3))
  relation_kept (to_another r by q) s (a, b, m, n, names, names', ne) =
      ap₂ (λ o u. (against o (by_of by) u s).differs) (names_found p rules r a m names) (names_found p rules q b n names')
      ∙ or_right s.differs (not (m == n)) (differs_is m n ne)
  relation_kept (of_two r pair q by z) s (a, b, m, n, names, names', ne) =
      let scale = (lit_of z).scale in
      let says : (k : ℕ) → k ≢ decimals z → not (k == scale) ≡ true = λ k d. differs_is k scale (subst (λ i. k ≢ i) (sym (lit_number z).1) d) in
      ap₂ (λ o u. (paired o (pair_of pair) u (by_of by) (lit_of z) s).differs) (names_found p rules r a m names) (names_found p rules q b n names')
      ∙ or_right s.differs (not (m == scale) || not (n == scale))
      (⊎_elim (λ d. or_left (not (m == scale)) (not (n == scale)) (says m d)) (λ d. or_right (not (m == scale)) (not (n == scale)) (says n d)) ne)

  pub differs_kept : (f : Phrase) (s : Laid) → HasOtherScale p f → (laid p f s).differs ≡ true
  differs_kept (a_truth value t) s h = absurd h
  differs_kept (a_single o w begin f end) s h = differs_kept f s h
  differs_kept (a_double o w begin row end) s h = differs_kept row s h
  differs_kept (a_row o f comma g) s (inl h) = differs_stays g (laid p f s) (differs_kept f s h)
  differs_kept (a_row o f comma g) s (inr h) = differs_kept g (laid p f s) h
  differs_kept (a_within w begin n comma f end) s h = differs_kept f s h
  differs_kept (a_comparison c) s h = relation_kept c s h

  -- what has a meaning has neither
  compared_known : (c : Relation) (x : Formula) → IsCompared p c x → AsksNothing p c → ⊥
  compared_known (to_number r by z) x m h = h m.0 (decimals z) m.2
  compared_known (to_another r by q) x m h = ⊎_elim (λ n. n m.0 m.3 m.4) (λ n. n m.1 m.3 m.5) h
  compared_known (of_two r pair q by z) x m h = ⊎_elim (λ n. n m.0 (decimals z) m.4) (λ n. n m.1 (decimals z) m.5) h

  pub means_known : (f : Phrase) (x : Formula) → Means p f x → HasUnknown p f → ⊥
  means_known (a_truth value t) x m h = h
  means_known (a_single singles.Not w begin f end) x m h = means_known f m.0 m.1 h
  means_known (a_single singles.Once w begin f end) x m h = means_known f m.0 m.1 h
  means_known (a_single singles.Always w begin f end) x m h = means_known f m.0 m.1 h
  means_known (a_double o w begin row end) x m h = means_known row x m h
  means_known (a_row doubles.And f comma g) x m h = ⊎_elim (λ a. means_known f m.0 m.2 a) (λ b. means_known g m.1 m.3 b) h
  means_known (a_row doubles.Or f comma g) x m h = ⊎_elim (λ a. means_known f m.0 m.2 a) (λ b. means_known g m.1 m.3 b) h
  means_known (a_row doubles.Since f comma g) x m h = ⊎_elim (λ a. means_known f m.0 m.2 a) (λ b. means_known g m.1 m.3 b) h
  means_known (a_row doubles.Implies f comma g) x m h = ⊎_elim (λ a. means_known f m.0 m.2 a) (λ b. means_known g m.1 m.3 b) h
  means_known (a_within w begin n comma f end) x m h = means_known f m.0 m.1 h
  means_known (a_comparison c) x m h = compared_known c x m h

  one_scale : (r : Reference) (q k : Quantity) (a b : ℕ) → Names p r q a → Names p r k b → a ≡ b
  one_scale r q k a b m n =
      let e : Some (found_as q a) ≡ Some (found_as k b) = sym (names_found p rules r q a m) ∙ names_found p rules r k b n in
      ap (λ (x : FoundQuantity). x.scale) (same_Some (found_as q a) (found_as k b) e)
    where
      found_as : Quantity → ℕ → FoundQuantity
      found_as o s = record { of = o; scale = s }

  compared_same : (c : Relation) (x : Formula) → IsCompared p c x → HasTwoScales p c → ⊥
  compared_same (to_number r by z) x m h = h.3 (one_scale r h.0 m.0 h.1 (decimals z) h.2 m.2)
  compared_same (to_another r by q) x m (a, b, i, k, names, names', ne) =
      ne (one_scale r a m.0 i m.3 names m.4 ∙ sym (one_scale q b m.1 k m.3 names' m.5))
  compared_same (of_two r pair q by z) x m (a, b, i, k, names, names', ne) =
      ⊎_elim (λ d. d (one_scale r a m.0 i (decimals z) names m.4)) (λ d. d (one_scale q b m.1 k (decimals z) names' m.5)) ne

  pub means_same : (f : Phrase) (x : Formula) → Means p f x → HasOtherScale p f → ⊥
  means_same (a_truth value t) x m h = h
  means_same (a_single singles.Not w begin f end) x m h = means_same f m.0 m.1 h
  means_same (a_single singles.Once w begin f end) x m h = means_same f m.0 m.1 h
  means_same (a_single singles.Always w begin f end) x m h = means_same f m.0 m.1 h
  means_same (a_double o w begin row end) x m h = means_same row x m h
  means_same (a_row doubles.And f comma g) x m h = ⊎_elim (λ a. means_same f m.0 m.2 a) (λ b. means_same g m.1 m.3 b) h
  means_same (a_row doubles.Or f comma g) x m h = ⊎_elim (λ a. means_same f m.0 m.2 a) (λ b. means_same g m.1 m.3 b) h
  means_same (a_row doubles.Since f comma g) x m h = ⊎_elim (λ a. means_same f m.0 m.2 a) (λ b. means_same g m.1 m.3 b) h
  means_same (a_row doubles.Implies f comma g) x m h = ⊎_elim (λ a. means_same f m.0 m.2 a) (λ b. means_same g m.1 m.3 b) h
  means_same (a_within w begin n comma f end) x m h = means_same f m.0 m.1 h
  means_same (a_comparison c) x m h = compared_same c x m h

  -- parts are placed, and what they compare is there
  put_placed : (s : Laid) (w : What) → ArePlaced s.whats → IsPlaced (length s.whats) w → ArePlaced (put w s).whats
  put_placed s w all here i v at =
      ⊎_elim (λ a. all i v a) (λ b. subst (λ n. IsPlaced n v) (sym b.0) (subst (IsPlaced (length s.whats)) (sym b.1) here)) (at_either s.whats w i v at)

  single_placed : (o : Single) (k n : ℕ) → k < n → IsPlaced n (single_what o k)
  single_placed singles.Not k n lt = lt
  single_placed singles.Once k n lt = lt
  single_placed singles.Always k n lt = lt

  double_placed : (o : Double) (j k n : ℕ) → j < n → k < n → IsPlaced n (double_what o j k)
  double_placed doubles.And j k n a b = (a, b)
  double_placed doubles.Or j k n a b = (a, b)
  double_placed doubles.Since j k n a b = (a, b)
  double_placed doubles.Implies j k n a b = (a, b)

  compared_placed : (c : Comparison) (z : Lit) (s : Laid) (o : Option FoundQuantity) → ArePlaced s.whats → ArePlaced (compared o c z s).whats
  compared_placed c z s None all = put_placed s (whats.Truth false) all tt
  compared_placed c z s (Some x) all = put_placed s (whats.Compared x.of c z.mantissa) all tt

  against_placed : (c : Comparison) (s : Laid) (o u : Option FoundQuantity) → ArePlaced s.whats → ArePlaced (against o c u s).whats
  against_placed c s None u all = put_placed s (whats.Truth false) all tt
  against_placed c s (Some x) None all = put_placed s (whats.Truth false) all tt
  against_placed c s (Some x) (Some y) all = put_placed s (whats.Against x.of c y.of) all tt

  paired_placed : (j : Pairing) (c : Comparison) (z : Lit) (s : Laid) (o u : Option FoundQuantity) → ArePlaced s.whats → ArePlaced (paired o j u c z s).whats
  paired_placed j c z s None u all = put_placed s (whats.Truth false) all tt
  paired_placed j c z s (Some x) None all = put_placed s (whats.Truth false) all tt
  paired_placed j c z s (Some x) (Some y) all = put_placed s (whats.Paired x.of j y.of c z.mantissa) all tt

  relation_placed : (c : Relation) (s : Laid) → ArePlaced s.whats → ArePlaced (laid_relation p c s).whats
  relation_placed (to_number r by z) s all = compared_placed (by_of by) (lit_of z) s (found_of p r) all
  relation_placed (to_another r by q) s all = against_placed (by_of by) s (found_of p r) (found_of p q) all
  relation_placed (of_two r pair q by z) s all = paired_placed (pair_of pair) (by_of by) (lit_of z) s (found_of p r) (found_of p q) all

  below : (f : Phrase) (s : Laid) → place (laid p f s) < length (laid p f s).whats
  below f s = (let e = (extends p f s).some in omega (arith, e))

  pub placed : (f : Phrase) (word : Option Double) (s : Laid) → StandsIn f word → ArePlaced s.whats → ArePlaced (laid p f s).whats
  placed (a_truth value t) word s is all = put_placed s (whats.Truth value) all tt
  placed (a_single o w begin f end) word s is all =
      put_placed (laid p f s) (single_what o (place (laid p f s))) (placed f None s is.2 all)
      (single_placed o (place (laid p f s)) (length (laid p f s).whats) (below f s))
  placed (a_double o w begin row end) word s is all = placed row (Some o) s is.2 all
  placed (a_row o f comma g) word s is all =
      let t = laid p f s in
      let u = laid p g t in
      let more = (extends p g t).some in
      let low = below f s in
      put_placed u (double_what o (place t) (place u)) (placed g None t is.3 (placed f word s is.1 all))
      (double_placed o (place t) (place u) (length u.whats) (omega (arith, more, low)) (below g t))
  placed (a_within w begin n comma f end) word s is all =
      let few : ticks_of (literal n) ≤ 100000 = is.2.few in
      put_placed (laid p f s) (whats.Within (ticks_of (literal n)) (place (laid p f s))) (placed f None s is.4 all) (below f s, few)
  placed (a_comparison c) word s is all = relation_placed c s all

  abbrev IsThereIn : What → Type 0
  IsThereIn w = (q : Quantity) → LooksAt w q → IsThere p q

  put_there : (s : Laid) (w : What) → AreThere p s.whats → IsThereIn w → AreThere p (put w s).whats
  put_there s w all here i v q at looks =
      ⊎_elim (λ a. all i v q a looks) (λ b. here q (subst (λ (u : What). LooksAt u q) b.1 looks)) (at_either s.whats w i v at)

  single_there : (o : Single) (k : ℕ) → IsThereIn (single_what o k)
  single_there singles.Not k q looks = absurd looks
  single_there singles.Once k q looks = absurd looks
  single_there singles.Always k q looks = absurd looks

  double_there : (o : Double) (j k : ℕ) → IsThereIn (double_what o j k)
  double_there doubles.And j k q looks = absurd looks
  double_there doubles.Or j k q looks = absurd looks
  double_there doubles.Since j k q looks = absurd looks
  double_there doubles.Implies j k q looks = absurd looks

  named_there : (r : Reference) (x : FoundQuantity) → found_of p r ≡ Some x → IsThere p x.of
  named_there r x is = names_there p rules r x.of x.scale (found_names p rules r x is)

  compared_there : (r : Reference) (c : Comparison) (z : Lit) (s : Laid) (o : Option FoundQuantity) → found_of p r ≡ o → AreThere p s.whats
      → AreThere p (compared o c z s).whats
  compared_there r c z s None is all = put_there s (whats.Truth false) all (λ q looks. absurd looks)
  compared_there r c z s (Some x) is all = put_there s (whats.Compared x.of c z.mantissa) all (λ q same. subst (IsThere p) same (named_there r x is))

  two_there : (r k : Reference) (x y : FoundQuantity) → found_of p r ≡ Some x → found_of p k ≡ Some y → (q : Quantity) → (x.of ≡ q) ⊎ (y.of ≡ q) → IsThere p q
  two_there r k x y is is' q looks = ⊎_elim (λ same. subst (IsThere p) same (named_there r x is)) (λ same. subst (IsThere p) same (named_there k y is')) looks

  against_there : (r k : Reference) (c : Comparison) (s : Laid) (o u : Option FoundQuantity) → found_of p r ≡ o → found_of p k ≡ u → AreThere p s.whats
      → AreThere p (against o c u s).whats
  against_there r k c s None u is is' all = put_there s (whats.Truth false) all (λ q looks. absurd looks)
  against_there r k c s (Some x) None is is' all = put_there s (whats.Truth false) all (λ q looks. absurd looks)
  against_there r k c s (Some x) (Some y) is is' all = put_there s (whats.Against x.of c y.of) all (two_there r k x y is is')

  paired_there : (r k : Reference) (j : Pairing) (c : Comparison) (z : Lit) (s : Laid) (o u : Option FoundQuantity) → found_of p r ≡ o → found_of p k ≡ u
      → AreThere p s.whats → AreThere p (paired o j u c z s).whats
  paired_there r k j c z s None u is is' all = put_there s (whats.Truth false) all (λ q looks. absurd looks)
  paired_there r k j c z s (Some x) None is is' all = put_there s (whats.Truth false) all (λ q looks. absurd looks)
  paired_there r k j c z s (Some x) (Some y) is is' all = put_there s (whats.Paired x.of j y.of c z.mantissa) all (two_there r k x y is is')

  relation_there : (c : Relation) (s : Laid) → AreThere p s.whats → AreThere p (laid_relation p c s).whats
  relation_there (to_number r by z) s all = compared_there r (by_of by) (lit_of z) s (found_of p r) refl all
  relation_there (to_another r by q) s all = against_there r q (by_of by) s (found_of p r) (found_of p q) refl refl all
  relation_there (of_two r pair q by z) s all = paired_there r q (pair_of pair) (by_of by) (lit_of z) s (found_of p r) (found_of p q) refl refl all

  pub there : (f : Phrase) (s : Laid) → AreThere p s.whats → AreThere p (laid p f s).whats
  there (a_truth value t) s all = put_there s (whats.Truth value) all (λ q looks. absurd looks)
  there (a_single o w begin f end) s all = put_there (laid p f s) _ (there f s all) (single_there o (place (laid p f s)))
  there (a_double o w begin row end) s all = there row s all
  there (a_row o f comma g) s all =
      put_there (laid p g (laid p f s)) _ (there g (laid p f s) (there f s all)) (double_there o (place (laid p f s)) (place (laid p g (laid p f s))))
  there (a_within w begin n comma f end) s all =
      put_there (laid p f s) (whats.Within (ticks_of (literal n)) (place (laid p f s))) (there f s all) (λ q looks. absurd looks)
  there (a_comparison c) s all = relation_there c s all
