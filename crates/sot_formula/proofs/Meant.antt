-- What the parts of a phrase mean.
use Rattle.std.proofs.Common.{◌≡◌, ◌≢◌, ℕ, zero, suc, ◌+◌, ◌-◌, ◌<◌, ◌==◌, ◌||◌, not, List, []}
use Rattle.std.proofs.Common.{◌∷◌, ◌++◌, Bool, true, false, length, Option, Some, None, inl, inr, ⊎_elim, ◌⊎◌}
use Rattle.std.proofs.Common.{refl, sym, ap, ap₂, subst, ◌∙◌, arith, append_assoc}
use Rattle.std.proofs.lemmas.Bool.{false≢true, cases_eq}
use Rattle.std.proofs.lemmas.Bool.Decides.{nat_tests}
use Rattle.std.proofs.lemmas.Option.{none-some, same_Some, slice_get_within}
use Rattle.sot_lists.specs.Places.{At}
use Rattle.sot_lists.proofs.Places.{at_front}
use Rattle.sot_text.specs.Lexeme.{mantissa_of}
use Rattle.sot_text.specs.Reading.{Lexeme}
use Rattle.sot_lang.specs.Tables.{Tables}
use Rattle.sot_lang.specs.TableRules.{MeetsTableRules}
use Rattle.sot_syntax_tree.specs.declared.tree.Lit.{Lit}
use Rattle.sot_expression.specs.Lexemes.{literal}
use Rattle.sot_formula.specs.declared.quantity.Quantity.{Quantity}
use Rattle.sot_formula.specs.declared.quantity.Comparison.{Comparison}
use Rattle.sot_formula.specs.declared.quantity.Pairing.{Pairing}
use Rattle.sot_formula.specs.declared.what.What.{What}
use Rattle.sot_formula.specs.declared.what.What.TheVariants as whats
use Rattle.sot_formula.specs.declared.words.Single.TheVariants as singles
use Rattle.sot_formula.specs.declared.words.Double.{Double}
use Rattle.sot_formula.specs.declared.words.Double.TheVariants as doubles
use Rattle.sot_formula.specs.declared.finding.FoundQuantity.{FoundQuantity}
use Rattle.sot_formula.specs.Formulas.{Formula, Truth, Compared, Against, Paired, Not, And, Or, Implies, Once, Always, Since, Within}
use Rattle.sot_formula.specs.Phrases.{Relation, to_number, to_another, of_two, IsRelation, IsComparing}
use Rattle.sot_formula.specs.Phrases.{Reference, a_mode, a_name, a_field, Literal, a_number, a_negative}
use Rattle.sot_formula.specs.Phrases.{Phrase, a_truth, a_single, a_double, a_row, a_within, a_comparison, StandsIn}
use Rattle.sot_formula.specs.Meanings.{Names, mantissa, decimals, IsCompared, Means}
use Rattle.sot_formula.specs.Parts.{IsPart, part_count, IsThere}
use Rattle.sot_formula.specs.Reading.{Laid, place, put, compared, against, paired, ticks_of}
use Rattle.sot_formula.proofs.Finds.{plain_found, plain_finds, part_found, part_finds_field, part_finds_variable, module_found, module_finds}
use Rattle.sot_formula.proofs.Laying.{found_of, or_less, by_of, or_sum, pair_of, lit_of, laid_relation, laid, some_sign, signs, some_pair, pair_signs}

-- the last of a list
at_last : {A : Type 0} (xs : List A) (x : A) → At (xs ++ x ∷ []) (length xs) x
at_last [] x = refl
at_last (y ∷ xs) x = at_last xs x

pub length_last : {A : Type 0} (xs : List A) (x : A) → length (xs ++ x ∷ []) ≡ suc (length xs)
length_last [] x = refl
length_last (y ∷ xs) x = (let e = length_last xs x in omega (arith, e))

-- what stands in a list with one more
pub at_either : {A : Type 0} (xs : List A) (x : A) (i : ℕ) (y : A) → At (xs ++ x ∷ []) i y → At xs i y ⊎ ((i ≡ length xs) × (y ≡ x))
at_either [] x zero y at = inr (refl, sym (same_Some x y at))
at_either [] x (suc i) y at = absurd (none-some y at)
at_either (z ∷ xs) x zero y at = inl at
at_either (z ∷ xs) x (suc i) y at = ⊎_elim (λ a. inl a) (λ b. inr ((let e = b.0 in omega (arith, e)), b.1)) (at_either xs x i y at)

-- a part stays one where more parts come behind
pub part_stays : (ws more : List What) (i : ℕ) (f : Formula) → IsPart ws i f → IsPart (ws ++ more) i f
part_stays ws more i (Truth value) at = at_front ws more i _ at
part_stays ws more i (Compared of by number) at = at_front ws more i _ at
part_stays ws more i (Against of by other) at = at_front ws more i _ at
part_stays ws more i (Paired first pairing second by number) at = at_front ws more i _ at
part_stays ws more i (Not f) h = (h.0, at_front ws more i _ h.1, h.2, part_stays ws more h.0 f h.3)
part_stays ws more i (And f g) h = (h.0, h.1, at_front ws more i _ h.2, h.3, h.4, part_stays ws more h.0 f h.5, part_stays ws more h.1 g h.6)
part_stays ws more i (Or f g) h = (h.0, h.1, at_front ws more i _ h.2, h.3, h.4, part_stays ws more h.0 f h.5, part_stays ws more h.1 g h.6)
part_stays ws more i (Implies f g) h =
    (h.0, h.1, at_front ws more i _ h.2, h.3, h.4, part_stays ws more h.0 f h.5, part_stays ws more h.1 g h.6)
part_stays ws more i (Once f) h = (h.0, at_front ws more i _ h.1, h.2, part_stays ws more h.0 f h.3)
part_stays ws more i (Always f) h = (h.0, at_front ws more i _ h.1, h.2, part_stays ws more h.0 f h.3)
part_stays ws more i (Since f g) h = (h.0, h.1, at_front ws more i _ h.2, h.3, h.4, part_stays ws more h.0 f h.5, part_stays ws more h.1 g h.6)
part_stays ws more i (Within ticks f) h = (h.0, at_front ws more i _ h.1, h.2, part_stays ws more h.0 f h.3)

-- the parts of a phrase come behind those that were there, and are some
pub record Extends (s t : Laid) : Type 0 where
  pub more : List What
  pub is : t.whats ≡ s.whats ++ more
  pub some : length s.whats < length t.whats

put_extends : (s t : Laid) (w : What) → t.whats ≡ s.whats ++ w ∷ [] → Extends s t
put_extends s t w e = (let n = length_last s.whats w in let m = ap length e in record { more = w ∷ []; is = e; some = omega (arith, n, m) })

then_extends : (s t u : Laid) → Extends s t → Extends t u → Extends s u
then_extends s t u a b = (let m = a.some in let n = b.some in
    record { more = a.more ++ b.more; is = b.is ∙ ap (λ ws. ws ++ b.more) a.is ∙ append_assoc s.whats a.more b.more; some = omega (arith, m, n) })

compared_extends : (o : Option FoundQuantity) (by : Comparison) (z : Lit) (s : Laid) → Extends s (compared o by z s)
compared_extends None by z s = put_extends s _ (whats.Truth false) refl
compared_extends (Some x) by z s = put_extends s _ (whats.Compared x.of by z.mantissa) refl

against_extends : (o : Option FoundQuantity) (by : Comparison) (u : Option FoundQuantity) (s : Laid) → Extends s (against o by u s)
against_extends None by u s = put_extends s _ (whats.Truth false) refl
against_extends (Some x) by None s = put_extends s _ (whats.Truth false) refl
against_extends (Some x) by (Some y) s = put_extends s _ (whats.Against x.of by y.of) refl

paired_extends : (o : Option FoundQuantity) (j : Pairing) (u : Option FoundQuantity) (by : Comparison) (z : Lit) (s : Laid) → Extends s (paired o j u by z s)
paired_extends None j u by z s = put_extends s _ (whats.Truth false) refl
paired_extends (Some x) j None by z s = put_extends s _ (whats.Truth false) refl
paired_extends (Some x) j (Some y) by z s = put_extends s _ (whats.Paired x.of j y.of by z.mantissa) refl

relation_extends : (p : Tables) (c : Relation) (s : Laid) → Extends s (laid_relation p c s)
relation_extends p (to_number r by z) s = compared_extends (found_of p r) (by_of by) (lit_of z) s
relation_extends p (to_another r by q) s = against_extends (found_of p r) (by_of by) (found_of p q) s
relation_extends p (of_two r pair q by z) s = paired_extends (found_of p r) (pair_of pair) (found_of p q) (by_of by) (lit_of z) s

pub extends : (p : Tables) (f : Phrase) (s : Laid) → Extends s (laid p f s)
extends p (a_truth value t) s = put_extends s _ (whats.Truth value) refl
extends p (a_single o w begin f end) s = then_extends s (laid p f s) _ (extends p f s) (put_extends (laid p f s) _ _ refl)
extends p (a_double o w begin row end) s = extends p row s
extends p (a_row o f comma g) s =
    then_extends s (laid p f s) _ (extends p f s) (then_extends (laid p f s) (laid p g (laid p f s)) _ (extends p g (laid p f s))
    (put_extends (laid p g (laid p f s)) _ _ refl))
extends p (a_within w begin n comma f end) s = then_extends s (laid p f s) _ (extends p f s) (put_extends (laid p f s) _ _ refl)
extends p (a_comparison c) s = relation_extends p c s

module _ (p : Tables) (rules : MeetsTableRules p) where
  -- what is found is named, and what is named is found
  pub found_names : (r : Reference) (x : FoundQuantity) → found_of p r ≡ Some x → Names p r x.of x.scale
  found_names (a_mode w begin n end) x e = module_found p rules n.text x e
  found_names (a_name n) x e = plain_found p rules n.text x e
  found_names (a_field n dot f) x e = part_found p rules n.text f.text x e

  pub names_found : (r : Reference) (q : Quantity) (scale : ℕ) → Names p r q scale → found_of p r ≡ Some (record { of = q; scale = scale })
  names_found (a_mode w begin n end) q scale h = module_finds p rules n.text h.0 h.1 ∙ ap₂ (λ a b. Some (found_as a b)) (sym h.2) (sym h.3)
    where
      found_as : Quantity → ℕ → FoundQuantity
      found_as a b = record { of = a; scale = b }
  names_found (a_name n) q scale h = plain_finds p rules n.text h.0 scale h.1 ∙ ap (λ a. Some (found_as a)) (sym h.2)
    where
      found_as : Quantity → FoundQuantity
      found_as a = record { of = a; scale = scale }
  names_found (a_field n dot f) q scale (inl h) = part_finds_field p rules n.text f.text h.0 scale h.1 ∙ ap (λ a. Some (found_as a)) (sym h.2)
    where
      found_as : Quantity → FoundQuantity
      found_as a = record { of = a; scale = scale }
  names_found (a_field n dot f) q scale (inr h) = part_finds_variable p rules n.text f.text h.0 h.1 scale h.2 ∙ ap (λ a. Some (found_as a)) (sym h.3)
    where
      found_as : Quantity → FoundQuantity
      found_as a = record { of = a; scale = scale }

  pub names_there : (r : Reference) (q : Quantity) (scale : ℕ) → Names p r q scale → IsThere p q
  names_there (a_mode w begin n end) q scale h = subst (IsThere p) (sym h.2) (slice_get_within p.modules h.0 h.1.info h.1.is)
  names_there (a_name n) q scale h = subst (IsThere p) (sym h.2) (slice_get_within p.scalars h.0 h.1.info h.1.is)
  names_there (a_field n dot f) q scale (inl h) = subst (IsThere p) (sym h.2) (slice_get_within p.scalars h.0 h.1.info h.1.is)
  names_there (a_field n dot f) q scale (inr h) =
      subst (IsThere p) (sym h.3) (h.2.plant, h.2.is, slice_get_within h.2.plant.states.items h.1 h.2.state h.2.state_is)

-- flags
or_false : (a b : Bool) → (a || b) ≡ false → (a ≡ false) × (b ≡ false)
or_false true b e = absurd (false≢true (sym e))
or_false false b e = (refl, e)

pub or_true : (a b : Bool) → (a || b) ≡ true → (a ≡ true) ⊎ (b ≡ true)
or_true true b e = inl refl
or_true false b e = inr e

differs_false : (a b : ℕ) → not (a == b) ≡ false → a ≡ b
differs_false a b e = grind (arith, nat_tests)

pub differs_true : (a b : ℕ) → not (a == b) ≡ true → a ≢ b
differs_true a b e = λ same. (let f : not (a == b) ≡ false = grind (arith, nat_tests) in false≢true (sym f ∙ e))

pub differs_is : (a b : ℕ) → a ≢ b → not (a == b) ≡ true
differs_is a b ne = ⊎_elim (λ same. absurd (ne same)) (λ other. grind (arith, nat_tests)) (cases_eq a b)

pub lit_number : (z : Literal) → ((lit_of z).mantissa ≡ mantissa z) × ((lit_of z).scale ≡ decimals z)
lit_number (a_number n) = (refl, refl)
lit_number (a_negative minus n) = (refl, refl)

-- the last part of what is put
last_put : (s : Laid) (w : What) → At (put w s).whats (place (put w s)) w
last_put s w = (let n = length_last s.whats w in let e : length s.whats ≡ length (s.whats ++ w ∷ []) - 1 = omega (arith, n) in
    subst (λ i. At (s.whats ++ w ∷ []) i w) e (at_last s.whats w))

-- a part that was last before others came
stays : (s t : Laid) (f : Formula) → Extends s t → IsPart s.whats (place s) f → IsPart t.whats (place s) f
stays s t f e part = subst (λ ws. IsPart ws (place s) f) (sym e.is) (part_stays s.whats e.more (place s) f part)

-- the place of a phrase's last part is below that of anything put behind it
below_put : (s t u : Laid) (w : What) → Extends s t → (t ≡ u) ⊎ Extends t u → place t < place (put w u)
below_put s t u w a (inl same) = (let m = a.some in let n = length_last u.whats w in let e = ap (λ (x : Laid). length x.whats) same in omega (arith, m, n, e))
below_put s t u w a (inr b) = (let m = a.some in let k = b.some in let n = length_last u.whats w in omega (arith, m, k, n))

-- a comparison is one part
one_compared : (o : Option FoundQuantity) (by : Comparison) (z : Lit) (s : Laid) → length (compared o by z s).whats ≡ suc (length s.whats)
one_compared None by z s = length_last s.whats (whats.Truth false)
one_compared (Some x) by z s = length_last s.whats (whats.Compared x.of by z.mantissa)

one_against : (o : Option FoundQuantity) (by : Comparison) (u : Option FoundQuantity) (s : Laid) → length (against o by u s).whats ≡ suc (length s.whats)
one_against None by u s = length_last s.whats (whats.Truth false)
one_against (Some x) by None s = length_last s.whats (whats.Truth false)
one_against (Some x) by (Some y) s = length_last s.whats (whats.Against x.of by y.of)

one_paired : (o : Option FoundQuantity) (j : Pairing) (u : Option FoundQuantity) (by : Comparison) (z : Lit) (s : Laid)
    → length (paired o j u by z s).whats ≡ suc (length s.whats)
one_paired None j u by z s = length_last s.whats (whats.Truth false)
one_paired (Some x) j None by z s = length_last s.whats (whats.Truth false)
one_paired (Some x) j (Some y) by z s = length_last s.whats (whats.Paired x.of j y.of by z.mantissa)

one_relation : (p : Tables) (c : Relation) (s : Laid) → length (laid_relation p c s).whats ≡ suc (length s.whats)
one_relation p (to_number r by z) s = one_compared (found_of p r) (by_of by) (lit_of z) s
one_relation p (to_another r by q) s = one_against (found_of p r) (by_of by) (found_of p q) s
one_relation p (of_two r pair q by z) s = one_paired (found_of p r) (pair_of pair) (found_of p q) (by_of by) (lit_of z) s

module _ (p : Tables) (rules : MeetsTableRules p) where
  -- where nothing is unknown and no scale differs, the phrase means its last part
  pub record IsMeant (f : Phrase) (s : Laid) : Type 0 where
    pub formula : Formula
    pub means : Means p f formula
    pub part : IsPart (laid p f s).whats (place (laid p f s)) formula
    pub count : length (laid p f s).whats ≡ length s.whats + part_count formula
    pub known : s.unknown ≡ false
    pub same : s.differs ≡ false

  -- a comparison means its part
  abbrev RelationMeant : Relation → Laid → Laid → Type 0
  RelationMeant c s t = (x : Formula) × IsCompared p c x × IsPart t.whats (place t) x × (part_count x ≡ 1) × (s.unknown ≡ false) × (s.differs ≡ false)

  compared_meant : (r : Reference) (by : Lexeme) (z : Literal) (s : Laid) (o : Option FoundQuantity) → found_of p r ≡ o → IsComparing by
      → (compared o (by_of by) (lit_of z) s).unknown ≡ false → (compared o (by_of by) (lit_of z) s).differs ≡ false
      → RelationMeant (to_number r by z) s (compared o (by_of by) (lit_of z) s)
  compared_meant r by z s None e is known same = absurd (false≢true (sym known))
  compared_meant r by z s (Some x) e is known same =
      let flags = or_false s.differs (not (x.scale == (lit_of z).scale)) same in
      let scale : x.scale ≡ decimals z = differs_false x.scale (lit_of z).scale flags.1 ∙ (lit_number z).1 in
      let c = some_sign by is in
      let sign : by_of by ≡ c.0 = ap or_less (signs c.0 by c.1) in
      let w' = whats.Compared x.of (by_of by) (lit_of z).mantissa in
      let is_what : w' ≡ whats.Compared x.of c.0 (mantissa z) =
      ap (λ b. whats.Compared x.of b (lit_of z).mantissa) sign ∙ ap (λ m. whats.Compared x.of c.0 m) (lit_number z).0 in (
        Compared x.of c.0 (mantissa z),
        (x.of, c.0, subst (Names p r x.of) scale (found_names p rules r x e), c.1, refl),
        subst (At (s.whats ++ w' ∷ []) (place (put w' s))) is_what (last_put s w'),
        refl,
        known,
        flags.0,
      )

  against_meant : (r : Reference) (by : Lexeme) (q : Reference) (s : Laid) (o u : Option FoundQuantity) → found_of p r ≡ o → found_of p q ≡ u → IsComparing by
      → (against o (by_of by) u s).unknown ≡ false → (against o (by_of by) u s).differs ≡ false
      → RelationMeant (to_another r by q) s (against o (by_of by) u s)
  against_meant r by q s None u e e' is known same = absurd (false≢true (sym known))
  against_meant r by q s (Some x) None e e' is known same = absurd (false≢true (sym known))
  against_meant r by q s (Some x) (Some y) e e' is known same =
      let flags = or_false s.differs (not (x.scale == y.scale)) same in
      let scale : x.scale ≡ y.scale = differs_false x.scale y.scale flags.1 in
      let c = some_sign by is in
      let sign : by_of by ≡ c.0 = ap or_less (signs c.0 by c.1) in
      let w' = whats.Against x.of (by_of by) y.of in (
        Against x.of c.0 y.of,
        (x.of, y.of, c.0, y.scale, subst (Names p r x.of) scale (found_names p rules r x e), found_names p rules q y e', c.1, refl),
        subst (At (s.whats ++ w' ∷ []) (place (put w' s))) (ap (λ b. whats.Against x.of b y.of) sign) (last_put s w'),
        refl,
        known,
        flags.0,
      )

  paired_meant : (r : Reference) (pair : Lexeme) (q : Reference) (by : Lexeme) (z : Literal) (s : Laid) (o u : Option FoundQuantity) → found_of p r ≡ o
      → found_of p q ≡ u → IsRelation (of_two r pair q by z)
      → (paired o (pair_of pair) u (by_of by) (lit_of z) s).unknown ≡ false → (paired o (pair_of pair) u (by_of by) (lit_of z) s).differs ≡ false
      → RelationMeant (of_two r pair q by z) s (paired o (pair_of pair) u (by_of by) (lit_of z) s)
  paired_meant r pair q by z s None u e e' is known same = absurd (false≢true (sym known))
  paired_meant r pair q by z s (Some x) None e e' is known same = absurd (false≢true (sym known))
  paired_meant r pair q by z s (Some x) (Some y) e e' is known same =
      let flags = or_false s.differs (not (x.scale == (lit_of z).scale) || not (y.scale == (lit_of z).scale)) same in
      let both = or_false (not (x.scale == (lit_of z).scale)) (not (y.scale == (lit_of z).scale)) flags.1 in
      let scale : x.scale ≡ decimals z = differs_false x.scale (lit_of z).scale both.0 ∙ (lit_number z).1 in
      let other : y.scale ≡ decimals z = differs_false y.scale (lit_of z).scale both.1 ∙ (lit_number z).1 in
      let c = some_sign by is.3 in
      let sign : by_of by ≡ c.0 = ap or_less (signs c.0 by c.1) in
      let j = some_pair pair is.1 in
      let pairing : pair_of pair ≡ j.0 = ap or_sum (pair_signs j.0 pair j.1) in
      let w' = whats.Paired x.of (pair_of pair) y.of (by_of by) (lit_of z).mantissa in
      let is_what : w' ≡ whats.Paired x.of j.0 y.of c.0 (mantissa z) =
      ap (λ k. whats.Paired x.of k y.of (by_of by) (lit_of z).mantissa) pairing
      ∙ ap (λ b. whats.Paired x.of j.0 y.of b (lit_of z).mantissa) sign
      ∙ ap (λ m. whats.Paired x.of j.0 y.of c.0 m) (lit_number z).0 in (
        Paired x.of j.0 y.of c.0 (mantissa z),
        (
          x.of,
          y.of,
          j.0,
          c.0,
          subst (Names p r x.of) scale (found_names p rules r x e),
          subst (Names p q y.of) other (found_names p rules q y e'),
          j.1,
          c.1,
          refl,
        ),
        subst (At (s.whats ++ w' ∷ []) (place (put w' s))) is_what (last_put s w'),
        refl,
        known,
        flags.0,
      )

  relation_meant : (c : Relation) (s : Laid) → IsRelation c → (laid_relation p c s).unknown ≡ false → (laid_relation p c s).differs ≡ false
      → RelationMeant c s (laid_relation p c s)
  relation_meant (to_number r by z) s is known same = compared_meant r by z s (found_of p r) refl is.1 known same
  relation_meant (to_another r by q) s is known same = against_meant r by q s (found_of p r) (found_of p q) refl refl is.1 known same
  relation_meant (of_two r pair q by z) s is known same = paired_meant r pair q by z s (found_of p r) (found_of p q) refl refl is known same

  pub meant : (f : Phrase) (word : Option Double) (s : Laid) → StandsIn f word → (laid p f s).unknown ≡ false → (laid p f s).differs ≡ false → IsMeant f s
  meant (a_truth value t) word s is known same =
      let n = length_last s.whats (whats.Truth value) in
      record { formula = Truth value; means = refl; part = last_put s (whats.Truth value); count = omega (arith, n); known = known; same = same }
  meant (a_single singles.Not w begin f end) word s is known same =
      let g = meant f None s is.2 known same in
      let t = laid p f s in
      let step = put_extends t (put (whats.Not (place t)) t) (whats.Not (place t)) refl in
      let n = length_last t.whats (whats.Not (place t)) in
      record {
        formula = Not g.formula;
        means = (g.formula, g.means, refl);
        part = (place t, last_put t (whats.Not (place t)), below_put s t t (whats.Not (place t)) (extends p f s) (inl refl), stays t _ g.formula step g.part);
        count = omega (arith, n, g.count);
        known = g.known;
        same = g.same;
      }
  meant (a_single singles.Once w begin f end) word s is known same =
      let g = meant f None s is.2 known same in
      let t = laid p f s in
      let step = put_extends t (put (whats.Once (place t)) t) (whats.Once (place t)) refl in
      let n = length_last t.whats (whats.Once (place t)) in
      record {
        formula = Once g.formula;
        means = (g.formula, g.means, refl);
        part = (place t, last_put t (whats.Once (place t)), below_put s t t (whats.Once (place t)) (extends p f s) (inl refl), stays t _ g.formula step g.part);
        count = omega (arith, n, g.count);
        known = g.known;
        same = g.same;
      }
  meant (a_single singles.Always w begin f end) word s is known same =
      let g = meant f None s is.2 known same in
      let t = laid p f s in
      let step = put_extends t (put (whats.Always (place t)) t) (whats.Always (place t)) refl in
      let n = length_last t.whats (whats.Always (place t)) in
      record {
        formula = Always g.formula;
        means = (g.formula, g.means, refl);
        part = (place t, last_put t (whats.Always (place t)), below_put s t t (whats.Always (place t)) (extends p f s) (inl refl), stays t _ g.formula step g.part);
        count = omega (arith, n, g.count);
        known = g.known;
        same = g.same;
      }
  meant (a_double o w begin row end) word s is known same =
      let g = meant row (Some o) s is.2 known same in
      record { formula = g.formula; means = g.means; part = g.part; count = g.count; known = g.known; same = g.same }
  meant (a_row doubles.And f comma g) word s is known same =
      let t = laid p f s in
      let u = laid p g t in
      let b = meant g None t is.3 known same in
      let a = meant f word s is.1 b.known b.same in
      let w' = whats.And (place t) (place u) in
      let on = put_extends u (put w' u) w' refl in
      let n = length_last u.whats w' in
      record {
        formula = And a.formula b.formula;
        means = (a.formula, b.formula, a.means, b.means, refl);
        part = (
          place t,
          place u,
          last_put u w',
          below_put s t u w' (extends p f s) (inr (extends p g t)),
          below_put t u u w' (extends p g t) (inl refl),
          stays t _ a.formula (then_extends t u _ (extends p g t) on) a.part,
          stays u _ b.formula on b.part,
        );
        count = omega (arith, n, a.count, b.count);
        known = a.known;
        same = a.same;
      }
  meant (a_row doubles.Or f comma g) word s is known same =
      let t = laid p f s in
      let u = laid p g t in
      let b = meant g None t is.3 known same in
      let a = meant f word s is.1 b.known b.same in
      let w' = whats.Or (place t) (place u) in
      let on = put_extends u (put w' u) w' refl in
      let n = length_last u.whats w' in
      record {
        formula = Or a.formula b.formula;
        means = (a.formula, b.formula, a.means, b.means, refl);
        part = (
          place t,
          place u,
          last_put u w',
          below_put s t u w' (extends p f s) (inr (extends p g t)),
          below_put t u u w' (extends p g t) (inl refl),
          stays t _ a.formula (then_extends t u _ (extends p g t) on) a.part,
          stays u _ b.formula on b.part,
        );
        count = omega (arith, n, a.count, b.count);
        known = a.known;
        same = a.same;
      }
  meant (a_row doubles.Since f comma g) word s is known same =
      let t = laid p f s in
      let u = laid p g t in
      let b = meant g None t is.3 known same in
      let a = meant f word s is.1 b.known b.same in
      let w' = whats.Since (place t) (place u) in
      let on = put_extends u (put w' u) w' refl in
      let n = length_last u.whats w' in
      record {
        formula = Since a.formula b.formula;
        means = (a.formula, b.formula, a.means, b.means, refl);
        part = (
          place t,
          place u,
          last_put u w',
          below_put s t u w' (extends p f s) (inr (extends p g t)),
          below_put t u u w' (extends p g t) (inl refl),
          stays t _ a.formula (then_extends t u _ (extends p g t) on) a.part,
          stays u _ b.formula on b.part,
        );
        count = omega (arith, n, a.count, b.count);
        known = a.known;
        same = a.same;
      }
  meant (a_row doubles.Implies f comma g) word s is known same =
      let t = laid p f s in
      let u = laid p g t in
      let b = meant g None t is.3 known same in
      let a = meant f word s is.1 b.known b.same in
      let w' = whats.Implies (place t) (place u) in
      let on = put_extends u (put w' u) w' refl in
      let n = length_last u.whats w' in
      record {
        formula = Implies a.formula b.formula;
        means = (a.formula, b.formula, a.means, b.means, refl);
        part = (
          place t,
          place u,
          last_put u w',
          below_put s t u w' (extends p f s) (inr (extends p g t)),
          below_put t u u w' (extends p g t) (inl refl),
          stays t _ a.formula (then_extends t u _ (extends p g t) on) a.part,
          stays u _ b.formula on b.part,
        );
        count = omega (arith, n, a.count, b.count);
        known = a.known;
        same = a.same;
      }
  meant (a_within w begin n comma f end) word s is known same =
      let g = meant f None s is.4 known same in
      let t = laid p f s in
      let w' = whats.Within (ticks_of (literal n)) (place t) in
      let step = put_extends t (put w' t) w' refl in
      let len = length_last t.whats w' in
      record {
        formula = Within (mantissa_of n.text) g.formula;
        means = (g.formula, g.means, refl);
        part = (place t, last_put t w', below_put s t t w' (extends p f s) (inl refl), stays t _ g.formula step g.part);
        count = omega (arith, len, g.count);
        known = g.known;
        same = g.same;
      }
  meant (a_comparison c) word s is known same =
      let h = relation_meant c s is known same in
      let n = one_relation p c s in
      let one = h.3 in
      record { formula = h.0; means = h.1; part = h.2; count = omega (arith, n, one); known = h.4; same = h.5 }
