-- What is read is a phrase, and leaves its parts.
use Rattle.std.proofs.Common.{◌≡◌, ℕ, zero, suc, ◌≤◌, ◌+◌, ◌-◌, ◌&&◌, ◌==◌, List, [], ◌∷◌, Bool, true, false}
use Rattle.std.proofs.Common.{pos, codes, cond, Option, Some, None, Ok, Err, refl, sym, ap, ap₂, subst, ◌∙◌, arith}
use Rattle.std.specs.Prelude.{int_le}
use Rattle.std.proofs.lemmas.Int.{clamps}
use Rattle.std.proofs.lemmas.Bool.Decides.{nat_tests}
use Rattle.sot_text.specs.Lexeme.{mantissa_of, decimals_of}
use Rattle.sot_text.specs.Reading.{Lexeme}
use Rattle.sot_lang.specs.Tables.{Tables}
use Rattle.sot_syntax_tree.specs.declared.tree.Lit.{Lit}
use Rattle.sot_expression.specs.Lexemes.{IsSign, IsName, begins, is_sign, is_name, literal}
use Rattle.sot_expression.specs.Readers.{◌>>=◌, stuck, expect, number_at, negative_at, literal_at}
use Rattle.sot_expression.specs.Stream.{first_of}
use Rattle.sot_expression.proofs.TokenTests.{sign_ok, name_ok}
use Rattle.sot_expression.proofs.ReadSteps.{bind_ok, ok_is, guard_ok, chosen_by, one_token_ok, sign_taken, number_taken, negative_taken}
use Rattle.sot_formula.specs.declared.quantity.Comparison.{Comparison}
use Rattle.sot_formula.specs.declared.quantity.Pairing.{Pairing}
use Rattle.sot_formula.specs.declared.what.What.TheVariants as whats
use Rattle.sot_formula.specs.declared.words.Single.{Single}
use Rattle.sot_formula.specs.declared.words.Double.{Double}
use Rattle.sot_formula.specs.declared.words.Double.TheVariants as doubles
use Rattle.sot_formula.specs.declared.words.FormulaOpening.{FormulaOpening}
use Rattle.sot_formula.specs.declared.words.FormulaOpening.TheVariants as openings
use Rattle.sot_formula.specs.declared.words.Word.{Word}
use Rattle.sot_formula.specs.declared.words.Word.TheVariants as words
use Rattle.sot_formula.specs.declared.finding.FoundQuantity.{FoundQuantity}
use Rattle.sot_formula.specs.Phrases.{Reference, Relation, to_number, to_another, of_two, reference_spelled, relation_spelled, IsReference, IsRelation}
use Rattle.sot_formula.specs.Phrases.{a_mode, a_name, a_field, Literal, a_number, a_negative, Phrase, a_truth, a_single, a_double, a_row, a_within, a_comparison}
use Rattle.sot_formula.specs.Phrases.{literal_spelled, spelled, IsWord, IsSingle, IsDouble, IsLiteral, IsComparing, AreTicks, IsPhrase, levels_of}
use Rattle.sot_formula.specs.Phrases.{row_length, most_parts, HasParts, StandsIn}
use Rattle.sot_formula.specs.Words.{comparing_of, pairing_of, is_mode, opening_of, opening_from, word_of, single_what, double_what}
use Rattle.sot_formula.specs.Finding.{plain_named, part_named, module_named}
use Rattle.sot_formula.specs.Reading.{Laid, place, put, compared, against, paired, Reader, name_token}
use Rattle.sot_formula.specs.Reading.{reference_at, behind_reference_at, other_at, alone_at, paired_at, tail_at}
use Rattle.sot_formula.specs.Reading.{any_token, found_or_stuck, comparing_at, comparison_at, ticks_of, are_ticks, ticks_at}
use Rattle.sot_formula.specs.Reading.{single_at, joined_at, more_at, row_at, double_at, within_at, mode_at, mode_compared_at}
use Rattle.sot_formula.specs.Reading.{part_at, named_at, called_at, behind_name_at, opened_at, formula_at}
use Rattle.sot_formula.proofs.Laying.{found_of, or_less, by_of, or_sum, pair_of, lit_of, laid_relation, laid, IsOpened, opening_tells, IsWordOf, word_tells}
use Rattle.sot_formula.proofs.Laying.{same_word, signed, compares, pair_signed, pairs}

abbrev Got : Type 0
Got = Laid × List Lexeme

abbrev pub IsLaidBy : Tables → ℕ → Laid → List Lexeme → Got → Type 0
IsLaidBy p room s ts x = (f : Phrase) × IsPhrase f × (ts ≡ spelled f x.1) × (levels_of f ≤ room) × (x.0 ≡ laid p f s)

abbrev pub OnlyPhrases : Tables → ℕ → Reader → Type 0
OnlyPhrases p room inner = (s : Laid) (ts : List Lexeme) (x : Got) → inner s ts ≡ Ok x → IsLaidBy p room s ts x

both_true : (a b : Bool) → (a && b) ≡ true → (a ≡ true) × (b ≡ true)
both_true true b e = (refl, e)
both_true false b e = absurd cc

name_taken : (ts : List Lexeme) (x : Lexeme × List Lexeme) → name_token ts ≡ Ok x → IsName x.0 × (ts ≡ x.0 ∷ x.1)
name_taken ts x e =
    let h = one_token_ok is_name (λ t. t) ts x e in
    (subst IsName (sym h.view_is) (name_ok h.token h.passes), h.tokens ∙ ap (λ t. t ∷ x.1) (sym h.view_is))

-- the sign of a comparison
comparing_sound : (ts : List Lexeme) (x : Comparison × List Lexeme) → comparing_at ts ≡ Ok x → (t : Lexeme) × (ts ≡ t ∷ x.1) × (comparing_of t ≡ Some x.0)
unfolding comparing_at
comparing_sound [] x e = absurd cc
comparing_sound (t ∷ us) x e = (let r = from (comparing_of t) e in (t, ap (λ vs. t ∷ vs) r.1, r.0))
  where
    from : (o : Option Comparison) → (found_or_stuck o (t ∷ us) >>= λ by. any_token by.1 >>= λ u. Ok (by.0, u.1)) ≡ Ok x → (o ≡ Some x.0) × (us ≡ x.1)
    from None e = absurd cc
    from (Some c) e = (let is = ok_is (c, us) x e in (ap (λ (z : Comparison × List Lexeme). Some z.0) is, ap (λ (z : Comparison × List Lexeme). z.1) is))

literal_sound : (ts : List Lexeme) (x : Lit × List Lexeme) → literal_at ts ≡ Ok x → (z : Literal) × IsLiteral z × (ts ≡ literal_spelled z x.1)
    × (x.0 ≡ lit_of z)
literal_sound [] x e = absurd cc
literal_sound (t ∷ us) x e =
    chosen_by (is_sign (codes "-") t) (negative_at t us) (number_at (t ∷ us)) x _ e
    (λ minus read. (let n = negative_taken t us x read in (a_negative t n.0, (sign_ok (codes "-") t minus, n.2), ap (λ vs. t ∷ vs) n.1, n.3)))
    (λ other read. (let n = number_taken (t ∷ us) x read in (a_number n.0, n.2, n.1, n.3)))

-- a reference that was read
abbrev Found : Type 0
Found = Option FoundQuantity × List Lexeme

abbrev IsReferenceBy : Tables → List Lexeme → Found → Type 0
IsReferenceBy p ts x = (r : Reference) × IsReference r × (ts ≡ reference_spelled r x.1) × (x.0 ≡ found_of p r)

mode_sound : (p : Tables) (w : Lexeme) (ts : List Lexeme) (x : Found) → IsWord (codes "mode") w → mode_at p ts ≡ Ok x → IsReferenceBy p (w ∷ ts) x
unfolding mode_at
mode_sound p w ts x word e =
    let b = bind_ok (expect (is_sign (codes "(")) ts) _ x e in
    let begin = sign_taken (codes "(") ts b.0 b.1 in
    let k = bind_ok (name_token b.0.1) _ x b.2 in
    let n = name_taken b.0.1 k.0 k.1 in
    let c = bind_ok (expect (is_sign (codes ")")) k.0.1) _ x k.2 in
    let end = sign_taken (codes ")") k.0.1 c.0 c.1 in
    let is : ◌≡◌ {A = Found} (module_named p k.0.0.text, c.0.1) x = ok_is (module_named p k.0.0.text, c.0.1) x c.2 in (
      a_mode w begin.0 k.0.0 end.0,
      (word, begin.2, n.0, end.2),
      ap (λ vs. w ∷ vs) (begin.1 ∙ ap (λ vs. begin.0 ∷ vs) (n.1 ∙ ap (λ vs. k.0.0 ∷ vs) (end.1 ∙ ap (λ (z : Found). end.0 ∷ z.1) is))),
      sym (ap (λ (z : Found). z.0) is),
    )

part_sound : (p : Tables) (n : Lexeme) (ts : List Lexeme) (x : Found) → IsName n → part_at p n ts ≡ Ok x → IsReferenceBy p (n ∷ ts) x
unfolding part_at
part_sound p n ts x name e =
    let b = bind_ok (expect (is_sign (codes ".")) ts) _ x e in
    let dot = sign_taken (codes ".") ts b.0 b.1 in
    let k = bind_ok (name_token b.0.1) _ x b.2 in
    let f = name_taken b.0.1 k.0 k.1 in
    let is : ◌≡◌ {A = Found} (part_named p n.text k.0.0.text, k.0.1) x = ok_is (part_named p n.text k.0.0.text, k.0.1) x k.2 in (
      a_field n dot.0 k.0.0,
      (name, dot.2, f.0),
      ap (λ vs. n ∷ vs) (dot.1 ∙ ap (λ vs. dot.0 ∷ vs) (f.1 ∙ ap (λ (z : Found). k.0.0 ∷ z.1) is)),
      sym (ap (λ (z : Found). z.0) is),
    )

behind_reference_sound : (p : Tables) (n : Lexeme) (ts : List Lexeme) (x : Found) → IsName n → behind_reference_at p n ts ≡ Ok x → IsReferenceBy p (n ∷ ts) x
unfolding behind_reference_at
behind_reference_sound p n ts x name e =
    chosen_by (begins (is_sign (codes "(")) ts) (cond (is_mode n.text) (mode_at p ts) (Err (stuck, ts)))
    (cond (begins (is_sign (codes ".")) ts) (part_at p n ts) (Ok (plain_named p n.text, ts))) x (IsReferenceBy p (n ∷ ts) x) e
    (λ opens read.
    let g = guard_ok (is_mode n.text) (mode_at p ts) (stuck, ts) x read in
    mode_sound p n ts x (record { name = name; text_is = same_word n.text (codes "mode") g.0 }) g.1)
    (λ other read. chosen_by (begins (is_sign (codes ".")) ts) (part_at p n ts) (Ok (plain_named p n.text, ts)) x (IsReferenceBy p (n ∷ ts) x) read
    (λ point part. part_sound p n ts x name part)
    (λ none' plain.
    let is : ◌≡◌ {A = Found} (plain_named p n.text, ts) x = ok_is (plain_named p n.text, ts) x plain in
    (a_name n, name, ap (λ (z : Found). n ∷ z.1) is, sym (ap (λ (z : Found). z.0) is))))

reference_sound : (p : Tables) (ts : List Lexeme) (x : Found) → reference_at p ts ≡ Ok x → IsReferenceBy p ts x
unfolding reference_at
reference_sound p ts x e =
    let n = bind_ok (name_token ts) _ x e in
    let taken = name_taken ts n.0 n.1 in
    let h = behind_reference_sound p n.0.0 n.0.1 x taken.0 n.2 in
    (h.0, h.1, taken.1 ∙ h.2, h.3)

-- what stands behind a reference
abbrev IsRelatedBy : Tables → Reference → Laid → List Lexeme → Got → Type 0
IsRelatedBy p r s ts x = (c : Relation) × IsRelation c × (reference_spelled r ts ≡ relation_spelled c x.1) × (x.0 ≡ laid_relation p c s)

alone_sound : (p : Tables) (r : Reference) (s : Laid) (ts : List Lexeme) (x : Got) → IsReference r → alone_at p (found_of p r) s ts ≡ Ok x
    → IsRelatedBy p r s ts x
unfolding alone_at other_at
alone_sound p r s ts x ref e =
    let f = found_of p r in
    let b = bind_ok (comparing_at ts) _ x e in
    let by = comparing_sound ts b.0 b.1 in
    let sign : by_of by.0 ≡ b.0.0 = ap or_less by.2 in
    let is_by = compares b.0.0 by.0 (signed by.0 b.0.0 by.2) in
    chosen_by (begins is_name b.0.1) (reference_at p b.0.1 >>= λ q. Ok (against f b.0.0 q.0 s, q.1)) (literal_at b.0.1 >>= λ z. Ok (compared f b.0.0 z.0 s, z.1)) x
    (IsRelatedBy p r s ts x) b.2
    (λ name read.
    let q = bind_ok (reference_at p b.0.1) _ x read in
    let h = reference_sound p b.0.1 q.0 q.1 in
    let is = ok_is (against f b.0.0 q.0.0 s, q.0.1) x q.2 in (
      to_another r by.0 h.0,
      (ref, is_by, h.1),
      ap (reference_spelled r) (by.1 ∙ ap (λ vs. by.0 ∷ vs) (h.2 ∙ ap (λ (y : Got). reference_spelled h.0 y.1) is)),
      sym (ap (λ (y : Got). y.0) is) ∙ ap (λ c. against f c q.0.0 s) (sym sign) ∙ ap (λ o. against f (by_of by.0) o s) h.3,
    ))
    (λ other read.
    let c = bind_ok (literal_at b.0.1) _ x read in
    let z = literal_sound b.0.1 c.0 c.1 in
    let is = ok_is (compared f b.0.0 c.0.0 s, c.0.1) x c.2 in (
      to_number r by.0 z.0,
      (ref, is_by, z.1),
      ap (reference_spelled r) (by.1 ∙ ap (λ vs. by.0 ∷ vs) (z.2 ∙ ap (λ (y : Got). literal_spelled z.0 y.1) is)),
      sym (ap (λ (y : Got). y.0) is) ∙ ap (λ k. compared f k c.0.0 s) (sym sign) ∙ ap (λ l. compared f (by_of by.0) l s) z.3,
    ))

paired_sound : (p : Tables) (r : Reference) (j : Pairing) (s : Laid) (t : Lexeme) (us : List Lexeme) (x : Got) → IsReference r → pairing_of t ≡ Some j
    → paired_at p (found_of p r) j s (t ∷ us) ≡ Ok x → IsRelatedBy p r s (t ∷ us) x
unfolding paired_at
paired_sound p r j s t us x ref e_pair e =
    let f = found_of p r in
    let q = bind_ok (reference_at p us) _ x e in
    let h = reference_sound p us q.0 q.1 in
    let b = bind_ok (comparing_at q.0.1) _ x q.2 in
    let by = comparing_sound q.0.1 b.0 b.1 in
    let c = bind_ok (literal_at b.0.1) _ x b.2 in
    let z = literal_sound b.0.1 c.0 c.1 in
    let is = ok_is (paired f j q.0.0 b.0.0 c.0.0 s, c.0.1) x c.2 in
    let sign : by_of by.0 ≡ b.0.0 = ap or_less by.2 in
    let pair : pair_of t ≡ j = ap or_sum e_pair in (
      of_two r t h.0 by.0 z.0,
      (ref, pairs j t (pair_signed t j e_pair), h.1, compares b.0.0 by.0 (signed by.0 b.0.0 by.2), z.1),
      ap (λ vs. reference_spelled r (t ∷ vs))
          (h.2 ∙ ap (reference_spelled h.0) (by.1 ∙ ap (λ vs. by.0 ∷ vs) (z.2 ∙ ap (λ (y : Got). literal_spelled z.0 y.1) is))),
      sym (ap (λ (y : Got). y.0) is)
          ∙ ap (λ o. paired f j o b.0.0 c.0.0 s) h.3
          ∙ ap (λ k. paired f k (found_of p h.0) b.0.0 c.0.0 s) (sym pair)
          ∙ ap (λ k. paired f (pair_of t) (found_of p h.0) k c.0.0 s) (sym sign)
          ∙ ap (λ l. paired f (pair_of t) (found_of p h.0) (by_of by.0) l s) z.3,
    )

comparison_sound : (p : Tables) (r : Reference) (s : Laid) (ts : List Lexeme) (x : Got) → IsReference r → comparison_at p (found_of p r) s ts ≡ Ok x
    → IsRelatedBy p r s ts x
unfolding comparison_at tail_at
comparison_sound p r s [] x ref e = alone_sound p r s [] x ref e
comparison_sound p r s (t ∷ us) x ref e = from (pairing_of t) refl e
  where
    from : (o : Option Pairing) → pairing_of t ≡ o → tail_at p (found_of p r) o s (t ∷ us) ≡ Ok x → IsRelatedBy p r s (t ∷ us) x
    from None is read = alone_sound p r s (t ∷ us) x ref read
    from (Some j) is read = paired_sound p r j s t us x ref is read

few_ticks : (m d : ℕ) → ((d == 0) && int_le (pos m) (pos 100000)) ≡ true → (d ≡ 0) × (m ≤ 100000)
few_ticks m d e = (let b = both_true (d == 0) (int_le (pos m) (pos 100000)) e in (grind (arith, nat_tests), grind (arith, nat_tests)))

ticks_sound : (ts : List Lexeme) (x : ℕ × List Lexeme) → ticks_at ts ≡ Ok x → (n : Lexeme) × (ts ≡ n ∷ x.1) × AreTicks n × (x.0 ≡ ticks_of (literal n))
unfolding ticks_at
ticks_sound ts x e =
    let n = bind_ok (number_at ts) _ x e in
    let t = number_taken ts n.0 n.1 in
    let g = guard_ok (are_ticks n.0.0) (Ok (ticks_of n.0.0, n.0.1)) _ x n.2 in
    let is : ◌≡◌ {A = ℕ × List Lexeme} (ticks_of n.0.0, n.0.1) x = ok_is (ticks_of n.0.0, n.0.1) x g.1 in
    let few = few_ticks (mantissa_of t.0.text) (decimals_of t.0.text) (subst (λ (l : Lit). are_ticks l ≡ true) t.3 g.0) in (
      t.0,
      t.1 ∙ ap (λ (z : ℕ × List Lexeme). t.0 ∷ z.1) is,
      record { number = t.2; whole = few.0; few = few.1 },
      sym (ap (λ (z : ℕ × List Lexeme). z.0) is) ∙ ap ticks_of t.3,
    )

-- a formula may stand where a row may, and is one of length 1
may_join : (f : Phrase) (o : Double) → IsPhrase f → StandsIn f (Some o)
may_join (a_truth value t) o is = is
may_join (a_single q w begin f end) o is = is
may_join (a_double q w begin row end) o is = is
may_join (a_row q f comma g) o is = absurd is.0
may_join (a_within w begin n comma f end) o is = is
may_join (a_comparison c) o is = is

alone_length : (f : Phrase) → IsPhrase f → row_length f ≡ 1
alone_length (a_truth value t) is = refl
alone_length (a_single q w begin f end) is = refl
alone_length (a_double q w begin row end) is = refl
alone_length (a_row q f comma g) is = absurd is.0
alone_length (a_within w begin n comma f end) is = refl
alone_length (a_comparison c) is = refl

two_joined : (o : Double) → 2 ≤ most_parts o
two_joined doubles.And = omega arith
two_joined doubles.Or = omega arith
two_joined doubles.Since = omega arith
two_joined doubles.Implies = omega arith

module _ (p : Tables) (r : ℕ) (inner : Reader) (only : OnlyPhrases p r inner) where
  abbrev IsSingleBy : Single → Laid → List Lexeme → Got → Type 0
  IsSingleBy o s ts x =
      (begin : Lexeme) × (f : Phrase) × (end : Lexeme) × IsSign (codes "(") begin × IsPhrase f × IsSign (codes ")") end
      × (ts ≡ begin ∷ spelled f (end ∷ x.1)) × (levels_of f ≤ r) × (x.0 ≡ put (single_what o (place (laid p f s))) (laid p f s))

  single_sound : (o : Single) (s : Laid) (ts : List Lexeme) (x : Got) → single_at o inner s ts ≡ Ok x → IsSingleBy o s ts x
  unfolding single_at
  single_sound o s ts x e =
      let b = bind_ok (expect (is_sign (codes "(")) ts) _ x e in
      let begin = sign_taken (codes "(") ts b.0 b.1 in
      let i = bind_ok (inner s b.0.1) _ x b.2 in
      let f = only s b.0.1 i.0 i.1 in
      let c = bind_ok (expect (is_sign (codes ")")) i.0.1) _ x i.2 in
      let end = sign_taken (codes ")") i.0.1 c.0 c.1 in
      let is = ok_is (put (single_what o (place i.0.0)) i.0.0, c.0.1) x c.2 in (
        begin.0,
        f.0,
        end.0,
        begin.2,
        f.1,
        end.2,
        begin.1 ∙ ap (λ vs. begin.0 ∷ vs) (f.2 ∙ ap (spelled f.0) (end.1 ∙ ap (λ (y : Got). end.0 ∷ y.1) is)),
        f.3,
        sym (ap (λ (y : Got). y.0) is) ∙ ap (λ l. put (single_what o (place l)) l) f.4,
      )

  -- a row, and one part more of it
  abbrev IsJoinedBy : Double → Phrase → Laid → List Lexeme → Got → Type 0
  IsJoinedBy o f s ts x =
      (comma : Lexeme) × (g : Phrase) × StandsIn (a_row o f comma g) (Some o) × (ts ≡ comma ∷ spelled g x.1) × (levels_of (a_row o f comma g) ≤ r)
      × (x.0 ≡ laid p (a_row o f comma g) s)

  joined_sound : (o : Double) (f : Phrase) (s t : Laid) (ts : List Lexeme) (x : Got) → StandsIn f (Some o) → levels_of f ≤ r → t ≡ laid p f s
      → joined_at o inner t ts ≡ Ok x → IsJoinedBy o f s ts x
  unfolding joined_at
  joined_sound o f s t ts x is low same e =
      let m = bind_ok (expect (is_sign (codes ",")) ts) _ x e in
      let comma = sign_taken (codes ",") ts m.0 m.1 in
      let j = bind_ok (inner t m.0.1) _ x m.2 in
      let g = only t m.0.1 j.0 j.1 in
      let end = ok_is (put (double_what o (place t) (place j.0.0)) j.0.0, j.0.1) x j.2 in
      let second : j.0.0 ≡ laid p g.0 (laid p f s) = g.4 ∙ ap (laid p g.0) same in
      let few : levels_of (a_row o f comma.0 g.0) ≤ r = (let low' = g.3 in omega (arith, clamps, low, low')) in (
        comma.0,
        g.0,
        (refl, is, comma.2, g.1),
        comma.1 ∙ ap (λ vs. comma.0 ∷ vs) (g.2 ∙ ap (λ (y : Got). spelled g.0 y.1) end),
        few,
        sym (ap (λ (y : Got). y.0) end) ∙ ap₂ (λ k l. put (double_what o (place k) (place l)) l) same second,
      )

  -- a row that goes on
  abbrev IsRowBy : Double → Phrase → ℕ → Laid → List Lexeme → Got → Type 0
  IsRowBy o f count s ts x =
      (h : Phrase) × StandsIn h (Some o) × (spelled f ts ≡ spelled h x.1) × (levels_of h ≤ r) × (row_length f ≤ row_length h)
      × (row_length h ≤ row_length f + count) × (x.0 ≡ laid p h s)

  more_sound : (o : Double) (count : ℕ) (f : Phrase) (s t : Laid) (ts : List Lexeme) (x : Got) → StandsIn f (Some o) → levels_of f ≤ r → t ≡ laid p f s
      → more_at o inner count t ts ≡ Ok x → IsRowBy o f count s ts x
  unfolding more_at
  more_sound o zero f s t ts x is low same e =
      let end = ok_is (t, ts) x e in
      (f, is, ap (λ (y : Got). spelled f y.1) end, low, omega arith, omega arith, sym (ap (λ (y : Got). y.0) end) ∙ same)
  more_sound o (suc count) f s t ts x is low same e =
      chosen_by (begins (is_sign (codes ",")) ts) (joined_at o inner t ts >>= λ g. more_at o inner count g.0 g.1) (Ok (t, ts)) x _ e
      (λ here read.
      let j = bind_ok (joined_at o inner t ts) _ x read in
      let g = joined_sound o f s t ts j.0 is low same j.1 in
      let k = more_sound o count (a_row o f g.0 g.1) s j.0.0 j.0.1 x g.2 g.4 g.5 j.2 in
      let less = k.4 in
      let few = k.5 in
      (k.0, k.1, ap (spelled f) g.3 ∙ k.2, k.3, omega (arith, less), omega (arith, few), k.6))
      (λ other read.
      let end = ok_is (t, ts) x read in
      (f, is, ap (λ (y : Got). spelled f y.1) end, low, omega arith, omega arith, sym (ap (λ (y : Got). y.0) end) ∙ same))

  abbrev IsDoubleBy : Double → Laid → List Lexeme → Got → Type 0
  IsDoubleBy o s ts x =
      (begin : Lexeme) × (row : Phrase) × (end : Lexeme) × IsSign (codes "(") begin × StandsIn row (Some o) × HasParts o row × IsSign (codes ")") end
      × (ts ≡ begin ∷ spelled row (end ∷ x.1)) × (levels_of row ≤ r) × (x.0 ≡ laid p row s)

  double_sound : (o : Double) (s : Laid) (ts : List Lexeme) (x : Got) → double_at o inner s ts ≡ Ok x → IsDoubleBy o s ts x
  unfolding double_at row_at
  double_sound o s ts x e =
      let b = bind_ok (expect (is_sign (codes "(")) ts) _ x e in
      let begin = sign_taken (codes "(") ts b.0 b.1 in
      let m = bind_ok (row_at o inner s b.0.1) _ x b.2 in
      let i = bind_ok (inner s b.0.1) _ m.0 m.1 in
      let f = only s b.0.1 i.0 i.1 in
      let j = bind_ok (joined_at o inner i.0.0 i.0.1) _ m.0 i.2 in
      let g = joined_sound o f.0 s i.0.0 i.0.1 j.0 (may_join f.0 o f.1) f.3 f.4 j.1 in
      let row = more_sound o (most_parts o - 2) (a_row o f.0 g.0 g.1) s j.0.0 j.0.1 m.0 g.2 g.4 g.5 j.2 in
      let c = bind_ok (expect (is_sign (codes ")")) m.0.1) _ x m.2 in
      let end = sign_taken (codes ")") m.0.1 c.0 c.1 in
      let is = ok_is (m.0.0, c.0.1) x c.2 in
      let one = alone_length f.0 f.1 in
      let least = row.4 in
      let most = row.5 in
      let two = two_joined o in (
        begin.0,
        row.0,
        end.0,
        begin.2,
        row.1,
        (omega (arith, one, least), omega (arith, one, most, two)),
        end.2,
        begin.1
            ∙ ap (λ vs. begin.0 ∷ vs)
            (f.2 ∙ ap (spelled f.0) g.3 ∙ row.2 ∙ ap (spelled row.0) (end.1 ∙ ap (λ (y : Got). end.0 ∷ y.1) is)),
        row.3,
        sym (ap (λ (y : Got). y.0) is) ∙ row.6,
      )

  abbrev IsWithinBy : Laid → List Lexeme → Got → Type 0
  IsWithinBy s ts x =
      (begin n comma : Lexeme) × (f : Phrase) × (end : Lexeme)
      × IsSign (codes "(") begin × AreTicks n × IsSign (codes ",") comma × IsPhrase f × IsSign (codes ")") end
      × (ts ≡ begin ∷ n ∷ comma ∷ spelled f (end ∷ x.1)) × (levels_of f ≤ r)
      × (x.0 ≡ put (whats.Within (ticks_of (literal n)) (place (laid p f s))) (laid p f s))

  within_sound : (s : Laid) (ts : List Lexeme) (x : Got) → within_at inner s ts ≡ Ok x → IsWithinBy s ts x
  unfolding within_at
  within_sound s ts x e =
      let b = bind_ok (expect (is_sign (codes "(")) ts) _ x e in
      let begin = sign_taken (codes "(") ts b.0 b.1 in
      let k = bind_ok (ticks_at b.0.1) _ x b.2 in
      let n = ticks_sound b.0.1 k.0 k.1 in
      let m = bind_ok (expect (is_sign (codes ",")) k.0.1) _ x k.2 in
      let comma = sign_taken (codes ",") k.0.1 m.0 m.1 in
      let i = bind_ok (inner s m.0.1) _ x m.2 in
      let f = only s m.0.1 i.0 i.1 in
      let c = bind_ok (expect (is_sign (codes ")")) i.0.1) _ x i.2 in
      let end = sign_taken (codes ")") i.0.1 c.0 c.1 in
      let is = ok_is (put (whats.Within k.0.0 (place i.0.0)) i.0.0, c.0.1) x c.2 in (
        begin.0,
        n.0,
        comma.0,
        f.0,
        end.0,
        begin.2,
        n.2,
        comma.2,
        f.1,
        end.2,
        begin.1
            ∙ ap (λ vs. begin.0 ∷ vs)
            (n.1 ∙ ap (λ vs. n.0 ∷ vs) (comma.1 ∙ ap (λ vs. comma.0 ∷ vs) (f.2 ∙ ap (spelled f.0) (end.1 ∙ ap (λ (y : Got). end.0 ∷ y.1) is)))),
        f.3,
        sym (ap (λ (y : Got). y.0) is) ∙ ap₂ (λ k l. put (whats.Within k (place l)) l) n.3 f.4,
      )

  -- a comparison, from its first reference on
  related_phrase : (ts us : List Lexeme) (o : Option FoundQuantity) (s : Laid) (x : Got) → IsReferenceBy p ts (o, us) → comparison_at p o s us ≡ Ok x
      → IsLaidBy p (suc r) s ts x
  related_phrase ts us o s x h e =
      let c = comparison_sound p h.0 s us x h.1 (subst (λ (f : Option FoundQuantity). comparison_at p f s us ≡ Ok x) h.3 e) in
      (a_comparison c.0, c.1, h.2 ∙ c.2, omega arith, c.3)

  mode_phrase : (w : Lexeme) (s : Laid) (ts : List Lexeme) (x : Got) → IsWord (codes "mode") w → mode_compared_at p s ts ≡ Ok x → IsLaidBy p (suc r) s (w ∷ ts) x
  unfolding mode_compared_at
  mode_phrase w s ts x word e =
      let a = bind_ok (mode_at p ts) _ x e in
      related_phrase (w ∷ ts) a.0.1 a.0.0 s x (mode_sound p w ts a.0 word a.1) a.2

  -- a comparison of what a name names
  named_sound : (n : Lexeme) (s : Laid) (ts : List Lexeme) (x : Got) → IsName n → named_at p n s ts ≡ Ok x → IsLaidBy p (suc r) s (n ∷ ts) x
  unfolding named_at
  named_sound n s ts x name e =
      chosen_by (begins (is_sign (codes ".")) ts) (part_at p n ts >>= λ r. comparison_at p r.0 s r.1) (comparison_at p (plain_named p n.text) s ts) x _ e
      (λ point read.
      let a = bind_ok (part_at p n ts) _ x read in
      related_phrase (n ∷ ts) a.0.1 a.0.0 s x (part_sound p n ts a.0 name a.1) a.2)
      (λ other read. related_phrase (n ∷ ts) ts (plain_named p n.text) s x (a_name n, name, refl, refl) read)

  single_phrase : (o : Single) (w : Lexeme) (s : Laid) (ts : List Lexeme) (x : Got) → IsSingle o w → single_at o inner s ts ≡ Ok x
      → IsLaidBy p (suc r) s (w ∷ ts) x
  single_phrase o w s ts x is e =
      let h = single_sound o s ts x e in
      (a_single o w h.0 h.1 h.2, (is, h.3, h.4, h.5), ap (λ vs. w ∷ vs) h.6, omega (arith, h.7), h.8)

  double_phrase : (o : Double) (w : Lexeme) (s : Laid) (ts : List Lexeme) (x : Got) → IsDouble o w → double_at o inner s ts ≡ Ok x
      → IsLaidBy p (suc r) s (w ∷ ts) x
  double_phrase o w s ts x is e =
      let h = double_sound o s ts x e in
      (a_double o w h.0 h.1 h.2, (is, h.3, h.4, h.5, h.6), ap (λ vs. w ∷ vs) h.7, omega (arith, h.8), h.9)

  called_sound : (word : Word) (w : Lexeme) (s : Laid) (ts : List Lexeme) (x : Got) → IsName w → IsWordOf w.text word → called_at p inner word s ts ≡ Ok x
      → IsLaidBy p (suc r) s (w ∷ ts) x
  unfolding called_at
  called_sound (words.Single o) w s ts x name is e = single_phrase o w s ts x (is w name refl) e
  called_sound (words.Double o) w s ts x name is e = double_phrase o w s ts x (is w name refl) e
  called_sound words.Within w s ts x name is e =
      let h = within_sound s ts x e in
      (a_within w h.0 h.1 h.2 h.3 h.4, (record { name = name; text_is = is }, h.5, h.6, h.7, h.8, h.9), ap (λ vs. w ∷ vs) h.10, omega (arith, h.11), h.12)
  called_sound words.Mode w s ts x name is e = mode_phrase w s ts x (record { name = name; text_is = is }) e
  called_sound words.Other w s ts x name is e = absurd cc

  behind_sound : (w : Lexeme) (s : Laid) (ts : List Lexeme) (x : Got) → IsName w → behind_name_at p inner w s ts ≡ Ok x → IsLaidBy p (suc r) s (w ∷ ts) x
  unfolding behind_name_at
  behind_sound w s ts x name e =
      chosen_by (begins (is_sign (codes "(")) ts) (called_at p inner (word_of w.text) s ts) (named_at p w s ts) x _ e
      (λ here read. called_sound (word_of w.text) w s ts x name (word_tells w.text) read)
      (λ other read. named_sound w s ts x name read)

  opened_sound : (o : FormulaOpening) (t : Lexeme) (s : Laid) (ts : List Lexeme) (x : Got) → IsOpened t o → opened_at p inner o s (t ∷ ts) ≡ Ok x
      → IsLaidBy p (suc r) s (t ∷ ts) x
  unfolding opened_at
  opened_sound (openings.Truth value) t s ts x is e =
      let same = ok_is (put (whats.Truth value) s, ts) x e in
      (a_truth value t, is, ap (λ (y : Got). t ∷ y.1) same, omega arith, sym (ap (λ (y : Got). y.0) same))
  opened_sound (openings.Single o) t s ts x is e = single_phrase o t s ts x is e
  opened_sound (openings.Double o) t s ts x is e = double_phrase o t s ts x is e
  opened_sound openings.Name t s ts x is e =
      let n = bind_ok (name_token (t ∷ ts)) _ x e in
      let taken = name_taken (t ∷ ts) n.0 n.1 in
      let h = behind_sound n.0.0 s n.0.1 x taken.0 n.2 in
      (h.0, h.1, taken.1 ∙ h.2, h.3, h.4)
  opened_sound openings.Other t s ts x is e = absurd cc

  first_sound : (s : Laid) (ts : List Lexeme) (x : Got) → opened_at p inner (opening_from (first_of ts)) s ts ≡ Ok x → IsLaidBy p (suc r) s ts x
  unfolding opened_at
  first_sound s [] x e = absurd cc
  first_sound s (t ∷ ts) x e = opened_sound (opening_of t) t s ts x (opening_tells t) e

pub sound : (p : Tables) (room : ℕ) → OnlyPhrases p room (formula_at p room)
unfolding formula_at
sound p zero s ts x e = absurd cc
sound p (suc r) s ts x e = first_sound p r (formula_at p r) (sound p r) s ts x e
