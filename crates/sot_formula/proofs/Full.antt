-- Each phrase is read.
use Rattle.std.proofs.Common.{◌≡◌, ℕ, zero, suc, ◌≤◌, ◌+◌, ◌-◌, ◌&&◌, ◌==◌, cond, List, ◌∷◌, Bool, true}
use Rattle.std.proofs.Common.{false, pos, codes, Option, Some, Ok, Err, inl, inr, refl, sym, ap, ap₂, subst, ◌∙◌, arith}
use Rattle.std.specs.Prelude.{int_le}
use Rattle.std.proofs.lemmas.Int.{clamps}
use Rattle.std.proofs.lemmas.Bool.Decides.{nat_tests}
use Rattle.sot_text.specs.Lexeme.{mantissa_of, decimals_of}
use Rattle.sot_text.specs.Reading.{Lexeme}
use Rattle.sot_lang.specs.Tables.{Tables}
use Rattle.sot_expression.specs.Lexemes.{IsSign, IsName, IsNumber, begins, is_sign, is_name, is_number, literal, negative_literal}
use Rattle.sot_expression.specs.Readers.{Read, ◌>>=◌, stuck, one_token, expect, number_at, negative_at, literal_at}
use Rattle.sot_expression.specs.Stream.{first_of}
use Rattle.sot_expression.proofs.TokenTests.{sign_is, name_is, number_is}
use Rattle.sot_expression.proofs.ReadSteps.{give, ok}
use Rattle.sot_formula.specs.declared.quantity.Comparison.{Comparison}
use Rattle.sot_formula.specs.declared.quantity.Comparison.TheVariants as comparisons
use Rattle.sot_formula.specs.declared.quantity.Pairing.{Pairing}
use Rattle.sot_formula.specs.declared.quantity.Pairing.TheVariants as pairings
use Rattle.sot_formula.specs.declared.what.What.TheVariants as whats
use Rattle.sot_formula.specs.Meanings.{sign_text}
use Rattle.sot_formula.specs.declared.words.Single.{Single}
use Rattle.sot_formula.specs.declared.words.Single.TheVariants as singles
use Rattle.sot_formula.specs.declared.words.Double.{Double}
use Rattle.sot_formula.specs.declared.words.Double.TheVariants as doubles
use Rattle.sot_formula.specs.declared.finding.FoundQuantity.{FoundQuantity}
use Rattle.sot_formula.specs.Phrases.{Relation, to_number, to_another, of_two, reference_spelled, IsRelation}
use Rattle.sot_formula.specs.Phrases.{Reference, a_mode, a_name, a_field, Literal, a_number}
use Rattle.sot_formula.specs.Phrases.{a_negative, Phrase, a_truth, a_single, a_double, a_row, a_within, a_comparison}
use Rattle.sot_formula.specs.Phrases.{literal_spelled, spelled, IsReference, IsLiteral, IsComparing, IsPairing, AreTicks, IsPhrase, levels_of}
use Rattle.sot_formula.specs.Phrases.{row_length, most_parts, HasParts, StandsIn}
use Rattle.sot_formula.specs.Words.{pairing_of, is_mode, opening_of, opening_from, word_of, single_what, double_what}
use Rattle.sot_formula.specs.Finding.{plain_named, part_named, module_named}
use Rattle.sot_formula.specs.Reading.{Laid, place, put, compared, against, paired, Reader, name_token}
use Rattle.sot_formula.specs.Reading.{reference_at, behind_reference_at, other_at, alone_at, paired_at, tail_at}
use Rattle.sot_formula.specs.Reading.{any_token, found_or_stuck, comparing_at, comparison_at, ticks_of, are_ticks, ticks_at}
use Rattle.sot_formula.specs.Reading.{single_at, joined_at, more_at, row_at, double_at, within_at, mode_at, mode_compared_at}
use Rattle.sot_formula.specs.Reading.{part_at, named_at, called_at, behind_name_at, opened_at, formula_at}
use Rattle.sot_formula.proofs.Laying.{found_of, by_of, or_sum, pair_of, laid_relation, pair_signs, some_pair, no_pair}
use Rattle.sot_formula.proofs.Laying.{or_less, lit_of, laid, signs, some_sign, truth_opens, not_opens, and_opens, or_opens, name_opens}

one_read : {A : Type 0} (test : Lexeme → Bool) (view : Lexeme → A) (t : Lexeme) (ts : List Lexeme) → test t ≡ true
    → one_token test view (t ∷ ts) ≡ Ok (view t, ts)
one_read test view t ts is = ap (λ (b : Bool). cond b (ok (view t, ts)) (Err (stuck, t ∷ ts))) is

sign_read : (w : List ℕ) (t : Lexeme) (ts : List Lexeme) → is_sign w t ≡ true → expect (is_sign w) (t ∷ ts) ≡ Ok (t.at, ts)
sign_read w t ts is = one_read (is_sign w) (λ u. u.at) t ts is

open_is : (t : Lexeme) → IsSign (codes "(") t → is_sign (codes "(") t ≡ true
open_is t is = ap (is_sign (codes "(")) (sign_is (codes "(") t is)

close_is : (t : Lexeme) → IsSign (codes ")") t → is_sign (codes ")") t ≡ true
close_is t is = ap (is_sign (codes ")")) (sign_is (codes ")") t is)

comma_is : (t : Lexeme) → IsSign (codes ",") t → is_sign (codes ",") t ≡ true
comma_is t is = ap (is_sign (codes ",")) (sign_is (codes ",") t is)

dot_is : (t : Lexeme) → IsSign (codes ".") t → is_sign (codes ".") t ≡ true
dot_is t is = ap (is_sign (codes ".")) (sign_is (codes ".") t is)

name_read : (t : Lexeme) (ts : List Lexeme) → IsName t → name_token (t ∷ ts) ≡ Ok (t, ts)
name_read t ts is = one_read is_name (λ u. u) t ts (ap is_name (name_is t is))

number_read : (t : Lexeme) (ts : List Lexeme) → IsNumber t → number_at (t ∷ ts) ≡ Ok (literal t, ts)
number_read t ts is = one_read is_number literal t ts (ap is_number (number_is t is))

literal_read : (z : Literal) (ts : List Lexeme) → IsLiteral z → literal_at (literal_spelled z ts) ≡ Ok (lit_of z, ts)
literal_read (a_number n) ts is =
    ap (λ b. cond b (negative_at n ts) (number_at (n ∷ ts))) (ap (is_sign (codes "-")) (number_is n is)) ∙ number_read n ts is
literal_read (a_negative minus n) ts is =
    ap (λ b. cond b (negative_at minus (n ∷ ts)) (number_at (minus ∷ n ∷ ts))) (ap (is_sign (codes "-")) (sign_is (codes "-") minus is.0))
    ∙ one_read is_number (negative_literal minus) n ts (ap is_number (number_is n is.1))

comparing_read : (by : Lexeme) (ts : List Lexeme) → IsComparing by → comparing_at (by ∷ ts) ≡ Ok (by_of by, ts)
unfolding comparing_at
comparing_read by ts is =
    let c = some_sign by is in
    let sign = signs c.0 by c.1 in
    ap (λ o. found_or_stuck o (by ∷ ts) >>= λ b. any_token b.1 >>= λ u. Ok (b.0, u.1)) sign
    ∙ ap (λ b. ok (b, ts)) (sym (ap (λ o. or_less o) sign))

ticks_pass : (n : Lexeme) → AreTicks n → are_ticks (literal n) ≡ true
ticks_pass n is = ap₂ (λ a b. a && b) zero_is few_is
  where
    zero_is : (decimals_of n.text == 0) ≡ true
    zero_is = (let e = is.whole in grind (arith, nat_tests))

    few_is : int_le (pos (mantissa_of n.text)) (pos 100000) ≡ true
    few_is = (let e = is.few in grind (arith, nat_tests))

ticks_read : (n : Lexeme) (ts : List Lexeme) → AreTicks n → ticks_at (n ∷ ts) ≡ Ok (ticks_of (literal n), ts)
unfolding ticks_at
ticks_read n ts is =
    give (number_read n ts is.number) _ (Ok (ticks_of (literal n), ts))
    (ap (λ (b : Bool). cond b (ok (ticks_of (literal n), ts)) (Err (stuck, ts))) (ticks_pass n is))

-- a sign of a comparison begins neither a call nor a field
no_call : (by : Lexeme) (c : Comparison) → IsSign (sign_text c) by → is_sign (codes "(") by ≡ false
no_call by comparisons.Less is = ap (is_sign (codes "(")) (sign_is (codes "<") by is)
no_call by comparisons.LessEqual is = ap (is_sign (codes "(")) (sign_is (codes "<=") by is)
no_call by comparisons.Greater is = ap (is_sign (codes "(")) (sign_is (codes ">") by is)
no_call by comparisons.GreaterEqual is = ap (is_sign (codes "(")) (sign_is (codes ">=") by is)
no_call by comparisons.Equal is = ap (is_sign (codes "(")) (sign_is (codes "==") by is)
no_call by comparisons.NotEqual is = ap (is_sign (codes "(")) (sign_is (codes "!=") by is)

no_field : (by : Lexeme) (c : Comparison) → IsSign (sign_text c) by → is_sign (codes ".") by ≡ false
no_field by comparisons.Less is = ap (is_sign (codes ".")) (sign_is (codes "<") by is)
no_field by comparisons.LessEqual is = ap (is_sign (codes ".")) (sign_is (codes "<=") by is)
no_field by comparisons.Greater is = ap (is_sign (codes ".")) (sign_is (codes ">") by is)
no_field by comparisons.GreaterEqual is = ap (is_sign (codes ".")) (sign_is (codes ">=") by is)
no_field by comparisons.Equal is = ap (is_sign (codes ".")) (sign_is (codes "==") by is)
no_field by comparisons.NotEqual is = ap (is_sign (codes ".")) (sign_is (codes "!=") by is)

-- what stands behind a name goes on with it no more
abbrev pub Closes : List Lexeme → Type 0
Closes us = (begins (is_sign (codes "(")) us ≡ false) × (begins (is_sign (codes ".")) us ≡ false)

by_closes : (by : Lexeme) (ts : List Lexeme) → IsComparing by → Closes (by ∷ ts)
by_closes by ts is = (let c = some_sign by is in (no_call by c.0 c.1, no_field by c.0 c.1))

pair_closes : (t : Lexeme) (ts : List Lexeme) → IsPairing t → Closes (t ∷ ts)
pair_closes t ts (inl is) = (ap (is_sign (codes "(")) (sign_is (codes "+") t is), ap (is_sign (codes ".")) (sign_is (codes "+") t is))
pair_closes t ts (inr is) = (ap (is_sign (codes "(")) (sign_is (codes "-") t is), ap (is_sign (codes ".")) (sign_is (codes "-") t is))

close_closes : (t : Lexeme) (ts : List Lexeme) → IsSign (codes ")") t → Closes (t ∷ ts)
close_closes t ts is = (ap (is_sign (codes "(")) (sign_is (codes ")") t is), ap (is_sign (codes ".")) (sign_is (codes ")") t is))

comma_closes : (t : Lexeme) (ts : List Lexeme) → IsSign (codes ",") t → Closes (t ∷ ts)
comma_closes t ts is = (ap (is_sign (codes "(")) (sign_is (codes ",") t is), ap (is_sign (codes ".")) (sign_is (codes ",") t is))

module _ (p : Tables) where
  mode_read : (w begin n end : Lexeme) (us : List Lexeme) → IsReference (a_mode w begin n end) → mode_at p (begin ∷ n ∷ end ∷ us) ≡ Ok (module_named p n.text, us)
  unfolding mode_at
  mode_read w begin n end us is =
      let y : Read (Option FoundQuantity) = Ok (module_named p n.text, us) in
      give (sign_read (codes "(") begin (n ∷ end ∷ us) (open_is begin is.1)) _ y
      (give (name_read n (end ∷ us) is.2) _ y (give (sign_read (codes ")") end us (close_is end is.3)) _ y refl))

  part_read : (n dot f : Lexeme) (us : List Lexeme) → IsReference (a_field n dot f) → part_at p n (dot ∷ f ∷ us) ≡ Ok (part_named p n.text f.text, us)
  unfolding part_at
  part_read n dot f us is =
      let y : Read (Option FoundQuantity) = Ok (part_named p n.text f.text, us) in
      give (sign_read (codes ".") dot (f ∷ us) (dot_is dot is.1)) _ y (give (name_read f us is.2) _ y refl)

  abbrev plain_or_part : Lexeme → List Lexeme → Read (Option FoundQuantity)
  plain_or_part n ts = cond (begins (is_sign (codes ".")) ts) (part_at p n ts) (Ok (plain_named p n.text, ts))

  reference_read : (q : Reference) (us : List Lexeme) → IsReference q → Closes us → reference_at p (reference_spelled q us) ≡ Ok (found_of p q, us)
  unfolding reference_at behind_reference_at
  reference_read (a_mode w begin n end) us is closes =
      let y : Read (Option FoundQuantity) = Ok (module_named p n.text, us) in
      let ts : List Lexeme = begin ∷ n ∷ end ∷ us in
      give (name_read w ts is.0.name) _ y
      (ap (λ (b : Bool). cond b (cond (is_mode w.text) (mode_at p ts) (Err (stuck, ts))) (plain_or_part w ts)) (open_is begin is.1)
      ∙ ap (λ v. cond (is_mode v) (mode_at p ts) (Err (stuck, ts))) is.0.text_is
      ∙ mode_read w begin n end us is)
  reference_read (a_name n) us is closes =
      let y : Read (Option FoundQuantity) = Ok (plain_named p n.text, us) in
      give (name_read n us is) _ y
      (ap (λ (b : Bool). cond b (cond (is_mode n.text) (mode_at p us) (Err (stuck, us))) (plain_or_part n us)) closes.0
      ∙ ap (λ (b : Bool). cond b (part_at p n us) y) closes.1)
  reference_read (a_field n dot f) us is closes =
      let y : Read (Option FoundQuantity) = Ok (part_named p n.text f.text, us) in
      let ts : List Lexeme = dot ∷ f ∷ us in
      give (name_read n ts is.0) _ y
      (ap (λ (b : Bool). cond b (cond (is_mode n.text) (mode_at p ts) (Err (stuck, ts))) (plain_or_part n ts)) (ap (is_sign (codes "(")) (sign_is (codes ".") dot is.1))
      ∙ ap (λ (b : Bool). cond b (part_at p n ts) (Ok (plain_named p n.text, ts))) (dot_is dot is.1)
      ∙ part_read n dot f us is)

  number_begins : (z : Literal) (us : List Lexeme) → IsLiteral z → begins is_name (literal_spelled z us) ≡ false
  number_begins (a_number n) us is = ap is_name (number_is n is)
  number_begins (a_negative minus n) us is = ap is_name (sign_is (codes "-") minus is.0)

  name_begins : (q : Reference) (us : List Lexeme) → IsReference q → begins is_name (reference_spelled q us) ≡ true
  name_begins (a_mode w begin n end) us is = ap is_name (name_is w is.0.name)
  name_begins (a_name n) us is = ap is_name (name_is n is)
  name_begins (a_field n dot f) us is = ap is_name (name_is n is.0)

  -- what stands behind the first reference of a comparison
  abbrev first_named : Relation → Reference
  first_named (to_number r by z) = r
  first_named (to_another r by q) = r
  first_named (of_two r pair q by z) = r

  abbrev behind_first : Relation → List Lexeme → List Lexeme
  behind_first (to_number r by z) us = by ∷ literal_spelled z us
  behind_first (to_another r by q) us = by ∷ reference_spelled q us
  behind_first (of_two r pair q by z) us = pair ∷ reference_spelled q (by ∷ literal_spelled z us)

  behind_closes : (c : Relation) (us : List Lexeme) → IsRelation c → Closes (behind_first c us)
  behind_closes (to_number r by z) us is = by_closes by (literal_spelled z us) is.1
  behind_closes (to_another r by q) us is = by_closes by (reference_spelled q us) is.1
  behind_closes (of_two r pair q by z) us is = pair_closes pair (reference_spelled q (by ∷ literal_spelled z us)) is.1

  first_is : (c : Relation) → IsRelation c → IsReference (first_named c)
  first_is (to_number r by z) is = is.0
  first_is (to_another r by q) is = is.0
  first_is (of_two r pair q by z) is = is.0

  alone_full : (f : Option FoundQuantity) (by : Lexeme) (ts us : List Lexeme) (s t : Laid) → IsComparing by → other_at p f (by_of by) s ts ≡ Ok (t, us)
      → comparison_at p f s (by ∷ ts) ≡ Ok (t, us)
  unfolding comparison_at tail_at alone_at
  alone_full f by ts us s t is e =
      let c = some_sign by is in
      ap (λ o. tail_at p f o s (by ∷ ts)) (no_pair c.0 by c.1) ∙ give (comparing_read by ts is) _ (Ok (t, us)) e

  comparison_full : (c : Relation) (s : Laid) (us : List Lexeme) → IsRelation c → Closes us
      → comparison_at p (found_of p (first_named c)) s (behind_first c us) ≡ Ok (laid_relation p c s, us)
  unfolding other_at comparison_at tail_at paired_at
  comparison_full (to_number r by z) s us is closes =
      let f = found_of p r in
      let ts = literal_spelled z us in
      let y : Read Laid = Ok (compared f (by_of by) (lit_of z) s, us) in
      alone_full f by ts us s (compared f (by_of by) (lit_of z) s) is.1
      (ap (λ (b : Bool). cond b (reference_at p ts >>= λ q. Ok (against f (by_of by) q.0 s, q.1)) (literal_at ts >>= λ l. Ok (compared f (by_of by) l.0 s, l.1)))
      (number_begins z us is.2)
      ∙ give (literal_read z us is.2) _ y refl)
  comparison_full (to_another r by q) s us is closes =
      let f = found_of p r in
      let ts = reference_spelled q us in
      let y : Read Laid = Ok (against f (by_of by) (found_of p q) s, us) in
      alone_full f by ts us s (against f (by_of by) (found_of p q) s) is.1
      (ap (λ (b : Bool). cond b (reference_at p ts >>= λ q. Ok (against f (by_of by) q.0 s, q.1)) (literal_at ts >>= λ l. Ok (compared f (by_of by) l.0 s, l.1)))
      (name_begins q us is.2)
      ∙ give (reference_read q us is.2 closes) _ y refl)
  comparison_full (of_two r pair q by z) s us is closes =
      let f = found_of p r in
      let j = some_pair pair is.1 in
      let sign = pair_signs j.0 pair j.1 in
      let ts : List Lexeme = by ∷ literal_spelled z us in
      let y : Read Laid = Ok (paired f j.0 (found_of p q) (by_of by) (lit_of z) s, us) in
      ap (λ o. tail_at p f o s (pair ∷ reference_spelled q ts)) sign
      ∙ give (reference_read q ts is.2 (by_closes by (literal_spelled z us) is.3)) _ y
      (give (comparing_read by (literal_spelled z us) is.3) _ y (give (literal_read z us is.4) _ y refl))
      ∙ ap (λ k. Ok (paired f k (found_of p q) (by_of by) (lit_of z) s, us)) (sym (ap or_sum sign))

abbrev pub EachPhrase : Tables → ℕ → Reader → Type 0
EachPhrase p room inner =
    (f : Phrase) (s : Laid) (us : List Lexeme) → IsPhrase f → levels_of f ≤ room → Closes us → inner s (spelled f us) ≡ Ok (laid p f s, us)

module _ (p : Tables) (r : ℕ) (inner : Reader) (each : EachPhrase p r inner) where
  single_full : (o : Single) (s : Laid) (begin : Lexeme) (f : Phrase) (end : Lexeme) (us : List Lexeme)
      → IsSign (codes "(") begin → IsPhrase f → IsSign (codes ")") end
      → levels_of f ≤ r → single_at o inner s (begin ∷ spelled f (end ∷ us)) ≡ Ok (put (single_what o (place (laid p f s))) (laid p f s), us)
  unfolding single_at
  single_full o s begin f end us b is e low =
      let y : Read Laid = Ok (put (single_what o (place (laid p f s))) (laid p f s), us) in
      give (sign_read (codes "(") begin (spelled f (end ∷ us)) (open_is begin b)) _ y
      (give (each f s (end ∷ us) is low (close_closes end us e)) _ y (give (sign_read (codes ")") end us (close_is end e)) _ y refl))

  joined_full : (o : Double) (f : Phrase) (s : Laid) (comma : Lexeme) (g : Phrase) (us : List Lexeme) → IsSign (codes ",") comma → IsPhrase g → levels_of g ≤ r → Closes us
      → joined_at o inner (laid p f s) (comma ∷ spelled g us) ≡ Ok (laid p (a_row o f comma g) s, us)
  unfolding joined_at
  joined_full o f s comma g us c is low closes =
      let y : Read Laid = Ok (laid p (a_row o f comma g) s, us) in
      give (sign_read (codes ",") comma (spelled g us) (comma_is comma c)) _ y (give (each g (laid p f s) us is low closes) _ y refl)

  -- a row from its first part on, and from its second
  abbrev from_first : Double → ℕ → Laid → List Lexeme → Read Laid
  from_first o count s ts = inner s ts >>= λ f. joined_at o inner f.0 f.1 >>= λ g. more_at o inner count g.0 g.1

  abbrev from_second : Double → ℕ → Laid → List Lexeme → Read Laid
  from_second o count s ts = joined_at o inner s ts >>= λ g. more_at o inner count g.0 g.1

  first_full : (o : Double) (f : Phrase) (n m : ℕ) (s : Laid) (ts : List Lexeme) → IsPhrase f → levels_of f ≤ r → Closes ts → n + 1 ≡ 1 + m
      → from_first o n s (spelled f ts) ≡ from_second o m (laid p f s) ts
  first_full o f n m s ts is low closes count =
      let same : n ≡ m = omega (arith, count) in
      give (each f s ts is low closes) _ (from_second o m (laid p f s) ts) (ap (λ k. from_second o k (laid p f s) ts) same)

  row_full : (o : Double) (f : Phrase) (n m : ℕ) (s : Laid) (comma : Lexeme) (ts : List Lexeme) → IsSign (codes ",") comma → StandsIn f (Some o) → levels_of f ≤ r
      → n + 1 ≡ row_length f + m → from_first o n s (spelled f (comma ∷ ts)) ≡ from_second o m (laid p f s) (comma ∷ ts)
  unfolding more_at
  row_full o (a_row q f c g) n m s comma ts is_comma is low count =
      let on = subst (λ (v : Double). from_first o n s (spelled f (c ∷ spelled g (comma ∷ ts))) ≡ from_second o (suc m) (laid p f s) (c ∷ spelled g (comma ∷ ts))) is.0
      (row_full o f n (suc m) s c (spelled g (comma ∷ ts)) is.2 is.1 (omega (arith, clamps, low)) (omega (arith, count))) in
      let y : Read Laid = from_second o m (laid p (a_row o f c g) s) (comma ∷ ts) in
      let more : from_second o (suc m) (laid p f s) (c ∷ spelled g (comma ∷ ts)) ≡ y =
      give (joined_full o f s c g (comma ∷ ts) is.2 is.3 (omega (arith, clamps, low)) (comma_closes comma ts is_comma)) _ y
      (ap (λ (b : Bool). cond b y (Ok (laid p (a_row o f c g) s, comma ∷ ts))) (comma_is comma is_comma)) in
      on ∙ more ∙ ap (λ (v : Double). from_second o m (laid p (a_row v f c g) s) (comma ∷ ts)) (sym is.0)
  row_full o (a_truth value t) n m s comma ts is_comma is low count = first_full o (a_truth value t) n m s (comma ∷ ts) is low (comma_closes comma ts is_comma) count
  row_full o (a_single q w begin f end) n m s comma ts is_comma is low count = first_full o (a_single q w begin f end) n m s (comma ∷ ts) is low (comma_closes comma ts is_comma) count
  row_full o (a_double q w begin f end) n m s comma ts is_comma is low count = first_full o (a_double q w begin f end) n m s (comma ∷ ts) is low (comma_closes comma ts is_comma) count
  row_full o (a_within w begin k c f end) n m s comma ts is_comma is low count = first_full o (a_within w begin k c f end) n m s (comma ∷ ts) is low (comma_closes comma ts is_comma) count
  row_full o (a_comparison d) n m s comma ts is_comma is low count = first_full o (a_comparison d) n m s (comma ∷ ts) is low (comma_closes comma ts is_comma) count

  -- no part stands behind the last one
  more_ends : (o : Double) (count : ℕ) (s : Laid) (end : Lexeme) (us : List Lexeme) → IsSign (codes ")") end
      → more_at o inner count s (end ∷ us) ≡ Ok (s, end ∷ us)
  unfolding more_at
  more_ends o zero s end us e = refl
  more_ends o (suc count) s end us e =
      ap (λ (b : Bool). cond b (from_second o count s (end ∷ us)) (Ok (s, end ∷ us))) (ap (is_sign (codes ",")) (sign_is (codes ")") end e))

  double_full : (o : Double) (s : Laid) (begin : Lexeme) (row : Phrase) (end : Lexeme) (us : List Lexeme)
      → IsSign (codes "(") begin → StandsIn row (Some o) → HasParts o row → IsSign (codes ")") end → levels_of row ≤ r
      → double_at o inner s (begin ∷ spelled row (end ∷ us)) ≡ Ok (laid p row s, us)
  unfolding double_at row_at
  double_full o s begin (a_row q f comma g) end us b is parts e low =
      let n = most_parts o - 2 in
      let m = n + 1 - row_length f in
      let few = parts.1 in
      let some = parts.0 in
      let count : n + 1 ≡ row_length f + m = omega (arith, few, some) in
      let ts : List Lexeme = end ∷ us in
      let z : Read Laid = Ok (laid p (a_row o f comma g) s, ts) in
      let row : from_first o n s (spelled f (comma ∷ spelled g ts)) ≡ z =
      row_full o f n m s comma (spelled g ts) is.2 is.1 (omega (arith, clamps, low)) count
      ∙ give (joined_full o f s comma g ts is.2 is.3 (omega (arith, clamps, low)) (close_closes end us e)) _ z (more_ends o m (laid p (a_row o f comma g) s) end us e) in
      let y : Read Laid = Ok (laid p (a_row o f comma g) s, us) in
      give (sign_read (codes "(") begin (spelled f (comma ∷ spelled g ts)) (open_is begin b)) _ y
      (give row _ y (give (sign_read (codes ")") end us (close_is end e)) _ y refl))
      ∙ ap (λ (v : Double). Ok (laid p (a_row v f comma g) s, us)) (sym is.0)
  double_full o s begin (a_truth value t) end us b is parts e low = (let some = parts.0 in absurd (omega (arith, some)))
  double_full o s begin (a_single q w c f d) end us b is parts e low = (let some = parts.0 in absurd (omega (arith, some)))
  double_full o s begin (a_double q w c f d) end us b is parts e low = (let some = parts.0 in absurd (omega (arith, some)))
  double_full o s begin (a_within w c n d f h) end us b is parts e low = (let some = parts.0 in absurd (omega (arith, some)))
  double_full o s begin (a_comparison d) end us b is parts e low = (let some = parts.0 in absurd (omega (arith, some)))

  within_full : (s : Laid) (begin n comma : Lexeme) (f : Phrase) (end : Lexeme) (us : List Lexeme)
      → IsSign (codes "(") begin → AreTicks n → IsSign (codes ",") comma
      → IsPhrase f → IsSign (codes ")") end → levels_of f ≤ r
      → within_at inner s (begin ∷ n ∷ comma ∷ spelled f (end ∷ us)) ≡ Ok (put (whats.Within (ticks_of (literal n)) (place (laid p f s))) (laid p f s), us)
  unfolding within_at
  within_full s begin n comma f end us b t c is e low =
      let y : Read Laid = Ok (put (whats.Within (ticks_of (literal n)) (place (laid p f s))) (laid p f s), us) in
      give (sign_read (codes "(") begin (n ∷ comma ∷ spelled f (end ∷ us)) (open_is begin b)) _ y
      (give (ticks_read n (comma ∷ spelled f (end ∷ us)) t) _ y
      (give (sign_read (codes ",") comma (spelled f (end ∷ us)) (comma_is comma c)) _ y
      (give (each f s (end ∷ us) is low (close_closes end us e)) _ y (give (sign_read (codes ")") end us (close_is end e)) _ y refl))))

  -- a word and a parenthesis
  word_opens : (w begin : Lexeme) (s : Laid) (ts : List Lexeme) (y : Read Laid) → IsName w
      → IsSign (codes "(") begin → called_at p inner (word_of w.text) s (begin ∷ ts) ≡ y
      → opened_at p inner (opening_of w) s (w ∷ begin ∷ ts) ≡ y
  unfolding opened_at behind_name_at
  word_opens w begin s ts y name b e =
      ap (λ o. opened_at p inner o s (w ∷ begin ∷ ts)) (name_opens w name)
      ∙ give (name_read w (begin ∷ ts) name) _ y
      (ap (λ c. cond c (called_at p inner (word_of w.text) s (begin ∷ ts)) (named_at p w s (begin ∷ ts))) (open_is begin b) ∙ e)

  -- a formula that begins with a reference
  reference_opens : (q : Reference) (s : Laid) (ts : List Lexeme) (y : Read Laid) → IsReference q → Closes ts → comparison_at p (found_of p q) s ts ≡ y
      → opened_at p inner (opening_from (first_of (reference_spelled q ts))) s (reference_spelled q ts) ≡ y
  unfolding opened_at behind_name_at named_at called_at mode_compared_at
  reference_opens (a_mode w begin n end) s ts y is closes e =
      word_opens w begin s (n ∷ end ∷ ts) y is.0.name is.1
      (ap (λ v. called_at p inner (word_of v) s (begin ∷ n ∷ end ∷ ts)) is.0.text_is ∙ give (mode_read p w begin n end ts is) _ y e)
  reference_opens (a_name n) s ts y is closes e =
      ap (λ o. opened_at p inner o s (n ∷ ts)) (name_opens n is)
      ∙ give (name_read n ts is) _ y
      (ap (λ (b : Bool). cond b (called_at p inner (word_of n.text) s ts) (named_at p n s ts)) closes.0
      ∙ ap (λ (b : Bool). cond b (part_at p n ts >>= λ r. comparison_at p r.0 s r.1) (comparison_at p (plain_named p n.text) s ts)) closes.1
      ∙ e)
  reference_opens (a_field n dot f) s ts y is closes e =
      let us : List Lexeme = dot ∷ f ∷ ts in
      ap (λ o. opened_at p inner o s (n ∷ us)) (name_opens n is.0)
      ∙ give (name_read n us is.0) _ y
      (ap (λ (b : Bool). cond b (called_at p inner (word_of n.text) s us) (named_at p n s us)) (ap (is_sign (codes "(")) (sign_is (codes ".") dot is.1))
      ∙ ap (λ (b : Bool). cond b (part_at p n us >>= λ r. comparison_at p r.0 s r.1) (comparison_at p (plain_named p n.text) s us)) (dot_is dot is.1)
      ∙ give (part_read p n dot f ts is) _ y e)

  comparison_phrase : (c : Relation) (s : Laid) (us : List Lexeme) → IsRelation c → Closes us
      → opened_at p inner (opening_from (first_of (spelled (a_comparison c) us))) s (spelled (a_comparison c) us) ≡ Ok (laid p (a_comparison c) s, us)
  comparison_phrase (to_number r by z) s us is closes =
      let c = to_number r by z in
      reference_opens r s (by ∷ literal_spelled z us) _ is.0 (behind_closes p c us is) (comparison_full p c s us is closes)
  comparison_phrase (to_another r by q) s us is closes =
      let c = to_another r by q in
      reference_opens r s (by ∷ reference_spelled q us) _ is.0 (behind_closes p c us is) (comparison_full p c s us is closes)
  comparison_phrase (of_two r pair q by z) s us is closes =
      let c = of_two r pair q by z in
      reference_opens r s (pair ∷ reference_spelled q (by ∷ literal_spelled z us)) _ is.0 (behind_closes p c us is) (comparison_full p c s us is closes)

  phrase_full : (f : Phrase) (s : Laid) (us : List Lexeme) → IsPhrase f → levels_of f ≤ suc r → Closes us
      → opened_at p inner (opening_from (first_of (spelled f us))) s (spelled f us) ≡ Ok (laid p f s, us)
  unfolding opened_at called_at
  phrase_full (a_truth value t) s us is low closes = ap (λ o. opened_at p inner o s (t ∷ us)) (truth_opens value t is)
  phrase_full (a_single singles.Not w begin f end) s us is low closes =
      ap (λ o. opened_at p inner o s (w ∷ begin ∷ spelled f (end ∷ us))) (not_opens w is.0)
      ∙ single_full singles.Not s begin f end us is.1 is.2 is.3 (omega (arith, low))
  phrase_full (a_single singles.Once w begin f end) s us is low closes =
      word_opens w begin s (spelled f (end ∷ us)) _ is.0.name is.1
      (ap (λ v. called_at p inner (word_of v) s (begin ∷ spelled f (end ∷ us))) is.0.text_is
      ∙ single_full singles.Once s begin f end us is.1 is.2 is.3 (omega (arith, low)))
  phrase_full (a_single singles.Always w begin f end) s us is low closes =
      word_opens w begin s (spelled f (end ∷ us)) _ is.0.name is.1
      (ap (λ v. called_at p inner (word_of v) s (begin ∷ spelled f (end ∷ us))) is.0.text_is
      ∙ single_full singles.Always s begin f end us is.1 is.2 is.3 (omega (arith, low)))
  phrase_full (a_double doubles.And w begin row end) s us is low closes =
      ap (λ o. opened_at p inner o s (w ∷ begin ∷ spelled row (end ∷ us))) (and_opens w is.0)
      ∙ double_full doubles.And s begin row end us is.1 is.2 is.3 is.4 (omega (arith, low))
  phrase_full (a_double doubles.Or w begin row end) s us is low closes =
      ap (λ o. opened_at p inner o s (w ∷ begin ∷ spelled row (end ∷ us))) (or_opens w is.0)
      ∙ double_full doubles.Or s begin row end us is.1 is.2 is.3 is.4 (omega (arith, low))
  phrase_full (a_double doubles.Since w begin row end) s us is low closes =
      word_opens w begin s (spelled row (end ∷ us)) _ is.0.name is.1
      (ap (λ v. called_at p inner (word_of v) s (begin ∷ spelled row (end ∷ us))) is.0.text_is
      ∙ double_full doubles.Since s begin row end us is.1 is.2 is.3 is.4 (omega (arith, low)))
  phrase_full (a_double doubles.Implies w begin row end) s us is low closes =
      word_opens w begin s (spelled row (end ∷ us)) _ is.0.name is.1
      (ap (λ v. called_at p inner (word_of v) s (begin ∷ spelled row (end ∷ us))) is.0.text_is
      ∙ double_full doubles.Implies s begin row end us is.1 is.2 is.3 is.4 (omega (arith, low)))
  phrase_full (a_row o f comma g) s us is low closes = absurd is.0
  phrase_full (a_within w begin n comma f end) s us is low closes =
      word_opens w begin s (n ∷ comma ∷ spelled f (end ∷ us)) _ is.0.name is.1
      (ap (λ v. called_at p inner (word_of v) s (begin ∷ n ∷ comma ∷ spelled f (end ∷ us))) is.0.text_is
      ∙ within_full s begin n comma f end us is.1 is.2 is.3 is.4 is.5 (omega (arith, low)))
  phrase_full (a_comparison c) s us is low closes = comparison_phrase c s us is closes

levels_some : (f : Phrase) → 1 ≤ levels_of f
levels_some (a_truth value t) = omega arith
levels_some (a_single o w begin f end) = omega arith
levels_some (a_double o w begin row end) = omega arith
levels_some (a_row o f comma g) = (let some = levels_some f in omega (arith, clamps, some))
levels_some (a_within w begin n comma f end) = omega arith
levels_some (a_comparison c) = omega arith

pub full : (p : Tables) (room : ℕ) → EachPhrase p room (formula_at p room)
unfolding formula_at
full p zero f s us is low closes = (let some = levels_some f in absurd (omega (arith, some, low)))
full p (suc r) f s us is low closes = phrase_full p r (formula_at p r) (full p r) f s us is low closes
