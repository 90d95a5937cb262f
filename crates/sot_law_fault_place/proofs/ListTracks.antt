-- Items one after another, and the small productions: what is read hangs on the tokens read and on the next one.
use Rattle.std.proofs.Common.{◌≡◌, ℕ, zero, suc, ◌<◌, cond, length, List, [], ◌∷◌, ◌++◌, Bool, true, false, codes, Some, Ok, Err, refl, sym, ap, subst, ◌∙◌}
use Rattle.std.proofs.Common.{append_assoc, length-append, arith}
use Rattle.sot_text.specs.Reading.{Lexeme}
use Rattle.sot_expression.specs.Stream.{first_of}
use Rattle.sot_expression.specs.Lexemes.{begins, is_sign, is_keyword, is_name, is_number, ident, literal, negative_literal}
use Rattle.sot_expression.specs.Readers.{Read, Fault, stuck, deep, ◌>>=◌, expect, name_at, number_at, negative_at, literal_at}
use Rattle.sot_parser.specs.ListReaders.{repeated, all_at, further_at, separated_at, clause_at, optional_at}
use Rattle.sot_parser.specs.DeclarationReaders.{side_at, range_at, fix_at, int_scalar_at, fix_scalar_at, bool_scalar_at, scalar_at, named_scalar_at, truth_at}
use Rattle.sot_parser.specs.DeclarationReaders.{number_const_at, const_at, timing_at, role_at}
use Rattle.sot_parser.proofs.Shorter.{Short, further_short}
use Rattle.sot_law_fault_place.proofs.Stops.{err}
use Rattle.sot_law_fault_place.proofs.Tracks.{left_of, Matches, Track, Tracks, IsFirst, same_first, nothing_left, begins_first, bind_tracks, ok_tracks}
use Rattle.sot_law_fault_place.proofs.Tracks.{token_tracks, stuck_tracks, cond_tracks}

-- what a list answers, of tokens that are not too many for its fuel
record Within {A : Type 0} (Same : Type 0) (other : ℕ → List Lexeme → Read A) (m : Read A) (ts : List Lexeme) : Type 0 where
  used : List Lexeme
  split : ts ≡ used ++ left_of m
  same : (us : List Lexeme) (fuel : ℕ) → first_of us ≡ first_of (left_of m) → length (used ++ us) < fuel → Matches Same m us (other fuel (used ++ us))

-- one more in front, or the same fault
with_item : {A : Type 0} (Same : Type 0) (x : A) (m r : Read (List A)) (us : List Lexeme) → Matches Same m us r
    → Matches Same (m >>= λ more. Ok (x ∷ more.0, more.1)) us (r >>= λ more. Ok (x ∷ more.0, more.1))
with_item Same x (Ok y) r us is = ap (λ m. m >>= λ more. Ok (x ∷ more.0, more.1)) is
with_item Same x (Err (stuck, ts)) r us is = ap (λ m. m >>= λ more. Ok (x ∷ more.0, more.1)) is
with_item Same x (Err (deep, ts)) r us is = λ same. ap (λ m. m >>= λ more. Ok (x ∷ more.0, more.1)) (is same)

left_with : {A : Type 0} (x : A) (m : Read (List A)) → left_of (m >>= λ more. Ok (x ∷ more.0, more.1)) ≡ left_of m
left_with x (Ok y) = refl
left_with x (Err e) = refl

-- a literal
literal_again : (t : Lexeme) (us : List Lexeme) → is_sign (codes "-") t ≡ true → literal_at (t ∷ us) ≡ negative_at t us
literal_again t us is = ap (λ b. cond b (negative_at t us) (number_at (t ∷ us))) is

literal_plain : (t : Lexeme) (us : List Lexeme) → first_of us ≡ Some t → is_sign (codes "-") t ≡ false → literal_at us ≡ number_at us
literal_plain t [] first is = absurd cc
literal_plain t (u ∷ us) first is = let same : u ≡ t = cc in ap (λ b. cond b (negative_at u us) (number_at (u ∷ us))) (ap (is_sign (codes "-")) same ∙ is)

module _ {Same : Type 0} where
  pub sign_tracks : (text : List ℕ) → Tracks Same (expect (is_sign text)) (expect (is_sign text))
  sign_tracks text = token_tracks (is_sign text) (λ t. t.at)

  pub keyword_tracks : (text : List ℕ) → Tracks Same (expect (is_keyword text)) (expect (is_keyword text))
  keyword_tracks text = token_tracks (is_keyword text) (λ t. t.at)

  pub name_tracks : Tracks Same name_at name_at
  name_tracks = token_tracks is_name ident

  pub number_tracks : Tracks Same number_at number_at
  number_tracks = token_tracks is_number literal

  module _ {A : Type 0} (goes_on : List Lexeme → Bool) (first : IsFirst goes_on) (item other : List Lexeme → Read A) (tracks : Tracks Same item other)
      (short : Short item) where
    abbrev after_item : ℕ → Read A → Read (List A)
    after_item n m = m >>= λ x. repeated goes_on other n x.1 >>= λ more. Ok (x.0 ∷ more.0, more.1)

    -- no more items
    ends : (us : List Lexeme) (fuel : ℕ) → goes_on us ≡ false → repeated goes_on other fuel us ≡ Ok ([], us)
    unfolding repeated
    ends us zero is = refl
    ends us (suc n) is = ap (λ b. cond b (after_item n (other us)) (Ok ([], us))) is

    none_more : (ts : List Lexeme) → goes_on ts ≡ false → Within Same (repeated goes_on other) (Ok ([], ts)) ts
    none_more ts is = record { used = []; split = refl; same = λ us fuel e enough. ends us fuel (first us ts e ∙ is) }

    goes_in : (fuel : ℕ) (us : List Lexeme) → goes_on us ≡ true → length us < fuel
        → (n : ℕ) × (fuel ≡ suc n) × (repeated goes_on other fuel us ≡ after_item n (other us))
    unfolding repeated
    goes_in zero us is enough = absurd (omega (arith, enough))
    goes_in (suc n) us is enough = (n, refl, ap (λ b. cond b (after_item n (other us)) (Ok ([], us))) is)

    item_fails : (ts : List Lexeme) → goes_on ts ≡ true → (e : Fault × List Lexeme) → Track Same other (Err e) ts
        → Within Same (repeated goes_on other) (Err e) ts
    item_fails ts is e t = record { used = t.used; split = t.split; same = λ us fuel f enough. at e us fuel f enough (t.same us f) }
      where
        starts : (us : List Lexeme) → first_of us ≡ first_of e.1 → goes_on (t.used ++ us) ≡ true
        starts us f = first (t.used ++ us) ts (same_first t.used us e.1 f ∙ ap first_of (sym t.split)) ∙ is

        at : (d : Fault × List Lexeme) (us : List Lexeme) (fuel : ℕ) → first_of us ≡ first_of e.1 → length (t.used ++ us) < fuel
            → Matches Same (err {A = A} d) us (other (t.used ++ us))
            → Matches Same (err {A = List A} d) us (repeated goes_on other fuel (t.used ++ us))
        at (stuck, vs) us fuel f enough one = let go = goes_in fuel (t.used ++ us) (starts us f) enough in go.2 ∙ ap (after_item go.0) one
        at (deep, vs) us fuel f enough one = λ same. let go = goes_in fuel (t.used ++ us) (starts us f) enough in go.2 ∙ ap (after_item go.0) (one same)

    item_goes : (ts : List Lexeme) → goes_on ts ≡ true → (x : A × List Lexeme) → length x.1 < length ts → Track Same other (Ok x) ts → (m : Read (List A))
        → Within Same (repeated goes_on other) m x.1
        → Within Same (repeated goes_on other) (m >>= λ more. Ok (x.0 ∷ more.0, more.1)) ts
    item_goes ts is x less t m rest =
        let out = left_of m in
        record {
          used = t.used ++ rest.used;
          split = t.split ∙ (ap (λ us. t.used ++ us) (rest.split ∙ ap (λ us. rest.used ++ us) (sym (left_with x.0 m))) ∙ sym (append_assoc t.used rest.used _));
          same = λ us fuel f enough.
              let f1 : first_of us ≡ first_of out = f ∙ ap first_of (left_with x.0 m) in
              let whole : (t.used ++ rest.used) ++ us ≡ t.used ++ (rest.used ++ us) = append_assoc t.used rest.used us in
              let next : first_of (rest.used ++ us) ≡ first_of x.1 = same_first rest.used us out f1 ∙ ap first_of (sym rest.split) in
              let starts : goes_on (t.used ++ (rest.used ++ us)) ≡ true =
              first (t.used ++ (rest.used ++ us)) ts (same_first t.used (rest.used ++ us) x.1 next ∙ ap first_of (sym t.split)) ∙ is in
              let go = goes_in fuel (t.used ++ (rest.used ++ us)) starts (subst (λ ws. length ws < fuel) whole enough) in
              let one : other (t.used ++ (rest.used ++ us)) ≡ Ok (x.0, rest.used ++ us) = t.same (rest.used ++ us) next in
              let takes : length (t.used ++ x.1) ≡ length ts = ap length (sym t.split) in
              let fewer : length (rest.used ++ us) < go.0 = omega (
                arith,
                length-append t.used x.1,
                length-append t.used (rest.used ++ us),
                takes,
                less,
                ap length whole,
                enough,
                go.1,
              ) in
              let all : repeated goes_on other fuel ((t.used ++ rest.used) ++ us)
              ≡ (repeated goes_on other go.0 (rest.used ++ us) >>= λ more. Ok (x.0 ∷ more.0, more.1)) =
              ap (repeated goes_on other fuel) whole ∙ (go.2 ∙ ap (after_item go.0) one) in
              subst (Matches Same (m >>= λ more. Ok (x.0 ∷ more.0, more.1)) us) (sym all)
              (with_item Same x.0 m (repeated goes_on other go.0 (rest.used ++ us)) us (rest.same us go.0 f1 fewer));
        }

    item_then : (n : ℕ) (ts : List Lexeme) → ((x : A × List Lexeme) → length x.1 < n → Within Same (repeated goes_on other) (repeated goes_on item n x.1) x.1)
        → length ts < suc n → goes_on ts ≡ true → (m : Read A) → item ts ≡ m → Track Same other m ts
        → Within Same (repeated goes_on other) (m >>= λ x. repeated goes_on item n x.1 >>= λ more. Ok (x.0 ∷ more.0, more.1)) ts
    item_then n ts rest enough is (Err e) one t = item_fails ts is e t
    item_then n ts rest enough is (Ok x) one t =
        let less = short ts x one in item_goes ts is x less t (repeated goes_on item n x.1) (rest x (omega (arith, less, enough)))

    by_first : (n : ℕ) (ts : List Lexeme) → ((x : A × List Lexeme) → length x.1 < n → Within Same (repeated goes_on other) (repeated goes_on item n x.1) x.1)
        → length ts < suc n → (b : Bool) → goes_on ts ≡ b
        → Within Same (repeated goes_on other) (cond b (item ts >>= λ x. repeated goes_on item n x.1 >>= λ more. Ok (x.0 ∷ more.0, more.1)) (Ok ([], ts))) ts
    by_first n ts rest enough true is = item_then n ts rest enough is (item ts) refl (tracks ts)
    by_first n ts rest enough false is = none_more ts is

    repeated_within : (n : ℕ) (ts : List Lexeme) → length ts < n → Within Same (repeated goes_on other) (repeated goes_on item n ts) ts
    unfolding repeated
    repeated_within zero ts enough = absurd (omega (arith, enough))
    repeated_within (suc n) ts enough = by_first n ts (λ x less. repeated_within n x.1 less) enough (goes_on ts) refl

    pub all_tracks : Tracks Same (all_at goes_on item) (all_at goes_on other)
    unfolding all_at
    all_tracks ts =
        let w = repeated_within (suc (length ts)) ts (omega arith) in
        record { used = w.used; split = w.split; same = λ us f. w.same us (suc (length (w.used ++ us))) f (omega arith) }

  module _ {A : Type 0} where
    further_tracks : (text : List ℕ) {item other : List Lexeme → Read A} → Tracks Same item other → Tracks Same (further_at text item) (further_at text other)
    unfolding further_at
    further_tracks text tracks = bind_tracks _ _ (sign_tracks text) (λ _. tracks)

    pub separated_tracks : (text : List ℕ) (item : List Lexeme → Read A) → Tracks Same item item → Short item
        → Tracks Same (separated_at text item) (separated_at text item)
    unfolding separated_at
    separated_tracks text item tracks short =
        bind_tracks _ _ tracks (λ _. bind_tracks _ _ (all_tracks (begins (is_sign text)) (begins_first (is_sign text)) (further_at text item)
        (further_at text item) (further_tracks text tracks) (further_short text item short)) (λ _. ok_tracks _))

    pub clause_tracks : (text : List ℕ) (item : List Lexeme → Read A) → Tracks Same item item → Short item
        → Tracks Same (clause_at text item) (clause_at text item)
    unfolding clause_at
    clause_tracks text item tracks short =
        bind_tracks _ _ (keyword_tracks text) (λ _. bind_tracks _ _ (separated_tracks (codes ",") item tracks short)
        (λ _. bind_tracks _ _ (sign_tracks (codes ";")) (λ _. ok_tracks _)))

    pub optional_tracks : (text : List ℕ) (item : List Lexeme → Read A) → Tracks Same item item → Short item
        → Tracks Same (optional_at text item) (optional_at text item)
    unfolding optional_at
    optional_tracks text item tracks short =
        cond_tracks (begins (is_keyword text)) (begins_first (is_keyword text)) (clause_tracks text item tracks short) (ok_tracks [])

  pub literal_tracks : Tracks Same literal_at literal_at
  literal_tracks [] = stuck_tracks literal_at [] (λ us first. let none = nothing_left us first in rw none refl)
  literal_tracks (t ∷ ts) = by (is_sign (codes "-") t) refl
    where
      by : (b : Bool) → is_sign (codes "-") t ≡ b → Track Same literal_at (cond b (negative_at t ts) (number_at (t ∷ ts))) (t ∷ ts)
      by true is =
          let n = token_tracks {Same = Same} is_number (negative_literal t) ts in
          record {
            used = t ∷ n.used;
            split = ap (λ us. t ∷ us) n.split;
            same = λ us f. subst (Matches Same (negative_at t ts) us) (sym (literal_again t (n.used ++ us) is)) (n.same us f);
          }
      by false is =
          let n = number_tracks (t ∷ ts) in
          record {
            used = n.used;
            split = n.split;
            same = λ us f.
                let first = same_first n.used us (left_of (number_at (t ∷ ts))) f ∙ ap first_of (sym n.split) in
                subst (Matches Same (number_at (t ∷ ts)) us) (sym (literal_plain t (n.used ++ us) first is)) (n.same us f);
          }

  pub side_tracks : Tracks Same side_at side_at
  unfolding side_at
  side_tracks = bind_tracks _ _ literal_tracks (λ _. bind_tracks _ _ (sign_tracks (codes "..")) (λ _. bind_tracks _ _ literal_tracks (λ _. ok_tracks _)))

  range_tracks : Tracks Same range_at range_at
  unfolding range_at
  range_tracks =
      bind_tracks _ _ (sign_tracks (codes "[")) (λ _. bind_tracks _ _ side_tracks (λ _. bind_tracks _ _ (sign_tracks (codes "]")) (λ _. ok_tracks _)))

  pub fix_tracks : Tracks Same fix_at fix_at
  unfolding fix_at
  fix_tracks =
      bind_tracks _ _ (keyword_tracks (codes "fix")) (λ _. bind_tracks _ _ (sign_tracks (codes "("))
      (λ _. bind_tracks _ _ number_tracks (λ _. bind_tracks _ _ (sign_tracks (codes ")")) (λ _. ok_tracks _))))

  int_tracks : Tracks Same int_scalar_at int_scalar_at
  unfolding int_scalar_at
  int_tracks = bind_tracks _ _ (keyword_tracks (codes "int")) (λ _. bind_tracks _ _ range_tracks (λ _. ok_tracks _))

  fixed_tracks : Tracks Same fix_scalar_at fix_scalar_at
  unfolding fix_scalar_at
  fixed_tracks = bind_tracks _ _ fix_tracks (λ _. bind_tracks _ _ range_tracks (λ _. ok_tracks _))

  bool_tracks : Tracks Same bool_scalar_at bool_scalar_at
  unfolding bool_scalar_at
  bool_tracks = bind_tracks _ _ (keyword_tracks (codes "bool")) (λ _. ok_tracks _)

  pub scalar_tracks : Tracks Same scalar_at scalar_at
  unfolding scalar_at
  scalar_tracks =
      cond_tracks (begins (is_keyword (codes "int"))) (begins_first (is_keyword (codes "int"))) int_tracks
      (cond_tracks (begins (is_keyword (codes "fix"))) (begins_first (is_keyword (codes "fix"))) fixed_tracks bool_tracks)

  pub field_tracks : Tracks Same named_scalar_at named_scalar_at
  unfolding named_scalar_at
  field_tracks = bind_tracks _ _ name_tracks (λ _. bind_tracks _ _ (sign_tracks (codes ":")) (λ _. bind_tracks _ _ scalar_tracks (λ _. ok_tracks _)))

  truth_tracks : (value : Bool) (text : List ℕ) → Tracks Same (truth_at value text) (truth_at value text)
  unfolding truth_at
  truth_tracks value text = bind_tracks _ _ (keyword_tracks text) (λ _. ok_tracks _)

  number_const_tracks : Tracks Same number_const_at number_const_at
  unfolding number_const_at
  number_const_tracks = bind_tracks _ _ literal_tracks (λ _. ok_tracks _)

  pub const_tracks : Tracks Same const_at const_at
  unfolding const_at
  const_tracks =
      cond_tracks (begins (is_keyword (codes "true"))) (begins_first (is_keyword (codes "true"))) (truth_tracks true (codes "true"))
      (cond_tracks (begins (is_keyword (codes "false"))) (begins_first (is_keyword (codes "false"))) (truth_tracks false (codes "false")) number_const_tracks)

  pub timing_tracks : Tracks Same timing_at timing_at
  unfolding timing_at
  timing_tracks =
      bind_tracks _ _ (keyword_tracks (codes "period")) (λ _.
      bind_tracks _ _ number_tracks (λ _. bind_tracks _ _ (keyword_tracks (codes "offset")) (λ _. bind_tracks _ _ number_tracks (λ _. ok_tracks _))))

  pub role_tracks : (text : List ℕ) → Tracks Same (role_at text) (role_at text)
  unfolding role_at
  role_tracks text =
      bind_tracks _ _ (keyword_tracks text) (λ _. bind_tracks _ _ name_tracks (λ _. bind_tracks _ _ (sign_tracks (codes ";")) (λ _. ok_tracks _)))
