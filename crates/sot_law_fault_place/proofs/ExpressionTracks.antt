-- Expressions: what is read hangs on the tokens read and on the next one, and more room changes nothing, unless it nests too deep.
use Rattle.std.proofs.Common.{◌≡◌, ℕ, zero, suc, ◌+◌, ◌≤◌, ◌<◌, ◌==◌, ◌||◌, not, nat_lt, cond, List, [], ◌∷◌, ◌++◌, Bool, true, false, codes, if◌then◌else◌}
use Rattle.std.proofs.Common.{Option, None, Some, inl, inr, Ok, Err, refl, sym, ap, subst, ◌∙◌, arith}
use Rattle.std.proofs.lemmas.Bool.{cases_Bool}
use Rattle.std.proofs.lemmas.Bool.Decides.{nat_tests}
use Rattle.sot_text.specs.Reading.{Lexeme}
use Rattle.sot_syntax_tree.specs.declared.operator.Func.{Func}
use Rattle.sot_syntax_tree.specs.declared.tree.Ident.{Ident}
use Rattle.sot_syntax_tree.specs.Trees.{negated}
use Rattle.sot_expression.specs.declared.operators.Infix.{Infix}
use Rattle.sot_expression.specs.declared.operators.Infix.TheVariants.{Joins, Rests}
use Rattle.sot_expression.specs.declared.operators.Opening.{Opening}
use Rattle.sot_expression.specs.declared.operators.Opening.TheVariants as openings
use Rattle.sot_expression.specs.Stream.{first_of}
use Rattle.sot_expression.specs.Lexemes.{begins, is_sign, is_keyword, is_number, negative_literal}
use Rattle.sot_expression.specs.Readers.{Read, stuck, deep, ◌>>=◌, number_at}
use Rattle.sot_expression.specs.Operators.{opening_from, opening_at, operator_from, infix_at, of_tier}
use Rattle.sot_expression.specs.ExpressionReaders.{Part, Reader, Around, over, above, is_other, any_token, chain_at, gone_on, joined_at, operation_at}
use Rattle.sot_expression.specs.ExpressionReaders.{remainder_at, number_part, truth_part, field_at, named_at, group_at, held_group, opened_at, further_at}
use Rattle.sot_expression.specs.ExpressionReaders.{abs_at, pair_at, limits_at, clamp_at, target_at, rescale_at, within, atom_from, atom_at, begins_unary}
use Rattle.sot_expression.specs.ExpressionReaders.{minus_at, unary_at, denied_at, denial_at, chosen_at, choice_at, turns, tier_at, part_at, expression_at}
use Rattle.sot_expression.specs.ExpressionReaders.{tree_at}
use Rattle.sot_expression.specs.Phrases.{levels_of}
use Rattle.sot_expression.proofs.Chains.{chain_stops}
use Rattle.sot_expression.proofs.ChainEnds.{too_deep}
use Rattle.sot_expression.proofs.EachRead.{around_of}
use Rattle.sot_expression.proofs.ReadSteps.{ok, bind_ok, ok_is}
use Rattle.sot_expression.proofs.FirstTokens.{some_levels}
use Rattle.sot_expression.proofs.Founds.{Reads, room_inside}
use Rattle.sot_expression.proofs.Soundness.{tier_ok, part_ok}
use Rattle.sot_law_fault_place.proofs.Tracks.{Matches, Track, Tracks, IsFirst, nothing_left, begins_first, bind_track, bind_tracks, ok_tracks, stuck_tracks}
use Rattle.sot_law_fault_place.proofs.Tracks.{deep_tracks, retrack, token_tracks, cond_tracks}
use Rattle.sot_law_fault_place.proofs.ListTracks.{sign_tracks, keyword_tracks, name_tracks, number_tracks}

infix_first : (tier : ℕ) (ts us : List Lexeme) → first_of ts ≡ first_of us → infix_at tier ts ≡ infix_at tier us
infix_first tier ts us e = ap (λ o. of_tier tier (operator_from o)) e

unary_first : IsFirst begins_unary
unary_first ts us e =
    let o : opening_at ts ≡ opening_at us = ap opening_from e in
    let m = begins_first (is_sign (codes "-")) ts us e in
    rw (o, m) refl

module _ {Same : Type 0} where
  any_tracks : Tracks Same any_token any_token
  any_tracks [] = stuck_tracks any_token [] (λ us first. let none = nothing_left us first in rw none refl)
  any_tracks (t ∷ ts) = record { used = t ∷ []; split = refl; same = λ us first. refl }

  number_part_tracks : Tracks Same number_part number_part
  unfolding number_part
  number_part_tracks = bind_tracks _ _ number_tracks (λ _. ok_tracks _)

  truth_part_tracks : (value : Bool) → Tracks Same (truth_part value) (truth_part value)
  unfolding truth_part
  truth_part_tracks value = bind_tracks _ _ any_tracks (λ _. ok_tracks _)

  field_tracks : (first : Ident) → Tracks Same (field_at first) (field_at first)
  unfolding field_at
  field_tracks first = bind_tracks _ _ (sign_tracks (codes ".")) (λ _. bind_tracks _ _ name_tracks (λ _. ok_tracks _))

  named_tracks : Tracks Same named_at named_at
  unfolding named_at
  named_tracks =
      bind_tracks _ _ name_tracks (λ n. cond_tracks (begins (is_sign (codes "."))) (begins_first (is_sign (codes "."))) (field_tracks n) (ok_tracks _))

  group_tracks : (inner other : Reader) → Tracks Same inner other → Tracks Same (group_at inner) (group_at other)
  unfolding group_at
  group_tracks inner other tracks = bind_tracks _ _ any_tracks (λ _. bind_tracks _ _ tracks (λ _. bind_tracks _ _ (sign_tracks (codes ")")) (λ _. ok_tracks _)))

  module _ (part other : Reader) (tracks : Tracks Same part other) where
    opened_tracks : Tracks Same (opened_at part) (opened_at other)
    unfolding opened_at
    opened_tracks = bind_tracks _ _ (sign_tracks (codes "(")) (λ _. tracks)

    further_tracks : Tracks Same (further_at part) (further_at other)
    unfolding further_at
    further_tracks = bind_tracks _ _ (sign_tracks (codes ",")) (λ _. tracks)

    abs_tracks : Tracks Same (abs_at part) (abs_at other)
    unfolding abs_at
    abs_tracks = bind_tracks _ _ any_tracks (λ _. bind_tracks _ _ opened_tracks (λ _. bind_tracks _ _ (sign_tracks (codes ")")) (λ _. ok_tracks _)))

    pair_tracks : (func : Func) → Tracks Same (pair_at func part) (pair_at func other)
    unfolding pair_at
    pair_tracks func =
        bind_tracks _ _ any_tracks (λ _. bind_tracks _ _ opened_tracks
        (λ _. bind_tracks _ _ further_tracks (λ _. bind_tracks _ _ (sign_tracks (codes ")")) (λ _. ok_tracks _))))

    limits_tracks : Tracks Same (limits_at part) (limits_at other)
    unfolding limits_at
    limits_tracks = bind_tracks _ _ further_tracks (λ _. bind_tracks _ _ further_tracks (λ _. bind_tracks _ _ (sign_tracks (codes ")")) (λ _. ok_tracks _)))

    clamp_tracks : Tracks Same (clamp_at part) (clamp_at other)
    unfolding clamp_at
    clamp_tracks = bind_tracks _ _ any_tracks (λ _. bind_tracks _ _ opened_tracks (λ _. bind_tracks _ _ limits_tracks (λ _. ok_tracks _)))

    target_tracks : Tracks Same target_at target_at
    unfolding target_at
    target_tracks =
        bind_tracks _ _ (sign_tracks (codes ",")) (λ _. bind_tracks _ _ number_tracks (λ _. bind_tracks _ _ (sign_tracks (codes ")")) (λ _. ok_tracks _)))

    rescale_tracks : Tracks Same (rescale_at part) (rescale_at other)
    unfolding rescale_at
    rescale_tracks = bind_tracks _ _ any_tracks (λ _. bind_tracks _ _ opened_tracks (λ _. bind_tracks _ _ target_tracks (λ _. ok_tracks _)))

    denied_tracks : Tracks Same (denied_at part) (denied_at other)
    unfolding denied_at
    denied_tracks = bind_tracks _ _ any_tracks (λ _. bind_tracks _ _ tracks (λ _. ok_tracks _))

    chosen_tracks : Tracks Same (chosen_at part) (chosen_at other)
    unfolding chosen_at
    chosen_tracks =
        bind_tracks _ _ any_tracks (λ _. bind_tracks _ _ tracks
        (λ _. bind_tracks _ _ (keyword_tracks (codes "then")) (λ _.
        bind_tracks _ _ tracks (λ _. bind_tracks _ _ (keyword_tracks (codes "else")) (λ _. bind_tracks _ _ tracks (λ _. ok_tracks _))))))

  -- what needs two levels
  within_track : (room more : ℕ) → room ≤ more → (Same → room ≡ more) → (g other : Reader) → (nat_lt room 2 ≡ false → Tracks Same g other)
      → Tracks Same (λ ts. within room ts (g ts)) (λ ts. within more ts (other ts))
  within_track room more le equal g other tracks ts = by (nat_lt room 2) refl
    where
      by : (b : Bool) → nat_lt room 2 ≡ b → Track Same (λ us. within more us (other us)) (cond b (Err (deep, ts)) (g ts)) ts
      by true is =
          deep_tracks (λ us. within more us (other us)) ts (λ same us first. ap (λ n. cond (nat_lt n 2) (Err (deep, us)) (other us)) (sym (equal same))
          ∙ ap (λ b. cond b (Err (deep, us)) (other us)) is)
      by false is =
          let t = tracks is ts in
          let large : nat_lt more 2 ≡ false = grind (arith, nat_tests) in
          record {
            used = t.used;
            split = t.split;
            same = λ us first.
                subst (Matches Same (g ts) us) (sym (ap (λ b. cond b (Err (deep, t.used ++ us)) (other (t.used ++ us))) large)) (t.same us first);
          }

-- an operand that no token begins is none, with whatever room
no_operand : (r : ℕ) (us : List Lexeme) → begins_unary us ≡ false → part_at (suc r) false 0 us ≡ Err (stuck, us)
unfolding part_at tier_at unary_at atom_at atom_from
no_operand r us no_ = by (opening_at us) (begins (is_sign (codes "-")) us) refl refl no_
  where
    inner : Reader
    inner = λ ws. tier_at 7 (around_of r true (part_at r false) (part_at r true 7)) ws

    a : Around
    a = around_of r false (part_at r false) inner

    by : (o : Opening) (b : Bool) → opening_at us ≡ o → begins (is_sign (codes "-")) us ≡ b → (not (is_other o) || b) ≡ false → unary_at a us ≡ Err (stuck, us)
    by openings.Other false opens minus e =
        ap (λ b. cond b (any_token us >>= λ t. minus_at (suc r) t.0 (part_at r false 0) t.1) (atom_at a us)) minus ∙ ap (λ o. atom_from o a us) opens
    by openings.Other true opens minus e = absurd cc
    by openings.Number b opens minus e = absurd cc
    by openings.Name b opens minus e = absurd cc
    by openings.Group b opens minus e = absurd cc
    by (openings.Truth value) b opens minus e = absurd cc
    by (openings.Pair func) b opens minus e = absurd cc
    by openings.Abs b opens minus e = absurd cc
    by openings.Clamp b opens minus e = absurd cc
    by openings.Rescale b opens minus e = absurd cc

none_of : (s : ℕ) → nat_lt (suc s) 2 ≡ false → (us : List Lexeme) → begins_unary us ≡ false → part_at s false 0 us ≡ Err (stuck, us)
none_of zero small us no_ = absurd cc
none_of (suc s) small us no_ = no_operand s us no_

module _ {Same : Type 0} where
  -- behind a minus
  module _ (room more : ℕ) (le : room ≤ more) (equal : Same → room ≡ more) (t : Lexeme) (operand other : Reader)
      (tracks : nat_lt room 2 ≡ false → Tracks Same operand other)
      (none : nat_lt more 2 ≡ false → (us : List Lexeme) → begins_unary us ≡ false → other us ≡ Err (stuck, us)) where
    abbrev negated_part : Part → Part
    negated_part p = over (negated p.tree t.at) p.levels

    abbrev refused : List Lexeme → Read Part
    refused us = Err (if begins_unary us then deep else stuck, us)

    abbrev no_literal : ℕ → Reader → List Lexeme → Read Part
    no_literal n g us = cond (nat_lt n 2) (refused us) (above negated_part (g us))

    no_literal_stuck : (us : List Lexeme) → begins_unary us ≡ false → no_literal more other us ≡ Err (stuck, us)
    no_literal_stuck us is = by (nat_lt more 2) refl
      where
        by : (b : Bool) → nat_lt more 2 ≡ b → cond b (refused us) (above negated_part (other us)) ≡ Err (stuck, us)
        by true small = ap (λ c. Err (cond c deep stuck, us)) is
        by false large = ap (above negated_part) (none large us is)

    no_literal_tracks : Tracks Same (no_literal room operand) (no_literal more other)
    no_literal_tracks ts = by (nat_lt room 2) refl
      where
        no_room : (b : Bool) → begins_unary ts ≡ b → nat_lt room 2 ≡ true → Track Same (no_literal more other) (Err (cond b deep stuck, ts)) ts
        no_room true is small = deep_tracks (no_literal more other) ts (λ same us first.
            ap (λ n. cond (nat_lt n 2) (refused us) (above negated_part (other us))) (sym (equal same))
            ∙ (ap (λ b. cond b (refused us) (above negated_part (other us))) small ∙ ap (λ c. Err (cond c deep stuck, us)) (unary_first us ts first ∙ is)))
        no_room false is small = stuck_tracks (no_literal more other) ts (λ us first. no_literal_stuck us (unary_first us ts first ∙ is))

        by : (b : Bool) → nat_lt room 2 ≡ b → Track Same (no_literal more other) (cond b (refused ts) (above negated_part (operand ts))) ts
        by true small = no_room (begins_unary ts) refl small
        by false large =
            let t_ = bind_tracks (λ p. ok (negated_part p.0, p.1)) (λ p. ok (negated_part p.0, p.1)) (tracks large) (λ p. ok_tracks (negated_part p)) ts in
            let wide : nat_lt more 2 ≡ false = grind (arith, nat_tests) in
            record {
              used = t_.used;
              split = t_.split;
              same = λ us first.
                  subst (Matches Same (above negated_part (operand ts)) us)
                  (sym (ap (λ b. cond b (refused (t_.used ++ us)) (above negated_part (other (t_.used ++ us)))) wide)) (t_.same us first);
            }

    minus_tracks : Tracks Same (minus_at room t operand) (minus_at more t other)
    unfolding minus_at
    minus_tracks =
        cond_tracks (begins is_number) (begins_first is_number) (bind_tracks _ _ (token_tracks is_number (negative_literal t)) (λ _. ok_tracks _))
        no_literal_tracks

-- chains: each operator is a level more, so that their number bounds nothing
record Enough (tier room n n_other more : ℕ) (left : Part) : Type 0 where
  one : tier ≡ 3 → n ≡ n_other
  some : (tier ≡ 3 → ⊥) → room < n + left.levels
  others : (tier ≡ 3 → ⊥) → more < n_other + left.levels
  fits : left.levels ≤ room

module _ {Same : Type 0} (r more tier : ℕ) (le : suc r ≤ more) (equal : Same → suc r ≡ more) (right other : Reader)
    (low : (us : List Lexeme) (x : Part × List Lexeme) → right us ≡ Ok x → x.0.levels ≤ r) (tracks : 1 ≤ r → Tracks Same right other) where
  joined_tracks : (o : Infix) (left : Part) → 1 ≤ r → Tracks Same (joined_at o right left) (joined_at o other left)
  unfolding joined_at operation_at remainder_at
  joined_tracks (Joins op) left room = bind_tracks _ _ any_tracks (λ _. bind_tracks _ _ (tracks room) (λ _. ok_tracks _))
  joined_tracks Rests left room = bind_tracks _ _ any_tracks (λ _. bind_tracks _ _ number_tracks (λ _. ok_tracks _))

  -- what an operator makes nests one level deeper, and within the room
  joined_levels : (o : Infix) (left : Part) → left.levels < suc r → (ts : List Lexeme) (x : Part × List Lexeme) → joined_at o right left ts ≡ Ok x
      → (left.levels < x.0.levels) × (x.0.levels ≤ suc r)
  unfolding joined_at operation_at remainder_at
  joined_levels (Joins op) left less ts x e =
      let t = bind_ok (any_token ts) _ x e in
      let p = bind_ok (right t.0.1) _ x t.2 in
      let is = ap (λ (z : Part × List Lexeme). z.0.levels) (ok_is _ x p.2) in
      let few = low t.0.1 p.0 p.1 in
      (omega (arith, is), omega (arith, is, few, less))
  joined_levels Rests left less ts x e =
      let t = bind_ok (any_token ts) _ x e in
      let n = bind_ok (number_at t.0.1) _ x t.2 in
      let is = ap (λ (z : Part × List Lexeme). z.0.levels) (ok_is _ x n.2) in
      (omega (arith, is), omega (arith, is, less))

  abbrev turn_of : ℕ → ℕ → Reader → Part → List Lexeme → Infix → Read Part
  turn_of n room g left ts o = joined_at o g left ts >>= λ p. chain_at n room tier g p.0 p.1

  abbrev goes_of : ℕ → ℕ → Reader → Part → Option Infix → List Lexeme → Read Part
  goes_of n room g left m ts = gone_on room (turn_of n room g left ts) m left ts

  -- no operator of this tier comes
  no_operator : (m : ℕ) (left : Part) (ts : List Lexeme) → infix_at tier ts ≡ None → Track Same (chain_at m more tier other left) (ok (left, ts)) ts
  no_operator m left ts none = record { used = []; split = refl; same = λ us first. ends m us (infix_first tier us ts first ∙ none) }
    where
      ends : (k : ℕ) (us : List Lexeme) → infix_at tier us ≡ None → chain_at k more tier other left us ≡ Ok (left, us)
      ends k us is = chain_stops k more tier other left us is

  some_turn : (n m : ℕ) (left : Part) → Enough tier (suc r) (suc n) m more left → 1 ≤ left.levels → (k : ℕ) × (m ≡ suc k)
  some_turn n zero left enough some_ = elim (cases_Bool (tier == 3)) [
    | inl three ↦ (let at : tier ≡ 3 = grind (arith, nat_tests) in absurd (omega (arith, enough.one at)))
    | inr not_three ↦ (let off : tier ≡ 3 → ⊥ = λ at. absurd (grind (arith, nat_tests)) in absurd (omega (arith, enough.others off, enough.fits, le)))
  ]
  some_turn n (suc k) left enough some_ = (k, refl)

  chain_ends : (m : ℕ) (left : Part) → m ≡ 0 → (us : List Lexeme) → chain_at m more tier other left us ≡ Ok (left, us)
  unfolding chain_at
  chain_ends zero left is us = refl
  chain_ends (suc k) left is us = absurd cc

  -- an operator that the room allows
  takes_turn : (k : ℕ) (left : Part) (o : Infix) (us : List Lexeme) → infix_at tier us ≡ Some o → left.levels < more
      → chain_at (suc k) more tier other left us ≡ turn_of k more other left us o
  unfolding chain_at
  takes_turn k left o us is less =
      let test : nat_lt left.levels more ≡ true = grind (arith, nat_tests) in
      ap (λ x. goes_of k more other left x us) is ∙ ap (λ b. cond b (turn_of k more other left us o) (Err (deep, us))) test

  abbrev Later : ℕ → Type 0
  Later n =
      (m : ℕ) (left : Part) → Enough tier (suc r) n m more left → (1 ≤ left.levels)
      → Tracks Same (chain_at n (suc r) tier right left) (chain_at m more tier other left)

  turn_tracks : (n k : ℕ) → Later n → (left : Part) → Enough tier (suc r) (suc n) (suc k) more left → 1 ≤ left.levels → left.levels < suc r
      → (o : Infix) (ts : List Lexeme) → Track Same (λ us. turn_of k more other left us o) (turn_of n (suc r) right left ts o) ts
  turn_tracks n k later left enough some_ less o ts =
      bind_track (joined_at o right left) (λ p. chain_at n (suc r) tier right p.0 p.1) (λ p. chain_at k more tier other p.0 p.1) ts
      (joined_tracks o left (omega (arith, some_, less)) ts) (λ x is.
      let l = joined_levels o left less ts x is in
      later k x.0 (record {
        one = λ three. omega (arith, enough.one three);
        some = λ off. omega (arith, enough.some off, l.0);
        others = λ off. omega (arith, enough.others off, l.0);
        fits = l.1;
      }) (omega (arith, l.0)) x.1)

  chain_step : (n k : ℕ) → Later n → (left : Part) → Enough tier (suc r) (suc n) (suc k) more left → 1 ≤ left.levels → (ts : List Lexeme) (o : Option Infix)
      → infix_at tier ts ≡ o → (b : Bool) → nat_lt left.levels (suc r) ≡ b
      → Track Same (chain_at (suc k) more tier other left) (goes_of n (suc r) right left o ts) ts
  chain_step n k later left enough some_ ts None none b test = no_operator (suc k) left ts none
  chain_step n k later left enough some_ ts (Some o) is true test =
      let less : left.levels < suc r = grind (arith, nat_tests) in
      let t = retrack (λ us. turn_of k more other left us o) (chain_at (suc k) more tier other left) (turn_tracks n k later left enough some_ less o ts)
      (λ us first. takes_turn k left o us (infix_first tier us ts first ∙ is) (omega (arith, less, le))) in
      subst (λ m. Track Same (chain_at (suc k) more tier other left) m ts) (ap (λ c. cond c (turn_of n (suc r) right left ts o) (Err (deep, ts))) (sym test)) t
  chain_step n k later left enough some_ ts (Some o) is false test =
      let full : suc r ≤ left.levels = grind (arith, nat_tests) in
      let t = deep_tracks (chain_at (suc k) more tier other left) ts
      (λ same us first. too_deep (suc k) more tier other left us o (λ z. absurd cc) (infix_first tier us ts first ∙ is)
      (let at = equal same in omega (arith, full, at))) in
      subst (λ m. Track Same (chain_at (suc k) more tier other left) m ts) (ap (λ c. cond c (turn_of n (suc r) right left ts o) (Err (deep, ts))) (sym test)) t

  chain_tracks : (n : ℕ) → Later n
  unfolding chain_at
  chain_tracks zero m left enough some_ ts = elim (cases_Bool (tier == 3)) [
    | inl three ↦ (let at : tier ≡ 3 = grind (arith, nat_tests) in
        record { used = []; split = refl; same = λ us first. chain_ends m left (sym (enough.one at)) us })
    | inr not_three ↦ (let off : tier ≡ 3 → ⊥ = λ at. absurd (grind (arith, nat_tests)) in absurd (omega (arith, enough.some off, enough.fits)))
  ]
  chain_tracks (suc n) m left enough some_ ts =
      let k = some_turn n m left enough some_ in
      let again : Enough tier (suc r) (suc n) (suc k.0) more left = subst (λ j. Enough tier (suc r) (suc n) j more left) k.1 enough in
      subst (λ j. Track Same (chain_at j more tier other left) (goes_of n (suc r) right left (infix_at tier ts) ts) ts) (sym k.1)
      (chain_step n k.0 (chain_tracks n) left again some_ ts (infix_at tier ts) refl (nat_lt left.levels (suc r)) refl)

reads_levels : (tier room : ℕ) (held : Bool) (g : Reader) → Reads tier room held g → (us : List Lexeme) (x : Part × List Lexeme) → g us ≡ Ok x
    → (1 ≤ x.0.levels) × (x.0.levels ≤ room)
reads_levels tier room held g reads us x e =
    let f = reads us x e in
    let is : x.0.levels ≡ levels_of f.phrase = ap (λ (p : Part). p.levels) f.part in
    (omega (arith, is, some_levels f.phrase), omega (arith, is, f.fits.0))

-- the tiers, one above the other
module _ {Same : Type 0} (r more : ℕ) (le : r ≤ more) (equal : Same → r ≡ more) (held : Bool) (below below_more : ℕ → Reader) (inner inner_more : Reader)
    (low : (k : ℕ) → Reads k r false (below k)) (within_reads : Reads 7 (room_inside r held) true inner)
    (low_tracks : (k : ℕ) → 1 ≤ r → Tracks Same (below k) (below_more k)) (inner_tracks : (held ≡ true → 1 ≤ r) → Tracks Same inner inner_more)
    (none : nat_lt (suc more) 2 ≡ false → (us : List Lexeme) → begins_unary us ≡ false → below_more 0 us ≡ Err (stuck, us)) where
  abbrev here : Around
  here = around_of r held below inner

  abbrev there : Around
  there = around_of more held below_more inner_more

  le_suc : suc r ≤ suc more
  le_suc = omega (arith, le)

  equal_suc : Same → suc r ≡ suc more
  equal_suc same = ap suc (equal same)

  roomy : nat_lt (suc r) 2 ≡ false → 1 ≤ r
  roomy small = grind (arith, nat_tests)

  call_tracks : (g other : Reader) → (1 ≤ r → Tracks Same g other) → Tracks Same (λ ts. within (suc r) ts (g ts)) (λ ts. within (suc more) ts (other ts))
  call_tracks g other tracks = within_track (suc r) (suc more) le_suc equal_suc g other (λ small. tracks (roomy small))

  held_tracks : (b : Bool) → held ≡ b → Tracks Same (held_group (suc r) b inner) (held_group (suc more) b inner_more)
  held_tracks true is = call_tracks (group_at inner) (group_at inner_more) (λ room. group_tracks inner inner_more (inner_tracks (λ _. room)))
  held_tracks false is = group_tracks inner inner_more (inner_tracks (λ yes_. absurd cc))

  atom_from_tracks : (o : Opening) → Tracks Same (atom_from o here) (atom_from o there)
  unfolding atom_from
  atom_from_tracks openings.Number ts = number_part_tracks ts
  atom_from_tracks openings.Name ts = named_tracks ts
  atom_from_tracks openings.Group ts = held_tracks held refl ts
  atom_from_tracks (openings.Truth value) ts = truth_part_tracks value ts
  atom_from_tracks (openings.Pair func) ts =
      call_tracks (pair_at func (below 7)) (pair_at func (below_more 7)) (λ room. pair_tracks (below 7) (below_more 7) (low_tracks 7 room) func) ts
  atom_from_tracks openings.Abs ts = call_tracks (abs_at (below 7)) (abs_at (below_more 7)) (λ room. abs_tracks (below 7) (below_more 7) (low_tracks 7 room)) ts
  atom_from_tracks openings.Clamp ts =
      call_tracks (clamp_at (below 7)) (clamp_at (below_more 7)) (λ room. clamp_tracks (below 7) (below_more 7) (low_tracks 7 room)) ts
  atom_from_tracks openings.Rescale ts =
      call_tracks (rescale_at (below 7)) (rescale_at (below_more 7)) (λ room. rescale_tracks (below 7) (below_more 7) (low_tracks 7 room)) ts
  atom_from_tracks openings.Other ts = stuck_tracks (λ us. Err (stuck, us)) ts (λ us first. refl)

  atom_tracks : Tracks Same (atom_at here) (atom_at there)
  unfolding atom_at
  atom_tracks ts =
      retrack (atom_from (opening_at ts) there) (atom_at there) (atom_from_tracks (opening_at ts) ts)
      (λ us first. ap (λ o. atom_from (opening_from o) there us) first)

  unary_tracks : Tracks Same (unary_at here) (unary_at there)
  unfolding unary_at
  unary_tracks =
      cond_tracks (begins (is_sign (codes "-"))) (begins_first (is_sign (codes "-")))
      (bind_tracks _ _ any_tracks (λ t. minus_tracks (suc r) (suc more) le_suc equal_suc t (below 0) (below_more 0) (λ small. low_tracks 0 (roomy small)) none))
      atom_tracks

  denial_tracks : (next other : Reader) → Tracks Same next other → Tracks Same (denial_at (suc r) (below 4) next) (denial_at (suc more) (below_more 4) other)
  unfolding denial_at
  denial_tracks next other tracks =
      cond_tracks (begins (is_keyword (codes "not"))) (begins_first (is_keyword (codes "not")))
      (call_tracks (denied_at (below 4)) (denied_at (below_more 4)) (λ room. denied_tracks (below 4) (below_more 4) (low_tracks 4 room))) tracks

  choice_tracks : (next other : Reader) → Tracks Same next other → Tracks Same (choice_at (suc r) (below 7) next) (choice_at (suc more) (below_more 7) other)
  unfolding choice_at
  choice_tracks next other tracks =
      cond_tracks (begins (is_keyword (codes "if"))) (begins_first (is_keyword (codes "if")))
      (call_tracks (chosen_at (below 7)) (chosen_at (below_more 7)) (λ room. chosen_tracks (below 7) (below_more 7) (low_tracks 7 room))) tracks

  turns_enough : (k : ℕ) (left : Part) → 1 ≤ left.levels → left.levels ≤ suc r
      → Enough (suc k) (suc r) (turns (suc k) (suc r)) (turns (suc k) (suc more)) (suc more) left
  turns_enough k left some_ fits = elim (cases_Bool (suc k == 3)) [
    | inl three ↦ (let at : suc k ≡ 3 = grind (arith, nat_tests) in
        record { one = λ _. rw three refl; some = λ off. absurd (off at); others = λ off. absurd (off at); fits = fits })
    | inr other ↦ (let off : suc k ≡ 3 → ⊥ = λ at. absurd (grind (arith, nat_tests)) in
        record { one = λ at. absurd (off at); some = λ _. rw other (omega (arith, some_)); others = λ _. rw other (omega (arith, some_)); fits = fits })
  ]

  chain_tier_tracks : (k : ℕ) (next other : Reader) → Reads k (suc r) held next → Tracks Same next other
      → Tracks Same (λ ts. next ts >>= λ p. chain_at (turns (suc k) (suc r)) (suc r) (suc k) (below k) p.0 p.1)
      (λ ts. other ts >>= λ p. chain_at (turns (suc k) (suc more)) (suc more) (suc k) (below_more k) p.0 p.1)
  chain_tier_tracks k next other reads tracks ts =
      bind_track next _ _ ts (tracks ts) (λ x is.
      let l = reads_levels k (suc r) held next reads ts x is in
      chain_tracks r (suc more) (suc k) le_suc equal_suc (below k) (below_more k) (λ us y e. (reads_levels k r false (below k) (low k) us y e).1) (low_tracks k)
      (turns (suc k) (suc r)) (turns (suc k) (suc more)) x.0 (turns_enough k x.0 l.0 l.1) l.0 x.1)

  by_test : {A : Type 0} (b : Bool) (m n other_m other_n : List Lexeme → Read A) → Tracks Same m other_m → Tracks Same n other_n
      → Tracks Same (λ ts. cond b (m ts) (n ts)) (λ ts. cond b (other_m ts) (other_n ts))
  by_test true m n other_m other_n f g = f
  by_test false m n other_m other_n f g = g

  tier_tracks : (k : ℕ) → Tracks Same (tier_at k here) (tier_at k there)
  unfolding tier_at
  tier_tracks zero = unary_tracks
  tier_tracks (suc k) =
      by_test (k == 3) _ _ _ _ (denial_tracks (tier_at k here) (tier_at k there) (tier_tracks k))
      (by_test (k == 6) _ _ _ _ (choice_tracks (tier_at k here) (tier_at k there) (tier_tracks k))
      (chain_tier_tracks k (tier_at k here) (tier_at k there) (tier_ok k r held below inner low within_reads) (tier_tracks k)))

part_tracks : {Same : Type 0} (room more : ℕ) → room ≤ more → (Same → room ≡ more) → (held : Bool) (tier : ℕ)
    → Tracks Same (part_at room held tier) (part_at more held tier)
unfolding part_at
part_tracks zero more le equal held tier ts = deep_tracks (part_at more held tier) ts (λ same us first. ap (λ n. part_at n held tier us) (sym (equal same)))
part_tracks (suc r) zero le equal held tier ts = absurd (omega (arith, le))
part_tracks (suc r) (suc s) le equal true tier ts =
    let less : r ≤ s = omega (arith, le) in
    let same_ : _ → r ≡ s = λ same. omega (arith, equal same) in
    tier_tracks r s less same_ true (part_at r false) (part_at s false) (part_at r true 7) (part_at s true 7) (part_ok r false) (part_ok r true 7)
    (λ k _. part_tracks r s less same_ false k) (λ _. part_tracks r s less same_ true 7) (none_of s) tier ts
part_tracks (suc r) (suc s) le equal false tier ts =
    let less : r ≤ s = omega (arith, le) in
    let same_ : _ → r ≡ s = λ same. omega (arith, equal same) in
    tier_tracks r s less same_ false (part_at r false) (part_at s false) (λ us. tier_at 7 (around_of r true (part_at r false) (part_at r true 7)) us)
    (λ us. tier_at 7 (around_of s true (part_at s false) (part_at s true 7)) us)
    (part_ok r false) (tier_ok 7 r true (part_at r false) (part_at r true 7) (part_ok r false) (part_ok r true 7)) (λ k _. part_tracks r s less same_ false k)
    (λ _. tier_tracks r s less same_ true (part_at r false) (part_at s false) (part_at r true 7) (part_at s true 7) (part_ok r false) (part_ok r true 7)
    (λ k _. part_tracks r s less same_ false k) (λ _. part_tracks r s less same_ true 7) (none_of s) 7) (none_of s) tier ts

-- an expression
pub tree_tracks : {Same : Type 0} (room more : ℕ) → room ≤ more → (Same → room ≡ more) → Tracks Same (tree_at room) (tree_at more)
unfolding tree_at expression_at
tree_tracks room more le equal = bind_tracks _ _ (part_tracks room more le equal false 7) (λ _. ok_tracks _)
