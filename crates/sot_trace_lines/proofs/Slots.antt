-- The slots of a firing are read as they are spelled.
use Rattle.std.proofs.Common.{◌≡◌, ℕ, suc, ℤ, ◌==◌, Bool, true, false, List, [], ◌∷◌, ◌++◌, Option, Some, None, length, codes, inl, inr, refl, sym, ap, ap₂}
use Rattle.std.proofs.Common.{◌∙◌, arith, drop, append_assoc}
use Rattle.std.specs.Char.{is_ascii_digit}
use Rattle.std.proofs.lemmas.Bool.{cases_Bool, cond-true, cond-false}
use Rattle.std.proofs.lemmas.Option.{none-some}
use Rattle.std.proofs.lemmas.Bool.Decides.{nat_tests}
use Rattle.sot_lang.specs.declared.tables.ScalarInfo.{ScalarInfo}
use Rattle.sot_lang.specs.Tables.{Tables}
use Rattle.sot_lang.specs.TableRules.{MeetsTableRules}
use Rattle.sot_lists.specs.Places.{At, Has}
use Rattle.sot_trace.specs.Names.{scalar_name}
use Rattle.sot_trace.specs.Numbers.{signed_numeral}
use Rattle.sot_trace.specs.Words.{AreWords}
use Rattle.sot_trace.specs.Drafts.{mark}
use Rattle.sot_trace.proofs.Splits.{Stops, cut_same}
use Rattle.sot_trace.proofs.NameTexts.{in_name, scalar_in, scalar_same}
use Rattle.sot_trace.proofs.DraftTexts.{AreThere, AreApart, mark_stops}
use Rattle.sot_trace_lines.specs.Pieces.{◌>>=◌, behind, number_at}
use Rattle.sot_trace_lines.specs.Spelled.{marked_text, marks_text}
use Rattle.sot_trace_lines.specs.Readers.{mark_at, marked, slot_front, slot_number, slots_at}
use Rattle.sot_trace_lines.proofs.Pieces.{both, then_next, parts_same, in_front, behind_them}
use Rattle.sot_trace_lines.proofs.Numerals.{number_from, read_number}

-- the scalars that a node writes are there, and no two are one
same_code : (b c : ℕ) → (b == c) ≡ true → b ≡ c
same_code b c e = grind (arith, nat_tests)

mark_from : (text : List ℕ) (m : Bool) (rest : List ℕ) → mark_at text ≡ Some (m, rest) → text ≡ mark m ++ rest
mark_from [] m rest e = absurd cc
mark_from (b ∷ bs) m rest e =
    elim (cases_Bool (b == 61)) [
      | inl yes' ↦ (
          let same = parts_same true m bs rest (sym (cond-true (b == 61) _ _ yes') ∙ e) in
          ap₂ (λ x y. x ∷ y) (same_code b 61 yes') same.1 ∙ ap (λ x. mark x ++ rest) same.0
          )
      | inr no' ↦
          elim (cases_Bool (b == 33)) [
            | inl yes' ↦ (
                let same = parts_same false m bs rest (sym (cond-true (b == 33) _ _ yes') ∙ sym (cond-false (b == 61) _ _ no') ∙ e) in
                ap₂ (λ x y. x ∷ y) (same_code b 33 yes') same.1 ∙ ap (λ x. mark x ++ rest) same.0
                )
            | inr none ↦ absurd (none-some (m, rest) (sym (cond-false (b == 33) _ _ none) ∙ sym (cond-false (b == 61) _ _ no') ∙ e))
          ]
    ]

mark_read : (m : Bool) (rest : List ℕ) → mark_at (mark m ++ rest) ≡ Some (m, rest)
mark_read true rest = refl
mark_read false rest = refl

module _ (p : Tables) where
  front_from : (k : ℕ) (text : List ℕ) (m : Bool) (rest : List ℕ) → slot_front p k text ≡ Some (m, rest) → text ≡ 32 ∷ (scalar_name p k ++ (mark m ++ rest))
  front_from k text m rest e =
      let s = both (behind (codes " ") text) (λ r. behind (scalar_name p k) r >>= mark_at) (m, rest) e in
      let t = both (behind (scalar_name p k) s.0) mark_at (m, rest) s.2 in
      in_front (codes " ") text s.0 s.1 ∙ ap (λ x. 32 ∷ x) (in_front (scalar_name p k) s.0 t.0 t.1 ∙ ap (λ x. scalar_name p k ++ x) (mark_from t.0 m rest t.2))

  front_read : (k : ℕ) (m : Bool) (rest : List ℕ) → slot_front p k (32 ∷ (scalar_name p k ++ (mark m ++ rest))) ≡ Some (m, rest)
  front_read k m rest =
      then_next (behind (scalar_name p k) (scalar_name p k ++ (mark m ++ rest))) mark_at (mark m ++ rest) (behind_them (scalar_name p k) (mark m ++ rest))
      ∙ mark_read m rest

  -- a slot that is there begins with a blank and the scalar's name
  marked_opens : (k : ℕ) (m : Bool) (z : ℤ) (x : List ℕ) → marked_text p k (Some (m, z)) ++ x ≡ 32 ∷ (scalar_name p k ++ (mark m ++ (signed_numeral z ++ x)))
  marked_opens k m z x =
      ap (λ y. 32 ∷ y) (append_assoc (scalar_name p k) (mark m ++ signed_numeral z) x
      ∙ ap (λ y. scalar_name p k ++ y) (append_assoc (mark m) (signed_numeral z) x))

  slot_from : (k : ℕ) (text : List ℕ) (slot : Option (Bool × ℤ)) (rest : List ℕ) (o : Option (Bool × List ℕ)) → slot_front p k text ≡ o
      → slot_number text o ≡ Some (slot, rest)
      → text ≡ marked_text p k slot ++ rest
  slot_from k text slot rest None is e = (let same = parts_same None slot text rest e in same.1 ∙ ap (λ x. marked_text p k x ++ rest) same.0)
  slot_from k text slot rest (Some (m, r)) is e =
      let s = both (number_at r) (marked m) (slot, rest) e in
      let same = parts_same (Some (m, s.0.0)) slot s.0.1 rest s.2 in
      front_from k text m r is
      ∙ ap (λ x. 32 ∷ (scalar_name p k ++ (mark m ++ x))) (number_from r s.0.0 s.0.1 s.1)
      ∙ sym (marked_opens k m s.0.0 s.0.1)
      ∙ ap₂ (λ x y. marked_text p k x ++ y) same.0 same.1

  -- what is read as slots is their text
  pub slots_from : (ks : List ℕ) (text : List ℕ) (slots : List (Option (Bool × ℤ))) (rest : List ℕ) → slots_at p ks text ≡ Some (slots, rest)
      → (length slots ≡ length ks) × (text ≡ marks_text p ks slots ++ rest)
  slots_from [] text slots rest e = (let same = parts_same [] slots text rest e in (sym (ap length same.0), same.1))
  slots_from (k ∷ ks) text slots rest e =
      let s = both (slot_number text (slot_front p k text)) (λ s. slots_at p ks s.1 >>= λ d. Some (s.0 ∷ d.0, d.1)) (slots, rest) e in
      let t = both (slots_at p ks s.0.1) (λ d. Some (s.0.0 ∷ d.0, d.1)) (slots, rest) s.2 in
      let same = parts_same (s.0.0 ∷ t.0.0) slots t.0.1 rest t.2 in
      let more = slots_from ks s.0.1 t.0.0 t.0.1 t.1 in (
        ap length (sym same.0) ∙ omega (arith, more.0),
        slot_from k text s.0.0 s.0.1 (slot_front p k text) refl s.1
            ∙ ap (λ x. marked_text p k s.0.0 ++ x) more.1
            ∙ sym (append_assoc (marked_text p k s.0.0) (marks_text p ks t.0.0) t.0.1)
            ∙ ap₂ (λ x y. marks_text p (k ∷ ks) x ++ y) same.0 same.1,
      )

  pub marks_stop : (q : ℕ → Bool) → q 32 ≡ false → (ks : List ℕ) (slots : List (Option (Bool × ℤ))) → Stops q (marks_text p ks slots)
  marks_stop q blank [] d = tt
  marks_stop q blank (k ∷ ks) [] = tt
  marks_stop q blank (k ∷ ks) (None ∷ d) = marks_stop q blank ks d
  marks_stop q blank (k ∷ ks) (Some z ∷ d) = blank

module _ (p : Tables) (rules : MeetsTableRules p) (words : AreWords p) where
  -- a scalar that is named first is in the list
  later : (k : ℕ) (info : ScalarInfo) → At p.scalars k info → (x : List ℕ) → Stops in_name x → (ks : List ℕ) → AreThere p ks → (d : List (Option (Bool × ℤ)))
      → marks_text p ks d ≡ 32 ∷ (scalar_name p k ++ x) → Has ks k
  later k info at x stops [] there d e = absurd cc
  later k info at x stops (j ∷ ks) there [] e = absurd cc
  later k info at x stops (j ∷ ks) there (None ∷ d) e = (let has = later k info at x stops ks there.1 d e in (suc has.0, has.1))
  later k info at x stops (j ∷ ks) there (Some (m, z) ∷ d) e =
      let whole : scalar_name p j ++ (mark m ++ (signed_numeral z ++ marks_text p ks d)) ≡ scalar_name p k ++ x =
      ap (drop 1) (sym (marked_opens p j m z (marks_text p ks d)) ∙ e) in
      let parts = cut_same in_name (scalar_name p j) (scalar_name p k) (mark m ++ (signed_numeral z ++ marks_text p ks d)) x
      (scalar_in p rules words j there.0.0 there.0.1) (scalar_in p rules words k info at) (mark_stops m _) stops whole in
      (0, ap Some (scalar_same p rules words j k there.0.0 info there.0.1 at parts.0))

  -- no slot is read of a scalar that is left out
  left_out : (k : ℕ) (ks : List ℕ) → AreThere p (k ∷ ks) → AreApart (k ∷ ks) → (d : List (Option (Bool × ℤ))) (o : Option (Bool × List ℕ))
      → slot_front p k (marks_text p ks d) ≡ o → o ≡ None
  left_out k ks there apart d None is = refl
  left_out k ks there apart d (Some (m, rest)) is =
      absurd (apart.0 (later k there.0.0 there.0.1 (mark m ++ rest) (mark_stops m rest) ks there.1 d (front_from p k (marks_text p ks d) m rest is)))

  -- the text of slots is read as the slots
  pub read_slots : (ks : List ℕ) → AreThere p ks → AreApart ks → (slots : List (Option (Bool × ℤ))) → length slots ≡ length ks
      → slots_at p ks (marks_text p ks slots) ≡ Some (slots, [])
  read_slots [] there apart [] size = refl
  read_slots [] there apart (x ∷ slots) size = absurd (omega arith)
  read_slots (k ∷ ks) there apart [] size = absurd (omega arith)
  read_slots (k ∷ ks) there apart (None ∷ slots) size =
      let text : List ℕ = marks_text p ks slots in
      ap (λ o. slot_number text o >>= λ s. slots_at p ks s.1 >>= λ d. Some (s.0 ∷ d.0, d.1)) (left_out k ks there apart slots (slot_front p k text) refl)
      ∙ then_next (slots_at p ks text) (λ d. Some (None ∷ d.0, d.1)) (slots, []) (read_slots ks there.1 apart.1 slots (omega arith))
  read_slots (k ∷ ks) there apart (Some (m, z) ∷ slots) size =
      let more : List ℕ = marks_text p ks slots in
      let text : List ℕ = signed_numeral z ++ more in
      ap (λ t. slot_number t (slot_front p k t) >>= λ s. slots_at p ks s.1 >>= λ d. Some (s.0 ∷ d.0, d.1)) (marked_opens p k m z more)
      ∙ ap (λ o. slot_number (32 ∷ (scalar_name p k ++ (mark m ++ text))) o >>= λ s. slots_at p ks s.1 >>= λ d. Some (s.0 ∷ d.0, d.1)) (front_read p k m text)
      ∙ ap (λ o. (o >>= marked m) >>= λ s. slots_at p ks s.1 >>= λ d. Some (s.0 ∷ d.0, d.1)) (read_number z more (marks_stop p is_ascii_digit refl ks slots))
      ∙ then_next (slots_at p ks more) (λ d. Some (Some (m, z) ∷ d.0, d.1)) (slots, []) (read_slots ks there.1 apart.1 slots (omega arith))
