-- Slots that are read one by one, with what is kept of their numbers.
use Rattle.std.proofs.Common.{◌≡◌, ℕ, suc, ◌+◌, ◌<◌, ◌==◌, Bool, List, [], ◌∷◌, ◌++◌, Option, Some, None, length, get_or, drop, inl, inr, refl, sym, ap, ap₂}
use Rattle.std.proofs.Common.{◌∙◌, add-one}
use Rattle.std.specs.Prelude.{ℤ}
use Rattle.std.proofs.lemmas.Bool.{cases_Bool, cond-true, cond-false}
use Rattle.std.proofs.lemmas.Option.{same_Some, slice_get_read, get_or_from_slice_get}
use Rattle.sot_lang.specs.declared.tables.TopicInfo.{TopicInfo}
use Rattle.sot_lang.specs.declared.tables.ScalarInfo.{ScalarInfo}
use Rattle.sot_lang.specs.Tables.{Tables}
use Rattle.sot_lang.specs.TableRules.{MeetsTableRules}
use Rattle.sot_trace.specs.Names.{field_part, scalar_name}
use Rattle.sot_trace.proofs.NameTexts.{scalar_named}
use Rattle.sot_trace_lines.specs.Pieces.{◌>>=◌, behind, number_at}
use Rattle.sot_trace_lines.specs.Readers.{marked, slot_front, slot_number, slots_at}
use Rattle.sot_trace_lines.specs.Kept.{bounded, kept_number, draft_one, put_slot, kept_slot, kept_slots, behind_mark}
use Rattle.sot_trace_lines.proofs.Pieces.{parts_same}

-- two pieces in front, one behind the other
pub behind_both : (a b text : List ℕ) → behind (a ++ b) text ≡ (behind a text >>= behind b)
behind_both [] b text = refl
behind_both (c ∷ cs) b [] = refl
behind_both (c ∷ cs) b (x ∷ xs) =
    elim (cases_Bool (x == c)) [
      | inl yes' ↦ cond-true (x == c) _ _ yes' ∙ behind_both cs b xs ∙ ap (λ o. o >>= behind b) (sym (cond-true (x == c) (behind cs xs) None yes'))
      | inr no' ↦ cond-false (x == c) _ _ no' ∙ ap (λ o. o >>= behind b) (sym (cond-false (x == c) (behind cs xs) None no'))
    ]

-- a slot that is left out
pub slot_left : (i : ℕ) (kept : List (Option ℤ) × Bool) (text : List ℕ) (o : Option (Bool × List ℕ)) → behind_mark o ≡ None
    → kept_slot i kept (slot_number text o) ≡ Some (kept, text)
slot_left i kept text None e = refl
slot_left i kept text (Some f) e = absurd cc

kept_marked : (i : ℕ) (kept : List (Option ℤ) × Bool) (m : Bool) (o : Option (ℤ × List ℕ)) (v : Option ℤ) (rest : List ℕ) → kept_number o ≡ Some (v, rest)
    → kept_slot i kept (o >>= marked m) ≡ Some (draft_one i kept v, rest)
kept_marked i kept m None v rest e = absurd cc
kept_marked i kept m (Some (z, r)) v rest e = (let same = parts_same (bounded z) v r rest e in ap₂ (λ x y. Some (draft_one i kept x, y)) same.0 same.1)

none_marked : (i : ℕ) (kept : List (Option ℤ) × Bool) (m : Bool) (o : Option (ℤ × List ℕ)) → kept_number o ≡ None → kept_slot i kept (o >>= marked m) ≡ None
none_marked i kept m None e = refl
none_marked i kept m (Some c) e = absurd cc

-- a slot that is there, with its number
pub slot_kept : (i : ℕ) (kept : List (Option ℤ) × Bool) (text r : List ℕ) (v : Option ℤ) (rest : List ℕ) (o : Option (Bool × List ℕ)) → behind_mark o ≡ Some r
    → kept_number (number_at r) ≡ Some (v, rest) → kept_slot i kept (slot_number text o) ≡ Some (draft_one i kept v, rest)
slot_kept i kept text r v rest None front number = absurd cc
slot_kept i kept text r v rest (Some (m, t)) front number =
    kept_marked i kept m (number_at t) v rest (ap (λ x. kept_number (number_at x)) (same_Some t r front) ∙ number)

-- .. or without one
pub slot_stuck : (i : ℕ) (kept : List (Option ℤ) × Bool) (text r : List ℕ) (o : Option (Bool × List ℕ)) → behind_mark o ≡ Some r
    → kept_number (number_at r) ≡ None
    → kept_slot i kept (slot_number text o) ≡ None
slot_stuck i kept text r None front number = absurd cc
slot_stuck i kept text r (Some (m, t)) front number = none_marked i kept m (number_at t) (ap (λ x. kept_number (number_at x)) (same_Some t r front) ∙ number)

-- one slot before others
abbrev pub before : Tables → Option (Option (Bool × ℤ) × List ℕ) → List ℕ → Option (List (Option (Bool × ℤ)) × List ℕ)
before p o ks = o >>= λ s. slots_at p ks s.1 >>= λ d. Some (s.0 ∷ d.0, d.1)

kept_cons : (i : ℕ) (kept : List (Option ℤ) × Bool) (s : Option (Bool × ℤ)) (o : Option (List (Option (Bool × ℤ)) × List ℕ))
    → kept_slots i kept (o >>= λ d. Some (s ∷ d.0, d.1)) ≡ kept_slots (suc i) (put_slot i kept s) o
kept_cons i kept s None = refl
kept_cons i kept s (Some d) = refl

kept_before : (p : Tables) (i : ℕ) (kept next : List (Option ℤ) × Bool) (ks : List ℕ) (rest : List ℕ) (o : Option (Option (Bool × ℤ) × List ℕ))
    → kept_slot i kept o ≡ Some (next, rest)
    → kept_slots (suc i) next (slots_at p ks rest) ≡ kept_slots i kept (before p o ks)
kept_before p i kept next ks rest None e = absurd cc
kept_before p i kept next ks rest (Some (s, r)) e =
    let same = parts_same (put_slot i kept s) next r rest e in
    sym (kept_cons i kept s (slots_at p ks r) ∙ ap₂ (λ k t. kept_slots (suc i) k (slots_at p ks t)) same.0 same.1)

none_before : (p : Tables) (i : ℕ) (kept : List (Option ℤ) × Bool) (ks : List ℕ) (o : Option (Option (Bool × ℤ) × List ℕ)) → kept_slot i kept o ≡ None
    → before p o ks ≡ None
none_before p i kept ks None e = refl
none_before p i kept ks (Some s) e = absurd cc

-- a slot was read or left out
pub slot_read : (p : Tables) (ks : List ℕ) (i k : ℕ) (kept next : List (Option ℤ) × Bool) (text rest : List ℕ) → drop i ks ≡ k ∷ drop (i + 1) ks
    → kept_slot i kept (slot_number text (slot_front p k text)) ≡ Some (next, rest)
    → kept_slots (i + 1) next (slots_at p (drop (i + 1) ks) rest) ≡ kept_slots i kept (slots_at p (drop i ks) text)
slot_read p ks i k kept next text rest at is =
    ap (λ n. kept_slots n next (slots_at p (drop (i + 1) ks) rest)) (add-one i)
    ∙ kept_before p i kept next (drop (i + 1) ks) rest (slot_number text (slot_front p k text)) is
    ∙ ap (λ l. kept_slots i kept (slots_at p l text)) (sym at)

-- .. or it has no number
pub slot_unread : (p : Tables) (ks : List ℕ) (i k : ℕ) (kept : List (Option ℤ) × Bool) (text : List ℕ) → drop i ks ≡ k ∷ drop (i + 1) ks
    → kept_slot i kept (slot_number text (slot_front p k text)) ≡ None → None ≡ kept_slots i kept (slots_at p (drop i ks) text)
slot_unread p ks i k kept text at is =
    sym (ap (λ l. kept_slots i kept (slots_at p l text)) at
    ∙ ap (kept_slots i kept) (none_before p i kept (drop (i + 1) ks) (slot_number text (slot_front p k text)) is))

-- a scalar's name, as code reads it
pub scalar_is : (p : Tables) (k : ℕ) (info : ScalarInfo) (topic : TopicInfo) → MeetsTableRules p → k < length p.scalars → info ≡ get_or p.scalars k info
    → topic ≡ get_or p.topics info.topic topic → scalar_name p k ≡ topic.name ++ field_part info.field
scalar_is p k info topic rules lt is topic_is =
    let at = slice_get_read p.scalars (length p.scalars) k info refl lt is in
    let t = rules.typed.scalar_topic k info at in
    scalar_named p k info t.0 at t.1 ∙ ap (λ (x : TopicInfo). x.name ++ field_part info.field)
    (sym (get_or_from_slice_get p.topics info.topic t.0 topic t.1) ∙ sym topic_is)

-- .. stands in front if its two parts do
pub scalar_behind : (name field whole text : List ℕ) (o : Option (List ℕ)) → whole ≡ name ++ field → o ≡ behind name text
    → (o >>= behind field) ≡ behind whole text
scalar_behind name field whole text o is first = ap (λ x. x >>= behind field) first ∙ sym (behind_both name field text) ∙ ap (λ n. behind n text) (sym is)
