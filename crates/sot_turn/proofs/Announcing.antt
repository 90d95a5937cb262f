-- Announcing the length of the value in the slot keeps the rule.
use Rattle.std.proofs.Common.{◌≡◌, ◌≢◌, ℕ, true, List, length, slice_set, Some, true≢false, sym, refl, ap, ◌∙◌, subst, arith, length-set, get_or-set_other}
use Rattle.std.proofs.Common.{get_or-set_same}
use mathlib.Core.Option as maybe
use Rattle.atomic_table.specs.Table.{step, keeps, Allows}
use Rattle.sot_turn.specs.declared.turn.rule.View.{View}
use Rattle.sot_turn.specs.Prefixes.{IsPrefix}
use Rattle.sot_turn.specs.Views.{Table, Seated, drawn, served, IsAt, extended}
use Rattle.sot_turn.specs.Kept.{Kept, Fits}
use Rattle.sot_turn.specs.Steps.{announces}
use Rattle.sot_turn.proofs.PrefixLemmas.{IsPrefix-refl, IsPrefix-trans, All-map, some_is_not_none}
use Rattle.sot_turn.proofs.ViewLemmas.{new_at_place, EachView-set, HaveDistinctTickets-kept, HaveEachTicket-kept}
use Rattle.sot_turn.proofs.Homes.{out_is_not_home, one_taken}
use Rattle.sot_turn.proofs.Handing.{HasPutBack}
use Rattle.sot_turn.proofs.Parts.{Parts, kept_by_parts}

module _ {Ground Entry : Type 0} (common list : List Entry) (base : Ground) (tickets now : ℕ) where
  -- the announcer's view, once `list` is the common list
  announcer_fits : (old : View Ground Entry) (own : Ground) → old.own_ground ≡ Some own → IsPrefix old.seen list → Fits common base tickets now old →
      Fits list base tickets now (extended old list)
  announcer_fits old own has goes_on fits = record {
    has_ground = fits.has_ground;
    keeps_ground = fits.keeps_ground;
    has_seen = IsPrefix-refl list;
    keeps_lists =
        All-map (λ kept. IsPrefix kept old.seen) (λ kept. IsPrefix kept list) (λ kept shorter. IsPrefix-trans kept old.seen list shorter goes_on) old.kept_lists
        fits.keeps_lists;
    ticket_waits = fits.ticket_waits;
    turn_is_served = fits.turn_is_served;
    turn_has_seen = λ _. refl;
    spent_has_nothing = λ none. absurd (some_is_not_none own (sym has ∙ none));
  }

  -- another view, which has no turn
  other_fits : (view : View Ground Entry) → IsPrefix common list → (view.turn ≡ true → ⊥) → Fits common base tickets now view → Fits list base tickets now view
  other_fits view goes_on no_turn fits = record {
    has_ground = fits.has_ground;
    keeps_ground = fits.keeps_ground;
    has_seen = IsPrefix-trans view.seen common list fits.has_seen goes_on;
    keeps_lists = fits.keeps_lists;
    ticket_waits = fits.ticket_waits;
    turn_is_served = fits.turn_is_served;
    turn_has_seen = λ turn. absurd (no_turn turn);
    spent_has_nothing = fits.spent_has_nothing;
  }

-- the seat at `place` has the turn
module _ {Value Ground Entry : Type 0} (ground_of : Value → Ground) (entries_of : Value → List Entry)
    (table : Table Value Ground Entry) (rule : Kept ground_of entries_of table)
    (place : ℕ) (old : View Ground Entry) (at : IsAt table.views place old) (turn : old.turn ≡ true) where
  pub nobody_else : (i : ℕ) (view : View Ground Entry) → i ≢ place → IsAt table.views i view → view.turn ≡ true → ⊥
  nobody_else i view apart there also = apart (rule.one_turn i place view old there at also turn)

  -- its value's list becomes the common one
  announced_parts : (own : Ground) (list : List Entry) → old.own_ground ≡ Some own → IsPrefix old.seen list →
      Parts ground_of entries_of list rule.base (drawn table) (served table) table.homes (slice_set table.views place (extended old list))
  announced_parts own list has goes_on =
      let new : View Ground Entry = extended old list in
      let mine = rule.each_fits place old at in
      let from_common : IsPrefix rule.common list = subst (λ (seen : List Entry). IsPrefix seen list) (mine.turn_has_seen turn) goes_on in
      let out = rule.out_while_turn place old at turn in
      record {
        drawn_fits = rule.drawn_fits;
        served_at_most_drawn = rule.served_at_most_drawn;
        each_fits = EachView-set table.views place old new at (Fits list rule.base (drawn table) (served table))
            (announcer_fits rule.common list rule.base (drawn table) (served table) old own has goes_on mine)
            (λ i view apart there. other_fits rule.common list rule.base (drawn table) (served table) view from_common (nobody_else i view apart there)
            (rule.each_fits i view there));
        distinct = HaveDistinctTickets-kept table.views place old new at rule.distinct (λ _ same. same);
        each_ticket = HaveEachTicket-kept table.views place old new at (served table) (drawn table) rule.each_ticket refl;
        home_stands = λ value home. absurd (out_is_not_home table.homes value out home);
        home_unless_turn = λ nobody. absurd (true≢false (sym turn ∙ nobody place new (new_at_place table.views place old new at)));
        out_while_turn = λ i view there its. out;
      }

module _ {Value Ground Entry : Type 0} (ground_of : Value → Ground) (entries_of : Value → List Entry) where
  pub announces_keep : (slots place len : ℕ) (me : Seated Value Ground Entry) (value : Value) → HasPutBack ground_of entries_of value me
      → len ≡ length (entries_of value) →
      Allows (Kept ground_of entries_of) slots place me 2 (λ _. len) (λ _. announces entries_of (step slots 2 len 0 maybe.none) me len)
  announces_keep slots place len me value has is table rule _ at _ =
      let three = rule.three_words in
      let new : View Ground Entry = extended me.0 (entries_of value) in (
        new,
        keeps,
        tt,
        kept_by_parts ground_of entries_of (entries_of value) rule.base (drawn table) (served table) (slice_set table.words 2 len) table.homes
            (slice_set table.views place new)
            (length-set table.words 2 len ∙ three)
            (get_or-set_other table.words 2 0 len 0 (λ e. omega arith))
            (get_or-set_other table.words 2 1 len 0 (λ e. omega arith))
            (get_or-set_same table.words 2 len 0 (omega arith) ∙ is)
            (announced_parts ground_of entries_of table rule place me.0 at has.turn (ground_of value) (entries_of value) has.own has.goes_on),
        (λ other also. ap (λ (v : Value). (extended me.0 (entries_of v), me.1)) (one_taken me.1 value other has.slot also)),
      )
