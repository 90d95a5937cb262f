-- Passing the turn keeps the rule.
use Rattle.std.proofs.Common.{◌≡◌, ◌≢◌, ℕ, ◌+◌, ◌%◌, ◌^◌, ◌<◌, true, false, List, length, slice_set, Option, Some, None, true≢false, sym, refl, ap, ◌∙◌, subst}
use Rattle.std.proofs.Common.{inr, arith, length-set, get_or-set_other, get_or-set_same, mod-eq_of_lt}
use mathlib.Core.Option as maybe
use Rattle.atomic_table.specs.Table.{step, gives, put_back, Allows}
use Rattle.sot_turn.specs.declared.turn.rule.View.{View}
use Rattle.sot_turn.specs.Views.{Table, Seated, drawn, served, IsAt}
use Rattle.sot_turn.specs.Kept.{Kept, Fits, IsOut}
use Rattle.sot_turn.specs.Steps.{passes}
use Rattle.sot_turn.proofs.PrefixLemmas.{some_same, some_is_not_none}
use Rattle.sot_turn.proofs.ViewLemmas.{EachView-set, HaveDistinctTickets-kept, HaveEachTicket-set}
use Rattle.sot_turn.proofs.Homes.{one_at_home, IsHome-given}
use Rattle.sot_turn.proofs.Handing.{HasAnnounced}
use Rattle.sot_turn.proofs.Parts.{Parts, Fits-idle, kept_by_parts}
use Rattle.sot_turn.proofs.Announcing.{nobody_else}

module _ {Ground Entry : Type 0} (common : List Entry) (base : Ground) (tickets now : ℕ) where
  -- another view, whose ticket is not the one that was served
  other_fits : (view : View Ground Entry) → (view.ticket ≡ Some now → ⊥) → (view.turn ≡ true → ⊥) → Fits common base tickets now view
      → Fits common base tickets (now + 1) view
  other_fits view not_served no_turn fits = record {
    has_ground = fits.has_ground;
    keeps_ground = fits.keeps_ground;
    has_seen = fits.has_seen;
    keeps_lists = fits.keeps_lists;
    ticket_waits = λ ticket has.
        (let waits = fits.ticket_waits ticket has in let apart : ticket ≢ now = λ same. not_served (has ∙ ap Some same) in (omega arith, waits.1));
    turn_is_served = λ turn. absurd (no_turn turn);
    turn_has_seen = λ turn. absurd (no_turn turn);
    spent_has_nothing = fits.spent_has_nothing;
  }

-- the seat at `place` has the turn and gives the slot back with the value, whose list is announced
module _ {Value Ground Entry : Type 0} (ground_of : Value → Ground) (entries_of : Value → List Entry)
    (table : Table Value Ground Entry) (rule : Kept ground_of entries_of table)
    (place : ℕ) (old : View Ground Entry) (at : IsAt table.views place old) (turn : old.turn ≡ true)
    (value : Value) (has : old.own_ground ≡ Some (ground_of value)) (all : old.seen ≡ entries_of value) where
  abbrev new : View Ground Entry
  new = record old { ticket = None; turn = false }

  mine : Fits rule.common rule.base (drawn table) (served table) old
  mine = rule.each_fits place old at

  passer_fits : Fits rule.common rule.base (drawn table) (served table + 1) new
  passer_fits =
      Fits-idle rule.common rule.base (ground_of value) (drawn table) (served table + 1) new refl refl has mine.has_ground mine.keeps_ground mine.has_seen
      mine.keeps_lists

  others_fit : (i : ℕ) (view : View Ground Entry) → i ≢ place → IsAt table.views i view → Fits rule.common rule.base (drawn table) (served table + 1) view
  others_fit i view apart there =
      other_fits rule.common rule.base (drawn table) (served table) view
      (λ its. apart (rule.distinct i place (served table) view old there at its (mine.turn_is_served turn)))
      (nobody_else ground_of entries_of table rule place old at turn i view apart there)
      (rule.each_fits i view there)

  value_stands : (ground_of value ≡ rule.base) × (entries_of value ≡ rule.common)
  value_stands = (mine.has_ground (ground_of value) has, sym all ∙ mine.turn_has_seen turn)

  passed_parts : length table.homes ≡ 1 →
      Parts ground_of entries_of rule.common rule.base (drawn table) (served table + 1) (slice_set table.homes 0 (maybe.some (Some value)))
      (slice_set table.views place new)
  passed_parts one =
      let home = IsHome-given table.homes value one in
      let ticket = mine.turn_is_served turn in
      record {
        drawn_fits = rule.drawn_fits;
        served_at_most_drawn = (let below = (mine.ticket_waits (served table) ticket).1 in omega arith);
        each_fits = EachView-set table.views place old new at (Fits rule.common rule.base (drawn table) (served table + 1)) passer_fits others_fit;
        distinct = HaveDistinctTickets-kept table.views place old new at rule.distinct (λ other its. absurd (some_is_not_none other (sym its)));
        each_ticket = HaveEachTicket-set table.views place old new at (served table) (drawn table) (served table + 1) (drawn table) rule.each_ticket
            (λ other low high. inr (
              omega arith,
              high,
              (λ its. (let same : served table ≡ other = some_same (served table) other (sym ticket ∙ its) in
                  omega arith)),
            ));
        home_stands = λ other is_home.
            (let same = one_at_home (slice_set table.homes 0 (maybe.some (Some value))) value other home is_home in
            (ap ground_of (sym same) ∙ value_stands.0, ap entries_of (sym same) ∙ value_stands.1));
        home_unless_turn = λ nobody. (value, home);
        out_while_turn = EachView-set table.views place old new at (λ view. view.turn ≡ true → IsOut (slice_set table.homes 0 (maybe.some (Some value))))
            (λ its. absurd (true≢false (sym its)))
            (λ i view apart there its. absurd (nobody_else ground_of entries_of table rule place old at turn i view apart there its));
      }

  passed_kept : length table.homes ≡ 1 →
      Kept ground_of entries_of record {
        words = slice_set table.words 1 ((served table + 1) % 2 ^ 64);
        homes = slice_set table.homes 0 (maybe.some (Some value));
        views = slice_set table.views place new;
      }
  passed_kept one =
      let three = rule.three_words in
      let small = rule.drawn_fits in
      let below = (mine.ticket_waits (served table) (mine.turn_is_served turn)).1 in
      let next : ℕ = (served table + 1) % 2 ^ 64 in
      let up : next ≡ served table + 1 = mod-eq_of_lt (let within : served table + 1 < 2 ^ 64 = omega arith in within) in
      kept_by_parts ground_of entries_of rule.common rule.base (drawn table) (served table + 1) (slice_set table.words 1 next)
      (slice_set table.homes 0 (maybe.some (Some value))) (slice_set table.views place new)
      (length-set table.words 1 next ∙ three)
      (get_or-set_other table.words 1 0 next 0 (λ e. omega arith))
      (get_or-set_same table.words 1 next 0 (omega arith) ∙ up)
      (get_or-set_other table.words 1 2 next 0 (λ e. omega arith) ∙ rule.length_is_announced)
      (passed_parts one)

module _ {Value Ground Entry : Type 0} (ground_of : Value → Ground) (entries_of : Value → List Entry) where
  pub passes_keep : (slots place : ℕ) (me : Seated Value Ground Entry) (value : Value) → slots ≡ 1 → HasAnnounced ground_of entries_of value me →
      Allows (Kept ground_of entries_of) slots place me 1 (λ n. (n + 1) % 2 ^ 64) (passes (step slots 1 1 0 maybe.none) me)
  passes_keep slots place me value one has table rule long at _ =
      let new : View Ground Entry = record me.0 { ticket = None; turn = false } in (
        new,
        gives,
        tt,
        subst
            (λ (taken : List (ℕ × Option Value)). Kept ground_of entries_of record
            { words = slice_set table.words 1 ((served table + 1) % 2 ^ 64); homes = put_back table.homes taken; views = slice_set table.views place new })
            (sym has.slot)
            (passed_kept ground_of entries_of table rule place me.0 at has.turn value has.own has.all_seen (long ∙ one)),
        refl,
      )
