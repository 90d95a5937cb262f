-- Drawing a ticket keeps the rule.
use Rattle.std.proofs.Common.{◌≡◌, ◌≢◌, ℕ, ◌+◌, ◌^◌, ◌<◌, ◌≤◌, ◌==◌, true, List, slice_index, slice_set, Option, Some, true≢false, sym, refl, ap, ◌∙◌, subst}
use Rattle.std.proofs.Common.{inl, inr, arith, length-set, get_or-set_other, get_or-set_same}
use mathlib.Core.Logic.{dite}
use mathlib.Core.Option as maybe
use native.Mathlib.Decide.{ℕ_discrete}
use lib.Seq.{set-get_or}
use prog.Atomic.{either}
use Rattle.atomic_table.specs.Table.{step, keeps, stepped, Allows}
use Rattle.atomic_table.proofs.Lists.{set_again, exchanged}
use Rattle.sot_turn.specs.declared.turn.rule.View.{View}
use Rattle.sot_turn.specs.Views.{Table, Seated, drawn, served, IsAt}
use Rattle.sot_turn.specs.Kept.{Kept, Fits, IsOut}
use Rattle.sot_turn.specs.Steps.{draws}
use Rattle.sot_turn.specs.Places.{IsIdle}
use Rattle.sot_turn.proofs.PrefixLemmas.{has_some, some_same, some_is_not_none}
use Rattle.sot_turn.proofs.ViewLemmas.{EachView-set, HaveDistinctTickets-set, HaveEachTicket-set, nobody_before}
use Rattle.sot_turn.proofs.Parts.{Parts, kept_by_parts}

module _ {Ground Entry : Type 0} (common : List Entry) (base : Ground) (tickets now : ℕ) where
  abbrev with_ticket : View Ground Entry → ℕ → View Ground Entry
  with_ticket view ticket = record view { ticket = Some ticket }

  -- the view after its draw
  drawer_fits : (old : View Ground Entry) → IsIdle old → now ≤ tickets → Fits common base tickets now old
      → Fits common base (tickets + 1) now (with_ticket old tickets)
  drawer_fits old idle low fits = let has = has_some old.own_ground idle.2 in record {
    has_ground = fits.has_ground;
    keeps_ground = fits.keeps_ground;
    has_seen = fits.has_seen;
    keeps_lists = fits.keeps_lists;
    ticket_waits = λ other its. (let same : tickets ≡ other = some_same tickets other its in (omega arith, omega arith));
    turn_is_served = λ turn. absurd (true≢false (sym turn ∙ idle.1));
    turn_has_seen = λ turn. absurd (true≢false (sym turn ∙ idle.1));
    spent_has_nothing = λ none. absurd (some_is_not_none has.0 (sym has.1 ∙ none));
  }

  -- the other views after it
  other_fits : (view : View Ground Entry) → Fits common base tickets now view → Fits common base (tickets + 1) now view
  other_fits view fits = record {
    has_ground = fits.has_ground;
    keeps_ground = fits.keeps_ground;
    has_seen = fits.has_seen;
    keeps_lists = fits.keeps_lists;
    ticket_waits = λ ticket has. (let waits = fits.ticket_waits ticket has in (waits.0, omega arith));
    turn_is_served = fits.turn_is_served;
    turn_has_seen = fits.turn_has_seen;
    spent_has_nothing = fits.spent_has_nothing;
  }

module _ {Value Ground Entry : Type 0} (ground_of : Value → Ground) (entries_of : Value → List Entry) where
  -- a step that changes no word and no view
  pub unmoved : (table : Table Value Ground Entry) (rule : Kept ground_of entries_of table) (word place : ℕ) (taken : List (ℕ × Option Value))
      (view : View Ground Entry) →
      IsAt table.views place view → Kept ground_of entries_of (stepped table word (slice_index table.words word) place taken view keeps)
  unmoved table rule word place taken view at =
      subst (λ (x : List ℕ × List (View Ground Entry)). Kept ground_of entries_of record { words = x.0; homes = table.homes; views = x.1 })
      (λ i. (sym (set-get_or table.words word 0) i, sym (set_again table.views place view at) i)) rule

-- the seat at `place` draws the number that word 0 is
module _ {Value Ground Entry : Type 0} (ground_of : Value → Ground) (entries_of : Value → List Entry)
    (table : Table Value Ground Entry) (rule : Kept ground_of entries_of table)
    (place : ℕ) (old : View Ground Entry) (at : IsAt table.views place old) (idle : IsIdle old) (fits : drawn table + 1 < 2 ^ 64) where
  abbrev new : View Ground Entry
  new = record old { ticket = Some (drawn table) }

  new_ticket_is_fresh : (i ticket : ℕ) (view : View Ground Entry) → i ≢ place → IsAt table.views i view → view.ticket ≡ Some ticket → new.ticket ≡ Some ticket
      → ⊥
  new_ticket_is_fresh i ticket view apart there has new_has =
      let same : drawn table ≡ ticket = some_same (drawn table) ticket new_has in
      let waits = (rule.each_fits i view there).ticket_waits ticket has in
      omega arith

  drawn_parts : Parts ground_of entries_of rule.common rule.base (drawn table + 1) (served table) table.homes (slice_set table.views place new)
  drawn_parts =
      let low = rule.served_at_most_drawn in
      record {
        drawn_fits = fits;
        served_at_most_drawn = omega arith;
        each_fits = EachView-set table.views place old new at (Fits rule.common rule.base (drawn table + 1) (served table))
            (drawer_fits rule.common rule.base (drawn table) (served table) old idle low (rule.each_fits place old at))
            (λ i view _ there. other_fits rule.common rule.base (drawn table) (served table) view (rule.each_fits i view there));
        distinct = HaveDistinctTickets-set table.views place old new at rule.distinct new_ticket_is_fresh;
        each_ticket = HaveEachTicket-set table.views place old new at (served table) (drawn table) (served table) (drawn table + 1) rule.each_ticket
            (λ ticket above below. dite (ℕ_discrete (drawn table) ticket)
            (λ (is : drawn table ≡ ticket). inl (ap Some is))
            (λ (is_not : drawn table ≢ ticket). inr (above, omega arith, (λ had. some_is_not_none ticket (sym had ∙ idle.0)))));
        home_stands = rule.home_stands;
        home_unless_turn = λ nobody. rule.home_unless_turn (nobody_before table.views place old new at refl nobody);
        out_while_turn = EachView-set table.views place old new at (λ view. view.turn ≡ true → IsOut table.homes)
            (rule.out_while_turn place old at) (λ i view _ there. rule.out_while_turn i view there);
      }

  drawn_kept : (taken : List (ℕ × Option Value)) → Kept ground_of entries_of (stepped table 0 (drawn table + 1) place taken new keeps)
  drawn_kept taken =
      let three = rule.three_words in
      kept_by_parts ground_of entries_of rule.common rule.base (drawn table + 1) (served table) (slice_set table.words 0 (drawn table + 1)) table.homes
      (slice_set table.views place new)
      (length-set table.words 0 (drawn table + 1) ∙ three)
      (get_or-set_same table.words 0 (drawn table + 1) 0 (omega arith))
      (get_or-set_other table.words 0 1 (drawn table + 1) 0 (λ e. omega arith))
      (get_or-set_other table.words 0 2 (drawn table + 1) 0 (λ e. omega arith) ∙ rule.length_is_announced)
      drawn_parts

module _ {Value Ground Entry : Type 0} (ground_of : Value → Ground) (entries_of : Value → List Entry) where
  -- the same at the number that was expected
  drawn_as_expected : (table : Table Value Ground Entry) (rule : Kept ground_of entries_of table) (place ticket : ℕ) (taken : List (ℕ × Option Value))
      (old : View Ground Entry) →
      IsAt table.views place old → IsIdle old → ticket + 1 < 2 ^ 64 → drawn table ≡ ticket →
      Kept ground_of entries_of (stepped table 0 (ticket + 1) place taken (record old { ticket = Some ticket }) keeps)
  drawn_as_expected table rule place ticket taken old at idle fits is =
      subst (λ (n : ℕ). Kept ground_of entries_of (stepped table 0 (n + 1) place taken (record old { ticket = Some n }) keeps)) is
      (drawn_kept ground_of entries_of table rule place old at idle (subst (λ (n : ℕ). n + 1 < 2 ^ 64) (sym is) fits) taken)

  pub draws_keep : (slots place ticket : ℕ) (me : Seated Value Ground Entry) → IsIdle me.0 → ticket + 1 < 2 ^ 64 →
      Allows (Kept ground_of entries_of) slots place me 0 (λ n. either (n == ticket) (ticket + 1) n) (draws (step slots 0 ticket (ticket + 1) maybe.none) me)
  draws_keep slots place ticket me idle fits table rule _ at _ =
      dite (ℕ_discrete (drawn table) ticket)
      (λ hit. (
        record me.0 { ticket = Some ticket },
        keeps,
        tt,
        exchanged (drawn table) ticket (ticket + 1) (λ n. Kept ground_of entries_of (stepped table 0 n place me.1 (record me.0 { ticket = Some ticket }) keeps))
            (λ _. drawn_as_expected table rule place ticket me.1 me.0 at idle fits hit)
            (λ miss. absurd (miss hit)),
        ((λ _. ap (λ (n : ℕ). (record me.0 { ticket = Some n }, me.1)) (sym hit)), (λ miss. absurd (miss hit))),
      ))
      (λ miss. (
        me.0,
        keeps,
        tt,
        exchanged (drawn table) ticket (ticket + 1) (λ n. Kept ground_of entries_of (stepped table 0 n place me.1 me.0 keeps))
            (λ hit. absurd (miss hit))
            (λ _. unmoved ground_of entries_of table rule 0 place me.1 me.0 at),
        ((λ hit. absurd (miss hit)), (λ _. refl)),
      ))
