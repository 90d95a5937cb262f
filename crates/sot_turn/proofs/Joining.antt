-- Joining a seat to another keeps the rule.
use Rattle.std.proofs.Common.{◌≡◌, ℕ, true, false, List, slice_set, All, Option, Some, None, IsSome, true≢false, sym, refl, ap, ◌∙◌, subst, arith}
use Rattle.atomic_table.specs.Table.{Joins}
use Rattle.atomic_table.proofs.Lists.{set_else}
use Rattle.sot_turn.specs.declared.turn.rule.View.{View}
use Rattle.sot_turn.specs.Prefixes.{IsPrefix}
use Rattle.sot_turn.specs.Views.{Table, drawn, served, IsAt, spent, joined, longer, list_of}
use Rattle.sot_turn.specs.Kept.{Kept, Fits, IsOut}
use Rattle.sot_turn.specs.Places.{IsIdle}
use Rattle.sot_turn.proofs.PrefixLemmas.{IsPrefix-longer, All-none, All-one, All-two, has_some, some_is_not_none}
use Rattle.sot_turn.proofs.ViewLemmas.{EachView-set, HaveDistinctTickets-kept, HaveEachTicket-kept, nobody_before}
use Rattle.sot_turn.proofs.Parts.{Parts, Fits-idle, kept_by_parts}

module _ {Ground Entry : Type 0} (common : List Entry) (base : Ground) (tickets now : ℕ) where
  -- the view that takes in the other
  joined_fits : (view other : View Ground Entry) → IsIdle view → IsIdle other → Fits common base tickets now view → Fits common base tickets now other
      → Fits common base tickets now (joined view other)
  joined_fits view other idle other_idle fits other_fits =
      let has = has_some view.own_ground idle.2 in
      let other_has = has_some other.own_ground other_idle.2 in
      let both = IsPrefix-longer view.seen other.seen common fits.has_seen other_fits.has_seen in
      Fits-idle common base has.0 tickets now (joined view other) refl refl has.1
      fits.has_ground
      (subst (λ (own : Option Ground). All (λ kept. kept ≡ base) (list_of own)) (sym other_has.1)
      (All-one (λ kept. kept ≡ base) other_has.0 (other_fits.has_ground other_has.0 other_has.1)))
      both.0
      (All-two (λ kept. IsPrefix kept (longer view.seen other.seen)) view.seen other.seen both.1 both.2)

  spent_fits : Fits common base tickets now spent
  spent_fits = record {
    has_ground = λ own has. absurd (some_is_not_none own (sym has));
    keeps_ground = All-none _;
    has_seen = (common, refl);
    keeps_lists = All-none _;
    ticket_waits = λ ticket its. absurd (some_is_not_none ticket (sym its));
    turn_is_served = λ turn. absurd (true≢false (sym turn));
    turn_has_seen = λ turn. absurd (true≢false (sym turn));
    spent_has_nothing = λ _. refl;
  }

-- one view with no ticket and no turn becomes another such view
module _ {Value Ground Entry : Type 0} (ground_of : Value → Ground) (entries_of : Value → List Entry)
    (table : Table Value Ground Entry) (rule : Kept ground_of entries_of table)
    (place : ℕ) (old new : View Ground Entry) (at : IsAt table.views place old) where
  idle_parts : old.ticket ≡ None → old.turn ≡ false → new.ticket ≡ None → new.turn ≡ false → Fits rule.common rule.base (drawn table) (served table) new →
      Parts ground_of entries_of rule.common rule.base (drawn table) (served table) table.homes (slice_set table.views place new)
  idle_parts no_ticket no_turn no_ticket_now no_turn_now fits = record {
    drawn_fits = rule.drawn_fits;
    served_at_most_drawn = rule.served_at_most_drawn;
    each_fits =
        EachView-set table.views place old new at (Fits rule.common rule.base (drawn table) (served table)) fits
        (λ i view _ there. rule.each_fits i view there);
    distinct = HaveDistinctTickets-kept table.views place old new at rule.distinct (λ ticket its. absurd (some_is_not_none ticket (sym its ∙ no_ticket_now)));
    each_ticket = HaveEachTicket-kept table.views place old new at (served table) (drawn table) rule.each_ticket (no_ticket_now ∙ sym no_ticket);
    home_stands = rule.home_stands;
    home_unless_turn = λ nobody. rule.home_unless_turn (nobody_before table.views place old new at (no_turn_now ∙ sym no_turn) nobody);
    out_while_turn = EachView-set table.views place old new at (λ view. view.turn ≡ true → IsOut table.homes)
        (λ turn. absurd (true≢false (sym turn ∙ no_turn_now)))
        (λ i view _ there. rule.out_while_turn i view there);
  }

  idle_kept : old.ticket ≡ None → old.turn ≡ false → new.ticket ≡ None → new.turn ≡ false → Fits rule.common rule.base (drawn table) (served table) new →
      Kept ground_of entries_of record { words = table.words; homes = table.homes; views = slice_set table.views place new }
  idle_kept no_ticket no_turn no_ticket_now no_turn_now fits =
      kept_by_parts ground_of entries_of rule.common rule.base (drawn table) (served table) table.words table.homes (slice_set table.views place new)
      rule.three_words refl refl rule.length_is_announced (idle_parts no_ticket no_turn no_ticket_now no_turn_now fits)

module _ {Value Ground Entry : Type 0} (ground_of : Value → Ground) (entries_of : Value → List Entry) where
  pub joins_keep : (place : ℕ) (view : View Ground Entry) (other_place : ℕ) (other : View Ground Entry) → IsIdle view → IsIdle other →
      Joins (Kept ground_of entries_of) place view other_place other (joined view other) spent
  joins_keep place view other_place other idle other_idle table rule at apart there =
      let both : View Ground Entry = joined view other in
      let was : IsAt table.views other_place other = sym (set_else table.views place other_place both apart) ∙ there in
      let fits = joined_fits rule.common rule.base (drawn table) (served table) view other idle other_idle (rule.each_fits place view at)
      (rule.each_fits other_place other was) in
      let between : Table Value Ground Entry = record { words = table.words; homes = table.homes; views = slice_set table.views place both } in
      let between_rule : Kept ground_of entries_of between = idle_kept ground_of entries_of table rule place view both at idle.0 idle.1 refl refl fits in
      idle_kept ground_of entries_of between between_rule other_place other spent there other_idle.0 other_idle.1 refl refl
      (spent_fits between_rule.common between_rule.base (drawn between) (served between))

-- the one ground that is kept is the seat's own
kept_is_own : {Ground : Type 0} (own : Ground) (kept : Option Ground) → IsSome kept → All (λ g. g ≡ own) (list_of kept) → kept ≡ Some own
kept_is_own own None has all = absurd (cc)
kept_is_own own (Some g) has all = ap Some (all 0 g (omega arith))

-- what a look tells of the grounds after a join
pub one_ground : {Ground Entry : Type 0} (view other now : View Ground Entry) → IsIdle view → IsIdle other → now ≡ joined view other →
    ((own : Ground) → now.own_ground ≡ Some own → All (λ kept. kept ≡ own) now.kept_grounds) →
    (now.own_ground ≡ view.own_ground) × (now.own_ground ≡ other.own_ground)
one_ground {Ground} {Entry} view other now idle other_idle is =
    let has = has_some view.own_ground idle.2 in
    subst
    (λ (v : View Ground Entry). ((own : Ground) → v.own_ground ≡ Some own → All (λ kept. kept ≡ own) v.kept_grounds)
    → (v.own_ground ≡ view.own_ground) × (v.own_ground ≡ other.own_ground))
    (sym is)
    (λ told. (refl, has.1 ∙ sym (kept_is_own has.0 other.own_ground other_idle.2 (told has.0 has.1))))
