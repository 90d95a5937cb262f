-- Splitting a seat keeps the rule.
use Rattle.std.proofs.Common.{◌≡◌, ℕ, true, List, [], ◌∷◌, ◌++◌, Some, None, IsSome, true≢false, sym, refl, ap, ◌∙◌, subst, ⊎_elim}
use Rattle.atomic_table.specs.Table.{Splits}
use Rattle.atomic_table.proofs.Lists.{set_again, at_snoc, at_longer}
use Rattle.sot_turn.specs.declared.turn.rule.View.{View}
use Rattle.sot_turn.specs.Views.{Table, drawn, served, IsAt, EachView, idle}
use Rattle.sot_turn.specs.Kept.{Kept, Fits, IsOut}
use Rattle.sot_turn.proofs.PrefixLemmas.{All-none, has_some, some_is_not_none}
use Rattle.sot_turn.proofs.Parts.{Parts, Fits-idle, kept_by_parts}

module _ {Ground Entry : Type 0} (views : List (View Ground Entry)) (added : View Ground Entry) where
  -- what holds of the added view and held of each other one
  EachView-added : (Holds : View Ground Entry → Type 0) → Holds added → EachView views Holds → EachView (views ++ added ∷ []) Holds
  EachView-added Holds mine others i view there =
      ⊎_elim (others i view) (λ (is : added ≡ view). subst Holds is mine) (at_snoc views added view i there)

  -- a view with a ticket was there before, if the added one has none
  was_there : added.ticket ≡ None → (i ticket : ℕ) (view : View Ground Entry) → IsAt (views ++ added ∷ []) i view → view.ticket ≡ Some ticket
      → IsAt views i view
  was_there none i ticket view there has =
      ⊎_elim
      (λ before. before)
      (λ (is : added ≡ view). absurd (some_is_not_none ticket (sym has ∙ (ap (λ (v : View Ground Entry). v.ticket) (sym is) ∙ none))))
      (at_snoc views added view i there)

module _ {Value Ground Entry : Type 0} (ground_of : Value → Ground) (entries_of : Value → List Entry)
    (table : Table Value Ground Entry) (rule : Kept ground_of entries_of table)
    (place : ℕ) (old : View Ground Entry) (at : IsAt table.views place old) (grounded : IsSome old.own_ground) where
  abbrev new : View Ground Entry
  new = idle old.own_ground old.seen

  new_fits : Fits rule.common rule.base (drawn table) (served table) new
  new_fits =
      let fits = rule.each_fits place old at in
      let has = has_some old.own_ground grounded in
      Fits-idle rule.common rule.base has.0 (drawn table) (served table) new refl refl has.1 fits.has_ground (All-none _) fits.has_seen (All-none _)

  split_parts : Parts ground_of entries_of rule.common rule.base (drawn table) (served table) table.homes (table.views ++ new ∷ [])
  split_parts = let was = was_there table.views new refl in record {
    drawn_fits = rule.drawn_fits;
    served_at_most_drawn = rule.served_at_most_drawn;
    each_fits = EachView-added table.views new (Fits rule.common rule.base (drawn table) (served table)) new_fits rule.each_fits;
    distinct =
        λ i j ticket view other one two its others. rule.distinct i j ticket view other (was i ticket view one its) (was j ticket other two others) its others;
    each_ticket = λ ticket low high.
        (let found = rule.each_ticket ticket low high in (found.0, found.1, at_longer table.views (new ∷ []) found.0 found.1 found.2, found.3));
    home_stands = rule.home_stands;
    home_unless_turn = λ nobody. rule.home_unless_turn (λ i view there. nobody i view (at_longer table.views (new ∷ []) i view there));
    out_while_turn = EachView-added table.views new (λ view. view.turn ≡ true → IsOut table.homes) (λ turn. absurd (true≢false (sym turn))) rule.out_while_turn;
  }

module _ {Value Ground Entry : Type 0} (ground_of : Value → Ground) (entries_of : Value → List Entry) where
  pub splits_keep : (place : ℕ) (old : View Ground Entry) → IsSome old.own_ground
      → Splits (Kept ground_of entries_of) place old old (idle old.own_ground old.seen)
  splits_keep place old grounded table rule at =
      subst (λ (views : List (View Ground Entry)). Kept ground_of entries_of record
      { words = table.words; homes = table.homes; views = views ++ idle old.own_ground old.seen ∷ [] })
      (sym (set_again table.views place old at))
      (kept_by_parts ground_of entries_of rule.common rule.base (drawn table) (served table) table.words table.homes
      (table.views ++ idle old.own_ground old.seen ∷ [])
      rule.three_words refl refl rule.length_is_announced (split_parts ground_of entries_of table rule place old at grounded))
