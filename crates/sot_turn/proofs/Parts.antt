-- The rule, from what it says of any two numbers that words 0 and 1 are.
use Rattle.std.proofs.Common.{◌≡◌, ℕ, ◌^◌, ◌<◌, ◌≤◌, true, false, List, length, slice_index, All, Some, None, true≢false, sym, ◌∙◌, subst}
use Rattle.sot_turn.specs.declared.turn.rule.View.{View}
use Rattle.sot_turn.specs.Prefixes.{IsPrefix}
use Rattle.sot_turn.specs.Views.{EachView, HaveDistinctTickets, HaveEachTicket, NobodyHasTurn}
use Rattle.sot_turn.specs.Kept.{Kept, Fits, Homes, IsHome, IsOut}
use Rattle.sot_turn.proofs.PrefixLemmas.{some_is_not_none}
use Rattle.sot_turn.proofs.ViewLemmas.{HaveOneTurn-served}

-- what a view with no ticket and no turn needs
pub Fits-idle : {Ground Entry : Type 0} (common : List Entry) (base own : Ground) (tickets now : ℕ) (view : View Ground Entry) →
    view.ticket ≡ None → view.turn ≡ false → view.own_ground ≡ Some own →
    ((g : Ground) → view.own_ground ≡ Some g → g ≡ base) → All (λ kept. kept ≡ base) view.kept_grounds →
    IsPrefix view.seen common → All (λ kept. IsPrefix kept view.seen) view.kept_lists → Fits common base tickets now view
Fits-idle common base own tickets now view no_ticket no_turn has has_ground keeps_ground has_seen keeps_lists = record {
  has_ground = has_ground;
  keeps_ground = keeps_ground;
  has_seen = has_seen;
  keeps_lists = keeps_lists;
  ticket_waits = λ ticket its. absurd (some_is_not_none ticket (sym its ∙ no_ticket));
  turn_is_served = λ turn. absurd (true≢false (sym turn ∙ no_turn));
  turn_has_seen = λ turn. absurd (true≢false (sym turn ∙ no_turn));
  spent_has_nothing = λ none. absurd (some_is_not_none own (sym has ∙ none));
}

module _ {Value Ground Entry : Type 0} (ground_of : Value → Ground) (entries_of : Value → List Entry) where
  -- the rule without its words
  pub record Parts (common : List Entry) (base : Ground) (tickets now : ℕ) (homes : Homes Value) (views : List (View Ground Entry)) : Type 0 where
    pub drawn_fits : tickets < 2 ^ 64
    pub served_at_most_drawn : now ≤ tickets
    pub each_fits : EachView views (Fits common base tickets now)
    pub distinct : HaveDistinctTickets views
    pub each_ticket : HaveEachTicket views now tickets
    pub home_stands : (value : Value) → IsHome homes value → (ground_of value ≡ base) × (entries_of value ≡ common)
    pub home_unless_turn : NobodyHasTurn views → (value : Value) × IsHome homes value
    pub out_while_turn : EachView views (λ view. view.turn ≡ true → IsOut homes)

  pub kept_by_parts : (common : List Entry) (base : Ground) (tickets now : ℕ) (words : List ℕ) (homes : Homes Value) (views : List (View Ground Entry)) →
      length words ≡ 3 → slice_index words 0 ≡ tickets → slice_index words 1 ≡ now → slice_index words 2 ≡ length common →
      Parts common base tickets now homes views →
      Kept ground_of entries_of record { words = words; homes = homes; views = views }
  kept_by_parts common base tickets now words homes views three is_drawn is_served announced parts =
      let here : Parts common base (slice_index words 0) (slice_index words 1) homes views =
      subst (λ (x : ℕ × ℕ). Parts common base x.0 x.1 homes views) (λ i. (sym is_drawn i, sym is_served i)) parts in
      record {
        common = common;
        base = base;
        three_words = three;
        drawn_fits = here.drawn_fits;
        served_at_most_drawn = here.served_at_most_drawn;
        length_is_announced = announced;
        each_fits = here.each_fits;
        distinct = here.distinct;
        each_ticket = here.each_ticket;
        one_turn = HaveOneTurn-served views (slice_index words 1) (λ i view there. (here.each_fits i view there).turn_is_served) here.distinct;
        home_stands = here.home_stands;
        home_unless_turn = here.home_unless_turn;
        out_while_turn = here.out_while_turn;
      }
