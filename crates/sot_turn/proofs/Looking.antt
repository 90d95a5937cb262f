-- Looking at the word served keeps the rule.
use Rattle.std.proofs.Common.{◌≡◌, ℕ, true, false, List, length, slice_set, All, Option, Some, IsSome, true≢false, sym, refl, ap, ◌∙◌, subst}
use Rattle.std.proofs.lemmas.Bool.{false_from_ne_true}
use mathlib.Core.Logic.{dite}
use mathlib.Core.Option as maybe
use lib.Seq.{set-get_or}
use Rattle.atomic_table.specs.Table.{step, keeps, takes, stepped, Allows}
use Rattle.sot_turn.specs.declared.turn.rule.View.{View}
use Rattle.sot_turn.specs.Prefixes.{IsPrefix}
use Rattle.sot_turn.specs.Views.{Table, Seated, drawn, served, IsAt, NobodyHasTurn}
use Rattle.sot_turn.specs.Kept.{Kept, Fits}
use Rattle.sot_turn.specs.Steps.{looks}
use Rattle.sot_turn.proofs.PrefixLemmas.{IsPrefix-refl, IsPrefix-trans, All-map, has_some, some_is_not_none}
use Rattle.sot_turn.proofs.ViewLemmas.{IsAt-same, new_at_place, EachView-set, HaveDistinctTickets-kept, HaveEachTicket-kept, has_ticket}
use Rattle.sot_turn.proofs.Homes.{out_is_not_home, IsOut-taken}
use Rattle.sot_turn.proofs.Parts.{Parts, kept_by_parts}
use Rattle.sot_turn.proofs.Drawing.{unmoved}

module _ {Ground Entry : Type 0} (common : List Entry) (base : Ground) (tickets now : ℕ) where
  -- the view after it was served, where the list at home is the common one
  served_fits : (old : View Ground Entry) → old.ticket ≡ Some now → IsSome old.own_ground → Fits common base tickets now old →
      Fits common base tickets now (record old { turn = true; seen = common })
  served_fits old ticket grounded fits = let has = has_some old.own_ground grounded in record {
    has_ground = fits.has_ground;
    keeps_ground = fits.keeps_ground;
    has_seen = IsPrefix-refl common;
    keeps_lists =
        All-map (λ kept. IsPrefix kept old.seen) (λ kept. IsPrefix kept common) (λ kept shorter. IsPrefix-trans kept old.seen common shorter fits.has_seen)
        old.kept_lists fits.keeps_lists;
    ticket_waits = fits.ticket_waits;
    turn_is_served = λ _. ticket;
    turn_has_seen = λ _. refl;
    spent_has_nothing = λ none. absurd (some_is_not_none has.0 (sym has.1 ∙ none));
  }

  -- what any look tells of a view
  known_of : (view : View Ground Entry) → Fits common base tickets now view →
      All (λ kept. IsPrefix kept view.seen) view.kept_lists × ((own : Ground) → view.own_ground ≡ Some own → All (λ kept. kept ≡ own) view.kept_grounds)
  known_of view fits = (
    fits.keeps_lists,
    (λ own has. All-map (λ kept. kept ≡ base) (λ kept. kept ≡ own) (λ kept is. is ∙ sym (fits.has_ground own has)) view.kept_grounds fits.keeps_ground),
  )

-- the seat at `place` finds its ticket served
module _ {Value Ground Entry : Type 0} (ground_of : Value → Ground) (entries_of : Value → List Entry)
    (table : Table Value Ground Entry) (rule : Kept ground_of entries_of table)
    (place : ℕ) (old : View Ground Entry) (at : IsAt table.views place old) (ticket : old.ticket ≡ Some (served table)) where
  -- nobody has the turn where the seat that is served has not taken it
  nobody_has_turn : old.turn ≡ false → NobodyHasTurn table.views
  nobody_has_turn no_turn i view there =
      false_from_ne_true view.turn (λ turn.
      let is : i ≡ place = rule.distinct i place (served table) view old there at ((rule.each_fits i view there).turn_is_served turn) ticket in
      let same = IsAt-same table.views i place old view at there is in
      true≢false (sym turn ∙ (ap (λ (v : View Ground Entry). v.turn) (sym same) ∙ no_turn)))

  abbrev new : View Ground Entry
  new = record old { turn = true; seen = rule.common }

  served_parts : length table.homes ≡ 1 → IsSome old.own_ground →
      Parts ground_of entries_of rule.common rule.base (drawn table) (served table) (slice_set table.homes 0 maybe.none) (slice_set table.views place new)
  served_parts one grounded = let out = IsOut-taken table.homes one in record {
    drawn_fits = rule.drawn_fits;
    served_at_most_drawn = rule.served_at_most_drawn;
    each_fits = EachView-set table.views place old new at (Fits rule.common rule.base (drawn table) (served table))
        (served_fits rule.common rule.base (drawn table) (served table) old ticket grounded (rule.each_fits place old at))
        (λ i view _ there. rule.each_fits i view there);
    distinct = HaveDistinctTickets-kept table.views place old new at rule.distinct (λ _ same. same);
    each_ticket = HaveEachTicket-kept table.views place old new at (served table) (drawn table) rule.each_ticket refl;
    home_stands = λ value home. absurd (out_is_not_home (slice_set table.homes 0 maybe.none) value out home);
    home_unless_turn = λ nobody. absurd (true≢false (nobody place new (new_at_place table.views place old new at)));
    out_while_turn = λ i view there turn. out;
  }

  served_kept : (taken : List (ℕ × Option Value)) (value : Value) → length table.homes ≡ 1 → IsSome old.own_ground → entries_of value ≡ rule.common →
      Kept ground_of entries_of (stepped table 1 (served table) place taken (record old { turn = true; seen = entries_of value }) (takes 0 (Some value)))
  served_kept taken value one grounded is =
      subst (λ (x : List ℕ × List Entry). Kept ground_of entries_of record
      { words = x.0; homes = slice_set table.homes 0 maybe.none; views = slice_set table.views place (record old { turn = true; seen = x.1 }) })
      (λ i. (sym (set-get_or table.words 1 0) i, sym is i))
      (kept_by_parts ground_of entries_of rule.common rule.base (drawn table) (served table) table.words (slice_set table.homes 0 maybe.none)
      (slice_set table.views place new)
      rule.three_words refl refl rule.length_is_announced (served_parts one grounded))

module _ {Value Ground Entry : Type 0} (ground_of : Value → Ground) (entries_of : Value → List Entry) where
  pub looks_keep : (slots place : ℕ) (me : Seated Value Ground Entry) → slots ≡ 1 → me.0.turn ≡ false → IsSome me.0.own_ground →
      Allows (Kept ground_of entries_of) slots place me 1 (λ n. n) (looks ground_of entries_of (step slots 1 0 0 maybe.none) me)
  looks_keep slots place me one no_turn grounded table rule long at _ =
      let fits = rule.each_fits place me.0 at in
      let known = known_of rule.common rule.base (drawn table) (served table) me.0 fits in
      let has = has_some me.0.own_ground grounded in
      dite (has_ticket me.0.ticket (served table))
      (λ hit.
      let home = rule.home_unless_turn (nobody_has_turn ground_of entries_of table rule place me.0 at hit no_turn) in
      let stands = rule.home_stands home.0 home.1 in (
        record me.0 { turn = true; seen = entries_of home.0 },
        takes 0 (Some home.0),
        home.1,
        served_kept ground_of entries_of table rule place me.0 at hit me.1 home.0 (long ∙ one) grounded stands.1,
        (
          (λ _. (home.0, refl, has.1 ∙ ap Some (fits.has_ground has.0 has.1 ∙ sym stands.0), subst (IsPrefix me.0.seen) (sym stands.1) fits.has_seen)),
          (λ miss. absurd (miss hit)),
          known.0,
          known.1,
        ),
      ))
      (λ miss. (me.0, keeps, tt, unmoved ground_of entries_of table rule 1 place me.1 me.0 at, ((λ hit. absurd (miss hit)), (λ _. refl), known.0, known.1)))
