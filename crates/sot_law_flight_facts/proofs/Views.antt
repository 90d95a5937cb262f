-- When views of the relay's node are current.
use Rattle.std.proofs.Common.{◌≡◌, ℕ, pos, refl, sym, ◌∙◌, subst, List, [], ◌∷◌, arith}
use Rattle.std.specs.Global.{Global}
use Rattle.sot_lists.specs.Places.{At}
use Rattle.sot_lists.proofs.ShortLists.{at_one}
use Rattle.std.specs.Prelude.{map}
use Rattle.sot_lang.specs.Readings.{reading}
use Rattle.sot_world.specs.HistoryEntry.{Logged}
use Rattle.sot_world.specs.Examples.{relay, copy}
use Rattle.sot_board.specs.Examples.{copies}
use Rattle.sot_board.specs.declared.view.View.{View}
use Rattle.sot_board.specs.Flown.{Position}
use Rattle.sot_board.specs.Views.{IsView, slot_version, viewed_numbers, viewed_versions}
use Rattle.sot_board.specs.Commits.{IsCurrent}
use Rattle.sot_law_flight_facts.specs.Views.{first_view, FirstViewIsThere, board, standing, input, InputEndsView, LaterViewIsCurrent, OtherTopicsLeaveView}
use Rattle.sot_law_flight_facts.specs.Views.{TimeEndsView, ChangedBackEndsView}

no_one : ◌≡◌ {A = List ℕ} (0 ∷ []) (1 ∷ []) → ⊥
no_one e = cc

no_two : ◌≡◌ {A = List ℕ} (0 ∷ []) (2 ∷ []) → ⊥
no_two e = cc

module _ (g : Global) where
  -- the versions of a view, and those that a board at which it is current has now
  versions_of : (before after : List Logged) (P Q : Position) (v : View) → IsView (relay g) before P 0 v → IsCurrent (board g after Q) v
      → map (slot_version (relay g) before) (copy g).reads.items ≡ map (slot_version (relay g) after) (copy g).reads.items
  versions_of before after P Q v view current =
      sym (view.versions (copy g) refl) ∙ current.1 (copy g) (subst (λ n. At (relay g).nodes n (copy g)) (sym view.node) refl)

  -- a view is current where time and versions are those of its entries
  current_if : (before after : List Logged) (P Q : Position) (v : View) → IsView (relay g) before P 0 v → P.at.time ≡ Q.at.time
      → map (slot_version (relay g) before) (copy g).reads.items ≡ map (slot_version (relay g) after) (copy g).reads.items → IsCurrent (board g after Q) v
  current_if before after P Q v view time same = (
    view.time ∙ time,
    (λ info at. at_one (λ n i. viewed_versions v ≡ map (slot_version (relay g) after) i.reads.items) (copy g) (view.versions (copy g) refl ∙ same) v.node info
        at),
  )

  pub there : FirstViewIsThere g
  there = record {
    node = refl;
    time = refl;
    history = refl;
    numbers = at_one (λ n i. viewed_numbers first_view ≡ reading i (pos 0 ∷ pos 0 ∷ []) []) (copy g) refl 0;
    versions = at_one (λ n i. viewed_versions first_view ≡ map (slot_version (relay g) []) i.reads.items) (copy g) refl 0;
    locals = refl;
  }

  pub input_came : InputEndsView g
  input_came v view current = no_one (versions_of [] (input (pos 5) ∷ []) (standing 0 (pos 0) (pos 0)) (standing 0 (pos 5) (pos 0)) v view current)

  pub taken_after : LaterViewIsCurrent g
  taken_after v view = current_if (input (pos 5) ∷ []) (input (pos 5) ∷ []) (standing 0 (pos 5) (pos 0)) (standing 0 (pos 5) (pos 0)) v view refl refl

  pub other_topic : OtherTopicsLeaveView g
  other_topic v view =
      current_if (input (pos 5) ∷ []) (input (pos 5) ∷ copies (pos 5) ∷ []) (standing 0 (pos 5) (pos 0)) (standing 0 (pos 5) (pos 5)) v view refl refl

  pub earlier_time : TimeEndsView g
  earlier_time v view current = (let e : ◌≡◌ {A = ℕ} 0 1 = sym view.time ∙ current.0 in omega (arith, e))

  pub changed_back : ChangedBackEndsView g
  changed_back v view current =
      no_two (versions_of [] (input (pos 5) ∷ input (pos 0) ∷ []) (standing 0 (pos 0) (pos 0)) (standing 0 (pos 0) (pos 0)) v view current)
