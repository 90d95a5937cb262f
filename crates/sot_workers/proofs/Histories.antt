-- Histories that go on, and what they tell of the nodes.
use Rattle.std.proofs.Common.{◌≡◌, ℕ, false, ℤ, Option, List, [], ◌∷◌, ◌++◌, refl, sym, ap, ◌∙◌, subst, append_assoc, append-nil}
use Rattle.std.specs.Prelude.{◌==◌, if◌then◌else◌}
use Rattle.std.proofs.lemmas.Bool.{eq-eqb}
use Rattle.sot_lang.specs.Ticks.{joined}
use Rattle.sot_turn.specs.Prefixes.{IsPrefix}
use Rattle.sot_world.specs.HistoryEntry.{Logged, InputAt, FireAt, DecideAt, TickAt}
use Rattle.sot_world.specs.Steps.{Input, Decide, Tick}
use Rattle.sot_world.specs.declared.mode.Mode.{Mode}
use Rattle.sot_board.specs.Flown.{Tells}
use Rattle.sot_board.specs.Standing.{Standing}
use Rattle.sot_board.specs.Calls.{Logs}
use Rattle.sot_board.specs.Versions.{drafts_of}
use Rattle.sot_board.proofs.Entries.{drafts_append}
use Rattle.sot_workers.specs.Instants.{AddsNoFiring, AddsFiring}

module _ {A : Type 0} where
  pub goes_here : (xs : List A) → IsPrefix xs xs
  goes_here xs = ([], sym (append-nil xs))

  pub goes_further : (xs ys zs : List A) → IsPrefix xs ys → IsPrefix ys zs → IsPrefix xs zs
  goes_further xs ys zs p q = (p.0 ++ q.0, q.1 ∙ (ap (λ l. l ++ q.0) p.1 ∙ append_assoc xs p.0 q.0))

pub none_added_again : (xs ys zs : List Logged) → AddsNoFiring xs ys → AddsNoFiring ys zs → AddsNoFiring xs zs
none_added_again xs ys zs a b = record { goes_on = goes_further xs ys zs a.goes_on b.goes_on; drafts = λ n. b.drafts n ∙ a.drafts n }

one_quiet : (es new : List Logged) (x : Logged) → new ≡ es ++ x ∷ [] → ((n : ℕ) → drafts_of n (x ∷ []) ≡ []) → AddsNoFiring es new
one_quiet es new x is quiet = record {
  goes_on = (x ∷ [], is);
  drafts = λ n. ap (drafts_of n) is ∙ (drafts_append n es (x ∷ []) ∙ (ap (λ l. drafts_of n es ++ l) (quiet n) ∙ append-nil (drafts_of n es)));
}

-- the entries of an input and of a tick
pub input_entry : (old new : Standing) (topic : ℕ) (value : List ℤ) (entry : Logged) → Logs old new (Input topic value) entry
    → entry ≡ InputAt old.position.at.time topic value
input_entry old new topic value entry l = subst (λ e. Tells old.position.at e l.flies.recorded new.position.at entry) l.event_is l.flies.tells

pub tick_entry : (old new : Standing) (noise : List (List ℤ)) (entry : Logged) → Logs old new (Tick noise) entry
    → entry ≡ TickAt old.position.at.time (joined noise) (joined new.position.at.points)
tick_entry old new noise entry l = subst (λ e. Tells old.position.at e l.flies.recorded new.position.at entry) l.event_is l.flies.tells

pub input_added : (old new : Standing) (topic : ℕ) (value : List ℤ) (entry : Logged) → Logs old new (Input topic value) entry
    → AddsNoFiring old.entries new.entries
input_added old new topic value entry l =
    one_quiet old.entries new.entries entry l.entries (λ n. ap (λ x. drafts_of n (x ∷ [])) (input_entry old new topic value entry l))

pub decision_added : (old new : Standing) (m : ℕ) (time decider : ℕ) (mode : Mode) → Logs old new (Decide m) (DecideAt time decider mode)
    → AddsNoFiring old.entries new.entries
decision_added old new m time decider mode l = one_quiet old.entries new.entries (DecideAt time decider mode) l.entries (λ n. refl)

pub tick_added : (old new : Standing) (noise : List (List ℤ)) (entry : Logged) → Logs old new (Tick noise) entry → AddsNoFiring old.entries new.entries
tick_added old new noise entry l =
    one_quiet old.entries new.entries entry l.entries (λ n. ap (λ x. drafts_of n (x ∷ [])) (tick_entry old new noise entry l))

-- a firing is one draft more of its node
pub one_more : (t n : ℕ) (es new : List Logged) (draft : List (Option ℤ)) → AddsFiring t es n draft new → drafts_of n new ≡ drafts_of n es ++ draft ∷ []
one_more t n es new draft (enabled, is) =
    ap (drafts_of n) is ∙ (drafts_append n es (FireAt t n draft enabled ∷ []) ∙ ap (λ b. drafts_of n es ++ (if b then draft ∷ [] else [])) (eq-eqb n n refl))

-- and none of another
pub no_more : (t n k : ℕ) (es new : List Logged) (draft : List (Option ℤ)) → (n == k) ≡ false → AddsFiring t es k draft new
    → drafts_of n new ≡ drafts_of n es
no_more t n k es new draft other (enabled, is) =
    ap (drafts_of n) is ∙ (drafts_append n es (FireAt t k draft enabled ∷ [])
    ∙ (ap (λ b. drafts_of n es ++ (if b then draft ∷ [] else [])) other ∙ append-nil (drafts_of n es)))
