-- The text of a flown history leaves out nothing.
use Rattle.std.proofs.Common.{◌≡◌, ◌∙◌, ℕ, zero, suc, ℤ, Bool, List, [], ◌∷◌, Option, length, refl, ap, sym, subst, arith}
use Rattle.std.specs.Option.{option_map_or}
use Rattle.std.proofs.lemmas.List.{length-map}
use Rattle.std.proofs.lemmas.Option.{slice_get_within}
use Rattle.sot_lists.specs.Places.{At}
use Rattle.sot_lang.specs.declared.tables.NodeInfo.{NodeInfo}
use Rattle.sot_lang.specs.Tables.{Tables}
use Rattle.sot_lang.specs.TableRules.{MeetsTableRules}
use Rattle.sot_lang.specs.Ranges.{range_of, local_ranges, write_ranges}
use Rattle.sot_lang.specs.Ticks.{joined}
use Rattle.sot_code.specs.Recorded.{in_slots}
use Rattle.sot_world.specs.Steps.{Event, Input, Code, Guest, Decide, Tick, Step}
use Rattle.sot_world.specs.HistoryEntry.{Logged, FireAt, TickAt}
use Rattle.sot_world.specs.Outcomes.{Recorded, Records}
use Rattle.sot_flight.specs.Plans.{Plan}
use Rattle.sot_board.specs.Flown.{Position, Tells, Leads}
use Rattle.sot_trace.specs.Fitting.{FitsEntry}
use Rattle.sot_trace.specs.Telling.{IsTold, FlownHistoriesAreTold}
use Rattle.sot_trace.proofs.Printable.{told_fits}
use Rattle.sot_trace.proofs.DraftSlots.{execution_slots}

module _ (p : Tables) (rules : MeetsTableRules p) where
  -- a firing of a node with a slot for each scalar that it writes
  firing_told : (time n : ℕ) (node : NodeInfo) (draft : List (Option ℤ)) (enabled : Bool) (entry : Logged) → At p.nodes n node
      → length draft ≡ length node.writes.items
      → entry ≡ FireAt time n (in_slots draft) enabled → IsTold p entry
  firing_told time n node draft enabled entry at size is =
      let writes = ap (λ o. option_map_or (λ (x : NodeInfo). x.writes.items) o []) at in
      subst (IsTold p) (sym is) (slice_get_within p.nodes n node at, (draft, size ∙ sym (ap length writes), refl))

  told_whole : (j : ℕ) (P Q : Position) (e : Event) (r : Recorded) (entry : Logged) → Step p j P.at e Q.at → Records p P.at e Q.at r → Tells P.at e r Q.at entry
      → IsTold p entry
  told_whole j P Q (Input topic value) r entry step records is = subst (IsTold p) (sym is) (slice_get_within p.topics topic step.info step.is)
  told_whole j P Q (Code n) r entry step records (draft, enabled, was, is) =
      let same : draft ≡ records.fired.draft = (let both = sym was ∙ records.recorded in cc) in
      let size = execution_slots records.acts (local_ranges records.node) (write_ranges p records.node) _ _ records.fired records.runs
      ∙ length-map records.node.writes.items (range_of p.scalars) in
      firing_told P.at.time n records.node draft enabled entry records.is (ap length same ∙ size) is
  told_whole j P Q (Guest n given) r entry step records (draft, enabled, was, is) =
      let same : draft ≡ given = (let both = sym was ∙ records in cc) in
      firing_told P.at.time n step.node draft enabled entry step.is (ap length same ∙ step.slots) is
  told_whole j P Q (Decide m) r entry step records (mode, was, is) = subst (IsTold p) (sym is) (slice_get_within p.modules m step.module_info step.is)
  told_whole j P Q (Tick noise) r entry step records is =
      let fits : FitsEntry p (TickAt P.at.time (joined noise) (joined Q.at.points)) =
      subst (FitsEntry p) is (told_fits p rules j P Q (Tick noise) r entry step is) in
      subst (IsTold p) (sym is) (omega (arith, fits.0), omega (arith, fits.1))

  led_told : (j : ℕ) (f : Plan) (P : Position) (es : List Logged) (Q : Position) → Leads p j f P es Q → (i : ℕ) (e : Logged) → At es i e → IsTold p e
  led_told j f P [] Q led i e at = absurd cc
  led_told j f P (x ∷ es) Q (R, flies, led) zero e at =
      subst (IsTold p) (let same : x ≡ e = cc in same) (told_whole j P R flies.event flies.recorded x flies.step flies.records flies.tells)
  led_told j f P (x ∷ es) Q (R, flies, led) (suc i) e at = led_told j f R es Q led i e at

pub flown_told : FlownHistoriesAreTold
flown_told p jitter f entries Q rules (P, start, led) = record {
  starts = omega (arith, ap length start.opening.points, start.opening.sizes.points);
  told = led_told p rules jitter f P entries Q led;
}
