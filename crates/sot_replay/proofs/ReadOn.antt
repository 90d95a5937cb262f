-- Lines of which only the front was read.
use Rattle.std.proofs.Common.{◌≡◌, ◌∙◌, inl, inr, ℕ, ℤ, pos, Bool, List, [], ◌∷◌, Option, refl, sym, subst}
use Rattle.std.specs.Prelude.{Result, Ok, Err, IfOk}
use Rattle.sot_lang.specs.Tables.{Tables}
use Rattle.sot_lang.specs.TableRules.{MeetsTableRules}
use Rattle.sot_world.specs.Events.{IsInBounds}
use Rattle.sot_world.specs.Steps.{Event}
use Rattle.sot_world.specs.HistoryEntry.{Logged}
use Rattle.sot_board.specs.Standing.{Standing}
use Rattle.sot_board.specs.Calls.{Logs}
use Rattle.sot_trace.specs.Lines.{line_of}
use Rattle.sot_trace.specs.Words.{AreWords}
use Rattle.sot_trace_lines.specs.Spelled.{Spelled, TickLine, IsSpelled}
use Rattle.sot_trace_lines.specs.Shown.{Shows, Reads, Holds, ShowsDraft, BeginsFiring, BeginsTick}
use Rattle.sot_trace_lines.specs.declared.line.Line.{Line}
use Rattle.sot_trace_lines.specs.declared.line.Line.TheVariants.{Input, Fire, Decide, Tick, End}
use Rattle.sot_trace_lines.proofs.ReadLines.{spelled_once}
use Rattle.sot_replay.specs.declared.fail.LineKind.{LineKind}
use Rattle.sot_replay.specs.declared.fail.LineKind.TheVariants.{Differs, OutsideType}
use Rattle.sot_replay.specs.declared.judged.Judged.{Judged}
use Rattle.sot_replay.specs.declared.judged.Judged.TheVariants.{Goes, Ends, Fails}
use Rattle.sot_replay.specs.GoesOn.{AreHandedOver}
use Rattle.sot_replay.specs.Tests.{IsFirstFailing}
use Rattle.sot_replay.specs.Judges.{IsJudged, IsCompared, FiresAt, SpellsFiringAt, BeginsAsTick, SpellsTicks, FailsTick, FailsBy, IsReadOn}
use Rattle.sot_replay.proofs.FirstFailing.{not_a_line}

-- a line that was read as a firing spells nothing else
pub spelled_begins : (p : Tables) (line : List ℕ) (time : Option ℤ) (n : ℕ) (s : Spelled) → MeetsTableRules p → AreWords p → IsSpelled p line s
    → BeginsFiring time n s → (t : Spelled) → IsSpelled p line t → BeginsFiring time n t
spelled_begins p line time n s rules words spelled begins t other = subst (BeginsFiring time n) (spelled_once p line s t rules words spelled other) begins

-- a line of a firing is read as a firing's
pub firing_read : (p : Tables) (t n : ℕ) (line : List ℕ) (list : List ℤ) (read : Line) → FiresAt p t line n
    → (s : Spelled) × IsSpelled p line s × Shows read list s
    → (time : Option ℤ) × (node : ℕ) × (draft : Option (List (Option ℤ))) × (read ≡ Fire time node draft) × SpellsFiringAt p t line n draft
firing_read p t n line list (Fire time node draft) fires (s, spelled, (h, enabled, slots, is, reads, shows)) =
    let (on, marks, fired) = fires s spelled in
    let same = sym is ∙ fired in
    let slots_is : slots ≡ marks = cc in
    (time, node, draft, refl, (on, marks, subst (IsSpelled p line) fired spelled, subst (ShowsDraft draft) slots_is shows))
firing_read p t n line list (Input time topic whole) fires (s, spelled, (h, value, is, reads, holds)) =
    (let (on, marks, fired) = fires s spelled in let same = sym is ∙ fired in absurd cc)
firing_read p t n line list (Decide time decider) fires (s, spelled, (h, mode, is, reads)) =
    (let (on, marks, fired) = fires s spelled in let same = sym is ∙ fired in absurd cc)
firing_read p t n line list (Tick time whole) fires (s, spelled, (h, noise, states, is, reads, holds)) =
    (let (on, marks, fired) = fires s spelled in let same = sym is ∙ fired in absurd cc)
firing_read p t n line list (End ticks) fires (s, spelled, (h, events, refused, is, reads)) =
    (let (on, marks, fired) = fires s spelled in let same = sym is ∙ fired in absurd cc)

-- a line of a tick is read as a tick's
pub tick_read : (p : Tables) (line : List ℕ) (list : List ℤ) (read : Line) → SpellsTicks p line → (s : Spelled) × IsSpelled p line s × Shows read list s
    → (time : Option ℤ) × (whole : Bool) × (read ≡ Tick time whole) × (t : ℕ) × (noise : List ℤ) × (states : List ℤ)
    × IsSpelled p line (TickLine t noise states) × Holds whole list noise
tick_read p line list (Tick time whole) ticks (s, spelled, (h, noise, states, is, reads, holds)) =
    (time, whole, refl, h, noise, states, subst (IsSpelled p line) is spelled, holds)
tick_read p line list (Input time topic whole) ticks (s, spelled, (h, value, is, reads, holds)) =
    (let (t, noise, states, ticked) = ticks s spelled in let same = sym is ∙ ticked in absurd cc)
tick_read p line list (Fire time node draft) ticks (s, spelled, (h, enabled, slots, is, reads, shows)) =
    (let (t, noise, states, ticked) = ticks s spelled in let same = sym is ∙ ticked in absurd cc)
tick_read p line list (Decide time decider) ticks (s, spelled, (h, mode, is, reads)) =
    (let (t, noise, states, ticked) = ticks s spelled in let same = sym is ∙ ticked in absurd cc)
tick_read p line list (End ends) ticks (s, spelled, (h, events, refused, is, reads)) =
    (let (t, noise, states, ticked) = ticks s spelled in let same = sym is ∙ ticked in absurd cc)

-- a line that was read as a tick spells nothing else
pub spelled_ticks : (p : Tables) (line : List ℕ) (time : Option ℤ) (s : Spelled) → MeetsTableRules p → AreWords p → IsSpelled p line s → BeginsTick time s
    → (t : Spelled) → IsSpelled p line t → BeginsTick time t
spelled_ticks p line time s rules words spelled begins t other = subst (BeginsTick time) (spelled_once p line s t rules words spelled other) begins

pub only_ticks : (p : Tables) (line : List ℕ) (time : Option ℤ) → BeginsAsTick p line time → SpellsTicks p line
only_ticks p line time begins s spelled = (let (t, noise, states, is, reads) = begins s spelled in (t, noise, states, is))

pub tick_reads : (p : Tables) (line : List ℕ) (time : Option ℤ) (t : ℕ) (noise states : List ℤ) → BeginsAsTick p line time
    → IsSpelled p line (TickLine t noise states) → Reads time (pos t)
tick_reads p line time t noise states begins spelled =
    let (u, w, x, is, reads) = begins (TickLine t noise states) spelled in
    let same : t ≡ u = cc in
    subst (λ (k : ℕ). Reads time (pos k)) (sym same) reads

module _ (old new : Standing) (line : List ℕ) where
  abbrev FirstFailing : LineKind → Type 0
  FirstFailing kind = IsFirstFailing old.accepted.program old.accepted.cert.jitter old.plan old.entries old.position line kind

  failed : (kind whole : LineKind) → FailsBy old.accepted.program line kind whole → ((s : Spelled) → IsSpelled old.accepted.program line s → FirstFailing kind)
      → FirstFailing whole
  failed kind whole (inl (is, none)) first =
      subst FirstFailing (sym is) (not_a_line old.accepted.program old.accepted.cert.jitter old.plan old.entries old.position line none)
  failed kind whole (inr (is, s, spelled)) first = subst FirstFailing (sym is) (first s spelled)

  -- a test that fails of a line of a tick
  pub tick_fails :
      (kind whole : LineKind) → FailsTick old.accepted.program line kind whole
      → ((t : ℕ) (noise states : List ℤ) → IsSpelled old.accepted.program line (TickLine t noise states) → (IsInBounds old.accepted.program.plants noise → ⊥)
      → FirstFailing OutsideType)
      → ((t : ℕ) (noise states : List ℤ) → IsSpelled old.accepted.program line (TickLine t noise states) → IsInBounds old.accepted.program.plants noise
      → FirstFailing kind) → FirstFailing whole
  tick_fails kind whole (inl (is, none)) outside first =
      subst FirstFailing (sym is) (not_a_line old.accepted.program old.accepted.cert.jitter old.plan old.entries old.position line none)
  tick_fails kind whole (inr (inl (is, t, noise, states, spelled, out))) outside first = subst FirstFailing (sym is) (outside t noise states spelled out)
  tick_fails kind whole (inr (inr (is, t, noise, states, spelled, inside))) outside first = subst FirstFailing (sym is) (first t noise states spelled inside)

  -- a test that fails for what the line spells
  pub read_fails : {E : Type 0} (r : Result Judged E) (kind : LineKind) → IfOk r (λ j. IsReadOn old.accepted.program line (Fails kind) j)
      → ((s : Spelled) → IsSpelled old.accepted.program line s → FirstFailing kind)
      → IfOk r (λ j. IsJudged old new line j)
  read_fails (Ok j) kind (whole, is, by) first = subst (IsJudged old new line) (sym is) (failed kind whole by first)
  read_fails (Err e) kind told first = told

  -- a line that was compared with that of the entry of an event
  pub read_judged :
      {E : Type 0} (r : Result Judged E) (event : Event) (entry : Logged) (j : Judged) → Logs old new event entry → AreHandedOver old.plan (entry ∷ [])
      → IsCompared old.accepted.program entry line j
      → IfOk r (λ k. IsReadOn old.accepted.program line j k)
      → ((line ≡ line_of old.accepted.program entry → ⊥) → (s : Spelled) → IsSpelled old.accepted.program line s → FirstFailing Differs)
      → IfOk r (λ k. IsJudged old new line k)
  read_judged (Ok k) event entry (Goes added) logs handed (is, adds) told differs =
      subst (IsJudged old new line) (sym told) (record {
        entry = entry;
        flies = logs.flies;
        handed = handed;
        is = is;
        adds = adds;
        entries = logs.entries;
        accepted = logs.accepted;
        plan = logs.plan;
      })
  read_judged (Ok k) event entry Ends logs handed is told differs = absurd is
  read_judged (Ok k) event entry (Fails kind) logs handed (is, not) (whole, told, by) differs =
      subst (IsJudged old new line) (sym told) (failed kind whole by (λ s spelled. subst FirstFailing (sym is) (differs not s spelled)))
  read_judged (Err e) event entry j logs handed compared told differs = told
