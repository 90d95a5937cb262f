-- From what a monitor answers to what is told of the flight that it watched.
use Rattle.std.proofs.Common.{◌≡◌, ℕ, ◌+◌, ◌≤◌, List, [], ◌++◌, Option, None, Some, inl, inr, refl, ap, ◌∙◌, subst, arith}
use Rattle.std.specs.Prelude.{sum_by, MatchOption}
use Rattle.sot_lang.specs.Tables.{Tables}
use Rattle.sot_world.specs.Opens.{AreStarts}
use Rattle.sot_world.specs.HistoryEntry.{Logged}
use Rattle.sot_flight.specs.Plans.{Plan}
use Rattle.sot_board.specs.Standing.{Standing, IsStanding}
use Rattle.sot_trace.specs.Fitting.{FitsHistory}
use Rattle.sot_trace.specs.Lines.{ticks_in}
use Rattle.sot_trace.specs.Traces.{trace_text}
use Rattle.sot_trace.proofs.Printable.{flown_fits}
use Rattle.sot_replay.proofs.PassedTests.{flown_ticks}
use Rattle.sot_formula.specs.Formulas.{Formula}
use Rattle.sot_formula.specs.Parts.{AreThere}
use Rattle.sot_monitor.specs.Holding.{AlwaysHolds, FirstFails}
use Rattle.sot_monitor.specs.Tracked.{Tracked}
use Rattle.sot_monitor.specs.Tracking.{StandsFor}
use Rattle.sot_monitor.specs.Moments.{moments_told}
use Rattle.sot_commands.specs.declared.telling.Telling.{Telling}
use Rattle.sot_commands.specs.declared.telling.Telling.TheVariants.{Trace, Summary, Verdict}
use Rattle.sot_commands.specs.WatchTexts.{holds_text, fails_text}
use Rattle.sot_commands.specs.Steps.{trace_or_summary, Watches, IsMonitorFor, MeansFor, TellsVerdict, Tells}

-- what a formula that watches a flight asks of the board
pub board_starts : (b : Standing) → IsStanding b → AreStarts b.accepted.program b.plan.start
board_starts b stands = record { each = stands.fits.starts; widths = stands.fits.widths }

pub board_fits : (b : Standing) → IsStanding b → FitsHistory b.accepted.program b.entries
board_fits b stands = flown_fits b.accepted.program stands.kept.rules b.accepted.cert.jitter b.plan b.entries b.position stands.flown

pub board_ticks : (b : Standing) → IsStanding b → sum_by ticks_in b.entries ≤ 100000
board_ticks b stands =
    let ticks = flown_ticks b.accepted.program b.accepted.cert.jitter b.plan b.entries b.position stands.flown in
    omega (arith, ticks, stands.in_time, stands.fits.horizon)

-- a monitor that watches a flight is new, and the program has what it compares
pub monitor_there : (telling : Telling) (t : Tables) (m : Tracked) → Watches telling t m → AreThere t m.whats
monitor_there Trace t m watches = absurd watches
monitor_there Summary t m watches = absurd watches
monitor_there (Verdict formula) t m watches = watches.there

pub monitor_new : (telling : Telling) (t : Tables) (m : Tracked) → Watches telling t m → m.added ≡ 0
monitor_new Trace t m watches = absurd watches
monitor_new Summary t m watches = absurd watches
monitor_new (Verdict formula) t m watches = watches.stands.added

-- a formula that watches a flight has a meaning
pub means_for : (telling : Telling) (t : Tables) (m : Option Tracked) → IsMonitorFor telling t m → MeansFor telling t
means_for Trace t m monitor = tt
means_for Summary t m monitor = tt
means_for (Verdict formula) t None monitor = absurd (monitor tt)
means_for (Verdict formula) t (Some m) monitor =
    (monitor.formula, record { phrase = monitor.phrase; text = monitor.text; means = monitor.means })

-- the formula holds at every moment, or fails first at one: its line behind the trace tells so
module _ (telling : Telling) (t : Tables) (f : Plan) (history : List Logged) (m : Tracked) (watches : Watches telling t m) (v : Option ℕ)
    (verdict : (x : Formula) → StandsFor m x []
    → MatchOption v (AlwaysHolds (moments_told t f.start history) x) (FirstFails (moments_told t f.start history) x)) where
  abbrev Always : Formula → Option ℕ → Type 0
  Always x o = MatchOption o (AlwaysHolds (moments_told t f.start history) x) (FirstFails (moments_told t f.start history) x)

  pub holds_told : v ≡ None → (line : List ℕ) → line ≡ holds_text (f.horizon + 1)
      → TellsVerdict telling t f history 0 (trace_text t f.start history ++ line)
  holds_told none line is = by telling watches
    where
      by : (k : Telling) → Watches k t m → TellsVerdict k t f history 0 (trace_text t f.start history ++ line)
      by Trace w = absurd w
      by Summary w = absurd w
      by (Verdict formula) w = (
        w.formula,
        record { phrase = w.phrase; text = w.text; means = w.means },
        inl (refl, (subst (Always w.formula) none (verdict w.formula w.stands), ap (λ (l : List ℕ). trace_text t f.start history ++ l) is)),
      )

  pub fails_told : (time : ℕ) → v ≡ Some time → (line : List ℕ) → line ≡ fails_text time
      → TellsVerdict telling t f history 1 (trace_text t f.start history ++ line)
  fails_told time some line is = by telling watches
    where
      by : (k : Telling) → Watches k t m → TellsVerdict k t f history 1 (trace_text t f.start history ++ line)
      by Trace w = absurd w
      by Summary w = absurd w
      by (Verdict formula) w = (
        w.formula,
        record { phrase = w.phrase; text = w.text; means = w.means },
        inr (refl, (time, subst (Always w.formula) some (verdict w.formula w.stands), ap (λ (l : List ℕ). trace_text t f.start history ++ l) is)),
      )

-- what is told without a monitor
pub plainly_told : (telling : Telling) (t u : Tables) (f : Plan) (history : List Logged) (status : ℕ) (said : List ℕ) → IsMonitorFor telling t None → u ≡ t
    → (status ≡ 0) × (said ≡ trace_or_summary telling u f history) → Tells telling t f history status said
plainly_told telling t u f history status said plain same (zero, is) = inl (plain, zero, is ∙ ap (λ (x : Tables). trace_or_summary telling x f history) same)
