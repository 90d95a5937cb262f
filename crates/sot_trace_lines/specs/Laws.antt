-- The laws on spelled lines.
use Rattle.std.specs.Prelude.{ℕ, ◌≡◌, ℤ, Bool, List, [], ◌∷◌, Option, Some, None}
use Rattle.sot_lang.specs.Tables.{Tables}
use Rattle.sot_lang.specs.TableRules.{MeetsTableRules}
use Rattle.sot_world.specs.HistoryEntry.{Logged, InputAt, FireAt, DecideAt, TickAt}
use Rattle.sot_trace.specs.Drafts.{is_in_range}
use Rattle.sot_trace.specs.Lines.{line_of, writes_of}
use Rattle.sot_trace.specs.Words.{AreWords}
use Rattle.sot_trace_lines.specs.Spelled.{Spelled, InputLine, FireLine, DecideLine, TickLine}
use Rattle.sot_trace_lines.specs.Spelled.{IsSpelled, Fits}

-- a line spells one thing at most
abbrev pub SpelledOnce : Type 0
SpelledOnce =
    (p : Tables) (line : List ℕ) (s t : Spelled) → MeetsTableRules p → AreWords p
    → IsSpelled p line s → IsSpelled p line t → s ≡ t

-- the slots of a draft with their marks, one for each of these scalars
abbrev pub marks_of : Tables → List ℕ → List (Option ℤ) → List (Option (Bool × ℤ))
marks_of p [] draft = []
marks_of p (k ∷ ks) [] = None ∷ marks_of p ks []
marks_of p (k ∷ ks) (None ∷ draft) = None ∷ marks_of p ks draft
marks_of p (k ∷ ks) (Some z ∷ draft) = Some (is_in_range p k z, z) ∷ marks_of p ks draft

-- what the line of an entry spells
abbrev pub spelled_of : Tables → Logged → Spelled
spelled_of p (InputAt time topic value) = InputLine time topic value
spelled_of p (FireAt time node draft enabled) =
    FireLine time node enabled (marks_of p (writes_of p node) draft)
spelled_of p (DecideAt time decider mode) = DecideLine time decider mode
spelled_of p (TickAt time noise states) = TickLine time noise states

-- the line of an entry that fits spells the entry
abbrev pub EntriesAreSpelled : Type 0
EntriesAreSpelled =
    (p : Tables) (entry : Logged) → Fits p (spelled_of p entry)
    → IsSpelled p (line_of p entry) (spelled_of p entry)
