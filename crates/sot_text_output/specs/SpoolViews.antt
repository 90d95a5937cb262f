-- What the calls of a spool do, by what its sink tells.
use Rattle.std.specs.Prelude.{◌≡◌, ℕ, List, Option, Result, MatchResult}
use Rattle.sot_text_output.specs.declared.spool.Spool.{Spool}
use Rattle.sot_text_output.specs.Spools.{Spooling, IsSpooled, Grows, Arrives, ArrivesInPart}

module _ {K : Type 0} (held : K → Option (List ℕ)) (faults : K → ℕ) where
  abbrev pub spooling : Spool K → Spooling
  spooling s = record {
    held = held s.sink.now;
    faults = faults s.sink.now;
    waiting = s.waiting.now.items;
    is_well = s.is_well;
  }

  -- the spool still holds its sink, and what was put has grown by this text
  abbrev pub Puts : Spool K → Spool K → List ℕ → Type 0
  Puts before after more =
      (after.sink.ghost_name ≡ before.sink.ghost_name)
      × Grows (spooling before) (spooling after) more

  -- all that was put has arrived, or the sink has failed and a front of it has, and not all
  abbrev pub EndsAs : {E : Type 0} → Spool K → Spool K → Result (Unit {0}) E → Type 0
  EndsAs before after result =
      (held_first : Option (List ℕ)) (faults_first : ℕ) (text : List ℕ)
      → IsSpooled held_first faults_first (spooling before) text
      → MatchResult result
      (λ _. Arrives held_first faults_first (spooling after) text)
      (λ _. ArrivesInPart held_first faults_first (spooling after) text)
