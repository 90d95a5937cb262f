-- What the line of an entry spells is the entry.
use Rattle.std.proofs.Common.{◌≡◌, ◌∙◌, ℕ, ℤ, Bool, ◌⊎◌, inl, inr, List, Option, refl, sym, ap, subst}
use Rattle.sot_lang.specs.Tables.{Tables}
use Rattle.sot_world.specs.declared.mode.Mode.{Mode}
use Rattle.sot_world.specs.Configurations.{Configuration}
use Rattle.sot_world.specs.Steps.{Event, Input, Code, Guest, Decide, Tick}
use Rattle.sot_world.specs.Outcomes.{Recorded}
use Rattle.sot_world.specs.HistoryEntry.{Logged, InputAt, FireAt, DecideAt, TickAt}
use Rattle.sot_board.specs.Standing.{Standing, IsStanding}
use Rattle.sot_board.specs.Flown.{Position, Tells, Flies}
use Rattle.sot_trace.specs.Lines.{line_of, writes_of}
use Rattle.sot_trace.specs.Words.{AreWords}
use Rattle.sot_trace_lines.specs.Spelled.{Spelled, InputLine, FireLine, DecideLine, TickLine, IsSpelled}
use Rattle.sot_trace_lines.specs.Laws.{marks_of, spelled_of}
use Rattle.sot_trace_lines.proofs.ReadLines.{spelled_once, entries_spelled}
use Rattle.sot_replay.proofs.PassedTests.{entry_fits}

-- what a line spells that is the line of an entry with which the flight goes on
pub spells_entry :
    (b : Standing) → IsStanding b → AreWords b.accepted.program → (line : List ℕ) (s : Spelled) → IsSpelled b.accepted.program line s
    → (e : Logged) (Q : Position)
    → Flies b.accepted.program b.accepted.cert.jitter b.plan b.position e Q → line ≡ line_of b.accepted.program e → spelled_of b.accepted.program e ≡ s
spells_entry b stands words line s spelled e Q flies is =
    let p = b.accepted.program in
    spelled_once p line (spelled_of p e) s stands.kept.rules words
    (subst (λ l. IsSpelled p l (spelled_of p e)) (sym is) (entries_spelled p e (entry_fits b stands e Q flies))) spelled

-- the entry that is spelled as a decision
pub decision_of : (p : Tables) (e : Logged) (t m : ℕ) (mode : Mode) → spelled_of p e ≡ DecideLine t m mode → e ≡ DecideAt t m mode
decision_of p (InputAt time topic value) t m mode same = absurd cc
decision_of p (FireAt time node draft on) t m mode same = absurd cc
decision_of p (DecideAt time k kept) t m mode same = cc
decision_of p (TickAt time noise states) t m mode same = absurd cc

-- .. as an input
pub input_of : (p : Tables) (e : Logged) (t topic : ℕ) (value : List ℤ) → spelled_of p e ≡ InputLine t topic value → e ≡ InputAt t topic value
input_of p (InputAt time k kept) t topic value same = cc
input_of p (FireAt time node draft on) t topic value same = absurd cc
input_of p (DecideAt time k mode) t topic value same = absurd cc
input_of p (TickAt time noise states) t topic value same = absurd cc

-- .. as a tick
pub tick_of : (p : Tables) (e : Logged) (t : ℕ) (noise states : List ℤ) → spelled_of p e ≡ TickLine t noise states → e ≡ TickAt t noise states
tick_of p (InputAt time k kept) t noise states same = absurd cc
tick_of p (FireAt time node draft on) t noise states same = absurd cc
tick_of p (DecideAt time k mode) t noise states same = absurd cc
tick_of p (TickAt time w x) t noise states same = cc

-- .. as a firing
pub firing_of : (p : Tables) (e : Logged) (t n : ℕ) (on : Bool) (slots : List (Option (Bool × ℤ))) → spelled_of p e ≡ FireLine t n on slots
    → (draft : List (Option ℤ)) × (e ≡ FireAt t n draft on) × (marks_of p (writes_of p n) draft ≡ slots)
firing_of p (InputAt time k kept) t n on slots same = absurd cc
firing_of p (FireAt time node draft enabled) t n on slots same =
    (let n_is : node ≡ n = cc in (draft, cc, subst (λ k. marks_of p (writes_of p k) draft ≡ slots) n_is cc))
firing_of p (DecideAt time k mode) t n on slots same = absurd cc
firing_of p (TickAt time w x) t n on slots same = absurd cc

module _ (C D : Configuration) (r : Recorded) where
  -- the event of which an entry of a decision tells
  pub decides : (ev : Event) (e : Logged) (t m : ℕ) (mode : Mode) → e ≡ DecideAt t m mode → Tells C ev r D e → ev ≡ Decide m
  decides (Input topic value) e t m mode same is = (let both = sym same ∙ is in absurd cc)
  decides (Code n) e t m mode same (d, on, was, is) = (let both = sym same ∙ is in absurd cc)
  decides (Guest n given) e t m mode same (d, on, was, is) = (let both = sym same ∙ is in absurd cc)
  decides (Decide k) e t m mode same (kept, was, is) = (let both = sym same ∙ is in cc)
  decides (Tick noise) e t m mode same is = (let both = sym same ∙ is in absurd cc)

  -- .. of an input
  pub takes : (ev : Event) (e : Logged) (t topic : ℕ) (value : List ℤ) → e ≡ InputAt t topic value → Tells C ev r D e → ev ≡ Input topic value
  takes (Input k kept) e t topic value same is = (let both = sym same ∙ is in cc)
  takes (Code n) e t topic value same (d, on, was, is) = (let both = sym same ∙ is in absurd cc)
  takes (Guest n given) e t topic value same (d, on, was, is) = (let both = sym same ∙ is in absurd cc)
  takes (Decide k) e t topic value same (kept, was, is) = (let both = sym same ∙ is in absurd cc)
  takes (Tick noise) e t topic value same is = (let both = sym same ∙ is in absurd cc)

  -- .. of a tick
  pub moves : (ev : Event) (e : Logged) (t : ℕ) (w x : List ℤ) → e ≡ TickAt t w x → Tells C ev r D e → (noise : List (List ℤ)) × (ev ≡ Tick noise)
  moves (Input k kept) e t w x same is = (let both = sym same ∙ is in absurd cc)
  moves (Code n) e t w x same (d, on, was, is) = (let both = sym same ∙ is in absurd cc)
  moves (Guest n given) e t w x same (d, on, was, is) = (let both = sym same ∙ is in absurd cc)
  moves (Decide k) e t w x same (kept, was, is) = (let both = sym same ∙ is in absurd cc)
  moves (Tick noise) e t w x same is = (noise, refl)

  -- .. of a firing
  pub fires : (ev : Event) (e : Logged) (t n : ℕ) (slots : List (Option ℤ)) (on : Bool) → e ≡ FireAt t n slots on → Tells C ev r D e
      → (ev ≡ Code n) ⊎ ((d : List (Option ℤ)) × (ev ≡ Guest n d))
  fires (Input k kept) e t n slots on same is = (let both = sym same ∙ is in absurd cc)
  fires (Code k) e t n slots on same (d, kept, was, is) = (let both = sym same ∙ is in inl cc)
  fires (Guest k given) e t n slots on same (d, kept, was, is) =
      (let both = sym same ∙ is in let n_is : k ≡ n = cc in inr (given, ap (λ x. Guest x given) n_is))
  fires (Decide k) e t n slots on same (kept, was, is) = (let both = sym same ∙ is in absurd cc)
  fires (Tick noise) e t n slots on same is = (let both = sym same ∙ is in absurd cc)
