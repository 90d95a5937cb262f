-- What a replay answers.
use Rattle.std.specs.Prelude.{ℕ, suc, ◌<◌, ◌≡◌, ◌≢◌, ◌⊎◌, List, [], ◌∷◌, ◌++◌, length, map}
use Rattle.sot_lang.specs.Tables.{Tables}
use Rattle.sot_world.specs.HistoryEntry.{Logged}
use Rattle.sot_flight.specs.Plans.{Plan}
use Rattle.sot_board.specs.Flown.{Position, FlownSoFar}
use Rattle.sot_trace.specs.Lines.{line_of, header, start_lines}
use Rattle.sot_trace_lines.specs.Spelled.{IsStartLine}
use Rattle.sot_replay.specs.GoesOn.{AreHandedOver, IsTraceOf, GoesOn}
use Rattle.sot_replay.specs.Tests.{IsFirstFailing}
use Rattle.sot_replay.specs.declared.fail.LineKind.{LineKind}
use Rattle.sot_replay.specs.declared.fail.LineKind.TheVariants.{NotALine, Differs, Ended, Missing}
use Rattle.sot_replay.specs.declared.fail.ReplayFail.{ReplayFail}
use Rattle.sot_replay.specs.declared.fail.ReplayFail.TheVariants.{NotSafer, Line, Memory}

-- the lines in front of the entries' lines
abbrev pub opening_lines : Tables → Plan → List (List ℕ)
opening_lines p f = header ∷ start_lines p.plants f.start

-- these lines tell a history of the flight so far, which leads to P
abbrev pub Tell : Tables → ℕ → Plan → List (List ℕ) → List Logged → Position → Type 0
Tell p jitter f front entries P =
    FlownSoFar p jitter f entries P × AreHandedOver f entries
    × (front ≡ opening_lines p f ++ map (line_of p) entries)

-- why a line in the place of a start line is refused
abbrev pub RefusesStart : Tables → List ℕ → LineKind → Type 0
RefusesStart p line kind =
    ((kind ≡ NotALine) × (IsStartLine p line → ⊥)) ⊎ ((kind ≡ Differs) × IsStartLine p line)

-- why a line behind this front is refused: it is not the header; it is not the start line that has
-- to stand there; a test fails; or it stands behind the end
abbrev pub RefusesLine : Tables → ℕ → Plan → List (List ℕ) → List ℕ → LineKind → Type 0
RefusesLine p jitter f front line kind =
    ((front ≡ []) × (kind ≡ NotALine))
    ⊎ ((front ≢ []) × (length front < length (opening_lines p f)) × RefusesStart p line kind)
    ⊎ ((entries : List Logged) × (P : Position) × Tell p jitter f front entries P
    × IsFirstFailing p jitter f entries P line kind)
    ⊎ ((entries : List Logged) × IsTraceOf p jitter f front entries × (kind ≡ Ended))

-- the lines stop before the end line
abbrev pub StopsShort : Tables → ℕ → Plan → List (List ℕ) → List (List ℕ) → LineKind → Type 0
StopsShort p jitter f front rest kind =
    (rest ≡ []) × (kind ≡ Missing) × ((entries : List Logged) → IsTraceOf p jitter f front entries
    → ⊥)

-- with this line no trace of the flight goes on
abbrev pub StopsAt : Tables → ℕ → Plan → List (List ℕ) → List (List ℕ) → LineKind → Type 0
StopsAt p jitter f front rest kind =
    (line : List ℕ) × (more : List (List ℕ)) × (rest ≡ line ∷ more)
    × (GoesOn p jitter f (front ++ line ∷ []) → ⊥) × RefusesLine p jitter f front line kind

-- of these lines the one with this number, counted from 1, is the first with which no trace of the
-- flight goes on, or they stop short before it
pub record IsRefusedAt (p : Tables) (jitter : ℕ) (f : Plan) (lines : List (List ℕ)) (number : ℕ)
    (kind : LineKind) : Type 0 where
  pub front : List (List ℕ)
  pub rest : List (List ℕ)
  pub is : lines ≡ front ++ rest
  pub counted : number ≡ suc (length front)
  pub goes_on : GoesOn p jitter f front
  pub why : StopsShort p jitter f front rest kind ⊎ StopsAt p jitter f front rest kind

-- what a failed replay tells
abbrev pub MatchFail : ReplayFail → (ℕ → Type 0) → (ℕ → LineKind → Type 0) → Type 0
MatchFail (NotSafer m) S L = S m
MatchFail (Line number kind) S L = L number kind
MatchFail Memory S L = Unit {0}
