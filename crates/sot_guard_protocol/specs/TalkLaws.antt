-- What a robot says line by line, and what that makes of the mission.
use Rattle.std.specs.Prelude.{ℕ, suc, ℤ, true, List, [], ◌∷◌, ◌++◌, ◌≡◌, ◌⊎◌, ◌↔◌, codes}
use Rattle.std.specs.Prelude.{Option, None}
use Rattle.sot_lists.specs.Places.{At}
use Rattle.sot_lang.specs.declared.tables.NodeInfo.{NodeInfo}
use Rattle.sot_lang.specs.Tables.{Tables}
use Rattle.sot_lang.specs.TableRules.{MeetsTableRules}
use Rattle.sot_tube.specs.Certified.{IsWellCertified}
use Rattle.sot_world.specs.Headline.{IsSafeNow}
use Rattle.sot_world.specs.Configurations.{Configuration, is_left}
use Rattle.sot_guard.specs.declared.outside.Outside.{Outside}
use Rattle.sot_guard.specs.Hearing.{Hearing, program_of, jitter_of, Resumes}
use Rattle.sot_guard.specs.Hearing.{GoesThrough, TakesTick}
use Rattle.sot_guard.specs.Beginning.{IsOpeningAt}
use Rattle.sot_guard.specs.Conversations.{IsObserved, KeepsTubesInTrust}
use Rattle.sot_guard_lines.specs.Lines.{resumed_line, is_due}
use Rattle.sot_guard_protocol.specs.declared.heard.Heard.{Heard}
use Rattle.sot_guard_protocol.specs.Talks.{Talking, tables_of, time_of, HearsSo}

-- a line is heard, whatever takes its answer
pub record HearsLine (t : Talking) (line : List ℕ) (u : Talking) : Type 0 where
  pub heard : Heard
  pub answer : List (List ℕ)
  pub so : HearsSo t line heard answer u

-- lines are heard, one after another
abbrev pub HearsLines : Talking → List (List ℕ) → Talking → Type 0
HearsLines t [] u = u ≡ t
HearsLines t (line ∷ lines) u = (b : Talking) × HearsLine t line b × HearsLines b lines u

-- lines are heard, one after another, with the models trusted before and behind each
abbrev pub HearsLinesInTrust : Talking → List (List ℕ) → Talking → Type 0
HearsLinesInTrust t [] u = (t.hearing.guarding.trusted ≡ true) × (u ≡ t)
HearsLinesInTrust t (line ∷ lines) u =
    (t.hearing.guarding.trusted ≡ true)
    × ((b : Talking) × HearsLine t line b × HearsLinesInTrust b lines u)

-- lines are heard, of which the last is `resume`, is answered `resumed`, and brings trust back
pub record EndsResumed (t : Talking) (lines : List (List ℕ)) (u : Talking) : Type 0 where
  pub earlier : List (List ℕ)
  pub are : lines ≡ earlier ++ codes "resume" ∷ []
  pub untrusted : Talking
  pub heard : HearsLines t earlier untrusted
  pub last : HearsLine untrusted (codes "resume") u
  pub answered : last.answer ≡ resumed_line (time_of u) ∷ []
  pub resumes : Resumes untrusted.hearing u.hearing

-- the models are trusted since this moment: since the first line, or since a `resume` that was
-- answered `resumed`. From then on lines were heard in trust only, and what happened is an observed
-- run
pub record IsTrustedSince (t : Talking) (lines : List (List ℕ)) (since u : Talking) : Type 0 where
  pub before : List (List ℕ)
  pub after : List (List ℕ)
  pub all : lines ≡ before ++ after
  pub begins : ((before ≡ []) × (since ≡ t)) ⊎ EndsResumed t before since
  pub trusted : HearsLinesInTrust since after u
  pub observed : IsObserved since.hearing u.hearing

-- tubes are kept where the models are trusted
abbrev pub KeepsTalkTubes : Talking → Type 0
KeepsTalkTubes t = KeepsTubesInTrust t.hearing

-- as long as the models are trusted, a talk is an observed run
abbrev pub TrustedTalksAreObserved : Type 0
TrustedTalksAreObserved =
    (t u : Talking) (lines : List (List ℕ)) → HearsLinesInTrust t lines u
    → IsObserved t.hearing u.hearing

-- wherever the models are trusted, they are since the first line, or since a `resume`
abbrev pub TrustComesBackByAResume : Type 0
TrustComesBackByAResume =
    (t u : Talking) (lines : List (List ℕ)) → HearsLines t lines u
    → u.hearing.guarding.trusted ≡ true → (since : Talking) × IsTrustedSince t lines since u

-- in a talk that kept tubes at its beginning, if it was trusted then, every plant is observed
-- inside its modules' safe regions wherever the models are trusted
abbrev pub TrustedTalksAreSafe : Type 0
TrustedTalksAreSafe =
    (t u : Talking) (lines : List (List ℕ)) → MeetsTableRules (tables_of t)
    → IsWellCertified (tables_of t) (jitter_of t.hearing) t.hearing.guarding.accepted.cert
    → KeepsTalkTubes t → HearsLines t lines u → u.hearing.guarding.trusted ≡ true
    → IsSafeNow (tables_of t) (jitter_of t.hearing) u.hearing.guarding.at

-- at the beginning of a talk a node is left to fire exactly where it is due: `begins` names those
-- that are external
abbrev pub BeginsNamesWhoIsHeard : Type 0
BeginsNamesWhoIsHeard =
    (p : Tables) (time : ℕ) (starts : List (List ℤ)) (C : Configuration)
    → IsOpeningAt p time starts C → (n : ℕ) (node : NodeInfo) → At p.nodes n node
    → (is_left C n ≡ true) ↔ (is_due node C.time ≡ true)

-- behind an instant that was gone through and a tick that was taken, whether a plant is outside or
-- not, an external node is left to fire exactly where `ready` named it: then its draft is taken
abbrev pub ReadyNamesWhoIsHeard : Type 0
ReadyNamesWhoIsHeard =
    (h k u : Hearing) (points : List (List ℤ)) (outside : Option Outside)
    → MeetsTableRules (program_of h) → GoesThrough h k → TakesTick k points outside u
    → (n : ℕ) (node : NodeInfo) → At (program_of h).nodes n node → node.body ≡ None
    → (is_left u.guarding.at n ≡ true) ↔ (is_due node (suc h.guarding.at.time) ≡ true)
