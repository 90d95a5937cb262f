-- What a talk keeps to whatever is said, and where its models are not trusted: a plant was told to be
-- outside, or a line could not be taken, and no `resume` was answered `resumed` since then.
use Rattle.std.specs.Prelude.{ℕ, ℤ, Bool, true, false, not, ◌||◌, ◌==◌, ◌≡◌, ◌≢◌, List, [], ◌∷◌}
use Rattle.std.specs.Prelude.{Some, codes, ◌⊎◌}
use Rattle.sot_lists.specs.Places.{At}
use Rattle.sot_lang.specs.declared.tables.ModuleInfo.{ModuleInfo}
use Rattle.sot_lang.specs.Tables.{Tables}
use Rattle.sot_world.specs.declared.mode.Mode.TheVariants.{Sc}
use Rattle.sot_world.specs.Configurations.{mode_of, is_left}
use Rattle.sot_world.specs.Steps.{published}
use Rattle.sot_trace.specs.Lines.{writes_of}
use Rattle.sot_guard.specs.declared.outside.Outside.{Outside}
use Rattle.sot_guard.specs.declared.told.Told.{Told}
use Rattle.sot_guard.specs.declared.told.Told.TheVariants.{Decided, Fired}
use Rattle.sot_guard.specs.Outside.{IsFirstOutside}
use Rattle.sot_guard.specs.Hearing.{Resumes}
use Rattle.sot_guard_lines.specs.Lines.{resumed_line}
use Rattle.sot_guard_protocol.specs.declared.heard.Heard.TheVariants.{Go, Tick, Ignored, Blind}
use Rattle.sot_guard_protocol.specs.declared.aside.Aside.{Aside}
use Rattle.sot_guard_protocol.specs.declared.aside.Aside.TheVariants.{Resume}
use Rattle.sot_guard_protocol.specs.Asides.{aside_of}
use Rattle.sot_guard_protocol.specs.Answers.{instant_lines, outside_lines}
use Rattle.sot_guard_protocol.specs.Talks.{Talking, tables_of, time_of, scalars_of}
use Rattle.sot_guard_protocol.specs.TalkLaws.{HearsLine, HearsLines, IsTrustedSince, EndsResumed}

abbrev pub is_trusted : Talking → Bool
is_trusted t = t.hearing.guarding.trusted

-- where all plants were observed last
abbrev pub points_of : Talking → List (List ℤ)
points_of t = t.hearing.guarding.at.points

-- what was told of the last instant
abbrev pub told_of : Talking → List Told
told_of t = t.hearing.told

-- every module is in mode Sc
abbrev pub AreAllSc : Talking → Type 0
AreAllSc t = (m : ℕ) → mode_of t.hearing.guarding.at m ≡ Sc

-- every module is in mode Sc where the models are not trusted
abbrev pub AreScInDistrust : Talking → Type 0
AreScInDistrust t = is_trusted t ≡ false → AreAllSc t

-- some module has this node as its advanced controller
abbrev pub is_advanced : List ModuleInfo → ℕ → Bool
is_advanced [] n = false
is_advanced (m ∷ ms) n = (m.ac == n) || is_advanced ms n

-- the numbers of all scalars after what is told of an instant, of which nothing counts that an
-- advanced controller drafts
abbrev pub put_by_others : Tables → List Told → List ℤ → List ℤ
put_by_others p [] xs = xs
put_by_others p (Decided m mode ∷ es) xs = put_by_others p es xs
put_by_others p (Fired n firing ∷ es) xs =
    put_by_others p es
    (published (not (is_advanced p.modules n)) p (writes_of p n) firing.draft xs)

-- once the models are not trusted, they are trusted again only since a `resume` that was answered
-- `resumed`
abbrev pub DistrustLastsUntilAResume : Type 0
DistrustLastsUntilAResume =
    (t u : Talking) (lines : List (List ℕ)) → HearsLines t lines u → is_trusted t ≡ false
    → is_trusted u ≡ true
    → (since : Talking) × (s : IsTrustedSince t lines since u) × EndsResumed t s.before since

-- the line is `resume`, is answered `resumed`, and brings trust back
pub record BringsTrustBack (t u : Talking) (line : List ℕ) (answer : List (List ℕ)) : Type 0 where
  pub line_is : line ≡ codes "resume"
  pub answered : answer ≡ resumed_line (time_of u) ∷ []
  pub resumes : Resumes t.hearing u.hearing

-- the trust comes back in no other line
abbrev pub NoOtherLineBringsTrustBack : Type 0
NoOtherLineBringsTrustBack =
    (t u : Talking) (line : List ℕ) (h : HearsLine t line u) → is_trusted t ≡ false
    → is_trusted u ≡ true → BringsTrustBack t u line h.answer

-- the answer is the line that tells the first state variable which is observed outside its interval
pub record TellsOutside (t u : Talking) (answer : List (List ℕ)) : Type 0 where
  pub outside : Outside
  pub first : IsFirstOutside (tables_of t) (scalars_of t) (points_of t) (points_of u) outside
  pub line : answer ≡ outside_lines (tables_of u) (time_of u) (Some outside)

-- the trust ends in no line but in a tick after which a plant is told to be outside, and in one that
-- is told to be `blind`
abbrev pub TrustEndsByAnOutside : Type 0
TrustEndsByAnOutside =
    (t u : Talking) (line : List ℕ) (h : HearsLine t line u) → is_trusted t ≡ true
    → is_trusted u ≡ false → ((h.heard ≡ Tick) × TellsOutside t u h.answer) ⊎ (h.heard ≡ Blind)

-- whatever stands in a draft or in an input, the trust in the models stays as it was
abbrev pub AsidesKeepTrust : Type 0
AsidesKeepTrust =
    (t u : Talking) (line : List ℕ) (aside : Aside) → aside_of line ≡ Some aside
    → aside ≢ Resume → HearsLine t line u → is_trusted u ≡ is_trusted t

-- .. and whatever stands in a resume, it does not end
abbrev pub AsidesEndNoTrust : Type 0
AsidesEndNoTrust =
    (t u : Talking) (line : List ℕ) (aside : Aside) → aside_of line ≡ Some aside
    → HearsLine t line u → is_trusted t ≡ true → is_trusted u ≡ true

-- a draft, an input or a resume that is told to be ignored changes nothing
abbrev pub IgnoredLinesChangeNothing : Type 0
IgnoredLinesChangeNothing =
    (t u : Talking) (line : List ℕ) (h : HearsLine t line u) → h.heard ≡ Ignored → u ≡ t

-- a line that is told to be `blind` ends the trust, and every module is in mode Sc
abbrev pub BlindEndsTrust : Type 0
BlindEndsTrust =
    (t u : Talking) (line : List ℕ) (h : HearsLine t line u) → h.heard ≡ Blind
    → (is_trusted u ≡ false) × AreAllSc u

-- a tick after which a plant is told to be outside ends the trust, and every module is in mode Sc
abbrev pub OutsideEndsTrust : Type 0
OutsideEndsTrust =
    (t u : Talking) (line : List ℕ) (h : HearsLine t line u) → h.heard ≡ Tick → h.answer ≢ []
    → (is_trusted t ≡ true) × (is_trusted u ≡ false) × AreAllSc u

-- where the trust ends, the safe node of each module is left to fire at once
abbrev pub EndOfTrustAsksSafeNodes : Type 0
EndOfTrustAsksSafeNodes =
    (t u : Talking) (line : List ℕ) (h : HearsLine t line u) → is_trusted t ≡ true
    → is_trusted u ≡ false → h.heard ≡ Tick → (m : ℕ) (a : ModuleInfo)
    → At (tables_of t).modules m a → is_left u.hearing.guarding.at a.sc ≡ true

-- modes stay Sc
abbrev pub ModesStaySc : Type 0
ModesStaySc =
    (t u : Talking) (lines : List (List ℕ)) → HearsLines t lines u → AreScInDistrust t
    → AreScInDistrust u

-- a talk that begins with trust has every module in mode Sc wherever it has lost it
abbrev pub DistrustedTalksAreInModeSc : Type 0
DistrustedTalksAreInModeSc =
    (t u : Talking) (lines : List (List ℕ)) → is_trusted t ≡ true → HearsLines t lines u
    → is_trusted u ≡ false → AreAllSc u

-- what is told of an instant without trust: a decision is for mode Sc, and a firing is enabled but
-- where its node is an advanced controller
abbrev pub IsSafelyTold : Tables → Told → Type 0
IsSafelyTold p (Decided m mode) = mode ≡ Sc
IsSafelyTold p (Fired n firing) = firing.enabled ≡ not (is_advanced p.modules n)

-- an instant is gone through so, and the numbers in force afterwards, which are told as held, are
-- those before it with what nodes that are no advanced controllers drafted
pub record IsSafeInstant (t u : Talking) (answer : List (List ℕ)) : Type 0 where
  pub answered : answer ≡ instant_lines (tables_of u) (time_of u) (scalars_of u) (told_of u)
  pub told : (i : ℕ) (e : Told) → At (told_of u) i e → IsSafelyTold (tables_of t) e
  pub held : scalars_of u ≡ put_by_others (tables_of t) (told_of u) (scalars_of t)

-- in a talk that begins with trust each instant without it is such a one
abbrev pub DistrustedInstantsAreSafe : Type 0
DistrustedInstantsAreSafe =
    (s t u : Talking) (lines : List (List ℕ)) (line : List ℕ) → is_trusted s ≡ true
    → HearsLines s lines t → is_trusted t ≡ false → (h : HearsLine t line u) → h.heard ≡ Go
    → IsSafeInstant t u h.answer
