-- What a talk keeps to once the models are not trusted.
use Rattle.std.proofs.Common.{◌≡◌, ℕ, ℤ, Bool, true, false, List, [], ◌∷◌, Option, None, Some, inl, inr, refl, sym, ap, ◌∙◌, subst}
use Rattle.std.specs.Prelude.{MatchOption, slice_index_or, ◌≢◌, ◌⊎◌}
use Rattle.std.proofs.lemmas.Option.{none-some}
use Rattle.std.proofs.lemmas.Bool.{false≢true}
use Rattle.sot_world.specs.declared.mode.Mode.TheVariants.{Sc}
use Rattle.sot_guard.specs.declared.outside.Outside.{Outside}
use Rattle.sot_guard.specs.Outside.{IsFirstOutside}
use Rattle.sot_guard.specs.Guarding.{Guarding}
use Rattle.sot_guard.specs.Changes.{GoesOn, Withdraws, AsksSafeNodes}
use Rattle.sot_guard.specs.Instants.{AreTold}
use Rattle.sot_guard.specs.Hearing.{Hearing, jitter_of, GoesThrough, FallsBack}
use Rattle.sot_lists.specs.Places.{At}
use Rattle.sot_lang.specs.declared.tables.ModuleInfo.{ModuleInfo}
use Rattle.sot_tube.specs.Admitted.{Admitted}
use Rattle.sot_world.specs.Configurations.{mode_of, is_left}
use Rattle.sot_guard_lines.specs.Sayings.{Saying, StartSaid, InputSaid, DraftSaid, GoSaid, ResumeSaid, TickSaid, IsSaid}
use Rattle.sot_guard_protocol.specs.declared.heard.Heard.{Heard}
use Rattle.sot_guard_protocol.specs.declared.heard.Heard.TheVariants.{Go, Tick, Ignored, Blind}
use Rattle.sot_guard_protocol.specs.declared.aside.Aside.{Aside}
use Rattle.sot_guard_protocol.specs.declared.aside.Aside.TheVariants.{Resume}
use Rattle.sot_guard_protocol.specs.Asides.{aside_of}
use Rattle.sot_guard_protocol.specs.Answers.{outside_lines}
use Rattle.sot_guard_protocol.specs.Talks.{Talking, tables_of, time_of, AnswersResume, Takes, LosesSight, GoesOnBlind, GoesBlind, HearsSo}
use Rattle.sot_guard_protocol.specs.TalkLaws.{HearsLines, HearsLinesInTrust}
use Rattle.sot_guard_protocol.proofs.Conversing.{blind_off, so_on, comes_back}
use Rattle.sot_law_guard_fallback.specs.Distrust.{AreAllSc, AreScInDistrust, TellsOutside, IsSafeInstant, points_of}
use Rattle.sot_law_guard_fallback.specs.Distrust.{DistrustLastsUntilAResume, NoOtherLineBringsTrustBack, TrustEndsByAnOutside, OutsideEndsTrust, ModesStaySc, DistrustedTalksAreInModeSc}
use Rattle.sot_law_guard_fallback.specs.Distrust.{DistrustedInstantsAreSafe, AsidesKeepTrust, AsidesEndNoTrust, IgnoredLinesChangeNothing, BlindEndsTrust}
use Rattle.sot_law_guard_fallback.specs.Distrust.{EndOfTrustAsksSafeNodes}
use Rattle.sot_law_guard_fallback.proofs.Instants.{GoesInSc, told_in_sc}

-- modes stay Sc over a line
abbrev StaySc : Talking → Talking → Type 0
StaySc t u = AreScInDistrust t → AreScInDistrust u

same_stays : (t u : Talking) → u.hearing.guarding.trusted ≡ t.hearing.guarding.trusted → u.hearing.guarding.at.modes ≡ t.hearing.guarding.at.modes
    → StaySc t u
same_stays t u trusted modes safe off m = ap (λ l. slice_index_or l m Sc) modes ∙ safe (sym trusted ∙ off) m

-- what an instant without trust does
instant_in_sc : (t u : Talking) → GoesThrough t.hearing u.hearing → t.hearing.guarding.trusted ≡ false → AreAllSc t
    → GoesInSc (tables_of t) t.hearing.guarding.at u.hearing.guarding.at u.hearing.told
instant_in_sc t u goes off sc =
    told_in_sc (tables_of t) (jitter_of t.hearing) t.hearing.drafts t.hearing.guarding.at u.hearing.guarding.at u.hearing.told sc
    (subst (λ b. AreTold b (tables_of t) (jitter_of t.hearing) t.hearing.drafts t.hearing.guarding.at u.hearing.told u.hearing.guarding.at) off goes.happened)

go_stays : (t u : Talking) → GoesThrough t.hearing u.hearing → StaySc t u
go_stays t u goes safe off m =
    let before = sym goes.trusted ∙ off in
    ap (λ l. slice_index_or l m Sc) (instant_in_sc t u goes before (safe before)).modes ∙ safe before m

-- what asks the safe nodes leaves
asks_off : (old new : Guarding) → AsksSafeNodes old new → new.trusted ≡ old.trusted
asks_off old new asks = ap (λ (x : Guarding). x.trusted) asks.rest

asks_sc : (old new : Guarding) → AsksSafeNodes old new → ((m : ℕ) → mode_of old.at m ≡ Sc) → (m : ℕ) → mode_of new.at m ≡ Sc
asks_sc old new asks sc m = ap (λ (x : Guarding). slice_index_or x.at.modes m Sc) asks.rest ∙ sc m

judged_stays : (t u : Talking) (moved : Guarding) (points : List (List ℤ)) (o : Option Outside)
    → MatchOption o (GoesOn t.hearing.guarding moved) (λ x. Withdraws t.hearing.guarding moved points x)
    → MatchOption o (u.hearing.guarding ≡ moved) (λ x. AsksSafeNodes moved u.hearing.guarding) → StaySc t u
judged_stays t u moved points None g asked =
    same_stays t u (ap (λ (x : Guarding). x.trusted) asked ∙ g.trusted) (ap (λ (x : Guarding). x.at.modes) asked ∙ g.modes)
judged_stays t u moved points (Some o) w asked = λ safe off. asks_sc moved u.hearing.guarding asked w.modes

-- where trust comes back it is not distrust
resume_stays : (t u : Talking) (m : Option ℕ) → AnswersResume t.hearing m u.hearing → StaySc t u
resume_stays t u None resumes = λ safe off. absurd (false≢true (sym off ∙ resumes.regains.is))
resume_stays t u (Some m) (same, kept) =
    same_stays t u (ap (λ (x : Hearing). x.guarding.trusted) same) (ap (λ (x : Hearing). x.guarding.at.modes) same)

takes_stays : (t u : Talking) (s : Saying) (h : Heard) (answer : List (List ℕ)) → Takes t s h answer u → StaySc t u
takes_stays t u (StartSaid plant point) h answer takes = absurd takes
takes_stays t u (InputSaid topic value) h answer takes =
    same_stays t u (ap (λ (x : Hearing). x.guarding.trusted) takes.1.rest) (ap (λ x. x.modes) takes.1.step.rest)
takes_stays t u (DraftSaid node slots) h answer takes =
    same_stays t u (ap (λ (x : Hearing). x.guarding.trusted) takes.1.rest) (ap (λ (x : Hearing). x.guarding.at.modes) takes.1.rest)
takes_stays t u GoSaid h answer takes = go_stays t u takes.1
takes_stays t u ResumeSaid h answer takes = resume_stays t u takes.0 takes.2
takes_stays t u (TickSaid states) h answer takes = judged_stays t u takes.2.moved _ takes.0 takes.2.judged takes.2.asked

fallen_sc : (old new : Guarding) → FallsBack old new → (m : ℕ) → mode_of new.at m ≡ Sc
fallen_sc old new falls = asks_sc falls.between new falls.asks falls.distrusts.modes

-- what a line leaves that is not taken, and is no draft, no input and no resume
lost_sc : (t k : Talking) → LosesSight t k → (m : ℕ) → mode_of k.hearing.guarding.at m ≡ Sc
lost_sc t k (inl unseen) = fallen_sc unseen.0.moved k.hearing.guarding unseen.0.falls
lost_sc t k (inr withdrawn) = fallen_sc t.hearing.guarding k.hearing.guarding withdrawn.1.falls

on_blind_stays : (k u : Talking) (line : List ℕ) (more : List (List ℕ)) → GoesOnBlind k line more u → StaySc k u
on_blind_stays k u line more (inl goes) = go_stays k u goes.1
on_blind_stays k u line more (inr same) =
    same_stays k u (ap (λ (x : Talking). x.hearing.guarding.trusted) same.1) (ap (λ (x : Talking). x.hearing.guarding.at.modes) same.1)

blind_sc : (t u : Talking) (line : List ℕ) (h : Heard) (answer : List (List ℕ)) → GoesBlind t line h answer u
    → (u.hearing.guarding.trusted ≡ false) × AreAllSc u
blind_sc t u line h answer b =
    let off = blind_off t u line h answer b in
    (off, on_blind_stays b.unseeing u line b.more b.goes_on (λ _ m. lost_sc t b.unseeing b.loses m) off)

so_stays : (t u : Talking) (line : List ℕ) (h : Heard) (answer : List (List ℕ)) → HearsSo t line h answer u → StaySc t u
so_stays t u line h answer (inl taken) = takes_stays t u taken.saying h answer taken.takes
so_stays t u line h answer (inr (inl ignored)) =
    same_stays t u (ap (λ (x : Talking). x.hearing.guarding.trusted) ignored.same) (ap (λ (x : Talking). x.hearing.guarding.at.modes) ignored.same)
so_stays t u line h answer (inr (inr blind)) = λ safe off. (blind_sc t u line h answer blind).1

lines_stay : (t u : Talking) (lines : List (List ℕ)) → HearsLines t lines u → StaySc t u
lines_stay t u [] same =
    same_stays t u (ap (λ (x : Talking). x.hearing.guarding.trusted) same) (ap (λ (x : Talking). x.hearing.guarding.at.modes) same)
lines_stay t u (line ∷ lines) (b, one, more) = λ safe. lines_stay b u lines more (so_stays t b line one.heard one.answer one.so safe)

never_both : (b : Bool) → b ≡ true → b ≡ false → ⊥
never_both b on off = false≢true (sym off ∙ on)

in_trust : (t u : Talking) (lines : List (List ℕ)) → HearsLinesInTrust t lines u → t.hearing.guarding.trusted ≡ true
in_trust t u [] hears = hears.0
in_trust t u (line ∷ lines) hears = hears.0

pub lasts : DistrustLastsUntilAResume
lasts t u lines hears off on =
    let back = comes_back t u lines hears on in
    let s = back.1 in
    elim s.begins [
      | inl (none, same) ↦ absurd (never_both t.hearing.guarding.trusted
          (subst (λ (x : Talking). x.hearing.guarding.trusted ≡ true) same (in_trust back.0 u s.after s.trusted)) off)
      | inr ends ↦ (back.0, s, ends)
    ]

pub no_other_line : NoOtherLineBringsTrustBack
no_other_line t u line h off on =
    elim (so_on t u line h.heard h.answer h.so on) [
      | inl before ↦ absurd (never_both t.hearing.guarding.trusted before off)
      | inr rises ↦ record { line_is = rises.is; answered = rises.answered; resumes = rises.resumes }
    ]

pub stay_sc : ModesStaySc
stay_sc t u lines hears safe = lines_stay t u lines hears safe

pub in_sc : DistrustedTalksAreInModeSc
in_sc t u lines on hears off = stay_sc t u lines hears (λ before. absurd (false≢true (sym before ∙ on))) off

-- a resume ends no trust
resume_on : (t u : Talking) (m : Option ℕ) → AnswersResume t.hearing m u.hearing → t.hearing.guarding.trusted ≡ true → u.hearing.guarding.trusted ≡ true
resume_on t u None resumes on = resumes.regains.is
resume_on t u (Some m) (same, kept) on = ap (λ (x : Hearing). x.guarding.trusted) same ∙ on

-- where trust ends
judged_ends : (t u : Talking) (moved : Guarding) (points : List (List ℤ)) (o : Option Outside) (answer : List (List ℕ))
    → t.hearing.guarding.trusted ≡ true → u.hearing.guarding.trusted ≡ false → moved.at.points ≡ points
    → MatchOption o (GoesOn t.hearing.guarding moved) (λ x. Withdraws t.hearing.guarding moved points x)
    → MatchOption o (u.hearing.guarding ≡ moved) (λ x. AsksSafeNodes moved u.hearing.guarding)
    → answer ≡ outside_lines (tables_of u) (time_of u) o → TellsOutside t u answer
judged_ends t u moved points None answer on off at g asked line =
    absurd (false≢true (sym off ∙ ap (λ (x : Guarding). x.trusted) asked ∙ g.trusted ∙ on))
judged_ends t u moved points (Some o) answer on off at w asked line = record {
  outside = o;
  first =
      subst (λ x. IsFirstOutside (tables_of t) t.hearing.guarding.at.scalars (points_of t) x o)
      (sym (ap (λ (x : Guarding). x.at.points) asked.rest ∙ at)) w.outside;
  line = line;
}

takes_ends : (t u : Talking) (s : Saying) (h : Heard) (answer : List (List ℕ)) → Takes t s h answer u → t.hearing.guarding.trusted ≡ true
    → u.hearing.guarding.trusted ≡ false → (h ≡ Tick) × TellsOutside t u answer
takes_ends t u (StartSaid plant point) h answer takes on off = absurd takes
takes_ends t u (InputSaid topic value) h answer takes on off =
    absurd (false≢true (sym off ∙ ap (λ (x : Hearing). x.guarding.trusted) takes.1.rest ∙ on))
takes_ends t u (DraftSaid node slots) h answer takes on off =
    absurd (false≢true (sym off ∙ ap (λ (x : Hearing). x.guarding.trusted) takes.1.rest ∙ on))
takes_ends t u GoSaid h answer takes on off = absurd (false≢true (sym off ∙ takes.1.trusted ∙ on))
takes_ends t u ResumeSaid h answer takes on off = absurd (never_both u.hearing.guarding.trusted (resume_on t u takes.0 takes.2 on) off)
takes_ends t u (TickSaid states) h answer takes on off =
    (takes.1, judged_ends t u takes.2.moved _ takes.0 answer on off takes.2.moves.points takes.2.judged takes.2.asked takes.4)

so_ends : (t u : Talking) (line : List ℕ) (h : Heard) (answer : List (List ℕ)) → HearsSo t line h answer u → t.hearing.guarding.trusted ≡ true
    → u.hearing.guarding.trusted ≡ false → ((h ≡ Tick) × TellsOutside t u answer) ⊎ (h ≡ Blind)
so_ends t u line h answer (inl taken) on off = inl (takes_ends t u taken.saying h answer taken.takes on off)
so_ends t u line h answer (inr (inl ignored)) on off =
    absurd (false≢true (sym off ∙ ap (λ (x : Talking). x.hearing.guarding.trusted) ignored.same ∙ on))
so_ends t u line h answer (inr (inr blind)) on off = inr blind.heard_is

pub ends : TrustEndsByAnOutside
ends t u line h on off = so_ends t u line h.heard h.answer h.so on off

judged_outside : (t u : Talking) (moved : Guarding) (points : List (List ℤ)) (o : Option Outside) (answer : List (List ℕ)) → answer ≢ []
    → MatchOption o (GoesOn t.hearing.guarding moved) (λ x. Withdraws t.hearing.guarding moved points x)
    → MatchOption o (u.hearing.guarding ≡ moved) (λ x. AsksSafeNodes moved u.hearing.guarding)
    → answer ≡ outside_lines (tables_of u) (time_of u) o
    → (t.hearing.guarding.trusted ≡ true) × (u.hearing.guarding.trusted ≡ false) × AreAllSc u
judged_outside t u moved points None answer some g asked line = absurd (some line)
judged_outside t u moved points (Some o) answer some w asked line =
    (w.was, asks_off moved u.hearing.guarding asked ∙ w.is, asks_sc moved u.hearing.guarding asked w.modes)

takes_outside : (t u : Talking) (s : Saying) (h : Heard) (answer : List (List ℕ)) → Takes t s h answer u → h ≡ Tick → answer ≢ []
    → (t.hearing.guarding.trusted ≡ true) × (u.hearing.guarding.trusted ≡ false) × AreAllSc u
takes_outside t u (StartSaid plant point) h answer takes tick some = absurd takes
takes_outside t u (InputSaid topic value) h answer takes tick some = (let e = sym takes.0 ∙ tick in cc)
takes_outside t u (DraftSaid node slots) h answer takes tick some = (let e = sym takes.0 ∙ tick in cc)
takes_outside t u GoSaid h answer takes tick some = (let e = sym takes.0 ∙ tick in cc)
takes_outside t u ResumeSaid h answer takes tick some = (let e = sym takes.1 ∙ tick in cc)
takes_outside t u (TickSaid states) h answer takes tick some = judged_outside t u takes.2.moved _ takes.0 answer some takes.2.judged takes.2.asked takes.4

so_outside : (t u : Talking) (line : List ℕ) (h : Heard) (answer : List (List ℕ)) → HearsSo t line h answer u → h ≡ Tick → answer ≢ []
    → (t.hearing.guarding.trusted ≡ true) × (u.hearing.guarding.trusted ≡ false) × AreAllSc u
so_outside t u line h answer (inl taken) tick some = takes_outside t u taken.saying h answer taken.takes tick some
so_outside t u line h answer (inr (inl ignored)) tick some = (let e = sym ignored.heard_is ∙ tick in cc)
so_outside t u line h answer (inr (inr blind)) tick some = (let e = sym blind.heard_is ∙ tick in cc)

pub outside_ends : OutsideEndsTrust
outside_ends t u line h tick some = so_outside t u line h.heard h.answer h.so tick some

-- who is asked where it ends
judged_asks : (t u : Talking) (moved : Guarding) (points : List (List ℤ)) (o : Option Outside) → t.hearing.guarding.trusted ≡ true
    → u.hearing.guarding.trusted ≡ false
    → MatchOption o (GoesOn t.hearing.guarding moved) (λ x. Withdraws t.hearing.guarding moved points x)
    → MatchOption o (u.hearing.guarding ≡ moved) (λ x. AsksSafeNodes moved u.hearing.guarding)
    → u.hearing.guarding.accepted ≡ t.hearing.guarding.accepted → (m : ℕ) (a : ModuleInfo) → At (tables_of t).modules m a
    → is_left u.hearing.guarding.at a.sc ≡ true
judged_asks t u moved points None on off g asked same m a at =
    absurd (false≢true (sym off ∙ ap (λ (x : Guarding). x.trusted) asked ∙ g.trusted ∙ on))
judged_asks t u moved points (Some o) on off w asked same m a at =
    let as_moved = sym same ∙ ap (λ (x : Guarding). x.accepted) asked.rest in
    (asked.left a.sc).1 (inr (m, a, subst (λ (x : Admitted). At x.program.modules m a) as_moved at, refl))

takes_asks : (t u : Talking) (s : Saying) (h : Heard) (answer : List (List ℕ)) → Takes t s h answer u → h ≡ Tick → t.hearing.guarding.trusted ≡ true
    → u.hearing.guarding.trusted ≡ false → (m : ℕ) (a : ModuleInfo) → At (tables_of t).modules m a → is_left u.hearing.guarding.at a.sc ≡ true
takes_asks t u (StartSaid plant point) h answer takes tick on off = absurd takes
takes_asks t u (InputSaid topic value) h answer takes tick on off = (let e = sym takes.0 ∙ tick in cc)
takes_asks t u (DraftSaid node slots) h answer takes tick on off = (let e = sym takes.0 ∙ tick in cc)
takes_asks t u GoSaid h answer takes tick on off = (let e = sym takes.0 ∙ tick in cc)
takes_asks t u ResumeSaid h answer takes tick on off = (let e = sym takes.1 ∙ tick in cc)
takes_asks t u (TickSaid states) h answer takes tick on off =
    judged_asks t u takes.2.moved _ takes.0 on off takes.2.judged takes.2.asked takes.2.accepted

so_asks : (t u : Talking) (line : List ℕ) (h : Heard) (answer : List (List ℕ)) → HearsSo t line h answer u → h ≡ Tick
    → t.hearing.guarding.trusted ≡ true → u.hearing.guarding.trusted ≡ false → (m : ℕ) (a : ModuleInfo) → At (tables_of t).modules m a
    → is_left u.hearing.guarding.at a.sc ≡ true
so_asks t u line h answer (inl taken) tick on off = takes_asks t u taken.saying h answer taken.takes tick on off
so_asks t u line h answer (inr (inl ignored)) tick on off = (let e = sym ignored.heard_is ∙ tick in cc)
so_asks t u line h answer (inr (inr blind)) tick on off = (let e = sym blind.heard_is ∙ tick in cc)

pub asks_safe_nodes : EndOfTrustAsksSafeNodes
asks_safe_nodes t u line h on off tick = so_asks t u line h.heard h.answer h.so tick on off

takes_instant : (t u : Talking) (s : Saying) (h : Heard) (answer : List (List ℕ)) → Takes t s h answer u → h ≡ Go → t.hearing.guarding.trusted ≡ false
    → AreAllSc t → IsSafeInstant t u answer
takes_instant t u (StartSaid plant point) h answer takes go off sc = absurd takes
takes_instant t u (InputSaid topic value) h answer takes go off sc = (let e = sym takes.0 ∙ go in cc)
takes_instant t u (DraftSaid node slots) h answer takes go off sc = (let e = sym takes.0 ∙ go in cc)
takes_instant t u ResumeSaid h answer takes go off sc = (let e = sym takes.1 ∙ go in cc)
takes_instant t u (TickSaid states) h answer takes go off sc = (let e = sym takes.1 ∙ go in cc)
takes_instant t u GoSaid h answer takes go off sc =
    let instant = instant_in_sc t u takes.1 off sc in
    record { answered = takes.3; told = instant.told; held = instant.held }

so_instant : (t u : Talking) (line : List ℕ) (h : Heard) (answer : List (List ℕ)) → HearsSo t line h answer u → h ≡ Go
    → t.hearing.guarding.trusted ≡ false → AreAllSc t → IsSafeInstant t u answer
so_instant t u line h answer (inl taken) go off sc = takes_instant t u taken.saying h answer taken.takes go off sc
so_instant t u line h answer (inr (inl ignored)) go off sc = (let e = sym ignored.heard_is ∙ go in cc)
so_instant t u line h answer (inr (inr blind)) go off sc = (let e = sym blind.heard_is ∙ go in cc)

pub instants : DistrustedInstantsAreSafe
instants s t u lines line on hears off h go = so_instant t u line h.heard h.answer h.so go off (in_sc s t lines on hears off)

-- a line of no draft, no input and no resume
is_none : {A : Type 0} (o : Option A) (x : A) → o ≡ None → o ≡ Some x → ⊥
is_none o x none some = none-some x (sym none ∙ some)

takes_keeps : (t u : Talking) (line : List ℕ) (aside : Aside) → aside_of line ≡ Some aside → aside ≢ Resume → (s : Saying) → IsSaid (tables_of t) line s
    → (h : Heard) (answer : List (List ℕ)) → Takes t s h answer u → u.hearing.guarding.trusted ≡ t.hearing.guarding.trusted
takes_keeps t u line aside is other (StartSaid plant point) said h answer takes = absurd takes
takes_keeps t u line aside is other (InputSaid topic value) said h answer takes = ap (λ (x : Hearing). x.guarding.trusted) takes.1.rest
takes_keeps t u line aside is other (DraftSaid node slots) said h answer takes = ap (λ (x : Hearing). x.guarding.trusted) takes.1.rest
takes_keeps t u line aside is other GoSaid said h answer takes = takes.1.trusted
takes_keeps t u line aside is other ResumeSaid said h answer takes =
    absurd (other (let e : Some aside ≡ Some Resume = sym is ∙ ap aside_of said.1 in cc))
takes_keeps t u line aside is other (TickSaid states) said h answer takes =
    absurd (none-some aside (ap aside_of (sym said.1) ∙ is))

so_keeps : (t u : Talking) (line : List ℕ) (aside : Aside) → aside_of line ≡ Some aside → aside ≢ Resume → (h : Heard) (answer : List (List ℕ))
    → HearsSo t line h answer u → u.hearing.guarding.trusted ≡ t.hearing.guarding.trusted
so_keeps t u line aside is other h answer (inl taken) = takes_keeps t u line aside is other taken.saying taken.said h answer taken.takes
so_keeps t u line aside is other h answer (inr (inl ignored)) = ap (λ (x : Talking). x.hearing.guarding.trusted) ignored.same
so_keeps t u line aside is other h answer (inr (inr blind)) = absurd (is_none (aside_of line) aside blind.none is)

pub asides : AsidesKeepTrust
asides t u line aside is other h = so_keeps t u line aside is other h.heard h.answer h.so

takes_ends_not : (t u : Talking) (line : List ℕ) (aside : Aside) → aside_of line ≡ Some aside → (s : Saying) → IsSaid (tables_of t) line s
    → (h : Heard) (answer : List (List ℕ)) → Takes t s h answer u → t.hearing.guarding.trusted ≡ true → u.hearing.guarding.trusted ≡ true
takes_ends_not t u line aside is (StartSaid plant point) said h answer takes on = absurd takes
takes_ends_not t u line aside is (InputSaid topic value) said h answer takes on = ap (λ (x : Hearing). x.guarding.trusted) takes.1.rest ∙ on
takes_ends_not t u line aside is (DraftSaid node slots) said h answer takes on = ap (λ (x : Hearing). x.guarding.trusted) takes.1.rest ∙ on
takes_ends_not t u line aside is GoSaid said h answer takes on = takes.1.trusted ∙ on
takes_ends_not t u line aside is ResumeSaid said h answer takes on = resume_on t u takes.0 takes.2 on
takes_ends_not t u line aside is (TickSaid states) said h answer takes on =
    absurd (none-some aside (ap aside_of (sym said.1) ∙ is))

so_ends_not : (t u : Talking) (line : List ℕ) (aside : Aside) → aside_of line ≡ Some aside → (h : Heard) (answer : List (List ℕ))
    → HearsSo t line h answer u → t.hearing.guarding.trusted ≡ true → u.hearing.guarding.trusted ≡ true
so_ends_not t u line aside is h answer (inl taken) on = takes_ends_not t u line aside is taken.saying taken.said h answer taken.takes on
so_ends_not t u line aside is h answer (inr (inl ignored)) on = ap (λ (x : Talking). x.hearing.guarding.trusted) ignored.same ∙ on
so_ends_not t u line aside is h answer (inr (inr blind)) on = absurd (is_none (aside_of line) aside blind.none is)

pub asides_end_none : AsidesEndNoTrust
asides_end_none t u line aside is h on = so_ends_not t u line aside is h.heard h.answer h.so on

-- what is taken is told by other words
never_ignored : (t u : Talking) (s : Saying) (h : Heard) (answer : List (List ℕ)) → Takes t s h answer u → h ≡ Ignored → ⊥
never_ignored t u (StartSaid plant point) h answer takes is = takes
never_ignored t u (InputSaid topic value) h answer takes is = (let e = sym takes.0 ∙ is in cc)
never_ignored t u (DraftSaid node slots) h answer takes is = (let e = sym takes.0 ∙ is in cc)
never_ignored t u GoSaid h answer takes is = (let e = sym takes.0 ∙ is in cc)
never_ignored t u ResumeSaid h answer takes is = (let e = sym takes.1 ∙ is in cc)
never_ignored t u (TickSaid states) h answer takes is = (let e = sym takes.1 ∙ is in cc)

never_blind : (t u : Talking) (s : Saying) (h : Heard) (answer : List (List ℕ)) → Takes t s h answer u → h ≡ Blind → ⊥
never_blind t u (StartSaid plant point) h answer takes is = takes
never_blind t u (InputSaid topic value) h answer takes is = (let e = sym takes.0 ∙ is in cc)
never_blind t u (DraftSaid node slots) h answer takes is = (let e = sym takes.0 ∙ is in cc)
never_blind t u GoSaid h answer takes is = (let e = sym takes.0 ∙ is in cc)
never_blind t u ResumeSaid h answer takes is = (let e = sym takes.1 ∙ is in cc)
never_blind t u (TickSaid states) h answer takes is = (let e = sym takes.1 ∙ is in cc)

so_ignored : (t u : Talking) (line : List ℕ) (h : Heard) (answer : List (List ℕ)) → HearsSo t line h answer u → h ≡ Ignored → u ≡ t
so_ignored t u line h answer (inl taken) is = absurd (never_ignored t u taken.saying h answer taken.takes is)
so_ignored t u line h answer (inr (inl ignored)) is = ignored.same
so_ignored t u line h answer (inr (inr blind)) is = (let e = sym blind.heard_is ∙ is in cc)

pub ignored_same : IgnoredLinesChangeNothing
ignored_same t u line h is = so_ignored t u line h.heard h.answer h.so is

so_blind : (t u : Talking) (line : List ℕ) (h : Heard) (answer : List (List ℕ)) → HearsSo t line h answer u → h ≡ Blind
    → (u.hearing.guarding.trusted ≡ false) × AreAllSc u
so_blind t u line h answer (inl taken) is = absurd (never_blind t u taken.saying h answer taken.takes is)
so_blind t u line h answer (inr (inl ignored)) is = (let e = sym ignored.heard_is ∙ is in cc)
so_blind t u line h answer (inr (inr blind)) is = blind_sc t u line h answer blind

pub blind_ends : BlindEndsTrust
blind_ends t u line h is = so_blind t u line h.heard h.answer h.so is
