-- A talk line by line is a session, wherever its models are trusted.
use Rattle.std.proofs.Common.{◌≡◌, ℕ, ℤ, Bool, true, false, List, [], ◌∷◌, ◌++◌, Option, None, Some, inl, inr, refl, sym, ap, ◌∙◌, subst, codes}
use Rattle.std.specs.Prelude.{MatchOption, ◌⊎◌}
use Rattle.std.proofs.lemmas.Bool.{false≢true}
use Rattle.sot_tube.specs.Admitted.{Admitted}
use Rattle.sot_tube.specs.Certified.{IsWellCertified}
use Rattle.sot_lang.specs.TableRules.{MeetsTableRules}
use Rattle.sot_world.specs.Headline.{IsSafeNow}
use Rattle.sot_law_observed_runs.specs.Tubes.{KeepsTubes}
use Rattle.sot_guard.specs.declared.outside.Outside.{Outside}
use Rattle.sot_guard.specs.Guarding.{Guarding}
use Rattle.sot_guard.specs.Changes.{GoesOn, Withdraws, AsksSafeNodes}
use Rattle.sot_guard.specs.Hearing.{Hearing, FallsBack, Resumes}
use Rattle.sot_guard.specs.Conversations as said
use Rattle.sot_guard.proofs.Talks.{observed, safe}
use Rattle.sot_summary.specs.Outside.{points_in}
use Rattle.sot_guard_lines.specs.Lines.{resumed_line}
use Rattle.sot_guard_lines.specs.Sayings.{Saying, StartSaid, InputSaid, DraftSaid, GoSaid, ResumeSaid, TickSaid, IsSaid}
use Rattle.sot_guard_protocol.specs.declared.heard.Heard.{Heard}
use Rattle.sot_guard_protocol.specs.Answers.{resume_line}
use Rattle.sot_guard_protocol.specs.Talks.{Talking, tables_of, time_of, draft_of, AnswersResume, Takes, LosesSight, GoesOnBlind, GoesBlind, HearsSo}
use Rattle.sot_guard_protocol.specs.TalkLaws.{HearsLine, HearsLines, HearsLinesInTrust, EndsResumed, IsTrustedSince, KeepsTalkTubes}
use Rattle.sot_guard_protocol.specs.TalkLaws.{TrustedTalksAreObserved, TrustComesBackByAResume, TrustedTalksAreSafe}

never_both : (b : Bool) {A : Type 0} → b ≡ true → b ≡ false → A
never_both b on off = absurd (false≢true (sym off ∙ on))

-- what is heard of a session from here to there, in trust
Through : Hearing → Hearing → Type 0
Through h k = (xs : List said.Heard) × said.HearsInTrust h xs k

-- nothing is to be resumed where the models are trusted
no_resume : (t b : Talking) (m : Option ℕ) → AnswersResume t.hearing m b.hearing → t.hearing.guarding.trusted ≡ false
no_resume t b None resumes = resumes.regains.was
no_resume t b (Some m) (same, kept) = kept.trusted

one_more : (t b : Talking) (s : Saying) (h : Heard) (answer : List (List ℕ)) → Takes t s h answer b → t.hearing.guarding.trusted ≡ true → (k : Hearing)
    → Through b.hearing k → Through t.hearing k
unfolding Through
one_more t b (StartSaid plant point) h answer takes on k more = absurd takes
one_more t b (InputSaid topic value) h answer takes on k more = (said.Input topic value ∷ more.0, (on, (b.hearing, takes.1, more.1)))
one_more t b (DraftSaid node slots) h answer takes on k more = (said.Draft node (draft_of slots) ∷ more.0, (on, (b.hearing, takes.1, more.1)))
one_more t b GoSaid h answer takes on k more = (said.Go ∷ more.0, (on, (b.hearing, takes.1, more.1)))
one_more t b ResumeSaid h answer takes on k more = never_both t.hearing.guarding.trusted on (no_resume t b takes.0 takes.2)
one_more t b (TickSaid states) h answer takes on k more =
    (said.Points (points_in (tables_of t).plants states) ∷ more.0, (on, (b.hearing, (takes.0, takes.2), more.1)))

-- the line brings trust back
record Regains (t b : Talking) (s : Saying) (answer : List (List ℕ)) : Type 0 where
  pub says : s ≡ ResumeSaid
  pub resumes : Resumes t.hearing b.hearing
  pub answered : answer ≡ resumed_line (time_of b) ∷ []

-- trust after a line is trust before it, or the line brings it back
judged_on : (t b : Talking) (moved : Guarding) (points : List (List ℤ)) (o : Option Outside)
    → MatchOption o (GoesOn t.hearing.guarding moved) (λ x. Withdraws t.hearing.guarding moved points x)
    → MatchOption o (b.hearing.guarding ≡ moved) (λ x. AsksSafeNodes moved b.hearing.guarding)
    → b.hearing.guarding.trusted ≡ true → t.hearing.guarding.trusted ≡ true
judged_on t b moved points None g asked on = sym g.trusted ∙ sym (ap (λ (x : Guarding). x.trusted) asked) ∙ on
judged_on t b moved points (Some o) w asked on = w.was

resume_on : (t b : Talking) (m : Option ℕ) (answer : List (List ℕ)) → AnswersResume t.hearing m b.hearing → answer ≡ resume_line (tables_of b) (time_of b) m ∷ []
    → b.hearing.guarding.trusted ≡ true → Regains t b ResumeSaid answer
resume_on t b None answer resumes is on = record { says = refl; resumes = resumes; answered = is }
resume_on t b (Some m) answer (same, kept) is on =
    never_both b.hearing.guarding.trusted on (ap (λ (x : Hearing). x.guarding.trusted) same ∙ kept.trusted)

takes_on : (t b : Talking) (s : Saying) (h : Heard) (answer : List (List ℕ)) → Takes t s h answer b → b.hearing.guarding.trusted ≡ true
    → (t.hearing.guarding.trusted ≡ true) ⊎ Regains t b s answer
takes_on t b (StartSaid plant point) h answer takes on = absurd takes
takes_on t b (InputSaid topic value) h answer takes on = inl (sym (ap (λ (x : Hearing). x.guarding.trusted) takes.1.rest) ∙ on)
takes_on t b (DraftSaid node slots) h answer takes on = inl (sym (ap (λ (x : Hearing). x.guarding.trusted) takes.1.rest) ∙ on)
takes_on t b GoSaid h answer takes on = inl (sym takes.1.trusted ∙ on)
takes_on t b ResumeSaid h answer takes on = inr (resume_on t b takes.0 answer takes.2 takes.4 on)
takes_on t b (TickSaid states) h answer takes on = inl (judged_on t b takes.2.moved _ takes.0 takes.2.judged takes.2.asked on)

-- behind a line that is not taken, and is no draft, no input and no resume, there is none
fallen : (old new : Guarding) → FallsBack old new → new.trusted ≡ false
fallen old new falls = ap (λ (x : Guarding). x.trusted) falls.asks.rest ∙ falls.distrusts.is

lost : (t k : Talking) → LosesSight t k → k.hearing.guarding.trusted ≡ false
lost t k (inl unseen) = fallen unseen.0.moved k.hearing.guarding unseen.0.falls
lost t k (inr withdrawn) = fallen t.hearing.guarding k.hearing.guarding withdrawn.1.falls

on_blind : (k u : Talking) (line : List ℕ) (more : List (List ℕ)) → GoesOnBlind k line more u → u.hearing.guarding.trusted ≡ k.hearing.guarding.trusted
on_blind k u line more (inl goes) = goes.1.trusted
on_blind k u line more (inr same) = ap (λ (x : Talking). x.hearing.guarding.trusted) same.1

pub blind_off : (t u : Talking) (line : List ℕ) (h : Heard) (answer : List (List ℕ)) → GoesBlind t line h answer u → u.hearing.guarding.trusted ≡ false
blind_off t u line h answer b = on_blind b.unseeing u line b.more b.goes_on ∙ lost t b.unseeing b.loses

-- the line is `resume`, and brings trust back
pub record Rises (t b : Talking) (line : List ℕ) (answer : List (List ℕ)) : Type 0 where
  pub is : line ≡ codes "resume"
  pub resumes : Resumes t.hearing b.hearing
  pub answered : answer ≡ resumed_line (time_of b) ∷ []

spelled : (t b : Talking) (line : List ℕ) (s : Saying) (answer : List (List ℕ)) → IsSaid (tables_of t) line s → Regains t b s answer → Rises t b line answer
spelled t b line s answer is back = record {
  is = (subst (IsSaid (tables_of t) line) back.says is).1;
  resumes = back.resumes;
  answered = back.answered;
}

-- trust after a line is trust before it, or the line is `resume`
pub so_on : (t b : Talking) (line : List ℕ) (h : Heard) (answer : List (List ℕ)) → HearsSo t line h answer b → b.hearing.guarding.trusted ≡ true
    → (t.hearing.guarding.trusted ≡ true) ⊎ Rises t b line answer
so_on t b line h answer (inl taken) on =
    elim (takes_on t b taken.saying h answer taken.takes on)
    [ inl before ↦ inl before | inr back ↦ inr (spelled t b line taken.saying answer taken.said back) ]
so_on t b line h answer (inr (inl ignored)) on = inl (sym (ap (λ (x : Talking). x.hearing.guarding.trusted) ignored.same) ∙ on)
so_on t b line h answer (inr (inr blind)) on = never_both b.hearing.guarding.trusted on (blind_off t b line h answer blind)

-- one line more in front
through_one : (t b : Talking) (line : List ℕ) (h : Heard) (answer : List (List ℕ)) → HearsSo t line h answer b → t.hearing.guarding.trusted ≡ true
    → b.hearing.guarding.trusted ≡ true → (k : Hearing) → Through b.hearing k → Through t.hearing k
unfolding Through
through_one t b line h answer (inl taken) before on k more = one_more t b taken.saying h answer taken.takes before k more
through_one t b line h answer (inr (inl ignored)) before on k more = subst (λ (x : Talking). Through x.hearing k) ignored.same more
through_one t b line h answer (inr (inr blind)) before on k more = never_both b.hearing.guarding.trusted on (blind_off t b line h answer blind)

first_on : (t u : Talking) (lines : List (List ℕ)) → HearsLinesInTrust t lines u → t.hearing.guarding.trusted ≡ true
first_on t u [] hears = hears.0
first_on t u (line ∷ lines) hears = hears.0

through : (t u : Talking) (lines : List (List ℕ)) → HearsLinesInTrust t lines u → Through t.hearing u.hearing
unfolding Through
through t u [] (on, same) = ([], (on, ap (λ (x : Talking). x.hearing) same))
through t u (line ∷ lines) (on, (b, one, more)) =
    through_one t b line one.heard one.answer one.so on (first_on b u lines more) u.hearing (through b u lines more)

pub talks_observed : TrustedTalksAreObserved
unfolding Through
talks_observed t u lines hears = (let session = through t u lines hears in observed t.hearing u.hearing session.0 session.1)

-- the line in front of those since which a talk is trusted
module _ (t b u : Talking) (line : List ℕ) (lines : List (List ℕ)) (one : HearsLine t line b) where
  -- trust came back behind it
  later : (since : Talking) (s : IsTrustedSince b lines since u) → EndsResumed b s.before since → IsTrustedSince t (line ∷ lines) since u
  later since s ends = record {
    before = line ∷ s.before;
    after = s.after;
    all = ap (λ ls. line ∷ ls) s.all;
    begins = inr (record {
      earlier = line ∷ ends.earlier;
      are = ap (λ ls. line ∷ ls) ends.are;
      untrusted = ends.untrusted;
      heard = (b, one, ends.heard);
      last = ends.last;
      answered = ends.answered;
      resumes = ends.resumes;
    });
    trusted = s.trusted;
    observed = s.observed;
  }

  -- the line brought it back, or there was trust before it
  here : HearsLinesInTrust b lines u → (t.hearing.guarding.trusted ≡ true) ⊎ Rises t b line one.answer
      → (since : Talking) × IsTrustedSince t (line ∷ lines) since u
  here more (inl on) = (
    t,
    record {
      before = [];
      after = line ∷ lines;
      all = refl;
      begins = inl (refl, refl);
      trusted = (on, (b, one, more));
      observed = talks_observed t u (line ∷ lines) (on, (b, one, more));
    },
  )
  here more (inr rises) = (
    b,
    record {
      before = line ∷ [];
      after = lines;
      all = refl;
      begins = inr (record {
        earlier = [];
        are = ap (λ l. l ∷ []) rises.is;
        untrusted = t;
        heard = refl;
        last = record { heard = one.heard; answer = one.answer; so = subst (λ l. HearsSo t l one.heard one.answer b) rises.is one.so };
        answered = rises.answered;
        resumes = rises.resumes;
      });
      trusted = more;
      observed = talks_observed b u lines more;
    },
  )

  in_front : u.hearing.guarding.trusted ≡ true → (since : Talking) × IsTrustedSince b lines since u → (since : Talking) × IsTrustedSince t (line ∷ lines) since u
  in_front on (since, s) =
      elim s.begins [
        | inl (none, same) ↦ (
            let after : lines ≡ s.after = s.all ∙ ap (λ ls. ls ++ s.after) none in
            let more = subst (λ ls. HearsLinesInTrust b ls u) (sym after) (subst (λ x. HearsLinesInTrust x s.after u) same s.trusted) in
            here more (so_on t b line one.heard one.answer one.so (first_on b u lines more)))
        | inr ends ↦ (since, later since s ends)
      ]

pub comes_back : TrustComesBackByAResume
comes_back t u [] same on =
    let trusted : HearsLinesInTrust t [] u = (sym (ap (λ (x : Talking). x.hearing.guarding.trusted) same) ∙ on, same) in (
      t,
      record {
        before = [];
        after = [];
        all = refl;
        begins = inl (refl, refl);
        trusted = trusted;
        observed = talks_observed t u [] trusted;
      },
    )
comes_back t u (line ∷ lines) (b, one, more) on = in_front t b u line lines one on (comes_back b u lines more on)

-- the mission stays the same
resume_same : (t b : Talking) (m : Option ℕ) → AnswersResume t.hearing m b.hearing → b.hearing.guarding.accepted ≡ t.hearing.guarding.accepted
resume_same t b None resumes = resumes.regains.accepted
resume_same t b (Some m) (same, kept) = ap (λ (x : Hearing). x.guarding.accepted) same

takes_same : (t b : Talking) (s : Saying) (h : Heard) (answer : List (List ℕ)) → Takes t s h answer b
    → b.hearing.guarding.accepted ≡ t.hearing.guarding.accepted
takes_same t b (StartSaid plant point) h answer takes = absurd takes
takes_same t b (InputSaid topic value) h answer takes = ap (λ (x : Hearing). x.guarding.accepted) takes.1.rest
takes_same t b (DraftSaid node slots) h answer takes = ap (λ (x : Hearing). x.guarding.accepted) takes.1.rest
takes_same t b GoSaid h answer takes = takes.1.accepted
takes_same t b ResumeSaid h answer takes = resume_same t b takes.0 takes.2
takes_same t b (TickSaid states) h answer takes = takes.2.accepted

lost_same : (t k : Talking) → LosesSight t k → k.hearing.guarding.accepted ≡ t.hearing.guarding.accepted
lost_same t k (inl unseen) = unseen.0.accepted
lost_same t k (inr withdrawn) =
    let falls = withdrawn.1.falls in
    ap (λ (x : Guarding). x.accepted) falls.asks.rest ∙ falls.distrusts.accepted

blind_same : (k u : Talking) (line : List ℕ) (more : List (List ℕ)) → GoesOnBlind k line more u
    → u.hearing.guarding.accepted ≡ k.hearing.guarding.accepted
blind_same k u line more (inl goes) = goes.1.accepted
blind_same k u line more (inr same) = ap (λ (x : Talking). x.hearing.guarding.accepted) same.1

so_same : (t b : Talking) (line : List ℕ) (h : Heard) (answer : List (List ℕ)) → HearsSo t line h answer b
    → b.hearing.guarding.accepted ≡ t.hearing.guarding.accepted
so_same t b line h answer (inl taken) = takes_same t b taken.saying h answer taken.takes
so_same t b line h answer (inr (inl ignored)) = ap (λ (x : Talking). x.hearing.guarding.accepted) ignored.same
so_same t b line h answer (inr (inr blind)) = blind_same blind.unseeing b line blind.more blind.goes_on ∙ lost_same t blind.unseeing blind.loses

pub lines_same : (t u : Talking) (lines : List (List ℕ)) → HearsLines t lines u → u.hearing.guarding.accepted ≡ t.hearing.guarding.accepted
lines_same t u [] same = ap (λ (x : Talking). x.hearing.guarding.accepted) same
lines_same t u (line ∷ lines) (b, one, more) = lines_same b u lines more ∙ so_same t b line one.heard one.answer one.so

-- where trust came back, the mission is the one of the beginning, and tubes are kept
module _ (t u : Talking) (lines : List (List ℕ)) (tubes : KeepsTalkTubes t) (since : Talking) (s : IsTrustedSince t lines since u) where
  since_same : since.hearing.guarding.accepted ≡ t.hearing.guarding.accepted
  since_same =
      elim s.begins [
        | inl (none, same) ↦ ap (λ (x : Talking). x.hearing.guarding.accepted) same
        | inr ends ↦ ends.resumes.regains.accepted ∙ lines_same t ends.untrusted ends.earlier ends.heard
      ]

  since_tubes : KeepsTalkTubes since
  since_tubes on =
      elim s.begins [
        | inl (none, same) ↦ subst KeepsTalkTubes (sym same) tubes on
        | inr ends ↦ subst (λ (x : Admitted). KeepsTubes x.program x.cert.jitter since.hearing.guarding.at) (sym ends.resumes.regains.accepted)
            ends.resumes.regains.tubes
      ]

-- in trust is one thing after another
all_heard : (h k : Hearing) (xs : List said.Heard) → said.HearsInTrust h xs k → said.HearsAll h xs k
all_heard h k [] (on, same) = same
all_heard h k (x ∷ xs) (on, (g, one, more)) = (g, one, all_heard g k xs more)

pub talks_safe : TrustedTalksAreSafe
unfolding Through
talks_safe t u lines rules certified tubes hears on =
    let back = comes_back t u lines hears on in
    let since = back.0 in
    let s = back.1 in
    let same = since_same t u lines tubes since s in
    let session = through since u s.after s.trusted in
    subst (λ (x : Admitted). IsSafeNow x.program x.cert.jitter u.hearing.guarding.at) same
    (safe since.hearing u.hearing session.0 (subst (λ (x : Admitted). MeetsTableRules x.program) (sym same) rules)
    (subst (λ (x : Admitted). IsWellCertified x.program x.cert.jitter x.cert) (sym same) certified)
    (since_tubes t u lines tubes since s) (all_heard since.hearing u.hearing session.0 session.1) on)
