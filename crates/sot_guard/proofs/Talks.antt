-- What is heard while the models are trusted is an observed run, and what is kept over it.
use Rattle.std.proofs.Common.{◌≡◌, ℕ, ℤ, true, ◌⊎◌, ⊎_elim, inl, inr, List, [], ◌∷◌, ◌++◌, Option, None, Some, refl, sym, ap, ◌∙◌, subst}
use Rattle.std.specs.Prelude.{MatchOption}
use Rattle.std.proofs.lemmas.Bool.{false≢true}
use Rattle.sot_lang.specs.Tables.{Tables}
use Rattle.sot_lang.specs.TableRules.{MeetsTableRules}
use Rattle.sot_tube.specs.Admitted.{Admitted}
use Rattle.sot_tube.specs.Certified.{IsWellCertified}
use Rattle.sot_world.specs.Configurations.{Configuration}
use Rattle.sot_world.specs.Steps as steps
use Rattle.sot_law_observed_runs.specs.Observed.{ObservedStep, ObservedRun}
use Rattle.sot_law_observed_runs.specs.Tubes.{KeepsTubes}
use Rattle.sot_law_observed_runs.proofs.Steps.{step_keeps}
use Rattle.sot_law_observed_runs.proofs.Main as observed_laws
use Rattle.sot_guard.specs.declared.told.Told.{Told}
use Rattle.sot_guard.specs.declared.told.Told.TheVariants.{Decided, Fired}
use Rattle.sot_guard.specs.declared.outside.Outside.{Outside}
use Rattle.sot_guard.specs.Guarding.{Guarding}
use Rattle.sot_guard.specs.Changes.{GoesOn, Withdraws, AsksSafeNodes}
use Rattle.sot_guard.specs.Instants.{Happens, AreTold}
use Rattle.sot_guard.specs.Hearing.{Hearing, Resumes, program_of, jitter_of}
use Rattle.sot_guard.specs.Conversations.{Heard, Input, Draft, Go, Points, Resume, Hears, HearsAll, HearsInTrust, last_of}
use Rattle.sot_guard.specs.Conversations.{IsTrustedSince, TrustedSessionsAreObserved, TrustComesBackByAResume, TrustedSessionsAreSafe}

-- an observed run from one configuration to another
pub record Path (p : Tables) (j : ℕ) (C D : Configuration) : Type 0 where
  pub events : List steps.Event
  pub configurations : List Configuration
  pub run : ObservedRun p j C events configurations
  pub ends : last_of C configurations ≡ D

module _ (p : Tables) (j : ℕ) where
  none : (C D : Configuration) → D ≡ C → Path p j C D
  none C D same = record { events = []; configurations = []; run = tt; ends = sym same }

  one : (C D : Configuration) (e : steps.Event) → ObservedStep p j C e D → Path p j C D
  one C D e s = record { events = e ∷ []; configurations = D ∷ []; run = (s, tt); ends = refl }

  run_both : (C D E : Configuration) (es : List steps.Event) (Ds : List Configuration) → ObservedRun p j C es Ds → last_of C Ds ≡ D → Path p j D E
      → Path p j C E
  run_both C D E [] [] r same more = subst (λ X. Path p j X E) (sym same) more
  run_both C D E (e ∷ es) (B ∷ Ds) r same more =
      let rest = run_both B D E es Ds r.1 same more in
      record { events = e ∷ rest.events; configurations = B ∷ rest.configurations; run = (r.0, rest.run); ends = rest.ends }
  run_both C D E [] (B ∷ Ds) r same more = absurd r
  run_both C D E (e ∷ es) [] r same more = absurd r

  both : (C D E : Configuration) → Path p j C D → Path p j D E → Path p j C E
  both C D E first more = run_both C D E first.events first.configurations first.run first.ends more

  happens_path : (drafts : List (List (Option ℤ))) (C D : Configuration) (e : Told) → Happens true p j drafts C e D → Path p j C D
  happens_path drafts C D (Decided m mode) h = one C D (steps.Decide m) h.0
  happens_path drafts C D (Fired n firing) (inl f) = one C D (steps.Code n) (f.step refl)
  happens_path drafts C D (Fired n firing) (inr f) = one C D (steps.Guest n _) f.step

  told_path : (drafts : List (List (Option ℤ))) (C D : Configuration) (es : List Told) → AreTold true p j drafts C es D → Path p j C D
  told_path drafts C D [] same = none C D same
  told_path drafts C D (e ∷ es) told =
      both C told.0 D (happens_path drafts C told.0 e told.1) (told_path drafts told.0 D es told.2)

-- what one thing that is heard makes, where the models are trusted afterwards
pub record Goes (h k : Hearing) : Type 0 where
  pub path : Path (program_of h) (jitter_of h) h.guarding.at k.guarding.at
  pub trusted : h.guarding.trusted ≡ true
  pub accepted : k.guarding.accepted ≡ h.guarding.accepted

judged_goes : (h k : Hearing) (moved : Guarding) (points : List (List ℤ)) (o : Option Outside) → k.guarding.trusted ≡ true
    → k.guarding.accepted ≡ h.guarding.accepted
    → MatchOption o (GoesOn h.guarding moved) (λ x. Withdraws h.guarding moved points x)
    → MatchOption o (k.guarding ≡ moved) (λ x. AsksSafeNodes moved k.guarding) → Goes h k
judged_goes h k moved points None on same goes asked =
    let g = subst (GoesOn h.guarding) (sym asked) goes in
    let before = sym g.trusted ∙ on in
    record {
      path = one (program_of h) (jitter_of h) h.guarding.at k.guarding.at (steps.Tick []) (g.observed before);
      trusted = before;
      accepted = same;
    }
judged_goes h k moved points (Some o) on same w asked =
    absurd (false≢true (sym w.is ∙ sym (ap (λ (x : Guarding). x.trusted) asked.rest) ∙ on))

-- trust was there before each thing but a resume
pub hears_goes : (h k : Hearing) (x : Heard) → Hears h x k → k.guarding.trusted ≡ true → Goes h k ⊎ (x ≡ Resume)
hears_goes h k (Input topic value) t on = inl (record {
  path = one (program_of h) (jitter_of h) h.guarding.at k.guarding.at (steps.Input topic value) t.step;
  trusted = sym (ap (λ s. s.guarding.trusted) t.rest) ∙ on;
  accepted = ap (λ s. s.guarding.accepted) t.rest;
})
hears_goes h k (Draft n draft) t on = inl (record {
  path = none (program_of h) (jitter_of h) h.guarding.at k.guarding.at (ap (λ s. s.guarding.at) t.rest);
  trusted = sym (ap (λ s. s.guarding.trusted) t.rest) ∙ on;
  accepted = ap (λ s. s.guarding.accepted) t.rest;
})
hears_goes h k Go t on =
    let before = sym t.trusted ∙ on in
    inl (record {
      path = told_path (program_of h) (jitter_of h) h.drafts h.guarding.at k.guarding.at k.told
          (subst (λ b. AreTold b (program_of h) (jitter_of h) h.drafts h.guarding.at k.told k.guarding.at) before t.happened);
      trusted = before;
      accepted = t.accepted;
    })
hears_goes h k (Points points) t on = inl (judged_goes h k t.1.moved points t.0 on t.1.accepted t.1.judged t.1.asked)
hears_goes h k Resume t on = inr refl

-- no resume is heard in trust
in_trust_goes : (h k : Hearing) (x : Heard) → Hears h x k → h.guarding.trusted ≡ true → k.guarding.trusted ≡ true → Goes h k
in_trust_goes h k x hears before on =
    ⊎_elim (λ goes. goes)
    (λ (e : x ≡ Resume). let t : Resumes h k = subst (λ y. Hears h y k) e hears in absurd (false≢true (sym t.regains.was ∙ before)))
    (hears_goes h k x hears on)

begins_in_trust : (h k : Hearing) (xs : List Heard) → HearsInTrust h xs k → h.guarding.trusted ≡ true
begins_in_trust h k [] t = t.0
begins_in_trust h k (x ∷ xs) t = t.0

all_goes : (h k : Hearing) (xs : List Heard) → HearsInTrust h xs k → Goes h k
all_goes h k [] t = record {
  path = none (program_of h) (jitter_of h) h.guarding.at k.guarding.at (ap (λ s. s.guarding.at) t.1);
  trusted = t.0;
  accepted = ap (λ s. s.guarding.accepted) t.1;
}
all_goes h k (x ∷ xs) t =
    let g = t.1.0 in
    let later = all_goes g k xs t.1.2 in
    let first = in_trust_goes h g x t.1.1 t.0 (begins_in_trust g k xs t.1.2) in
    record {
      path = both (program_of h) (jitter_of h) h.guarding.at g.guarding.at k.guarding.at first.path
          (subst (λ (a : Admitted). Path a.program a.cert.jitter g.guarding.at k.guarding.at) first.accepted later.path);
      trusted = t.0;
      accepted = later.accepted ∙ first.accepted;
    }

pub observed : TrustedSessionsAreObserved
observed h k xs hears =
    let goes = all_goes h k xs hears in
    record { events = goes.path.events; configurations = goes.path.configurations; run = goes.path.run; ends = goes.path.ends }

-- trusted since this moment, where nothing was heard before it ..
from_here : (h k : Hearing) (xs : List Heard) → HearsInTrust h xs k → (since : Hearing) × IsTrustedSince h xs since k
from_here h k xs t =
    (h, record { before = []; after = xs; all = refl; begins = inl refl; heard = refl; trusted = t; observed = observed h k xs t })

-- .. or a resume
from_resume : (h g k : Hearing) (x : Heard) (xs : List Heard) → Hears h x g → x ≡ Resume → HearsInTrust g xs k
    → (since : Hearing) × IsTrustedSince h (x ∷ xs) since k
from_resume h g k x xs hears is t = (
  g,
  record {
    before = x ∷ [];
    after = xs;
    all = refl;
    begins = inr ([], ap (λ y. y ∷ []) is);
    heard = (g, hears, refl);
    trusted = t;
    observed = observed g k xs t;
  },
)

pub since : TrustComesBackByAResume
since h k [] same on = from_here h k [] (sym (ap (λ s. s.guarding.trusted) same) ∙ on, same)
since h k (x ∷ xs) hears on =
    let g = hears.0 in
    let later = since g k xs hears.2 on in
    ⊎_elim
    (λ (none : later.1.before ≡ []).
    let here : later.0 ≡ g = subst (λ ys. HearsAll g ys later.0) none later.1.heard in
    let rest : later.1.after ≡ xs = sym (later.1.all ∙ ap (λ ys. ys ++ later.1.after) none) in
    let t : HearsInTrust g xs k = subst (λ ys. HearsInTrust g ys k) rest (subst (λ s. HearsInTrust s later.1.after k) here later.1.trusted) in
    ⊎_elim
    (λ (goes : Goes h g). from_here h k (x ∷ xs) (goes.trusted, (g, hears.1, t)))
    (λ (is : x ≡ Resume). from_resume h g k x xs hears.1 is t)
    (hears_goes h g x hears.1 (begins_in_trust g k xs t)))
    (λ resumed. (
      later.0,
      record {
        before = x ∷ later.1.before;
        after = later.1.after;
        all = ap (λ ys. x ∷ ys) later.1.all;
        begins = inr (x ∷ resumed.0, ap (λ ys. x ∷ ys) resumed.1);
        heard = (g, hears.1, later.1.heard);
        trusted = later.1.trusted;
        observed = later.1.observed;
      },
    ))
    later.1.begins

hears_accepted : (h k : Hearing) (x : Heard) → Hears h x k → k.guarding.accepted ≡ h.guarding.accepted
hears_accepted h k (Input topic value) t = ap (λ s. s.guarding.accepted) t.rest
hears_accepted h k (Draft n draft) t = ap (λ s. s.guarding.accepted) t.rest
hears_accepted h k Go t = t.accepted
hears_accepted h k (Points points) t = t.1.accepted
hears_accepted h k Resume t = t.regains.accepted

-- tubes are kept where the models are trusted
module _ (a : Admitted) (rules : MeetsTableRules a.program) (c : IsWellCertified a.program a.cert.jitter a.cert) where
  run_keeps : (C : Configuration) (es : List steps.Event) (Ds : List Configuration) → KeepsTubes a.program a.cert.jitter C
      → ObservedRun a.program a.cert.jitter C es Ds → KeepsTubes a.program a.cert.jitter (last_of C Ds)
  run_keeps C [] [] h r = h
  run_keeps C (e ∷ es) (D ∷ Ds) h r = run_keeps D es Ds (step_keeps a.program a.cert rules c C D e h r.0) r.1
  run_keeps C [] (D ∷ Ds) h r = absurd r
  run_keeps C (e ∷ es) [] h r = absurd r

  record IsKept (g : Guarding) : Type 0 where
    pub accepted : g.accepted ≡ a
    pub keeps : g.trusted ≡ true → KeepsTubes a.program a.cert.jitter g.at

  hears_kept : (h k : Hearing) (x : Heard) → Hears h x k → IsKept h.guarding → IsKept k.guarding
  hears_kept h k x hears kept = record {
    accepted = hears_accepted h k x hears ∙ kept.accepted;
    keeps = λ on. ⊎_elim
        (λ (goes : Goes h k).
        let run = subst (λ (b : Admitted). ObservedRun b.program b.cert.jitter h.guarding.at goes.path.events goes.path.configurations) kept.accepted
        goes.path.run in
        subst (KeepsTubes a.program a.cert.jitter) goes.path.ends
        (run_keeps h.guarding.at goes.path.events goes.path.configurations (kept.keeps goes.trusted) run))
        (λ (is : x ≡ Resume).
        let t : Resumes h k = subst (λ y. Hears h y k) is hears in
        subst (λ (b : Admitted). KeepsTubes b.program b.cert.jitter k.guarding.at) kept.accepted t.regains.tubes)
        (hears_goes h k x hears on);
  }

  all_kept : (h k : Hearing) (xs : List Heard) → HearsAll h xs k → IsKept h.guarding → IsKept k.guarding
  all_kept h k [] same kept = subst IsKept (sym (ap (λ s. s.guarding) same)) kept
  all_kept h k (x ∷ xs) hears kept = all_kept hears.0 k xs hears.2 (hears_kept h hears.0 x hears.1 kept)

pub safe : TrustedSessionsAreSafe
safe h k xs rules certified keeps hears on =
    let a = h.guarding.accepted in
    let kept = all_kept a rules certified h k xs hears (record { accepted = refl; keeps = keeps }) in
    observed_laws.safe a.program a.cert k.guarding.at rules certified (kept.keeps on)
