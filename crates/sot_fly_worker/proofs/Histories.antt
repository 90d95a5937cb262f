-- The laws on histories that go on.
use Rattle.std.proofs.Common.{◌≡◌, ℕ, List, [], ◌∷◌, ◌++◌, length, None, Some, refl, sym, ap, ◌∙◌, subst, arith}
use Rattle.std.proofs.Math.Seq.{take-append_seam, drop-append_seam}
use Rattle.std.proofs.lemmas.List.{append_assoc, append-nil}
use Rattle.sot_lang.specs.Tables.{Tables}
use Rattle.sot_world.specs.Configurations.{Configuration}
use Rattle.sot_world.specs.Steps.{Event, Input, Code, Guest, Decide, Tick, Step}
use Rattle.sot_world.specs.HistoryEntry.{Logged, FireAt}
use Rattle.sot_flight.specs.Plans.{Plan}
use Rattle.sot_board.specs.Flown.{Position, IsStated, Leads, FlownSoFar, IsEnd}
use Rattle.sot_board.specs.Versions.{drafts_of}
use Rattle.sot_board.proofs.Same.{from_front}
use Rattle.sot_board.proofs.Entries.{drafts_append}
use Rattle.sot_fly_worker.specs.Laws.{WholeHistoriesEnd, FitsStay, AnswersStay}

-- nothing happens at the end of a flight
nothing_more : (p : Tables) (j : ℕ) (f : Plan) (P : Position) (e : Event) (D : Configuration) → IsEnd p f P → IsStated p f P e → Step p j P.at e D → ⊥
nothing_more p j f P (Input topic value) D end stated step = (let e = sym end.inputs ∙ stated.1 in cc)
nothing_more p j f P (Code n) D end stated step = (let e = sym (end.nothing.nodes n step.node step.is) ∙ step.fires.was_left in cc)
nothing_more p j f P (Guest n draft) D end stated step = (let e = sym (end.nothing.nodes n step.node step.is) ∙ step.fires.was_left in cc)
nothing_more p j f P (Decide m) D end stated step = (let e = sym (end.nothing.modules m step.module_info step.is) ∙ step.was_left in cc)
nothing_more p j f P (Tick noise) D end stated step = (let below = stated.0 in omega (arith, below, end.time))

pub whole_histories_end : WholeHistoriesEnd
whole_histories_end p j f history [] Q whole all = refl
whole_histories_end p j f history (e ∷ more) Q whole all =
    let front = subst (λ es. FlownSoFar p j f es whole.0) (sym (take-append_seam history (e ∷ more))) whole.1 in
    let led = from_front p j f (length history) (history ++ e ∷ more) whole.0 Q front all in
    let on : Leads p j f whole.0 (e ∷ more) Q = subst (λ es. Leads p j f whole.0 es Q) (drop-append_seam history (e ∷ more)) led in
    absurd (nothing_more p j f whole.0 on.1.event on.0.at whole.2 on.1.stated on.1.step)

pub fits_stay : FitsStay
fits_stay p j f n history more k one fits = record {
  first = fits.first;
  between = fits.between;
  rest = fits.rest ++ more;
  time = fits.time;
  draft = fits.draft;
  enabled = fits.enabled;
  history_is = ap (λ es. es ++ more) fits.history_is ∙ append_assoc fits.first (fits.between ++ FireAt fits.time n fits.draft fits.enabled ∷ fits.rest) more
      ∙ ap (λ es. fits.first ++ es) (append_assoc fits.between (FireAt fits.time n fits.draft fits.enabled ∷ fits.rest) more);
  number = fits.number;
  no_other = fits.no_other;
  position = fits.position;
  flown = fits.flown;
  left = fits.left;
  info = fits.info;
  is = fits.is;
  values = fits.values;
  draft_is = fits.draft_is;
}

-- a node that does not fire again has the same drafts
pub same_drafts : (n : ℕ) (history more : List Logged) → drafts_of n more ≡ [] → drafts_of n (history ++ more) ≡ drafts_of n history
same_drafts n history more none = drafts_append n history more ∙ ap (λ l. drafts_of n history ++ l) none ∙ append-nil (drafts_of n history)

pub answers_stay : AnswersStay
answers_stay p j f n history more before None none answered = tt
answers_stay p j f n history more before (Some after) none answered = record {
  first = answered.first;
  more = answered.more;
  before_is = answered.before_is;
  after_is = answered.after_is;
  count = answered.count ∙ ap length (sym (same_drafts n history more none));
  fits = λ k one at. fits_stay p j f n history more k one (answered.fits k one at);
}
