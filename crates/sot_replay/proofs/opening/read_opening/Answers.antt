use Rattle.std.proofs.Common.{◌≡◌, ◌∙◌, ℕ, ◌+◌, ◌<◌, length, ap, sym, subst, arith}
use Rattle.std.specs.Prelude.{MatchOption, Option}
use Rattle.sot_lists.specs.Places.{At}
use Rattle.sot_lists.proofs.Places.{at_below, at_same}
use Rattle.sot_lang.specs.Tables.{Tables}
use Rattle.sot_trace_lines.specs.LentLines.{Lending}
use Rattle.sot_replay.specs.declared.fail.LineKind.{LineKind}
use Rattle.sot_replay.specs.declared.fail.ReplayFail.{ReplayFail}
use Rattle.sot_replay.specs.Replays.{opening_lines, MatchFail}
use Rattle.sot_replay.specs.Openings.{RefusesOpening, IsOpeningRefused}
use Rattle.sot_replay.proofs.OpeningPlaces.{opening_count, opening_stops, opening_differs, opening_goes, opening_whole}
use Rattle.sot_replay.proofs.opening.read_opening.Goals as goal

pub returns-in_default-clause-refused : goal.returns-in_default-clause-refused
returns-in_default-clause-refused c =
    let p = c.args.p.now in
    let f = c.args.flight.now in
    let lines = c.args.lines.now in
    let (none, same) = c.in_default.ensures in
    let count = opening_count p f c.requires.fits.1.starts in
    let inside : c.places.place < length (opening_lines p f) =
    omega (arith, count, c.places-test.true, c.len-place-end.ensures, ap (λ (t : Tables). length t.plants) c.p.view_is) in
    subst (λ (x : ReplayFail). MatchFail x (λ m. ⊥) (λ at kind. (place : ℕ) × (at ≡ lines.number + place) × IsOpeningRefused p f lines.to_come place kind))
    (sym c.missing.ensures) (
      c.places.place,
      ap (λ (l : Lending). l.number) same ∙ c.places.invariant.number,
      opening_stops p f lines.to_come c.places.lines.to_come c.places.place c.places.invariant.is inside none,
    )

pub returns-in-Ok-Some-clause-refused : goal.returns-in-Ok-Some-clause-refused
returns-in-Ok-Some-clause-refused c =
    let p = c.args.p.now in
    let f = c.args.flight.now in
    let lines = c.args.lines.now in
    let line = c.in-Some.line.now in
    let (here, numbered, step) = c.in-Some.ensures in
    let count = opening_count p f c.requires.fits.1.starts in
    let inside : c.places.place < length (opening_lines p f) =
    omega (arith, count, c.places-test.true, c.len-place-end.ensures, ap (λ (t : Tables). length t.plants) c.p.view_is) in
    let expected = at_below (opening_lines p f) c.places.place inside in
    let why = subst (λ (a : Option LineKind). MatchOption a (line ≡ expected.0) (λ kind. (line ≡ expected.0 → ⊥) × RefusesOpening p c.places.place line kind))
    c.in-Ok-Some.field-0-is (c.in-Ok-Some.ensures expected.0 expected.1) in (
      c.places.place,
      numbered ∙ c.places.invariant.number,
      opening_differs p f lines.to_come c.places.lines.to_come c.places.place c.places.invariant.is inside line c.next.new.self.to_come c.in-Ok-Some.kind here
          (λ at. why.0 (at_same (opening_lines p f) c.places.place line expected.0 at expected.1)) why.1,
    )

pub places-preserved : goal.places-preserved
places-preserved c =
    let p = c.args.p.now in
    let f = c.args.flight.now in
    let lines = c.args.lines.now in
    let line = c.in-Some.line.now in
    let (here, numbered, step) = c.in-Some.ensures in
    let count = opening_count p f c.requires.fits.1.starts in
    let inside : c.places.place < length (opening_lines p f) =
    omega (arith, count, c.places-test.true, c.len-place-end.ensures, ap (λ (t : Tables). length t.plants) c.p.view_is) in
    let expected = at_below (opening_lines p f) c.places.place inside in
    let same : line ≡ expected.0 = subst (λ (a : Option LineKind).
    MatchOption a (line ≡ expected.0) (λ kind. (line ≡ expected.0 → ⊥) × RefusesOpening p c.places.place line kind)) c.in-Ok-None.field-0-is
    (c.in-Ok-None.ensures expected.0 expected.1) in
    record {
      is =
          opening_goes p f lines.to_come c.places.lines.to_come c.places.place c.places.invariant.is inside line c.next.new.self.to_come here
          (subst (λ l. At (opening_lines p f) c.places.place l) (sym same) expected.1);
      number = omega (arith, step, c.places.invariant.number);
    }

pub returns-clause-read : goal.returns-clause-read
returns-clause-read c =
    let p = c.args.p.now in
    let f = c.args.flight.now in
    let lines = c.args.lines.now in
    let count = opening_count p f c.requires.fits.1.starts in
    let all : c.places.place ≡ length (opening_lines p f) =
    omega (arith, count, c.places-test.false, c.places.auto.place-end, c.len-place-end.ensures, ap (λ (t : Tables). length t.plants) c.p.view_is) in (
      opening_whole p f lines.to_come c.places.lines.to_come c.places.place c.places.invariant.is all,
      c.places.invariant.number
          ∙ ap (λ n. lines.number + n) all,
    )
