-- Which flights fit.
use Rattle.std.proofs.Common.{◌≡◌, ℕ, ◌+◌, ℤ, pos, negsuc, refl, sym, ap, ◌∙◌, subst, Some, None, List, [], ◌∷◌, arith, length, lit≤}
use Rattle.std.proofs.lemmas.Int.{ints}
use Rattle.std.proofs.lemmas.Bool.{false≢true}
use Rattle.std.proofs.lemmas.Option.{none-some, same_Some}
use Rattle.std.specs.Prelude.{◌<◌}
use Rattle.std.specs.Global.{Global}
use Rattle.sot_lists.specs.Places.{At}
use Rattle.sot_lists.proofs.ShortLists.{at_one, at_two}
use Rattle.sot_box.specs.Sides.{IsIn}
use Rattle.sot_box.specs.Boxes.{IsWithin}
use Rattle.sot_lang.specs.Ranges.{range_of, bounds}
use Rattle.sot_lang.specs.Line.{fast, pos_plant}
use Rattle.sot_world.specs.Examples.{relay, e_topic, m_topic}
use Rattle.sot_flight.specs.Plans.{Crew, Guest}
use Rattle.sot_flight.specs.Fits.{FitsInput, FitsCrew}
use Rattle.sot_law_flight_facts.specs.Fits.{hosting, given, HorizonLimit, InputsFit, SwaysFit, CrewsFit, GuestsFit}

pub horizon : HorizonLimit
horizon = (
  record {
    horizon = lit≤ tt;
    starts = refl;
    widths = λ k plant at. absurd (none-some plant at);
    inputs = λ i x at. absurd (none-some x at);
    ordered = λ i x y at next. absurd (none-some x at);
    sways = refl;
    swayed = λ k plant sway at is. absurd (none-some plant at);
    crews = refl;
    crewed = λ n node crew at is. absurd (none-some node at);
    guests_there = λ n i at. absurd (none-some (Guest i) at);
    guests_once = λ m n i at is. absurd (none-some (Guest i) at);
    events = refl;
    few_events = lit≤ tt;
    numbers = omega arith;
    few_numbers = lit≤ tt;
  },
  (λ fits. omega (arith, fits.horizon)),
)

module _ (g : Global) where
  pub inputs : InputsFit g
  inputs = (
    record {
      in_time = lit≤ tt;
      topic = e_topic g;
      is = refl;
      outside = refl;
      size = refl;
      typed = at_one (λ i z. IsIn (range_of (relay g).scalars (0 + i)) z) (pos 9) (omega (arith, ints), omega (arith, ints));
    },
    (λ fits. omega (arith, fits.in_time)),
    (λ fits. false≢true (ap (λ x. x.outside) (same_Some (m_topic g) fits.topic fits.is) ∙ fits.outside)),
    (λ fits. outside_range (pos 10) (λ is. omega (arith, ints, is.1)) fits),
    (λ fits. outside_range (negsuc 0) (λ is. omega (arith, ints, is.0)) fits),
    (λ fits. (let e : ◌≡◌ {A = ℕ} 2 1 = size (pos 5 ∷ pos 5 ∷ []) fits in omega (arith, e))),
    (λ fits. (let e : ◌≡◌ {A = ℕ} 0 1 = size [] fits in omega (arith, e))),
  )
    where
      outside_range : (z : ℤ) → (IsIn (range_of (relay g).scalars 0) z → ⊥) → FitsInput (relay g) 4 (given 4 0 (z ∷ [])) → ⊥
      outside_range z out fits =
          out (subst (λ x. IsIn (range_of (relay g).scalars (x.first + 0)) z) (sym (same_Some (e_topic g) fits.topic fits.is)) (fits.typed 0 z refl))

      size : (zs : List ℤ) → FitsInput (relay g) 4 (given 4 0 zs) → length zs ≡ 1
      size zs fits = fits.size ∙ ap (λ x. x.count) (sym (same_Some (e_topic g) fits.topic fits.is))

  pub sways : SwaysFit g
  sways = (
    (
      (λ e. cc),
      at_two (λ i row. IsWithin (bounds (pos_plant g)) row) (pos 1 ∷ []) (negsuc 0 ∷ []) (omega (arith, ints), omega (arith, ints), tt)
          (omega (arith, ints), omega (arith, ints), tt),
    ),
    (λ fits. fits.0 refl),
    (λ fits. (let is = fits.1 1 (pos 2 ∷ []) refl in omega (arith, ints, is.1))),
    (λ fits. (let is = fits.1 0 (negsuc 1 ∷ []) refl in omega (arith, ints, is.0))),
    (λ fits. (let is = fits.1 0 (pos 0 ∷ pos 0 ∷ []) refl in is.2)),
    (λ fits. cc),
    (omega arith, omega arith, omega arith),
    (λ fits. omega (arith, fits.2)),
  )

  pub crews : CrewsFit g
  crews = (
    (refl, (λ e. cc), at_two (λ i draft. length draft ≡ length (fast g).writes.items) (Some (pos 7) ∷ []) (None ∷ []) refl refl),
    (λ fits. fits.1 refl),
    (λ fits. (let e : ◌≡◌ {A = ℕ} 0 1 = fits.2 1 [] refl in omega (arith, e))),
    (λ fits. none-some _ fits.1.1),
    (λ fits. none-some _ (sym fits.0)),
    (λ fits. none-some _ (sym fits.0)),
    (λ fits. none-some _ (sym fits)),
    (refl, omega arith, omega arith, omega arith),
    (λ fits. omega (arith, fits.3)),
  )

  same_guest : (i j : ℕ) → ◌≡◌ {A = Crew} (Guest i) (Guest j) → i ≡ j
  same_guest i j e = cc

  -- guest 1 is at node 0, and guest 0 at node 1
  place : (n i : ℕ) → At (hosting (Guest 1) (Guest 0)).crews n (Guest i) → n + i ≡ 1
  place n i at = at_two (λ k x. x ≡ Guest i → k + i ≡ 1) (Guest 1) (Guest 0)
      (λ e. (let one = same_guest 1 i e in omega (arith, one))) (λ e. (let none = same_guest 0 i e in omega (arith, none))) n (Guest i) at refl

  pub guests : GuestsFit g
  guests = (
    record {
      horizon = lit≤ tt;
      starts = refl;
      widths = λ k plant at. absurd (none-some plant at);
      inputs = λ i x at. absurd (none-some x at);
      ordered = λ i x y at next. absurd (none-some x at);
      sways = refl;
      swayed = λ k plant sway at is. absurd (none-some plant at);
      crews = refl;
      crewed = λ n node crew at is. at_two (λ k x. At (hosting (Guest 1) (Guest 0)).crews k crew → FitsCrew x crew) (fast g) (fast g)
          (λ is. subst (FitsCrew (fast g)) (same_Some (Guest 1) crew is) refl) (λ is. subst (FitsCrew (fast g)) (same_Some (Guest 0) crew is) refl) n node at
          is;
      guests_there = λ n i at. at_two (λ k x. x ≡ Guest i → i < 2) (Guest 1) (Guest 0)
          (λ e. (let one = same_guest 1 i e in omega (arith, one))) (λ e. (let none = same_guest 0 i e in omega (arith, none))) n (Guest i) at refl;
      guests_once = λ m n i at is. (let first = place m i at in let second = place n i is in omega (arith, first, second));
      events = refl;
      few_events = lit≤ tt;
      numbers = refl;
      few_numbers = lit≤ tt;
    },
    (λ fits. (let e : ◌≡◌ {A = ℕ} 0 1 = fits.guests_once 0 1 0 refl refl in omega (arith, e))),
    (λ fits. (let less = fits.guests_there 0 1 refl in omega (arith, less))),
  )
