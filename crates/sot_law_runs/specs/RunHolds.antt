-- Holds in runs.
use Rattle.std.specs.Prelude.{ℕ, ◌-◌, ℤ, Bool, true, false, List, [], ◌∷◌, ◌++◌, ◌≡◌, ◌≤◌, ◌+◌}
use Rattle.std.specs.Prelude.{◌⊎◌, length, drop}
use Rattle.sot_lists.specs.Places.{At}
use Rattle.sot_lang.specs.declared.cert.Cert.{Cert}
use Rattle.sot_lang.specs.Tables.{Tables}
use Rattle.sot_world.specs.Configurations.{Configuration, mode_of, point_of, IsOpening, IsSafer}
use Rattle.sot_world.specs.declared.mode.Mode.TheVariants.{Ac, Sc}
use Rattle.sot_world.specs.Steps.{Event, Input, Code, Guest, Decide, Tick}
use Rattle.sot_world.specs.Runs.{Run}
use Rattle.sot_law_runs.specs.Firings.{is_firing, count_of}
use Rattle.sot_law_runs.specs.Holds.{Guarded, IsHold}

-- the points of plant k after each tick of these events, which lead to these configurations
abbrev pub points_after : ℕ → List Event → List Configuration → List (List ℤ)
points_after k [] Ds = []
points_after k (e ∷ es) [] = []
points_after k (Tick noise ∷ es) (D ∷ Ds) = point_of D k ∷ points_after k es Ds
points_after k (Input topic value ∷ es) (D ∷ Ds) = points_after k es Ds
points_after k (Code n ∷ es) (D ∷ Ds) = points_after k es Ds
points_after k (Guest n draft ∷ es) (D ∷ Ds) = points_after k es Ds
points_after k (Decide m ∷ es) (D ∷ Ds) = points_after k es Ds

-- a run from a safer opening, of which these events are a stretch behind the first ones; the module
-- is in mode Sc in each configuration before, between and after them
pub record IsStretch {p : Tables} {cert : Cert} {m : ℕ} (g : Guarded p cert m)
    (start : List (List ℤ)) (C : Configuration) (first stretch rest : List Event)
    (Ds : List Configuration) : Type 0 where
  pub opening : IsOpening p start C
  pub safer : IsSafer p C
  pub run : Run p cert.jitter C (first ++ (stretch ++ rest)) Ds
  pub mode : (i : ℕ) (D : Configuration) → i ≤ length stretch → At (C ∷ Ds) (length first + i) D
      → mode_of D m ≡ Sc

-- from one firing of the safe node to the next, with the mode Sc all along, the path is a hold
abbrev pub FiringsAreHolds : {p : Tables} {cert : Cert} {m : ℕ} → Guarded p cert m → Type 0
FiringsAreHolds {p} {cert} {m} g =
    (start : List (List ℤ)) (C D : Configuration) (first between rest : List Event)
    (Ds : List Configuration) →
    IsStretch g start C first (Code g.info.sc ∷ between) (Code g.info.sc ∷ rest) Ds
    → count_of (is_firing g.info.sc) between ≡ 0 → At (C ∷ Ds) (length first) D →
    IsHold g (point_of D g.info.plant)
    (points_after g.info.plant between (drop (length first + 1) Ds))

-- an event is a tick
abbrev pub is_tick : Event → Bool
is_tick (Input topic value) = false
is_tick (Code n) = false
is_tick (Guest n draft) = false
is_tick (Decide m) = false
is_tick (Tick noise) = true

-- a stretch ends in a whole hold: behind n firings of the safe node come at least as many ticks as
-- the shortest hold has
pub record EndsInHold {p : Tables} {cert : Cert} {m : ℕ} (g : Guarded p cert m) (n : ℕ)
    (stretch : List Event) : Type 0 where
  pub before : List Event
  pub present : List Event
  pub are : stretch ≡ before ++ present
  pub fired : n ≤ count_of (is_firing g.info.sc) before
  pub long : g.sc.period ≤ count_of is_tick present + cert.jitter

-- n whole holds lie in a stretch: between n + 1 firings, or from n firings on to its end
abbrev pub HaveHolds : {p : Tables} {cert : Cert} {m : ℕ} → Guarded p cert m → ℕ → List Event
    → Type 0
HaveHolds {p} {cert} {m} g n stretch =
    (n ≤ count_of (is_firing g.info.sc) stretch - 1) ⊎ EndsInHold g n stretch

-- after n whole holds the decision that comes next trusts the advanced node
abbrev pub TrustsAfter : {p : Tables} {cert : Cert} {m : ℕ} → Guarded p cert m → ℕ → Type 0
TrustsAfter {p} {cert} {m} g n =
    (start : List (List ℤ)) (C D : Configuration) (first stretch rest : List Event)
    (Ds : List Configuration) →
    IsStretch g start C first stretch (Decide m ∷ rest) Ds → HaveHolds g n stretch
    → At Ds (length first + length stretch) D → mode_of D m ≡ Ac
