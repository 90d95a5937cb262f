-- A world's tick is a step of the semantics.
use Rattle.std.proofs.Common.{◌≡◌, ℕ, suc, ◌<◌, ℤ, Bool, true, false, ◌⊎◌, ◌↔◌, List, [], length, refl, sym, ◌∙◌, subst, arith}
use Rattle.std.specs.Prelude.{slice_index_or}
use Rattle.std.proofs.lemmas.List.{length-map}
use Rattle.std.proofs.lemmas.Option.{slice_get_within}
use Rattle.sot_box.specs.Sides.{Side}
use Rattle.sot_lists.specs.Places.{At}
use Rattle.sot_lang.specs.declared.tables.PlantInfo.{PlantInfo}
use Rattle.sot_lang.specs.declared.tables.NodeInfo.{NodeInfo}
use Rattle.sot_lang.specs.declared.tables.ModuleInfo.{ModuleInfo}
use Rattle.sot_lang.specs.Tables.{Tables}
use Rattle.sot_lang.specs.Ranges.{bounds}
use Rattle.sot_box.proofs.Ranges.{within_length}
use Rattle.sot_calendar.specs.Due.{IsDue}
use Rattle.sot_tube.specs.Admitted.{Admitted}
use Rattle.sot_world.specs.Configurations.{Configuration, is_left, is_left_dm}
use Rattle.sot_world.specs.Steps.{Ticks, MayTick}
use Rattle.sot_world.specs.Events.{cut, IsInBounds}
use Rattle.sot_world.specs.State.{State, IsKept}
use Rattle.sot_world.specs.Changes.{MayMove, IsMoved}
use Rattle.sot_world.proofs.Safety.{tick_runs}
use Rattle.sot_world.proofs.Possible.{bounds_cut, cut_length}
use Rattle.sot_world.proofs.Stepping.{well_formed}

module _ (a : Admitted) (C : Configuration) (kept : IsKept a C) (noise : List ℤ) (may : MayTick a.program a.cert.jitter C)
    (within : IsInBounds a.program.plants noise) where
  -- each plant can move
  pub may_move : (k : ℕ) (plant : PlantInfo) → At a.program.plants k plant
      → MayMove a.program k C.scalars C.points (slice_index_or (cut a.program.plants noise) k [])
  may_move k plant at =
      let own = bounds_cut a.program.plants noise within k plant at in
      let ticks = tick_runs a.program a.cert.jitter kept.rules.typed (well_formed a C kept) C kept.holds may k plant
      (slice_index_or (cut a.program.plants noise) k []) at own in
      record {
        plant = plant;
        is = at;
        inputs = λ i n has. omega (arith, kept.rules.typed.inputs_are k plant n at (i, has), kept.holds.sizes.scalars);
        sees =
            λ i n has. let other =
            kept.rules.typed.sees_are k plant n at (i, has) in omega (arith, slice_get_within a.program.plants n other.0 other.1, kept.holds.sizes.points);
        noise_are =
            within_length (bounds plant) (slice_index_or (cut a.program.plants noise) k []) own
            ∙ length-map plant.noise.items (λ d. let r : Side = record { lo = d.lo; hi = d.hi } in r);
        next = ticks.0;
        moves = ticks.1;
      }

  -- all plants have moved, and what is due then is left
  pub ticks_so :
      (time : ℕ) (left left_dm : List Bool) (points : List (List ℤ)) → time ≡ suc C.time
      → length left ≡ length a.program.nodes → length left_dm ≡ length a.program.modules → length points ≡ length a.program.plants
      → ((n : ℕ) (node : NodeInfo) → At a.program.nodes n node
      → (slice_index_or left n false ≡ true) ↔ ((is_left C n ≡ true) ⊎ IsDue node.period node.offset time))
      → ((m : ℕ) (info : ModuleInfo) → At a.program.modules m info
      → (slice_index_or left_dm m false ≡ true) ↔ ((is_left_dm C m ≡ true) ⊎ IsDue info.period info.offset time))
      → ((k : ℕ) → k < length a.program.plants → IsMoved a.program k C.scalars C.points (slice_index_or (cut a.program.plants noise) k [])
      (slice_index_or points k []))
      → Ticks a.program a.cert.jitter (cut a.program.plants noise) C (record C { time = time; left = left; left_dm = left_dm; points = points })
  ticks_so time left left_dm points t l d q nodes modules moved = record {
    may = may;
    each = cut_length a.program.plants noise;
    bounded = bounds_cut a.program.plants noise within;
    moves = λ k plant at. moved k (slice_get_within a.program.plants k plant at) plant at;
    time = t;
    left = nodes;
    left_dm = modules;
    sizes = record { left = l; left_dm = d; modes = kept.holds.sizes.modes; scalars = kept.holds.sizes.scalars; locals = kept.holds.sizes.locals; points = q };
    rest = refl;
  }

-- all plants have moved
abbrev pub AllMoved : Tables → List ℤ → List (List ℤ) → List ℤ → List (List ℤ) → Type 0
AllMoved p scalars points noise next =
    (k : ℕ) → k < length p.plants → IsMoved p k scalars points (slice_index_or (cut p.plants noise) k []) (slice_index_or next k [])

pub moved_along : (p q : Tables) (s t : List ℤ) (x y : List (List ℤ)) (noise : List ℤ) (next kept : List (List ℤ)) → p ≡ q → s ≡ t → x ≡ y → kept ≡ next
    → AllMoved p s x noise next → AllMoved q t y noise kept
moved_along p q s t x y noise next kept a b d e moved =
    subst (λ z. AllMoved q t y noise z) (sym e) (subst (λ z. AllMoved q t z noise next) d
    (subst (λ z. AllMoved q z x noise next) b (subst (λ z. AllMoved z s x noise next) a moved)))

-- a tick from a state that is another one's
pub ticks_along : (s t : State) (noise : List ℤ) (D : Configuration) → s ≡ t
    → Ticks s.accepted.program s.accepted.cert.jitter (cut s.accepted.program.plants noise) s.at D
    → Ticks t.accepted.program t.accepted.cert.jitter (cut t.accepted.program.plants noise) t.at D
ticks_along s t noise D same step = subst (λ x. Ticks x.accepted.program x.accepted.cert.jitter (cut x.accepted.program.plants noise) x.at D) same step
