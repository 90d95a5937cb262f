-- What the two halves of an instant do.
use Rattle.std.specs.Prelude.{ℕ, ℤ, ◌<◌, Bool, false, List, ◌++◌, Option, ◌≡◌}
use Rattle.std.specs.Prelude.{slice_index_or}
use Rattle.sot_guard.specs.declared.told.Told.{Told}
use Rattle.sot_guard.specs.Guarding.{Guarding}
use Rattle.sot_guard.specs.Instants.{AreTold, DecideInOrder, FireInOrder}

-- nothing is left among the first so many
abbrev pub NoneLeft : List Bool → ℕ → Type 0
NoneLeft left count = (i : ℕ) → i < count → slice_index_or left i false ≡ false

-- these happened, behind what was told before
pub record TellsMore (s u : Guarding) (drafts : List (List (Option ℤ))) (old new more : List Told) :
    Type 0 where
  pub told : new ≡ old ++ more
  pub happened :
      AreTold s.trusted s.accepted.program s.accepted.cert.jitter drafts s.at more u.at

-- the modules below this one have decided, whatever is drafted
pub record HasDecided (s u : Guarding) (old new : List Told) (end : ℕ) : Type 0 where
  pub more : List Told
  pub tells : (drafts : List (List (Option ℤ))) → TellsMore s u drafts old new more
  pub order : DecideInOrder 0 end more
  pub none : NoneLeft u.at.left_dm end

-- the nodes below this one have fired
pub record HasFired (s u : Guarding) (drafts : List (List (Option ℤ))) (old new : List Told)
    (end : ℕ) : Type 0 where
  pub more : List Told
  pub tells : TellsMore s u drafts old new more
  pub order : FireInOrder 0 end more
  pub none : NoneLeft u.at.left end
  pub left_dm : u.at.left_dm ≡ s.at.left_dm
