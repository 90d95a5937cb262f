-- Nothing is left, place by place.
use Rattle.std.proofs.Common.{◌≡◌, ℕ, ◌<◌, false, length}
use Rattle.std.proofs.lemmas.Option.{slice_get_within}
use Rattle.sot_lists.proofs.Places.{at_below}
use Rattle.sot_lang.specs.Tables.{Tables}
use Rattle.sot_world.specs.Configurations.{Configuration, is_left, is_left_dm}
use Rattle.sot_world.specs.Calendar.{NothingLeft}

module _ (p : Tables) (C : Configuration) where
  pub nothing_from : ((n : ℕ) → n < length p.nodes → is_left C n ≡ false) → ((m : ℕ) → m < length p.modules → is_left_dm C m ≡ false) → NothingLeft p C
  nothing_from nodes modules = record {
    nodes = λ n node at. nodes n (slice_get_within p.nodes n node at);
    modules = λ m a at. modules m (slice_get_within p.modules m a at);
  }

  pub nodes_from : NothingLeft p C → (n : ℕ) → n < length p.nodes → is_left C n ≡ false
  nodes_from none n lt = (let x = at_below p.nodes n lt in none.nodes n x.0 x.1)

  pub modules_from : NothingLeft p C → (m : ℕ) → m < length p.modules → is_left_dm C m ≡ false
  modules_from none m lt = (let x = at_below p.modules m lt in none.modules m x.0 x.1)
