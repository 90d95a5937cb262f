-- The plants of a tick, one after another.
use Rattle.std.proofs.Common.{◌≡◌, ℕ, ◌+◌, ℤ, List, ◌++◌, take, drop, length, sym, ap, ap₂, ◌∙◌}
use Rattle.sot_lists.specs.Places.{At}
use Rattle.sot_lists.proofs.Places.{drop_at}
use Rattle.sot_lang.specs.declared.tables.PlantInfo.{PlantInfo}
use Rattle.sot_trace.specs.Moves.{move_text, moves_text}

module _ (plant : PlantInfo) (v s : List ℤ) where
  -- the parts of one plant, and what is left for those behind it
  pub record IsSplit (own_noise more_noise own_states more_states : List ℤ) : Type 0 where
    pub own_noise_is : own_noise ≡ take (length plant.noise.items) v
    pub more_noise_is : more_noise ≡ drop (length plant.noise.items) v
    pub own_states_is : own_states ≡ take (length plant.states.items) s
    pub more_states_is : more_states ≡ drop (length plant.states.items) s

-- the next plant, and those behind it
pub moves_more : (ks : List PlantInfo) (i : ℕ) (k : PlantInfo) → At ks i k → (v s a b c d : List ℤ) → IsSplit k v s a b c d
    → moves_text (drop i ks) v s ≡ move_text k a c ++ moves_text (drop (i + 1) ks) b d
moves_more ks i k at v s a b c d split =
    let own = ap₂ (λ x y. move_text k x y) split.own_noise_is split.own_states_is in
    let rest = ap₂ (λ x y. moves_text (drop (i + 1) ks) x y) split.more_noise_is split.more_states_is in
    ap (λ l. moves_text l v s) (drop_at ks i k at) ∙ sym (ap₂ (λ x y. x ++ y) own rest)
