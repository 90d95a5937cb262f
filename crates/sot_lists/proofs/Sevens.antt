-- The places of the worked list.
use Rattle.std.proofs.Common.{ℕ, zero, suc, refl}
use Rattle.std.proofs.lemmas.Option.{none-some, same_Some}
use Rattle.sot_lists.specs.Places.{At}
use Rattle.sot_lists.specs.Sevens.{sevens, PlacesOfSevens, MembersOfSevens}

pub places : PlacesOfSevens
places = (refl, refl, refl, λ x at. none-some x at)

no_nine : (k : ℕ) → At sevens k 9 → ⊥
no_nine zero at = (let e = same_Some 7 9 at in cc)
no_nine (suc zero) at = (let e = same_Some 8 9 at in cc)
no_nine (suc (suc zero)) at = (let e = same_Some 7 9 at in cc)
no_nine (suc (suc (suc k))) at = none-some 9 at

pub members : MembersOfSevens
members = ((1, refl), λ h. no_nine h.0 h.1)
