-- In a world each plant's point is as wide as the plant (as in sot_summary/proofs/Inside, where this is private).
use Rattle.std.proofs.Common.{◌≡◌, ◌∙◌, ℕ, suc, ℤ, List, [], ◌∷◌, length, refl, sym, ap, inl, inr}
use Rattle.sot_lists.specs.Places.{At}
use Rattle.sot_box.specs.Sides.{Side}
use Rattle.sot_box.specs.Regions.{IsInRegion}
use Rattle.sot_box.proofs.Ranges.{within_length}
use Rattle.sot_lang.specs.declared.tables.PlantInfo.{PlantInfo}
use Rattle.sot_lang.specs.OwnerNames.{width_of}
use Rattle.sot_lang.proofs.Owners.{width_at}
use Rattle.sot_tube.specs.Admitted.{Admitted}
use Rattle.sot_tube.proofs.Certificate.{certified_well}
use Rattle.sot_world.specs.Configurations.{Configuration, point_of}
use Rattle.sot_world.specs.State.{IsKept}
use Rattle.sot_world.proofs.Safety.{safe_now}

-- a point of a region is as wide as its boxes
region_width : (bs : List (List Side)) (n : ℕ) (s : List ℤ) → ((i : ℕ) (b : List Side) → At bs i b → length b ≡ n) → IsInRegion bs s → length s ≡ n
region_width [] n s each r = absurd r
region_width (b ∷ bs) n s each (inl w) = within_length b s w ∙ each 0 b refl
region_width (b ∷ bs) n s each (inr r) = region_width bs n s (λ i c at. each (suc i) c at) r

pub kept_width : (a : Admitted) (C : Configuration) → IsKept a C → (k : ℕ) (plant : PlantInfo)
    → At a.program.plants k plant → length (point_of C k) ≡ length plant.states.items
kept_width a C kept k plant at =
    let p = a.program in
    let rules = kept.rules in
    let safe = safe_now p a.cert.jitter rules.typed (certified_well p a.cert.jitter a.cert rules.typed kept.certified) C kept.holds in
    let (m, info, is, names) = rules.typed.named k plant at in
    let region = (rules.modules m info is).safe in
    let inside = region_width info.safe.boxes info.safe.width (point_of C info.plant) (λ i b at_b. (region.each i b at_b).0) (safe.modules m info is) in
    ap (λ n. length (point_of C n)) (sym names) ∙ inside ∙ region.width ∙ ap (λ n. width_of p.plants n) names ∙ width_at p.plants k plant at
