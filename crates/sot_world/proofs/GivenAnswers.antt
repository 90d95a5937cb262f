-- What is kept of answers stays right.
use Rattle.std.proofs.Common.{◌≡◌, ℕ, zero, suc, ℤ, List, [], ◌∷◌, Bool, Option, None, Some, slice_set, subst}
use Rattle.std.specs.Prelude.{IfSome, IsTrue, ◌↔◌}
use Rattle.std.proofs.lemmas.Option.{same_Some}
use Rattle.sot_lists.specs.Places.{At}
use Rattle.sot_lang.specs.declared.cert.Cert.{Cert}
use Rattle.sot_lang.specs.declared.tables.ModuleInfo.{ModuleInfo}
use Rattle.sot_lang.specs.Tables.{Tables}
use Rattle.sot_tube.specs.Admitted.{Admitted}
use Rattle.sot_tube.specs.Tubes.{Keeps}
use Rattle.sot_world.specs.declared.answers.KeepsAnswer.{KeepsAnswer}
use Rattle.sot_world.specs.declared.answers.KeepsAnswer.TheVariants.{Given}
use Rattle.sot_world.specs.Answers.{IsRight}

-- one right answer more
pub stay_right : (acc : Admitted) (xs : List KeepsAnswer) (k : ℕ) (x : KeepsAnswer) → ((i : ℕ) (y : KeepsAnswer) → At xs i y → IsRight acc y) → IsRight acc x
    → (i : ℕ) (y : KeepsAnswer) → At (slice_set xs k x) i y → IsRight acc y
stay_right acc [] k x h r i y at = h i y at
stay_right acc (z ∷ zs) zero x h r zero y at = subst (IsRight acc) (same_Some x y at) r
stay_right acc (z ∷ zs) zero x h r (suc i) y at = h (suc i) y at
stay_right acc (z ∷ zs) (suc k) x h r zero y at = h zero y at
stay_right acc (z ∷ zs) (suc k) x h r (suc i) y at = stay_right acc zs k x (λ j w a. h (suc j) w a) r i y at

-- what is said of a program and a certificate is said of those that were accepted
pub said_of : (acc now : Admitted) (p : Tables) (cert : Cert) (m : ℕ) (s : List ℤ) (kept : Bool) → p ≡ acc.program → cert ≡ acc.cert → acc ≡ now
    → ((a : ModuleInfo) → At p.modules m a → IsTrue kept ↔ Keeps p cert.jitter a s)
    → (a : ModuleInfo) → At now.program.modules m a → IsTrue kept ↔ Keeps now.program now.cert.jitter a s
said_of acc now p cert m s kept ep ec en h =
    subst (λ n. (a : ModuleInfo) → At n.program.modules m a → IsTrue kept ↔ Keeps n.program n.cert.jitter a s) en
    (subst (λ c. (a : ModuleInfo) → At acc.program.modules m a → IsTrue kept ↔ Keeps acc.program c.jitter a s) ec
    (subst (λ q. (a : ModuleInfo) → At q.modules m a → IsTrue kept ↔ Keeps q cert.jitter a s) ep h))

-- what a right answer says of a module at a point is right
pub recalled : (acc now : Admitted) (answer : KeepsAnswer) (m : ℕ) (s : List ℤ) (o : Option Bool) → acc ≡ now → IsRight acc answer
    → IfSome o (λ kept. answer ≡ Given kept m s) → IfSome o (λ kept. IsRight now (Given kept m s))
recalled acc now answer m s None en r is = tt
recalled acc now answer m s (Some kept) en r is = subst (λ n. IsRight n (Given kept m s)) en (subst (IsRight acc) is r)
