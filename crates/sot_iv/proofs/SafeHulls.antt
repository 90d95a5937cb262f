-- The safe region of a plant is that of the first module that names it.
use Rattle.std.proofs.Common.{◌≡◌, ℕ, zero, suc, ◌≤◌, Option, Some, None, List, [], ◌∷◌, length, drop, refl, sym, ap, ◌∙◌, subst, eqb, arith}
use Rattle.std.specs.Prelude.{MatchOption, IfSome}
use Rattle.std.proofs.lemmas.Bool.{cond-true, cond-false, eq-eqb, ne_eqb}
use Rattle.sot_lang.specs.declared.tables.ModuleInfo.{ModuleInfo}
use Rattle.sot_lang.specs.SafeRegions.{safe_of}
use Rattle.std.proofs.lemmas.Option.{same_Some, none-some}
use Rattle.sot_box.specs.Sides.{Side}
use Rattle.sot_lists.specs.Places.{At}
use Rattle.sot_box.specs.Regions.{IsHull}

-- a hull and its width, of one answer
pub hull_answer : (bs : List (List Side)) (n : ℕ) (r : Option (List Side)) → MatchOption r (bs ≡ []) (λ h. IsHull bs h) → IfSome r (λ h. length h ≡ n)
    → MatchOption r (bs ≡ []) (λ h. IsHull bs h × (length h ≡ n))
hull_answer bs n (Some h) is width = (is, width)
hull_answer bs n None is width = is

-- the first module that names the plant is the first of the rest, where those before do not name it
pub safe_rest : (ms : List ModuleInfo) (k i : ℕ) (a : ModuleInfo) → At ms i a → (a.plant ≡ k → ⊥) → safe_of (drop i ms) k ≡ safe_of (drop (suc i) ms) k
safe_rest [] k i a at ne = absurd (none-some a at)
safe_rest (m ∷ ms) k zero a at ne =
    let e : m ≡ a = same_Some m a at in
    cond-false (eqb m.plant k) m.safe.boxes (safe_of ms k) (ne_eqb m.plant k (λ q. ne (ap (λ x. x.plant) (sym e) ∙ q)))
safe_rest (m ∷ ms) k (suc i) a at ne = safe_rest ms k i a at ne

pub safe_here : (ms : List ModuleInfo) (k i : ℕ) (a : ModuleInfo) → At ms i a → a.plant ≡ k → safe_of (drop i ms) k ≡ a.safe.boxes
safe_here [] k i a at e = absurd (none-some a at)
safe_here (m ∷ ms) k zero a at e =
    let same : m ≡ a = same_Some m a at in
    cond-true (eqb m.plant k) m.safe.boxes (safe_of ms k) (eq-eqb m.plant k (ap (λ x. x.plant) same ∙ e)) ∙ ap (λ x. x.safe.boxes) same
safe_here (m ∷ ms) k (suc i) a at e = safe_here ms k i a at e

pub safe_none : (ms : List ModuleInfo) (k i : ℕ) → length ms ≤ i → safe_of (drop i ms) k ≡ []
safe_none [] k zero le = refl
safe_none [] k (suc i) le = refl
safe_none (m ∷ ms) k zero le = absurd (omega arith)
safe_none (m ∷ ms) k (suc i) le = safe_none ms k i (omega arith)

pub safe_answer : (ms : List ModuleInfo) (k i n : ℕ) (a : ModuleInfo) (r : Option (List Side)) → At ms i a → a.plant ≡ k → safe_of (drop i ms) k ≡ safe_of ms k
    → a.safe.width ≡ n
    → MatchOption r (a.safe.boxes ≡ []) (λ b. IsHull a.safe.boxes b × (length b ≡ a.safe.width))
    → MatchOption r (safe_of ms k ≡ []) (λ b. IsHull (safe_of ms k) b × (length b ≡ n))
safe_answer ms k i n a r at e rest width h =
    let same : a.safe.boxes ≡ safe_of ms k = sym (safe_here ms k i a at e) ∙ rest in
    subst (λ q. MatchOption r (q ≡ []) (λ b. IsHull q b × (length b ≡ n))) same
    (subst (λ w. MatchOption r (a.safe.boxes ≡ []) (λ b. IsHull a.safe.boxes b × (length b ≡ w))) width h)
