-- Findings that follow each other.
use Rattle.std.proofs.Common.{◌≡◌, ℕ, zero, suc, inl, inr, List, ◌++◌, refl, sym, ap, append_assoc}
use Rattle.sot_box.specs.Sides.{Side}
use Rattle.sot_certify.specs.Findings.{Finding, Whole, Failing, Begun, behind, followed, BisectsWithin}

pub behind_behind : (a b : List (List Side)) (f : Finding) → behind a (behind b f) ≡ behind (a ++ b) f
behind_behind a b (Whole c) = ap Whole (sym (append_assoc a b c))
behind_behind a b (Failing c s) = ap (λ l. Failing l s) (sym (append_assoc a b c))
behind_behind a b (Begun c) = ap Begun (sym (append_assoc a b c))

behind_followed : (cs : List (List Side)) (f g : Finding) → behind cs (followed f g) ≡ followed (behind cs f) g
behind_followed cs (Whole ds) g = behind_behind cs ds g
behind_followed cs (Failing ds s) g = refl
behind_followed cs (Begun ds) g = refl

pub followed_assoc : (f g h : Finding) → followed f (followed g h) ≡ followed (followed f g) h
followed_assoc (Whole cs) g h = behind_followed cs g h
followed_assoc (Failing cs s) g h = refl
followed_assoc (Begun cs) g h = refl

-- more cuts find the same
pub deeper : (Good : List Side → Type 0) (n : ℕ) (box : List Side) (f : Finding) → BisectsWithin Good n box f → BisectsWithin Good (suc n) box f
deeper Good zero box f h = inl h
deeper Good (suc n) box f (inl h) = inl h
deeper Good (suc n) box f (inr (inl h)) = inr (inl h)
deeper Good (suc n) box f (inr (inr (inl h))) = inr (inr (inl h))
deeper Good (suc n) box f (inr (inr (inr h))) = inr (inr (inr (h.0, h.1, h.2, h.3, h.4, h.5, deeper Good n h.1 h.4 h.6, deeper Good n h.2 h.5 h.7, h.8)))
