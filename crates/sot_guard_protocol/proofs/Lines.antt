-- Lines one after another.
use Rattle.std.proofs.Common.{◌≡◌, ℕ, List, [], ◌∷◌, ◌++◌, refl, sym, ap, ◌∙◌, append_assoc}
use Rattle.sot_trace.specs.Traces.{text_of}

pub text_of-append : (a b : List (List ℕ)) → text_of (a ++ b) ≡ text_of a ++ text_of b
text_of-append [] b = refl
text_of-append (l ∷ a) b = ap (λ x. l ++ (10 ∷ x)) (text_of-append a b) ∙ sym (append_assoc l (10 ∷ text_of a) (text_of b))
