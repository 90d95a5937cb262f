-- Two lists, place by place.
use Rattle.std.specs.Prelude.{ℕ, suc, List, [], ◌∷◌}

-- the lists are as long as one another, and of what stands at each place of both, counted from this
-- number on, the relation holds
abbrev pub EachFrom : {A B : Type 0} → (ℕ → A → B → Type 0) → ℕ → List A → List B → Type 0
EachFrom R k [] [] = Unit {0}
EachFrom R k [] (y ∷ ys) = ⊥
EachFrom R k (x ∷ xs) [] = ⊥
EachFrom R k (x ∷ xs) (y ∷ ys) = R k x y × EachFrom R (suc k) xs ys
