-- Lists of instructions.
use Rattle.std.proofs.Common.{ℕ, ◌+◌, ◌<◌, ℤ, List, [], ◌∷◌, ◌++◌, take, length, get_or, refl, sym, subst}
use Rattle.std.proofs.lemmas.List.{take_more}
use Rattle.sot_eval_flat.specs.declared.instruction.Instruction.{Instruction}
use Rattle.sot_eval_flat.specs.Instructions.{Does, Runs}

-- one list of instructions after another
pub runs_join : (fs bs : List Instruction) (xs ms ys : List ℤ) → Runs fs xs ms → Runs bs ms ys → Runs (fs ++ bs) xs ys
runs_join [] bs xs ms ys a b = subst (λ l. Runs bs l ys) a b
runs_join (i ∷ fs) bs xs ms ys a b = (a.0, a.1, runs_join fs bs a.0 ms ys a.2 b)

pub runs_part : (fs bs : List Instruction) (xs ys : List ℤ) → Runs (fs ++ bs) xs ys → (ms : List ℤ) × Runs fs xs ms × Runs bs ms ys
runs_part [] bs xs ys r = (xs, refl, r)
runs_part (i ∷ fs) bs xs ys r = (let q = runs_part fs bs r.0 ys r.2 in (q.0, (r.0, r.1, q.1), q.2))

-- one more instruction
pub runs_more : (line : List Instruction) (i : ℕ) (d : Instruction) (xs ys zs : List ℤ) → i < length line → Runs (take i line) xs ys
    → Does (get_or line i d) ys zs → Runs (take (i + 1) line) xs zs
runs_more line i d xs ys zs lt before now =
    subst (λ l. Runs l xs zs) (sym (take_more line i d lt))
    (runs_join (take i line) (get_or line i d ∷ []) xs ys zs before (zs, now, refl))
