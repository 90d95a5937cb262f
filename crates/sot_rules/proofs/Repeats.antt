-- Names that stand in a list before are noted.
use Rattle.std.proofs.Common.{◌≡◌, ◌∙◌, ℕ, ◌+◌, ◌<◌, ◌≤◌, List, [], ◌∷◌, ◌++◌, length, get_or, drop, Option, Bool, true, false, not, ◌||◌, if◌then◌else◌, map}
use Rattle.std.proofs.Common.{refl, sym, ap, arith}
use Rattle.std.specs.List.{list_any}
use Rattle.std.specs.Str.{bytes_eq}
use denote.Ref.{Bor}
use Rattle.sot_syntax_tree.specs.declared.tree.Ident.{Ident}
use Rattle.sot_rules.specs.declared.fault.TypeFault.{TypeFault}
use Rattle.sot_rules.specs.declared.fault.TypeKind.TheVariants.{Twice}
use Rattle.sot_names.specs.SeenNames.{with_name}
use Rattle.sot_rules.specs.Faults.{least, when, repeats}
use Rattle.sot_rules.proofs.Least.{least_append}
use Rattle.sot_rules.proofs.Loops.{rest_is}

-- a name is noted, and then what is left
pub step_repeats : {X : Type 0} (f : X → Ident) (xs : List X) (i : ℕ) (x : X) (n : Ident) (seen now_seen : List (List ℕ)) (a b c : Option TypeFault)
    → i < length xs → x ≡ get_or xs i x → n ≡ f x → least a (repeats seen (map f (drop i xs))) ≡ c
    → b ≡ least a (when (list_any (bytes_eq n.name) seen) n.at Twice) → now_seen ≡ with_name seen n → least b (repeats now_seen (map f (drop (i + 1) xs))) ≡ c
step_repeats f xs i x n seen now_seen a b c lt e named inv noted more =
    ap (λ z. least b (repeats z (map f (drop (i + 1) xs)))) (more ∙ ap (with_name seen) named)
    ∙ ap (λ z. least z (repeats (with_name seen (f x)) (map f (drop (i + 1) xs))))
    (noted ∙ ap (λ z. least a (when (list_any (bytes_eq z.name) seen) z.at Twice)) named)
    ∙ sym (least_append a (when (list_any (bytes_eq (f x).name) seen) (f x).at Twice) (repeats (with_name seen (f x)) (map f (drop (i + 1) xs))))
    ∙ ap (λ z. least a (repeats seen (map f z))) (sym (rest_is xs i x lt e))
    ∙ inv

-- a name is new exactly where it was not seen
pub noted_by : (added found : Bool) (first now : Option TypeFault) (i : Ident) → added ≡ not found → now ≡ least first (when (not added) i.at Twice)
    → now ≡ least first (when found i.at Twice)
noted_by added true first now i e n = n ∙ ap (λ b. least first (when (not b) i.at Twice)) e
noted_by added false first now i e n = n ∙ ap (λ b. least first (when (not b) i.at Twice)) e

-- of fewer than two names none repeats
pub few_repeat : {X : Type 0} (f : X → Ident) (xs : List X) → length xs < 2 → repeats [] (map f xs) ≡ []
few_repeat f [] lt = refl
few_repeat f (x ∷ []) lt = refl
few_repeat f (x ∷ y ∷ xs) lt = absurd (omega (arith, lt))
