-- A table of names after a name is put into it.
use Rattle.std.proofs.Common.{◌≡◌, ◌∙◌, ℕ, List, Option, Some, None, Bool, true, false, cond, if◌then◌else◌, unwrap_or, refl, ap}
use Rattle.std.specs.Option.{option_or}
use Rattle.std.specs.Str.{bytes_eq}
use Rattle.std.proofs.lemmas.Cmp.{nat_list_eq_equiv}
use Rattle.std.proofs.lemmas.Slice.Eq.{bytes_eq-Decides}
use denote.Ref.{Bor}
use Rattle.indexmap.specs.IndexMap.{IndexMap}
use Rattle.sot_names.specs.NameTables.{found, entry}

pub same_by : {a b : List ℕ} → bytes_eq a b ≡ true → a ≡ b
same_by {a = a} {b = b} h = (bytes_eq-Decides a b).0 h

pub bytes_eq_sym : (a b : List ℕ) → bytes_eq a b ≡ bytes_eq b a
bytes_eq_sym a b = nat_list_eq_equiv.symm a b

-- a name with the value that it has, or else with a new one
put_by : {V : Type 0} (old at_key : Option V) (b : Bool) (v : V) → (b ≡ true → at_key ≡ old)
    → cond b (Some (unwrap_or at_key v)) old ≡ option_or old (if b then Some v else None)
put_by None at_key true v h = ap (λ o. Some (unwrap_or o v)) (h refl)
put_by (Some x) at_key true v h = ap (λ o. Some (unwrap_or o v)) (h refl)
put_by None at_key false v h = refl
put_by (Some x) at_key false v h = refl

pub put : {V S : Type 0} (m new : IndexMap (Bor (List ℕ)) V S) (key : Bor (List ℕ)) (w v : V) → w ≡ unwrap_or (found m key.now) v
    → ((q : Bor (List ℕ)) → found new q.now ≡ cond (bytes_eq key.now q.now) (Some w) (found m q.now)) → (n : List ℕ)
    → found new n ≡ option_or (found m n) (entry key.now v n)
put m new key w v e h n =
    h (record key { now = n })
    ∙ ap (λ x. cond (bytes_eq key.now n) (Some x) (found m n)) e
    ∙ put_by (found m n) (found m key.now) (bytes_eq key.now n) v (λ s. ap (found m) (same_by s))
    ∙ ap (λ b. option_or (found m n) (if b then Some v else None)) (bytes_eq_sym key.now n)
