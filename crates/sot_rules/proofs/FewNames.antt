-- Names that are looked at one by one, and those of a table behind them.
use Rattle.std.proofs.Common.{◌≡◌, ◌∙◌, ℕ, ◌+◌, ◌<◌, ◌≤◌, List, [], ◌∷◌, ◌++◌, length, get_or, drop, map, find, cond, Option, Some, None, option_map, Bool}
use Rattle.std.proofs.Common.{true, false, ◌||◌, if◌then◌else◌, refl, sym, ap, arith, append-nil}
use Rattle.std.specs.Option.{option_or}
use Rattle.std.specs.Map.{lookup}
use Rattle.std.specs.Str.{bytes_eq}
use Rattle.std.proofs.lemmas.List.{drop_all}
use denote.Ref.{Bor}
use Rattle.sot_rules.specs.declared.names.scope.Kept.{Kept}
use Rattle.sot_rules.specs.declared.names.scope.Things.{Things}
use Rattle.sot_rules.specs.Names.{Part}
use Rattle.sot_names.specs.NameTables.{found, entry}
use Rattle.sot_rules.specs.NameTables.{found_in}
use Rattle.sot_rules.specs.Indexes.{sort_in}
use Rattle.sot_names.proofs.FewNames.{none_of}
use Rattle.sot_rules.proofs.Loops.{rest_is}

-- entries, one after another as a loop reads them
pub entry_from : (name : List ℕ) (es : List (Bor (List ℕ) × Kept)) (i : ℕ) (e : Bor (List ℕ) × Kept) (b : Bool) → i < length es → e ≡ get_or es i e
    → bytes_eq name e.0.now ≡ b → lookup (λ k. bytes_eq name k.now) (drop i es) ≡ cond b (Some e.1) (lookup (λ k. bytes_eq name k.now) (drop (i + 1) es))
entry_from name es i e b lt is h =
    ap (lookup (λ k. bytes_eq name k.now)) (rest_is es i e lt is)
    ∙ ap (λ b. cond b (Some e.1) (lookup (λ k. bytes_eq name k.now) (drop (i + 1) es))) h

pub entry_past : (name : List ℕ) (es : List (Bor (List ℕ) × Kept)) (i : ℕ) → length es ≤ i → lookup (λ k. bytes_eq name k.now) (drop i es) ≡ None
entry_past name es i le = ap (lookup (λ k. bytes_eq name k.now)) (drop_all i es le)

-- parts
module _ {X : Type 0} (g : X → Part) (name : List ℕ) (xs : List X) (i : ℕ) where
  pub part_next : (x : X) → i < length xs → x ≡ get_or xs i x → bytes_eq name (g x).name ≡ false
      → sort_in (map g (drop (i + 1) xs)) name ≡ sort_in (map g (drop i xs)) name
  part_next x lt is h =
      sym (ap (λ z. sort_in (map g z) name) (rest_is xs i x lt is)
      ∙ ap (λ b. option_map (λ (p : Part). p.sort) (cond b (Some (g x)) (find (λ (p : Part). bytes_eq name p.name) (map g (drop (i + 1) xs))))) h)

  pub part_here : (x : X) → i < length xs → x ≡ get_or xs i x → bytes_eq name (g x).name ≡ true → Some (g x).sort ≡ sort_in (map g (drop i xs)) name
  part_here x lt is h =
      sym (ap (λ z. sort_in (map g z) name) (rest_is xs i x lt is)
      ∙ ap (λ b. option_map (λ (p : Part). p.sort) (cond b (Some (g x)) (find (λ (p : Part). bytes_eq name p.name) (map g (drop (i + 1) xs))))) h)

  pub no_part : length xs ≤ i → None ≡ sort_in (map g (drop i xs)) name
  no_part le = sym (ap (λ z. sort_in (map g z) name) (drop_all i xs le))

-- what a name stands for in two lists, one behind the other
pub lookup_both : {V : Type 0} (name : List ℕ) (xs ys : List (Bor (List ℕ) × V))
    → lookup (λ k. bytes_eq name k.now) (xs ++ ys) ≡ option_or (lookup (λ k. bytes_eq name k.now) xs) (lookup (λ k. bytes_eq name k.now) ys)
lookup_both name [] ys = refl
lookup_both {V} name (x ∷ xs) ys = by (bytes_eq name x.0.now) _ _ (lookup_both name xs ys)
  where
    by : (b : Bool) (o p : Option V) → o ≡ option_or p (lookup (λ k. bytes_eq name k.now) ys)
        → cond b (Some x.1) o ≡ option_or (cond b (Some x.1) p) (lookup (λ k. bytes_eq name k.now) ys)
    by true o p h = refl
    by false o p h = h

or_none : {V : Type 0} (a : Option V) → option_or a None ≡ a
or_none None = refl
or_none (Some x) = refl

or_or : {V : Type 0} (a b c : Option V) → option_or a (option_or b c) ≡ option_or (option_or a b) c
or_or None b c = refl
or_or (Some x) b c = refl

-- found among the first few, or not
pub few_found : (t : Things) (name : List ℕ) (r : Option Kept) (x : Kept) → r ≡ lookup (λ k. bytes_eq name k.now) t.few.items → r ≡ Some x
    → Some x ≡ found_in t name
few_found t name r x e is = sym (lookup_both name t.few.items t.many.entries ∙ ap (λ o. option_or o (found t.many name)) (sym e ∙ is))

pub many_found : (t : Things) (name : List ℕ) (r o : Option Kept) → r ≡ lookup (λ k. bytes_eq name k.now) t.few.items → r ≡ None → o ≡ found t.many name
    → o ≡ found_in t name
many_found t name r o e is h = h ∙ sym (lookup_both name t.few.items t.many.entries ∙ ap (λ o. option_or o (found t.many name)) (sym e ∙ is))

pub none_found : (t : Things) (name : List ℕ) (r : Option Kept) → r ≡ lookup (λ k. bytes_eq name k.now) t.few.items → r ≡ None → length t.many.entries ≡ 0
    → None ≡ found_in t name
none_found t name r e is none = many_found t name r None e is (sym (ap (lookup (λ k. bytes_eq name k.now)) (none_of t.many.entries none)))

-- one of the first few more
pub few_more : (old new : Things) (key : Bor (List ℕ)) (kept : Kept) → length old.many.entries ≡ 0 → new.many.entries ≡ old.many.entries
    → new.few.items ≡ old.few.items ++ (key, kept) ∷ [] → (n : List ℕ) → found_in new n ≡ option_or (found_in old n) (entry key.now kept n)
few_more old new key kept none same push n =
    let all : (t : Things) → t.many.entries ≡ [] → found_in t n ≡ lookup (λ k. bytes_eq n k.now) t.few.items = λ t e.
    ap (λ es. lookup (λ k. bytes_eq n k.now) (t.few.items ++ es)) e ∙ ap (lookup (λ k. bytes_eq n k.now)) (append-nil t.few.items) in
    let empty : old.many.entries ≡ [] = none_of old.many.entries none in
    all new (same ∙ empty)
    ∙ ap (lookup (λ k. bytes_eq n k.now)) push
    ∙ lookup_both n old.few.items ((key, kept) ∷ [])
    ∙ ap (λ o. option_or o (entry key.now kept n)) (sym (all old empty))

-- one of the others more
pub many_more : (old new : Things) (key : List ℕ) (kept : Kept) → new.few.items ≡ old.few.items
    → ((n : List ℕ) → found new.many n ≡ option_or (found old.many n) (entry key kept n)) → (n : List ℕ)
    → found_in new n ≡ option_or (found_in old n) (entry key kept n)
many_more old new key kept same add n =
    lookup_both n new.few.items new.many.entries
    ∙ ap (λ es. option_or (lookup (λ k. bytes_eq n k.now) es) (found new.many n)) same
    ∙ ap (option_or (lookup (λ k. bytes_eq n k.now) old.few.items)) (add n)
    ∙ or_or (lookup (λ k. bytes_eq n k.now) old.few.items) (found old.many n) (entry key kept n)
    ∙ ap (λ o. option_or o (entry key kept n)) (sym (lookup_both n old.few.items old.many.entries))
