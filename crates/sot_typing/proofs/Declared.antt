-- The declarations of one sort: where the name of each leads.
use Rattle.std.proofs.Common.{◌≡◌, ◌∙◌, ℕ, zero, suc, ◌+◌, List, [], ◌∷◌, find, cond, not, filter_map, refl, sym, ap, subst, Option, Some, None, true, false}
use Rattle.std.proofs.Common.{Bool, arith}
use Rattle.std.specs.List.{cons_option, position_or_len}
use Rattle.sot_lists.specs.Places.{At}
use Rattle.sot_syntax_tree.specs.declared.tree.Ident.{Ident}
use Rattle.sot_rules.specs.Lists.{are_same}
use Rattle.sot_typing.proofs.Lists.{of_kept, at_same}
use Rattle.sot_typing.proofs.Once.{AreOnce, same_name, name_same}

-- the first item that passes a test, where one does
pub position_found : {A : Type 0} (test : A → Bool) (xs : List A) (k : ℕ) (x : A) → At xs k x → test x ≡ true
    → (y : A) × At xs (position_or_len test xs) y × (test y ≡ true)
position_found test [] k x a e = cc
position_found {A = A} test (z ∷ xs) k x a e = by (test z) refl k a (λ i b. position_found test xs i x b e)
  where
    by : (b : Bool) → test z ≡ b → (k : ℕ) → At (z ∷ xs) k x → ((i : ℕ) → At xs i x → (y : A) × At xs (position_or_len test xs) y × (test y ≡ true))
        → (y : A) × At (z ∷ xs) (cond (not b) (1 + position_or_len test xs) 0) y × (test y ≡ true)
    by true q k a more = (z, refl, q)
    by false q zero a more = (let r : z ≡ x = cc in let t : test z ≡ true = ap test r ∙ e in cc)
    by false q (suc k) a more =
        let r = more k a in
        let n : suc (position_or_len test xs) ≡ 1 + position_or_len test xs = omega arith in
        (r.0, subst (λ m. At (z ∷ xs) m r.0) n r.1, r.2)

pub find_found : {A : Type 0} (test : A → Bool) (xs : List A) (k : ℕ) (x : A) → At xs k x → test x ≡ true
    → (y : A) × (j : ℕ) × (find test xs ≡ Some y) × At xs j y × (test y ≡ true)
find_found test [] k x a e = cc
find_found {A = A} test (z ∷ xs) k x a e = by (test z) refl k a (λ i b. find_found test xs i x b e)
  where
    by : (b : Bool) → test z ≡ b → (k : ℕ) → At (z ∷ xs) k x → ((i : ℕ) → At xs i x → (y : A) × (j : ℕ) × (find test xs ≡ Some y) × At xs j y × (test y ≡ true))
        → (y : A) × (j : ℕ) × (cond b (Some z) (find test xs) ≡ Some y) × At (z ∷ xs) j y × (test y ≡ true)
    by true q k a more = (z, 0, refl, refl, q)
    by false q zero a more = (let r : z ≡ x = cc in let t : test z ≡ true = ap test r ∙ e in cc)
    by false q (suc k) a more = (let r = more k a in (r.0, suc r.1, r.2, r.3, r.4))

pub of_find : {A : Type 0} (test : A → Bool) (xs : List A) (y : A) → find test xs ≡ Some y → (j : ℕ) × At xs j y × (test y ≡ true)
of_find test [] y e = cc
of_find {A = A} test (z ∷ xs) y e = by (test z) refl e (λ q. of_find test xs y q)
  where
    by : (b : Bool) → test z ≡ b → cond b (Some z) (find test xs) ≡ Some y → (find test xs ≡ Some y → (j : ℕ) × At xs j y × (test y ≡ true))
        → (j : ℕ) × At (z ∷ xs) j y × (test y ≡ true)
    by true q e more = (0, e, (let r : z ≡ y = cc in ap test (sym r) ∙ q))
    by false q e more = (let r = more e in (suc r.0, r.1, r.2))

-- of the items of a list some are of a sort
module _ {A X : Type 0} (pick : A → Option X) (label : A → Ident) (name : X → Ident) (link : (d : A) (x : X) → pick d ≡ Some x → label d ≡ name x) where
  -- the first item of a name, where it is of the sort, is the first of its sort with the name
  pub place_found : (i : Ident) (ds : List A) (d : A) (x : X) → find (λ d. are_same i (label d)) ds ≡ Some d → pick d ≡ Some x
      → At (filter_map pick ds) (position_or_len (λ y. are_same i (name y)) (filter_map pick ds)) x
  place_found i [] d x e q = cc
  place_found i (z ∷ ds) d x e q = by (are_same i (label z)) refl e (λ h. place_found i ds d x h q)
    where
      first : are_same i (label z) ≡ true → pick z ≡ Some x → (o : Option X) → o ≡ Some x
          → At (cons_option o (filter_map pick ds)) (position_or_len (λ y. are_same i (name y)) (cons_option o (filter_map pick ds))) x
      first t p None h = cc
      first t p (Some w) h =
          let r : w ≡ x = cc in
          let s : are_same i (name w) ≡ true = ap (λ y. are_same i (name y)) r ∙ ap (are_same i) (sym (link z x p)) ∙ t in
          subst (λ b. At (w ∷ filter_map pick ds) (cond (not b) (1 + position_or_len (λ y. are_same i (name y)) (filter_map pick ds)) 0) x) (sym s) h

      later : are_same i (label z) ≡ false → (o : Option X) → pick z ≡ o
          → At (filter_map pick ds) (position_or_len (λ y. are_same i (name y)) (filter_map pick ds)) x
          → At (cons_option o (filter_map pick ds)) (position_or_len (λ y. are_same i (name y)) (cons_option o (filter_map pick ds))) x
      later t None p h = h
      later t (Some w) p h =
          let s : are_same i (name w) ≡ false = ap (are_same i) (sym (link z w p)) ∙ t in
          let n : suc (position_or_len (λ y. are_same i (name y)) (filter_map pick ds)) ≡ 1 + position_or_len (λ y. are_same i (name y)) (filter_map pick ds) =
          omega arith in
          subst (λ b. At (w ∷ filter_map pick ds) (cond (not b) (1 + position_or_len (λ y. are_same i (name y)) (filter_map pick ds)) 0) x) (sym s)
          (subst (λ m. At (w ∷ filter_map pick ds) m x) n h)

      by : (b : Bool) → are_same i (label z) ≡ b → cond b (Some z) (find (λ d. are_same i (label d)) ds) ≡ Some d
          → (find (λ d. are_same i (label d)) ds ≡ Some d → At (filter_map pick ds) (position_or_len (λ y. are_same i (name y)) (filter_map pick ds)) x)
          → At (filter_map pick (z ∷ ds)) (position_or_len (λ y. are_same i (name y)) (filter_map pick (z ∷ ds))) x
      by true t e more = (let r : z ≡ d = cc in let p : pick z ≡ Some x = ap pick r ∙ q in first t p (pick z) p)
      by false t e more = later t (pick z) refl (more e)

  -- names that stand once among all stand once among those of the sort
  pub once_kept : (ds : List A) → AreOnce label ds → AreOnce name (filter_map pick ds)
  once_kept [] once = λ i j a b x y e. cc
  once_kept (z ∷ ds) once = by (pick z) refl (once_kept ds (λ i j a b x y e. let r = once (suc i) (suc j) a b x y e in omega arith))
    where
      apart : (w : X) → pick z ≡ Some w → (j : ℕ) (b : X) → At (filter_map pick ds) j b → (name w).name ≡ (name b).name → ⊥
      apart w p j b y e =
          let r = of_kept pick ds j b y in
          let q : (label z).name ≡ (label r.1).name = ap (λ n. n.name) (link z w p) ∙ e ∙ ap (λ n. n.name) (sym (link r.1 b r.3)) in
          let s = once 0 (suc r.0) z r.1 refl r.2 q in
          absurd (omega arith)

      cons : (w : X) → pick z ≡ Some w → AreOnce name (filter_map pick ds) → AreOnce name (w ∷ filter_map pick ds)
      cons w p more zero zero a b x y e = refl
      cons w p more zero (suc j) a b x y e = (let r : w ≡ a = cc in absurd (apart w p j b y (ap (λ n. (name n).name) r ∙ e)))
      cons w p more (suc i) zero a b x y e = (let r : w ≡ b = cc in absurd (apart w p i a x (ap (λ n. (name n).name) r ∙ sym e)))
      cons w p more (suc i) (suc j) a b x y e = ap suc (more i j a b x y e)

      by : (o : Option X) → pick z ≡ o → AreOnce name (filter_map pick ds) → AreOnce name (cons_option o (filter_map pick ds))
      by None p more = more
      by (Some w) p more = cons w p more

  -- the name of an item that stands once leads to it
  pub own_found : (ds : List A) → AreOnce label ds → (k : ℕ) (x : X) → At (filter_map pick ds) k x
      → (d : A) × (find (λ d. are_same (name x) (label d)) ds ≡ Some d) × (pick d ≡ Some x)
  own_found ds once k x a =
      let r = of_kept pick ds k x a in
      let f = find_found (λ d. are_same (name x) (label d)) ds r.0 r.1 r.2 (name_same (name x) (label r.1) (ap (λ n. n.name) (sym (link r.1 x r.3)))) in
      let e : (label f.0).name ≡ (label r.1).name = sym (same_name (name x) (label f.0) f.4) ∙ ap (λ n. n.name) (sym (link r.1 x r.3)) in
      let p = once f.1 r.0 f.0 r.1 f.3 r.2 e in
      let s : f.0 ≡ r.1 = at_same ds r.0 f.0 r.1 (subst (λ n. At ds n f.0) p f.3) r.2 in
      (f.0, f.2, ap pick s ∙ r.3)

  pub own_place : (ds : List A) → AreOnce label ds → (k : ℕ) (x : X) → At (filter_map pick ds) k x
      → position_or_len (λ y. are_same (name x) (name y)) (filter_map pick ds) ≡ k
  own_place ds once k x a =
      let f = position_found (λ y. are_same (name x) (name y)) (filter_map pick ds) k x a (name_same (name x) (name x) refl) in
      once_kept ds once _ k f.0 x f.1 a (sym (same_name (name x) (name f.0) f.2))
