-- Lists of faults that are the same but for places: how they are put together.
use Rattle.std.proofs.Common.{◌≡◌, ℕ, ◌+◌, nat_lt, nat_le, Bool, true, false, ◌&&◌, List, [], ◌∷◌, ◌++◌, map, Option, Some, None, option_map, slice_get, zero}
use Rattle.std.proofs.Common.{suc, flat_map, refl, sym, ap, ap₂, ◌∙◌, subst}
use Rattle.std.specs.Prelude.{if◌then◌else◌}
use Rattle.std.specs.List.{list_any}
use Rattle.std.specs.Str.{bytes_eq}
use Rattle.sot_text.specs.declared.token.Span.{Span}
use Rattle.sot_syntax_tree.specs.declared.tree.Ident.{Ident}
use Rattle.sot_rules.specs.declared.fault.TypeFault.{TypeFault}
use Rattle.sot_rules.specs.declared.fault.TypeKind.{TypeKind}
use Rattle.sot_rules.specs.declared.fault.TypeKind.TheVariants.{Unknown, Twice, ScaleDiffers, KindDiffers, TooMany}
use Rattle.sot_rules.specs.declared.expressions.sort.Sort.{Sort}
use Rattle.sot_rules.specs.Sorts.{differ, are_mixed}
use Rattle.sot_rules.specs.Names.{Reading, gives, nothing_at, reading_sort}
use Rattle.sot_rules.specs.Lists.{places}
use Rattle.sot_rules.specs.Faults.{fault, when, misfits, reading_faults, target_faults, repeats, one_past, past, passes}
use Rattle.sot_law_print_parse.specs.Unplaced.{nowhere, unplaced_name}
use Rattle.sot_law_equal_tables.proofs.Lists.{map_swap}
use Rattle.sot_law_equal_tables.proofs.Names.{unplaced_reading, reading_sort_same}

abbrev pub unplaced_fault : TypeFault → TypeFault
unplaced_fault f = fault nowhere f.kind

-- the first list has the faults of the second, in its order, and nowhere
pub record AreBare (fs gs : List TypeFault) : Type 0 where
  pub same : fs ≡ map unplaced_fault gs

pub none : AreBare [] []
none = record { same = refl }

map_append : (xs ys : List TypeFault) → map unplaced_fault (xs ++ ys) ≡ map unplaced_fault xs ++ map unplaced_fault ys
map_append [] ys = refl
map_append (x ∷ xs) ys = ap (λ zs. unplaced_fault x ∷ zs) (map_append xs ys)

pub also : {fs gs more others : List TypeFault} → AreBare fs gs → AreBare more others → AreBare (fs ++ more) (gs ++ others)
also {gs = gs} {others = others} a b = record { same = ap₂ (λ x y. x ++ y) a.same b.same ∙ sym (map_append gs others) }

pub one : (at : Span) (k : TypeKind) {fs gs : List TypeFault} → AreBare fs gs → AreBare (fault nowhere k ∷ fs) (fault at k ∷ gs)
one at k a = record { same = ap (λ x. fault nowhere k ∷ x) a.same }

when_is : (b : Bool) (at : Span) (k : TypeKind) → AreBare (when b nowhere k) (when b at k)
when_is true at k = record { same = refl }
when_is false at k = record { same = refl }

pub when_at : {b c : Bool} {w : Span} (at : Span) (k : TypeKind) → w ≡ nowhere → b ≡ c → AreBare (when b w k) (when c at k)
when_at {c = c} {w = w} at k here same =
    subst (λ x. AreBare (when x w k) (when c at k)) (sym same) (subst (λ x. AreBare (when c x k) (when c at k)) (sym here) (when_is c at k))

pub if_same : {b c : Bool} (at : Span) (k : TypeKind) → b ≡ c → AreBare (when b nowhere k) (when c at k)
if_same at k same = when_at at k refl same

pub misfits_at : {a b c d : Bool} {w : Span} (at : Span) → w ≡ nowhere → a ≡ b → c ≡ d → AreBare (misfits a c w) (misfits b d at)
misfits_at at here kind scale = also (when_at at KindDiffers here kind) (when_at at ScaleDiffers here scale)

pub misfits_same : {a b c d : Bool} (at : Span) → a ≡ b → c ≡ d → AreBare (misfits a c nowhere) (misfits b d at)
misfits_same at kind scale = misfits_at at refl kind scale

-- of each element of a list
pub each : {A B : Type 0} (bare : A → B) (f : B → List TypeFault) (g : A → List TypeFault) → ((x : A) → AreBare (f (bare x)) (g x)) → (xs : List A)
    → AreBare (flat_map f (map bare xs)) (flat_map g xs)
each bare f g same [] = none
each bare f g same (x ∷ xs) = also (same x) (each bare f g same xs)

pub each_of : {A B : Type 0} (bare : A → B) (f : B → List TypeFault) (g : A → List TypeFault) → ((x : A) → AreBare (f (bare x)) (g x))
    → (ys : List B) (xs : List A) → ys ≡ map bare xs → AreBare (flat_map f ys) (flat_map g xs)
each_of bare f g same ys xs e = subst (λ zs. AreBare (flat_map f zs) (flat_map g xs)) (sym e) (each bare f g same xs)

-- names that stand twice
repeats_is : (seen : List (List ℕ)) (names : List Ident) → AreBare (repeats seen (map unplaced_name names)) (repeats seen names)
repeats_is seen [] = none
repeats_is seen (i ∷ more) =
    also (if_same i.at Twice refl) (repeats_is (if list_any (bytes_eq i.name) seen then seen else seen ++ i.name ∷ []) more)

pub repeats_same : (ys xs : List Ident) → ys ≡ map unplaced_name xs → AreBare (repeats [] ys) (repeats [] xs)
repeats_same ys xs e = subst (λ zs. AreBare (repeats [] zs) (repeats [] xs)) (sym e) (repeats_is [] xs)

-- the first item past a limit
get_same : (xs : List Span) (k : ℕ) → slice_get (map (λ x. nowhere) xs) k ≡ option_map (λ x. nowhere) (slice_get xs k)
get_same [] k = refl
get_same (x ∷ xs) zero = refl
get_same (x ∷ xs) (suc k) = get_same xs k

one_past_is : (o : Option Span) → AreBare (one_past (option_map (λ x. nowhere) o)) (one_past o)
one_past_is None = none
one_past_is (Some at) = one at TooMany none

pub past_same : (limit : ℕ) (ys xs : List Span) → ys ≡ map (λ x. nowhere) xs → AreBare (past limit ys) (past limit xs)
past_same limit ys xs e =
    subst (λ o. AreBare (one_past o) (past limit xs)) (sym (ap (λ zs. slice_get zs limit) e ∙ get_same xs limit)) (one_past_is (slice_get xs limit))

pub past_names : (limit : ℕ) (ys xs : List Ident) → ys ≡ map unplaced_name xs → AreBare (past limit (places ys)) (past limit (places xs))
past_names limit ys xs e =
    past_same limit (places ys) (places xs) (ap places e ∙ map_swap unplaced_name (λ (i : Ident). i.at) (λ (x : Span). nowhere) (λ (i : Ident). i.at)
    (λ i. refl) xs)

-- the name with which a sum of sizes passes a limit
passes_from : (f g : Ident → ℕ) → ((i : Ident) → f (unplaced_name i) ≡ g i) → (limit sum : ℕ) (names : List Ident)
    → AreBare (passes f limit sum (map unplaced_name names)) (passes g limit sum names)
passes_from f g same limit sum [] = none
passes_from f g same limit sum (i ∷ more) =
    also (if_same i.at TooMany (ap (λ n. nat_le sum limit && nat_lt limit (sum + n)) (same i)))
    (subst (λ n. AreBare (passes f limit (sum + n) (map unplaced_name more)) (passes g limit (sum + g i) more)) (sym (same i))
    (passes_from f g same limit (sum + g i) more))

pub passes_same : (f g : Ident → ℕ) → ((i : Ident) → f (unplaced_name i) ≡ g i) → (limit : ℕ) (names : List Ident)
    → AreBare (passes f limit 0 (map unplaced_name names)) (passes g limit 0 names)
passes_same f g same limit names = passes_from f g same limit 0 names

-- a name that is looked up, and a value for it
reading_is : (r : Reading) → AreBare (reading_faults (unplaced_reading r)) (reading_faults r)
reading_is (gives s) = none
reading_is (nothing_at at) = one at Unknown none

pub reading_bare : (q r : Reading) → q ≡ unplaced_reading r → AreBare (reading_faults q) (reading_faults r)
reading_bare q r e = subst (λ x. AreBare (reading_faults x) (reading_faults r)) (sym e) (reading_is r)

pub target_bare : (q r : Reading) (v u : Sort) (w at : Span) → q ≡ unplaced_reading r → v ≡ u → w ≡ nowhere
    → AreBare (target_faults q v w) (target_faults r u at)
target_bare q r v u w at e same here =
    let sorts : reading_sort q ≡ reading_sort r = ap reading_sort e ∙ reading_sort_same r in
    also (reading_bare q r e) (misfits_at at here (ap₂ are_mixed sorts same) (ap₂ differ sorts same))
