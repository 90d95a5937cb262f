-- The program's modules one after the other, as a loop goes over them.
use Rattle.std.proofs.Common.{◌≡◌, ℕ, zero, suc, ◌+◌, ◌<◌, ◌≤◌, List, [], ◌∷◌, ◌++◌, length, drop, get_or, Option, Ok, Err, Bool, true, false, ◌||◌, bytes_eq}
use Rattle.std.proofs.Common.{refl, sym, ap, subst, ◌∙◌, append_assoc, arith}
use Rattle.std.proofs.lemmas.List.{append-nil}
use Rattle.serde_json.specs.Data.{Members}
use Rattle.sot_lang.specs.declared.tables.PlantInfo.{PlantInfo}
use Rattle.sot_lang.specs.declared.tables.ModuleInfo.{ModuleInfo}
use Rattle.sot_lang.specs.declared.cert.Cells.{Cells}
use Rattle.sot_lang.specs.OwnerNames.{width_of}
use Rattle.sot_json.specs.declared.fault.JsonFail.{JsonFail}
use Rattle.sot_json.specs.declared.fault.JsonFail.TheVariants as fails
use Rattle.sot_json.specs.Says.{Says, ◌>>=◌}
use Rattle.sot_json.specs.Json.{may, is_among}
use Rattle.sot_cert.specs.CertFormat.{entry, entries, names}
use Rattle.sot_json.specs.Answers.{Fails}

drop_at : (ms : List ModuleInfo) (i : ℕ) (m : ModuleInfo) → i < length ms → m ≡ get_or ms i m → drop i ms ≡ m ∷ drop (suc i) ms
drop_at [] i m lt is = absurd (omega arith)
drop_at (n ∷ ms) zero m lt is = ap (λ k. k ∷ ms) (sym is)
drop_at (n ∷ ms) (suc i) m lt is = drop_at ms i m (omega arith) is

drop_from : (ms : List ModuleInfo) (i : ℕ) (m : ModuleInfo) → i < length ms → m ≡ get_or ms i m → drop i ms ≡ m ∷ drop (i + 1) ms
drop_from ms i m lt is =
    let k : suc i ≡ i + 1 = omega arith in
    subst (λ n. drop i ms ≡ m ∷ drop n ms) k (drop_at ms i m lt is)

drop_past : (ms : List ModuleInfo) (i : ℕ) → length ms ≤ i → drop i ms ≡ []
drop_past [] zero h = refl
drop_past [] (suc i) h = refl
drop_past (n ∷ ms) zero h = absurd (omega arith)
drop_past (n ∷ ms) (suc i) h = drop_past ms i (omega arith)

-- what was read before, and what is still read
abbrev pub with_front : {A : Type 0} → List A → Says (List A) → Says (List A)
with_front front says = says >>= λ xs. Ok (front ++ xs)

regroup : {A : Type 0} (front : List A) (x : A) (says : Says (List A)) → with_front front (says >>= λ xs. Ok (x ∷ xs)) ≡ with_front (front ++ x ∷ []) says
regroup front x (Ok xs) = ap Ok (simp append_assoc)
regroup front x (Err f) = refl

pub bind_fails : {A B : Type 0} (r : JsonFail) (says : Says A) (f : A → Says B) → Fails r says → Fails r (says >>= f)
bind_fails fails.Memory says f h = tt
bind_fails (fails.Fault g) says f h = rw h refl

-- The module m at place i has the entry x.
pub entries_on : (plants : List PlantInfo) (front : List (Option Cells)) (ms : List ModuleInfo) (i : ℕ) (m : ModuleInfo) (os : Members) (x : Option Cells)
    (total : Says (List (Option Cells))) → i < length ms → m ≡ get_or ms i m
    → may m.name (entry (width_of plants m.plant)) os ≡ Ok x
    → with_front front (entries plants (drop i ms) os) ≡ total → with_front (front ++ x ∷ []) (entries plants (drop (i + 1) ms) os) ≡ total
unfolding entries
entries_on plants front ms i m os x total lt is h so_far =
    let one : with_front front (entries plants (drop i ms) os) ≡ with_front (front ++ x ∷ []) (entries plants (drop (i + 1) ms) os) =
    rw (drop_from ms i m lt is, h) (regroup front x (entries plants (drop (i + 1) ms) os)) in
    sym one ∙ so_far

-- The module m at place i has a fault.
pub entries_end : (plants : List PlantInfo) (front : List (Option Cells)) (ms : List ModuleInfo) (i : ℕ) (m : ModuleInfo) (os : Members) (r : JsonFail)
    (total : Says (List (Option Cells))) → i < length ms → m ≡ get_or ms i m
    → Fails r (may m.name (entry (width_of plants m.plant)) os) → with_front front (entries plants (drop i ms) os) ≡ total → Fails r total
unfolding entries
entries_end plants front ms i m os r total lt is h so_far =
    let one : Fails r (entries plants (drop i ms) os) = rw (drop_from ms i m lt is) (bind_fails r _ _ h) in
    subst (λ (s : Says (List _)). Fails r s) so_far (bind_fails r _ _ one)

-- All modules were read.
pub entries_done : (plants : List PlantInfo) (front : List (Option Cells)) (ms : List ModuleInfo) (i : ℕ) (os : Members) (total : Says (List (Option Cells)))
    → length ms ≤ i → with_front front (entries plants (drop i ms) os) ≡ total → total ≡ Ok front
unfolding entries
entries_done plants front ms i os total le so_far =
    let one : with_front front (entries plants (drop i ms) os) ≡ Ok front = rw (drop_past ms i le) (ap Ok (append-nil front)) in
    sym so_far ∙ one

pub among_from : (k : List ℕ) (ms : List ModuleInfo) (i : ℕ) (m : ModuleInfo) (b : Bool) → i < length ms → m ≡ get_or ms i m → bytes_eq k m.name ≡ b
    → is_among k (names (drop i ms)) ≡ (b || is_among k (names (drop (i + 1) ms)))
among_from k ms i m b lt is h = rw (drop_from ms i m lt is, h) refl

pub among_past : (k : List ℕ) (ms : List ModuleInfo) (i : ℕ) → length ms ≤ i → is_among k (names (drop i ms)) ≡ false
among_past k ms i le = rw (drop_past ms i le) refl

-- The key is the name of the module at place i.
pub among_at : (k : List ℕ) (ms : List ModuleInfo) (i : ℕ) (m : ModuleInfo) → i < length ms → m ≡ get_or ms i m → bytes_eq k m.name ≡ true
    → is_among k (names ms) ≡ true
among_at k [] i m lt is h = absurd (omega (arith, lt))
among_at k (n ∷ ms) zero m lt is h = ap (λ b. b || is_among k (names ms)) (ap (λ (o : ModuleInfo). bytes_eq k o.name) (sym is) ∙ h)
among_at k (n ∷ ms) (suc i) m lt is h = ap (λ b. bytes_eq k n.name || b) (among_at k ms i m (omega (arith, lt)) is h) ∙ or_true (bytes_eq k n.name)
  where
    or_true : (b : Bool) → (b || true) ≡ true
    or_true true = refl
    or_true false = refl
