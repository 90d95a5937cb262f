-- The values of a list of expressions one after another, and how many names a plant has.
use Rattle.std.proofs.Common.{◌≡◌, ℕ, zero, suc, ◌+◌, ◌<◌, ◌≤◌, ℤ, List, [], ◌∷◌, ◌++◌, Ok, Err, take, length, get_or, refl, sym, ap, ap₂, ◌∙◌, subst, arith}
use Rattle.sot_lang.specs.declared.term.Term.{Term}
use Rattle.sot_lang.specs.declared.trap.Trap.{Trap}
use Rattle.sot_lang.specs.declared.tables.PlantInfo.{PlantInfo}
use Rattle.sot_lang.specs.Tables.{Tables}
use Rattle.sot_lang.specs.OwnerNames.{seen_width}
use Rattle.sot_lang.specs.TermPlaces.{HasPlaces, HavePlaces}
use Rattle.sot_lang.specs.TableRules.{MeetsTableRules}
use Rattle.sot_lang.specs.Values.{Outcome, value_of, one_more}
use Rattle.sot_lang.specs.Ticks.{values}
use Rattle.sot_code.specs.Recorded.{MayTickPlant}
use Rattle.sot_lang.proofs.Owners.{seen_few}

module _ (env : List ℤ) where
  -- one more value
  pub values_more : (ts : List Term) (i : ℕ) (t : Term) (xs : List ℤ) (x : ℤ) → i < length ts → t ≡ get_or ts i t → values (take i ts) env ≡ Ok xs
      → value_of t env ≡ Ok x → values (take (i + 1) ts) env ≡ Ok (xs ++ x ∷ [])
  values_more [] i t xs x lt is before now = absurd (omega arith)
  values_more (y ∷ ts) zero t xs x lt is before now = (let none : [] ≡ xs = cc in rw (sym is, now) (ap (λ l. Ok (l ++ x ∷ [])) none))
  values_more (y ∷ ts) (suc i) t xs x lt is before now =
      let e : suc i + 1 ≡ suc (i + 1) = omega arith in
      rw e (more (value_of y env) (values (take i ts) env) (values (take (i + 1) ts) env) xs before (λ zs h. values_more ts i t zs x (omega arith) is h now))
    where
      more : (o : Outcome ℤ) (os ps : Outcome (List ℤ)) (xs : List ℤ) → one_more o os ≡ Ok xs → ((zs : List ℤ) → os ≡ Ok zs → ps ≡ Ok (zs ++ x ∷ []))
          → one_more o ps ≡ Ok (xs ++ x ∷ [])
      more (Ok z) (Ok zs) ps xs e f = (let h : z ∷ zs ≡ xs = cc in ap (one_more (Ok z)) (f zs refl) ∙ ap (λ l. Ok (l ++ x ∷ [])) h)
      more (Ok z) (Err t) ps xs e f = cc
      more (Err t) os ps xs e f = cc

  -- a value that traps is the outcome
  pub values_stop : (ts : List Term) (i : ℕ) (t : Term) (xs : List ℤ) (e : Trap) → i < length ts → t ≡ get_or ts i t → values (take i ts) env ≡ Ok xs
      → value_of t env ≡ Err e → values ts env ≡ Err e
  values_stop [] i t xs e lt is before now = absurd (omega arith)
  values_stop (y ∷ ts) zero t xs e lt is before now = rw (sym is, now) refl
  values_stop (y ∷ ts) (suc i) t xs e lt is before now =
      stop (value_of y env) (values (take i ts) env) (values ts env) xs before (λ zs h. values_stop ts i t zs e (omega arith) is h now)
    where
      stop : (o : Outcome ℤ) (os ps : Outcome (List ℤ)) (xs : List ℤ) → one_more o os ≡ Ok xs → ((zs : List ℤ) → os ≡ Ok zs → ps ≡ Err e)
          → one_more o ps ≡ Err e
      stop (Ok z) (Ok zs) ps xs b f = ap (one_more (Ok z)) (f zs refl)
      stop (Ok z) (Err t) ps xs b f = cc
      stop (Err t) os ps xs b f = cc

pub have_at : (n : ℕ) (ts : List Term) (i : ℕ) (t : Term) → HavePlaces n ts → i < length ts → t ≡ get_or ts i t → HasPlaces n t
have_at n [] i t h lt is = absurd (omega arith)
have_at n (y ∷ ts) zero t h lt is = subst (HasPlaces n) (sym is) h.0
have_at n (y ∷ ts) (suc i) t h lt is = have_at n ts i t h.1 (omega arith) is

-- a plant's names are at most eighty
pub sizes : (p : Tables) (k : ℕ) (state held seen noise : List ℤ) → MeetsTableRules p → (m : MayTickPlant p k state held seen noise)
    → (length held ≤ 8) × (length seen ≤ 64) × (length noise ≤ 4)
sizes p k state held seen noise rules m =
    let r = rules.plants k m.plant m.is in
    let s = seen_few p rules m.plant.sees.items in
    (omega (arith, m.inputs, r.inputs), omega (arith, m.seen_are, s, r.sees), omega (arith, m.disturbances, r.noise))

-- the numbers that are handed in are as many as the plant has names
pub places_of : (p : Tables) (k : ℕ) (state held seen noise : List ℤ) (info : PlantInfo) → (m : MayTickPlant p k state held seen noise) → m.plant ≡ info
    → length state + length held + length seen + length noise
    ≡ length info.states.items + length info.inputs.items + seen_width p.plants info.sees.items + length info.noise.items
places_of p k state held seen noise info m same =
    ap₂ (λ a b. a + b) (ap₂ (λ a b. a + b) (ap₂ (λ a b. a + b) m.states m.inputs) m.seen_are) m.disturbances
    ∙ ap (λ (x : PlantInfo). length x.states.items + length x.inputs.items + seen_width p.plants x.sees.items + length x.noise.items) same
