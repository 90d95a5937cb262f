-- The expressions of a plant one after another, and how many names a plant has.
use Rattle.std.proofs.Common.{◌≡◌, ℕ, zero, suc, ◌+◌, ◌<◌, ◌≤◌, List, [], ◌∷◌, ◌++◌, Ok, Err, take, length, get_or, refl, sym, ap, ap₂, ◌∙◌, subst, arith}
use Rattle.std.proofs.Common.{length-append}
use Rattle.std.proofs.lemmas.List.{length-map}
use Rattle.sot_box.specs.Sides.{Side}
use Rattle.sot_lang.specs.declared.term.Term.{Term}
use Rattle.sot_lang.specs.declared.tables.PlantInfo.{PlantInfo}
use Rattle.sot_lang.specs.declared.tables.NoiseInfo.{NoiseInfo}
use Rattle.sot_lang.specs.Tables.{Tables}
use Rattle.sot_lang.specs.Ranges.{bounds}
use Rattle.sot_lang.specs.OwnerNames.{seen_width}
use Rattle.sot_lang.specs.TableRules.{MeetsTableRules}
use Rattle.sot_iv.specs.declared.may_trap.MayTrap.{MayTrap}
use Rattle.sot_iv.specs.TermIntervals.{OrMayTrap}
use Rattle.sot_iv.specs.Evaluation.{joined, term_interval, term_intervals}
use Rattle.sot_lang.specs.TermPlaces.{HavePlaces}
use Rattle.sot_lists.specs.Places.{At}
use Rattle.sot_iv.specs.PlantTicks.{MayTickBox, MayTickOver}
use Rattle.sot_lang.proofs.Owners.{plant_places, seen_few}

abbrev put_first : OrMayTrap Side → OrMayTrap (List Side) → OrMayTrap (List Side)
put_first = joined (λ x xs. Ok (x ∷ xs))

module _ (names : List Side) where
  -- one more interval
  pub intervals_more : (ts : List Term) (i : ℕ) (t : Term) (xs : List Side) (x : Side) → i < length ts → t ≡ get_or ts i t
      → term_intervals (take i ts) names ≡ Ok xs → term_interval t names ≡ Ok x → term_intervals (take (i + 1) ts) names ≡ Ok (xs ++ x ∷ [])
  intervals_more [] i t xs x lt is before now = absurd (omega arith)
  intervals_more (y ∷ ts) zero t xs x lt is before now = (let none : [] ≡ xs = cc in rw (sym is, now) (ap (λ l. Ok (l ++ x ∷ [])) none))
  intervals_more (y ∷ ts) (suc i) t xs x lt is before now =
      let e : suc i + 1 ≡ suc (i + 1) = omega arith in
      rw e (more (term_interval y names) (term_intervals (take i ts) names) (term_intervals (take (i + 1) ts) names) xs before
      (λ zs h. intervals_more ts i t zs x (omega arith) is h now))
    where
      more : (o : OrMayTrap Side) (os ps : OrMayTrap (List Side)) (xs : List Side) → put_first o os ≡ Ok xs
          → ((zs : List Side) → os ≡ Ok zs → ps ≡ Ok (zs ++ x ∷ [])) → put_first o ps ≡ Ok (xs ++ x ∷ [])
      more (Ok z) (Ok zs) ps xs e f = (let h : z ∷ zs ≡ xs = cc in ap (put_first (Ok z)) (f zs refl) ∙ ap (λ l. Ok (l ++ x ∷ [])) h)
      more (Ok z) (Err t) ps xs e f = cc
      more (Err t) os ps xs e f = cc

  -- a trap is the outcome
  pub intervals_stop : (ts : List Term) (i : ℕ) (t : Term) (xs : List Side) (e : MayTrap) → i < length ts → t ≡ get_or ts i t
      → term_intervals (take i ts) names ≡ Ok xs → term_interval t names ≡ Err e → term_intervals ts names ≡ Err e
  intervals_stop [] i t xs e lt is before now = absurd (omega arith)
  intervals_stop (y ∷ ts) zero t xs e lt is before now = rw (sym is, now) refl
  intervals_stop (y ∷ ts) (suc i) t xs e lt is before now =
      stop (term_interval y names) (term_intervals (take i ts) names) (term_intervals ts names) xs before
      (λ zs h. intervals_stop ts i t zs e (omega arith) is h now)
    where
      stop : (o : OrMayTrap Side) (os ps : OrMayTrap (List Side)) (xs : List Side) → put_first o os ≡ Ok xs → ((zs : List Side) → os ≡ Ok zs → ps ≡ Err e)
          → put_first o ps ≡ Err e
      stop (Ok z) (Ok zs) ps xs b f = ap (put_first (Ok z)) (f zs refl)
      stop (Ok z) (Err t) ps xs b f = cc
      stop (Err t) os ps xs b f = cc

-- a plant's names are at most eighty
pub sizes : (p : Tables) (k : ℕ) (box held seen : List Side) → MeetsTableRules p → (m : MayTickBox p k box held seen)
    → (length box ≤ 4) × (length held ≤ 8) × (length seen ≤ 64)
sizes p k box held seen rules m =
    let r = rules.plants k m.plant m.is in
    let s = seen_few p rules m.plant.sees.items in
    (omega (arith, m.states, r.states), omega (arith, m.inputs, r.inputs), omega (arith, m.seen_are, s, r.sees))

-- the intervals that are handed in are as many as the plant has names
pub places_of : (p : Tables) (k : ℕ) (box held seen : List Side) (info : PlantInfo) → (m : MayTickBox p k box held seen) → m.plant ≡ info
    → length (box ++ held ++ seen ++ bounds info) ≡ length info.states.items + length info.inputs.items + seen_width p.plants info.sees.items
    + length info.noise.items
places_of p k box held seen info m same =
    let counts : length box + length held + length seen ≡ length info.states.items + length info.inputs.items + seen_width p.plants info.sees.items =
    ap₂ (λ a b. a + b) (ap₂ (λ a b. a + b) m.states m.inputs) m.seen_are
    ∙ ap (λ (x : PlantInfo). length x.states.items + length x.inputs.items + seen_width p.plants x.sees.items) same in
    length-append (box ++ held ++ seen) (bounds info)
    ∙ ap₂ (λ x y. x + y) (length-append (box ++ held) seen ∙ ap (λ x. x + length seen) (length-append box held) ∙ counts)
    (length-map info.noise.items (λ (d : NoiseInfo). record { lo = d.lo; hi = d.hi }))

-- the expressions of a plant read what there is of intervals that are those of its names
pub over_places : (p : Tables) (k : ℕ) (names : List Side) (info : PlantInfo) → MeetsTableRules p → (m : MayTickOver p k names) → m.may.plant ≡ info
    → HavePlaces (length names) info.next.items
over_places p k names info rules m same =
    let here : At p.plants k info = subst (λ x. At p.plants k x) same m.may.is in
    let all = m.box ++ m.held ++ m.seen ++ bounds info in
    let places : HavePlaces (length all) info.next.items = plant_places p info info.next.items (length all) (rules.plants k info here).next
    (places_of p k m.box m.held m.seen info m.may same) in
    subst (λ l. HavePlaces (length l) info.next.items) (sym (m.are info here)) places
