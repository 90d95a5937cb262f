-- After whole holds the decision that comes next trusts the advanced node.
use Rattle.std.proofs.Common.{◌≡◌, ℕ, zero, suc, ◌+◌, ◌-◌, ◌≤◌, ℤ, Bool, true, false, ◌⊎◌, inl, inr, ⊎_elim, List, [], ◌∷◌, ◌++◌}
use Rattle.std.proofs.Common.{length, drop, refl, sym, subst, arith}
use Rattle.std.proofs.lemmas.Bool.{cases_Bool}
use Rattle.std.proofs.lemmas.List.{length-append}
use Rattle.std.proofs.lemmas.Option.{same_Some}
use Rattle.sot_lists.specs.Places.{At}
use Rattle.sot_lists.proofs.Places.{at_same}
use Rattle.sot_box.specs.Boxes.{IsWithin}
use Rattle.sot_box.specs.Regions.{IsInRegion}
use Rattle.sot_lang.specs.declared.cert.Cert.{Cert}
use Rattle.sot_lang.specs.Tables.{Tables}
use Rattle.sot_lang.specs.TableRules.{IsTyped}
use Rattle.sot_tube.specs.Certified.{IsWellCertified, command_intervals}
use Rattle.sot_tube.specs.WellFormed.{IsWellFormed}
use Rattle.sot_tube.proofs.Certificate.{certified_well}
use Rattle.sot_world.specs.declared.mode.Mode.TheVariants.{Ac, Sc}
use Rattle.sot_world.specs.Configurations.{Configuration, mode_of, point_of}
use Rattle.sot_world.specs.Steps.{Event, Input, Code, Guest, Decide, Tick, Step, CodeFires}
use Rattle.sot_world.specs.Runs.{Run}
use Rattle.sot_world.specs.Invariant.{KeepsInvariant}
use Rattle.sot_world.proofs.Safety.{in_safe}
use Rattle.sot_world.proofs.Induction.{step_holds}
use Rattle.sot_world.proofs.Main.{runs_keep_invariant}
use Rattle.sot_law_runs.specs.Firings.{is_firing, count_of, one_if}
use Rattle.sot_law_runs.specs.Holds.{Guarded, last_of}
use Rattle.sot_law_runs.specs.Ranks.{IsInCells, HasRank, Reaches}
use Rattle.sot_law_runs.specs.RunHolds.{is_tick, HaveHolds, TrustsAfter}
use Rattle.sot_law_runs.specs.RecoveryLaws.{RunsRecover}
use Rattle.sot_law_runs.proofs.Firings.{one_more}
use Rattle.sot_law_runs.proofs.TubeBoxes.{boxes}
use Rattle.sot_law_runs.proofs.Commands.{IsBegun}
use Rattle.sot_law_runs.proofs.Landing.{points_inside, lands, last_at}
use Rattle.sot_law_runs.proofs.Rows.{less, ranks_land}
use Rattle.sot_law_runs.proofs.Stays.{GoesOn, longer, stays, begins, long_enough}
use Rattle.sot_law_runs.proofs.Runs.{halved, later, dropped_at, firing}

-- the parts of a list that begins with an event
first_same : (e b : Event) (es bs : List Event) → e ∷ es ≡ b ∷ bs → e ≡ b
first_same e b es bs is = cc

rest_same : (e b : Event) (es bs : List Event) → e ∷ es ≡ b ∷ bs → es ≡ bs
rest_same e b es bs is = cc

module _ {p : Tables} {cert : Cert} {m : ℕ} (g : Guarded p cert m) where
  -- how often the safe node fires in these events, and how many ticks they have
  abbrev fires : List Event → ℕ
  fires es = count_of (is_firing g.info.sc) es

  abbrev ticks : List Event → ℕ
  ticks es = count_of is_tick es

  -- after f firings and t ticks since the last one: with these events k whole holds end, the last one with them or not before n firings more
  record EndsLater (k f : ℕ) (es : List Event) : Type 0 where
    pub before : List Event
    pub present : List Event
    pub are : es ≡ before ++ present
    pub fired : k ≤ f + fires before
    pub long : g.sc.period ≤ ticks present + cert.jitter

  abbrev Enough : ℕ → ℕ → ℕ → List Event → Type 0
  Enough k f t es = (k ≤ (f + fires es) - 1) ⊎ (((k ≤ f) × (g.sc.period ≤ (t + ticks es) + cert.jitter)) ⊎ EndsLater k f es)

  -- a firing more
  after_firing : (k f t : ℕ) (e : Event) (es : List Event) → is_firing g.info.sc e ≡ true → Enough k f t (e ∷ es) → Enough k (suc f) 0 es
  after_firing k f t e es is (inl h) = inl (count (is_firing g.info.sc e) (fires (e ∷ es)) (fires es) is (one_more (is_firing g.info.sc) e es) h)
    where
      count : (b : Bool) (all n : ℕ) → b ≡ true → all ≡ one_if b + n → k ≤ (f + all) - 1 → k ≤ (suc f + n) - 1
      count true all n is h le = omega (arith, h, le)
      count false all n is h le = cc
  after_firing k f t e es is (inr (inl h)) = inl (omega (arith, h.0))
  after_firing k f t e es is (inr (inr h)) = ends h.before h.are h.fired
    where
      count : (b : Bool) (all n : ℕ) → b ≡ true → all ≡ one_if b + n → k ≤ f + all → k ≤ suc f + n
      count true all n is h le = omega (arith, h, le)
      count false all n is h le = cc

      ends : (before : List Event) → e ∷ es ≡ before ++ h.present → k ≤ f + fires before → Enough k (suc f) 0 es
      ends [] are le = inl (omega (arith, le))
      ends (b ∷ bs) are le =
          let one : is_firing g.info.sc b ≡ true = subst (λ x. is_firing g.info.sc x ≡ true) (first_same e b es (bs ++ h.present) are) is in
          inr (inr (record {
            before = bs;
            present = h.present;
            are = rest_same e b es (bs ++ h.present) are;
            fired = count (is_firing g.info.sc b) (fires (b ∷ bs)) (fires bs) one (one_more (is_firing g.info.sc) b bs) le;
            long = h.long;
          }))

  -- another event
  after_other : (k f t : ℕ) (e : Event) (es : List Event) → is_firing g.info.sc e ≡ false → Enough k f t (e ∷ es) → Enough k f (one_if (is_tick e) + t) es
  after_other k f t e es isnt (inl h) = inl (count (is_firing g.info.sc e) (fires (e ∷ es)) (fires es) isnt (one_more (is_firing g.info.sc) e es) h)
    where
      count : (b : Bool) (all n : ℕ) → b ≡ false → all ≡ one_if b + n → k ≤ (f + all) - 1 → k ≤ (f + n) - 1
      count true all n is h le = cc
      count false all n is h le = omega (arith, h, le)
  after_other k f t e es isnt (inr (inl h)) = (let more = one_more is_tick e es in inr (inl (h.0, omega (arith, h.1, more))))
  after_other k f t e es isnt (inr (inr h)) = ends h.before h.are h.fired
    where
      count : (b : Bool) (all n : ℕ) → b ≡ false → all ≡ one_if b + n → k ≤ f + all → k ≤ f + n
      count true all n is h le = cc
      count false all n is h le = omega (arith, h, le)

      ends : (before : List Event) → e ∷ es ≡ before ++ h.present → k ≤ f + fires before → Enough k f (one_if (is_tick e) + t) es
      ends [] are le =
          let all : g.sc.period ≤ ticks (e ∷ es) + cert.jitter = subst (λ l. g.sc.period ≤ ticks l + cert.jitter) (sym are) h.long in
          let more = one_more is_tick e es in
          inr (inl (omega (arith, le), omega (arith, all, more)))
      ends (b ∷ bs) are le =
          let none : is_firing g.info.sc b ≡ false = subst (λ x. is_firing g.info.sc x ≡ false) (first_same e b es (bs ++ h.present) are) isnt in
          inr (inr (record {
            before = bs;
            present = h.present;
            are = rest_same e b es (bs ++ h.present) are;
            fired = count (is_firing g.info.sc b) (fires (b ∷ bs)) (fires bs) none (one_more (is_firing g.info.sc) b bs) le;
            long = h.long;
          }))

  -- at the end
  at_end : (k f t : ℕ) → Enough k f t [] → (k ≤ f - 1) ⊎ ((k ≤ f) × (g.sc.period ≤ t + cert.jitter))
  at_end k f t (inl h) = inl (omega (arith, h))
  at_end k f t (inr (inl h)) = inr (h.0, omega (arith, h.1))
  at_end k f t (inr (inr h)) = ends h.before h.present h.are h.fired h.long
    where
      ends : (before present : List Event) → [] ≡ before ++ present → k ≤ f + fires before → g.sc.period ≤ ticks present + cert.jitter
          → (k ≤ f - 1) ⊎ ((k ≤ f) × (g.sc.period ≤ t + cert.jitter))
      ends [] [] are le long = inr (omega (arith, le), omega (arith, long))
      ends [] (e ∷ es) are le long = cc
      ends (b ∷ bs) present are le long = cc

  -- from the beginning of a stretch
  at_first : (k : ℕ) (es : List Event) → HaveHolds g k es → Enough k 0 0 es
  at_first k es (inl h) = inl (omega (arith, h))
  at_first k es (inr h) = inr (inr (record { before = h.before; present = h.present; are = h.are; fired = omega (arith, h.fired); long = h.long }))

  -- a path grows by one with a tick
  length_longer : (e : Event) (Y : Configuration) (path : List (List ℤ)) (t : ℕ) → t ≤ length path → one_if (is_tick e) + t ≤ length (longer g e Y path)
  length_longer (Tick noise) Y path t le = (let n = length-append path (point_of Y g.info.plant ∷ []) in omega (arith, le, n))
  length_longer (Input topic value) Y path t le = omega (arith, le)
  length_longer (Code n) Y path t le = omega (arith, le)
  length_longer (Guest n draft) Y path t le = omega (arith, le)
  length_longer (Decide k) Y path t le = omega (arith, le)

module _ {p : Tables} {cert : Cert} {m : ℕ} (g : Guarded p cert m) (typed : IsTyped p) (c : IsWellCertified p cert.jitter cert) where
  well : IsWellFormed p cert.jitter
  well = certified_well p cert.jitter cert typed c

  -- where a plant stands after some firings of a stretch, and ticks since the last one: after the first one the hold goes on from a cell, whose rank falls with
  -- each firing
  record Falls (k f t : ℕ) (X : Configuration) : Type 0 where
    pub s : List ℤ
    pub path : List (List ℤ)
    pub rank : ℕ
    pub goes : GoesOn g s path X
    pub cell : IsInCells g (HasRank g rank) s
    pub low : (rank ≡ 0) ⊎ (rank + f ≤ k)
    pub long : t ≤ length path

  abbrev Stands : ℕ → ℕ → ℕ → Configuration → Type 0
  Stands k zero t X = Unit {0}
  Stands k (suc f) t X = Falls k f t X

  fires_so : (k f t : ℕ) (X Y : Configuration) → Reaches g k → KeepsInvariant p cert.jitter X → mode_of X m ≡ Sc → CodeFires p g.info.sc X Y
      → Stands k f t X → Stands k (suc f) 0 Y
  fires_so k zero t X Y reaches inv mode step stands = record {
    s = point_of X g.info.plant;
    path = [];
    rank = k;
    goes = begins g typed c X Y inv mode step;
    cell = reaches (point_of X g.info.plant) (in_safe p cert.jitter typed well X inv m g.info g.plant g.info_is g.plant_is);
    low = inr (omega arith);
    long = omega arith;
  }
  fires_so k (suc f) t X Y reaches inv mode step stands =
      let was = stands.goes in
      let next = lands g typed c (HasRank g (less stands.rank)) stands.cell.0 stands.cell.1 stands.s stands.path stands.cell.3 stands.cell.4 was.hold
      (long_enough g typed c X stands.s stands.path step.fires.was_left was) (ranks_land g stands.rank stands.cell.0 stands.cell.2) in
      record {
        s = point_of X g.info.plant;
        path = [];
        rank = less stands.rank;
        goes = begins g typed c X Y inv mode step;
        cell = subst (IsInCells g (HasRank g (less stands.rank))) was.here next;
        low = lower stands.rank stands.low;
        long = omega arith;
      }
    where
      lower : (r : ℕ) → (r ≡ 0) ⊎ (r + f ≤ k) → (less r ≡ 0) ⊎ (less r + suc f ≤ k)
      lower zero h = inl refl
      lower (suc r) (inl e) = absurd (omega (arith, e))
      lower (suc r) (inr h) = inr (omega (arith, h))

  stays_so : (k f t : ℕ) (e : Event) (X Y : Configuration) → KeepsInvariant p cert.jitter X → mode_of X m ≡ Sc → is_firing g.info.sc e ≡ false
      → Step p cert.jitter X e Y → Stands k f t X → Stands k f (one_if (is_tick e) + t) Y
  stays_so k zero t e X Y inv mode isnt step stands = stands
  stays_so k (suc f) t e X Y inv mode isnt step stands = record {
    s = stands.s;
    path = longer g e Y stands.path;
    rank = stands.rank;
    goes = stays g typed c e X Y stands.s stands.path inv mode isnt step stands.goes;
    cell = stands.cell;
    low = stands.low;
    long = length_longer g e Y stands.path t stands.long;
  }

  -- cells of rank 0, and where holds from them go, are in the safer region
  zero_cell : (t : List ℤ) → IsInCells g (HasRank g 0) t → IsInRegion g.info.safer.boxes t
  zero_cell t cell =
      let keeps = (cell.2.2 cell.0 cell.2.1).0 in
      let one : keeps.0 ≡ cell.1 = at_same g.cells.closed.boxes cell.0 keeps.0 cell.1 keeps.1 cell.3 in
      let tube = keeps.2.stays in
      let box = boxes p g.plant (command_intervals p g.plant g.sc keeps.2.fired.draft) g.info.safer.boxes keeps.0 (g.sc.period + cert.jitter) tube 0
      (omega arith) in
      box.2 t (subst (λ q. IsWithin q t) (sym box.1) (subst (λ q. IsWithin q t) (sym one) cell.4))

  zero_safer : (s : List ℤ) (path : List (List ℤ)) (t : List ℤ) → IsInCells g (HasRank g 0) s → IsBegun g s path → last_of g s path ≡ t
      → IsInRegion g.info.safer.boxes t
  zero_safer s path t cell h e =
      let keeps = (cell.2.2 cell.0 cell.2.1).0 in
      let one : keeps.0 ≡ cell.1 = at_same g.cells.closed.boxes cell.0 keeps.0 cell.1 keeps.1 cell.3 in
      subst (IsInRegion g.info.safer.boxes) e (points_inside g typed g.info.safer.boxes keeps.0 s path keeps.2.fired keeps.2.drafts keeps.2.stays
      (subst (λ q. IsWithin q s) (sym one) cell.4) h (length path) (last_of g s path) (last_at g s path))

  -- a hold from rank 1 that is long enough has landed in rank 0
  landed : (k f t : ℕ) (X : Configuration) (is : Falls k f t X) → less is.rank ≡ 0 → g.sc.period ≤ t + cert.jitter
      → IsInRegion g.info.safer.boxes (point_of X g.info.plant)
  landed k f t X is low enough =
      let next = lands g typed c (HasRank g (less is.rank)) is.cell.0 is.cell.1 is.s is.path is.cell.3 is.cell.4 is.goes.hold
      (omega (arith, is.long, enough)) (ranks_land g is.rank is.cell.0 is.cell.2) in
      zero_cell (point_of X g.info.plant) (subst (λ r. IsInCells g (HasRank g r) (point_of X g.info.plant)) low
      (subst (IsInCells g (HasRank g (less is.rank))) is.goes.here next))

  safer_so : (k f t : ℕ) (X : Configuration) → Reaches g k → KeepsInvariant p cert.jitter X → Stands k f t X
      → (k ≤ f - 1) ⊎ ((k ≤ f) × (g.sc.period ≤ t + cert.jitter)) → IsInRegion g.info.safer.boxes (point_of X g.info.plant)
  safer_so zero zero t X reaches inv stands enough =
      zero_cell (point_of X g.info.plant) (reaches (point_of X g.info.plant) (in_safe p cert.jitter typed well X inv m g.info g.plant g.info_is g.plant_is))
  safer_so (suc k) zero t X reaches inv stands (inl h) = absurd (omega (arith, h))
  safer_so (suc k) zero t X reaches inv stands (inr h) = absurd (omega (arith, h.0))
  safer_so k (suc f) t X reaches inv stands (inl le) =
      let e : stands.rank ≡ 0 = zero_rank stands.rank stands.low in
      zero_safer stands.s stands.path (point_of X g.info.plant) (subst (λ r. IsInCells g (HasRank g r) stands.s) e stands.cell) stands.goes.hold
      stands.goes.here
    where
      zero_rank : (r : ℕ) → (r ≡ 0) ⊎ (r + f ≤ k) → r ≡ 0
      zero_rank r (inl e) = e
      zero_rank r (inr h) = omega (arith, h, le)
  safer_so k (suc f) t X reaches inv stands (inr h) = landed k f t X stands (one_rank stands.rank stands.low) h.1
    where
      one_rank : (r : ℕ) → (r ≡ 0) ⊎ (r + f ≤ k) → less r ≡ 0
      one_rank zero low = refl
      one_rank (suc r) (inl e) = absurd (omega (arith, e))
      one_rank (suc r) (inr low) = omega (arith, low, h.0)

  trusts : (k f t : ℕ) (stretch rest : List Event) (X : Configuration) (Es : List Configuration) (D : Configuration) → Reaches g k
      → KeepsInvariant p cert.jitter X → Stands k f t X → Run p cert.jitter X (stretch ++ Decide m ∷ rest) Es
      → ((i : ℕ) (Y : Configuration) → i ≤ length stretch → At (X ∷ Es) i Y → mode_of Y m ≡ Sc) → Enough g k f t stretch → At Es (length stretch) D
      → mode_of D m ≡ Ac
  trusts k f t [] rest X [] D reaches inv stands run modes enough at = absurd run
  trusts k f t [] rest X (Y ∷ Es) D reaches inv stands run modes enough at =
      let step = run.0 in
      let same : step.module_info ≡ g.info = at_same p.modules m step.module_info g.info step.is g.info_is in
      let safer = safer_so k f t X reaches inv stands (at_end g k f t enough) in
      subst (λ x. mode_of x m ≡ Ac) (same_Some Y D at) (step.mode.1
      (inl (modes 0 X (omega arith) refl, subst (λ a. IsInRegion a.safer.boxes (point_of X a.plant)) (sym same) safer)))
  trusts k f t (e ∷ stretch) rest X [] D reaches inv stands run modes enough at = absurd run
  trusts k f t (e ∷ stretch) rest X (Y ∷ Es) D reaches inv stands run modes enough at =
      let mode = modes 0 X (omega arith) refl in
      let after = step_holds p cert.jitter typed well X Y e inv run.0 in
      let modes' : (i : ℕ) (Z : Configuration) → i ≤ length stretch → At (Y ∷ Es) i Z
      → mode_of Z m ≡ Sc = λ i Z le' at'. modes (suc i) Z (omega (arith, le')) at' in
      ⊎_elim
      (λ is. trusts k (suc f) 0 stretch rest Y Es D reaches after (fires_so k f t X Y reaches inv mode (firing g typed c e X Y is run.0) stands) run.1
      modes' (after_firing g k f t e stretch is enough) at)
      (λ isnt. trusts k f (one_if (is_tick e) + t) stretch rest Y Es D reaches after (stays_so k f t e X Y inv mode isnt run.0 stands) run.1 modes'
      (after_other g k f t e stretch isnt enough) at)
      (cases_Bool (is_firing g.info.sc e))

  pub trusts_after : (k : ℕ) → Reaches g k → TrustsAfter g k
  trusts_after k reaches start C D first stretch rest Ds is have at =
      let h = halved p cert.jitter C first (stretch ++ Decide m ∷ rest) Ds is.run in
      let inv = runs_keep_invariant p cert.jitter typed well start C (first ++ (stretch ++ Decide m ∷ rest)) Ds is.opening is.safer is.run (length first) h.0
      h.1 in
      trusts k 0 0 stretch rest h.0 (drop (length first) Ds) D reaches inv tt h.2 (λ i Y le at'. is.mode i Y le (later C h.0 Ds (length first) i Y h.1 at'))
      (at_first g k stretch have) (dropped_at Ds (length first) (length stretch) D at)

pub runs_recover : RunsRecover
runs_recover p cert m g k typed c reaches = trusts_after g typed c k reaches
