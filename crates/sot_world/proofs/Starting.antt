-- Where modules start.
use Rattle.std.specs.Prelude.{◌==◌}
use Rattle.std.proofs.Common.{◌-◌, ◌%◌, ◌↔◌, Bool, true, false, map, ◌≡◌, ℕ, ◌+◌, ◌<◌, ℤ, ⊎_elim, List, [], length, get_or, slice_index_or, refl, sym, ap, ◌∙◌}
use Rattle.std.proofs.Common.{subst, arith}
use Rattle.std.proofs.lemmas.Bool.{cases_lt, eqb-true, eq-eqb}
use Rattle.std.proofs.lemmas.List.{length-map}
use Rattle.std.proofs.Math.Nat.{zero-mod}
use Rattle.std.proofs.lemmas.Option.{slice_get_within, same_Some, get_or_from_slice_get}
use Rattle.sot_lists.specs.Places.{At}
use Rattle.sot_box.specs.Regions.{IsInRegion}
use Rattle.sot_lang.specs.declared.tables.ModuleInfo.{ModuleInfo}
use Rattle.sot_lang.specs.Tables.{Tables}
use Rattle.sot_lang.specs.TableRules.{MeetsTableRules}
use Rattle.sot_lists.proofs.Places.{at_map}
use Rattle.sot_calendar.specs.Due.{IsDue}
use Rattle.sot_tube.specs.Admitted.{Admitted}
use Rattle.sot_tube.specs.Certified.{IsWellCertified}
use Rattle.sot_tube.proofs.Certificate.{certified_well}
use Rattle.sot_world.specs.Configurations.{Configuration, Mode, Sc, IsOpening, IsSafer}
use Rattle.sot_world.specs.State.{IsKept}
use Rattle.sot_world.specs.Opens.{AreStarts, StartInside}
use Rattle.sot_world.proofs.Opening.{opening_holds}
use Rattle.sot_lang.proofs.Owners.{width_at}

-- the point of a module's plant has the width of its safer region
pub start_width : (p : Tables) (start : List (List ℤ)) (m : ℕ) (a : ModuleInfo) → MeetsTableRules p → AreStarts p start → At p.modules m a
    → length (slice_index_or start a.plant []) ≡ a.safer.width
start_width p start m a rules starts at =
    let plant = rules.typed.plant_is m a at in
    starts.widths a.plant plant.0 plant.1 ∙ sym (width_at p.plants a.plant plant.0 plant.1) ∙ sym (rules.modules m a at).safer.width

-- .. and is there
pub start_there : (p : Tables) (start : List (List ℤ)) (m : ℕ) (a : ModuleInfo) → MeetsTableRules p → AreStarts p start → At p.modules m a
    → a.plant < length start
start_there p start m a rules starts at =
    let plant = rules.typed.plant_is m a at in
    omega (arith, slice_get_within p.plants a.plant plant.0 plant.1, starts.each)

-- one more module starts inside
pub one_more_inside : (p : Tables) (start : List (List ℤ)) (m : ℕ) (a : ModuleInfo) → At p.modules m a → StartInside p start m
    → IsInRegion a.safer.boxes (slice_index_or start a.plant []) → StartInside p start (m + 1)
one_more_inside p start m a at before here k b lt at_k =
    ⊎_elim
    (λ less. before k b less at_k)
    (λ more.
    let e : m ≡ k = omega (arith, lt, more) in
    let same : a ≡ b = same_Some a b (sym at ∙ ap (λ n. Rattle.std.specs.Prelude.slice_get p.modules n) e ∙ at_k) in
    subst (λ x. IsInRegion x.safer.boxes (slice_index_or start x.plant [])) same here)
    (cases_lt k m)

-- a list that was read at a place is the one there, whatever stands for none
pub read_list : (xs : List (List ℤ)) (k : ℕ) (x : List ℤ) → k < length xs → x ≡ get_or xs k x → x ≡ slice_index_or xs k []
read_list xs k x lt is =
    sym (Rattle.std.proofs.lemmas.Option.get_or_from_slice_get xs k x [] (Rattle.std.proofs.lemmas.Option.slice_get_read xs (length xs) k x refl lt is))

-- what is due at 0 is what has no offset
pub due_at_0 : (period offset : ℕ) → ((offset == 0) ≡ true) ↔ IsDue period offset 0
due_at_0 period offset = (
  (λ e.
      let none : offset ≡ 0 = eqb-true offset 0 e in
      let rest : 0 - offset ≡ 0 = omega arith in
      (omega arith, ap (λ n. n % period) rest ∙ zero-mod period)),
  (λ d. eq-eqb offset 0 (omega (arith, d.0))),
)

-- the flag of an element, in a list of flags by elements
flag_at : {A : Type 0} (f : A → Bool) (xs : List A) (flags : List Bool) (n : ℕ) (x : A) → flags ≡ map f xs → At xs n x → slice_index_or flags n false ≡ f x
flag_at f xs flags n x same at = ap (λ l. slice_index_or l n false) same ∙ get_or_from_slice_get (map f xs) n (f x) false (at_map f xs n x at)

pub opens_so :
    (p : Tables) (start : List (List ℤ)) (left left_dm : List Bool) (modes : List Mode) (scalars : List ℤ) (locals points : List (List ℤ)) →
    AreStarts p start → left ≡ map (λ k. k.offset == 0) p.nodes → left_dm ≡ map (λ k. k.offset == 0) p.modules → modes ≡ map (λ m. Sc) p.modules
    → scalars ≡ map (λ i. i.init) p.scalars →
    locals ≡ map (λ n. map (λ l. l.init) n.locals.items) p.nodes → points ≡ start →
    IsOpening p start (record { time = 0; left = left; left_dm = left_dm; modes = modes; scalars = scalars; locals = locals; points = points })
opens_so p start left left_dm modes scalars locals points starts l d m s k q = record {
  time = refl;
  left =
      λ n node at. subst (λ b. (b ≡ true) ↔ IsDue node.period node.offset 0) (sym (flag_at (λ x. x.offset == 0) p.nodes left n node l at))
      (due_at_0 node.period node.offset);
  left_dm =
      λ i a at. subst (λ b. (b ≡ true) ↔ IsDue a.period a.offset 0) (sym (flag_at (λ x. x.offset == 0) p.modules left_dm i a d at))
      (due_at_0 a.period a.offset);
  modes = m;
  scalars = s;
  locals = k;
  points = q;
  sizes = record {
    left = ap length l ∙ length-map p.nodes (λ x. x.offset == 0);
    left_dm = ap length d ∙ length-map p.modules (λ x. x.offset == 0);
    modes = ap length m ∙ length-map p.modules (λ x. Sc);
    scalars = ap length s ∙ length-map p.scalars (λ i. i.init);
    locals = ap length k ∙ length-map p.nodes (λ n. map (λ l. l.init) n.locals.items);
    points = ap length q ∙ starts.each;
  };
  widths = λ i plant at. ap (λ ps. length (slice_index_or ps i [])) q ∙ starts.widths i plant at;
}

pub starts_safer : (p : Tables) (start points : List (List ℤ)) → points ≡ start → StartInside p start (length p.modules) → (m : ℕ) (a : ModuleInfo)
    → At p.modules m a → IsInRegion a.safer.boxes (slice_index_or points a.plant [])
starts_safer p start points q inside m a at =
    subst (λ ps. IsInRegion a.safer.boxes (slice_index_or ps a.plant [])) (sym q) (inside m a (slice_get_within p.modules m a at) at)

pub opens_kept : (a : Admitted) (start : List (List ℤ)) (C : Configuration) → MeetsTableRules a.program → IsWellCertified a.program a.cert.jitter a.cert
    → IsOpening a.program start C → IsSafer a.program C → IsKept a C
opens_kept a start C rules certified opening safer = record {
  rules = rules;
  certified = certified;
  holds = opening_holds a.program a.cert.jitter rules.typed (certified_well a.program a.cert.jitter a.cert rules.typed certified) start C opening safer;
  time = omega (arith, opening.time);
}
