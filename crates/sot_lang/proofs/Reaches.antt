-- What a plant can come to, after fewer ticks, with fewer commands, and after its first tick.
use Rattle.std.proofs.Common.{◌≡◌, ℕ, zero, suc, ◌≤◌, ℤ, List, Ok, Err, refl, sym, subst, arith}
use Rattle.sot_box.specs.Sides.{Side}
use Rattle.sot_lang.specs.declared.trap.Trap.{Trap}
use Rattle.sot_lang.specs.declared.tables.PlantInfo.{PlantInfo}
use Rattle.sot_lang.specs.Tables.{Tables}
use Rattle.sot_lang.specs.Values.{Outcome}
use Rattle.sot_box.specs.Boxes.{IsWithin}
use Rattle.sot_box.specs.Regions.{IsInRegion}
use Rattle.sot_lang.specs.Reach.{TicksTo, ComesTo, Reach, AnyReach, HeldReach, AllInside}
use Rattle.sot_lang.specs.Ranges.{input_ranges}

module _ (p : Tables) (plant : PlantInfo) where
  comes_wider : (A B : List ℤ → Type 0) → ((c : List ℤ) → A c → B c) → (s : List ℤ) (j : ℕ) (o : Outcome (List ℤ)) → ComesTo p plant A s j o
      → ComesTo p plant B s j o
  comes_wider A B sub s zero o h = h
  comes_wider A B sub s (suc j) o h =
      let t = h.2 in (
        h.0,
        comes_wider A B sub s j (Ok h.0) h.1,
        record {
          c = t.c;
          seen = t.seen;
          w = t.w;
          allowed = sub t.c t.allowed;
          safe = t.safe;
          bounded = t.bounded;
          is = t.is;
        },
      )

  comes_after : (A : List ℤ → Type 0) (s s1 : List ℤ) → TicksTo p plant A s (Ok s1) → (j : ℕ) (o : Outcome (List ℤ)) → ComesTo p plant A s1 j o
      → ComesTo p plant A s (suc j) o
  comes_after A s s1 t zero o h = (s, refl, subst (λ x. TicksTo p plant A s x) (sym h) t)
  comes_after A s s1 t (suc j) o h = (h.0, comes_after A s s1 t j (Ok h.0) h.1, h.2)

  pub inside_here : (A : List ℤ → Type 0) (s : List ℤ) (k : ℕ) (region : List (List Side)) → AllInside (Reach p plant A s k) region → IsInRegion region s
  inside_here A s k region h = h (Ok s) (0, omega arith, refl)

  pub inside_fewer : (A : List ℤ → Type 0) (s : List ℤ) (j k : ℕ) (region : List (List Side)) → j ≤ k → AllInside (Reach p plant A s k) region
      → AllInside (Reach p plant A s j) region
  inside_fewer A s j k region le h = λ o r. h o (r.0, omega (arith, r.1), r.2)

  pub inside_held : (s c : List ℤ) (k : ℕ) (region : List (List Side)) → IsWithin (input_ranges p plant) c → AllInside (AnyReach p plant s k) region
      → AllInside (HeldReach p plant s c k) region
  inside_held s c k region w h =
      λ o r. h o (r.0, r.1, comes_wider (λ d. d ≡ c) (IsWithin (input_ranges p plant)) (λ d e. subst (IsWithin (input_ranges p plant)) (sym e) w) s r.0 o r.2)

  pub inside_next : (A : List ℤ → Type 0) (s s1 : List ℤ) (k : ℕ) (region : List (List Side)) → TicksTo p plant A s (Ok s1)
      → AllInside (Reach p plant A s (suc k)) region → AllInside (Reach p plant A s1 k) region
  inside_next A s s1 k region t h = λ o r. h o (suc r.0, omega (arith, r.1), comes_after A s s1 t r.0 o r.2)

  pub inside_no_trap : (A : List ℤ → Type 0) (s : List ℤ) (t : Trap) (k : ℕ) (region : List (List Side)) → TicksTo p plant A s (Err t)
      → AllInside (Reach p plant A s (suc k)) region → ⊥
  inside_no_trap A s t k region ticks h = h (Err t) (1, omega arith, (s, refl, ticks))
