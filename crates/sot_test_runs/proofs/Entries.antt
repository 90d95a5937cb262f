-- Certificates made of one entry, or of none, fit.
use Rattle.std.proofs.Common.{◌≡◌, ℕ, zero, suc, List, ◌++◌, ◌+◌, [], ◌∷◌, length, length-append, refl, sym, ap, ◌∙◌, subst, arith}
use Rattle.std.specs.Prelude.{Some, None, Option, slice_index_or}
use Rattle.std.proofs.lemmas.Option.{same_Some, none-some}
use Rattle.sot_lists.specs.Places.{At}
use Rattle.sot_box.specs.BoxList.{BoxList}
use Rattle.sot_box.specs.Sides.{Side, AreOrdered}
use Rattle.sot_lang.specs.declared.cert.Cells.{Cells}
use Rattle.sot_lang.specs.declared.cert.Cert.{Cert}
use Rattle.sot_lang.specs.Tables.{Tables}
use Rattle.sot_lang.specs.OwnerNames.{width_of}
use Rattle.sot_lang.specs.CertRules.{AreCellsOf}
use Rattle.sot_lists.proofs.ShortLists.{at_one, at_two}
use Rattle.sot_test_runs.specs.Entries.{AreOf, AreCells, AreCellsBoth, FitsAll}

snoc : (sides : ℕ) (xs : List (List Side)) (y : List Side) → AreOf sides xs → length y ≡ sides → AreOrdered y → AreOf sides (xs ++ (y ∷ []))
snoc sides [] y all wide ordered i b at = at_one (λ i b. (length b ≡ sides) × AreOrdered b) y (wide, ordered) i b at
snoc sides (x ∷ xs) y all wide ordered zero b at = all zero b at
snoc sides (x ∷ xs) y all wide ordered (suc i) b at = snoc sides xs y (λ i b at. all (suc i) b at) wide ordered i b at

as_cells : (p : Tables) (plant sides : ℕ) (cells : BoxList) → width_of p.plants plant ≡ sides → AreCells sides cells → AreCellsOf p plant cells
as_cells p plant sides cells wide h = record {
  width = h.width ∙ sym wide;
  boxes = h.boxes;
  each = λ i b at. (let e = h.each i b at in (e.0 ∙ sym h.width, e.1));
}

-- one more box at the end
pub one_more : (sides : ℕ) (xs ys : List (List Side)) (y : List Side) → AreOf sides xs → length y ≡ sides → AreOrdered y → ys ≡ xs ++ (y ∷ []) → AreOf sides ys
one_more sides xs ys y all wide ordered e = rw e (snoc sides xs y all wide ordered)

-- each entry has cells of its plant's width, and the jitter is 0
fit : (widths : List ℕ) (cert : Cert) → cert.jitter ≡ 0 → length cert.modules.items ≡ length widths
    → ((m : ℕ) (cells : Cells) → At cert.modules.items m (Some cells) → AreCellsBoth (slice_index_or widths m 0) cells) → FitsAll widths cert
fit widths cert none count each p h = record {
  entries = count ∙ sym h.modules;
  closed = λ m info cells at_m at_c. as_cells p info.plant (slice_index_or widths m 0) cells.closed (h.plants m info at_m) (each m cells at_c).0;
  reach = λ m info cells at_m at_c. as_cells p info.plant (slice_index_or widths m 0) cells.reach (h.plants m info at_m) (each m cells at_c).1;
  node_jitter = λ n node at. omega (arith, none, h.node_periods n node at);
  module_jitter = λ m info at. omega (arith, none, h.module_periods m info at);
}

-- a certificate with one entry
pub one_entry : (width : ℕ) (cells : Cells) (cert : Cert) → cert.jitter ≡ 0 → AreCellsBoth width cells → cert.modules.items ≡ Some cells ∷ []
    → FitsAll (width ∷ []) cert
one_entry width cells cert none h e = fit (width ∷ []) cert none (ap length e) (λ m other at.
    at_one (λ m (entry : Option Cells). (one : Cells) → entry ≡ Some one → AreCellsBoth (slice_index_or (width ∷ []) m 0) one) (Some cells)
    (λ one same. subst (AreCellsBoth width) (same_Some cells one same) h) m (Some other) (subst (λ l. At l m (Some other)) e at) other refl)

-- a certificate with two entries
pub two_entries : (a b : ℕ) (first second : Cells) (cert : Cert) → cert.jitter ≡ 0 → AreCellsBoth a first → AreCellsBoth b second
    → cert.modules.items ≡ Some first ∷ Some second ∷ [] → FitsAll (a ∷ b ∷ []) cert
two_entries a b first second cert none h k e = fit (a ∷ b ∷ []) cert none (ap length e) (λ m other at.
    at_two (λ m (entry : Option Cells). (one : Cells) → entry ≡ Some one → AreCellsBoth (slice_index_or (a ∷ b ∷ []) m 0) one) (Some first) (Some second)
    (λ one same. subst (AreCellsBoth a) (same_Some first one same) h) (λ one same. subst (AreCellsBoth b) (same_Some second one same) k)
    m (Some other) (subst (λ l. At l m (Some other)) e at) other refl)

-- a certificate whose one entry is not there, and one of a program with no module
pub no_entry : (width : ℕ) (cert : Cert) → cert.jitter ≡ 0 → cert.modules.items ≡ None ∷ [] → FitsAll (width ∷ []) cert
no_entry width cert none e = fit (width ∷ []) cert none (ap length e) (λ m cells at.
    absurd (at_one (λ m (entry : Option Cells). (one : Cells) → entry ≡ Some one → ⊥) None (λ one same. none-some one same) m (Some cells)
    (subst (λ l. At l m (Some cells)) e at) cells refl))

pub no_module : (cert : Cert) → cert.jitter ≡ 0 → cert.modules.items ≡ [] → FitsAll [] cert
no_module cert none e = fit [] cert none (ap length e) (λ m cells at. absurd (none-some (Some cells) (subst (λ l. At l m (Some cells)) e at)))

pub none_yet : (sides : ℕ) (xs : List (List Side)) → xs ≡ [] → AreOf sides xs
none_yet sides xs e = rw e (λ i b at. absurd (none-some b at))

pub longer : (xs ys : List (List Side)) (y : List Side) → ys ≡ xs ++ (y ∷ []) → length ys ≡ length xs + 1
longer xs ys y e = ap length e ∙ length-append xs (y ∷ [])
