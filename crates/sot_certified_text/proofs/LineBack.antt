-- A certificate's line says that certificate.
use Rattle.std.proofs.Common.{◌≡◌, ℕ, zero, suc, ℤ, pos, negsuc, ◌≤ℤ◌, ◌≤◌, Option, None, Some, List, [], ◌∷◌, ◌++◌, codes, refl, subst, arith}
use Rattle.std.specs.Str.{IsUtf8}
use Rattle.std.proofs.lemmas.Int.{ints}
use Rattle.json.proofs.Printed.Utf8.{IsUtf8-are_ascii}
use Rattle.serde_json.specs.Data.{Data, Members}
use Rattle.serde_json.specs.Find.{of_integer}
use Rattle.serde_json.specs.Written.{compact_text}
use Rattle.sot_syntax_tree.proofs.Names.{name_utf8}
use Rattle.sot_box.specs.BoxList.{BoxList}
use Rattle.sot_box.specs.Sides.{Side, AreOrdered}
use Rattle.sot_lists.specs.Places.{At}
use Rattle.sot_lang.specs.declared.cert.Cells.{Cells}
use Rattle.sot_lang.specs.declared.cert.Cert.{Cert}
use Rattle.sot_lang.specs.declared.tables.ModuleInfo.{ModuleInfo}
use Rattle.sot_lang.specs.Tables.{Tables}
use Rattle.sot_lang.specs.CertRules.{FitsTables, AreCellsOf}
use Rattle.sot_certified_text.specs.CertText.{side_data, items_by, cell_data, cells_data, entry_data, entries_data, jittered_data, data_with_jitter}
use Rattle.sot_certified_text.specs.ReadBack.{IsShort, AreShort, IsWritable}
use Rattle.sot_certified_text.specs.Lines.{AreModulesNamed, CertificateLinesReadBack}
use Rattle.sot_certified_text.proofs.JsonBack.{IsNum, CanWrite, CanWriteItems, CanWriteMembers, AreSorted, put_sorted, put_can_write, json_back}
use Rattle.sot_certified_text.proofs.JsonEnds.{json_ends}
use Rattle.sot_certified_text.proofs.Modules.{read_back}
use Rattle.sot_certified_text.proofs.Shapes.{certificate_flat}

short_number : (z : ℤ) → negsuc 999999999999 ≤ℤ z → z ≤ℤ pos 1000000000000 → IsNum (of_integer z)
short_number (pos n) low high = omega (arith, ints, high)
short_number (negsuc n) low high = omega (arith, ints, low)

side_written : (r : Side) → r.lo ≤ℤ r.hi → IsShort r → CanWrite (side_data r)
side_written r ordered short =
    (short_number r.lo short.0 (omega (arith, ints, ordered, short.1)), (short_number r.hi (omega (arith, ints, ordered, short.0)) short.1, tt))

items_written : {A : Type 0} (f : A → Data) (xs : List A) → ((i : ℕ) (x : A) → At xs i x → CanWrite (f x)) → CanWriteItems (items_by f xs)
items_written f [] h = tt
items_written f (x ∷ xs) h = (h 0 x refl, items_written f xs (λ i. h (suc i)))

sides_written : (sides : List Side) → AreOrdered sides → AreShort sides → (i : ℕ) (r : Side) → At sides i r → CanWrite (side_data r)
sides_written [] o h i r at = absurd (cc)
sides_written (s ∷ ss) o h zero r at = (let e : s ≡ r = cc in subst (λ q. CanWrite (side_data q)) e (side_written s o.0 (h 0 s refl)))
sides_written (s ∷ ss) o h (suc i) r at = sides_written ss o.1 (λ j. h (suc j)) i r at

cells_written : (p : Tables) (plant : ℕ) (r : BoxList) → AreCellsOf p plant r → ((i : ℕ) (b : List Side) → At r.boxes i b → AreShort b)
    → CanWrite (cells_data r.boxes)
cells_written p plant r fit short =
    items_written cell_data r.boxes (λ i b at. items_written side_data b (sides_written b (fit.each i b at).1 (short i b at)))

entry_written : (c : Cells) → CanWrite (cells_data c.closed.boxes) → CanWrite (cells_data c.reach.boxes) → CanWrite (entry_data c)
entry_written c closed reach = ((IsUtf8-are_ascii (codes "closed") refl, closed, (IsUtf8-are_ascii (codes "reach") refl, reach, tt)), ((refl, tt), (tt, tt)))

entries_written : (infos : List ModuleInfo) (os : List (Option Cells)) → ((i : ℕ) (m : ModuleInfo) → At infos i m → IsUtf8 m.name)
    → ((i : ℕ) (m : ModuleInfo) (c : Cells) → At infos i m → At os i (Some c) → CanWrite (entry_data c))
    → CanWriteMembers (entries_data infos os) × AreSorted (entries_data infos os)
entries_written [] os names own = (tt, tt)
entries_written (m ∷ ms) [] names own = (tt, tt)
entries_written (m ∷ ms) (None ∷ os) names own = entries_written ms os (λ i. names (suc i)) (λ i. own (suc i))
entries_written (m ∷ ms) (Some c ∷ os) names own =
    let rest = entries_written ms os (λ i. names (suc i)) (λ i. own (suc i)) in (
      put_can_write m.name (entry_data c) (entries_data ms os) (names 0 m refl) (own 0 m c refl refl) rest.0,
      put_sorted m.name (entry_data c) (entries_data ms os) rest.1,
    )

jittered_written : (j : ℕ) (entries : Members) → j ≤ 999 → CanWriteMembers entries × AreSorted entries → CanWrite (jittered_data j entries)
jittered_written zero entries few all =
    ((IsUtf8-are_ascii (codes "format") refl, omega arith, (IsUtf8-are_ascii (codes "modules") refl, all, tt)), ((refl, tt), (tt, tt)))
jittered_written (suc j) entries few all = (
  (
    IsUtf8-are_ascii (codes "format") refl,
    omega arith,
    (IsUtf8-are_ascii (codes "jitter") refl, omega (arith, few), (IsUtf8-are_ascii (codes "modules") refl, all, tt)),
  ),
  ((refl, (refl, tt)), ((refl, tt), (tt, tt))),
)

certificate_written : (t : Tables) (cert : Cert) → AreModulesNamed t → FitsTables t cert → IsWritable cert → CanWrite (data_with_jitter t cert)
certificate_written t cert named fits w =
    let entries = entries_written t.modules cert.modules.items (λ i m at. name_utf8 m.name (named i m at))
    (λ i m c at_m at_c. entry_written c (cells_written t m.plant c.closed (fits.closed i m c at_m at_c) (λ j b at. w.closed i j c b at_c at))
    (cells_written t m.plant c.reach (fits.reach i m c at_m at_c) (λ j b at. w.reach i j c b at_c at))) in
    jittered_written cert.jitter (entries_data t.modules cert.modules.items) w.jitter entries

pub line_back : CertificateLinesReadBack
line_back t cert rules named fits w =
    let d : Data = data_with_jitter t cert in
    read_back t cert (compact_text d ++ 10 ∷ []) rules fits w
    (json_ends (compact_text d) d (json_back d (certificate_written t cert named fits w) (certificate_flat t cert)))
