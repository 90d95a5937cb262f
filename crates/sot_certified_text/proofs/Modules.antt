-- The modules of a certificate's JSON are those of the certificate.
use Rattle.std.proofs.Common.{◌≡◌, ℕ, zero, suc, ◌≤◌, nat_lt, pos, ◌||◌, Bool, false, true, Option}
use Rattle.std.proofs.Common.{None, Some, Ok, List, [], ◌∷◌, ◌++◌, length, codes, bytes_eq, Ordering}
use Rattle.std.proofs.Common.{Less, Equal, Greater, nat_cmp, refl, sym, ap, ◌∙◌, subst, arith}
use Rattle.std.specs.Prelude.{int_le, unsigned_abs}
use Rattle.std.specs.List.{list_all}
use Rattle.std.specs.Ordering.{match_ordering}
use Rattle.std.proofs.lemmas.Int.{ints}
use Rattle.std.proofs.lemmas.Bool.{lt-ltb}
use Rattle.std.specs.Cmp.Lexicographic.{slice_cmp}
use Rattle.std.proofs.lemmas.Option.{none-some, same_Some}
use Rattle.std.proofs.lemmas.Slice.Eq.{bytes_eq-Decides}
use Rattle.serde_json.specs.Data.{Data, unsigned, number, object, Members, no_members, member, put}
use Rattle.serde_json.specs.Find.{get_member}
use Rattle.serde_json.proofs.Views.{get_member-put, get_member-put_other}
use Rattle.sot_box.specs.BoxList.{BoxList}
use Rattle.sot_box.specs.Sides.{Side}
use Rattle.sot_lists.specs.Places.{At}
use Rattle.sot_lang.specs.declared.cert.Cells.{Cells}
use Rattle.sot_lang.specs.declared.cert.Cert.{Cert}
use Rattle.sot_lang.specs.declared.tables.PlantInfo.{PlantInfo}
use Rattle.sot_lang.specs.declared.tables.ModuleInfo.{ModuleInfo}
use Rattle.sot_lang.specs.Tables.{Tables}
use Rattle.sot_lang.specs.OwnerNames.{width_of}
use Rattle.sot_lang.specs.TableRules.{MeetsTableRules}
use Rattle.sot_lang.proofs.NamesOnce.{module_same}
use Rattle.sot_lang.specs.CertRules.{FitsTables, AreCellsOf}
use Rattle.sot_json.specs.declared.fault.JsonKind.TheVariants.{NotJson, Unknown, OutsideRange}
use Rattle.sot_json.specs.Says.{◌>>=◌, or, unless, part}
use Rattle.sot_json.specs.Json.{whole, count, at, some, may, optional, is_among, all_among}
use Rattle.sot_cert.specs.CertFormat.{cells, entry, entries, names, modules, is_below_periods, jitter, has_jitter, jitter_in, cert, contents, region_of}
use Rattle.sot_certified_text.proofs.PlainTexts.{both, first_of, second_of}
use Rattle.sot_certified_text.specs.CertText.{cells_data, entry_data, entries_data, jittered_data, data_with_jitter}
use Rattle.sot_certified_text.specs.ReadBack.{AreShort, IsWritable, CertificatesReadBack}
use Rattle.sot_certified_text.proofs.ReadBack.{le_test, cells_read}

region_same : (width : ℕ) (r : BoxList) → r.width ≡ width → r.settled ≡ true → region_of width r.boxes ≡ r
region_same width r w s i = record { width = sym w i; boxes = r.boxes; settled = sym s i }

list_read : (p : Tables) (plant : ℕ) (r : BoxList) → AreCellsOf p plant r → r.settled ≡ true → ((i : ℕ) (b : List Side) → At r.boxes i b → AreShort b)
    → cells (width_of p.plants plant) (cells_data r.boxes) ≡ Ok r
list_read p plant r fit settled short =
    cells_read (width_of p.plants plant) r.boxes fit.boxes (λ i b at. let f = fit.each i b at in (f.0 ∙ fit.width, f.1)) short
    ∙ ap Ok (region_same (width_of p.plants plant) r fit.width settled)

entry_read : (width : ℕ) (c : Cells) → cells width (cells_data c.closed.boxes) ≡ Ok c.closed → cells width (cells_data c.reach.boxes) ≡ Ok c.reach
    → entry width (entry_data c) ≡ Ok c
unfolding entry at
entry_read width c closed reach =
    ap (λ s. part (codes "closed") s >>= λ a. part (codes "reach") (cells width (cells_data c.reach.boxes)) >>= λ b. Ok (record { closed = a; reach = b }))
    closed
    ∙ ap (λ s. part (codes "reach") s >>= λ b. Ok (record { closed = c.closed; reach = b })) reach

-- what stands under a module's name
option_data : Option Cells → Option Data
option_data None = None
option_data (Some c) = Some (entry_data c)

abbrev NamesDiffer : List ModuleInfo → Type 0
NamesDiffer infos = (i j : ℕ) (a b : ModuleInfo) → At infos i a → At infos j b → a.name ≡ b.name → i ≡ j

absent : (q : List ℕ) (infos : List ModuleInfo) (os : List (Option Cells)) → ((i : ℕ) (m : ModuleInfo) → At infos i m → q ≡ m.name → ⊥)
    → get_member q (entries_data infos os) ≡ None
absent q [] os h = refl
absent q (m ∷ ms) [] h = refl
absent q (m ∷ ms) (None ∷ os) h = absent q ms os (λ i. h (suc i))
absent q (m ∷ ms) (Some c ∷ os) h = get_member-put_other q m.name (entry_data c) (entries_data ms os) (h 0 m refl) ∙ absent q ms os (λ i. h (suc i))

found : (infos : List ModuleInfo) (os : List (Option Cells)) (i : ℕ) (m : ModuleInfo) (o : Option Cells) → NamesDiffer infos → At infos i m → At os i o
    → get_member m.name (entries_data infos os) ≡ option_data o
unfolding option_data
found [] os i m o d at_m at_o = absurd (none-some m at_m)
found (n ∷ ns) [] i m o d at_m at_o = absurd (none-some o at_o)
found (n ∷ ns) (None ∷ es) zero m o d at_m at_o =
    subst (λ e. get_member m.name (entries_data ns es) ≡ option_data e) (same_Some None o at_o)
    (absent m.name ns es (λ i b at_b same. absurd (omega (arith, d 0 (suc i) n b refl at_b (ap (λ (x : ModuleInfo). x.name) (same_Some n m at_m) ∙ same)))))
found (n ∷ ns) (Some c ∷ es) zero m o d at_m at_o =
    subst (λ e. get_member m.name (put n.name (entry_data c) (entries_data ns es)) ≡ option_data e) (same_Some (Some c) o at_o)
    (subst (λ (x : ModuleInfo). get_member x.name (put n.name (entry_data c) (entries_data ns es)) ≡ Some (entry_data c)) (same_Some n m at_m)
    (get_member-put n.name (entry_data c) (entries_data ns es)))
found (n ∷ ns) (None ∷ es) (suc i) m o d at_m at_o =
    found ns es i m o (λ j k a b at_a at_b e. (let s = d (suc j) (suc k) a b at_a at_b e in omega (arith, s))) at_m at_o
found (n ∷ ns) (Some c ∷ es) (suc i) m o d at_m at_o =
    get_member-put_other m.name n.name (entry_data c) (entries_data ns es) (λ e. absurd (omega (arith, d (suc i) 0 m n at_m refl e)))
    ∙ found ns es i m o (λ j k a b at_a at_b e. (let s = d (suc j) (suc k) a b at_a at_b e in omega (arith, s))) at_m at_o

may_read : (name : List ℕ) (width : ℕ) (ms : Members) (o : Option Cells) → get_member name ms ≡ option_data o
    → ((c : Cells) → o ≡ Some c → entry width (entry_data c) ≡ Ok c) → may name (entry width) ms ≡ Ok o
unfolding option_data
may_read name width ms None h k = ap (λ d. part name (optional (entry width) d)) h
may_read name width ms (Some c) h k = ap (λ d. part name (optional (entry width) d)) h ∙ ap (λ s. part name (some s)) (k c refl)

entries_read : (plants : List PlantInfo) (infos : List ModuleInfo) (os : List (Option Cells)) (ms : Members) → length os ≡ length infos
    → ((i : ℕ) (m : ModuleInfo) (o : Option Cells) → At infos i m → At os i o → may m.name (entry (width_of plants m.plant)) ms ≡ Ok o)
    → entries plants infos ms ≡ Ok os
unfolding entries
entries_read plants [] [] ms e h = refl
entries_read plants [] (o ∷ os) ms e h = absurd (omega (arith, e))
entries_read plants (m ∷ infos) [] ms e h = absurd (omega (arith, e))
entries_read plants (m ∷ infos) (o ∷ os) ms e h =
    ap (λ s. s >>= λ x. entries plants infos ms >>= λ xs. Ok (x ∷ xs)) (h 0 m o refl refl)
    ∙ ap (λ s. s >>= λ xs. Ok (o ∷ xs)) (entries_read plants infos os ms (omega (arith, e)) (λ i. h (suc i)))

-- keys

same_bytes : (k : List ℕ) (ls : List (List ℕ)) → is_among k (k ∷ ls) ≡ true
same_bytes k ls = ap (λ b. b || is_among k ls) ((bytes_eq-Decides k k).1 refl)

among : (infos : List ModuleInfo) (i : ℕ) (m : ModuleInfo) → At infos i m → is_among m.name (names infos) ≡ true
among [] i m at = absurd (none-some m at)
among (n ∷ ns) zero m at = subst (λ (x : ModuleInfo). is_among x.name (n.name ∷ names ns) ≡ true) (same_Some n m at) (same_bytes n.name (names ns))
among (n ∷ ns) (suc i) m at = later (bytes_eq m.name n.name) (among ns i m at)
  where
    later : (b : Bool) → is_among m.name (names ns) ≡ true → (b || is_among m.name (names ns)) ≡ true
    later true h = refl
    later false h = h

put_at : (o : Ordering) (k l : List ℕ) (d e : Data) (ms rest : Members) (ls : List (List ℕ)) → is_among k ls ≡ true → all_among (member l e ms) ls ≡ true
    → all_among rest ls ≡ true
    → all_among (match_ordering o (member k d (member l e ms)) (member l d ms) (member l e rest)) ls ≡ true
put_at Less k l d e ms rest ls h g r = both (is_among k ls) _ h g
put_at Equal k l d e ms rest ls h g r = g
put_at Greater k l d e ms rest ls h g r = both (is_among l ls) (all_among rest ls) (first_of (is_among l ls) (all_among ms ls) g) r

put_among : (k : List ℕ) (d : Data) (ms : Members) (ls : List (List ℕ)) → is_among k ls ≡ true → all_among ms ls ≡ true → all_among (put k d ms) ls ≡ true
put_among k d no_members ls h g = both (is_among k ls) true h refl
put_among k d (member l e ms) ls h g =
    put_at (slice_cmp nat_cmp k l) k l d e ms (put k d ms) ls h g (put_among k d ms ls h (second_of (is_among l ls) (all_among ms ls) g))

entries_among : (infos : List ModuleInfo) (os : List (Option Cells)) (ls : List (List ℕ))
    → ((i : ℕ) (m : ModuleInfo) → At infos i m → is_among m.name ls ≡ true) → all_among (entries_data infos os) ls ≡ true
entries_among [] os ls h = refl
entries_among (m ∷ ms) [] ls h = refl
entries_among (m ∷ ms) (None ∷ os) ls h = entries_among ms os ls (λ i. h (suc i))
entries_among (m ∷ ms) (Some c ∷ os) ls h = put_among m.name (entry_data c) (entries_data ms os) ls (h 0 m refl) (entries_among ms os ls (λ i. h (suc i)))

-- a jitter

all_pass : {A : Type 0} (test : A → Bool) (xs : List A) → ((i : ℕ) (x : A) → At xs i x → test x ≡ true) → list_all test xs ≡ true
all_pass test [] h = refl
all_pass test (x ∷ xs) h = both (test x) (list_all test xs) (h 0 x refl) (all_pass test xs (λ i. h (suc i)))

jitter_read : (p : Tables) (j : ℕ) → j ≤ 999 → is_below_periods p j ≡ true → jitter p (number (unsigned j)) ≡ Ok j
unfolding jitter count whole
jitter_read p j few below =
    ap (λ t. ((unless OutsideRange t >>= λ ok. Ok (pos j)) >>= λ z. Ok (unsigned_abs z)) >>= λ k. unless OutsideRange (is_below_periods p k) >>= λ ok. Ok k)
    (both (int_le (pos 0) (pos j)) (int_le (pos j) (pos 999)) (le_test (pos 0) (pos j) (omega (arith, ints)))
    (le_test (pos j) (pos 999) (omega (arith, ints, few))))
    ∙ ap (λ t. unless OutsideRange t >>= λ ok. Ok j) below

-- names of modules stand once
module _ (p : Tables) (rules : MeetsTableRules p) where
  differ : NamesDiffer p.modules
  differ i j a b at_a at_b e = module_same p rules i j a b at_a at_b e

  module _ (c : Cert) (fits : FitsTables p c) (w : IsWritable c) where
    abbrev written : Members
    written = entries_data p.modules c.modules.items

    one_read : (i : ℕ) (m : ModuleInfo) (o : Option Cells) → At p.modules i m → At c.modules.items i o
        → may m.name (entry (width_of p.plants m.plant)) written ≡ Ok o
    one_read i m o at_m at_o =
        may_read m.name (width_of p.plants m.plant) written o (found p.modules c.modules.items i m o differ at_m at_o)
        (λ x is.
        let at_x = subst (At c.modules.items i) is at_o in
        entry_read (width_of p.plants m.plant) x
        (list_read p m.plant x.closed (fits.closed i m x at_m at_x) (w.closed_settled i x at_x) (λ j b at_b. w.closed i j x b at_x at_b))
        (list_read p m.plant x.reach (fits.reach i m x at_m at_x) (w.reach_settled i x at_x) (λ j b at_b. w.reach i j x b at_x at_b)))

    modules_read : modules p (object written) ≡ Ok c.modules.items
    unfolding modules
    modules_read =
        ap (λ s. s >>= λ list. unless Unknown (all_among written (names p.modules)) >>= λ ok. Ok list)
        (entries_read p.plants p.modules c.modules.items written fits.entries one_read)
        ∙ ap (λ t. unless Unknown t >>= λ ok. Ok c.modules.items) (entries_among p.modules c.modules.items (names p.modules) (among p.modules))

    below_periods : is_below_periods p c.jitter ≡ true
    below_periods =
        both (list_all (λ n. nat_lt c.jitter n.period) p.nodes) (list_all (λ m. nat_lt c.jitter m.period) p.modules)
        (all_pass (λ n. nat_lt c.jitter n.period) p.nodes (λ i n at. lt-ltb c.jitter n.period (fits.node_jitter i n at)))
        (all_pass (λ m. nat_lt c.jitter m.period) p.modules (λ i m at. lt-ltb c.jitter m.period (fits.module_jitter i m at)))

    cert_from : (j : ℕ) → j ≤ 999 → is_below_periods p j ≡ true → cert p (jittered_data j written) ≡ Ok (record { jitter = j; modules = c.modules.items })
    unfolding cert at has_jitter whole jitter_in
    cert_from zero few below = ap (λ s. part (codes "modules") s >>= λ list. Ok (record { jitter = 0; modules = list })) modules_read
    cert_from (suc j) few below =
        ap (λ s. part (codes "jitter") s >>= λ k. part (codes "modules") (modules p (object written)) >>= λ list. Ok (record { jitter = k; modules = list }))
        (jitter_read p (suc j) few below)
        ∙ ap (λ s. part (codes "modules") s >>= λ list. Ok (record { jitter = suc j; modules = list })) modules_read

    cert_read : cert p (data_with_jitter p c) ≡ Ok (contents c)
    cert_read = cert_from c.jitter w.jitter below_periods

pub read_back : CertificatesReadBack
read_back p c bytes rules fits w is = ap (λ o. or NotJson o >>= cert p) is ∙ cert_read p rules c fits w
