-- A certificate that was read fits the program.
use Rattle.std.proofs.Common.{◌≡◌, ℕ, zero, suc, ◌<◌, List, [], ◌∷◌, length, Option, Some, None, Ok, Err, Bool, true, false, codes, sym, ap, subst, ◌∙◌, arith}
use Rattle.std.specs.Prelude.{nat_lt}
use Rattle.std.specs.List.{list_all}
use Rattle.std.proofs.lemmas.Bool.{ltb-true, and_parts}
use Rattle.std.proofs.lemmas.Option.{same_Some}
use Rattle.serde_json.specs.Data.{Data, Members}
use Rattle.serde_json.specs.Find.{get_member, as_object}
use Rattle.sot_lists.specs.Places.{At}
use Rattle.sot_lang.specs.declared.tables.PlantInfo.{PlantInfo}
use Rattle.sot_lang.specs.declared.tables.NodeInfo.{NodeInfo}
use Rattle.sot_lang.specs.declared.tables.ModuleInfo.{ModuleInfo}
use Rattle.sot_lang.specs.declared.cert.Cells.{Cells}
use Rattle.sot_lang.specs.declared.cert.Cert.{Cert}
use Rattle.sot_lang.specs.Tables.{Tables}
use Rattle.sot_lang.specs.OwnerNames.{width_of}
use Rattle.sot_lang.specs.TableRules.{MeetsTableRules}
use Rattle.sot_lang.specs.CertRules.{FitsTables, AreCellsOf}
use Rattle.sot_json.specs.declared.fault.JsonKind.TheVariants.{WrongShape, OutsideRange, Missing, Unknown}
use Rattle.sot_json.specs.Says.{Says, or, unless}
use Rattle.sot_json.specs.Json.{count, at, some, optional, may, all_among}
use Rattle.sot_cert.specs.CertFormat.{cells, entry, entries, names, modules, is_below_periods, jitter, jitter_in, has_jitter, keys, cert, Contents, contents}
use Rattle.sot_json.proofs.Binds.{bind_ok, part_ok, unless_ok, ok_same}
use Rattle.sot_cert.proofs.Sides.{AreCells, cells_form}

pub at_ok : {A : Type 0} (key : List ℕ) (f : Data → Says A) (ms : Members) (x : A) → at key f ms ≡ Ok x → (d : Data) × (f d ≡ Ok x)
unfolding at
at_ok key f ms x h = let b = bind_ok (or Missing (get_member key ms)) f x (part_ok key _ x h) in (b.0, b.2)

some_ok : {A : Type 0} (says : Says A) (x : A) → some says ≡ Ok (Some x) → says ≡ Ok x
some_ok (Ok y) x h = cc
some_ok (Err e) x h = cc

optional_ok : {A : Type 0} (f : Data → Says A) (o : Option Data) (x : A) → optional f o ≡ Ok (Some x) → (d : Data) × (f d ≡ Ok x)
optional_ok f (Some d) x h = (d, some_ok (f d) x h)
optional_ok f None x h = cc

-- both lists of an entry are in form
record IsEntry (width : ℕ) (c : Cells) : Type 0 where
  closed : AreCells width c.closed
  reach : AreCells width c.reach

entry_form : (width : ℕ) (d : Data) (c : Cells) → entry width d ≡ Ok c → IsEntry width c
unfolding entry
entry_form width d c h =
    let ms = bind_ok (or WrongShape (as_object d)) _ c h in
    let closed = bind_ok (at (codes "closed") (cells width) ms.0) _ c ms.2 in
    let reach = bind_ok (at (codes "reach") (cells width) ms.0) _ c closed.2 in
    let ok = bind_ok (unless Unknown (all_among ms.0 (codes "closed" ∷ codes "reach" ∷ []))) _ c reach.2 in
    let e : record { closed = closed.0; reach = reach.0 } ≡ c = ok_same (record { closed = closed.0; reach = reach.0 }) c ok.2 in
    let a = at_ok (codes "closed") (cells width) ms.0 closed.0 closed.1 in
    let b = at_ok (codes "reach") (cells width) ms.0 reach.0 reach.1 in
    subst (IsEntry width) e (record { closed = cells_form width a.0 closed.0 a.1; reach = cells_form width b.0 reach.0 b.1 })

entries_len : (plants : List PlantInfo) (infos : List ModuleInfo) (ms : Members) (os : List (Option Cells)) → entries plants infos ms ≡ Ok os
    → length os ≡ length infos
unfolding entries
entries_len plants [] ms os h = let e : [] ≡ os = ok_same [] os h in ap length (sym e)
entries_len plants (m ∷ more) ms os h =
    let x = bind_ok (may m.name (entry (width_of plants m.plant)) ms) _ os h in
    let xs = bind_ok (entries plants more ms) _ os x.2 in
    let e : x.0 ∷ xs.0 ≡ os = ok_same (x.0 ∷ xs.0) os xs.2 in
    rw (← e) (ap suc (entries_len plants more ms xs.0 xs.1))

entries_form : (plants : List PlantInfo) (infos : List ModuleInfo) (ms : Members) (os : List (Option Cells)) → entries plants infos ms ≡ Ok os
    → (i : ℕ) (info : ModuleInfo) (c : Cells) → At infos i info → At os i (Some c) → IsEntry (width_of plants info.plant) c
unfolding entries
entries_form plants [] ms os h i info c is_info is_c = cc
entries_form plants (m ∷ more) ms os h zero info c is_info is_c =
    let x = bind_ok (may m.name (entry (width_of plants m.plant)) ms) _ os h in
    let xs = bind_ok (entries plants more ms) _ os x.2 in
    let e : x.0 ∷ xs.0 ≡ os = ok_same (x.0 ∷ xs.0) os xs.2 in
    let is : x.0 ≡ Some c = same_Some x.0 (Some c) (subst (λ l. At l 0 (Some c)) (sym e) is_c) in
    let f = optional_ok (entry (width_of plants m.plant)) (get_member m.name ms) c (part_ok m.name _ (Some c) (x.1 ∙ ap Ok is)) in
    subst (λ (k : ModuleInfo). IsEntry (width_of plants k.plant) c) (same_Some m info is_info) (entry_form _ f.0 c f.1)
entries_form plants (m ∷ more) ms os h (suc i) info c is_info is_c =
    let x = bind_ok (may m.name (entry (width_of plants m.plant)) ms) _ os h in
    let xs = bind_ok (entries plants more ms) _ os x.2 in
    let e : x.0 ∷ xs.0 ≡ os = ok_same (x.0 ∷ xs.0) os xs.2 in
    let at_c : At (x.0 ∷ xs.0) (suc i) (Some c) = subst (λ l. At l (suc i) (Some c)) (sym e) is_c in
    entries_form plants more ms xs.0 xs.1 i info c is_info at_c

all_at : {A : Type 0} (test : A → Bool) (xs : List A) (i : ℕ) (x : A) → list_all test xs ≡ true → At xs i x → test x ≡ true
all_at test [] i x h at = cc
all_at test (y ∷ ys) zero x h at = subst (λ z. test z ≡ true) (same_Some y x at) (and_parts (test y) _ h).0
all_at test (y ∷ ys) (suc i) x h at = all_at test ys i x (and_parts (test y) _ h).1 at

-- the jitter is below every period
record IsBelow (p : Tables) (j : ℕ) : Type 0 where
  nodes : (n : ℕ) (node : NodeInfo) → At p.nodes n node → j < node.period
  infos : (m : ℕ) (a : ModuleInfo) → At p.modules m a → j < a.period

jitter_below : (p : Tables) (d : Data) (j : ℕ) → jitter p d ≡ Ok j → IsBelow p j
unfolding jitter
jitter_below p d j h =
    let n = bind_ok (count 999 d) _ j h in
    let ok = bind_ok (unless OutsideRange (is_below_periods p n.0)) _ j n.2 in
    let b : is_below_periods p n.0 ≡ true = unless_ok OutsideRange _ _ ok.1 in
    let e : n.0 ≡ j = ok_same n.0 j ok.2 in
    subst (IsBelow p) e (record {
      nodes =
          λ k node at. ltb-true _ _ (all_at (λ (x : NodeInfo). nat_lt n.0 x.period) p.nodes k node
          (and_parts (list_all (λ (x : NodeInfo). nat_lt n.0 x.period) p.nodes) _ b).0 at);
      infos =
          λ k a at. ltb-true _ _ (all_at (λ (x : ModuleInfo). nat_lt n.0 x.period) p.modules k a
          (and_parts (list_all (λ (x : NodeInfo). nat_lt n.0 x.period) p.nodes) _ b).1 at);
    })

jitter_in_below : (p : Tables) → MeetsTableRules p → (jittered : Bool) (ms : Members) (j : ℕ) → jitter_in jittered p ms ≡ Ok j → IsBelow p j
unfolding jitter_in
jitter_in_below p rules true ms j h = let a = at_ok (codes "jitter") (jitter p) ms j h in jitter_below p a.0 j a.1
jitter_in_below p rules false ms j h =
    let e : 0 ≡ j = ok_same 0 j h in
    subst (IsBelow p) e (record {
      nodes = λ n node at. let l = rules.typed.node_times n node at in omega (arith, l);
      infos = λ m a at. let l = rules.typed.module_times m a at in omega (arith, l);
    })

modules_ok : (p : Tables) (d : Data) (os : List (Option Cells)) → modules p d ≡ Ok os → (ms : Members) × (entries p.plants p.modules ms ≡ Ok os)
unfolding modules
modules_ok p d os h =
    let ms = bind_ok (or WrongShape (as_object d)) _ os h in
    let list = bind_ok (entries p.plants p.modules ms.0) _ os ms.2 in
    let ok = bind_ok (unless Unknown (all_among ms.0 (names p.modules))) _ os list.2 in
    (ms.0, list.1 ∙ ap Ok (ok_same list.0 os ok.2))

-- where the jitter of a certificate and its modules were read
record IsRead (p : Tables) (k : Contents) : Type 0 where
  jittered : Bool
  members : Members
  value : Data
  jitter_is : jitter_in jittered p members ≡ Ok k.jitter
  modules_are : modules p value ≡ Ok k.modules

cert_ok : (p : Tables) (d : Data) (k : Contents) → cert p d ≡ Ok k → IsRead p k
unfolding cert
cert_ok p d k h =
    let ms = bind_ok (or WrongShape (as_object d)) _ k h in
    let format = bind_ok (at (codes "format") has_jitter ms.0) _ k ms.2 in
    let j = bind_ok (jitter_in format.0 p ms.0) _ k format.2 in
    let found = bind_ok (at (codes "modules") (modules p) ms.0) _ k j.2 in
    let ok = bind_ok (unless Unknown (all_among ms.0 (keys format.0))) _ k found.2 in
    let e : record { jitter = j.0; modules = found.0 } ≡ k = ok_same (record { jitter = j.0; modules = found.0 }) k ok.2 in
    let m = at_ok (codes "modules") (modules p) ms.0 found.0 found.1 in
    record {
      jittered = format.0;
      members = ms.0;
      value = m.0;
      jitter_is = j.1 ∙ ap (λ (x : Contents). Ok x.jitter) e;
      modules_are = m.1 ∙ ap (λ (x : Contents). Ok x.modules) e;
    }

pub cert_fits : (p : Tables) (rules : MeetsTableRules p) (d : Data) (c : Cert) → cert p d ≡ Ok (contents c) → FitsTables p c
cert_fits p rules d c h =
    let read = cert_ok p d (contents c) h in
    let list = modules_ok p read.value c.modules.items read.modules_are in
    let below = jitter_in_below p rules read.jittered read.members c.jitter read.jitter_is in
    record {
      entries = entries_len p.plants p.modules list.0 c.modules.items list.1;
      closed =
          λ k info cells is_info is_c. of_plant info.plant cells.closed
          (entries_form p.plants p.modules list.0 c.modules.items list.1 k info cells is_info is_c).closed;
      reach =
          λ k info cells is_info is_c. of_plant info.plant cells.reach
          (entries_form p.plants p.modules list.0 c.modules.items list.1 k info cells is_info is_c).reach;
      node_jitter = below.nodes;
      module_jitter = below.infos;
    }
  where
    of_plant : (plant : ℕ) (r : _) → AreCells (width_of p.plants plant) r → AreCellsOf p plant r
    of_plant plant r a = record { width = a.width_is; boxes = a.few; each = a.form }
