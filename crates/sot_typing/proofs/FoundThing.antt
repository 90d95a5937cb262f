-- A name that is found at a place of the declarations has its number among those of its sort.
use Rattle.std.proofs.Common.{◌≡◌, ◌∙◌, ℕ, zero, suc, ◌+◌, ◌<◌, ◌≤◌, List, [], ◌∷◌, length, get_or, take, drop, map, Option, Some, None, Bool, true, false, not}
use Rattle.std.proofs.Common.{cond, refl, sym, ap, subst, arith, fold}
use Rattle.std.specs.Prelude.{filter_map, sum_by, position, slice_get}
use Rattle.std.specs.List.{position_or_len, cons_option}
use Rattle.std.proofs.lemmas.List.{take-append-drop, take_at}
use Rattle.std.proofs.lemmas.List.Elements.{filter_map-append}
use Rattle.std.proofs.lemmas.List.Sums.{sum_by-cons}
use Rattle.std.proofs.lemmas.Option.{slice_get_read, get_or_from_slice_get, same_Some}
use Rattle.std.proofs.lemmas.List.Quantifiers.{position-Some}
use Rattle.sot_lists.specs.Places.{At}
use Rattle.sot_syntax_tree.specs.declared.tree.Ident.{Ident}
use Rattle.sot_syntax_tree.specs.declared.tree.Decl.{Decl}
use Rattle.sot_syntax_tree.specs.TreeViews.{declaration_view}
use Rattle.sot_syntax_tree.specs.Trees.{Topic, Plant, Node, Module, Declaration, a_topic, a_plant, a_node, a_module, Program}
use Rattle.sot_lists.proofs.Places.{at_map}
use Rattle.sot_rules.specs.Names.{meaning}
use Rattle.sot_rules.specs.declared.names.index.Index.{Index}
use Rattle.sot_rules.specs.Indexes.{is_named, program_in}
use Rattle.sot_rules.specs.Lists.{are_same}
use Rattle.sot_typing.specs.declared.names.numbers.Number.{Number}
use Rattle.sot_typing.specs.declared.names.numbers.SlotCounts.{SlotCounts}
use Rattle.sot_typing.specs.Resolved.{a_topic_of, a_plant_of, a_node_of, a_module_of, scalar_count, topic_place, first_scalar}
use Rattle.sot_typing.specs.Numbers.{counted, numbered, numbers_from, nothing_counted, FitLimits, HasRoom, scalars_in}
use Rattle.sot_typing.specs.Meant.{AreNumbers, IsMeant, number_meant}
use Rattle.sot_typing.proofs.Counting.{room, few_left}

-- the number of the declaration at a place comes after those before it
pub numbers_at : (c : SlotCounts) (ds : List Declaration) (k : ℕ) (d : Declaration) → At ds k d → At (numbers_from c ds) k (numbered (fold counted c (take k ds)) d)
numbers_at c [] k d at = cc
numbers_at c (x ∷ ds) zero d at = (let e : x ≡ d = cc in ap (λ z. Some (numbered c z)) e)
numbers_at c (x ∷ ds) (suc k) d at = numbers_at (counted c x) ds k d at

pub room_at : (c : SlotCounts) (ds : List Declaration) (k : ℕ) (d : Declaration) → FitLimits c ds → At ds k d → HasRoom (fold counted c (take k ds)) d
room_at c [] k d few at = cc
room_at c (x ∷ ds) zero d few at = (let e : x ≡ d = cc in subst (HasRoom c) e (room c x ds few))
room_at c (x ∷ ds) (suc k) d few at = room_at (counted c x) ds k d (few_left c x ds few) at

-- what is counted of these declarations
pub record Counted (c d : SlotCounts) (ds : List Declaration) : Type 0 where
  pub topics : d.topics ≡ c.topics + length (filter_map a_topic_of ds)
  pub scalars : d.scalars ≡ c.scalars + sum_by scalar_count (filter_map a_topic_of ds)
  pub plants : d.plants ≡ c.plants + length (filter_map a_plant_of ds)
  pub nodes : d.nodes ≡ c.nodes + length (filter_map a_node_of ds)
  pub modules : d.modules ≡ c.modules + length (filter_map a_module_of ds)

pub counted_all : (c : SlotCounts) (ds : List Declaration) → Counted c (fold counted c ds) ds
counted_all c [] = record { topics = omega arith; scalars = omega arith; plants = omega arith; nodes = omega arith; modules = omega arith }
counted_all c (a_topic t ∷ ds) =
    let more = counted_all (counted c (a_topic t)) ds in
    record {
      topics = omega (arith, more.topics);
      scalars = (let e = sum_by-cons scalar_count t (filter_map a_topic_of ds) in omega (arith, more.scalars));
      plants = more.plants;
      nodes = more.nodes;
      modules = more.modules;
    }
counted_all c (a_plant q ∷ ds) =
    (let more = counted_all (counted c (a_plant q)) ds in record
    { topics = more.topics; scalars = more.scalars; plants = omega (arith, more.plants); nodes = more.nodes; modules = more.modules })
counted_all c (a_node n ∷ ds) =
    (let more = counted_all (counted c (a_node n)) ds in record
    { topics = more.topics; scalars = more.scalars; plants = more.plants; nodes = omega (arith, more.nodes); modules = more.modules })
counted_all c (a_module m ∷ ds) =
    (let more = counted_all (counted c (a_module m)) ds in record
    { topics = more.topics; scalars = more.scalars; plants = more.plants; nodes = more.nodes; modules = omega (arith, more.modules) })

-- the first thing that passes is, among those of its sort, behind those that stand before it
module _ {X Y : Type 0} (pick : X → Option Y) (test : X → Bool) (inner : Y → Bool) (agree : (x : X) (y : Y) → pick x ≡ Some y → test x ≡ inner y) where
  abbrev place_in : List Y → ℕ
  place_in ys = position_or_len inner ys

  passed : (o : Option Y) (ys zs : List Y) → ((y : Y) → o ≡ Some y → inner y ≡ false) → place_in ys ≡ length zs
      → place_in (cons_option o ys) ≡ length (cons_option o zs)
  passed None ys zs no' e = e
  passed (Some y) ys zs no' e = (let n = no' y refl in ap (λ b. cond (not b) (1 + place_in ys) 0) n ∙ omega (arith, e))

  pub place_among : (xs : List X) (k : ℕ) (x : X) (y : Y) → At xs k x → pick x ≡ Some y → test x ≡ true → ((i : ℕ) (z : X) → i < k → At xs i z → test z ≡ false)
      → place_in (filter_map pick xs) ≡ length (filter_map pick (take k xs))
  place_among [] k x y at is yes' no' = cc
  place_among (z ∷ xs) zero x y at is yes' no' =
      let same : z ≡ x = cc in
      let picked : pick z ≡ Some y = ap pick same ∙ is in
      let passes : inner y ≡ true = sym (agree x y is) ∙ yes' in
      ap (λ o. place_in (cons_option o (filter_map pick xs))) picked ∙ ap (λ b. cond (not b) (1 + place_in (filter_map pick xs)) 0) passes
  place_among (z ∷ xs) (suc k) x y at is yes' no' =
      passed (pick z) (filter_map pick xs) (filter_map pick (take k xs))
      (λ w e. sym (agree z w e) ∙ no' 0 z (omega arith) refl)
      (place_among xs k x y at is yes' (λ i w lt a. no' (suc i) w (omega arith) a))

-- those of a sort among the first of a list are the first of that sort
pub take_among : {X Y : Type 0} (pick : X → Option Y) (xs : List X) (k : ℕ)
    → take (length (filter_map pick (take k xs))) (filter_map pick xs) ≡ filter_map pick (take k xs)
take_among pick xs k =
    ap (λ z. take (length (filter_map pick (take k xs))) z)
    (sym (ap (filter_map pick) (take-append-drop k xs)) ∙ filter_map-append pick (take k xs) (drop k xs))
    ∙ take_at (filter_map pick (take k xs)) (filter_map pick (drop k xs)) _ refl

number_same : (a b c d : ℕ) → a ≡ b → c ≡ d → (let n : Number = record { place = a; first = c } in n) ≡ record { place = b; first = d }
number_same a b c d e f = cc

module _ (p : Program) (i : Ident) (k : ℕ) (e : Some k ≡ position (is_named i.name) p.decls) where
  abbrev ds : List Declaration
  ds = p.decls

  abbrev so_far : SlotCounts
  so_far = fold counted nothing_counted (take k ds)

  passes : (d : Declaration) → At ds k d → is_named i.name d ≡ true
  passes d at = ap (is_named i.name) (sym (get_or_from_slice_get ds k d d at)) ∙ (position-Some (is_named i.name) ds k d (sym e)).1

  fails : (j : ℕ) (d : Declaration) → j < k → At ds j d → is_named i.name d ≡ false
  fails j d lt at = ap (is_named i.name) (sym (get_or_from_slice_get ds j d d at)) ∙ (position-Some (is_named i.name) ds k d (sym e)).2 j lt

  topic_agrees : (d : Declaration) (t : Topic) → a_topic_of d ≡ Some t → is_named i.name d ≡ are_same i t.name
  topic_agrees (a_topic u) t s = ap (λ (z : Topic). are_same i z.name) (same_Some u t s)
  topic_agrees (a_plant u) t s = cc
  topic_agrees (a_node u) t s = cc
  topic_agrees (a_module u) t s = cc

  plant_agrees : (d : Declaration) (t : Plant) → a_plant_of d ≡ Some t → is_named i.name d ≡ are_same i t.name
  plant_agrees (a_topic u) t s = cc
  plant_agrees (a_plant u) t s = ap (λ (z : Plant). are_same i z.name) (same_Some u t s)
  plant_agrees (a_node u) t s = cc
  plant_agrees (a_module u) t s = cc

  node_agrees : (d : Declaration) (t : Node) → a_node_of d ≡ Some t → is_named i.name d ≡ are_same i t.name
  node_agrees (a_topic u) t s = cc
  node_agrees (a_plant u) t s = cc
  node_agrees (a_node u) t s = ap (λ (z : Node). are_same i z.name) (same_Some u t s)
  node_agrees (a_module u) t s = cc

  module_agrees : (d : Declaration) (t : Module) → a_module_of d ≡ Some t → is_named i.name d ≡ are_same i t.name
  module_agrees (a_topic u) t s = cc
  module_agrees (a_plant u) t s = cc
  module_agrees (a_node u) t s = cc
  module_agrees (a_module u) t s = ap (λ (z : Module). are_same i z.name) (same_Some u t s)

  -- the number of the first declaration of a name is that of the name
  pub number_found : (d : Declaration) → At ds k d → numbered so_far d ≡ number_meant p i d
  number_found (a_topic t) at =
      let all = counted_all nothing_counted (take k ds) in
      let place = place_among a_topic_of (is_named i.name) (λ t. are_same i t.name) topic_agrees ds k _ t at refl (passes _ at) fails in
      let first : sum_by scalar_count (filter_map a_topic_of (take k ds)) ≡ first_scalar p (topic_place p i) =
      sym (ap (first_scalar p) place ∙ ap (sum_by scalar_count) (take_among a_topic_of ds k)) in
      number_same _ _ _ _ (omega (arith, all.topics, place)) (omega (arith, all.scalars, first))
  number_found (a_plant q) at =
      let all = counted_all nothing_counted (take k ds) in
      let place = place_among a_plant_of (is_named i.name) (λ t. are_same i t.name) plant_agrees ds k _ q at refl (passes _ at) fails in
      number_same _ _ 0 0 (omega (arith, all.plants, place)) refl
  number_found (a_node n) at =
      let all = counted_all nothing_counted (take k ds) in
      let place = place_among a_node_of (is_named i.name) (λ t. are_same i t.name) node_agrees ds k _ n at refl (passes _ at) fails in
      number_same _ _ 0 0 (omega (arith, all.nodes, place)) refl
  number_found (a_module m) at =
      let all = counted_all nothing_counted (take k ds) in
      let place = place_among a_module_of (is_named i.name) (λ t. are_same i t.name) module_agrees ds k _ m at refl (passes _ at) fails in
      number_same _ _ 0 0 (omega (arith, all.modules, place)) refl

-- there are as many numbers as declarations
pub numbers_length : (c : SlotCounts) (ds : List Declaration) → length (numbers_from c ds) ≡ length ds
numbers_length c [] = refl
numbers_length c (d ∷ ds) = ap (λ n. suc n) (numbers_length (counted c d) ds)

-- a declaration of the code, by its place
pub decl_at : (xs : List Decl) (k : ℕ) (x : Decl) → k < length xs → x ≡ get_or xs k x → At (map declaration_view xs) k (declaration_view x)
decl_at xs k x lt e = at_map declaration_view xs k x (slice_get_read xs (length xs) k x refl lt e)

room_is : (c : SlotCounts) (d : Declaration) (n : Number) → n ≡ numbered c d → HasRoom c d → n.first + scalars_in d ≤ 4096
room_is c (a_topic t) n e room = (let f : n.first ≡ c.scalars = ap (λ z. z.first) e in omega (arith, room.scalars, f))
room_is c (a_plant q) n e room = (let f : n.first ≡ 0 = ap (λ z. z.first) e in omega (arith, f))
room_is c (a_node m) n e room = (let f : n.first ≡ 0 = ap (λ z. z.first) e in omega (arith, f))
room_is c (a_module m) n e room = (let f : n.first ≡ 0 = ap (λ z. z.first) e in omega (arith, f))

-- all that is known of a name that is found
pub is_meant : (x : Index) (ns : List Number) (i : Ident) (k : ℕ) (d : Declaration) (n : Number) → AreNumbers x ns
    → Some k ≡ position (is_named i.name) (program_in x).decls → slice_get (program_in x).decls k ≡ meaning (program_in x) i → At (program_in x).decls k d
    → n ≡ get_or ns k n → k < length ns → IsMeant (program_in x) i d n
is_meant x ns i k d n held first meant at read lt =
    let p = program_in x in
    let so_far = fold counted nothing_counted (take k p.decls) in
    let there : At ns k (numbered so_far d) = subst (λ z. At z k (numbered so_far d)) (sym held.are) (numbers_at nothing_counted p.decls k d at) in
    let is : n ≡ numbered so_far d = same_Some n (numbered so_far d) (sym (slice_get_read ns (length ns) k n refl lt read) ∙ there) in
    record {
      meant = sym meant ∙ at;
      number = is ∙ number_found p i k first d at;
      room = room_is so_far d n is (room_at nothing_counted p.decls k d held.few at);
      narrow = λ q e. held.narrow k q (subst (At p.decls k) e at);
    }
