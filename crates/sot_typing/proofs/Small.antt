-- In a program without faults an owner has at most 80 numbers, and each of them has at most 6 decimals.
use Rattle.std.proofs.Common.{◌≡◌, ℕ, zero, suc, nat_eq, ◌+◌, ◌*◌, ◌≤◌, List, [], ◌∷◌, ◌++◌, length, get_or, map, find, cond, ◌<◌, ◌⊎◌, append-nil, filter_map}
use Rattle.std.proofs.Common.{flat_map, sum_by, nat_abs, Bool, true, false, not, ◌||◌, ◌&&◌, Option, Some, None, inl, inr, refl, sym, ap, subst, ◌∙◌, arith}
use Rattle.std.proofs.Common.{length-append}
use Rattle.std.specs.Prelude.{nat_lt, nat_le, if◌then◌else◌, slice_get, slice_index_or}
use Rattle.std.specs.List.{cons_option}
use Rattle.std.specs.Str.{bytes_eq}
use Rattle.std.specs.Option.{option_to_list}
use Rattle.std.proofs.lemmas.Bool.{ltb-false, le-leb}
use Rattle.std.proofs.lemmas.List.{length-map}
use Rattle.std.proofs.lemmas.List.Sums.{sum_by-cons}
use Rattle.std.proofs.lemmas.Option.{slice_get_cases}
use Rattle.std.proofs.lemmas.Grind.{flat_map-append}
use Rattle.sot_text.specs.declared.token.Span.{Span}
use Rattle.sot_syntax_tree.specs.declared.tree.Ident.{Ident}
use Rattle.sot_syntax_tree.specs.declared.tree.Lit.{Lit}
use Rattle.sot_syntax_tree.specs.declared.tree.Field.{Field}
use Rattle.sot_syntax_tree.specs.declared.tree.Scalar.{Scalar}
use Rattle.sot_syntax_tree.specs.declared.tree.Scalar.TheVariants.{Int, Fix, Bool as BoolScalar}
use Rattle.sot_syntax_tree.specs.declared.tree.StateDecl.{StateDecl}
use Rattle.sot_syntax_tree.specs.Trees.{Form, one, fields, Topic, Plant, Local, Node, Declaration, a_topic, a_plant, a_node, a_module, Program}
use Rattle.sot_rules.specs.declared.fault.TypeFault.{TypeFault}
use Rattle.sot_rules.specs.declared.expressions.sort.Sort.{Sort}
use Rattle.sot_rules.specs.declared.expressions.sort.Sort.TheVariants.{Scaled, Anything}
use Rattle.sot_rules.specs.Sorts.{scale_sort, scalar_sort, written_scale, state_sort}
use Rattle.sot_rules.specs.Names.{declared_name, state_scope, Part, Parts, alone, several, Thing, field_part, state_part, form_parts, topic_thing, plant_thing}
use Rattle.sot_rules.specs.Names.{local_thing, state_thing, noise_thing, topic_meant, plant_meant, either_meant, meaning, part_reading, parts_reading}
use Rattle.sot_rules.specs.Names.{thing_reading, reading, reading_sort, node_scope, plant_scope}
use Rattle.sot_rules.specs.TreeSorts.{is_no_scale}
use Rattle.sot_rules.specs.Tests.{form_scalars, topic_size, read_size, state_names, noise_names, local_names}
use Rattle.sot_rules.specs.declared.fault.TypeKind.TheVariants.{TooMany}
use Rattle.sot_rules.specs.Lists.{places}
use Rattle.sot_rules.specs.First.{IsFaultless}
use Rattle.sot_syntax_tree.specs.Formed.{Each, IfThere}
use Rattle.sot_rules.specs.Faults.{when, together, one_past, past, passes, scalar_faults, scale_faults, topic_lists, plant_lists, local_lists, noise_lists}
use Rattle.sot_rules.specs.Faults.{node_lists, declaration_faults, program_lists, faults}
use Rattle.sot_rules.proofs.Members.{In, in_has}
use Rattle.sot_rules.proofs.FirstFault.{listed}
use Rattle.sot_typing.specs.Terms.{parts_references, references, sort_scale}
use Rattle.sot_typing.specs.Things.{AreFew}
use Rattle.sot_typing.specs.Bodies.{IsSmall}
use Rattle.sot_typing.proofs.Faultless.{nil_left, nil_right, when_not}

-- lists of faults that are empty
pub no_faults : (p : Program) → IsFaultless p → faults p ≡ []
no_faults p f = by (faults p) refl
  where
    by : (xs : List TypeFault) → faults p ≡ xs → faults p ≡ []
    by [] q = q
    by (x ∷ xs) q = absurd (f x.at x.kind (listed p x (in_has x (faults p) (subst (λ z. In x z) (sym q) (inl refl)))))

pub nth_empty : (lists : List (List TypeFault)) (k : ℕ) → together lists ≡ [] → slice_index_or lists k [] ≡ []
nth_empty [] k h = refl
nth_empty (xs ∷ more) zero h = nil_left xs (together more) h
nth_empty (xs ∷ more) (suc k) h = nth_empty more k (nil_right xs (together more) h)

pub each_empty : {A : Type 0} (g : A → List TypeFault) (xs : List A) → flat_map g xs ≡ [] → Each (λ x. g x ≡ []) xs
each_empty g [] h = tt
each_empty g (x ∷ xs) h = (nil_left (g x) (flat_map g xs) h, each_empty g xs (nil_right (g x) (flat_map g xs) h))

-- facts of each item
pub each_map : {A B : Type 0} {P : A → Type 0} (Q : B → Type 0) (g : A → B) → ((x : A) → P x → Q (g x)) → (xs : List A) → Each P xs → Each Q (map g xs)
each_map Q g f [] h = tt
each_map Q g f (x ∷ xs) h = (f x h.0, each_map Q g f xs h.1)

each_mapped : {A : Type 0} (P Q : A → Type 0) → ((x : A) → P x → Q x) → (xs : List A) → Each P xs → Each Q xs
each_mapped P Q f [] h = tt
each_mapped P Q f (x ∷ xs) h = (f x h.0, each_mapped P Q f xs h.1)

each_append : {A : Type 0} (P : A → Type 0) (xs ys : List A) → Each P xs → Each P ys → Each P (xs ++ ys)
each_append P [] ys h k = k
each_append P (x ∷ xs) ys h k = (h.0, each_append P xs ys h.1 k)

each_filter : {A B : Type 0} (P : B → Type 0) (h : A → Option B) → ((x : A) → IfThere P (h x)) → (xs : List A) → Each P (filter_map h xs)
each_filter P h f [] = tt
each_filter {A} {B} P h f (x ∷ xs) = by (h x) (f x) (each_filter P h f xs)
  where
    by : (o : Option B) → IfThere P o → Each P (filter_map h xs) → Each P (cons_option o (filter_map h xs))
    by None p rest = rest
    by (Some y) p rest = (p, rest)

each_found : {A : Type 0} (P : A → Type 0) (q : A → Bool) (xs : List A) → Each P xs → IfThere P (find q xs)
each_found P q [] h = tt
each_found {A} P q (x ∷ xs) h = by (q x) (find q xs) (each_found P q xs h.1)
  where
    by : (b : Bool) (o : Option A) → IfThere P o → IfThere P (cond b (Some x) o)
    by true o rest = h.0
    by false o rest = rest

-- counts of decimals
abbrev FewDecimals : Sort → Type 0
FewDecimals s = sort_scale s ≤ 6

scale_few : (d : Lit) → is_no_scale d ≡ false → FewDecimals (scale_sort d)
scale_few d h = by (nat_eq d.scale 0) (nat_abs d.mantissa) h
  where
    by : (b : Bool) (m : ℕ) → (not b || nat_lt 6 m) ≡ false → FewDecimals (if b then Scaled m else Anything)
    by true m h = ltb-false 6 m h
    by false m h = omega arith

scalar_few : (limited : Bool) (s : Scalar) → scalar_faults limited s ≡ [] → FewDecimals (scalar_sort s)
scalar_few limited (Int b) h = omega arith
scalar_few limited (Fix d b) h = scale_few d (when_not (is_no_scale d) d.at _ (nil_left _ _ h))
scalar_few limited (BoolScalar at) h = omega arith

state_few : (s : StateDecl) → scale_faults s.scale ≡ [] → FewDecimals (state_sort s)
state_few s h = by s.scale h
  where
    by : (o : Option Lit) → scale_faults o ≡ [] → FewDecimals (written_scale o)
    by None h = omega arith
    by (Some d) h = scale_few d (when_not (is_no_scale d) d.at _ h)

abbrev PartsFit : Parts → Type 0
PartsFit (alone s) = FewDecimals s
PartsFit (several parts) = Each (λ x. FewDecimals x.sort) parts

abbrev ThingFits : Thing → Type 0
ThingFits x = PartsFit x.parts

reading_few : (things : List Thing) → Each ThingFits things → (first : Ident) (field : Option Ident) → FewDecimals (reading_sort (reading things first field))
reading_few things h first field =
    thing (find (λ (x : Thing). bytes_eq first.name x.name) things) (each_found ThingFits (λ (x : Thing). bytes_eq first.name x.name) things h)
  where
    part : (f : Ident) (o : Option Part) → IfThere (λ (x : Part). FewDecimals x.sort) o → FewDecimals (reading_sort (part_reading f o))
    part f None h = omega arith
    part f (Some x) h = h

    parts : (first : Ident) (field : Option Ident) (p : Parts) → PartsFit p → FewDecimals (reading_sort (parts_reading first field p))
    parts first None (alone s) h = h
    parts first (Some f) (alone s) h = omega arith
    parts first None (several ps) h = omega arith
    parts first (Some f) (several ps) h =
        part f (find (λ (x : Part). bytes_eq f.name x.name) ps) (each_found (λ (x : Part). FewDecimals x.sort) (λ (x : Part). bytes_eq f.name x.name) ps h)

    thing : (o : Option Thing) → IfThere ThingFits o → FewDecimals (reading_sort (thing_reading first field o))
    thing None h = omega arith
    thing (Some x) h = parts first field x.parts h

fields_few : (fs : List Field) → flat_map (scalar_faults true) (map (λ (x : Field). x.scalar) fs) ≡ []
    → Each (λ (x : Part). FewDecimals x.sort) (map field_part fs)
fields_few [] e = tt
fields_few (x ∷ fs) e = (scalar_few true x.scalar (nil_left (scalar_faults true x.scalar) _ e), fields_few fs (nil_right (scalar_faults true x.scalar) _ e))

form_few : (s : Form) → flat_map (scalar_faults true) (form_scalars s) ≡ [] → PartsFit (form_parts s)
form_few (one s) e = scalar_few true s (nil_left (scalar_faults true s) [] e)
form_few (fields fs) e = fields_few fs e

topic_few : (t : Topic) → together (topic_lists t) ≡ [] → ThingFits (topic_thing t)
topic_few t h = form_few t.shape (nth_empty (topic_lists t) 2 h)

states_few : (p : Program) (q : Plant) → together (plant_lists p q) ≡ [] → Each (λ (s : StateDecl). FewDecimals (state_sort s)) q.states
states_few p q h = by q.states (nth_empty (plant_lists p q) 3 h)
  where
    by : (states : List StateDecl) → flat_map (λ (s : StateDecl). scale_faults s.scale) states ≡ []
        → Each (λ (s : StateDecl). FewDecimals (state_sort s)) states
    by states e =
        each_mapped (λ (s : StateDecl). scale_faults s.scale ≡ []) (λ (s : StateDecl). FewDecimals (state_sort s)) state_few states
        (each_empty (λ (s : StateDecl). scale_faults s.scale) states e)

plant_few : (p : Program) (q : Plant) → together (plant_lists p q) ≡ [] → ThingFits (plant_thing q)
plant_few p q h = each_map (λ (x : Part). FewDecimals x.sort) state_part (λ s k. k) q.states (states_few p q h)

-- counts of numbers
length_both : (xs ys : List Thing) → length (references (xs ++ ys)) ≡ length (references xs) + length (references ys)
length_both xs ys = ap length (flat_map-append (λ (x : Thing). parts_references x.name x.parts) xs ys) ∙ length-append (references xs) (references ys)

ones : {A : Type 0} (g : A → Thing) → ((x : A) → length (references (g x ∷ [])) ≡ 1) → (xs : List A) → length (references (map g xs)) ≡ length xs
ones g h [] = refl
ones g h (x ∷ xs) = (let a = length_both (g x ∷ []) (map g xs) in let b = ones g h xs in let c = h x in omega arith)

weigh : (h : Ident → Option Thing) (size : Ident → ℕ) → ((i : Ident) → length (references (option_to_list (h i))) ≤ size i) → (names : List Ident)
    → length (references (filter_map h names)) ≤ sum_by size names
weigh h size k [] = omega arith
weigh h size k (i ∷ names) = by (h i) (k i) (weigh h size k names)
  where
    by : (o : Option Thing) → length (references (option_to_list o)) ≤ size i → length (references (filter_map h names)) ≤ sum_by size names
        → length (references (cons_option o (filter_map h names))) ≤ sum_by size (i ∷ names)
    by None a b = (let e = sum_by-cons size i names in omega arith)
    by (Some x) a b = (let e = sum_by-cons size i names in let c = length_both (x ∷ []) (filter_map h names) in omega arith)

sum_same : (n : ℕ) (names : List Ident) → sum_by (λ i. n) names ≡ n * length names
sum_same n [] = omega arith
sum_same n (i ∷ names) =
    (let r = sum_same n names in let e = sum_by-cons (λ (j : Ident). n) i names in let m : n * length (i ∷ names) ≡ n + n * length names = omega arith in
    omega arith)

-- the limits that no list passes
past_few : (limit : ℕ) (items : List Span) → past limit items ≡ [] → length items ≤ limit
past_few limit items h = by (slice_get_cases items limit).1
  where
    by : ((x : Span) × (limit < length items) × (slice_get items limit ≡ Some x) × (get_or items limit x ≡ x))
        ⊎ ((length items ≤ limit) × (slice_get items limit ≡ None)) → length items ≤ limit
    by (inl r) = (let e : one_past (slice_get items limit) ≡ one_past (Some r.0) = ap one_past r.2 in let k = sym e ∙ h in cc)
    by (inr r) = r.0

passes_few : (size : Ident → ℕ) (limit sum : ℕ) (names : List Ident) → passes size limit sum names ≡ [] → sum ≤ limit → sum + sum_by size names ≤ limit
passes_few size limit sum [] h le = omega arith
passes_few size limit sum (i ∷ names) h le =
    let test = when_not (nat_le sum limit && nat_lt limit (sum + size i)) i.at _ (nil_left _ _ h) in
    let within : sum + size i ≤ limit = ltb-false limit (sum + size i) (sym (ap (λ b. b && nat_lt limit (sum + size i)) (le-leb sum limit le)) ∙ test) in
    let rest = passes_few size limit (sum + size i) names (nil_right (when (nat_le sum limit && nat_lt limit (sum + size i)) i.at TooMany) _ h) within in
    let all = sum_by-cons size i names in
    omega arith

length_states : (q : Plant) → length (references (plant_thing q ∷ [])) ≡ length q.states
length_states q =
    ap length (append-nil (parts_references q.name.name (several (map state_part q.states)))) ∙ length-map (map state_part q.states) _
    ∙ length-map q.states state_part

length_form : (name : List ℕ) (s : Form) → length (parts_references name (form_parts s)) ≡ length (form_scalars s)
length_form name (one s) = refl
length_form name (fields fs) = length-map (map field_part fs) _ ∙ length-map fs field_part ∙ sym (length-map fs (λ (x : Field). x.scalar))

length_topic : (t : Topic) → length (references (topic_thing t ∷ [])) ≡ length (form_scalars t.shape)
length_topic t = ap length (append-nil (parts_references t.name.name (form_parts t.shape))) ∙ length_form t.name.name t.shape

topic_weight : (d : Option Declaration) → length (references (option_to_list (topic_meant d))) ≤ topic_size d
topic_weight None = omega arith
topic_weight (Some (a_topic t)) = omega (arith, length_topic t)
topic_weight (Some (a_plant q)) = omega arith
topic_weight (Some (a_node n)) = omega arith
topic_weight (Some (a_module m)) = omega arith

read_weight : (d : Option Declaration) → length (references (option_to_list (either_meant d))) ≤ read_size d
read_weight None = omega arith
read_weight (Some (a_topic t)) = omega (arith, length_topic t)
read_weight (Some (a_plant q)) = omega (arith, length_states q)
read_weight (Some (a_node n)) = omega arith
read_weight (Some (a_module m)) = omega arith

few_states : (p : Program) (q : Plant) → together (plant_lists p q) ≡ [] → length q.states ≤ 4
few_states p q h =
    let k = past_few 4 (places (state_names q)) (nth_empty (plant_lists p q) 2 h) in
    omega (arith, length-map (state_names q) (λ (i : Ident). i.at), length-map q.states (λ (s : StateDecl). s.name))

-- what the names of a faultless program stand for
module _ (p : Program) (f : faults p ≡ []) where
  declared : (i : Ident) → IfThere (λ d. declaration_faults p d ≡ []) (meaning p i)
  declared i =
      each_found (λ d. declaration_faults p d ≡ []) (λ d. bytes_eq i.name (declared_name d).name) p.decls
      (each_empty (declaration_faults p) p.decls (nth_empty (program_lists p) 5 (unfold faults in f)))

  topic_fits : (d : Option Declaration) → IfThere (λ d. declaration_faults p d ≡ []) d → IfThere ThingFits (topic_meant d)
  topic_fits None h = tt
  topic_fits (Some (a_topic t)) h = topic_few t h
  topic_fits (Some (a_plant q)) h = tt
  topic_fits (Some (a_node n)) h = tt
  topic_fits (Some (a_module m)) h = tt

  plant_fits : (d : Option Declaration) → IfThere (λ d. declaration_faults p d ≡ []) d → IfThere ThingFits (plant_meant d)
  plant_fits None h = tt
  plant_fits (Some (a_topic t)) h = tt
  plant_fits (Some (a_plant q)) h = plant_few p q h
  plant_fits (Some (a_node n)) h = tt
  plant_fits (Some (a_module m)) h = tt

  either_fits : (d : Option Declaration) → IfThere (λ d. declaration_faults p d ≡ []) d → IfThere ThingFits (either_meant d)
  either_fits None h = tt
  either_fits (Some (a_topic t)) h = topic_few t h
  either_fits (Some (a_plant q)) h = plant_few p q h
  either_fits (Some (a_node n)) h = tt
  either_fits (Some (a_module m)) h = tt

  plant_weight : (d : Option Declaration) → IfThere (λ d. declaration_faults p d ≡ []) d → length (references (option_to_list (plant_meant d))) ≤ 4
  plant_weight None h = omega arith
  plant_weight (Some (a_topic t)) h = omega arith
  plant_weight (Some (a_plant q)) h = omega (arith, length_states q, few_states p q h)
  plant_weight (Some (a_node n)) h = omega arith
  plant_weight (Some (a_module m)) h = omega arith

  -- the locals of a node
  module _ (n : Node) (h : together (node_lists p n) ≡ []) where
    locals_fit : Each ThingFits (map local_thing n.locals)
    locals_fit =
        each_map ThingFits local_thing (λ l e. scalar_few false l.scalar (nth_empty (local_lists n l) 1 e)) n.locals
        (each_empty (λ l. together (local_lists n l)) n.locals (nth_empty (node_lists p n) 7 h))

    few_locals : length (references (map local_thing n.locals)) ≤ 16
    few_locals =
        let k = past_few 16 (places (local_names n)) (nth_empty (node_lists p n) 9 h) in
        omega (arith, ones local_thing (λ l. refl) n.locals, length-map (local_names n) (λ (i : Ident). i.at), length-map n.locals (λ (l : Local). l.name))

    pub node_small : IsSmall (node_scope p n)
    node_small = record {
      read = record {
        count =
            let reads = weigh (λ i. either_meant (meaning p i)) (λ i. read_size (meaning p i)) (λ i. read_weight (meaning p i)) n.reads in
            let sum = passes_few (λ i. read_size (meaning p i)) 64 0 n.reads (nth_empty (node_lists p n) 3 h) (omega arith) in
            let both = length_both (filter_map (λ i. either_meant (meaning p i)) n.reads) (map local_thing n.locals) in
            omega (arith, few_locals);
        decimals =
            reading_few (node_scope p n).read (each_append ThingFits (filter_map (λ i. either_meant (meaning p i)) n.reads) (map local_thing n.locals)
            (each_filter ThingFits (λ i. either_meant (meaning p i)) (λ i. either_fits (meaning p i) (declared i)) n.reads) locals_fit);
      };
      local = record { count = omega (arith, few_locals); decimals = reading_few (map local_thing n.locals) locals_fit };
      written = record {
        count =
            let writes = weigh (λ i. topic_meant (meaning p i)) (λ i. topic_size (meaning p i)) (λ i. topic_weight (meaning p i)) n.writes in
            let sum = passes_few (λ i. topic_size (meaning p i)) 8 0 n.writes (nth_empty (node_lists p n) 6 h) (omega arith) in
            omega arith;
        decimals =
            reading_few (node_scope p n).written (each_filter ThingFits (λ i. topic_meant (meaning p i)) (λ i. topic_fits (meaning p i) (declared i)) n.writes);
      };
    }

  -- the names of a plant
  module _ (q : Plant) (h : together (plant_lists p q) ≡ []) where
    inputs : List Thing
    inputs = filter_map (λ i. topic_meant (meaning p i)) q.inputs

    sees : List Thing
    sees = filter_map (λ i. plant_meant (meaning p i)) q.sees

    noise_fits : Each ThingFits (map noise_thing q.noise)
    noise_fits =
        each_map ThingFits noise_thing (λ d e. scalar_few true d.scalar (nth_empty (noise_lists q d) 2 e)) q.noise
        (each_empty (λ d. together (noise_lists q d)) q.noise (nth_empty (plant_lists p q) 10 h))

    pub plant_small : AreFew (plant_scope p q)
    unfolding inputs sees
    plant_small = record {
      count =
          let states = ones state_thing (λ s. refl) q.states in
          let in_sum = weigh (λ i. topic_meant (meaning p i)) (λ i. topic_size (meaning p i)) (λ i. topic_weight (meaning p i)) q.inputs in
          let in_few = passes_few (λ i. topic_size (meaning p i)) 8 0 q.inputs (nth_empty (plant_lists p q) 6 h) (omega arith) in
          let see_sum = weigh (λ i. plant_meant (meaning p i)) (λ i. 4) (λ i. plant_weight (meaning p i) (declared i)) q.sees in
          let see_all = sum_same 4 q.sees in
          let see_few = past_few 16 (places q.sees) (nth_empty (plant_lists p q) 9 h) in
          let see_length = length-map q.sees (λ (i : Ident). i.at) in
          let noise = ones noise_thing (λ d. refl) q.noise in
          let noise_few = past_few 4 (places (noise_names q)) (nth_empty (plant_lists p q) 12 h) in
          let noise_length = length-map (noise_names q) (λ (i : Ident). i.at) in
          let noise_names_length = length-map q.noise (λ (d : Field). d.name) in
          let a = length_both (state_scope q ++ inputs ++ sees) (map noise_thing q.noise) in
          let b = length_both (state_scope q ++ inputs) sees in
          let c = length_both (state_scope q) inputs in
          omega (arith, few_states p q h);
      decimals =
          reading_few (plant_scope p q) (each_append ThingFits (state_scope q ++ inputs ++ sees) (map noise_thing q.noise)
          (each_append ThingFits (state_scope q ++ inputs) sees
          (each_append ThingFits (state_scope q) inputs (each_map ThingFits state_thing (λ s k. k) q.states (states_few p q h))
          (each_filter ThingFits (λ i. topic_meant (meaning p i)) (λ i. topic_fits (meaning p i) (declared i)) q.inputs))
          (each_filter ThingFits (λ i. plant_meant (meaning p i)) (λ i. plant_fits (meaning p i) (declared i)) q.sees)) noise_fits);
    }
