-- How many things a program may declare, and that names tell them apart.
use Rattle.std.proofs.Common.{◌≡◌, ◌∙◌, ℕ, suc, ◌+◌, ◌<◌, ◌≤◌, ◌⊎◌, inl, inr, List, [], ◌∷◌, ◌++◌, map, length, filter_map, refl, sym, ap, subst, Option, Some}
use Rattle.std.proofs.Common.{None, option_map, arith}
use Rattle.std.specs.List.{cons_option}
use Rattle.sot_lists.specs.Places.{At}
use Rattle.sot_text.specs.declared.token.Span.{Span}
use Rattle.sot_syntax_tree.specs.declared.tree.Ident.{Ident}
use Rattle.sot_lang.specs.declared.tables.TopicInfo.{TopicInfo}
use Rattle.sot_lang.specs.declared.tables.PlantInfo.{PlantInfo}
use Rattle.sot_lang.specs.declared.tables.NodeInfo.{NodeInfo}
use Rattle.sot_lang.specs.declared.tables.ModuleInfo.{ModuleInfo}
use Rattle.sot_lang.specs.TableRules.{AreDistinct, declared_names}
use Rattle.sot_lang.specs.Tables.{Tables}
use Rattle.sot_syntax_tree.specs.Trees.{Topic, Plant, Node, Module, Declaration, a_topic, a_plant, a_node, a_module, Program}
use Rattle.sot_rules.specs.declared.fault.TypeKind.TheVariants.{TooMany}
use Rattle.sot_rules.specs.First.{IsFaultless}
use Rattle.sot_rules.specs.Fails.{many_topics, many_nodes, many_modules, many_plants}
use Rattle.sot_rules.specs.Names.{declared_name}
use Rattle.sot_rules.specs.Lists.{IsPast, places}
use Rattle.sot_rules.specs.Tests.{topic_name, plant_name, node_name, module_name, names_of}
use Rattle.sot_typing.specs.Resolved.{a_topic_of, a_plant_of, a_node_of, a_module_of, topics, plants, nodes, modules, PlantTable, NodeTable}
use Rattle.sot_typing.proofs.Lists.{at_mapped, of_append, at_same, of_kept}
use Rattle.sot_typing.proofs.Once.{not_past}
use Rattle.sot_typing.proofs.Declared.{once_kept}
use Rattle.sot_typing.proofs.Meanings.{topic_is, plant_is, node_is, module_is, topic_link, plant_link, node_link, module_link, declared_once}
use Rattle.sot_typing.proofs.Seen.{AreSeen, of_topic, of_plant, of_node, of_module, topic_length, plant_length, node_length, module_length}

-- as many things as names
kept_length : {A X : Type 0} (pick : A → Option X) (name : A → Option Ident) (of : X → Ident) → ((d : A) → name d ≡ option_map of (pick d)) → (ds : List A)
    → length (filter_map name ds) ≡ length (filter_map pick ds)
kept_length pick name of h [] = refl
kept_length {X = X} pick name of h (d ∷ ds) = by (pick d) (h d) (kept_length pick name of h ds)
  where
    by : (o : Option X) → name d ≡ option_map of o → length (filter_map name ds) ≡ length (filter_map pick ds)
        → length (cons_option (name d) (filter_map name ds)) ≡ length (cons_option o (filter_map pick ds))
    by None e r = ap (λ x. length (cons_option x (filter_map name ds))) e ∙ r
    by (Some x) e r = ap (λ x. length (cons_option x (filter_map name ds))) e ∙ ap suc r

-- at most as many things as names
pub within : {X : Type 0} (pick : Declaration → Option X) (name : Declaration → Option Ident) (of : X → Ident)
    → ((d : Declaration) → name d ≡ option_map of (pick d)) → (p : Program) (limit : ℕ) → ((at : Span) → IsPast limit (places (names_of name p)) at → ⊥)
    → length (filter_map pick p.decls) ≤ limit
within pick name of h p limit none =
    let a = not_past limit (λ (i : Ident). i.at) (filter_map name p.decls) none in
    let b = kept_length pick name of h p.decls in
    omega arith

pub topic_names : (d : Declaration) → topic_name d ≡ option_map (λ (t : Topic). t.name) (a_topic_of d)
topic_names (a_topic t) = refl
topic_names (a_plant q) = refl
topic_names (a_node n) = refl
topic_names (a_module m) = refl

pub plant_names : (d : Declaration) → plant_name d ≡ option_map (λ (q : Plant). q.name) (a_plant_of d)
plant_names (a_topic t) = refl
plant_names (a_plant q) = refl
plant_names (a_node n) = refl
plant_names (a_module m) = refl

pub node_names : (d : Declaration) → node_name d ≡ option_map (λ (n : Node). n.name) (a_node_of d)
node_names (a_topic t) = refl
node_names (a_plant q) = refl
node_names (a_node n) = refl
node_names (a_module m) = refl

pub module_names : (d : Declaration) → module_name d ≡ option_map (λ (m : Module). m.name) (a_module_of d)
module_names (a_topic t) = refl
module_names (a_plant q) = refl
module_names (a_node n) = refl
module_names (a_module m) = refl

-- names of declarations of one rank, or of ranks up to one
abbrev rank : Declaration → ℕ
rank (a_topic t) = 0
rank (a_plant q) = 1
rank (a_node n) = 2
rank (a_module m) = 3

abbrev NamedBy : Program → (ℕ → Type 0) → List (List ℕ) → Type 0
NamedBy p R names = (k : ℕ) (name : List ℕ) → At names k name → (j : ℕ) × (d : Declaration) × At p.decls j d × ((declared_name d).name ≡ name) × R (rank d)

-- lists of names of different ranks
both_distinct : (p : Program) → IsFaultless p → (n : ℕ) (xs ys : List (List ℕ)) → AreDistinct xs → AreDistinct ys → NamedBy p (λ r. r < n) xs
    → NamedBy p (λ r. r ≡ n) ys → AreDistinct (xs ++ ys)
both_distinct p f n xs ys dx dy x y i j name a b = by (of_append xs ys i name a) (of_append xs ys j name b)
  where
    never : (i j : ℕ) → At xs i name → At ys j name → ⊥
    never i j a b =
        let u = x i name a in
        let v = y j name b in
        let e = declared_once p f u.0 v.0 u.1 v.1 u.2 v.2 (u.3 ∙ sym v.3) in
        let q : u.1 ≡ v.1 = at_same p.decls v.0 u.1 v.1 (subst (λ k. At p.decls k u.1) e u.2) v.2 in
        let r : rank u.1 ≡ rank v.1 = ap rank q in
        let l = u.4 in
        let m = v.4 in
        absurd (omega arith)

    by : At xs i name ⊎ ((k : ℕ) × At ys k name × (i ≡ length xs + k)) → At xs j name ⊎ ((k : ℕ) × At ys k name × (j ≡ length xs + k)) → i ≡ j
    by (inl u) (inl v) = dx i j name u v
    by (inl u) (inr v) = absurd (never i v.0 u v.1)
    by (inr u) (inl v) = absurd (never j u.0 v u.1)
    by (inr u) (inr v) = u.2 ∙ ap (λ k. length xs + k) (dy u.0 v.0 name u.1 v.1) ∙ sym v.2

both_named : (p : Program) (n : ℕ) (xs ys : List (List ℕ)) → NamedBy p (λ r. r < n) xs → NamedBy p (λ r. r ≡ n) ys → NamedBy p (λ r. r < suc n) (xs ++ ys)
both_named p n xs ys x y k name a = by (of_append xs ys k name a)
  where
    by : At xs k name ⊎ ((j : ℕ) × At ys j name × (k ≡ length xs + j))
        → (j : ℕ) × (d : Declaration) × At p.decls j d × ((declared_name d).name ≡ name) × (rank d < suc n)
    by (inl u) = (let r = x k name u in (r.0, r.1, r.2, r.3, (let l = r.4 in omega arith)))
    by (inr u) = (let r = y u.0 name u.1 in (r.0, r.1, r.2, r.3, (let l = r.4 in omega arith)))

-- the names of one sort
module _ {X I : Type 0} (p : Program) (f : IsFaultless p) (pick : Declaration → Option X) (of : X → Ident)
    (link : (d : Declaration) (x : X) → pick d ≡ Some x → declared_name d ≡ of x) (infos : List I) (shown : I → List ℕ)
    (from : (k : ℕ) (i : I) → At infos k i → (x : X) × At (filter_map pick p.decls) k x × ((of x).name ≡ shown i)) where
  one_distinct : AreDistinct (map shown infos)
  one_distinct i j name a b =
      let u = at_mapped shown infos i name a in
      let v = at_mapped shown infos j name b in
      let x = from i u.0 u.1 in
      let y = from j v.0 v.1 in
      once_kept pick declared_name of link p.decls (declared_once p f) i j x.0 y.0 x.1 y.1 (x.2 ∙ u.2 ∙ sym v.2 ∙ sym y.2)

  one_named : (n : ℕ) → ((d : Declaration) (x : X) → pick d ≡ Some x → rank d ≡ n) → NamedBy p (λ r. r ≡ n) (map shown infos)
  one_named n h k name a =
      let u = at_mapped shown infos k name a in
      let x = from k u.0 u.1 in
      let r = of_kept pick p.decls k x.0 x.1 in
      (r.0, r.1, r.2, ap (λ (i : Ident). i.name) (link r.1 x.0 r.3) ∙ x.2 ∙ u.2, h r.1 x.0 r.3)

first_named : (p : Program) (xs : List (List ℕ)) → NamedBy p (λ r. r ≡ 0) xs → NamedBy p (λ r. r < 1) xs
first_named p xs x k name a = (let r = x k name a in (r.0, r.1, r.2, r.3, (let l = r.4 in omega arith)))

topic_rank : (d : Declaration) (t : Topic) → a_topic_of d ≡ Some t → rank d ≡ 0
topic_rank d t e = ap rank (topic_is d t e)

plant_rank : (d : Declaration) (q : Plant) → a_plant_of d ≡ Some q → rank d ≡ 1
plant_rank d q e = ap rank (plant_is d q e)

node_rank : (d : Declaration) (n : Node) → a_node_of d ≡ Some n → rank d ≡ 2
node_rank d n e = ap rank (node_is d n e)

module_rank : (d : Declaration) (m : Module) → a_module_of d ≡ Some m → rank d ≡ 3
module_rank d m e = ap rank (module_is d m e)

module _ (p : Program) (t : Tables) (s : AreSeen p t) (f : IsFaultless p) where
  pub few_topics : length t.topics ≤ 512
  few_topics =
      subst (λ n. n ≤ 512) (sym (topic_length p t s)) (within a_topic_of topic_name (λ (t : Topic). t.name) topic_names p 512
      (λ at h. f at TooMany (many_topics h)))

  pub few_plants : length t.plants ≤ 100
  few_plants =
      subst (λ n. n ≤ 100) (sym (plant_length p t s)) (within a_plant_of plant_name (λ (q : Plant). q.name) plant_names p 100
      (λ at h. f at TooMany (many_plants h)))

  pub few_nodes : length t.nodes ≤ 300
  few_nodes =
      subst (λ n. n ≤ 300) (sym (node_length p t s)) (within a_node_of node_name (λ (n : Node). n.name) node_names p 300 (λ at h. f at TooMany (many_nodes h)))

  pub few_modules : length t.modules ≤ 100
  few_modules =
      subst (λ n. n ≤ 100) (sym (module_length p t s)) (within a_module_of module_name (λ (m : Module). m.name) module_names p 100
      (λ at h. f at TooMany (many_modules h)))

  from_topic : (k : ℕ) (i : TopicInfo) → At t.topics k i → (x : Topic) × At (topics p) k x × (x.name.name ≡ i.name)
  from_topic k i a = (let r = of_topic p t s k i a in (r.0, r.1, ap (λ (y : TopicInfo). y.name) r.2))

  from_plant : (k : ℕ) (i : PlantInfo) → At t.plants k i → (x : Plant) × At (plants p) k x × (x.name.name ≡ i.name)
  from_plant k i a = (let r = of_plant p t s k i a in (r.0, r.1, sym (ap (λ (y : PlantTable). y.name) r.2)))

  from_node : (k : ℕ) (i : NodeInfo) → At t.nodes k i → (x : Node) × At (nodes p) k x × (x.name.name ≡ i.name)
  from_node k i a = (let r = of_node p t s k i a in (r.0, r.1, sym (ap (λ (y : NodeTable). y.name) r.2)))

  from_module : (k : ℕ) (i : ModuleInfo) → At t.modules k i → (x : Module) × At (modules p) k x × (x.name.name ≡ i.name)
  from_module k i a = (let r = of_module p t s k i a in (r.0, r.1, ap (λ (y : ModuleInfo). y.name) r.2))

  pub distinct : AreDistinct (declared_names t)
  distinct =
      let a = map (λ (i : TopicInfo). i.name) t.topics in
      let b = map (λ (i : PlantInfo). i.name) t.plants in
      let c = map (λ (i : NodeInfo). i.name) t.nodes in
      let d = map (λ (i : ModuleInfo). i.name) t.modules in
      let an = first_named p a (one_named p f a_topic_of (λ (t : Topic). t.name) topic_link t.topics (λ (i : TopicInfo). i.name) from_topic 0 topic_rank) in
      let bn = one_named p f a_plant_of (λ (q : Plant). q.name) plant_link t.plants (λ (i : PlantInfo). i.name) from_plant 1 plant_rank in
      let cn = one_named p f a_node_of (λ (n : Node). n.name) node_link t.nodes (λ (i : NodeInfo). i.name) from_node 2 node_rank in
      let dn = one_named p f a_module_of (λ (m : Module). m.name) module_link t.modules (λ (i : ModuleInfo). i.name) from_module 3 module_rank in
      let abn = both_named p 1 a b an bn in
      both_distinct p f 3 ((a ++ b) ++ c) d
      (both_distinct p f 2 (a ++ b) c
      (both_distinct p f 1 a b
      (one_distinct p f a_topic_of (λ (t : Topic). t.name) topic_link t.topics (λ (i : TopicInfo). i.name) from_topic)
      (one_distinct p f a_plant_of (λ (q : Plant). q.name) plant_link t.plants (λ (i : PlantInfo). i.name) from_plant) an bn)
      (one_distinct p f a_node_of (λ (n : Node). n.name) node_link t.nodes (λ (i : NodeInfo). i.name) from_node) abn cn)
      (one_distinct p f a_module_of (λ (m : Module). m.name) module_link t.modules (λ (i : ModuleInfo). i.name) from_module)
      (both_named p 2 (a ++ b) c abn cn) dn
