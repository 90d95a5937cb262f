-- What happens in an instant happens in one way.
use Rattle.std.proofs.Common.{◌≡◌, ◌∙◌, ◌<◌, ℕ, suc, ℤ, Bool, true, false, inl, inr, ⊎_elim, List, [], ◌∷◌, ◌++◌, Option, None, Ok, Err}
use Rattle.std.proofs.Common.{take, length, replicate, refl, sym, ap, ap₂, subst, arith}
use Rattle.std.specs.Prelude.{MatchResult, slice_index_or, slice_set, ◌≢◌}
use Rattle.std.proofs.lemmas.Bool.{cases_order}
use Rattle.std.proofs.lemmas.List.{length-set, get_or-set_other}
use Rattle.std.proofs.lemmas.Option.{same_Some}
use Rattle.sot_lists.specs.Places.{At}
use Rattle.sot_lists.proofs.Places.{at_same}
use Rattle.sot_lang.specs.declared.act.Act.{Act}
use Rattle.sot_lang.specs.declared.tables.NodeInfo.{NodeInfo}
use Rattle.sot_lang.specs.declared.tables.ModuleInfo.{ModuleInfo}
use Rattle.sot_lang.specs.Tables.{Tables}
use Rattle.sot_lang.specs.TableRules.{IsCoded}
use Rattle.sot_lang.specs.Ranges.{local_ranges, write_ranges}
use Rattle.sot_lang.specs.Bodies as bodies
use Rattle.sot_lang.specs.Readings.{reading}
use Rattle.sot_lang.specs.Values.{Outcome}
use Rattle.sot_code.specs.Recorded.{in_slots}
use Rattle.sot_world.specs.Configurations.{Configuration, is_left, is_left_dm, mode_of, locals_of}
use Rattle.sot_world.specs.Calendar.{NothingLeft}
use Rattle.sot_world.specs.Steps.{Guest, Decide, Fires, is_enabled}
use Rattle.sot_world.specs.Events.{slot_count}
use Rattle.sot_world.specs.Outcomes.{NodeFired, ModuleDecided}
use Rattle.sot_world.specs.declared.outcome.Firing.{Firing}
use Rattle.sot_world.proofs.Unique.{steps_are_unique}
use Rattle.sot_guard.specs.declared.told.Told.{Told}
use Rattle.sot_guard.specs.declared.told.Told.TheVariants.{Decided, Fired}
use Rattle.sot_guard.specs.Changes.{DecidesWhere, FiresCode}
use Rattle.sot_guard.specs.Instants.{AreTold, FiresNode, FiresDraft, DecideInOrder, FireInOrder, AreInOrder}
use Rattle.sot_law_guard_answers.proofs.Parts.{same_configuration}

-- a decision
decides_once : (b : Bool) (p : Tables) (j m : ℕ) (C D E : Configuration) → DecidesWhere b p j m C D → DecidesWhere b p j m C E → D ≡ E
decides_once true p j m C D E s t =
    (steps_are_unique p j C (Decide m) D E (ModuleDecided (mode_of D m)) (ModuleDecided (mode_of E m)) s refl t refl).0
decides_once false p j m C D E s t = s.rest ∙ ap (λ (l : List Bool). record C { left_dm = l }) (s.left_dm ∙ sym t.left_dm) ∙ sym t.rest

-- a firing
fires_same : (p : Tables) (n : ℕ) (node : NodeInfo) (locals : List ℤ) (draft : List (Option ℤ)) (C D E : Configuration) → Fires p n node locals draft C D
    → Fires p n node locals draft C E → D ≡ E
fires_same p n node locals draft C D E f g =
    same_configuration D E (f.time ∙ sym g.time) (f.left ∙ sym g.left) (f.left_dm ∙ sym g.left_dm) (f.modes ∙ sym g.modes) (f.scalars ∙ sym g.scalars)
    (f.locals_set ∙ sym g.locals_set) (f.points ∙ sym g.points)

same_firing : (f g : Firing) → f.draft ≡ g.draft → f.enabled ≡ g.enabled → f ≡ g
same_firing f g d e i = record { draft = d i; enabled = e i }

abbrev EndsSo : Tables → ℕ → Configuration → NodeInfo → Outcome bodies.Fired → Configuration → Firing → Type 0
EndsSo p n C node o D firing = MatchResult o
    (λ fired. Fires p n node fired.locals fired.draft C D × (firing.draft ≡ in_slots fired.draft))
    (λ trap. Fires p n node (locals_of C n) [] C D × (firing.draft ≡ replicate 8 None))

abbrev outcome_of : Tables → ℕ → Configuration → NodeInfo → List Act → Outcome bodies.Fired
outcome_of p n C node acts = bodies.execution acts (local_ranges node) (write_ranges p node) (reading node C.scalars C.points) (locals_of C n)

ends_once : (p : Tables) (n : ℕ) (C D E : Configuration) (node : NodeInfo) (o : Outcome bodies.Fired) (f g : Firing) → EndsSo p n C node o D f
    → EndsSo p n C node o E g → (f.draft ≡ g.draft) × (D ≡ E)
ends_once p n C D E node (Ok fired) f g a b = (a.1 ∙ sym b.1, fires_same p n node fired.locals fired.draft C D E a.0 b.0)
ends_once p n C D E node (Err trap) f g a b = (a.1 ∙ sym b.1, fires_same p n node (locals_of C n) [] C D E a.0 b.0)

coded_once : (p : Tables) (n : ℕ) (C D E : Configuration) (f g : Firing) → FiresCode p n C D f → FiresCode p n C E g → (f ≡ g) × (D ≡ E)
coded_once p n C D E f g s t =
    let node : t.node ≡ s.node = at_same p.nodes n t.node s.node t.is s.is in
    let acts : t.acts ≡ s.acts =
    sym t.coded.2 ∙ ap (λ v. v.items) (same_Some t.coded.0 s.coded.0 (sym t.coded.1 ∙ ap (λ (x : NodeInfo). x.body) node ∙ s.coded.1)) ∙ s.coded.2 in
    let at_node = subst (λ (x : NodeInfo). EndsSo p n C x (outcome_of p n C x t.acts) E g) node t.ends in
    let there = subst (λ (l : List Act). EndsSo p n C s.node (outcome_of p n C s.node l) E g) acts at_node in
    let both = ends_once p n C D E s.node (outcome_of p n C s.node s.acts) f g s.ends there in
    (same_firing f g both.0 (s.enabled ∙ sym t.enabled), both.1)

told_draft : (draft d : List (Option ℤ)) (on enabled : Bool) → NodeFired draft on ≡ NodeFired d enabled → (draft ≡ d) × (on ≡ enabled)
told_draft draft d on enabled e = (cc, cc)

drafted_once : (p : Tables) (n : ℕ) (draft : List (Option ℤ)) (C D E : Configuration) (f g : Firing) → FiresDraft p n draft C D f
    → FiresDraft p n draft C E g → (f ≡ g) × (D ≡ E)
drafted_once p n draft C D E f g s t =
    let own = take (slot_count p n) draft in
    let recorded = NodeFired own (is_enabled p C n) in
    let one = told_draft own s.told.0 (is_enabled p C n) f.enabled s.told.1 in
    let two = told_draft own t.told.0 (is_enabled p C n) g.enabled t.told.1 in
    let drafts = s.told.2 ∙ ap in_slots (sym one.0 ∙ two.0) ∙ sym t.told.2 in
    (same_firing f g drafts (sym one.1 ∙ two.1), (steps_are_unique p 0 C (Guest n own) D E recorded recorded s.step refl t.step refl).0)

coded_external : (p : Tables) (n : ℕ) (x y : NodeInfo) (acts : List Act) → At p.nodes n x → At p.nodes n y → IsCoded x acts → y.body ≡ None → ⊥
coded_external p n x y acts at at' coded none =
    (let e = sym coded.1 ∙ ap (λ (z : NodeInfo). z.body) (at_same p.nodes n x y at at') ∙ none in cc)

fires_once : (b : Bool) (p : Tables) (n : ℕ) (draft : List (Option ℤ)) (C D E : Configuration) (f g : Firing) → FiresNode b p n draft C D f
    → FiresNode b p n draft C E g → (f ≡ g) × (D ≡ E)
fires_once b p n draft C D E f g (inl s) (inl t) = coded_once p n C D E f g s.fires t.fires
fires_once b p n draft C D E f g (inl s) (inr t) =
    absurd (coded_external p n s.fires.node t.step.node s.fires.acts s.fires.is t.step.is s.fires.coded t.step.external)
fires_once b p n draft C D E f g (inr s) (inl t) =
    absurd (coded_external p n t.fires.node s.step.node t.fires.acts t.fires.is s.step.is t.fires.coded s.step.external)
fires_once b p n draft C D E f g (inr s) (inr t) = drafted_once p n draft C D E f g s t

-- what is left behind a decision, and behind a firing
record LeavesDecided (p : Tables) (m : ℕ) (C D : Configuration) : Type 0 where
  pub info : ModuleInfo
  pub is : At p.modules m info
  pub was_left : is_left_dm C m ≡ true
  pub left : D.left ≡ C.left
  pub left_dm : D.left_dm ≡ slice_set C.left_dm m false
  pub modes : length D.modes ≡ length C.modes

decided : (b : Bool) (p : Tables) (j m : ℕ) (C D : Configuration) → DecidesWhere b p j m C D → LeavesDecided p m C D
decided true p j m C D s = record {
  info = s.module_info;
  is = s.is;
  was_left = s.was_left;
  left = ap (λ (x : Configuration). x.left) s.rest;
  left_dm = s.left_dm;
  modes = ap length s.modes ∙ length-set C.modes m (mode_of D m);
}
decided false p j m C D s = record {
  info = s.module_info;
  is = s.is;
  was_left = s.was_left;
  left = ap (λ (x : Configuration). x.left) s.rest;
  left_dm = s.left_dm;
  modes = ap (λ (x : Configuration). length x.modes) s.rest;
}

record LeavesFired (p : Tables) (n : ℕ) (C D : Configuration) : Type 0 where
  pub node : NodeInfo
  pub is : At p.nodes n node
  pub was_left : is_left C n ≡ true
  pub left : D.left ≡ slice_set C.left n false
  pub left_dm : D.left_dm ≡ C.left_dm
  pub modes : D.modes ≡ C.modes

so_fired : (p : Tables) (n : ℕ) (node : NodeInfo) (locals : List ℤ) (draft : List (Option ℤ)) (C D : Configuration) → At p.nodes n node
    → Fires p n node locals draft C D → LeavesFired p n C D
so_fired p n node locals draft C D at f = record { node = node; is = at; was_left = f.was_left; left = f.left; left_dm = f.left_dm; modes = f.modes }

ends_fired : (p : Tables) (n : ℕ) (C D : Configuration) (node : NodeInfo) (o : Outcome bodies.Fired) (f : Firing) → At p.nodes n node
    → EndsSo p n C node o D f → LeavesFired p n C D
ends_fired p n C D node (Ok fired) f at a = so_fired p n node fired.locals fired.draft C D at a.0
ends_fired p n C D node (Err trap) f at a = so_fired p n node (locals_of C n) [] C D at a.0

fired : (b : Bool) (p : Tables) (n : ℕ) (draft : List (Option ℤ)) (C D : Configuration) (f : Firing) → FiresNode b p n draft C D f → LeavesFired p n C D
fired b p n draft C D f (inl s) = ends_fired p n C D s.fires.node (outcome_of p n C s.fires.node s.fires.acts) f s.fires.is s.fires.ends
fired b p n draft C D f (inr s) = so_fired p n s.step.node (locals_of C n) (take (slot_count p n) draft) C D s.step.is s.step.fires

-- a flag is true, stays, and is false
never_left : (x y : Bool) → y ≡ x → x ≡ true → y ≡ false → ⊥
never_left x y same was is = (let e = sym was ∙ sym same ∙ is in cc)

module _ (b : Bool) (p : Tables) (j : ℕ) (drafts : List (List (Option ℤ))) where
  -- a firing leaves every decision
  keeps_decisions : (from end : ℕ) (fs : List Told) (C D : Configuration) → FireInOrder from end fs → AreTold b p j drafts C fs D → (m : ℕ)
      → is_left_dm D m ≡ is_left_dm C m
  keeps_decisions from end [] C D order same m = ap (λ (x : Configuration). is_left_dm x m) same
  keeps_decisions from end (Decided k mode ∷ fs) C D order told m = absurd order
  keeps_decisions from end (Fired k f ∷ fs) C D order (B, one, more) m =
      keeps_decisions (suc k) end fs B D order.1 more m
      ∙ ap (λ (l : List Bool). slice_index_or l m false) (fired b p k (slice_index_or drafts k []) C B f one).left_dm

  -- firings from a place on leave the nodes before it
  keeps_firings : (from end : ℕ) (fs : List Told) (C D : Configuration) → FireInOrder from end fs → AreTold b p j drafts C fs D → (n : ℕ) → n < from
      → is_left D n ≡ is_left C n
  keeps_firings from end [] C D order same n lt = ap (λ (x : Configuration). is_left x n) same
  keeps_firings from end (Decided k mode ∷ fs) C D order told n lt = absurd order
  keeps_firings from end (Fired k f ∷ fs) C D order (B, one, more) n lt =
      let le = order.0 in
      let other : n ≢ k = λ same. absurd (omega (arith, lt, le, same)) in
      keeps_firings (suc k) end fs B D order.1 more n (omega (arith, lt, le))
      ∙ ap (λ (l : List Bool). slice_index_or l n false) (fired b p k (slice_index_or drafts k []) C B f one).left
      ∙ get_or-set_other C.left k n false false other

  -- decisions from a place on leave the modules before it
  keeps_modules : (from end from' end' : ℕ) (es fs : List Told) (C D : Configuration) → DecideInOrder from end es → FireInOrder from' end' fs
      → AreTold b p j drafts C (es ++ fs) D → (m : ℕ) → m < from → is_left_dm D m ≡ is_left_dm C m
  keeps_modules from end from' end' [] fs C D order order' told m lt = keeps_decisions from' end' fs C D order' told m
  keeps_modules from end from' end' (Fired k f ∷ es) fs C D order order' told m lt = absurd order
  keeps_modules from end from' end' (Decided k mode ∷ es) fs C D order order' (B, one, more) m lt =
      let le = order.0 in
      let other : m ≢ k = λ same. absurd (omega (arith, lt, le, same)) in
      keeps_modules (suc k) end from' end' es fs B D order.1 order' more m (omega (arith, lt, le))
      ∙ ap (λ (l : List Bool). slice_index_or l m false) (decided b p j k C B one.0).left_dm
      ∙ get_or-set_other C.left_dm k m false false other

  -- firings after which nothing is left
  firings_once : (from end from' end' : ℕ) (fs gs : List Told) (C D E : Configuration) → FireInOrder from end fs → FireInOrder from' end' gs
      → AreTold b p j drafts C fs D → AreTold b p j drafts C gs E → NothingLeft p D → NothingLeft p E → (fs ≡ gs) × (D ≡ E)
  firings_once from end from' end' [] [] C D E order order' same same' none none' = (refl, same ∙ sym same')
  firings_once from end from' end' (Decided k mode ∷ fs) gs C D E order order' told told' none none' = absurd order
  firings_once from end from' end' fs (Decided k mode ∷ gs) C D E order order' told told' none none' = absurd order'
  firings_once from end from' end' [] (Fired k g ∷ gs) C D E order order' same (B, one, more) none none' =
      let left = fired b p k (slice_index_or drafts k []) C B g one in
      absurd (never_left (is_left C k) (is_left D k) (ap (λ (x : Configuration). is_left x k) same) left.was_left (none.nodes k left.node left.is))
  firings_once from end from' end' (Fired k f ∷ fs) [] C D E order order' (B, one, more) same none none' =
      let left = fired b p k (slice_index_or drafts k []) C B f one in
      absurd (never_left (is_left C k) (is_left E k) (ap (λ (x : Configuration). is_left x k) same) left.was_left (none'.nodes k left.node left.is))
  firings_once from end from' end' (Fired n f ∷ fs) (Fired k g ∷ gs) C D E order order' (A, one, more) (B, two, more') none none' =
      ⊎_elim
      (λ (e : n ≡ k).
      let there = subst (λ (x : ℕ). FiresNode b p x (slice_index_or drafts x []) C B g) (sym e) two in
      let step = fires_once b p n (slice_index_or drafts n []) C A B f g one there in
      let rest = firings_once (suc n) end (suc k) end' fs gs A D E order.1 order'.1 more
      (subst (λ (X : Configuration). AreTold b p j drafts X gs E) (sym step.1) more') none none' in
      (ap₂ (λ (x : Told) (xs : List Told). x ∷ xs) (ap₂ Fired e step.0) rest.0, rest.1))
      (λ other.
      ⊎_elim
      (λ lt.
      let left = fired b p n (slice_index_or drafts n []) C A f one in
      absurd (never_left (is_left C n) (is_left E n)
      (keeps_firings k end' (Fired k g ∷ gs) C E (omega arith, order'.1) (B, two, more') n lt) left.was_left (none'.nodes n left.node left.is)))
      (λ gt.
      let left = fired b p k (slice_index_or drafts k []) C B g two in
      absurd (never_left (is_left C k) (is_left D k)
      (keeps_firings n end (Fired n f ∷ fs) C D (omega arith, order.1) (A, one, more) k gt) left.was_left (none.nodes k left.node left.is)))
      other)
      (cases_order n k)

  -- decisions, and firings behind them
  decisions_once : (from end from' end' to to' : ℕ) (ds es fs gs : List Told) (C D E : Configuration) → DecideInOrder from end ds → DecideInOrder from' end' es
      → FireInOrder 0 to fs → FireInOrder 0 to' gs → AreTold b p j drafts C (ds ++ fs) D → AreTold b p j drafts C (es ++ gs) E → NothingLeft p D
      → NothingLeft p E → (ds ++ fs ≡ es ++ gs) × (D ≡ E)
  decisions_once from end from' end' to to' [] [] fs gs C D E order order' fire fire' told told' none none' =
      firings_once 0 to 0 to' fs gs C D E fire fire' told told' none none'
  decisions_once from end from' end' to to' (Fired k f ∷ ds) es fs gs C D E order order' fire fire' told told' none none' = absurd order
  decisions_once from end from' end' to to' ds (Fired k f ∷ es) fs gs C D E order order' fire fire' told told' none none' = absurd order'
  decisions_once from end from' end' to to' [] (Decided k mode ∷ es) fs gs C D E order order' fire fire' told (B, two, more) none none' =
      let left = decided b p j k C B two.0 in
      absurd (never_left (is_left_dm C k) (is_left_dm D k) (keeps_decisions 0 to fs C D fire told k) left.was_left (none.modules k left.info left.is))
  decisions_once from end from' end' to to' (Decided k mode ∷ ds) [] fs gs C D E order order' fire fire' (A, one, more) told' none none' =
      let left = decided b p j k C A one.0 in
      absurd (never_left (is_left_dm C k) (is_left_dm E k) (keeps_decisions 0 to' gs C E fire' told' k) left.was_left (none'.modules k left.info left.is))
  decisions_once from end from' end' to to' (Decided m mode ∷ ds) (Decided k mode' ∷ es) fs gs C D E order order' fire fire' (A, one, more) (B, two, more')
      none none' =
      ⊎_elim
      (λ (e : m ≡ k).
      let there = subst (λ (x : ℕ). DecidesWhere b p j x C B) (sym e) two.0 in
      let step = decides_once b p j m C A B one.0 there in
      let modes : mode ≡ mode' = one.1 ∙ ap₂ (λ (X : Configuration) (x : ℕ). mode_of X x) step e ∙ sym two.1 in
      let rest = decisions_once (suc m) end (suc k) end' to to' ds es fs gs A D E order.1 order'.1 fire fire' more
      (subst (λ (X : Configuration). AreTold b p j drafts X (es ++ gs) E) (sym step) more') none none' in
      (ap₂ (λ (x : Told) (xs : List Told). x ∷ xs) (ap₂ Decided e modes) rest.0, rest.1))
      (λ other.
      ⊎_elim
      (λ lt.
      let left = decided b p j m C A one.0 in
      absurd (never_left (is_left_dm C m) (is_left_dm E m)
      (keeps_modules k end' 0 to' (Decided k mode' ∷ es) gs C E (omega arith, order'.1) fire' (B, two, more') m lt) left.was_left
      (none'.modules m left.info left.is)))
      (λ gt.
      let left = decided b p j k C B two.0 in
      absurd (never_left (is_left_dm C k) (is_left_dm D k)
      (keeps_modules m end 0 to (Decided m mode ∷ ds) fs C D (omega arith, order.1) fire (A, one, more) k gt) left.was_left
      (none.modules k left.info left.is)))
      other)
      (cases_order m k)

  pub instant_once : (es fs : List Told) (C D E : Configuration) → AreInOrder p es → AreInOrder p fs → AreTold b p j drafts C es D
      → AreTold b p j drafts C fs E → NothingLeft p D → NothingLeft p E → (es ≡ fs) × (D ≡ E)
  instant_once es fs C D E order order' told told' none none' =
      let here = subst (λ (l : List Told). AreTold b p j drafts C l D) order.told_are told in
      let there = subst (λ (l : List Told). AreTold b p j drafts C l E) order'.told_are told' in
      let both = decisions_once 0 (length p.modules) 0 (length p.modules) (length p.nodes) (length p.nodes) order.decisions order'.decisions order.firings
      order'.firings C D E order.decide order'.decide order.fire order'.fire here there none none' in
      (order.told_are ∙ both.0 ∙ sym order'.told_are, both.1)

  -- an instant has as many entries before it as behind
  pub record KeepsLengths (C D : Configuration) : Type 0 where
    pub left : length D.left ≡ length C.left
    pub left_dm : length D.left_dm ≡ length C.left_dm
    pub modes : length D.modes ≡ length C.modes

  keeps_lengths_then : (C B D : Configuration) → KeepsLengths C B → KeepsLengths B D → KeepsLengths C D
  keeps_lengths_then C B D one two = record { left = two.left ∙ one.left; left_dm = two.left_dm ∙ one.left_dm; modes = two.modes ∙ one.modes }

  pub keeps_lengths : (es : List Told) (C D : Configuration) → AreTold b p j drafts C es D → KeepsLengths C D
  keeps_lengths [] C D same = record {
    left = ap (λ (x : Configuration). length x.left) same;
    left_dm = ap (λ (x : Configuration). length x.left_dm) same;
    modes = ap (λ (x : Configuration). length x.modes) same;
  }
  keeps_lengths (Decided m mode ∷ es) C D (B, one, more) =
      let left = decided b p j m C B one.0 in
      keeps_lengths_then C B D (record { left = ap length left.left; left_dm = ap length left.left_dm ∙ length-set C.left_dm m false; modes = left.modes })
      (keeps_lengths es B D more)
  keeps_lengths (Fired n f ∷ es) C D (B, one, more) =
      let left = fired b p n (slice_index_or drafts n []) C B f one in
      keeps_lengths_then C B D
      (record { left = ap length left.left ∙ length-set C.left n false; left_dm = ap length left.left_dm; modes = ap length left.modes })
      (keeps_lengths es B D more)
