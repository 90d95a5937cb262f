-- An instant, one event more, and both of its halves.
use Rattle.std.proofs.Common.{◌≡◌, ℕ, suc, ◌+◌, ◌≤◌, ℤ, Bool, true, false, inl, inr, ⊎_elim, List, [], ◌∷◌, ◌++◌, Option, None, Ok, Err, length}
use Rattle.std.proofs.Common.{refl, sym, ap, ◌∙◌, subst, arith, replicate, append_assoc, append-nil}
use Rattle.std.specs.Prelude.{slice_index_or, slice_set, MatchResult}
use Rattle.std.proofs.lemmas.Bool.{cases_eq}
use Rattle.std.proofs.lemmas.Option.{slice_get_within}
use Rattle.sot_lang.specs.declared.tables.NodeInfo.{NodeInfo}
use Rattle.sot_lang.specs.Tables.{Tables}
use Rattle.sot_lang.specs.Values.{Outcome}
use Rattle.sot_lang.specs.Bodies as bodies
use Rattle.sot_code.specs.Recorded.{in_slots}
use Rattle.sot_tube.specs.Admitted.{Admitted}
use Rattle.sot_world.specs.declared.mode.Mode.{Mode}
use Rattle.sot_world.specs.declared.outcome.Firing.{Firing}
use Rattle.sot_world.specs.Configurations.{Configuration, is_left_dm, is_left, locals_of, mode_of}
use Rattle.sot_world.specs.Steps.{Fires}
use Rattle.sot_world.specs.Calendar.{NothingLeft}
use Rattle.sot_world.proofs.Modes.{left_same, left_none}
use Rattle.sot_guard.specs.declared.told.Told.{Told}
use Rattle.sot_guard.specs.declared.told.Told.TheVariants.{Decided, Fired}
use Rattle.sot_guard.specs.Guarding.{Guarding}
use Rattle.sot_guard.specs.Changes.{DecidesWhere, FiresCode}
use Rattle.sot_guard.specs.Instants.{FiresNode, Happens, AreTold, DecideInOrder, FireInOrder, AreInOrder}
use Rattle.sot_guard.specs.InstantParts.{NoneLeft, HasDecided, HasFired}

-- one more is no longer left
none_set : (left : List Bool) (k : ℕ) → NoneLeft left k → NoneLeft (slice_set left k false) (k + 1)
none_set left k none i lt =
    ⊎_elim
    (λ same. subst (λ n. slice_index_or (slice_set left k false) n false ≡ false) (sym same) (left_none left k))
    (λ other. left_same left k i other ∙ none i (omega (arith, lt, other)))
    (cases_eq i k)

none_more : (left : List Bool) (k : ℕ) → NoneLeft left k → slice_index_or left k false ≡ false → NoneLeft left (k + 1)
none_more left k none here i lt =
    ⊎_elim
    (λ same. subst (λ n. slice_index_or left n false ≡ false) (sym same) here)
    (λ other. none i (omega (arith, lt, other)))
    (cases_eq i k)

-- the end may be a later one
decide_later : (from end end' : ℕ) (es : List Told) → end ≤ end' → DecideInOrder from end es → DecideInOrder from end' es
decide_later from end end' [] le are = omega (arith, le, are)
decide_later from end end' (Decided m mode ∷ es) le are = (are.0, decide_later (suc m) end end' es le are.1)
decide_later from end end' (Fired n firing ∷ es) le are = absurd are

decide_one : (from m : ℕ) (mode : Mode) (es : List Told) → DecideInOrder from m es → DecideInOrder from (m + 1) (es ++ Decided m mode ∷ [])
decide_one from m mode [] are = (are, omega arith)
decide_one from m mode (Decided k other ∷ es) are = (are.0, decide_one (suc k) m mode es are.1)
decide_one from m mode (Fired n firing ∷ es) are = absurd are

fire_later : (from end end' : ℕ) (es : List Told) → end ≤ end' → FireInOrder from end es → FireInOrder from end' es
fire_later from end end' [] le are = omega (arith, le, are)
fire_later from end end' (Fired n firing ∷ es) le are = (are.0, fire_later (suc n) end end' es le are.1)
fire_later from end end' (Decided m mode ∷ es) le are = absurd are

fire_one : (from n : ℕ) (firing : Firing) (es : List Told) → FireInOrder from n es → FireInOrder from (n + 1) (es ++ Fired n firing ∷ [])
fire_one from n firing [] are = (are, omega arith)
fire_one from n firing (Fired k other ∷ es) are = (are.0, fire_one (suc k) n firing es are.1)
fire_one from n firing (Decided m mode ∷ es) are = absurd are

module _ (t : Bool) (p : Tables) (j : ℕ) (drafts : List (List (Option ℤ))) where
  told_one : (C B D : Configuration) (es : List Told) (e : Told) → AreTold t p j drafts C es B → Happens t p j drafts B e D
      → AreTold t p j drafts C (es ++ e ∷ []) D
  told_one C B D [] e same h = (D, subst (λ X. Happens t p j drafts X e D) same h, refl)
  told_one C B D (x ∷ es) e told h = (told.0, told.1, told_one told.0 B D es e told.2 h)

  told_both : (C B D : Configuration) (es fs : List Told) → AreTold t p j drafts C es B → AreTold t p j drafts B fs D
      → AreTold t p j drafts C (es ++ fs) D
  told_both C B D [] fs same more = subst (λ X. AreTold t p j drafts X fs D) same more
  told_both C B D (x ∷ es) fs told more = (told.0, told.1, told_both told.0 B D es fs told.2 more)

-- what a firing leaves, and what it does not change
pub record Leaves (n : ℕ) (C D : Configuration) : Type 0 where
  pub left : D.left ≡ slice_set C.left n false
  pub left_dm : D.left_dm ≡ C.left_dm
  pub time : D.time ≡ C.time
  pub points : D.points ≡ C.points

fires_leaves : (p : Tables) (n : ℕ) (node : NodeInfo) (locals : List ℤ) (draft : List (Option ℤ)) (C D : Configuration) → Fires p n node locals draft C D
    → Leaves n C D
fires_leaves p n node locals draft C D f = record { left = f.left; left_dm = f.left_dm; time = f.time; points = f.points }

ends_leaves : (p : Tables) (n : ℕ) (node : NodeInfo) (C D : Configuration) (firing : Firing) (o : Outcome bodies.Fired)
    → MatchResult o (λ fired. Fires p n node fired.locals fired.draft C D × (firing.draft ≡ in_slots fired.draft))
    (λ trap. Fires p n node (locals_of C n) [] C D × (firing.draft ≡ replicate 8 None)) → Leaves n C D
ends_leaves p n node C D firing (Ok f) m = fires_leaves p n node f.locals f.draft C D m.0
ends_leaves p n node C D firing (Err u) m = fires_leaves p n node (locals_of C n) [] C D m.0

pub code_leaves : (p : Tables) (n : ℕ) (C D : Configuration) (firing : Firing) → FiresCode p n C D firing → Leaves n C D
code_leaves p n C D firing f = ends_leaves p n f.node C D firing _ f.ends

pub node_leaves : (t : Bool) (p : Tables) (n : ℕ) (draft : List (Option ℤ)) (C D : Configuration) (firing : Firing) → FiresNode t p n draft C D firing
    → Leaves n C D
node_leaves t p n draft C D firing (inl f) = code_leaves p n C D firing f.fires
node_leaves t p n draft C D firing (inr f) = fires_leaves p n f.step.node (locals_of C n) _ C D f.step.fires

decides_left : (t : Bool) (p : Tables) (j m : ℕ) (C D : Configuration) → DecidesWhere t p j m C D → D.left_dm ≡ slice_set C.left_dm m false
decides_left true p j m C D d = d.left_dm
decides_left false p j m C D d = d.left_dm

-- neither the time nor a point is changed
decides_stays : (t : Bool) (p : Tables) (j m : ℕ) (C D : Configuration) → DecidesWhere t p j m C D → (D.time ≡ C.time) × (D.points ≡ C.points)
decides_stays true p j m C D d = (ap (λ x. x.time) d.rest, ap (λ x. x.points) d.rest)
decides_stays false p j m C D d = (ap (λ x. x.time) d.rest, ap (λ x. x.points) d.rest)

happens_stays : (t : Bool) (p : Tables) (j : ℕ) (drafts : List (List (Option ℤ))) (C D : Configuration) (e : Told) → Happens t p j drafts C e D
    → (D.time ≡ C.time) × (D.points ≡ C.points)
happens_stays t p j drafts C D (Decided m mode) h = decides_stays t p j m C D h.0
happens_stays t p j drafts C D (Fired n firing) h =
    let l = node_leaves t p n (slice_index_or drafts n []) C D firing h in
    (l.time, l.points)

pub told_stays : (t : Bool) (p : Tables) (j : ℕ) (drafts : List (List (Option ℤ))) (C D : Configuration) (es : List Told) → AreTold t p j drafts C es D
    → (D.time ≡ C.time) × (D.points ≡ C.points)
told_stays t p j drafts C D [] same = (ap (λ x. x.time) same, ap (λ x. x.points) same)
told_stays t p j drafts C D (e ∷ es) told =
    let first = happens_stays t p j drafts C told.0 e told.1 in
    let rest = told_stays t p j drafts told.0 D es told.2 in
    (rest.0 ∙ first.0, rest.1 ∙ first.1)

module _ (s b u : Guarding) (old mid new : List Told) (same : b.accepted ≡ s.accepted) (trust : b.trusted ≡ s.trusted) where
  decides_here : (m : ℕ) → DecidesWhere b.trusted b.accepted.program b.accepted.cert.jitter m b.at u.at
      → DecidesWhere s.trusted s.accepted.program s.accepted.cert.jitter m b.at u.at
  decides_here m d = subst (λ (a : Admitted). DecidesWhere s.trusted a.program a.cert.jitter m b.at u.at) same
      (subst (λ t. DecidesWhere t b.accepted.program b.accepted.cert.jitter m b.at u.at) trust d)

  -- one module more has decided
  pub decided_more : (m : ℕ) (mode : Mode) → HasDecided s b old mid m → DecidesWhere b.trusted b.accepted.program b.accepted.cert.jitter m b.at u.at
      → mode ≡ mode_of u.at m → new ≡ mid ++ Decided m mode ∷ [] → HasDecided s u old new (m + 1)
  decided_more m mode h d is added = record {
    more = h.more ++ Decided m mode ∷ [];
    tells = λ drafts. record {
      told = added ∙ ap (λ l. l ++ Decided m mode ∷ []) (h.tells drafts).told ∙ append_assoc old h.more (Decided m mode ∷ []);
      happened = told_one s.trusted s.accepted.program s.accepted.cert.jitter drafts s.at b.at u.at h.more (Decided m mode) (h.tells drafts).happened
          (decides_here m d, is);
    };
    order = decide_one 0 m mode h.more h.order;
    none =
        subst (λ l. NoneLeft l (m + 1)) (sym (decides_left b.trusted b.accepted.program b.accepted.cert.jitter m b.at u.at d)) (none_set b.at.left_dm m h.none);
  }

  fires_here : (n : ℕ) (draft : List (Option ℤ)) (firing : Firing) → FiresNode b.trusted b.accepted.program n draft b.at u.at firing
      → FiresNode s.trusted s.accepted.program n draft b.at u.at firing
  fires_here n draft firing f = subst (λ (a : Admitted). FiresNode s.trusted a.program n draft b.at u.at firing) same
      (subst (λ t. FiresNode t b.accepted.program n draft b.at u.at firing) trust f)

  -- one node more has fired
  pub fired_more : (drafts : List (List (Option ℤ))) (n : ℕ) (draft : List (Option ℤ)) (firing : Firing) → HasFired s b drafts old mid n
      → FiresNode b.trusted b.accepted.program n draft b.at u.at firing → draft ≡ slice_index_or drafts n [] → new ≡ mid ++ Fired n firing ∷ []
      → HasFired s u drafts old new (n + 1)
  fired_more drafts n draft firing h f is added =
      let l = node_leaves b.trusted b.accepted.program n draft b.at u.at firing f in
      record {
        more = h.more ++ Fired n firing ∷ [];
        tells = record {
          told = added ∙ ap (λ l. l ++ Fired n firing ∷ []) h.tells.told ∙ append_assoc old h.more (Fired n firing ∷ []);
          happened = told_one s.trusted s.accepted.program s.accepted.cert.jitter drafts s.at b.at u.at h.more (Fired n firing) h.tells.happened
              (subst (λ d. FiresNode s.trusted s.accepted.program n d b.at u.at firing) is (fires_here n draft firing f));
        };
        order = fire_one 0 n firing h.more h.order;
        none = subst (λ x. NoneLeft x (n + 1)) (sym l.left) (none_set b.at.left n h.none);
        left_dm = l.left_dm ∙ h.left_dm;
      }

-- none has so far
pub none_decided : (s : Guarding) (old : List Told) → HasDecided s s old old 0
none_decided s old = record {
  more = [];
  tells = λ drafts. record { told = sym (append-nil old); happened = refl };
  order = omega arith;
  none = λ i lt. absurd (omega (arith, lt));
}

pub none_fired : (s : Guarding) (drafts : List (List (Option ℤ))) (old : List Told) → HasFired s s drafts old old 0
none_fired s drafts old = record {
  more = [];
  tells = record { told = sym (append-nil old); happened = refl };
  order = omega arith;
  none = λ i lt. absurd (omega (arith, lt));
  left_dm = refl;
}

-- the same state and the same list, by other names
pub decided_along : (s b b' : Guarding) (old mid mid' : List Told) (end : ℕ) → b' ≡ b → mid' ≡ mid → HasDecided s b old mid end → HasDecided s b' old mid' end
decided_along s b b' old mid mid' end e is h =
    subst (λ l. HasDecided s b' old l end) (sym is) (subst (λ (g : Guarding). HasDecided s g old mid end) (sym e) h)

pub fired_along : (s b b' : Guarding) (drafts : List (List (Option ℤ))) (old mid mid' : List Told) (end : ℕ) → b' ≡ b → mid' ≡ mid
    → HasFired s b drafts old mid end → HasFired s b' drafts old mid' end
fired_along s b b' drafts old mid mid' end e is h =
    subst (λ l. HasFired s b' drafts old l end) (sym is) (subst (λ (g : Guarding). HasFired s g drafts old mid end) (sym e) h)

-- one was not left
pub decided_none : (s b : Guarding) (old mid : List Told) (m : ℕ) → HasDecided s b old mid m → is_left_dm b.at m ≡ false → HasDecided s b old mid (m + 1)
decided_none s b old mid m h here = record {
  more = h.more;
  tells = h.tells;
  order = decide_later 0 m (m + 1) h.more (omega arith) h.order;
  none = none_more b.at.left_dm m h.none here;
}

pub fired_none : (s b : Guarding) (drafts : List (List (Option ℤ))) (old mid : List Told) (n : ℕ) → HasFired s b drafts old mid n → is_left b.at n ≡ false
    → HasFired s b drafts old mid (n + 1)
fired_none s b drafts old mid n h here = record {
  more = h.more;
  tells = h.tells;
  order = fire_later 0 n (n + 1) h.more (omega arith) h.order;
  none = none_more b.at.left n h.none here;
  left_dm = h.left_dm;
}

-- both halves
module _ (s b u : Guarding) (drafts : List (List (Option ℤ))) (empty mid new : List Told) (none : empty ≡ []) (same : b.accepted ≡ s.accepted)
    (trust : b.trusted ≡ s.trusted) (d : HasDecided s b empty mid (length s.accepted.program.modules))
    (f : HasFired b u drafts mid new (length b.accepted.program.nodes)) where
  told_are : new ≡ d.more ++ f.more
  told_are = f.tells.told ∙ ap (λ l. l ++ f.more) ((d.tells drafts).told ∙ ap (λ l. l ++ d.more) none)

  pub instant_told : AreTold s.trusted s.accepted.program s.accepted.cert.jitter drafts s.at new u.at
  instant_told =
      let later = subst (λ (a : Admitted). AreTold s.trusted a.program a.cert.jitter drafts b.at f.more u.at) same
      (subst (λ t. AreTold t b.accepted.program b.accepted.cert.jitter drafts b.at f.more u.at) trust f.tells.happened) in
      subst (λ l. AreTold s.trusted s.accepted.program s.accepted.cert.jitter drafts s.at l u.at) (sym told_are)
      (told_both s.trusted s.accepted.program s.accepted.cert.jitter drafts s.at b.at u.at d.more f.more (d.tells drafts).happened later)

  pub instant_order : AreInOrder s.accepted.program new
  instant_order = record {
    decisions = d.more;
    firings = f.more;
    told_are = told_are;
    decide = d.order;
    fire = subst (λ (a : Admitted). FireInOrder 0 (length a.program.nodes) f.more) same f.order;
  }

  pub instant_settled : NothingLeft s.accepted.program u.at
  instant_settled = record {
    nodes = λ n node at. (let lt = slice_get_within s.accepted.program.nodes n node at in
        f.none n (omega (arith, lt, ap (λ (a : Admitted). length a.program.nodes) same)));
    modules = λ m a at. (let lt = slice_get_within s.accepted.program.modules m a at in
        subst (λ l. slice_index_or l m false ≡ false) (sym f.left_dm) (d.none m lt));
  }
