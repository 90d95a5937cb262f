-- Where a tick leads, and where the loss of trust does.
use Rattle.std.proofs.Common.{◌≡◌, ◌∙◌, ℕ, suc, ℤ, Bool, true, false, inl, inr, ⊎_elim, List, Option, None, Some, refl, sym, ap, subst}
use Rattle.std.specs.Prelude.{slice_index_or, ◌↔◌, ◌⊎◌, MatchOption}
use Rattle.sot_calendar.specs.Due.{IsDue}
use Rattle.sot_lang.specs.declared.tables.NodeInfo.{NodeInfo}
use Rattle.sot_lang.specs.declared.tables.ModuleInfo.{ModuleInfo}
use Rattle.sot_lang.specs.Tables.{Tables}
use Rattle.sot_tube.specs.Admitted.{Admitted}
use Rattle.sot_world.specs.declared.mode.Mode.TheVariants.{Sc}
use Rattle.sot_world.specs.Configurations.{Configuration, is_left, is_left_dm, mode_of}
use Rattle.sot_guard.specs.declared.outside.Outside.{Outside}
use Rattle.sot_guard.specs.Guarding.{Guarding}
use Rattle.sot_guard.specs.Changes.{MovesTo, IsSafeNode, AsksSafeNodes, GoesOn, Withdraws}
use Rattle.sot_guard.specs.Hearing.{FallsBack}
use Rattle.sot_law_guard_answers.proofs.Parts.{IsLong, Lands, lands_once, lands_moved, same_modes, same_guarding}

-- what is left after a tick
abbrev pub LeftBehind : Configuration → ℕ → NodeInfo → Type 0
LeftBehind C n node = (is_left C n ≡ true) ⊎ IsDue node.period node.offset (suc C.time)

abbrev pub LeftDmBehind : Configuration → ℕ → ModuleInfo → Type 0
LeftDmBehind C m a = (is_left_dm C m ≡ true) ⊎ IsDue a.period a.offset (suc C.time)

abbrev pub LandsBehind : Tables → Configuration → List (List ℤ) → Configuration → Type 0
LandsBehind p C next D = Lands p (suc C.time) (LeftBehind C) (LeftDmBehind C) C.scalars C.locals next D

pub moved : (p : Tables) (next : List (List ℤ)) (C D : Configuration) → MovesTo p next C D → LandsBehind p C next D
moved p next C D m = record {
  time_is = m.time;
  left = λ n node at. subst (λ (t : ℕ). (is_left D n ≡ true) ↔ ((is_left C n ≡ true) ⊎ IsDue node.period node.offset t)) m.time (m.left n node at);
  left_dm = λ k a at. subst (λ (t : ℕ). (is_left_dm D k ≡ true) ↔ ((is_left_dm C k ≡ true) ⊎ IsDue a.period a.offset t)) m.time (m.left_dm k a at);
  scalars_are = m.scalars;
  locals_are = m.locals;
  points_are = m.points;
}

-- the safe nodes are left too
abbrev pub OrSafe : Tables → (ℕ → NodeInfo → Type 0) → ℕ → NodeInfo → Type 0
OrSafe p Left n node = Left n node ⊎ IsSafeNode p.modules n

module _ (p : Tables) (time : ℕ) (Left : ℕ → NodeInfo → Type 0) (LeftDm : ℕ → ModuleInfo → Type 0) (scalars : List ℤ) (locals points : List (List ℤ)) where
  abbrev Comes : Configuration → Type 0
  Comes D = Lands p time Left LeftDm scalars locals points D

  abbrev ComesAsked : Configuration → Type 0
  ComesAsked D = Lands p time (OrSafe p Left) LeftDm scalars locals points D

  asked : (old new : Guarding) → old.accepted.program ≡ p → AsksSafeNodes old new → Comes old.at → ComesAsked new.at
  asked old new same asks l = record {
    time_is = ap (λ (x : Guarding). x.at.time) asks.rest ∙ l.time_is;
    left = λ n node at.
        let here = subst (λ (q : Tables). (is_left new.at n ≡ true) ↔ ((is_left old.at n ≡ true) ⊎ IsSafeNode q.modules n)) same (asks.left n) in
        let was = l.left n node at in (
          λ on. ⊎_elim (λ x. inl (was.0 x)) (λ y. inr y) (here.0 on),
          λ either. here.1 (⊎_elim (λ x. inl (was.1 x)) (λ y. inr y) either),
        );
    left_dm = λ m a at.
        subst (λ (ls : List Bool). (slice_index_or ls m false ≡ true) ↔ LeftDm m a) (sym (ap (λ (x : Guarding). x.at.left_dm) asks.rest)) (l.left_dm m a at);
    scalars_are = ap (λ (x : Guarding). x.at.scalars) asks.rest ∙ l.scalars_are;
    locals_are = ap (λ (x : Guarding). x.at.locals) asks.rest ∙ l.locals_are;
    points_are = ap (λ (x : Guarding). x.at.points) asks.rest ∙ l.points_are;
  }

  -- two guards that trust no more, all of whose modules are in mode Sc
  sc_once : (g k : Guarding) → g.accepted ≡ k.accepted → g.trusted ≡ false → k.trusted ≡ false → ((m : ℕ) → mode_of g.at m ≡ Sc)
      → ((m : ℕ) → mode_of k.at m ≡ Sc) → ComesAsked g.at → ComesAsked k.at → IsLong p g.at → IsLong p k.at → g ≡ k
  sc_once g k accepted off off' sc sc' l l' many many' =
      same_guarding g k accepted (off ∙ sym off')
      (lands_once p time (OrSafe p Left) LeftDm scalars locals points g.at k.at l l' many many' (same_modes g.at.modes k.at.modes
      (many.modes ∙ sym many'.modes) sc sc'))

  -- the plants are told to be outside, and the safe nodes are asked
  pub asked_once : (old old' g k : Guarding) → old.accepted.program ≡ p → old'.accepted.program ≡ p → g.accepted ≡ k.accepted → old.trusted ≡ false
      → old'.trusted ≡ false → ((m : ℕ) → mode_of old.at m ≡ Sc) → ((m : ℕ) → mode_of old'.at m ≡ Sc) → AsksSafeNodes old g → AsksSafeNodes old' k
      → Comes old.at → Comes old'.at → IsLong p g.at → IsLong p k.at → g ≡ k
  asked_once old old' g k own own' accepted off off' sc sc' asks asks' l l' many many' =
      sc_once g k accepted (ap (λ (x : Guarding). x.trusted) asks.rest ∙ off) (ap (λ (x : Guarding). x.trusted) asks'.rest ∙ off')
      (λ m. ap (λ (x : Guarding). slice_index_or x.at.modes m Sc) asks.rest ∙ sc m)
      (λ m. ap (λ (x : Guarding). slice_index_or x.at.modes m Sc) asks'.rest ∙ sc' m) (asked old g own asks l) (asked old' k own' asks' l') many many'

  -- the trust is lost
  pub falls_once : (old old' g k : Guarding) → old.accepted.program ≡ p → old'.accepted.program ≡ p → g.accepted ≡ k.accepted → FallsBack old g
      → FallsBack old' k → Comes old.at → Comes old'.at → IsLong p g.at → IsLong p k.at → g ≡ k
  falls_once old old' g k own own' accepted falls falls' l l' many many' =
      let between : Comes falls.between.at =
      lands_moved p time Left LeftDm scalars locals points old.at falls.between.at l falls.distrusts.rest in
      let between' : Comes falls'.between.at =
      lands_moved p time Left LeftDm scalars locals points old'.at falls'.between.at l' falls'.distrusts.rest in
      asked_once falls.between falls'.between g k (ap (λ (x : Admitted). x.program) falls.distrusts.accepted ∙ own)
      (ap (λ (x : Admitted). x.program) falls'.distrusts.accepted ∙ own') accepted falls.distrusts.is falls'.distrusts.is falls.distrusts.modes
      falls'.distrusts.modes falls.asks falls'.asks between between' many many'

-- what a guard has accepted stays
pub asks_accepted : (old new : Guarding) → AsksSafeNodes old new → new.accepted ≡ old.accepted
asks_accepted old new asks = ap (λ (x : Guarding). x.accepted) asks.rest

pub falls_accepted : (old new : Guarding) → FallsBack old new → new.accepted ≡ old.accepted
falls_accepted old new falls = asks_accepted falls.between new falls.asks ∙ falls.distrusts.accepted

-- a configuration is where it is
pub stays : (p : Tables) (C : Configuration) → Lands p C.time (λ n node. is_left C n ≡ true) (λ m a. is_left_dm C m ≡ true) C.scalars C.locals C.points C
stays p C = record {
  time_is = refl;
  left = λ n node at. (λ x. x, λ x. x);
  left_dm = λ m a at. (λ x. x, λ x. x);
  scalars_are = refl;
  locals_are = refl;
  points_are = refl;
}

-- a tick after which this plant, or none, is told to be outside
module _ (g m m' k k' : Guarding) (points : List (List ℤ)) (moves : MovesTo g.accepted.program points g.at m.at)
    (moves' : MovesTo g.accepted.program points g.at m'.at) (kept : k.accepted ≡ g.accepted) (kept' : k'.accepted ≡ g.accepted)
    (many : IsLong g.accepted.program k.at) (many' : IsLong g.accepted.program k'.at) where
  pub tick_once : (o : Option Outside) → MatchOption o (GoesOn g m) (λ x. Withdraws g m points x) → MatchOption o (GoesOn g m') (λ x. Withdraws g m' points x)
      → MatchOption o (k ≡ m) (λ x. AsksSafeNodes m k) → MatchOption o (k' ≡ m') (λ x. AsksSafeNodes m' k') → k ≡ k'
  tick_once None on on' is is' =
      let p = g.accepted.program in
      let here = subst (λ (x : Guarding). LandsBehind p g.at points x.at) (sym is) (moved p points g.at m.at moves) in
      let there = subst (λ (x : Guarding). LandsBehind p g.at points x.at) (sym is') (moved p points g.at m'.at moves') in
      let modes = ap (λ (x : Guarding). x.at.modes) is ∙ on.modes ∙ sym (ap (λ (x : Guarding). x.at.modes) is' ∙ on'.modes) in
      let trusted = ap (λ (x : Guarding). x.trusted) is ∙ on.trusted ∙ sym (ap (λ (x : Guarding). x.trusted) is' ∙ on'.trusted) in
      same_guarding k k' (kept ∙ sym kept') trusted
      (lands_once p (suc g.at.time) (LeftBehind g.at) (LeftDmBehind g.at) g.at.scalars g.at.locals points k.at k'.at here there many many' modes)
  tick_once (Some o) off off' asks asks' =
      let p = g.accepted.program in
      let own = ap (λ (x : Admitted). x.program) (sym (asks_accepted m k asks) ∙ kept) in
      let own' = ap (λ (x : Admitted). x.program) (sym (asks_accepted m' k' asks') ∙ kept') in
      asked_once p (suc g.at.time) (LeftBehind g.at) (LeftDmBehind g.at) g.at.scalars g.at.locals points m m' k k' own own' (kept ∙ sym kept') off.is off'.is
      off.modes off'.modes asks asks' (moved p points g.at m.at moves) (moved p points g.at m'.at moves') many many'

-- a tick that passes unseen
pub unseen_once : (g m m' k k' : Guarding) (points : List (List ℤ)) → MovesTo g.accepted.program points g.at m.at
    → MovesTo g.accepted.program points g.at m'.at → k.accepted ≡ g.accepted → k'.accepted ≡ g.accepted → IsLong g.accepted.program k.at
    → IsLong g.accepted.program k'.at → FallsBack m k → FallsBack m' k' → k ≡ k'
unseen_once g m m' k k' points moves moves' kept kept' many many' falls falls' =
    let p = g.accepted.program in
    let own = ap (λ (x : Admitted). x.program) (sym (falls_accepted m k falls) ∙ kept) in
    let own' = ap (λ (x : Admitted). x.program) (sym (falls_accepted m' k' falls') ∙ kept') in
    falls_once p (suc g.at.time) (LeftBehind g.at) (LeftDmBehind g.at) g.at.scalars g.at.locals points m m' k k' own own' (kept ∙ sym kept') falls falls'
    (moved p points g.at m.at moves) (moved p points g.at m'.at moves') many many'

-- trust that is lost in an instant
pub withdrawn_once : (g k k' : Guarding) → FallsBack g k → FallsBack g k' → IsLong g.accepted.program k.at → IsLong g.accepted.program k'.at → k ≡ k'
withdrawn_once g k k' falls falls' many many' =
    let p = g.accepted.program in
    falls_once p g.at.time (λ n node. is_left g.at n ≡ true) (λ m a. is_left_dm g.at m ≡ true) g.at.scalars g.at.locals g.at.points g g k k' refl refl
    (falls_accepted g k falls ∙ sym (falls_accepted g k' falls')) falls falls' (stays p g.at) (stays p g.at) many many'
