-- Configurations, guards and sessions that agree in each part are one.
use Rattle.std.proofs.Common.{◌≡◌, ◌∙◌, ℕ, ℤ, Bool, true, false, List, Option, None, length, sym, ap, subst, arith}
use Rattle.std.specs.Prelude.{slice_index_or, ◌↔◌, replicate}
use Rattle.std.proofs.lemmas.List.{ext_get_or}
use Rattle.sot_lists.specs.Places.{At}
use Rattle.sot_lists.proofs.Places.{at_below}
use Rattle.sot_lang.specs.declared.tables.NodeInfo.{NodeInfo}
use Rattle.sot_lang.specs.declared.tables.ModuleInfo.{ModuleInfo}
use Rattle.sot_lang.specs.Tables.{Tables}
use Rattle.sot_world.specs.declared.mode.Mode.{Mode}
use Rattle.sot_world.specs.declared.mode.Mode.TheVariants.{Sc}
use Rattle.sot_world.specs.Configurations.{Configuration, IsSized, is_left, is_left_dm}
use Rattle.sot_world.proofs.Unique.{same_flag}
use Rattle.sot_guard.specs.Guarding.{Guarding}
use Rattle.sot_guard.specs.Hearing.{Hearing}
use Rattle.sot_law_guard_answers.specs.Answers.{AreOneSession}

-- flags that agree at each place of a list of their length are one
pub same_flags : {A : Type 0} (xs : List A) (ys zs : List Bool) → length ys ≡ length xs → length zs ≡ length xs
    → ((k : ℕ) (x : A) → At xs k x → slice_index_or ys k false ≡ slice_index_or zs k false) → ys ≡ zs
same_flags xs ys zs a b h = ext_get_or false ys zs (a ∙ sym b) (λ k lt. let here = at_below xs k (omega (arith, lt, a)) in h k here.0 here.1)

-- so are modes that are all Sc
pub same_modes : (ys zs : List Mode) → length ys ≡ length zs → ((m : ℕ) → slice_index_or ys m Sc ≡ Sc) → ((m : ℕ) → slice_index_or zs m Sc ≡ Sc)
    → ys ≡ zs
same_modes ys zs count a b = ext_get_or Sc ys zs count (λ m lt. a m ∙ sym (b m))

pub same_configuration : (C D : Configuration) → C.time ≡ D.time → C.left ≡ D.left → C.left_dm ≡ D.left_dm → C.modes ≡ D.modes → C.scalars ≡ D.scalars
    → C.locals ≡ D.locals → C.points ≡ D.points → C ≡ D
same_configuration C D t l m o s k q i = record { time = t i; left = l i; left_dm = m i; modes = o i; scalars = s i; locals = k i; points = q i }

pub same_guarding : (g k : Guarding) → g.accepted ≡ k.accepted → g.trusted ≡ k.trusted → g.at ≡ k.at → g ≡ k
same_guarding g k a t c i = record { accepted = a i; trusted = t i; at = c i }

-- a session that is one with another is the other but for what was told
pub but_told : (h k : Hearing) → AreOneSession h k → k ≡ record h { told = k.told }
but_told h k s =
    λ i. record {
      guarding = sym s.guarding i;
      turn = sym s.turn i;
      seen = sym s.seen i;
      drafts = sym s.drafts i;
      drafted = sym s.drafted i;
      told = k.told;
    }

-- as many entries as the program has nodes and modules
pub record IsLong (p : Tables) (C : Configuration) : Type 0 where
  pub left : length C.left ≡ length p.nodes
  pub left_dm : length C.left_dm ≡ length p.modules
  pub modes : length C.modes ≡ length p.modules

pub long : (p q : Tables) (C : Configuration) → q ≡ p → IsSized q C → IsLong p C
long p q C same sized = record {
  left = sized.left ∙ ap (λ (x : Tables). length x.nodes) same;
  left_dm = sized.left_dm ∙ ap (λ (x : Tables). length x.modules) same;
  modes = sized.modes ∙ ap (λ (x : Tables). length x.modules) same;
}

-- a configuration in which this is left, and all else but modes is so
pub record Lands (p : Tables) (time : ℕ) (Left : ℕ → NodeInfo → Type 0) (LeftDm : ℕ → ModuleInfo → Type 0) (scalars : List ℤ) (locals points : List (List ℤ))
    (D : Configuration) : Type 0 where
  pub time_is : D.time ≡ time
  pub left : (n : ℕ) (node : NodeInfo) → At p.nodes n node → (is_left D n ≡ true) ↔ Left n node
  pub left_dm : (m : ℕ) (a : ModuleInfo) → At p.modules m a → (is_left_dm D m ≡ true) ↔ LeftDm m a
  pub scalars_are : D.scalars ≡ scalars
  pub locals_are : D.locals ≡ locals
  pub points_are : D.points ≡ points

-- is one where its modes are
pub lands_once : (p : Tables) (time : ℕ) (Left : ℕ → NodeInfo → Type 0) (LeftDm : ℕ → ModuleInfo → Type 0) (scalars : List ℤ) (locals points : List (List ℤ))
    (D E : Configuration) → Lands p time Left LeftDm scalars locals points D → Lands p time Left LeftDm scalars locals points E → IsLong p D → IsLong p E
    → D.modes ≡ E.modes → D ≡ E
lands_once p time Left LeftDm scalars locals points D E d e many many' modes =
    same_configuration D E (d.time_is ∙ sym e.time_is)
    (same_flags p.nodes D.left E.left many.left many'.left
    (λ n node at. same_flag (is_left D n) (is_left E n) (Left n node) (d.left n node at) (e.left n node at)))
    (same_flags p.modules D.left_dm E.left_dm many.left_dm many'.left_dm
    (λ m a at. same_flag (is_left_dm D m) (is_left_dm E m) (LeftDm m a) (d.left_dm m a at) (e.left_dm m a at)))
    modes (d.scalars_are ∙ sym e.scalars_are) (d.locals_are ∙ sym e.locals_are) (d.points_are ∙ sym e.points_are)

-- .. and so is another one that differs in modes alone
pub lands_moved : (p : Tables) (time : ℕ) (Left : ℕ → NodeInfo → Type 0) (LeftDm : ℕ → ModuleInfo → Type 0) (scalars : List ℤ)
    (locals points : List (List ℤ)) (D E : Configuration) → Lands p time Left LeftDm scalars locals points D → E ≡ record D { modes = E.modes }
    → Lands p time Left LeftDm scalars locals points E
lands_moved p time Left LeftDm scalars locals points D E d same = record {
  time_is = ap (λ (x : Configuration). x.time) same ∙ d.time_is;
  left = λ n node at. subst (λ ls. (slice_index_or ls n false ≡ true) ↔ Left n node) (sym (ap (λ (x : Configuration). x.left) same)) (d.left n node at);
  left_dm = λ m a at. subst (λ ls. (slice_index_or ls m false ≡ true) ↔ LeftDm m a) (sym (ap (λ (x : Configuration). x.left_dm) same)) (d.left_dm m a at);
  scalars_are = ap (λ (x : Configuration). x.scalars) same ∙ d.scalars_are;
  locals_are = ap (λ (x : Configuration). x.locals) same ∙ d.locals_are;
  points_are = ap (λ (x : Configuration). x.points) same ∙ d.points_are;
}

-- no draft is there
pub no_drafts_once : (xs ys : List (List (Option ℤ))) → length xs ≡ length ys
    → ((n : ℕ) → slice_index_or xs n (replicate 8 None) ≡ replicate 8 None) → ((n : ℕ) → slice_index_or ys n (replicate 8 None) ≡ replicate 8 None)
    → xs ≡ ys
no_drafts_once xs ys count a b = ext_get_or (replicate 8 None) xs ys count (λ n lt. a n ∙ sym (b n))

pub none_drafted_once : (xs ys : List Bool) → length xs ≡ length ys → ((n : ℕ) → slice_index_or xs n false ≡ false)
    → ((n : ℕ) → slice_index_or ys n false ≡ false) → xs ≡ ys
none_drafted_once xs ys count a b = ext_get_or false xs ys count (λ n lt. a n ∙ sym (b n))
