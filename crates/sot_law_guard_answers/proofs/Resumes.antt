-- A resume comes to one end.
use Rattle.std.proofs.Common.{◌≡◌, ◌∙◌, ℕ, Bool, ⊎_elim, List, sym, ap₂, subst}
use Rattle.std.proofs.lemmas.Bool.{cases_order}
use Rattle.sot_calendar.specs.Due.{IsDue}
use Rattle.sot_lang.specs.Tables.{Tables}
use Rattle.sot_world.specs.Configurations.{Configuration, is_left, is_left_dm}
use Rattle.sot_world.proofs.Unique.{same_flag}
use Rattle.sot_guard.specs.Guarding.{Guarding}
use Rattle.sot_guard.specs.Resuming.{IsUnheld, IsHeldSafe, AreHeldSafe, IsFirstUnsafe, LeavesWhatIsDue, RegainsTrust, StaysUnsafe}
use Rattle.sot_law_guard_answers.proofs.Parts.{same_flags, same_guarding}

-- what is due is one
leaves_once : (p : Tables) (C D E : Configuration) → LeavesWhatIsDue p C D → LeavesWhatIsDue p C E → D ≡ E
leaves_once p C D E d e =
    let left = same_flags p.nodes D.left E.left d.sizes.left e.sizes.left
    (λ n node at. same_flag (is_left D n) (is_left E n) (IsDue node.period node.offset C.time) (d.left n node at) (e.left n node at)) in
    let left_dm = same_flags p.modules D.left_dm E.left_dm d.sizes.left_dm e.sizes.left_dm
    (λ m a at. same_flag (is_left_dm D m) (is_left_dm E m) (IsDue a.period a.offset C.time) (d.left_dm m a at) (e.left_dm m a at)) in
    d.rest ∙ ap₂ (λ (l k : List Bool). record C { left = l; left_dm = k }) left left_dm ∙ sym e.rest

pub regains_once : (g k k' : Guarding) → RegainsTrust g k → RegainsTrust g k' → k ≡ k'
regains_once g k k' a b =
    same_guarding k k' (a.accepted ∙ sym b.accepted) (a.is ∙ sym b.is) (leaves_once g.accepted.program g.at k.at k'.at a.leaves b.leaves)

module _ (p : Tables) (j : ℕ) (C : Configuration) where
  not_held : (m : ℕ) → IsUnheld p j C m → IsHeldSafe p j C m → ⊥
  not_held m u held = u.leaves (held u.module_info u.plant u.ticks u.is u.plant_is u.fires)

  first_once : (m n : ℕ) → IsFirstUnsafe p j C m → IsFirstUnsafe p j C n → m ≡ n
  first_once m n a b =
      ⊎_elim (λ e. e)
      (λ other. ⊎_elim (λ lt. absurd (not_held m a.unheld (b.before m lt))) (λ gt. absurd (not_held n b.unheld (a.before n gt))) other)
      (cases_order m n)

pub unsafe_once : (g : Guarding) (m n : ℕ) → StaysUnsafe g m → StaysUnsafe g n → m ≡ n
unsafe_once g m n a b =
    let p = g.accepted.program in
    let j = g.accepted.cert.jitter in
    let same = leaves_once p g.at a.due b.due a.leaves b.leaves in
    first_once p j b.due m n (subst (λ (C : Configuration). IsFirstUnsafe p j C m) same a.first) b.first

-- trust does not come back where a module keeps it from coming back
pub regains_or_not : (g k : Guarding) (m : ℕ) → RegainsTrust g k → StaysUnsafe g m → ⊥
regains_or_not g k m a b =
    let p = g.accepted.program in
    let j = g.accepted.cert.jitter in
    let same = leaves_once p g.at k.at b.due a.leaves b.leaves in
    not_held p j b.due m b.first.unheld (subst (λ (C : Configuration). AreHeldSafe p j C) same a.held m)
