-- Steps of a node that no module commands.
use Rattle.std.proofs.Common.{◌≡◌, ℕ, pos, ◌⊎◌, ⊎_elim, ◌↔◌, true, false, inr, refl, Some, [], ◌∷◌, arith}
use Rattle.std.proofs.lemmas.Bool.{false≢true}
use Rattle.std.specs.Global.{Global}
use Rattle.sot_lang.specs.Bodies.{execution}
use Rattle.sot_lists.proofs.ShortLists.{at_none, at_one}
use Rattle.sot_calendar.specs.Due.{IsDue}
use Rattle.sot_world.specs.Configurations.{Configuration, IsOpening, is_left}
use Rattle.sot_world.specs.Steps.{Step, Code, Tick, MayTick}
use Rattle.sot_world.specs.Examples.{relay, relaying, copy, copy_acts}
use Rattle.sot_law_runs.specs.Examples.{relay_at}

module _ (g : Global) where
  pub opens : IsOpening (relay g) [] (relaying (pos 0) (pos 0))
  opens = record {
    time = refl;
    left =
        at_one (λ n node. (is_left (relaying (pos 0) (pos 0)) n ≡ true) ↔ IsDue node.period node.offset 0) (copy g) ((λ e. (omega arith, refl)), (λ d. refl));
    left_dm = at_none _;
    modes = refl;
    scalars = refl;
    locals = refl;
    points = refl;
    sizes = record { left = refl; left_dm = refl; modes = refl; scalars = refl; locals = refl; points = refl };
    widths = at_none _;
  }

  pub left_first : (C : Configuration) → IsOpening (relay g) [] C → is_left C 0 ≡ true
  left_first C o = (o.left 0 (copy g) refl).1 (omega arith, refl)

  may_rest : (C : Configuration) → is_left C 0 ≡ false → MayTick (relay g) 0 C
  may_rest C rest = record {
    nodes = λ n node d at is. absurd (at_one (λ n node. is_left C n ≡ true → ⊥) (copy g) (λ e. false≢true (cc)) n node at is);
    modules = λ m a d at is. absurd (at_none (λ m a. ⊥) m a at);
  }

  pub due : Step (relay g) 0 (relay_at 5 false (pos 0)) (Tick []) (relay_at 6 true (pos 0))
  due = record {
    may = may_rest (relay_at 5 false (pos 0)) refl;
    each = refl;
    bounded = at_none _;
    moves = at_none _;
    time = refl;
    left =
        at_one (λ n node. (is_left (relay_at 6 true (pos 0)) n ≡ true) ↔ ((is_left (relay_at 5 false (pos 0)) n ≡ true) ⊎ IsDue node.period node.offset 6))
        (copy g) ((λ e. inr (omega arith, refl)), (λ o. refl));
    left_dm = at_none _;
    sizes = record { left = refl; left_dm = refl; modes = refl; scalars = refl; locals = refl; points = refl };
    rest = refl;
  }

  pub left_again : (D : Configuration) → Step (relay g) 0 (relay_at 5 false (pos 0)) (Tick []) D → is_left D 0 ≡ true
  left_again D s = (let due_6 : IsDue 6 0 6 = (omega arith, refl) in (s.left 0 (copy g) refl).1 (inr (rw s.time due_6)))

  pub fires : Step (relay g) 0 (relay_at 6 true (pos 0)) (Code 0) (relay_at 6 false (pos 5))
  unfolding execution
  fires = record {
    node = copy g;
    is = refl;
    acts = copy_acts g;
    coded = (_, refl, refl);
    fired = record { locals = []; draft = Some (pos 5) ∷ [] };
    runs = refl;
    fires = record { was_left = refl; time = refl; left = refl; left_dm = refl; modes = refl; points = refl; locals_set = refl; scalars = refl };
  }

  no_seven : IsDue 6 0 7 → ⊥
  no_seven d = (let e : ◌≡◌ {A = ℕ} 1 0 = d.1 in omega (arith, e))

  pub not_due : Step (relay g) 0 (relay_at 6 false (pos 5)) (Tick []) (relay_at 7 false (pos 5))
  not_due = record {
    may = may_rest (relay_at 6 false (pos 5)) refl;
    each = refl;
    bounded = at_none _;
    moves = at_none _;
    time = refl;
    left =
        at_one (λ n node. (is_left (relay_at 7 false (pos 5)) n ≡ true) ↔ ((is_left (relay_at 6 false (pos 5)) n ≡ true) ⊎ IsDue node.period node.offset 7))
        (copy g) ((λ e. absurd (false≢true e)), (λ o. ⊎_elim (λ e. e) (λ d. absurd (no_seven d)) o));
    left_dm = at_none _;
    sizes = record { left = refl; left_dm = refl; modes = refl; scalars = refl; locals = refl; points = refl };
    rest = refl;
  }
