-- Blocks of statements, read as the list of a `Vec`, and bodies statement by statement.
use Rattle.std.proofs.Common.{◌≡◌, ℕ, ℤ, Bool, ◌≤◌, List, [], ◌∷◌, ◌++◌, zero, suc, refl, ap, ap₂, sym, ◌∙◌, subst, Ok, Err}
use Rattle.std.specs.Global.{Vec}
use Rattle.std.specs.Prelude.{if◌then◌else◌}
use Rattle.sot_lists.specs.Places.{At}
use Rattle.sot_box.specs.Sides.{Side}
use Rattle.sot_lang.specs.declared.term.Term.{Term}
use Rattle.sot_lang.specs.declared.act.Act.{Act, If, Repeat, Row_of-Act, end_of-Act, more_of-Act, items-the_row-Act, items_hidden-the_row-Act-0}
use Rattle.sot_lang.specs.declared.act.Act.TheBlock.{hidden-the_row-Act-0}
use Rattle.sot_lang.specs.Values.{Outcome, value_of, then_with, is_true}
use Rattle.sot_lang.specs.Bodies.{Fired, act, acts, body, times}
use Rattle.sot_lang.specs.TermRules.{TermFits, IsTruth}
use Rattle.sot_lang.specs.ActRules.{ActFits, RowFits, ActsFit}

then_same : (o : Outcome Fired) (g h : Fired → Outcome Fired) → ((f : Fired) → g f ≡ h f) → then_with o g ≡ then_with o h
then_same (Ok f) g h e = e f
then_same (Err t) g h e = refl

then_both : (o p : Outcome Fired) (g h : Fired → Outcome Fired) → o ≡ p → ((f : Fired) → g f ≡ h f) → then_with o g ≡ then_with p h
then_both o p g h e s = ap (λ x. then_with x g) e ∙ then_same p g h s

then_assoc : (o : Outcome Fired) (g h k : Fired → Outcome Fired) → ((f : Fired) → k f ≡ then_with (g f) h) → then_with o k ≡ then_with (then_with o g) h
then_assoc (Ok f) g h k e = e f
then_assoc (Err t) g h k e = refl

acts_items : {m : _} (seen : List ℤ) (locals writes : List Side) (us : Row_of-Act m) (f : Fired)
    → acts seen locals writes us f ≡ body seen locals writes (items-the_row-Act _ us) f
acts_items seen locals writes end_of-Act f = refl
acts_items seen locals writes (more_of-Act a rest) f =
    then_same (act seen locals writes a f) (acts seen locals writes rest) (body seen locals writes (items-the_row-Act _ rest))
    (λ g. acts_items seen locals writes rest g)

-- n times the same block
times_same : (n : ℕ) (g h : Fired → Outcome Fired) → ((f : Fired) → g f ≡ h f) → (f : Fired) → times n g f ≡ times n h f
times_same zero g h e f = refl
times_same (suc n) g h e f = then_both (g f) (h f) (times n g) (times n h) (e f) (λ x. times_same n g h e x)

row_is : (seen : List ℤ) (locals writes : List Side) (v : Vec Act) (f : Fired)
    → acts seen locals writes (hidden-the_row-Act-0 v) f ≡ body seen locals writes v.items f
row_is seen locals writes v f =
    acts_items seen locals writes (hidden-the_row-Act-0 v) f ∙ ap (λ us. body seen locals writes us f) (items_hidden-the_row-Act-0 v)

pub act-If : (seen : List ℤ) (locals writes : List Side) (t : Term) (u v : Vec Act) (f : Fired)
    → act seen locals writes (If t u v) f ≡ then_with (value_of t (seen ++ f.locals))
    (λ z. if is_true z then body seen locals writes u.items f else body seen locals writes v.items f)
act-If seen locals writes t u v f =
    (let a = row_is seen locals writes u f in let b = row_is seen locals writes v f in
    ap₂ (λ x y. then_with (value_of t (seen ++ f.locals)) (λ z. if is_true z then x else y)) a b)

pub act-Repeat : (seen : List ℤ) (locals writes : List Side) (n : ℕ) (u : Vec Act) (f : Fired)
    → act seen locals writes (Repeat n u) f ≡ times n (body seen locals writes u.items) f
act-Repeat seen locals writes n u f = times_same n _ _ (λ g. row_is seen locals writes u g) f

fit_items : {c : _} (truths : List Bool) (n m : ℕ) (us : Row_of-Act c) → RowFits truths n m us → ActsFit truths n m (items-the_row-Act _ us)
fit_items truths n m end_of-Act h = tt
fit_items truths n m (more_of-Act a rest) h = (h.0, fit_items truths n m rest h.1)

items_fit : {c : _} (truths : List Bool) (n m : ℕ) (us : Row_of-Act c) → ActsFit truths n m (items-the_row-Act _ us) → RowFits truths n m us
items_fit truths n m end_of-Act h = tt
items_fit truths n m (more_of-Act a rest) h = (h.0, items_fit truths n m rest h.1)

row_fits : (truths : List Bool) (n m : ℕ) (v : Vec Act) → RowFits truths n m (hidden-the_row-Act-0 v) → ActsFit truths n m v.items
row_fits truths n m v h = subst (ActsFit truths n m) (items_hidden-the_row-Act-0 v) (fit_items truths n m (hidden-the_row-Act-0 v) h)

fits_row : (truths : List Bool) (n m : ℕ) (v : Vec Act) → ActsFit truths n m v.items → RowFits truths n m (hidden-the_row-Act-0 v)
fits_row truths n m v h = items_fit truths n m (hidden-the_row-Act-0 v) (subst (ActsFit truths n m) (sym (items_hidden-the_row-Act-0 v)) h)

-- the parts of an `if` and of a `repeat` fit where it fits, and the other way round
pub ActFits-If : (truths : List Bool) (n m : ℕ) (t : Term) (u v : Vec Act) → ActFits truths n m (If t u v)
    → IsTruth truths t × TermFits truths t × ActsFit truths n m u.items × ActsFit truths n m v.items
ActFits-If truths n m t u v h = (h.0, h.1, row_fits truths n m u h.2, row_fits truths n m v h.3)

pub If-ActFits : (truths : List Bool) (n m : ℕ) (t : Term) (u v : Vec Act) → IsTruth truths t → TermFits truths t → ActsFit truths n m u.items
    → ActsFit truths n m v.items → ActFits truths n m (If t u v)
If-ActFits truths n m t u v i h a b = (i, h, fits_row truths n m u a, fits_row truths n m v b)

pub ActFits-Repeat : (truths : List Bool) (n m k : ℕ) (u : Vec Act) → ActFits truths n m (Repeat k u) → (1 ≤ k) × (k ≤ 1000) × ActsFit truths n m u.items
ActFits-Repeat truths n m k u h = (h.0, h.1, row_fits truths n m u h.2)

pub Repeat-ActFits : (truths : List Bool) (n m k : ℕ) (u : Vec Act) → 1 ≤ k → k ≤ 1000 → ActsFit truths n m u.items → ActFits truths n m (Repeat k u)
Repeat-ActFits truths n m k u a b h = (a, b, fits_row truths n m u h)

-- a statement of a list that fits
pub ActsFit-at : (truths : List Bool) (n m : ℕ) (us : List Act) (k : ℕ) (a : Act) → ActsFit truths n m us → At us k a → ActFits truths n m a
ActsFit-at truths n m [] k a h at = cc
ActsFit-at truths n m (x ∷ us) zero a h at = (let e : x ≡ a = cc in subst (ActFits truths n m) e h.0)
ActsFit-at truths n m (x ∷ us) (suc k) a h at = ActsFit-at truths n m us k a h.1 at

-- a body's statements one after another
pub body-++ : (seen : List ℤ) (locals writes : List Side) (us vs : List Act) (f : Fired)
    → body seen locals writes (us ++ vs) f ≡ then_with (body seen locals writes us f) (body seen locals writes vs)
body-++ seen locals writes [] vs f = refl
body-++ seen locals writes (a ∷ us) vs f =
    then_assoc (act seen locals writes a f) (body seen locals writes us) (body seen locals writes vs) (body seen locals writes (us ++ vs))
    (λ g. body-++ seen locals writes us vs g)
