-- A call's parts and a block's statements, read as the lists of their `Vec`s.
use Rattle.std.proofs.Common.{◌≡◌, ℕ, List, [], ◌∷◌, ◌++◌, zero, suc, Ok, Err, refl, ap, ap₂, ◌∙◌}
use Rattle.std.specs.Global.{Vec}
use Rattle.sot_text.specs.declared.token.Span.{Span}
use Rattle.sot_box.specs.Sides.{Side}
use Rattle.sot_syntax_tree.specs.declared.operator.Func.{Func}
use Rattle.sot_lang.specs.declared.term.Term.{Term, Call, Row_of-Term, end_of-Term, more_of-Term, items-the_row-Term, items_hidden-the_row-Term-0}
use Rattle.sot_lang.specs.declared.term.Term.TheBlock.{hidden-the_row-Term-0}
use Rattle.sot_lang.specs.declared.act.Act.{Act, If, Repeat, Row_of-Act, end_of-Act, more_of-Act, items-the_row-Act, items_hidden-the_row-Act-0}
use Rattle.sot_lang.specs.declared.act.Act.TheBlock.{hidden-the_row-Act-0}
use Rattle.sot_iv.specs.TermIntervals.{OrMayTrap}
use Rattle.sot_iv.specs.BodyIntervals.{Intervals}
use Rattle.sot_iv.specs.Evaluation.{and_then, joined, chosen, called_side, term_interval, part_intervals, term_intervals, join_of, repeated, act_intervals}
use Rattle.sot_iv.specs.Evaluation.{block_intervals, body_intervals}

parts_items : {m : _} (ts : Row_of-Term m) (rs : List Side) → part_intervals ts rs ≡ term_intervals (items-the_row-Term _ ts) rs
parts_items end_of-Term rs = refl
parts_items (more_of-Term t rest) rs = ap (joined (λ x xs. Ok (x ∷ xs)) (term_interval t rs)) (parts_items rest rs)

-- a call's interval, by the list of its parts
pub term_interval-Call : (f : Func) (v : Vec Term) (at : Span) (rs : List Side)
    → term_interval (Call f v at) rs ≡ and_then (term_intervals v.items rs) (called_side f at)
term_interval-Call f v at rs =
    ap (λ o. and_then o (called_side f at)) (parts_items {m = _} (hidden-the_row-Term-0 v) rs ∙ ap (λ ts. term_intervals ts rs) (items_hidden-the_row-Term-0 v))

then_same : (o : OrMayTrap Intervals) (g h : Intervals → OrMayTrap Intervals) → ((f : Intervals) → g f ≡ h f) → and_then o g ≡ and_then o h
then_same (Ok f) g h e = e f
then_same (Err t) g h e = refl

then_both : (o p : OrMayTrap Intervals) (g h : Intervals → OrMayTrap Intervals) → o ≡ p → ((f : Intervals) → g f ≡ h f) → and_then o g ≡ and_then p h
then_both o p g h e s = ap (λ x. and_then x g) e ∙ then_same p g h s

then_assoc : (o : OrMayTrap Intervals) (g h k : Intervals → OrMayTrap Intervals) → ((f : Intervals) → k f ≡ and_then (g f) h)
    → and_then o k ≡ and_then (and_then o g) h
then_assoc (Ok f) g h k e = e f
then_assoc (Err t) g h k e = refl

module _ (seen locals writes : List Side) where
  block_items : {m : _} (us : Row_of-Act m) (f : Intervals)
      → block_intervals seen locals writes us f ≡ body_intervals seen locals writes (items-the_row-Act _ us) f
  block_items end_of-Act f = refl
  block_items (more_of-Act a rest) f =
      then_same (act_intervals seen locals writes a f) (block_intervals seen locals writes rest) (body_intervals seen locals writes (items-the_row-Act _ rest))
      (λ g. block_items rest g)

  block_is : (v : Vec Act) (f : Intervals) → block_intervals seen locals writes (hidden-the_row-Act-0 v) f ≡ body_intervals seen locals writes v.items f
  block_is v f = block_items (hidden-the_row-Act-0 v) f ∙ ap (λ us. body_intervals seen locals writes us f) (items_hidden-the_row-Act-0 v)

  pub act_intervals-If : (t : Term) (u v : Vec Act) (f : Intervals)
      → act_intervals seen locals writes (If t u v) f ≡ and_then (term_interval t (seen ++ f.locals))
      (λ c. chosen join_of c (body_intervals seen locals writes u.items f) (body_intervals seen locals writes v.items f))
  act_intervals-If t u v f =
      (let a = block_is u f in let b = block_is v f in ap₂ (λ x y. and_then (term_interval t (seen ++ f.locals)) (λ c. chosen join_of c x y)) a b)

  repeated_same : (n : ℕ) (g h : Intervals → OrMayTrap Intervals) → ((f : Intervals) → g f ≡ h f) → (f : Intervals) → repeated n g f ≡ repeated n h f
  repeated_same zero g h e f = refl
  repeated_same (suc n) g h e f = then_both (g f) (h f) (repeated n g) (repeated n h) (e f) (λ x. repeated_same n g h e x)

  pub act_intervals-Repeat : (n : ℕ) (u : Vec Act) (f : Intervals)
      → act_intervals seen locals writes (Repeat n u) f ≡ repeated n (body_intervals seen locals writes u.items) f
  act_intervals-Repeat n u f = repeated_same n _ _ (λ g. block_is u g) f

  -- statements one after another
  pub body_intervals-++ : (us vs : List Act) (f : Intervals)
      → body_intervals seen locals writes (us ++ vs) f ≡ and_then (body_intervals seen locals writes us f) (body_intervals seen locals writes vs)
  body_intervals-++ [] vs f = refl
  body_intervals-++ (a ∷ us) vs f =
      then_assoc (act_intervals seen locals writes a f) (body_intervals seen locals writes us) (body_intervals seen locals writes vs)
      (body_intervals seen locals writes (us ++ vs)) (λ g. body_intervals-++ us vs g)
