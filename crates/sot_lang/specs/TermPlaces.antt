-- What the evaluation of an expression over n numbers needs of it: a part of what the expressions
-- of a table satisfy.
use Rattle.std.specs.Prelude.{◌≡◌, ℕ, ◌<◌, ◌≤◌, pos, ◌≤ℤ◌, List, [], ◌∷◌, length}
use Rattle.sot_lang.specs.declared.term.Term.{Term, Row_of-Term, end_of-Term, more_of-Term}
use Rattle.sot_lang.specs.declared.term.Term.{items-the_row-Term}
use Rattle.sot_lang.specs.declared.term.Term.TheVariants.{Number, Place, Binary', Rest', Neg', Not'}
use Rattle.sot_lang.specs.declared.term.Term.TheVariants.{Call', Rescale', If'}
use Rattle.sot_syntax_tree.specs.Functions.{arity}

-- each place is below n, each call has the parts of its function, the divisor of a rest is at least
-- 1, and scales are at most 6
abbrev mutual
  pub HasPlaces : ℕ → Term → Type 0
  HasPlaces n (Number z) = Unit {0}
  HasPlaces n (Place k) = k < n
  HasPlaces n (Binary' op p a q b at) = HasPlaces n a × HasPlaces n b
  HasPlaces n (Rest' p a by at) = (pos 1 ≤ℤ by) × HasPlaces n a
  HasPlaces n (Neg' p a at) = HasPlaces n a
  HasPlaces n (Not' p a at) = HasPlaces n a
  HasPlaces n (Call' f shape parts at) =
      (length (items-the_row-Term _ parts) ≡ arity f) × RowHasPlaces n parts
  HasPlaces n (Rescale' p a from to at) = (from ≤ 6) × (to ≤ 6) × HasPlaces n a
  HasPlaces n (If' p c q a r b at) = HasPlaces n c × HasPlaces n a × HasPlaces n b

  -- so does each part of a call
  pub RowHasPlaces : {m : _} → ℕ → Row_of-Term m → Type 0
  RowHasPlaces n end_of-Term = Unit {0}
  RowHasPlaces n (more_of-Term t rest) = HasPlaces n t × RowHasPlaces n rest

-- so does each expression of a list
abbrev pub HavePlaces : ℕ → List Term → Type 0
HavePlaces n [] = Unit {0}
HavePlaces n (t ∷ ts) = HasPlaces n t × HavePlaces n ts
