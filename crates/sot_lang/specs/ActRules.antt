-- What the statements of a table satisfy, given which of the names are truth values, the count of
-- the node's locals and the count of the scalars that it writes.
use Rattle.std.specs.Prelude.{ℕ, ◌<◌, ◌≤◌, Bool, List, [], ◌∷◌}
use Rattle.sot_lang.specs.declared.act.Act.{Act, Row_of-Act, end_of-Act, more_of-Act}
use Rattle.sot_lang.specs.declared.act.Act.TheVariants.{Assign, Publish, If', Repeat'}
use Rattle.sot_lang.specs.TermRules.{TermFits, IsTruth}

-- targets name something, expressions are in form, conditions are truth values, and loop counts are
-- 1 to 1,000
abbrev mutual
  pub ActFits : List Bool → ℕ → ℕ → Act → Type 0
  ActFits truths locals writes (Assign k t at) = (k < locals) × TermFits truths t
  ActFits truths locals writes (Publish k t at) = (k < writes) × TermFits truths t
  ActFits truths locals writes (If' t s1 us s2 vs) =
      IsTruth truths t × TermFits truths t × RowFits truths locals writes us
      × RowFits truths locals writes vs
  ActFits truths locals writes (Repeat' n s us) =
      (1 ≤ n) × (n ≤ 1000) × RowFits truths locals writes us

  -- so does each statement of a block
  pub RowFits : {m : _} → List Bool → ℕ → ℕ → Row_of-Act m → Type 0
  RowFits truths locals writes end_of-Act = Unit {0}
  RowFits truths locals writes (more_of-Act a rest) =
      ActFits truths locals writes a × RowFits truths locals writes rest

-- so does each statement of a body
abbrev pub ActsFit : List Bool → ℕ → ℕ → List Act → Type 0
ActsFit truths locals writes [] = Unit {0}
ActsFit truths locals writes (a ∷ rest) =
    ActFits truths locals writes a × ActsFit truths locals writes rest
