-- The loop of `is_one_of`: the name is not among the keys so far.
use Rattle.std.proofs.Common.{◌≡◌, drop, ℕ, List}
use Rattle.std.specs.List.{list_any}
use Rattle.std.specs.Str.{bytes_eq}
use denote.Ref.{Bor}
use Rattle.sot_names.proofs.set.is_one_of.Given as goal

abbrev pub invariant-loop-key : goal.invariant-loop-key
invariant-loop-key l =
    list_any (λ (k : Bor (List ℕ)). bytes_eq l.fn.name k.now) l.fn.keys ≡ list_any (λ (k : Bor (List ℕ)). bytes_eq l.fn.name k.now) (drop l.key-index l.fn.keys)
