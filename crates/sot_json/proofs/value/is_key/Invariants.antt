-- What the loop of `is_key` keeps.
use Rattle.std.proofs.Common.{◌≡◌, map, drop}
use Rattle.sot_json.specs.Json.{is_among}
use Rattle.sot_json.proofs.value.is_key.Given as goal

abbrev pub invariant-loop-one : goal.invariant-loop-one
invariant-loop-one l = is_among l.fn.key (map (λ n. n.now) l.fn.keys) ≡ is_among l.fn.key (map (λ n. n.now) (drop l.one-index l.fn.keys))
