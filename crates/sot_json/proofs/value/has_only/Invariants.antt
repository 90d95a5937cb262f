-- What the loop of `has_only` keeps.
use Rattle.std.proofs.Common.{◌≡◌, map}
use Rattle.serde_json.specs.View.{members_view}
use Rattle.sot_json.specs.Json.{all_among}
use Rattle.sot_json.proofs.value.has_only.Given as goal

abbrev pub invariant-loop-key : goal.invariant-loop-key
invariant-loop-key l =
    all_among (members_view l.fn.object.entries) (map (λ n. n.now) l.fn.keys) ≡ all_among (members_view l.key-iterator) (map (λ n. n.now) l.fn.keys)
