-- What the loop of `push_name` keeps.
use Rattle.std.proofs.Common.{◌≡◌, ◌++◌, string_bytes}
use Rattle.std.specs.Str.{encode_utf8_all}
use Rattle.sot_json.specs.Pointers.{escaped}
use Rattle.sot_json.proofs.path.push_name.Given as goal

abbrev pub invariant-loop-c : goal.invariant-loop-c
invariant-loop-c l = string_bytes l.text ≡ string_bytes l.fn.text ++ escaped (encode_utf8_all l.yielded)
