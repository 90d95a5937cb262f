-- What the loop of `put_further` keeps.
use Rattle.std.proofs.Common.{◌≡◌, ◌++◌, drop}
use Rattle.std.specs.String.{string_bytes}
use Rattle.sot_maker.specs.Members.{further}
use Rattle.sot_maker.proofs.member.put_further.Given as goal

-- what is written, and then what is left
abbrev pub invariant-loop-i : goal.invariant-loop-i
invariant-loop-i l = string_bytes l.out ++ further l.member l.seed (drop l.i-index l.fn.more) ≡ string_bytes l.initial.out ++ further l.member l.seed l.fn.more
