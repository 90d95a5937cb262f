-- The names that a node's statements use, as the code keeps them.
use Rattle.sot_rules.specs.Names.{Scope}
use Rattle.sot_typing.specs.declared.code.acts.BodyNames.{BodyNames}
use Rattle.sot_typing.specs.Things.{things_in, AreFew}

abbrev pub scope_in : BodyNames → Scope
scope_in n =
    record {
      read = things_in n.read.now;
      local = things_in n.local.now;
      written = things_in n.written.now;
    }

-- an owner has few numbers in each of its lists
pub record IsSmall (s : Scope) : Type 0 where
  pub read : AreFew s.read
  pub local : AreFew s.local
  pub written : AreFew s.written
