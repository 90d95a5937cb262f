-- A session as contracts see it. Nothing here has to be trusted: the calls say what each of them
-- does to what is seen.
use Rattle.std.specs.Prelude.{◌+◌, ◌≤◌, length}
use Rattle.sot_guard.specs.declared.session.Session.TheInside.{Inside}
use Rattle.sot_guard.specs.Hearing.{Hearing, IsHearing}

abbrev pub hearing : Inside → Hearing
hearing s = record {
  guarding = s.guard;
  turn = s.turn;
  seen = s.seen;
  drafts = s.drafts.items;
  drafted = s.drafted.items;
  told = s.told.items;
}

-- what holds of each session: it is one that hears, with room for all that can be told of an
-- instant
pub record IsSession (s : Inside) : Type 0 where
  pub hears : IsHearing (hearing s)
  pub room : length s.guard.accepted.program.modules + length s.guard.accepted.program.nodes
      ≤ s.told.cap
