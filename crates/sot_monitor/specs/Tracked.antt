-- What contracts see of a monitor.
use Rattle.std.specs.Prelude.{◌≡◌, ℕ, ◌<◌, ◌≤◌, List, length}
use Rattle.std.specs.List.{All}
use Rattle.sot_formula.specs.declared.what.What.{What}
use Rattle.sot_formula.specs.Parts.{ArePlaced}
use Rattle.sot_monitor.specs.declared.monitor.Monitor.TheInside.{Inside}

-- its parts, a number a part, and how many moments were added
pub record Tracked : Type 0 where
  pub whats : List What
  pub lasts : List ℕ
  pub added : ℕ

abbrev pub tracked : Inside → Tracked
tracked m = record { whats = m.whats.items; lasts = m.lasts.items; added = m.added }

pub record IsMonitor (m : Inside) : Type 0 where
  pub some : 0 < length m.whats.items
  pub placed : ArePlaced m.whats.items
  pub sizes : length m.lasts.items ≡ length m.whats.items
  pub small : All (λ l. l ≤ 100001) m.lasts.items
  pub few : m.added ≤ 100001
