-- What was read so far, as contracts see it.
use Rattle.sot_formula.specs.declared.laid.Laid.TheInside.{Inside}
use Rattle.sot_formula.specs.Reading.{Laid}

abbrev pub laid_in : Inside → Laid
laid_in s = record { whats = s.whats.items; unknown = s.unknown; differs = s.differs }
