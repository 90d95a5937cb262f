use Rattle.sot_tube.proofs.LineCertified.{line_is_certified}
use Rattle.sot_tube.proofs.LineRefused.{shapes, unread_plants}
use Rattle.sot_tube.proofs.facts.line_is_certified.Goals as goal

pub returns-clause-line : goal.returns-clause-line
returns-clause-line c = line_is_certified

pub returns-clause-shapes : goal.returns-clause-shapes
returns-clause-shapes c = shapes

pub returns-clause-unread : goal.returns-clause-unread
returns-clause-unread c = unread_plants
