-- The names of a program that a text spells are words.
use Rattle.sot_test_flights.proofs.tests.loaded.Goals as goal

pub returns-clause-words : goal.returns-clause-words
returns-clause-words g c =
    let m = c.in-Ok.ensures.ok in
    c.names_are_words.ensures m.mission.parts.program 0 m.program c.in-Ok.loaded.program m.mission.spelled m.mission.resolved
