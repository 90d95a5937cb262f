-- The names of a program that a text spells are words.
use Rattle.sot_test_guard.proofs.tests.loaded.Goals as goal

pub returns : goal.returns
returns g c =
    let m = c.in-Ok.ensures.ok in
    record {
      words = c.names_are_words.ensures m.mission.parts.program 0 m.program c.in-Ok.loaded.program m.mission.spelled m.mission.resolved;
      cert = c.in-Ok.ensures.cert_fits;
    }
