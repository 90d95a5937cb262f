-- Firings of the nodes of two modules, each in its own mode.
use Rattle.std.proofs.Common.{pos, negsuc, refl, Some, [], ◌∷◌}
use Rattle.std.specs.Global.{Global}
use Rattle.sot_lang.specs.Line.{fast, slow, slow_acts}
use Rattle.sot_lang.specs.Bodies.{execution}
use Rattle.sot_world.specs.declared.mode.Mode.TheVariants.{Ac, Sc}
use Rattle.sot_world.specs.Steps.{Step, Code, Guest}
use Rattle.sot_law_runs.specs.Examples.{two_lines, two_lines_in, fast_2, slow_2, all_left, fired_0, fired_1, fired_2, fired_3}

module _ (g : Global) where
  pub advanced : Step (two_lines g) 0 (two_lines_in Ac Sc all_left (pos 0) (pos 0)) (Guest 0 (Some (pos 2) ∷ [])) (two_lines_in Ac Sc fired_0 (pos 2) (pos 0))
  advanced = record {
    node = fast g;
    is = refl;
    external = refl;
    slots = refl;
    fires = record { was_left = refl; time = refl; left = refl; left_dm = refl; modes = refl; points = refl; locals_set = refl; scalars = refl };
  }

  pub advanced_disabled : Step (two_lines g) 0 (two_lines_in Sc Ac all_left (pos 0) (pos 0)) (Guest 0 (Some (pos 2) ∷ []))
      (two_lines_in Sc Ac fired_0 (pos 0) (pos 0))
  advanced_disabled = record {
    node = fast g;
    is = refl;
    external = refl;
    slots = refl;
    fires = record { was_left = refl; time = refl; left = refl; left_dm = refl; modes = refl; points = refl; locals_set = refl; scalars = refl };
  }

  pub safe : Step (two_lines g) 0 (two_lines_in Sc Ac all_left (pos 0) (pos 0)) (Code 1) (two_lines_in Sc Ac fired_1 (negsuc 1) (pos 0))
  unfolding execution
  safe = record {
    node = slow g;
    is = refl;
    acts = slow_acts g;
    coded = (_, refl, refl);
    fired = record { locals = []; draft = Some (negsuc 1) ∷ [] };
    runs = refl;
    fires = record { was_left = refl; time = refl; left = refl; left_dm = refl; modes = refl; points = refl; locals_set = refl; scalars = refl };
  }

  pub safe_disabled : Step (two_lines g) 0 (two_lines_in Ac Sc all_left (pos 0) (pos 0)) (Code 1) (two_lines_in Ac Sc fired_1 (pos 0) (pos 0))
  unfolding execution
  safe_disabled = record {
    node = slow g;
    is = refl;
    acts = slow_acts g;
    coded = (_, refl, refl);
    fired = record { locals = []; draft = Some (negsuc 1) ∷ [] };
    runs = refl;
    fires = record { was_left = refl; time = refl; left = refl; left_dm = refl; modes = refl; points = refl; locals_set = refl; scalars = refl };
  }

  pub second_advanced : Step (two_lines g) 0 (two_lines_in Sc Ac all_left (pos 0) (pos 0)) (Guest 2 (Some (pos 2) ∷ []))
      (two_lines_in Sc Ac fired_2 (pos 0) (pos 2))
  second_advanced = record {
    node = fast_2 g;
    is = refl;
    external = refl;
    slots = refl;
    fires = record { was_left = refl; time = refl; left = refl; left_dm = refl; modes = refl; points = refl; locals_set = refl; scalars = refl };
  }

  pub second_advanced_disabled : Step (two_lines g) 0 (two_lines_in Ac Sc all_left (pos 0) (pos 0)) (Guest 2 (Some (pos 2) ∷ []))
      (two_lines_in Ac Sc fired_2 (pos 0) (pos 0))
  second_advanced_disabled = record {
    node = fast_2 g;
    is = refl;
    external = refl;
    slots = refl;
    fires = record { was_left = refl; time = refl; left = refl; left_dm = refl; modes = refl; points = refl; locals_set = refl; scalars = refl };
  }

  pub second_safe : Step (two_lines g) 0 (two_lines_in Ac Sc all_left (pos 0) (pos 0)) (Code 3) (two_lines_in Ac Sc fired_3 (pos 0) (negsuc 1))
  unfolding execution
  second_safe = record {
    node = slow_2 g;
    is = refl;
    acts = slow_acts g;
    coded = (_, refl, refl);
    fired = record { locals = []; draft = Some (negsuc 1) ∷ [] };
    runs = refl;
    fires = record { was_left = refl; time = refl; left = refl; left_dm = refl; modes = refl; points = refl; locals_set = refl; scalars = refl };
  }

  pub second_safe_disabled : Step (two_lines g) 0 (two_lines_in Sc Ac all_left (pos 0) (pos 0)) (Code 3) (two_lines_in Sc Ac fired_3 (pos 0) (pos 0))
  unfolding execution
  second_safe_disabled = record {
    node = slow_2 g;
    is = refl;
    acts = slow_acts g;
    coded = (_, refl, refl);
    fired = record { locals = []; draft = Some (negsuc 1) ∷ [] };
    runs = refl;
    fires = record { was_left = refl; time = refl; left = refl; left_dm = refl; modes = refl; points = refl; locals_set = refl; scalars = refl };
  }
