-- What holds in a configuration holds after each step, and so in each configuration of a run.
use Rattle.std.proofs.Common.{ℕ, zero, suc, List, [], ◌∷◌, subst}
use Rattle.std.proofs.lemmas.Option.{same_Some}
use Rattle.sot_lang.specs.Tables.{Tables}
use Rattle.sot_lists.specs.Places.{At}
use Rattle.sot_world.specs.Configurations.{Configuration}
use Rattle.sot_world.specs.Steps.{Event, Input, Code, Guest, Decide, Tick, Step}
use Rattle.sot_world.specs.Runs.{Run}
use Rattle.sot_lang.specs.TableRules.{IsTyped}
use Rattle.sot_tube.specs.WellFormed.{IsWellFormed}
use Rattle.sot_world.specs.Invariant.{KeepsInvariant}
use Rattle.sot_world.proofs.Firings.{code_holds, guest_holds}
use Rattle.sot_world.proofs.Inputs.{inputs_hold}
use Rattle.sot_world.proofs.Ticking.{ticks_hold}
use Rattle.sot_world.proofs.Decisions.{decides_hold}

module _ (p : Tables) (j : ℕ) (typed : IsTyped p) (well : IsWellFormed p j) where
  pub step_holds : (C D : Configuration) (e : Event) → KeepsInvariant p j C → Step p j C e D → KeepsInvariant p j D
  step_holds C D (Input topic value) h s = inputs_hold p j typed well C D topic value h s
  step_holds C D (Code n) h s = code_holds p j typed well C D n h s
  step_holds C D (Guest n draft) h s = guest_holds p j typed well C D n draft h s
  step_holds C D (Decide m) h s = decides_hold p j typed well C D m h s
  step_holds C D (Tick noise) h s = ticks_hold p j typed well C D noise h s

  pub run_holds : (C : Configuration) (es : List Event) (Ds : List Configuration) → KeepsInvariant p j C → Run p j C es Ds → (i : ℕ) (D : Configuration)
      → At (C ∷ Ds) i D → KeepsInvariant p j D
  run_holds C es Ds h r zero D at = subst (KeepsInvariant p j) (same_Some C D at) h
  run_holds C [] [] h r (suc i) D at = cc
  run_holds C (e ∷ es) (next ∷ Ds) h r (suc i) D at = run_holds next es Ds (step_holds C next e h r.0) r.1 i D at
  run_holds C [] (next ∷ Ds) h r (suc i) D at = absurd r
  run_holds C (e ∷ es) [] h r (suc i) D at = absurd r
