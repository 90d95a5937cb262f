-- What is told of recovery is told in one way.
use Rattle.std.specs.Prelude.{ℕ, ◌≡◌, List}
use Rattle.sot_lang.specs.declared.cert.Cert.{Cert}
use Rattle.sot_lang.specs.Tables.{Tables}
use Rattle.sot_law_equal_ranks.specs.Laws.{LookTheSame}
use Rattle.sot_recovery_text.specs.Recovery.{AllRecover, SomeNever}

-- of tables that look the same one text is told, and not that all modules of the one recover and
-- some module of the other never does
abbrev pub ToldOnce : Type 0
ToldOnce =
    (t u : Tables) (c d : Cert) (text other : List ℕ) → LookTheSame t u c d
    → (AllRecover t c text → AllRecover u d other → text ≡ other)
    × (SomeNever t c text → SomeNever u d other → text ≡ other)
    × (AllRecover t c text → SomeNever u d other → ⊥)
