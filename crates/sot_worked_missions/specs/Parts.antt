-- Parts of worked tables.
use Rattle.std.specs.Prelude.{◌≡◌, ℕ, ℤ, pos, false, None, List}
use Rattle.std.specs.Global.{Box}
use Rattle.sot_text.specs.declared.token.Span.{Span}
use Rattle.sot_syntax_tree.specs.declared.operator.Op.{Op}
use Rattle.sot_lang.specs.declared.term.Term.{Term}
use Rattle.sot_lang.specs.declared.term.Term.TheVariants.{Binary', If'}
use Rattle.sot_lang.specs.declared.tables.TopicInfo.{TopicInfo}
use Rattle.sot_lang.specs.declared.tables.ScalarInfo.{ScalarInfo}

-- a place in a text
abbrev pub place : ℕ → ℕ → Span
place line column = record { line = line; column = column }

-- a topic that nodes write, with one scalar
abbrev pub one_topic : List ℕ → ℕ → TopicInfo
one_topic name first = record { name = name; outside = false; first = first; count = 1 }

-- the scalar of such a topic: a whole number from lo to hi, at first 0
abbrev pub whole_number : ℕ → ℤ → ℤ → ScalarInfo
whole_number topic lo hi =
    record { topic = topic; field = None; scale = 0; truth = false; lo = lo; hi = hi; init = pos 0 }

-- an operator between two expressions, wherever these stand in memory
abbrev pub IsBinary : Op → Term → Term → Span → Term → Type 0
IsBinary op left right at t =
    (p : Box (Unit {0})) × (q : Box (Unit {0})) × (t ≡ Binary' op p left q right at)

-- a condition and its two branches, wherever these stand in memory
abbrev pub IsChoice : Term → Term → Term → Span → Term → Type 0
IsChoice cond first second at t =
    (p : Box (Unit {0})) × (q : Box (Unit {0})) × (r : Box (Unit {0}))
    × (t ≡ If' p cond q first r second at)
