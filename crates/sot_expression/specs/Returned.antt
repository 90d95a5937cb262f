-- What a function returned, seen as what is read.
use Rattle.std.specs.Prelude.{◌≡◌, List, Result, Ok, Err}
use Rattle.sot_text.specs.Reading.{Lexeme}
use Rattle.sot_text.specs.Ahead.{Ahead}
use Rattle.sot_expression.specs.declared.fail.Fail.{Fail}
use Rattle.sot_expression.specs.declared.fail.Fail.TheVariants.{Token, Deep, Memory}
use Rattle.sot_expression.specs.Readers.{Read, stuck, deep}

-- a function failed as the reader does, at the next token then, unless memory ran out
abbrev pub Fails : {Y : Type 0} → Fail → List Lexeme → Read Y → Type 0
Fails Token after read = read ≡ Err (stuck, after)
Fails Deep after read = read ≡ Err (deep, after)
Fails Memory after read = Unit {0}

-- this was read, and these tokens stand behind it
abbrev pub Tells : {X Y : Type 0} → (X → Y) → Result X Fail → List Lexeme → Read Y → Type 0
Tells view (Ok x) after read = read ≡ Ok (view x, after)
Tells view (Err e) after read = Fails e after read

-- this was read, these tokens stand behind it, and how the tokens end stays
abbrev pub Gives : {X Y : Type 0} → (X → Y) → Result X Fail → Ahead → Ahead → Read Y → Type 0
Gives view result before after read = Tells view result after.tokens read × (after.end ≡ before.end)

-- this was made, unless memory ran out
abbrev pub Makes : {X Y : Type 0} → (X → Y) → Result X Fail → Y → Type 0
Makes view (Ok x) made = view x ≡ made
Makes view (Err e) made = e ≡ Memory
