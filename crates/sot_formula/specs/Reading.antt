-- What tokens spell as a formula, read from the left: its parts, and whether some reference names
-- nothing or some literal has another scale.
use Rattle.std.specs.Prelude.{ℕ, zero, suc, ◌-◌, List, [], ◌∷◌, ◌++◌, Bool, true, false, ◌==◌, ◌||◌}
use Rattle.std.specs.Prelude.{◌&&◌, not, int_le, pos, codes, Option, None, Some, Ok, Err, length}
use Rattle.std.specs.Prelude.{if◌then◌else◌, nat_abs}
use Rattle.sot_text.specs.Reading.{Lexeme}
use Rattle.sot_lang.specs.Tables.{Tables}
use Rattle.sot_syntax_tree.specs.declared.tree.Lit.{Lit}
use Rattle.sot_expression.specs.Lexemes.{begins, is_sign, is_name}
use Rattle.sot_expression.specs.Readers.{Read, ◌>>=◌, stuck, deep, one_token, expect, number_at}
use Rattle.sot_expression.specs.Readers.{literal_at}
use Rattle.sot_expression.specs.Stream.{first_of}
use Rattle.sot_formula.specs.declared.quantity.Comparison.{Comparison}
use Rattle.sot_formula.specs.declared.quantity.Pairing.{Pairing}
use Rattle.sot_formula.specs.declared.what.What.{What}
use Rattle.sot_formula.specs.declared.what.What.TheVariants as whats
use Rattle.sot_formula.specs.declared.words.Single.{Single}
use Rattle.sot_formula.specs.declared.words.Double.{Double}
use Rattle.sot_formula.specs.declared.words.FormulaOpening.{FormulaOpening}
use Rattle.sot_formula.specs.declared.words.FormulaOpening.TheVariants as openings
use Rattle.sot_formula.specs.declared.words.Word.{Word}
use Rattle.sot_formula.specs.declared.words.Word.TheVariants as words
use Rattle.sot_formula.specs.declared.finding.FoundQuantity.{FoundQuantity}
use Rattle.sot_formula.specs.Phrases.{most_parts}
use Rattle.sot_formula.specs.Words.{comparing_from, pairing_from, opening_from, word_of, is_mode}
use Rattle.sot_formula.specs.Words.{single_what, double_what}
use Rattle.sot_formula.specs.Finding.{plain_named, part_named, module_named}

-- the parts so far, whether some reference named nothing, and whether some comparison had two
-- scales
pub record Laid : Type 0 where
  pub whats : List What
  pub unknown : Bool
  pub differs : Bool

abbrev pub none_laid : Laid
none_laid = record { whats = []; unknown = false; differs = false }

-- the place of the last part
abbrev pub place : Laid → ℕ
place s = length s.whats - 1

abbrev pub put : What → Laid → Laid
put w s = record { whats = s.whats ++ w ∷ []; unknown = s.unknown; differs = s.differs }

-- a comparison of what was found, or a part in its place
abbrev pub compared : Option FoundQuantity → Comparison → Lit → Laid → Laid
compared None by z s =
    record { whats = s.whats ++ whats.Truth false ∷ []; unknown = true; differs = s.differs }
compared (Some x) by z s = record {
  whats = s.whats ++ whats.Compared x.of by z.mantissa ∷ [];
  unknown = s.unknown;
  differs = s.differs || not (x.scale == z.scale);
}

-- a part in the place of a comparison whose reference named nothing
abbrev pub unnamed : Laid → Laid
unnamed s =
    record { whats = s.whats ++ whats.Truth false ∷ []; unknown = true; differs = s.differs }

-- two quantities compared
abbrev pub against : Option FoundQuantity → Comparison → Option FoundQuantity → Laid → Laid
against None by other s = unnamed s
against (Some x) by None s = unnamed s
against (Some x) by (Some y) s = record {
  whats = s.whats ++ whats.Against x.of by y.of ∷ [];
  unknown = s.unknown;
  differs = s.differs || not (x.scale == y.scale);
}

-- two quantities together
abbrev pub paired : Option FoundQuantity → Pairing → Option FoundQuantity → Comparison → Lit → Laid
    → Laid
paired None j other by z s = unnamed s
paired (Some x) j None by z s = unnamed s
paired (Some x) j (Some y) by z s = record {
  whats = s.whats ++ whats.Paired x.of j y.of by z.mantissa ∷ [];
  unknown = s.unknown;
  differs = s.differs || (not (x.scale == z.scale) || not (y.scale == z.scale));
}

-- the next token, if it is a name
abbrev pub name_token : List Lexeme → Read Lexeme
name_token ts = one_token is_name (λ t. t) ts

-- the next token, whatever it is
abbrev pub any_token : List Lexeme → Read Lexeme
any_token [] = Err (stuck, [])
any_token (t ∷ ts) = Ok (t, ts)

abbrev pub found_or_stuck : {A : Type 0} → Option A → List Lexeme → Read A
found_or_stuck None ts = Err (stuck, ts)
found_or_stuck (Some x) ts = Ok (x, ts)

-- the comparison whose sign comes next
unfoldable pub comparing_at : List Lexeme → Read Comparison
comparing_at ts = do
  by ← found_or_stuck (comparing_from (first_of ts)) ts
  t ← any_token by.1
  Ok (by.0, t.1)

-- a whole number of ticks
abbrev pub ticks_of : Lit → ℕ
ticks_of n = nat_abs n.mantissa

abbrev pub are_ticks : Lit → Bool
are_ticks n = n.scale == 0 && int_le n.mantissa (pos 100000)

unfoldable pub ticks_at : List Lexeme → Read ℕ
ticks_at ts = do
  n ← number_at ts
  if are_ticks n.0 then Ok (ticks_of n.0, n.1) else Err (stuck, n.1)

-- what reads a formula
abbrev pub Reader : Type 0
Reader = Laid → List Lexeme → Read Laid

-- a part in parentheses
unfoldable pub single_at : Single → Reader → Reader
single_at o inner s ts = do
  begin ← expect (is_sign (codes "(")) ts
  f ← inner s begin.1
  end ← expect (is_sign (codes ")")) f.1
  Ok (put (single_what o (place f.0)) f.0, end.1)

-- a comma and a part, joined with the last one
unfoldable pub joined_at : Double → Reader → Reader
joined_at o inner s ts = do
  comma ← expect (is_sign (codes ",")) ts
  g ← inner s comma.1
  Ok (put (double_what o (place s) (place g.0)) g.0, g.1)

-- at most so many parts more
unfoldable pub more_at : Double → Reader → ℕ → Reader
more_at o inner zero s ts = Ok (s, ts)
more_at o inner (suc count) s ts =
    if begins (is_sign (codes ",")) ts
    then (joined_at o inner s ts >>= λ g. more_at o inner count g.0 g.1)
    else Ok (s, ts)

-- two parts at least
unfoldable pub row_at : Double → Reader → Reader
row_at o inner s ts = do
  f ← inner s ts
  g ← joined_at o inner f.0 f.1
  more_at o inner (most_parts o - 2) g.0 g.1

-- a row in parentheses
unfoldable pub double_at : Double → Reader → Reader
double_at o inner s ts = do
  begin ← expect (is_sign (codes "(")) ts
  row ← row_at o inner s begin.1
  end ← expect (is_sign (codes ")")) row.1
  Ok (row.0, end.1)

-- ticks and a part
unfoldable pub within_at : Reader → Reader
within_at inner s ts = do
  begin ← expect (is_sign (codes "(")) ts
  n ← ticks_at begin.1
  comma ← expect (is_sign (codes ",")) n.1
  f ← inner s comma.1
  end ← expect (is_sign (codes ")")) f.1
  Ok (put (whats.Within n.0 (place f.0)) f.0, end.1)

-- a module in parentheses
unfoldable pub mode_at : Tables → List Lexeme → Read (Option FoundQuantity)
mode_at p ts = do
  begin ← expect (is_sign (codes "(")) ts
  n ← name_token begin.1
  end ← expect (is_sign (codes ")")) n.1
  Ok (module_named p n.0.text, end.1)

-- a point and a name behind a name
unfoldable pub part_at : Tables → Lexeme → List Lexeme → Read (Option FoundQuantity)
part_at p n ts = do
  dot ← expect (is_sign (codes ".")) ts
  f ← name_token dot.1
  Ok (part_named p n.text f.0.text, f.1)

-- what stands behind the first name of a reference
unfoldable pub behind_reference_at : Tables → Lexeme → List Lexeme → Read (Option FoundQuantity)
behind_reference_at p n ts =
    if begins (is_sign (codes "(")) ts
    then (if is_mode n.text then mode_at p ts else Err (stuck, ts))
    else if begins (is_sign (codes ".")) ts then part_at p n ts
    else Ok (plain_named p n.text, ts)

unfoldable pub reference_at : Tables → List Lexeme → Read (Option FoundQuantity)
reference_at p ts = name_token ts >>= λ n. behind_reference_at p n.0 n.1

-- a reference or a literal behind the sign of a comparison
unfoldable pub other_at : Tables → Option FoundQuantity → Comparison → Reader
other_at p found by s ts =
    if begins is_name ts then (reference_at p ts >>= λ r. Ok (against found by r.0 s, r.1))
    else (literal_at ts >>= λ z. Ok (compared found by z.0 s, z.1))

-- the sign behind a reference that stands alone, and what it is compared with
unfoldable pub alone_at : Tables → Option FoundQuantity → Reader
alone_at p found s ts = comparing_at ts >>= λ by. other_at p found by.0 s by.1

-- the sign of a sum or difference behind a reference, another one, and a literal
unfoldable pub paired_at : Tables → Option FoundQuantity → Pairing → Reader
paired_at p found j s ts = do
  t ← any_token ts
  r ← reference_at p t.1
  by ← comparing_at r.1
  z ← literal_at by.1
  Ok (paired found j r.0 by.0 z.0 s, z.1)

unfoldable pub tail_at : Tables → Option FoundQuantity → Option Pairing → Reader
tail_at p found None s ts = alone_at p found s ts
tail_at p found (Some j) s ts = paired_at p found j s ts

-- what stands behind a reference
unfoldable pub comparison_at : Tables → Option FoundQuantity → Reader
comparison_at p found s ts = tail_at p found (pairing_from (first_of ts)) s ts

unfoldable pub mode_compared_at : Tables → Reader
mode_compared_at p s ts = mode_at p ts >>= λ r. comparison_at p r.0 s r.1

-- a reference that begins with this name, and what it is compared with
unfoldable pub named_at : Tables → Lexeme → Reader
named_at p n s ts =
    if begins (is_sign (codes ".")) ts then (part_at p n ts >>= λ r. comparison_at p r.0 s r.1)
    else comparison_at p (plain_named p n.text) s ts

-- what stands in parentheses behind a name
unfoldable pub called_at : Tables → Reader → Word → Reader
called_at p inner (words.Single o) s ts = single_at o inner s ts
called_at p inner (words.Double o) s ts = double_at o inner s ts
called_at p inner words.Within s ts = within_at inner s ts
called_at p inner words.Mode s ts = mode_compared_at p s ts
called_at p inner words.Other s ts = Err (stuck, ts)

unfoldable pub behind_name_at : Tables → Reader → Lexeme → Reader
behind_name_at p inner n s ts =
    if begins (is_sign (codes "(")) ts then called_at p inner (word_of n.text) s ts
    else named_at p n s ts

-- a formula that begins so
unfoldable pub opened_at : Tables → Reader → FormulaOpening → Reader
opened_at p inner (openings.Truth value) s ts = do
  t ← any_token ts
  Ok (put (whats.Truth value) s, t.1)
opened_at p inner (openings.Single o) s ts = any_token ts >>= λ t. single_at o inner s t.1
opened_at p inner (openings.Double o) s ts = any_token ts >>= λ t. double_at o inner s t.1
opened_at p inner openings.Name s ts = name_token ts >>= λ n. behind_name_at p inner n.0 s n.1
opened_at p inner openings.Other s ts = Err (stuck, ts)

-- a formula of at most so many levels
unfoldable pub formula_at : Tables → ℕ → Reader
formula_at p zero s ts = Err (deep, ts)
formula_at p (suc room) s ts =
    opened_at p (formula_at p room) (opening_from (first_of ts)) s ts
