-- What is no text of the grammar has a fault that is not one of nesting.
use Rattle.std.proofs.Common.{◌≡◌, ℕ, suc, zero, ◌<◌, ◌≤◌, ◌+◌, length, length-append, List, [], ◌∷◌, ◌++◌, Option, None, Some, Ok, Err, refl, sym, ap, subst}
use Rattle.std.proofs.Common.{◌∙◌, append_assoc, arith}
use Rattle.sot_text.specs.declared.token.LexFault.{LexFault}
use Rattle.sot_text.specs.Reading.{Lexeme}
use Rattle.sot_text.specs.Ahead.{Ahead}
use Rattle.sot_syntax_tree.specs.Trees.{Declaration}
use Rattle.sot_expression.specs.Stream.{first_of}
use Rattle.sot_expression.specs.Readers.{Read, Fault, stuck, deep}
use Rattle.sot_parser.specs.declared.syntax.Syntax.{Syntax}
use Rattle.sot_parser.specs.Pieces.{each}
use Rattle.sot_parser.specs.Declarations.{spelled_declaration, declaration_levels, most}
use Rattle.sot_parser.specs.Programs.{spelled_program}
use Rattle.sot_parser.specs.DeclarationReaders.{declarations_at}
use Rattle.sot_parser.specs.ParseAnswers.{stuck_syntax, at_end}
use Rattle.sot_law_fault_place.specs.Places.{IsText, IsFaultOf, IsExact}
use Rattle.sot_law_fault_place.specs.Laws.{ExactPlacesExist}
use Rattle.sot_law_fault_place.proofs.Stops.{Stop}
use Rattle.sot_law_fault_place.proofs.DeclarationStops.{declarations_twin}
use Rattle.sot_law_fault_place.proofs.ExactPlaces.{no_text_fits, stuck_fault, whole_is_text, whole_fault}

-- a fault that is not one of nesting
abbrev ExactFault : List ℕ → Ahead → Type 0
ExactFault bytes ahead = (fault : Syntax) × IsFaultOf bytes ahead fault × IsExact fault

end_exact : (bytes : List ℕ) (end : Option LexFault) → IsExact (at_end bytes end)
end_exact bytes None = tt
end_exact bytes (Some f) = tt

stuck_exact : (bytes : List ℕ) (ts : List Lexeme) (end : Option LexFault) → IsExact (stuck_syntax bytes (record { tokens = ts; end = end }))
stuck_exact bytes [] end = end_exact bytes end
stuck_exact bytes (t ∷ ts) end = tt

-- one list, parted in two ways: the second part is the shorter one, or ends as the first does
data Ends (used us vs : List Lexeme) (other : List Lexeme) : Type 0 where
  shorter : length vs < length us → Ends used us vs other
  reaches : (between : List Lexeme) → used ≡ other ++ between → vs ≡ between ++ us → Ends used us vs other

behind : (x : Lexeme) (used us vs other : List Lexeme) → Ends used us vs other → Ends (x ∷ used) us vs (x ∷ other)
behind x used us vs other (shorter less) = shorter less
behind x used us vs other (reaches between e f) = reaches between (ap (λ ws. x ∷ ws) e) f

ends : (used other : List Lexeme) (t : Lexeme) (rest vs : List Lexeme) → used ++ t ∷ rest ≡ other ++ vs → Ends used (t ∷ rest) vs other
ends used [] t rest vs e = reaches used refl (sym e)
ends [] (x ∷ other) t rest vs e =
    let tail : rest ≡ other ++ vs = cc in
    shorter (omega (arith, ap length tail, length-append other vs))
ends (y ∷ used) (x ∷ other) t rest vs e =
    let head : y ≡ x = cc in
    let tail : used ++ t ∷ rest ≡ other ++ vs = cc in
    subst (λ z. Ends (y ∷ used) (t ∷ rest) vs (z ∷ other)) head (behind y used (t ∷ rest) vs other (ends used other t rest vs tail))

first_behind : (between : List Lexeme) (t : Lexeme) (us vs : List Lexeme) → first_of (between ++ t ∷ us) ≡ first_of (between ++ t ∷ vs)
first_behind [] t us vs = refl
first_behind (b ∷ between) t us vs = refl

-- where reading nests too deep, fewer tokens than these are left
abbrev IsDeepBefore : {A : Type 0} → ℕ → Read A → Type 0
IsDeepBefore n (Ok y) = Unit {0}
IsDeepBefore n (Err (stuck, ts)) = Unit {0}
IsDeepBefore n (Err (deep, ts)) = length ts < n

module _ (bytes : List ℕ) (ahead : Ahead) (no_text : IsText ahead.tokens → ahead.end ≡ None → ⊥) where
  abbrev Stopped : Fault × List Lexeme → Type 0
  Stopped e = Stop (each spelled_declaration) e ahead.tokens

  -- with the room of a text that goes on from where reading nested too deep, it stops further behind
  further : (n room : ℕ) (t : Lexeme) (rest : List Lexeme) (stop : Stopped (deep, t ∷ rest)) → length (t ∷ rest) < suc n
      → most declaration_levels stop.begun.form ≤ room → (m : Read (List Declaration)) → declarations_at (suc room) ahead.tokens ≡ m → IsDeepBefore n m
  further n room t rest stop few fits (Ok y) e = tt
  further n room t rest stop few fits (Err (stuck, ts)) e = tt
  further n room t rest stop few fits (Err (deep, ts)) e = by (ends stop.used next.used t rest ts (sym stop.split ∙ next.split))
    where
      next : Stopped (deep, ts)
      next = (declarations_twin room).stops ahead.tokens (deep, ts) e

      by : Ends stop.used (t ∷ rest) ts next.used → length ts < n
      by (shorter less) = omega (arith, less, few)
      by (reaches between used_is left_is) =
          let begun = stop.begun in
          let behind_it = between ++ t ∷ (begun.more ++ []) in
          let front : stop.used ++ t ∷ [] ≡ next.used ++ (between ++ t ∷ []) = ap (λ us. us ++ t ∷ []) used_is ∙ append_assoc next.used between (t ∷ []) in
          let spelled : spelled_program begun.form ≡ next.used ++ behind_it =
          begun.spells [] ∙ (ap (λ us. us ++ (begun.more ++ [])) front
          ∙ (append_assoc next.used (between ++ t ∷ []) (begun.more ++ []) ∙ ap (λ us. next.used ++ us) (append_assoc between (t ∷ []) (begun.more ++ [])))) in
          let first : first_of behind_it ≡ first_of ts = first_behind between t (begun.more ++ []) rest ∙ ap first_of (sym left_is) in
          absurd (no_text_fits (suc room) ahead.tokens next.used ts behind_it e next.split first begun.form (omega (arith, fits)) spelled)

  settle : (n room : ℕ) (m : Read (List Declaration)) → declarations_at (suc room) ahead.tokens ≡ m → IsDeepBefore n m → ExactFault bytes ahead
  settle n room (Ok y) e few =
      let text = whole_is_text (suc room) ahead.tokens y e in
      (at_end bytes ahead.end, whole_fault bytes ahead text (no_text text), end_exact bytes ahead.end)
  settle n room (Err (stuck, ts)) e few =
      let stop = (declarations_twin room).stops ahead.tokens (stuck, ts) e in (
        stuck_syntax bytes (record { tokens = ts; end = ahead.end }),
        stuck_fault bytes (suc room) ahead.tokens ahead.end ts e stop,
        stuck_exact bytes ts ahead.end,
      )
  settle n room (Err (deep, [])) e few = absurd ((declarations_twin room).stops ahead.tokens (deep, []) e).token
  settle zero room (Err (deep, t ∷ rest)) e few = absurd (omega (arith, few))
  settle (suc n) room (Err (deep, t ∷ rest)) e few =
      let stop = (declarations_twin room).stops ahead.tokens (deep, t ∷ rest) e in
      let wide = room + most declaration_levels stop.begun.form in
      settle n wide (declarations_at (suc wide) ahead.tokens) refl (further n wide t rest stop few (omega arith) (declarations_at (suc wide) ahead.tokens) refl)

  pub exact_fault : ExactFault bytes ahead
  exact_fault = start (declarations_at 64 ahead.tokens) refl
    where
      start : (m : Read (List Declaration)) → declarations_at 64 ahead.tokens ≡ m → ExactFault bytes ahead
      start (Ok y) e = settle 0 63 (Ok y) e tt
      start (Err (stuck, ts)) e = settle 0 63 (Err (stuck, ts)) e tt
      start (Err (deep, ts)) e = settle (suc (length ts)) 63 (Err (deep, ts)) e (omega arith)

pub exact_places_exist : ExactPlacesExist
exact_places_exist bytes ahead no_text = exact_fault bytes ahead no_text
