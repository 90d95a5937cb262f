-- The place at which reading stops is the one that the grammar gives.
use Rattle.std.proofs.Common.{◌≡◌, ℕ, suc, zero, ◌<◌, ◌≤◌, ◌+◌, map, nat_lt, length, length-append, List, [], ◌∷◌, ◌++◌, Option, None, Some, Ok, Err, inl, inr}
use Rattle.std.proofs.Common.{refl, sym, ap, subst, ◌∙◌, append_assoc, append-nil, arith}
use Rattle.std.proofs.lemmas.Bool.{cases_Bool}
use Rattle.std.proofs.lemmas.Bool.Decides.{nat_tests}
use Rattle.sot_text.specs.declared.token.LexFault.{LexFault}
use Rattle.sot_text.specs.Reading.{Lexeme}
use Rattle.sot_text.specs.Ahead.{Ahead, ahead_from}
use Rattle.sot_syntax_tree.specs.Trees.{Program, Declaration}
use Rattle.sot_expression.specs.Stream.{first_of}
use Rattle.sot_expression.specs.Readers.{Read, stuck, deep, ◌>>=◌}
use Rattle.sot_parser.specs.declared.syntax.Syntax.{Syntax}
use Rattle.sot_parser.specs.ListReaders.{repeated, all_at}
use Rattle.sot_parser.specs.Pieces.{each}
use Rattle.sot_parser.specs.Declarations.{DeclarationForm, spelled_declaration, declaration_of, declaration_levels, most}
use Rattle.sot_parser.specs.Programs.{spelled_program, program_levels, Spells}
use Rattle.sot_parser.specs.DeclarationReaders.{declaration_at, declarations_at, program_at, is_some}
use Rattle.sot_parser.specs.ParseAnswers.{fault_of, fault_at, stuck_syntax, deep_syntax, at_end}
use Rattle.sot_expression.proofs.ReadSteps.{bind_ok, ok_is, give}
use Rattle.sot_parser.proofs.Shorter.{Short, declaration_short}
use Rattle.sot_parser.proofs.DeclarationsSound.{declarations_sound}
use Rattle.sot_parser.proofs.DeclarationsFull.{declarations_full}
use Rattle.sot_parser.proofs.ProgramTexts.{spells_takes}
use Rattle.sot_law_fault_place.specs.Places.{IsText, Begins, IsFaultOf, no_token, wrong_token, too_short, too_deep}
use Rattle.sot_law_fault_place.specs.Laws.{PlacesAreExact}
use Rattle.sot_law_fault_place.proofs.Stops.{err, real_append, Begun, Stop}
use Rattle.sot_law_fault_place.proofs.DeclarationStops.{declarations_twin}
use Rattle.sot_law_fault_place.proofs.Tracks.{Track}
use Rattle.sot_law_fault_place.proofs.DeclarationTracks.{declarations_tracks}

-- a list goes on to its end
repeated_ends : {A : Type 0} (item : List Lexeme → Read A) → Short item → (n : ℕ) (ts : List Lexeme) (y : List A × List Lexeme) → length ts < n
    → repeated is_some item n ts ≡ Ok y → y.1 ≡ []
unfolding repeated
repeated_ends item short zero ts y enough e = absurd (omega (arith, enough))
repeated_ends item short (suc n) [] y enough e = sym (ap (λ (z : _ × List Lexeme). z.1) (ok_is ([], []) y e))
repeated_ends item short (suc n) (t ∷ ts) y enough e =
    let x = bind_ok (item (t ∷ ts)) _ y e in
    let more = bind_ok (repeated is_some item n x.0.1) _ y x.2 in
    let less = short (t ∷ ts) x.0 x.1 in
    let end = repeated_ends item short n x.0.1 more.0 (omega (arith, less, enough)) more.1 in
    sym (ap (λ (z : _ × List Lexeme). z.1) (ok_is _ y more.2)) ∙ end

declarations_end : (room : ℕ) (ts : List Lexeme) (y : List Declaration × List Lexeme) → declarations_at room ts ≡ Ok y → y.1 ≡ []
unfolding declarations_at all_at
declarations_end room ts y e = repeated_ends (declaration_at room) (declaration_short room) (suc (length ts)) ts y (omega arith) e

-- some text begins so
begins_by : (used : List Lexeme) → Begun (each spelled_declaration) used → Begins used
begins_by used b = (b.more ++ [], real_append b.more [] b.real tt, (b.form, sym (b.spells [])))

-- what stands before the same tokens is the same
same_front : (us vs ws : List Lexeme) → us ++ ws ≡ vs ++ ws → us ≡ vs
same_front [] [] ws e = refl
same_front [] (v ∷ vs) ws e = absurd (omega (arith, ap length e, length-append vs ws))
same_front (u ∷ us) [] ws e = absurd (omega (arith, ap length e, length-append us ws))
same_front (u ∷ us) (v ∷ vs) ws e =
    let head : u ≡ v = cc in
    let tail : us ++ ws ≡ vs ++ ws = cc in
    let rest : us ≡ vs = same_front us vs ws tail in
    rw (head, rest) refl

-- a text of the grammar is read, where there is room
text_read : (form : List DeclarationForm) (room : ℕ) → most declaration_levels form ≤ room → (ts : List Lexeme) → ts ≡ spelled_program form
    → declarations_at room ts ≡ Ok (map declaration_of form, [])
text_read form room fits ts is = ap (declarations_at room) is ∙ declarations_full room form fits

-- where reading sticks, no text goes on
no_text_goes_on : (room : ℕ) (ts used rest us : List Lexeme) → declarations_at room ts ≡ Err (stuck, rest) → ts ≡ used ++ rest → first_of us ≡ first_of rest
    → IsText (used ++ us) → ⊥
no_text_goes_on room ts used rest us e split first (form, is) =
    let wide = room + most declaration_levels form in
    let t : Track ⊥ (declarations_at wide) (err {A = List Declaration} (stuck, rest)) ts =
    subst (λ m. Track ⊥ (declarations_at wide) m ts) e (declarations_tracks {Same = ⊥} room wide (omega arith) (λ z. absurd z) ts) in
    let same : t.used ≡ used = same_front t.used used rest (sym t.split ∙ split) in
    let stays : declarations_at wide (used ++ us) ≡ Err (stuck, us) = ap (λ ws. declarations_at wide (ws ++ us)) (sym same) ∙ t.same us first in
    let read : declarations_at wide (used ++ us) ≡ Ok (map declaration_of form, []) = text_read form wide (omega arith) (used ++ us) is in
    absurd (cc)

-- where it would nest too deep, no text goes on that has room
pub no_text_fits : (room : ℕ) (ts used rest us : List Lexeme) → declarations_at room ts ≡ Err (deep, rest) → ts ≡ used ++ rest → first_of us ≡ first_of rest
    → (form : List DeclarationForm) → most declaration_levels form ≤ room → spelled_program form ≡ used ++ us → ⊥
no_text_fits room ts used rest us e split first form fits is =
    let t : Track (Unit {0}) (declarations_at room) (err {A = List Declaration} (deep, rest)) ts =
    subst (λ m. Track (Unit {0}) (declarations_at room) m ts) e (declarations_tracks {Same = Unit {0}} room room (omega arith) (λ z. refl) ts) in
    let same : t.used ≡ used = same_front t.used used rest (sym t.split ∙ split) in
    let stays : declarations_at room (used ++ us) ≡ Err (deep, us) = ap (λ ws. declarations_at room (ws ++ us)) (sym same) ∙ t.same us first tt in
    let read : declarations_at room (used ++ us) ≡ Ok (map declaration_of form, []) = text_read form room fits (used ++ us) (sym is) in
    absurd (cc)

-- so only what nests too deep goes on
only_deep_goes_on : (ts used rest us : List Lexeme) → declarations_at 64 ts ≡ Err (deep, rest) → ts ≡ used ++ rest → first_of us ≡ first_of rest
    → (form : List DeclarationForm) → spelled_program form ≡ used ++ us → 64 < program_levels form
only_deep_goes_on ts used rest us e split first form is = elim (cases_Bool (nat_lt 64 (program_levels form))) [
  | inl more ↦ grind (arith, nat_tests)
  | inr few ↦ (
      let fits : most declaration_levels form ≤ 64 = grind (arith, nat_tests) in
      absurd (no_text_fits 64 ts used rest us e split first form fits is)
      )
]

-- the fault at the end of the tokens
end_fault : (bytes : List ℕ) (ts : List Lexeme) (end : Option LexFault) → Begins ts → (end ≡ None → IsText ts → ⊥)
    → IsFaultOf bytes (record { tokens = ts; end = end }) (at_end bytes end)
end_fault bytes ts None begins no_text = too_short (record { begins = begins; no_text = no_text refl; ended = refl }) refl
end_fault bytes ts (Some f) begins no_text = no_token f refl begins refl

used_only : (used ts : List Lexeme) → ts ≡ used ++ [] → ts ≡ used
used_only used ts e = e ∙ append-nil used

-- each way in which reading stops
pub stuck_fault : (bytes : List ℕ) (room : ℕ) (ts : List Lexeme) (end : Option LexFault) (rest : List Lexeme) → declarations_at room ts ≡ Err (stuck, rest)
    → Stop (each spelled_declaration) (stuck, rest) ts
    → IsFaultOf bytes (record { tokens = ts; end = end }) (stuck_syntax bytes (record { tokens = rest; end = end }))
stuck_fault bytes room ts end [] e stop =
    let same = used_only stop.used ts stop.split in
    let begins : Begins ts = subst Begins (append-nil stop.used ∙ sym same) (begins_by (stop.used ++ []) stop.begun) in
    end_fault bytes ts end begins (λ _ text. no_text_goes_on room ts stop.used [] [] e stop.split refl (subst IsText stop.split text))
stuck_fault bytes room ts end (t ∷ rest) e stop =
    wrong_token t (record {
      before = stop.used;
      behind = rest;
      tokens = stop.split;
      begins = subst Begins (append-nil stop.used) (begins_by (stop.used ++ []) stop.begun);
      nothing =
          λ more text. no_text_goes_on room ts stop.used (t ∷ rest) (t ∷ more) e stop.split refl (subst IsText (append_assoc stop.used (t ∷ []) more) text);
    }) refl

deep_fault : (bytes : List ℕ) (ts : List Lexeme) (end : Option LexFault) (rest : List Lexeme) → declarations_at 64 ts ≡ Err (deep, rest)
    → Stop (each spelled_declaration) (deep, rest) ts → IsFaultOf bytes (record { tokens = ts; end = end })
    (deep_syntax bytes (record { tokens = rest; end = end }))
deep_fault bytes ts end [] e stop = absurd stop.token
deep_fault bytes ts end (t ∷ rest) e stop =
    too_deep t (record {
      before = stop.used;
      behind = rest;
      tokens = stop.split;
      begins = begins_by (stop.used ++ t ∷ []) stop.begun;
      only_deep = λ form more is. only_deep_goes_on ts stop.used (t ∷ rest) (t ∷ more) e stop.split refl form (is ∙ append_assoc stop.used (t ∷ []) more);
    }) refl

-- a whole text is one of the grammar
pub whole_is_text : (room : ℕ) (ts : List Lexeme) (y : List Declaration × List Lexeme) → declarations_at room ts ≡ Ok y → IsText ts
whole_is_text room ts y e =
    let found = declarations_sound room ts y e in
    (found.0, found.2 ∙ ap (each spelled_declaration found.0) (declarations_end room ts y e))

-- only a token can be missing behind it
pub whole_fault : (bytes : List ℕ) (ahead : Ahead) → IsText ahead.tokens → (ahead.end ≡ None → ⊥) → IsFaultOf bytes ahead (at_end bytes ahead.end)
whole_fault bytes ahead text goes_on =
    end_fault bytes ahead.tokens ahead.end ([], tt, subst IsText (sym (append-nil ahead.tokens)) text) (λ ended _. goes_on ended)

-- where a whole text spells no program
no_program : (bytes : List ℕ) (at : ℕ) → ((program : Program) → Spells bytes at program → ⊥) → (y : List Declaration × List Lexeme)
    → declarations_at 64 (ahead_from bytes at).tokens ≡ Ok y
    → IsFaultOf bytes (ahead_from bytes at) (stuck_syntax bytes (record { tokens = y.1; end = (ahead_from bytes at).end }))
unfolding program_at
no_program bytes at none y e =
    let ahead : Ahead = ahead_from bytes at in
    let is : y.1 ≡ [] = declarations_end 64 ahead.tokens y e in
    let read : program_at ahead.tokens ≡ Ok (record { decls = y.0 }, []) = give e _ _ (ap (λ (us : List Lexeme). Ok (record { decls = y.0 }, us)) is) in
    subst (λ us. IsFaultOf bytes ahead (stuck_syntax bytes (record { tokens = us; end = ahead.end }))) (sym is)
    (whole_fault bytes ahead (whole_is_text 64 ahead.tokens y e)
    (λ ended. none (record { decls = y.0 }) (spells_takes bytes at (record { decls = y.0 }) (read, ended))))

pub places_are_exact : PlacesAreExact
unfolding fault_at program_at
places_are_exact bytes at none = by (declarations_at 64 (ahead_from bytes at).tokens) refl
  where
    ahead : Ahead
    ahead = ahead_from bytes at

    by : (m : Read (List Declaration)) → declarations_at 64 (ahead_from bytes at).tokens ≡ m
        → IsFaultOf bytes (ahead_from bytes at) (fault_of bytes (ahead_from bytes at).end (m >>= λ decls. Ok (record { decls = decls.0 }, decls.1)))
    by (Ok y) e = no_program bytes at none y e
    by (Err (stuck, rest)) e =
        stuck_fault bytes 64 (ahead_from bytes at).tokens (ahead_from bytes at).end rest e
        ((declarations_twin 63).stops (ahead_from bytes at).tokens (stuck, rest) e)
    by (Err (deep, rest)) e =
        deep_fault bytes (ahead_from bytes at).tokens (ahead_from bytes at).end rest e
        ((declarations_twin 63).stops (ahead_from bytes at).tokens (deep, rest) e)

-- the same of a fault that is where reading stops
pub fault_is_placed : (bytes : List ℕ) (at : ℕ) (fault : Syntax) → ((program : Program) → Spells bytes at program → ⊥) → fault ≡ fault_at bytes at
    → IsFaultOf bytes (ahead_from bytes at) fault
fault_is_placed bytes at fault none is = subst (IsFaultOf bytes (ahead_from bytes at)) (sym is) (places_are_exact bytes at none)
