-- A text spells the program that is read, and no other.
use Rattle.std.proofs.Common.{◌≡◌, ℕ, true, false, List, [], ◌∷◌, Option, None, Some, Result, Ok, Err, refl, sym, ap, subst, ◌∙◌}
use Rattle.std.specs.Prelude.{IfOk, IsErrOf}
use Rattle.sot_text.specs.Reading.{Lexeme}
use Rattle.sot_text.specs.declared.token.LexFault.{LexFault}
use Rattle.sot_text.specs.Ahead.{Ahead, Comes, ahead_from}
use Rattle.sot_text.proofs.Aheads.{ahead_comes, comes_unique}
use Rattle.sot_syntax_tree.specs.declared.tree.Program.{Program as CodeProgram}
use Rattle.sot_syntax_tree.specs.Trees.{Program, Declaration}
use Rattle.sot_syntax_tree.specs.TreeViews.{program_view}
use Rattle.sot_parser.specs.declared.syntax.Syntax.{Syntax}
use Rattle.sot_parser.specs.declared.syntax.ParseFail.{ParseFail}
use Rattle.sot_parser.specs.declared.syntax.ParseFail.TheVariants as fails
use Rattle.sot_parser.specs.Pieces.{each}
use Rattle.sot_parser.specs.Declarations.{spelled_declaration, declaration_levels}
use Rattle.sot_parser.specs.Programs.{IsProgramText, Spells}
use Rattle.sot_parser.specs.DeclarationReaders.{declarations_at, program_at}
use Rattle.sot_parser.specs.ParseAnswers.{IsRead, Answers, is_ended, stuck_syntax, deep_syntax, fault_of, fault_at}
use Rattle.sot_expression.specs.Readers.{stuck, deep}
use Rattle.sot_expression.proofs.ReadSteps.{bind_ok, ok_is, give}
use Rattle.sot_parser.proofs.DeclarationsSound.{declarations_sound, most_fit}
use Rattle.sot_parser.proofs.DeclarationsFull.{declarations_full}

pub text_read : (ts : List Lexeme) (p : Program) → program_at ts ≡ Ok (p, []) → IsProgramText ts p
unfolding program_at
text_read ts p e =
    let d = bind_ok (declarations_at 64 ts) _ (p, []) e in
    let is = ok_is (record { decls = d.0.0 }, d.0.1) (p, []) d.2 in
    let f = declarations_sound 64 ts d.0 d.1 in
    record {
      form = f.0;
      spelled = f.2 ∙ ap (λ (z : Program × List Lexeme). each spelled_declaration f.0 z.1) is;
      means = sym (ap (λ (z : Program × List Lexeme). z.0) is) ∙ ap (λ (ds : List Declaration). record { decls = ds }) f.3;
      nests = most_fit declaration_levels 64 f.0 f.1;
    }

pub read_text : (ts : List Lexeme) (p : Program) → IsProgramText ts p → program_at ts ≡ Ok (p, [])
unfolding program_at
read_text ts p is =
    ap program_at is.spelled ∙ give (declarations_full 64 is.form is.nests) _ _ (ap (λ (q : Program). Ok (q, [])) (sym is.means))

-- the same of a text, from a place on
pub spells_takes : (bytes : List ℕ) (at : ℕ) (p : Program) → IsRead (ahead_from bytes at) p → Spells bytes at p
spells_takes bytes at p read =
    let a : Ahead = ahead_from bytes at in
    let end : a ≡ record { tokens = a.tokens; end = None } = ap (λ o. record { tokens = a.tokens; end = o }) read.1 in
    record { tokens = a.tokens; text = subst (Comes bytes at) end (ahead_comes bytes at); is = text_read a.tokens p read.0 }

pub spells_back : (bytes : List ℕ) (at : ℕ) (p : Program) → Spells bytes at p → IsRead (ahead_from bytes at) p
spells_back bytes at p spells =
    let b : Ahead = record { tokens = spells.tokens; end = None } in
    let same : ahead_from bytes at ≡ b = comes_unique bytes at (ahead_from bytes at) b (ahead_comes bytes at) spells.text in
    subst (λ a. IsRead a p) (sym same) (read_text spells.tokens p spells.is, refl)

pub spells_unique : (bytes : List ℕ) (at : ℕ) (p q : Program) → Spells bytes at p → Spells bytes at q → p ≡ q
spells_unique bytes at p q a b =
    let one = spells_back bytes at p a in
    let two = spells_back bytes at q b in
    ap (λ (z : Program × List Lexeme). z.0) (ok_is (p, []) (q, []) (sym one.0 ∙ two.0))

-- what the answers of `parse` mean
pub answers_ok : (r : Result CodeProgram ParseFail) (bytes : List ℕ) (at : ℕ) → Answers r bytes (ahead_from bytes at)
    → IfOk r (λ program. Spells bytes at (program_view program))
answers_ok (Ok program) bytes at e = spells_takes bytes at (program_view program) e
answers_ok (Err f) bytes at e = tt

pub answers_only : (r : Result CodeProgram ParseFail) (bytes : List ℕ) (at : ℕ) → Answers r bytes (ahead_from bytes at)
    → IfOk r (λ program. (other : Program) → Spells bytes at other → other ≡ program_view program)
answers_only (Ok program) bytes at e =
    λ other spells. spells_unique bytes at other (program_view program) spells (spells_takes bytes at (program_view program) e)
answers_only (Err f) bytes at e = tt

pub answers_syntax : (r : Result CodeProgram ParseFail) (bytes : List ℕ) (at : ℕ) → Answers r bytes (ahead_from bytes at) → (s : Syntax)
    → IsErrOf r (fails.Syntax s) → (program : Program) → ¬ (Spells bytes at program)
answers_syntax (Ok program) bytes at e s is = absurd cc
answers_syntax (Err (fails.Syntax t)) bytes at e s is = λ program spells. e.1 program (spells_back bytes at program spells)
answers_syntax (Err fails.Memory) bytes at e s is = absurd cc

pub answers_place : (r : Result CodeProgram ParseFail) (bytes : List ℕ) (at : ℕ) → Answers r bytes (ahead_from bytes at) → (s : Syntax)
    → IsErrOf r (fails.Syntax s) → s ≡ fault_at bytes at
unfolding fault_at
answers_place (Ok program) bytes at e s is = absurd cc
answers_place (Err (fails.Syntax t)) bytes at e s is = (let same : s ≡ t = cc in same ∙ e.0)
answers_place (Err fails.Memory) bytes at e s is = absurd cc

-- the fault is where reading stopped
same_end : (before after : Ahead) → after.end ≡ before.end → after ≡ record { tokens = after.tokens; end = before.end }
same_end before after stays = ap (λ (o : Option LexFault). record { tokens = after.tokens; end = o }) stays

pub stuck_place : (bytes : List ℕ) (before after : Ahead) → program_at before.tokens ≡ Err (stuck, after.tokens) → after.end ≡ before.end
    → stuck_syntax bytes after ≡ fault_of bytes before.end (program_at before.tokens)
stuck_place bytes before after read stays = ap (stuck_syntax bytes) (same_end before after stays) ∙ sym (ap (fault_of bytes before.end) read)

pub deep_place : (bytes : List ℕ) (before after : Ahead) → program_at before.tokens ≡ Err (deep, after.tokens) → after.end ≡ before.end
    → deep_syntax bytes after ≡ fault_of bytes before.end (program_at before.tokens)
deep_place bytes before after read stays = ap (deep_syntax bytes) (same_end before after stays) ∙ sym (ap (fault_of bytes before.end) read)

pub more_place : (bytes : List ℕ) (before after : Ahead) (p : Program) → program_at before.tokens ≡ Ok (p, after.tokens) → after.end ≡ before.end
    → stuck_syntax bytes after ≡ fault_of bytes before.end (program_at before.tokens)
more_place bytes before after p read stays = ap (stuck_syntax bytes) (same_end before after stays) ∙ sym (ap (fault_of bytes before.end) read)

-- a program was read, and the text ends; or something stands behind it
ended_is : (ts : List Lexeme) (end : Option LexFault) → is_ended (record { tokens = ts; end = end }) ≡ true → (ts ≡ []) × (end ≡ None)
ended_is [] None e = (refl, refl)
ended_is [] (Some f) e = absurd cc
ended_is (t ∷ ts) end e = absurd cc

not_ended_is : (ts : List Lexeme) (end : Option LexFault) → is_ended (record { tokens = ts; end = end }) ≡ false → ts ≡ [] → end ≡ None → ⊥
not_ended_is [] None e none over = absurd cc
not_ended_is [] (Some f) e none over = absurd cc
not_ended_is (t ∷ ts) end e none over = absurd cc

pub read_all : (before after : Ahead) (p : Program) → program_at before.tokens ≡ Ok (p, after.tokens) → after.end ≡ before.end → is_ended after ≡ true
    → IsRead before p
read_all before after p read stays over =
    let e = ended_is after.tokens after.end over in
    (read ∙ ap (λ (ts : List Lexeme). Ok (p, ts)) e.0, sym stays ∙ e.1)

pub not_all : (before after : Ahead) (p : Program) → program_at before.tokens ≡ Ok (p, after.tokens) → after.end ≡ before.end → is_ended after ≡ false
    → (program : Program) → ¬ (IsRead before program)
not_all before after p read stays more program all =
    let is = ok_is (p, after.tokens) (program, []) (sym read ∙ all.0) in
    not_ended_is after.tokens after.end more (ap (λ (z : Program × List Lexeme). z.1) is) (stays ∙ all.1)

pub none_read : (ahead : Ahead) (f : _) → program_at ahead.tokens ≡ Err f → (program : Program) → ¬ (IsRead ahead program)
none_read ahead f e program read = absurd cc
