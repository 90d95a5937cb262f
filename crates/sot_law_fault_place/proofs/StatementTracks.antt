-- Statements: what is read hangs on the tokens read and on the next one, and more room changes nothing, unless it nests too deep.
use Rattle.std.proofs.Common.{◌≡◌, ℕ, zero, suc, ◌≤◌, ◌==◌, ◌||◌, not, cond, List, [], ◌∷◌, Bool, true, false, codes, Err, refl, sym, ap, ◌∙◌, arith}
use Rattle.std.proofs.lemmas.Bool.Decides.{nat_tests}
use Rattle.std.proofs.lemmas.Bool.{or_parts}
use Rattle.sot_text.specs.Reading.{Lexeme}
use Rattle.sot_syntax_tree.specs.Trees.{Tree, Statement, Block, no_statement}
use Rattle.sot_expression.specs.Lexemes.{begins, is_sign, is_keyword, is_name, ident}
use Rattle.sot_expression.specs.Readers.{Read, stuck, deep, one_token, name_at}
use Rattle.sot_expression.specs.ExpressionReaders.{tree_at}
use Rattle.sot_parser.specs.StatementReaders.{assign_at, field_at, dot_at, publish_at, plain_at, otherwise_at, else_at, branch_at, loop_at, choice_at}
use Rattle.sot_parser.specs.StatementReaders.{nested_at, begins_nested, begins_statement, goes_on, block_at, statement_at}
use Rattle.sot_expression.proofs.ReadSteps.{ok}
use Rattle.sot_parser.proofs.Shorter.{Short, statement_short}
use Rattle.sot_law_fault_place.proofs.Stops.{err}
use Rattle.sot_law_fault_place.proofs.Tracks.{Track, Tracks, IsFirst, begins_first, bind_tracks, ok_tracks, stuck_tracks, deep_tracks, retrack, cond_tracks}
use Rattle.sot_law_fault_place.proofs.ListTracks.{sign_tracks, keyword_tracks, name_tracks, number_tracks, all_tracks}
use Rattle.sot_law_fault_place.proofs.ExpressionTracks.{tree_tracks}

goes_on_first : IsFirst goes_on
goes_on_first ts us e = ap not (begins_first (is_sign (codes "}")) ts us e)

nested_first : IsFirst begins_nested
nested_first ts us e = let a = begins_first (is_keyword (codes "if")) ts us e in let b = begins_first (is_keyword (codes "repeat")) ts us e in rw (a, b) refl

statement_first : IsFirst begins_statement
statement_first ts us e =
    let a = begins_first is_name ts us e in
    let b = begins_first (is_keyword (codes "publish")) ts us e in
    let c = begins_first (is_keyword (codes "if")) ts us e in
    let d = begins_first (is_keyword (codes "repeat")) ts us e in
    rw (a, b, c, d) refl

no_token : {A : Type 0} (test : Lexeme → Bool) (view : Lexeme → A) (us : List Lexeme) → begins test us ≡ false → one_token test view us ≡ Err (stuck, us)
no_token test view [] no_ = refl
no_token test view (u ∷ us) no_ = ap (λ b. cond b (ok (view u, us)) (err (stuck, u ∷ us))) no_

-- where no statement begins, none is read, with whatever room
no_statement_read : (room : ℕ) (us : List Lexeme) → begins_statement us ≡ false → statement_at room us ≡ Err (stuck, us)
unfolding statement_at plain_at assign_at
no_statement_read zero us no_ = ap (λ b. cond b (err {A = Statement} (deep, us)) (err (stuck, us))) no_
no_statement_read (suc r) us no_ =
    let parts = or_parts (begins is_name us || begins (is_keyword (codes "publish")) us) (begins_nested us) no_ in
    let two = or_parts (begins is_name us) (begins (is_keyword (codes "publish")) us) parts.0 in
    let name : name_at us ≡ Err (stuck, us) = no_token is_name ident us two.0 in
    rw (parts.1, two.1, name) refl

module _ {Same : Type 0} where
  module _ (expression other : List Lexeme → Read Tree) (tracks : Tracks Same expression other) where
    assign_tracks : Tracks Same (assign_at expression) (assign_at other)
    unfolding assign_at
    assign_tracks =
        bind_tracks _ _ name_tracks (λ _. bind_tracks _ _ (sign_tracks (codes ":="))
        (λ _. bind_tracks _ _ tracks (λ _. bind_tracks _ _ (sign_tracks (codes ";")) (λ _. ok_tracks _))))

    field_tracks : Tracks Same field_at field_at
    unfolding field_at
    field_tracks = bind_tracks _ _ (sign_tracks (codes ".")) (λ _. bind_tracks _ _ name_tracks (λ _. ok_tracks _))

    dot_tracks : Tracks Same dot_at dot_at
    unfolding dot_at
    dot_tracks = cond_tracks (begins (is_sign (codes "."))) (begins_first (is_sign (codes "."))) field_tracks (ok_tracks _)

    publish_tracks : Tracks Same (publish_at expression) (publish_at other)
    unfolding publish_at
    publish_tracks =
        bind_tracks _ _ (keyword_tracks (codes "publish")) (λ _.
        bind_tracks _ _ name_tracks (λ _. bind_tracks _ _ dot_tracks (λ _. bind_tracks _ _ (sign_tracks (codes "=")) (λ _. bind_tracks _ _ tracks (λ _.
        bind_tracks _ _ (sign_tracks (codes ";")) (λ _. ok_tracks _))))))

    plain_tracks : Tracks Same (plain_at expression) (plain_at other)
    unfolding plain_at
    plain_tracks = cond_tracks (begins (is_keyword (codes "publish"))) (begins_first (is_keyword (codes "publish"))) publish_tracks assign_tracks

  module _ (block other : List Lexeme → Read Block) (tracks : Tracks Same block other) where
    otherwise_tracks : Tracks Same (otherwise_at block) (otherwise_at other)
    unfolding otherwise_at
    otherwise_tracks = bind_tracks _ _ (keyword_tracks (codes "else")) (λ _. tracks)

    else_tracks : Tracks Same (else_at block) (else_at other)
    unfolding else_at
    else_tracks = cond_tracks (begins (is_keyword (codes "else"))) (begins_first (is_keyword (codes "else"))) otherwise_tracks (ok_tracks no_statement)

    branch_tracks : (expression other_expression : List Lexeme → Read Tree) → Tracks Same expression other_expression
        → Tracks Same (branch_at expression block) (branch_at other_expression other)
    unfolding branch_at
    branch_tracks expression other_expression expressions =
        bind_tracks _ _ (keyword_tracks (codes "if")) (λ _. bind_tracks _ _ expressions
        (λ _. bind_tracks _ _ tracks (λ _. bind_tracks _ _ else_tracks (λ _. ok_tracks _))))

    loop_tracks : Tracks Same (loop_at block) (loop_at other)
    unfolding loop_at
    loop_tracks = bind_tracks _ _ (keyword_tracks (codes "repeat")) (λ _. bind_tracks _ _ number_tracks (λ _. bind_tracks _ _ tracks (λ _. ok_tracks _)))

    choice_tracks : (room more : ℕ) → room ≤ more → (Same → room ≡ more)
        → Tracks Same (choice_at room (tree_at room) block) (choice_at more (tree_at more) other)
    choice_tracks room more le equal ts = by (room == 0) refl
      where
        by : (b : Bool) → (room == 0) ≡ b → Track Same (choice_at more (tree_at more) other) (cond b (Err (deep, ts)) (branch_at (tree_at room) block ts)) ts
        by true is = deep_tracks (choice_at more (tree_at more) other) ts (λ same us first.
            ap (λ n. cond (n == 0) (err (deep, us)) (branch_at (tree_at more) other us)) (sym (equal same))
            ∙ ap (λ b. cond b (err (deep, us)) (branch_at (tree_at more) other us)) is)
        by false is =
            let some : (more == 0) ≡ false = grind (arith, nat_tests) in
            retrack (branch_at (tree_at more) other) (choice_at more (tree_at more) other)
            (branch_tracks (tree_at room) (tree_at more) (tree_tracks room more le equal) ts)
            (λ us first. ap (λ b. cond b (err (deep, us)) (branch_at (tree_at more) other us)) some)

    nested_tracks : (room more : ℕ) → room ≤ more → (Same → room ≡ more)
        → Tracks Same (nested_at room (tree_at room) block) (nested_at more (tree_at more) other)
    unfolding nested_at
    nested_tracks room more le equal =
        cond_tracks (begins (is_keyword (codes "if"))) (begins_first (is_keyword (codes "if"))) (choice_tracks room more le equal) loop_tracks

  block_tracks : (item other : List Lexeme → Read Statement) → Tracks Same item other → Short item → Tracks Same (block_at item) (block_at other)
  unfolding block_at
  block_tracks item other tracks short =
      bind_tracks _ _ (sign_tracks (codes "{")) (λ _. bind_tracks _ _ (all_tracks goes_on goes_on_first item other tracks short)
      (λ _. bind_tracks _ _ (sign_tracks (codes "}")) (λ _. ok_tracks _)))

  no_room_tracks : (more : ℕ) → (Same → zero ≡ more) → (ts : List Lexeme) (b : Bool) → begins_statement ts ≡ b
      → Track Same (statement_at more) (cond b (err {A = Statement} (deep, ts)) (err (stuck, ts))) ts
  unfolding statement_at
  no_room_tracks more equal ts true is =
      deep_tracks (statement_at more) ts (λ same us first. ap (λ n. statement_at n us) (sym (equal same))
      ∙ ap (λ b. cond b (err {A = Statement} (deep, us)) (err (stuck, us))) (statement_first us ts first ∙ is))
  no_room_tracks more equal ts false is = stuck_tracks (statement_at more) ts (λ us first. no_statement_read more us (statement_first us ts first ∙ is))

  statement_tracks : (room more : ℕ) → room ≤ more → (Same → room ≡ more) → Tracks Same (statement_at room) (statement_at more)
  unfolding statement_at
  statement_tracks zero more le equal ts = no_room_tracks more equal ts (begins_statement ts) refl
  statement_tracks (suc r) zero le equal ts = absurd (omega (arith, le))
  statement_tracks (suc r) (suc s) le equal ts =
      let less : r ≤ s = omega (arith, le) in
      let same_ : Same → r ≡ s = λ same. omega (arith, equal same) in
      let blocks = block_tracks (statement_at r) (statement_at s) (statement_tracks r s less same_) (statement_short r) in
      cond_tracks begins_nested nested_first (nested_tracks (block_at (statement_at r)) (block_at (statement_at s)) blocks r s less same_)
      (plain_tracks (tree_at (suc r)) (tree_at (suc s)) (tree_tracks (suc r) (suc s) le equal)) ts

  -- a block of statements
  pub body_tracks : (room more : ℕ) → room ≤ more → (Same → room ≡ more) → Tracks Same (block_at (statement_at room)) (block_at (statement_at more))
  body_tracks room more le equal = block_tracks (statement_at room) (statement_at more) (statement_tracks room more le equal) (statement_short room)
