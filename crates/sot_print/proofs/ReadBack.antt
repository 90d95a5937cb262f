-- Words are read back from the text that lays them out.
use Rattle.std.proofs.Common.{◌≡◌, ℕ, zero, suc, ◌+◌, ◌==◌, ◌&&◌, ◌||◌, Bool, false, List, [], ◌∷◌, ◌++◌, length, take, drop, map, replicate, None, Some, Ok}
use Rattle.std.proofs.Common.{refl, sym, ap, ap₂, ◌∙◌, append_assoc, arith}
use Rattle.std.proofs.Math.Seq.{take-append_seam, drop-append_seam}
use Rattle.std.proofs.lemmas.List.{drop-drop, length-replicate}
use Rattle.sot_text.specs.declared.token.Kind.{Kind}
use Rattle.sot_text.specs.declared.lexeme.Front.TheVariants.{Token}
use Rattle.sot_text.specs.Lexeme.{skipped, front, IsTokenText}
use Rattle.sot_text.specs.Reading.{Lexeme, Lexes, lexed, next_from, next_lexeme, span}
use Rattle.sot_text.specs.Inside.{is_long_sign}
use Rattle.sot_text.proofs.Limits.{some_text}
use Rattle.sot_text.proofs.Signs.{and_false}
use Rattle.sot_print.specs.declared.gap.Gap.{Gap}
use Rattle.sot_print.specs.declared.gap.Gap.TheVariants.{Touching, Space, Line}
use Rattle.sot_print.specs.Words.{Word, blanks, laid, text_of}
use Rattle.sot_print.specs.Layout.{Spelled, token_spelled, word_spelled, AreTokens, MayFollow, MayGoOn, AreParted, Reads}
use Rattle.sot_print.proofs.Ends.{front_goes, nothing_skipped, blank_ends}

skipped_spaces : (n : ℕ) (xs : List ℕ) → skipped false (replicate n 32 ++ xs) ≡ n + skipped false xs
skipped_spaces zero xs = omega arith
skipped_spaces (suc n) xs = ap (λ m. 1 + m) (skipped_spaces n xs) ∙ omega arith

skipped_gap : (gap : Gap) (xs : List ℕ) → skipped false (blanks gap ++ xs) ≡ length (blanks gap) + skipped false xs
skipped_gap Touching xs = omega arith
skipped_gap Space xs = omega arith
skipped_gap (Line indent) xs = ap (λ m. 1 + m) (skipped_spaces indent xs) ∙ omega (arith, (let space : ℕ = 32 in length-replicate indent space))

-- the token that stands behind a gap, and what stands behind it
pub record IsRead (bytes : List ℕ) (at : ℕ) (kind : Kind) (text rest : List ℕ) (t : Lexeme) : Type 0 where
  pub next : next_lexeme bytes at ≡ Ok (Some t)
  pub kind_is : t.kind ≡ kind
  pub text_is : t.text ≡ text
  pub behind : drop t.to bytes ≡ rest

read_one : (bytes : List ℕ) (at : ℕ) (gap : Gap) (kind : Kind) (text rest : List ℕ) → drop at bytes ≡ blanks gap ++ (text ++ rest) → IsTokenText kind text
    → front (text ++ rest) ≡ Token kind (length text)
    → (t : Lexeme) × IsRead bytes at kind text rest t
read_one bytes at gap kind text rest here is goes =
    let from : ℕ = at + length (blanks gap) in
    let begins : next_from bytes at ≡ from =
    ap (λ xs. at + skipped false xs) here
    ∙ ap (λ n. at + n) (skipped_gap gap (text ++ rest) ∙ ap (λ n. length (blanks gap) + n) (nothing_skipped kind text rest is))
    ∙ omega arith in
    let there : drop from bytes ≡ text ++ rest = sym (drop-drop (length (blanks gap)) at bytes) ∙ ap (λ xs. drop (length (blanks gap)) xs) here
    ∙ drop-append_seam (blanks gap) (text ++ rest) in
    let found : front (drop from bytes) ≡ Token kind (length text) = ap front there ∙ goes in
    let own : take (length text) (drop from bytes) ≡ text = ap (λ xs. take (length text) xs) there ∙ take-append_seam text rest in
    let past : drop (from + length text) bytes ≡ rest = sym (drop-drop (length text) from bytes) ∙ ap (λ xs. drop (length text) xs) there
    ∙ drop-append_seam text rest in
    let t : Lexeme = record { kind = kind; text = take (length text) (drop from bytes); at = span bytes from; to = from + length text } in (
      t,
      record {
        next = ap (λ n. lexed bytes n (front (drop n bytes))) begins ∙ ap (lexed bytes from) found;
        kind_is = refl;
        text_is = own;
        behind = past;
      },
    )

abbrev same_spelled : Kind → List ℕ → Spelled
same_spelled kind text = record { kind = kind; text = text }

-- words, and a line end behind them
pub record AllRead (bytes : List ℕ) (at : ℕ) (ws : List Word) : Type 0 where
  pub tokens : List Lexeme
  pub to : ℕ
  pub run : Lexes bytes at tokens to
  pub stop : next_lexeme bytes to ≡ Ok None
  pub same : map token_spelled tokens ≡ map word_spelled ws

-- no long sign ends with a byte other than '=' and '.'
none_of_six : (p q r s t u : Bool) → (p && false || q && false || r && false || s && false || t && false || u && false) ≡ false
none_of_six p q r s t u = simp and_false

no_long : (a : ℕ) → is_long_sign a 10 ≡ false
no_long a = none_of_six (a == 58) (a == 46) (a == 60) (a == 62) (a == 61) (a == 33)

no_long_space : (a : ℕ) → is_long_sign a 32 ≡ false
no_long_space a = none_of_six (a == 58) (a == 46) (a == 60) (a == 62) (a == 61) (a == 33)

line_ends : (kind : Kind) (text : List ℕ) → IsTokenText kind text → front (text ++ 10 ∷ []) ≡ Token kind (length text)
line_ends kind text is = front_goes kind text (10 ∷ []) is (blank_ends text 10 [] refl refl refl no_long (some_text kind text is))

parted_goes : (w : Word) (gap : Gap) (v : Word) (more : List ℕ) → IsTokenText w.kind w.text → MayFollow w gap v
    → front (w.text ++ (blanks gap ++ (v.text ++ more))) ≡ Token w.kind (length w.text)
parted_goes w Touching v more is follows = follows more
parted_goes w Space v more is follows =
    front_goes w.kind w.text (32 ∷ (v.text ++ more)) is (blank_ends w.text 32 (v.text ++ more) refl refl refl no_long_space (some_text w.kind w.text is))
parted_goes w (Line indent) v more is follows =
    front_goes w.kind w.text (10 ∷ (replicate indent 32 ++ (v.text ++ more))) is
    (blank_ends w.text 10 (replicate indent 32 ++ (v.text ++ more)) refl refl refl no_long (some_text w.kind w.text is))

behind_goes : (w : Word) (ws : List Word) → IsTokenText w.kind w.text → MayGoOn w ws → front (w.text ++ (laid ws ++ 10 ∷ [])) ≡ Token w.kind (length w.text)
behind_goes w [] is follows = line_ends w.kind w.text is
behind_goes w (v ∷ ws) is follows =
    ap (λ bs. front (w.text ++ bs)) (append_assoc (blanks v.before) (v.text ++ laid ws) (10 ∷ [])
    ∙ ap (λ bs. blanks v.before ++ bs) (append_assoc v.text (laid ws) (10 ∷ [])))
    ∙ parted_goes w v.before v (laid ws ++ 10 ∷ []) is follows

read_all : (ws : List Word) (bytes : List ℕ) (at : ℕ) → drop at bytes ≡ laid ws ++ 10 ∷ [] → AreTokens ws → AreParted ws → AllRead bytes at ws
read_all [] bytes at here tokens parted =
    let begins : next_from bytes at ≡ at + 1 = ap (λ xs. at + skipped false xs) here in
    let there : drop (at + 1) bytes ≡ [] = sym (drop-drop 1 at bytes) ∙ ap (λ xs. drop 1 xs) here in
    record {
      tokens = [];
      to = at;
      run = refl;
      stop = ap (λ n. lexed bytes n (front (drop n bytes))) begins ∙ ap (λ xs. lexed bytes (at + 1) (front xs)) there;
      same = refl;
    }
read_all (w ∷ ws) bytes at here tokens parted =
    let rest : List ℕ = laid ws ++ 10 ∷ [] in
    let shown : drop at bytes ≡ blanks w.before ++ (w.text ++ rest) =
    here ∙ append_assoc (blanks w.before) (w.text ++ laid ws) (10 ∷ []) ∙ ap (λ bs. blanks w.before ++ bs) (append_assoc w.text (laid ws) (10 ∷ [])) in
    let one = read_one bytes at w.before w.kind w.text rest shown tokens.0 (behind_goes w ws tokens.0 parted.0) in
    let t : Lexeme = one.0 in
    let more = read_all ws bytes t.to one.1.behind tokens.1 parted.1 in
    record {
      tokens = t ∷ more.tokens;
      to = more.to;
      run = (one.1.next, more.run);
      stop = more.stop;
      same = ap₂ (λ (x : Spelled) xs. x ∷ xs) (ap₂ (λ (k : Kind) (x : List ℕ). same_spelled k x) one.1.kind_is one.1.text_is) more.same;
    }

reads_all : (bytes : List ℕ) (ws : List Word) → AllRead bytes 0 ws → Reads bytes ws
reads_all bytes ws all = (record { tokens = all.tokens; end = None }, (all.to, all.run, all.stop), all.same, refl)

pub words_read : (ws : List Word) → AreTokens ws → AreParted ws → Reads (text_of ws) ws
words_read [] tokens parted = (record { tokens = []; end = None }, (0, refl, refl), refl, refl)
words_read (w ∷ ws) tokens parted = reads_all (laid (w ∷ ws) ++ 10 ∷ []) (w ∷ ws) (read_all (w ∷ ws) (laid (w ∷ ws) ++ 10 ∷ []) 0 refl tokens parted)
