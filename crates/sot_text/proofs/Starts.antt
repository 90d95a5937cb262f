-- Where a token may begin: behind blanks and comments.
use Rattle.std.proofs.Common.{◌≡◌, ◌≢◌, ℕ, ◌+◌, ◌-◌, ◌<◌, ◌≤◌, List, ◌∷◌, true, false, ◌==◌, length, take, drop, get_or, sym, ap, ◌∙◌, arith, length-drop}
use Rattle.std.proofs.Math.Seq.{take-add}
use Rattle.std.proofs.lemmas.Bool.Decides.{nat_tests}
use Rattle.std.proofs.lemmas.List.{length-take, drop-drop, drop_more, get_or-drop}
use Rattle.sot_text.specs.declared.token.Span.{Span}
use Rattle.sot_text.specs.Place.{after, begin}
use Rattle.sot_text.specs.Lexeme.{skipped}
use Rattle.sot_text.specs.LineEnds.{line_len}
use Rattle.sot_text.specs.Inside.{further, next_line}
use Rattle.sot_text.specs.Reading.{next_from}
use Rattle.sot_text.proofs.Lines.{line_len-pos}
use Rattle.sot_text.proofs.Places.{after-append, line_bound, column_bound}
use Rattle.sot_text.proofs.FirstLines.{comment_skips, after_ended, after_open, byte_ends, byte_goes_on}

-- the place behind some more bytes
pub after_on : (bs : List ℕ) (at n : ℕ) (p q : Span) → p ≡ after begin (take at bs) → after p (take n (drop at bs)) ≡ q → q ≡ after begin (take (at + n) bs)
after_on bs at n p q here more =
    sym more ∙ ap (λ (r : Span). after r (take n (drop at bs))) here ∙ after-append begin (take at bs) (take n (drop at bs))
    ∙ ap (after begin) (sym (take-add at n bs))

-- what is skipped behind skipped bytes is all that is skipped
pub skips_on : (bs : List ℕ) (at n : ℕ) → skipped false (drop at bs) ≡ n + skipped false (drop n (drop at bs)) → next_from bs (at + n) ≡ next_from bs at
skips_on bs at n skips =
    let rest : skipped false (drop n (drop at bs)) ≡ skipped false (drop (at + n) bs) = ap (skipped false) (drop-drop n at bs) in
    omega arith

-- a comment at the front
skips_comment : (b : ℕ) (bs : List ℕ) → b ≡ 35 → skipped false (b ∷ bs) ≡ line_len (b ∷ bs) + skipped false (drop (line_len (b ∷ bs)) (b ∷ bs))
skips_comment b bs is =
    let hash : (b == 35) ≡ true = grind (arith, nat_tests) in
    let more : (b == 10) ≡ false = grind (arith, nat_tests) in
    let rest = comment_skips bs in
    rw (hash, more) (omega arith)

pub comment_behind : (bs : List ℕ) (at x : ℕ) → at < length bs → get_or bs at x ≡ 35 → next_from bs (at + line_len (drop at bs)) ≡ next_from bs at
comment_behind bs at x inside is =
    let here = drop_more bs at x inside in
    skips_on bs at (line_len (drop at bs)) (rw here (skips_comment (get_or bs at x) (drop (at + 1) bs) is))

-- lines and columns are no more than the bytes before, and one
pub line_at : (bs : List ℕ) (at : ℕ) (p : Span) → p ≡ after begin (take at bs) → p.line ≤ 1 + at
line_at bs at p here = omega (arith, ap (λ (q : Span). q.line) here, line_bound begin (take at bs), length-take at bs)

pub column_at : (bs : List ℕ) (at : ℕ) (p : Span) → p ≡ after begin (take at bs) → p.column ≤ 1 + at
column_at bs at p here = omega (arith, ap (λ (q : Span). q.column) here, column_bound begin (take at bs), length-take at bs)

-- the last byte of the line that begins here
last_at : (bs : List ℕ) (at k : ℕ) → at < length bs → k ≡ line_len (drop at bs) → get_or (drop at bs) (line_len (drop at bs) - 1) 0 ≡ get_or bs (at + k - 1) 0
last_at bs at k inside len =
    let pos = line_len-pos (drop at bs) (omega (arith, length-drop at bs)) in
    let place : at + (line_len (drop at bs) - 1) ≡ at + k - 1 = omega arith in
    get_or-drop at bs (line_len (drop at bs) - 1) 0 ∙ ap (λ (n : ℕ). get_or bs n 0) place

pub line_ended : (bs : List ℕ) (at k : ℕ) (p : Span) → p ≡ after begin (take at bs) → at < length bs → k ≡ line_len (drop at bs) → get_or bs (at + k - 1) 0 ≡ 10
    → next_line p ≡ after begin (take (at + k) bs)
line_ended bs at k p here inside len end =
    after_on bs at k p (next_line p) here
    (ap (λ (n : ℕ). after p (take n (drop at bs))) len
    ∙ after_ended p (drop at bs) (omega (arith, length-drop at bs)) (last_at bs at k inside len ∙ end))

pub line_open : (bs : List ℕ) (at k : ℕ) (p : Span) → p ≡ after begin (take at bs) → at < length bs → k ≡ line_len (drop at bs) → get_or bs (at + k - 1) 0 ≢ 10
    → further p k ≡ after begin (take (at + k) bs)
line_open bs at k p here inside len open_end =
    after_on bs at k p (further p k) here
    (ap (λ (n : ℕ). after p (take n (drop at bs))) len
    ∙ after_open p (drop at bs) (λ e. open_end (sym (last_at bs at k inside len) ∙ e))
    ∙ ap (further p) (sym len))

-- the place behind one byte
pub byte_ended : (bs : List ℕ) (at x : ℕ) (p : Span) → p ≡ after begin (take at bs) → at < length bs → get_or bs at x ≡ 10
    → next_line p ≡ after begin (take (at + 1) bs)
byte_ended bs at x p here inside end =
    let b : ℕ = get_or bs at x in
    let is : (b == 10) ≡ true = grind (arith, nat_tests) in
    after_on bs at 1 p (next_line p) here (ap (λ (l : List ℕ). after p (take 1 l)) (drop_more bs at x inside) ∙ byte_ends p b is)

pub byte_open : (bs : List ℕ) (at x : ℕ) (p : Span) → p ≡ after begin (take at bs) → at < length bs → get_or bs at x ≢ 10
    → further p 1 ≡ after begin (take (at + 1) bs)
byte_open bs at x p here inside other =
    let b : ℕ = get_or bs at x in
    let is : (b == 10) ≡ false = grind (arith, nat_tests) in
    after_on bs at 1 p (further p 1) here (ap (λ (l : List ℕ). after p (take 1 l)) (drop_more bs at x inside) ∙ byte_goes_on p b is)
