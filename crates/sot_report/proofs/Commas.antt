-- Items with a comma between two.
use Rattle.std.proofs.Common.{◌≡◌, ℕ, ◌+◌, List, ◌++◌, codes, drop, ap, sym, ◌∙◌, append_assoc}
use Rattle.sot_lists.specs.Places.{At}
use Rattle.sot_lists.proofs.Places.{drop_at}
use Rattle.sot_report.specs.Pieces.{further, listed}

-- what is written, and then what is left, stays the same
pub one_more : {A : Type 0} (item : A → List ℕ) (xs : List A) (i : ℕ) (x : A) (before comma after : List ℕ) → At xs i x → comma ≡ before ++ codes ", "
    → after ≡ comma ++ item x
    → after ++ further item (drop (i + 1) xs) ≡ before ++ further item (drop i xs)
one_more item xs i x before comma after at opened more =
    let rest = further item (drop (i + 1) xs) in
    ap (λ z. z ++ rest) (more ∙ ap (λ z. z ++ item x) opened ∙ append_assoc before (codes ", ") (item x))
    ∙ append_assoc before (codes ", " ++ item x) rest
    ∙ ap (λ z. before ++ z) (append_assoc (codes ", ") (item x) rest)
    ∙ ap (λ ys. before ++ further item ys) (sym (drop_at xs i x at))

-- the first item, the further ones, and a sign on either side
pub enclosed : {A : Type 0} (item : A → List ℕ) (xs : List A) (x : A) (left right before opened first all after : List ℕ) → At xs 0 x → opened ≡ before ++ left
    → first ≡ opened ++ item x
    → all ≡ first ++ further item (drop 1 xs) → after ≡ all ++ right → after ≡ before ++ (left ++ (listed item xs ++ right))
enclosed item xs x left right before opened first all after at is_opened is_first is_all is_after =
    let rest = further item (drop 1 xs) in
    let whole : listed item xs ≡ item x ++ rest = ap (listed item) (drop_at xs 0 x at) in
    is_after ∙ ap (λ z. z ++ right) (is_all ∙ ap (λ z. z ++ rest) (is_first ∙ ap (λ z. z ++ item x) is_opened))
    ∙ append_assoc ((before ++ left) ++ item x) rest right
    ∙ append_assoc (before ++ left) (item x) (rest ++ right)
    ∙ append_assoc before left (item x ++ (rest ++ right))
    ∙ ap (λ z. before ++ (left ++ z)) (sym (append_assoc (item x) rest right))
    ∙ ap (λ z. before ++ (left ++ (z ++ right))) (sym whole)
