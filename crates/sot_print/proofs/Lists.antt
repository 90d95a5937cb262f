-- One more item of a list.
use Rattle.std.proofs.Common.{◌≡◌, ℕ, ◌+◌, ◌<◌, ◌==◌, Bool, true, false, cond, List, [], ◌∷◌, ◌++◌, length, get_or, drop, drop-cons, add-one, codes, refl, sym}
use Rattle.std.proofs.Common.{ap, ap₂, ◌∙◌, append_assoc, arith}
use Rattle.std.proofs.lemmas.Bool.Decides.{nat_tests}
use Rattle.sot_syntax_tree.specs.declared.tree.Expr.{Expr, Call}
use Rattle.sot_text.specs.declared.token.Span.{Span}
use Rattle.sot_syntax_tree.specs.declared.operator.Func.{Func}
use Rattle.std.specs.Global.{Box, Vec}
use Rattle.sot_syntax_tree.proofs.CallRows.{call_view}
use Rattle.sot_syntax_tree.specs.TreeViews.{tree_view, parts_view}
use Rattle.sot_print.specs.declared.gap.Gap.{Gap}
use Rattle.sot_print.specs.declared.gap.Gap.TheVariants.{Touching, Space}
use Rattle.sot_print.specs.Words.{Word, sign, blanks, laid}
use Rattle.sot_print.specs.Leaves.{separated, items_from, listed}
use Rattle.sot_print.specs.Expressions.{function_name, expression_words, parts_from}
use Rattle.sot_print.proofs.Laying.{laid-append}

no_more_first : (i : ℕ) → i + 1 == 0 ≡ false
no_more_first i = grind (arith, nat_tests)

-- what is written, and then what is left, stays the same
pub one_step : {A : Type 0} (f : Bool → List A → List Word) (g : Bool → A → List Word) → ((b : Bool) (x : A) (xs : List A) → f b (x ∷ xs) ≡ g b x ++ f false xs)
    → (xs : List A) (i : ℕ) (x : A) (before after : List ℕ) → i < length xs → x ≡ get_or xs i x → after ≡ before ++ laid (g (i == 0) x)
    → after ++ laid (f (i + 1 == 0) (drop (i + 1) xs)) ≡ before ++ laid (f (i == 0) (drop i xs))
one_step f g opens xs i x before after lt is written =
    let next : drop i xs ≡ x ∷ drop (i + 1) xs = drop-cons xs i x lt ∙ ap₂ (λ y n. y ∷ drop n xs) (sym is) (sym (add-one i)) in
    let opened : laid (f (i == 0) (drop i xs)) ≡ laid (g (i == 0) x) ++ laid (f false (drop (i + 1) xs)) =
    ap (λ ys. laid (f (i == 0) ys)) next ∙ ap laid (opens (i == 0) x (drop (i + 1) xs)) ∙ laid-append (g (i == 0) x) (f false (drop (i + 1) xs)) in
    ap₂ (λ bytes first. bytes ++ laid (f first (drop (i + 1) xs))) written (no_more_first i)
    ∙ append_assoc before (laid (g (i == 0) x)) (laid (f false (drop (i + 1) xs)))
    ∙ ap (λ bytes. before ++ bytes) (sym opened)

comma_bytes : (first : Bool) (gap : Gap) (item : Gap → List Word)
    → cond first [] (codes ",") ++ laid (item (cond first gap Space)) ≡ laid (separated first gap item)
comma_bytes true gap item = refl
comma_bytes false gap item = refl

pub comma_step : {A : Type 0} (item : Gap → A → List Word) (gap : Gap) (xs : List A) (i : ℕ) (x : A) (own : Gap) (before comma after : List ℕ) → i < length xs
    → x ≡ get_or xs i x
    → comma ≡ before ++ cond (i == 0) [] (codes ",") → own ≡ cond (i == 0) gap Space → after ≡ comma ++ laid (item own x)
    → after ++ laid (items_from item gap (i + 1 == 0) (drop (i + 1) xs)) ≡ before ++ laid (items_from item gap (i == 0) (drop i xs))
comma_step item gap xs i x own before comma after lt is comma_is own_is after_is =
    let written : after ≡ before ++ laid (separated (i == 0) gap (λ g. item g x)) =
    after_is ∙ ap₂ (λ bytes g. bytes ++ laid (item g x)) comma_is own_is
    ∙ append_assoc before (cond (i == 0) [] (codes ",")) (laid (item (cond (i == 0) gap Space) x))
    ∙ ap (λ bytes. before ++ bytes) (comma_bytes (i == 0) gap (λ g. item g x)) in
    one_step (items_from item gap) (λ first y. separated first gap (λ g. item g y)) (λ b y ys. refl) xs i x before after lt is written

-- the parts of a call, read as a list
pub parts_listed : (first : Bool) (es : List Expr) → parts_from first (parts_view es)
    ≡ items_from (λ gap e. expression_words (tree_view e) gap) Touching first es
parts_listed first [] = refl
parts_listed first (e ∷ es) = ap (λ ws. separated first Touching (expression_words (tree_view e)) ++ ws) (parts_listed false es)

-- the words of a call, by the list of its parts
pub call_bytes : (f : Func) (v : Box (Vec Expr)) (at : Span) (gap : Gap)
    → laid (expression_words (tree_view (Call f v at)) gap)
    ≡ blanks gap ++ (function_name f ++ (codes "(" ++ (laid (listed (λ g e. expression_words (tree_view e) g) Touching v.value.items) ++ codes ")")))
call_bytes f v at gap =
    ap (λ t. laid (expression_words t gap)) (call_view f v at)
    ∙ ap (λ ws. blanks gap ++ (function_name f ++ (codes "(" ++ laid (ws ++ sign Touching (codes ")") ∷ [])))) (parts_listed true v.value.items)
    ∙ ap (λ bytes. blanks gap ++ (function_name f ++ (codes "(" ++ bytes)))
    (laid-append (listed (λ g e. expression_words (tree_view e) g) Touching v.value.items) (sign Touching (codes ")") ∷ []))

pub call_written : (start named opened filled gap word parts : List ℕ) → named ≡ start ++ (gap ++ word) → opened ≡ named ++ codes "(" → filled ≡ opened ++ parts
    → filled ++ codes ")" ≡ start ++ (gap ++ (word ++ (codes "(" ++ (parts ++ codes ")"))))
call_written start named opened filled gap word parts a b c =
    ap (λ o. o ++ codes ")") (c ∙ ap (λ o. o ++ parts) (b ∙ ap (λ o. o ++ codes "(") a)) ∙ regrouped
  where
    regrouped : (((start ++ (gap ++ word)) ++ codes "(") ++ parts) ++ codes ")" ≡ start ++ (gap ++ (word ++ (codes "(" ++ (parts ++ codes ")"))))
    regrouped = simp append_assoc

same_item : {A : Type 0} (xs : List A) (i : ℕ) (d : A) → i < length xs → get_or xs i d ≡ get_or xs i (get_or xs i d)
same_item xs i d lt =
    let one = drop-cons xs i d lt in
    let other = drop-cons xs i (get_or xs i d) lt in
    cc

-- the same, where the item is read out of the list
pub comma_step_at : {A : Type 0} (item : Gap → A → List Word) (gap : Gap) (xs : List A) (i : ℕ) (d : A) (own : Gap) (before comma after : List ℕ)
    → i < length xs
    → comma ≡ before ++ cond (i == 0) [] (codes ",") → own ≡ cond (i == 0) gap Space → after ≡ comma ++ laid (item own (get_or xs i d))
    → after ++ laid (items_from item gap (i + 1 == 0) (drop (i + 1) xs)) ≡ before ++ laid (items_from item gap (i == 0) (drop i xs))
comma_step_at item gap xs i d own before comma after lt comma_is own_is after_is =
    comma_step item gap xs i (get_or xs i d) own before comma after lt (same_item xs i d lt) comma_is own_is after_is
