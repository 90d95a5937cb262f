-- The bytes of a plant, and of a text that has some declaration.
use Rattle.std.proofs.Common.{◌≡◌, ℕ, ◌<◌, ◌==◌, Bool, true, false, Option, None, Some, List, [], ◌∷◌, ◌++◌, length, map, length-append, refl, ap, ◌∙◌}
use Rattle.std.proofs.Common.{append_assoc, codes, arith}
use Rattle.sot_syntax_tree.specs.Trees.{Plant, Node, Block, Declaration, a_topic, a_plant, a_node, a_module}
use Rattle.sot_print.specs.declared.gap.Gap.{Gap}
use Rattle.sot_print.specs.declared.gap.Gap.TheVariants.{Space}
use Rattle.sot_print.specs.Words.{Word, keyword, sign, laid, text_of}
use Rattle.sot_print.specs.Leaves.{ident_words}
use Rattle.sot_print.specs.Canonical.{each, next_clause, plant_clauses, closing, plant_words, topic_head_words, node_of, declaration_words, own_line}
use Rattle.sot_print.specs.Canonical.{declarations_from}
use Rattle.sot_print.proofs.Laying.{laid-append}

pub plant_bytes : (gap : Gap) (p : Plant)
    → laid (plant_words gap p)
    ≡ ((laid (keyword gap (codes "plant") ∷ ident_words Space p.name) ++ (laid (sign Space (codes "{") ∷ []) ++ laid (plant_clauses p)))
    ++ laid (each next_clause p.next)) ++ laid closing
plant_bytes gap p =
    let head : List Word = keyword gap (codes "plant") ∷ ident_words Space p.name in
    let brace : List Word = sign Space (codes "{") ∷ [] in
    let clauses : List Word = plant_clauses p in
    let nexts : List Word = each next_clause p.next in
    laid-append ((head ++ (brace ++ clauses)) ++ nexts) closing
    ∙ ap (λ bytes. bytes ++ laid closing)
    (laid-append (head ++ (brace ++ clauses)) nexts
    ∙ ap (λ bytes. bytes ++ laid nexts) (laid-append head (brace ++ clauses) ∙ ap (λ bytes. laid head ++ bytes) (laid-append brace clauses)))

pub plant_written : (start named opened filled more head brace clauses nexts end : List ℕ) → named ≡ start ++ head → opened ≡ named ++ brace
    → filled ≡ opened ++ clauses → more ≡ filled ++ nexts
    → more ++ end ≡ start ++ (((head ++ (brace ++ clauses)) ++ nexts) ++ end)
plant_written start named opened filled more head brace clauses nexts end a b c d =
    ap (λ o. o ++ end) (d ∙ ap (λ o. o ++ nexts) (c ∙ ap (λ o. o ++ clauses) (b ∙ ap (λ o. o ++ brace) a))) ∙ regrouped
  where
    regrouped : ((((start ++ head) ++ brace) ++ clauses) ++ nexts) ++ end ≡ start ++ (((head ++ (brace ++ clauses)) ++ nexts) ++ end)
    regrouped = simp append_assoc

more_words : (a b : List Word) → 0 < length a → 0 < length (a ++ b)
more_words a b some = omega (arith, length-append a b)

head_some : (gap : Gap) (outside : Bool) → 0 < length (topic_head_words gap outside)
head_some gap true = omega arith
head_some gap false = omega arith

node_some : (gap : Gap) (n : Node) (body : Option Block) → 0 < length (node_of gap n body)
node_some gap n None = omega arith
node_some gap n (Some b) = omega arith

-- a declaration has some word
declaration_some : (gap : Gap) (d : Declaration) → 0 < length (declaration_words gap d)
declaration_some gap (a_topic t) = more_words _ _ (more_words _ _ (more_words _ _ (head_some gap t.outside)))
declaration_some gap (a_plant p) = omega arith
declaration_some gap (a_node n) = node_some gap n n.body
declaration_some gap (a_module m) = omega arith

text_ends : (ws : List Word) → 0 < length ws → text_of ws ≡ laid ws ++ 10 ∷ []
text_ends [] some = absurd (omega (arith, some))
text_ends (w ∷ ws) some = refl

pub program_ends : {A : Type 0} (view : A → Declaration) (ds : List A) → (length ds == 0) ≡ false
    → text_of (declarations_from true (map view ds)) ≡ laid (declarations_from true (map view ds)) ++ 10 ∷ []
program_ends view [] some = absurd cc
program_ends view (d ∷ ds) some =
    text_ends (declarations_from true (map view (d ∷ ds)))
    (more_words (declaration_words (own_line true) (view d)) (declarations_from false (map view ds)) (declaration_some (own_line true) (view d)))
