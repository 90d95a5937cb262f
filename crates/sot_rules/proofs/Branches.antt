-- An `if` and a loop, from what is noted of their parts.
use Rattle.std.proofs.Common.{◌≡◌, ◌∙◌, ◌++◌, List, Option, Bool, ap, sym}
use Rattle.std.specs.Global.{Box, Vec}
use Rattle.sot_text.specs.declared.token.Span.{Span}
use Rattle.sot_syntax_tree.specs.declared.tree.Lit.{Lit}
use Rattle.sot_syntax_tree.specs.declared.tree.Branch.{Branch}
use Rattle.sot_syntax_tree.specs.declared.tree.Stmt.{Stmt, If, Repeat}
use Rattle.sot_syntax_tree.specs.TreeViews.{tree_view, statement_view, block_view}
use Rattle.sot_syntax_tree.proofs.BlockRows.{branch_view, repeat_view}
use Rattle.sot_rules.specs.declared.fault.TypeFault.{TypeFault}
use Rattle.sot_rules.specs.declared.fault.TypeKind.TheVariants.{ScaleDiffers, KindDiffers, PeriodOutside}
use Rattle.sot_rules.specs.Sorts.{is_scaled}
use Rattle.sot_rules.specs.Names.{Scope}
use Rattle.sot_rules.specs.TreeSorts.{has_decimals, sort}
use Rattle.sot_rules.specs.Tests.{is_off}
use Rattle.sot_rules.specs.Faults.{least, when, tree_faults, statement_faults, block_faults}
use Rattle.sot_rules.proofs.Least.{least_append}

three : (a : Option TypeFault) (x y z : List TypeFault) → least (least (least a x) y) z ≡ least a (x ++ (y ++ z))
three a x y z = sym (least_append (least a x) y z) ∙ sym (least_append a x (y ++ z))

four : (a : Option TypeFault) (w x y z : List TypeFault) → least (least (least (least a w) x) y) z ≡ least a (w ++ (x ++ (y ++ z)))
four a w x y z = three (least a w) x y z ∙ sym (least_append a w (x ++ (y ++ z)))

pub branch_noted : (s : Scope) (i : Box Branch) (at : Span) (k : Bool) (a b c d f : Option TypeFault) → k ≡ is_scaled (sort s.read (tree_view i.value.cond))
    → b ≡ least a (tree_faults s.read (tree_view i.value.cond)) → c ≡ least b (when k at KindDiffers)
    → d ≡ least c (block_faults s (block_view i.value.yes.items)) → f ≡ least d (block_faults s (block_view i.value.no.items))
    → f ≡ least a (statement_faults s (statement_view (If i at)))
branch_noted s i at k a b c d f test p q r t =
    t
    ∙ ap (λ z. least z (block_faults s (block_view i.value.no.items)))
    (r ∙ ap (λ z. least z (block_faults s (block_view i.value.yes.items)))
    (q ∙ ap (λ z. least z (when k at KindDiffers)) p ∙ ap (λ z. least (least a (tree_faults s.read (tree_view i.value.cond))) (when z at KindDiffers)) test))
    ∙ four a (tree_faults s.read (tree_view i.value.cond)) (when (is_scaled (sort s.read (tree_view i.value.cond))) at KindDiffers)
    (block_faults s (block_view i.value.yes.items)) (block_faults s (block_view i.value.no.items))
    ∙ sym (ap (λ z. least a (statement_faults s z)) (branch_view i at))

pub repeat_noted : (s : Scope) (l : Lit) (v : Vec Stmt) (at : Span) (k m : Bool) (a b c d : Option TypeFault) → k ≡ has_decimals l → m ≡ is_off l
    → b ≡ least a (when k l.at ScaleDiffers) → c ≡ least b (when m l.at PeriodOutside) → d ≡ least c (block_faults s (block_view v.items))
    → d ≡ least a (statement_faults s (statement_view (Repeat l v at)))
repeat_noted s l v at k m a b c d one two p q r =
    r
    ∙ ap (λ z. least z (block_faults s (block_view v.items)))
    (q ∙ ap (λ z. least z (when m l.at PeriodOutside)) (p ∙ ap (λ z. least a (when z l.at ScaleDiffers)) one)
    ∙ ap (λ z. least (least a (when (has_decimals l) l.at ScaleDiffers)) (when z l.at PeriodOutside)) two)
    ∙ three a (when (has_decimals l) l.at ScaleDiffers) (when (is_off l) l.at PeriodOutside) (block_faults s (block_view v.items))
    ∙ sym (ap (λ z. least a (statement_faults s z)) (repeat_view l v at))
