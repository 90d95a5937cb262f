-- A body in which no rule fails, with places for names, is in form.
use Rattle.std.proofs.Common.{◌≡◌, ◌<◌, List, length, refl, Option, None, Bool}
use Rattle.std.proofs.lemmas.Bool.{false_from_ne_true}
use Rattle.sot_text.specs.declared.token.Span.{Span}
use Rattle.sot_syntax_tree.specs.declared.tree.Ident.{Ident}
use Rattle.sot_syntax_tree.specs.Trees.{Statement, Block, assigned, published, branched, repeated, no_statement, statement}
use Rattle.sot_rules.specs.declared.fault.TypeKind.{TypeKind}
use Rattle.sot_rules.specs.declared.fault.TypeKind.TheVariants.{Unknown, ScaleDiffers, KindDiffers, PeriodOutside}
use Rattle.sot_rules.specs.declared.expressions.sort.Sort.{Sort}
use Rattle.sot_rules.specs.Sorts.{is_scaled}
use Rattle.sot_rules.specs.Names.{Thing, Scope, Reading, gives, nothing_at, reading}
use Rattle.sot_rules.specs.TreeSorts.{has_decimals, sort}
use Rattle.sot_rules.specs.Tests.{is_off}
use Rattle.sot_syntax_tree.specs.Formed.{IsStatement, IsBlock}
use Rattle.sot_rules.specs.Fails.{StatementFails, BlockFails, TargetFails, no_target, assigned_target, assigned_value, published_target, published_value}
use Rattle.sot_rules.specs.Fails.{condition_kind, times_decimals, times_off, in_test, in_taken, in_other, in_body, in_statement, in_following}
use Rattle.sot_typing.specs.Terms.{place_of, deed_of, deeds_of}
use Rattle.sot_typing.proofs.Lists.{at_lt}
use Rattle.sot_typing.proofs.Readings.{thing_sorts, place_is}
use Rattle.sot_typing.proofs.FormulaRules.{DeedFits, DeedsFit}
use Rattle.sot_typing.proofs.SortCases.{is_truth_value}
use Rattle.sot_typing.proofs.Expressions.{AreNames, tree_sound}
use Rattle.sot_typing.proofs.Times.{count_is}

-- a target has a place
target_place : (things : List Thing) (first : Ident) (field : Option Ident) (value : Sort) (w : Span)
    → ((at : Span) (k : TypeKind) → TargetFails (reading things first field) value w at k → ⊥) → place_of things first field < length (thing_sorts things)
target_place things first field value w none = by (reading things first field) refl
  where
    by : (r : Reading) → reading things first field ≡ r → place_of things first field < length (thing_sorts things)
    by (nothing_at at) e = absurd (none at Unknown (no_target e))
    by (gives s) e = at_lt (thing_sorts things) _ s (place_is things first field s e)

module _ (s : Scope) (truths : List Bool) (are : AreNames s.read truths) where
  mutual
    pub statement_fits : (a : Statement) → IsStatement a → ((at : Span) (k : TypeKind) → StatementFails s a at k → ⊥)
        → DeedFits truths (length (thing_sorts s.local)) (length (thing_sorts s.written)) (deed_of s a)
    statement_fits (assigned target e) f none = (
      target_place s.local target None (sort s.read e) target.at (λ w k h. none w k (assigned_target h)),
      (tree_sound s.read truths are e f.1 (λ w k h. none w k (assigned_value h))).fits,
    )
    statement_fits (published topic field e) f none = (
      target_place s.written topic field (sort s.read e) topic.at (λ w k h. none w k (published_target h)),
      (tree_sound s.read truths are e f.2 (λ w k h. none w k (published_value h))).fits,
    )
    statement_fits (branched c taken other at) f none =
        let x = tree_sound s.read truths are c f.0 (λ w k h. none w k (in_test h)) in (
          x.truth (is_truth_value (sort s.read c) x.known (false_from_ne_true (is_scaled (sort s.read c)) (λ e. none at KindDiffers (condition_kind e)))),
          x.fits,
          block_fits taken f.1 (λ w k h. none w k (in_taken h)),
          block_fits other f.2 (λ w k h. none w k (in_other h)),
        )
    statement_fits (repeated times body at) f none =
        let n = count_is times f.0.1 (false_from_ne_true (has_decimals times) (λ e. none times.at ScaleDiffers (times_decimals e)))
        (false_from_ne_true (is_off times) (λ e. none times.at PeriodOutside (times_off e))) in
        (n.0, n.1, block_fits body f.1 (λ w k h. none w k (in_body h)))

    pub block_fits : (body : Block) → IsBlock body → ((at : Span) (k : TypeKind) → BlockFails s body at k → ⊥)
        → DeedsFit truths (length (thing_sorts s.local)) (length (thing_sorts s.written)) (deeds_of s body)
    block_fits no_statement f none = tt
    block_fits (statement a more) f none = (statement_fits a f.0 (λ w k h. none w k (in_statement h)), block_fits more f.1 (λ w k h. none w k (in_following h)))
