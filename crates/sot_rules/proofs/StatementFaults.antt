-- A statement's list of faults has exactly the rules that fail in it.
use Rattle.std.proofs.Common.{None}
use Rattle.sot_text.specs.declared.token.Span.{Span}
use Rattle.sot_syntax_tree.specs.Trees.{Statement, Block, assigned, published, branched, repeated, no_statement, statement}
use Rattle.sot_rules.specs.declared.fault.TypeKind.{TypeKind}
use Rattle.sot_rules.specs.declared.fault.TypeKind.TheVariants.{ScaleDiffers, KindDiffers, PeriodOutside}
use Rattle.sot_rules.specs.Sorts.{is_scaled}
use Rattle.sot_rules.specs.Names.{Scope, reading}
use Rattle.sot_rules.specs.TreeSorts.{has_decimals, sort}
use Rattle.sot_rules.specs.Tests.{is_off}
use Rattle.sot_rules.specs.Fails.{StatementFails, BlockFails, assigned_target, assigned_value, published_target, published_value, condition_kind}
use Rattle.sot_rules.specs.Fails.{times_decimals, times_off, in_test, in_taken, in_other, in_body, in_statement, in_following}
use Rattle.sot_rules.specs.Faults.{fault, when, tree_faults, statement_faults, block_faults}
use Rattle.sot_rules.proofs.Members.{In, before, after, split, in_when, of_when}
use Rattle.sot_rules.proofs.TreeFaults.{tree_in, of_tree, target_in, of_target}

mutual
  pub statement_in : (s : Scope) {a : Statement} {at : Span} {k : TypeKind} → StatementFails s a at k → In (fault at k) (statement_faults s a)
  statement_in s (assigned_target {target = target} {e = e} h) =
      after _ (tree_faults s.read e) _ (target_in (reading s.local target None) (sort s.read e) target.at h)
  statement_in s (assigned_value {e = e} h) = before _ (tree_faults s.read e) _ (tree_in s.read h)
  statement_in s (published_target {topic = topic} {field = field} {e = e} h) =
      after _ (tree_faults s.read e) _ (target_in (reading s.written topic field) (sort s.read e) topic.at h)
  statement_in s (published_value {e = e} h) = before _ (tree_faults s.read e) _ (tree_in s.read h)
  statement_in s (condition_kind {c = c} {at = at} h) =
      after _ (tree_faults s.read c) _ (before _ (when (is_scaled (sort s.read c)) at KindDiffers) _ (in_when (is_scaled (sort s.read c)) at KindDiffers h))
  statement_in s (times_decimals {times = times} h) =
      before _ (when (has_decimals times) times.at ScaleDiffers) _ (in_when (has_decimals times) times.at ScaleDiffers h)
  statement_in s (times_off {times = times} h) =
      after _ (when (has_decimals times) times.at ScaleDiffers) _
      (before _ (when (is_off times) times.at PeriodOutside) _ (in_when (is_off times) times.at PeriodOutside h))
  statement_in s (in_test {c = c} h) = before _ (tree_faults s.read c) _ (tree_in s.read h)
  statement_in s (in_taken {c = c} {taken = taken} {w = w} h) =
      after _ (tree_faults s.read c) _ (after _ (when (is_scaled (sort s.read c)) w KindDiffers) _ (before _ (block_faults s taken) _ (block_in s h)))
  statement_in s (in_other {c = c} {taken = taken} {w = w} h) =
      after _ (tree_faults s.read c) _ (after _ (when (is_scaled (sort s.read c)) w KindDiffers) _ (after _ (block_faults s taken) _ (block_in s h)))
  statement_in s (in_body {times = times} h) =
      after _ (when (has_decimals times) times.at ScaleDiffers) _ (after _ (when (is_off times) times.at PeriodOutside) _ (block_in s h))

  pub block_in : (s : Scope) {body : Block} {at : Span} {k : TypeKind} → BlockFails s body at k → In (fault at k) (block_faults s body)
  block_in s (in_statement {a = a} h) = before _ (statement_faults s a) _ (statement_in s h)
  block_in s (in_following {a = a} h) = after _ (statement_faults s a) _ (block_in s h)

mutual
  pub of_statement : (s : Scope) (a : Statement) (at : Span) (k : TypeKind) → In (fault at k) (statement_faults s a) → StatementFails s a at k
  of_statement s (assigned target e) at k h =
      split (fault at k) (tree_faults s.read e) _ h
      (λ x. assigned_value (of_tree s.read e at k x))
      (λ x. assigned_target (of_target (reading s.local target None) (sort s.read e) target.at at k x))
  of_statement s (published topic field e) at k h =
      split (fault at k) (tree_faults s.read e) _ h
      (λ x. published_value (of_tree s.read e at k x))
      (λ x. published_target (of_target (reading s.written topic field) (sort s.read e) topic.at at k x))
  of_statement s (branched c taken other w) at k h =
      split (fault at k) (tree_faults s.read c) _ h
      (λ x. in_test (of_tree s.read c at k x))
      (λ x. split (fault at k) (when (is_scaled (sort s.read c)) w KindDiffers) _ x
      (of_when (StatementFails s (branched c taken other w)) (is_scaled (sort s.read c)) w KindDiffers (λ q. condition_kind q) at k)
      (λ y. split (fault at k) (block_faults s taken) _ y
      (λ z. in_taken (of_block s taken at k z))
      (λ z. in_other (of_block s other at k z))))
  of_statement s (repeated times body w) at k h =
      split (fault at k) (when (has_decimals times) times.at ScaleDiffers) _ h
      (of_when (StatementFails s (repeated times body w)) (has_decimals times) times.at ScaleDiffers (λ q. times_decimals q) at k)
      (λ x. split (fault at k) (when (is_off times) times.at PeriodOutside) _ x
      (of_when (StatementFails s (repeated times body w)) (is_off times) times.at PeriodOutside (λ q. times_off q) at k)
      (λ y. in_body (of_block s body at k y)))

  pub of_block : (s : Scope) (body : Block) (at : Span) (k : TypeKind) → In (fault at k) (block_faults s body) → BlockFails s body at k
  of_block s no_statement at k h = absurd h
  of_block s (statement a more) at k h =
      split (fault at k) (statement_faults s a) _ h
      (λ x. in_statement (of_statement s a at k x))
      (λ x. in_following (of_block s more at k x))
