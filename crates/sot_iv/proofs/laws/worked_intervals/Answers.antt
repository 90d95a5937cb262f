use Rattle.sot_iv.proofs.Examples.{product_row, quotient_row, zero_row, wide_row, rest_rows, magnitude_row, comparison_rows, draft_rows}
use Rattle.sot_iv.proofs.laws.worked_intervals.Goals as goal

pub returns-clause-product : goal.returns-clause-product
returns-clause-product c = product_row

pub returns-clause-quotient : goal.returns-clause-quotient
returns-clause-quotient c = quotient_row

pub returns-clause-zero : goal.returns-clause-zero
returns-clause-zero c = zero_row

pub returns-clause-wide : goal.returns-clause-wide
returns-clause-wide c = wide_row

pub returns-clause-rests : goal.returns-clause-rests
returns-clause-rests c = rest_rows

pub returns-clause-magnitude : goal.returns-clause-magnitude
returns-clause-magnitude c = magnitude_row

pub returns-clause-comparisons : goal.returns-clause-comparisons
returns-clause-comparisons c = comparison_rows

pub returns-clause-drafts : goal.returns-clause-drafts
returns-clause-drafts c = draft_rows
