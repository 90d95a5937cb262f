use Rattle.sot_print.proofs.numeral.+whole_part.Given as goal

abbrev pub decreases-whole_part : goal.decreases-whole_part
decreases-whole_part l = l.scale
