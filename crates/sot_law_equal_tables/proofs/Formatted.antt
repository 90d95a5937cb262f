-- The program of a canonical text is the same as the one of which it is the text.
use Rattle.std.proofs.Common.{sym, ap, ◌∙◌}
use Rattle.sot_parser.proofs.ProgramTexts.{spells_unique}
use Rattle.sot_print.specs.Canonical.{canonical}
use Rattle.sot_law_print_parse.specs.Unplaced.{without_places, AreSame}
use Rattle.sot_law_print_parse.proofs.Canonical.{canonical_text}
use Rattle.sot_law_equal_tables.specs.Places.{FormattedProgramsAreAlike}
use Rattle.sot_law_equal_tables.proofs.Faultless.{faultless_same}
use Rattle.sot_law_equal_tables.proofs.Tables.{tables_alike}

pub formatted_alike : FormattedProgramsAreAlike
formatted_alike bytes at p q spells again =
    let read = canonical_text bytes at p spells in
    let same : AreSame p q = read.2 ∙ ap without_places (spells_unique (canonical p) 0 read.0 q read.1 again) in
    ((faultless_same p q same, faultless_same q p (sym same)), (λ t u of_p of_q. tables_alike p q t u same of_p of_q))
