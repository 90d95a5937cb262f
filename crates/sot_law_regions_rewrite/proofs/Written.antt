-- The words of formed regions are tokens of the grammar that mean these regions.
use Rattle.std.proofs.Common.{◌≡◌, ℕ, zero, suc, ◌≤◌, ◌^◌, ℤ, pos, negsuc, neg_ℤ, nat_abs, int_lt, false, List, [], ◌∷◌, map, codes, refl, ap, ap₂, ◌∙◌, subst}
use Rattle.std.proofs.Common.{arith}
use Rattle.std.proofs.lemmas.Bool.{cond-false}
use Rattle.std.proofs.lemmas.Bool.Decides.{nat_tests}
use Rattle.sot_text.specs.declared.token.Span.{Span}
use Rattle.sot_text.specs.Lexeme.{mantissa_of, decimals_of}
use Rattle.sot_text.specs.Reading.{Lexeme}
use Rattle.sot_syntax_tree.specs.declared.tree.Lit.{Lit}
use Rattle.sot_syntax_tree.specs.declared.tree.Bounds.{Bounds}
use Rattle.sot_syntax_tree.specs.Trees.{Area}
use Rattle.sot_syntax_tree.specs.Formed.{Each, IsLiteral, AreBounds, IsArea}
use Rattle.sot_parser.specs.Pieces.{each, Further, further_of, spelled_further, spelled_separated, spelled_literal, spelled_side, plain, negative}
use Rattle.sot_parser.specs.Declarations.{BoxForm, spelled_box, box_of, spelled_region, no_box, some_boxes}
use Rattle.sot_print.specs.declared.gap.Gap.{Gap}
use Rattle.sot_print.specs.declared.gap.Gap.TheVariants.{Touching, Space}
use Rattle.sot_print.specs.Words.{Word, sign}
use Rattle.sot_print.specs.Leaves.{numeral, literal_words, listed, items_from, bounds_words}
use Rattle.sot_print.specs.Statements.{semicolon}
use Rattle.sot_print.specs.Canonical.{clause, area_words, areas_from, region_words}
use Rattle.sot_print.proofs.NumeralTexts.{IsNumeral, numeral_read}
use Rattle.sot_law_print_parse.specs.Unplaced.{nowhere, unplaced_literal, unplaced_area}
use Rattle.sot_law_print_parse.proofs.Takes.{Takes, split, a_keyword, a_sign, a_number, led, onto}
use Rattle.sot_law_print_parse.proofs.Kept.{Production, Written, no_level}
use Rattle.sot_law_print_parse.proofs.Leaves.{literals, sides}
use Rattle.sot_law_print_parse.proofs.Lists.{further_items, cons_same}
use Rattle.sot_law_print_parse.proofs.Regions.{boxes, regions, bounds}

-- ---- literals

not_below_zero : (m : ℕ) → int_lt (pos m) (pos 0) ≡ false
not_below_zero zero = refl
not_below_zero (suc m) = grind (arith, nat_tests)

abbrev literal_at : ℤ → ℕ → Span → Lit
literal_at z s at = record { mantissa = z; scale = s; at = at }

read_within : (m s : ℕ) → m ≤ 10 ^ 12 → IsNumeral m s (numeral m s)
read_within m s few = numeral_read m s (omega (arith, few))

literal_from : (z : ℤ) (s : ℕ) (at : Span) → nat_abs z ≤ 10 ^ 12 → (gap : Gap) (ts us : List Lexeme) → Takes ts (literal_words gap (literal_at z s at)) us
    → Written literals (literal_at z s at) ts us
literal_from (pos m) s at few gap ts us h =
    let P : List Word → Type 0 = λ ws. Takes ts ws us in
    let one = subst P (cond-false (int_lt (pos m) (pos 0)) _ _ (not_below_zero m)) h in
    let read = read_within m s few in
    record {
      form = plain (a_number one.1);
      tokens = led one.1 one.2;
      same =
          ap₂ (λ k d. unplaced_literal (literal_at (pos k) d nowhere)) (ap mantissa_of one.1.text ∙ read.mantissa_is)
          (ap decimals_of one.1.text ∙ read.decimals_are);
    }
literal_from (negsuc n) s at few gap ts us h =
    let read = read_within (suc n) s (omega (arith, few)) in
    record {
      form = negative (a_sign h.1) (a_number h.2.1);
      tokens = led h.1 (led h.2.1 h.2.2);
      same =
          ap₂ (λ k d. unplaced_literal (literal_at (neg_ℤ (pos k)) d nowhere)) (ap mantissa_of h.2.1.text ∙ read.mantissa_is)
          (ap decimals_of h.2.1.text ∙ read.decimals_are);
    }

literal_written : (l : Lit) → IsLiteral l → (gap : Gap) (ts us : List Lexeme) → Takes ts (literal_words gap l) us → Written literals l ts us
literal_written l is = literal_from l.mantissa l.scale l.at is.mantissa

-- ---- sides

side_written : (b : Bounds) → AreBounds b → (gap : Gap) (ts us : List Lexeme) → Takes ts (bounds_words gap b) us → Written sides b ts us
side_written b is gap ts us h =
    let parts = split (literal_words gap b.lo) (sign Touching (codes "..") ∷ literal_words Touching b.hi) ts us h in
    let a = literal_written b.lo is.0 gap ts parts.0 parts.1 in
    let dots = parts.2 in
    let c = literal_written b.hi is.1 Touching dots.0 us dots.2 in
    record {
      form = record { lo = a.form; dots = a_sign dots.1; hi = c.form };
      tokens = onto (spelled_literal a.form) a.tokens (led dots.1 c.tokens);
      same = ap₂ (λ (x y : Lit). record { lo = x; hi = y }) a.same c.same;
    }

further_written : (xs : List Bounds) → Each AreBounds xs → (gap : Gap) (ts us : List Lexeme) → Takes ts (items_from bounds_words gap false xs) us
    → Written (further_items sides) xs ts us
further_written [] all gap ts us h = record { form = []; tokens = h; same = refl }
further_written (x ∷ xs) all gap ts us h =
    let parts = split (bounds_words Space x) (items_from bounds_words gap false xs) h.0 us h.2 in
    let a = side_written x all.0 Space h.0 parts.0 parts.1 in
    let b = further_written xs all.1 gap parts.0 us parts.2 in
    record {
      form = record { sign = a_sign h.1; item = a.form } ∷ b.form;
      tokens = led h.1 (onto (spelled_side a.form) a.tokens b.tokens);
      same = cons_same a.same b.same;
    }

-- ---- boxes

abbrev box_with : List Bounds → Area
box_with xs = record { sides = xs; at = nowhere }

box_from : (xs : List Bounds) (at : Span) → IsArea (record { sides = xs; at = at }) → (ts us : List Lexeme)
    → Takes ts (area_words (record { sides = xs; at = at })) us
    → Written boxes (record { sides = xs; at = at }) ts us
box_from [] at is ts us h = absurd is.0
box_from (x ∷ xs) at is ts us h =
    let all = split (listed bounds_words Touching (x ∷ xs)) (sign Touching (codes "]") ∷ []) h.0 us h.2 in
    let parts = split (bounds_words Touching x) (items_from bounds_words Touching false xs) h.0 all.0 all.1 in
    let a = side_written x is.1.0 Touching h.0 parts.0 parts.1 in
    let b = further_written xs is.1.1 Touching parts.0 all.0 parts.2 in
    let last = all.2 in
    record {
      form = record { opening = a_sign h.1; sides = record { first = a.form; further = b.form }; closing = a_sign last.1 };
      tokens =
          led h.1 (onto (spelled_separated spelled_side (record { first = a.form; further = b.form })) (onto (spelled_side a.form) a.tokens b.tokens)
          (led last.1 last.2));
      same = ap box_with (cons_same a.same b.same);
    }

box_written : (a : Area) → IsArea a → (ts us : List Lexeme) → Takes ts (area_words a) us → Written boxes a ts us
box_written a is = box_from a.sides a.at is

-- the boxes behind the first, each with its bar
abbrev further_boxes : Production (Unit {0}) (List (Further (codes "|") BoxForm)) (List Area)
further_boxes = record {
  spelled = each (spelled_further spelled_box);
  tree = map (further_of box_of);
  unplaced = map unplaced_area;
  levels = no_level;
  Holds = Each IsArea;
  words = λ _ xs. areas_from false xs;
}

bars_written : (xs : List Area) → Each IsArea xs → (ts us : List Lexeme) → Takes ts (areas_from false xs) us → Written further_boxes xs ts us
bars_written [] all ts us h = record { form = []; tokens = h; same = refl }
bars_written (x ∷ xs) all ts us h =
    let parts = split (area_words x) (areas_from false xs) h.0 us h.2 in
    let a = box_written x all.0 h.0 parts.0 parts.1 in
    let b = bars_written xs all.1 parts.0 us parts.2 in
    record {
      form = record { sign = a_sign h.1; item = a.form } ∷ b.form;
      tokens = led h.1 (onto (spelled_box a.form) a.tokens b.tokens);
      same = cons_same a.same b.same;
    }

-- ---- regions

region_written : (xs : List Area) → Each IsArea xs → (ts us : List Lexeme) → Takes ts (region_words xs) us → Written regions xs ts us
region_written [] all ts us h = record { form = no_box (a_keyword h.1); tokens = led h.1 h.2; same = refl }
region_written (x ∷ xs) all ts us h =
    let parts = split (area_words x) (areas_from false xs) ts us h in
    let a = box_written x all.0 ts parts.0 parts.1 in
    let b = bars_written xs all.1 parts.0 us parts.2 in
    record {
      form = some_boxes (record { first = a.form; further = b.form });
      tokens = onto (spelled_box a.form) a.tokens b.tokens;
      same = cons_same a.same b.same;
    }

pub bound_written : (text : List ℕ) (xs : List Area) → Each IsArea xs → (ts us : List Lexeme) → Takes ts (clause text (region_words xs)) us
    → Written (bounds text) xs ts us
bound_written text xs all ts us h =
    let parts = split (region_words xs) semicolon h.0 us h.2 in
    let a = region_written xs all h.0 parts.0 parts.1 in
    let last = parts.2 in
    record {
      form = record { word = a_keyword h.1; region = a.form; semicolon = a_sign last.1 };
      tokens = led h.1 (onto (spelled_region a.form) a.tokens (led last.1 last.2));
      same = a.same;
    }
