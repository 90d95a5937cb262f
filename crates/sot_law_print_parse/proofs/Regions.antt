-- Regions.
use Rattle.std.proofs.Common.{ℕ, List, [], ◌∷◌, map, false, codes, refl, ap}
use Rattle.std.proofs.Math.Nat.{le_refl}
use Rattle.sot_text.specs.Reading.{Lexeme}
use Rattle.sot_syntax_tree.specs.declared.tree.Bounds.{Bounds}
use Rattle.sot_syntax_tree.specs.Trees.{Area}
use Rattle.sot_parser.specs.Pieces.{each, Further, Separated, spelled_further, spelled_separated, further_of, separated_of, spelled_side, side_of}
use Rattle.sot_parser.specs.Declarations.{BoxForm, spelled_box, box_of, RegionForm, no_box, some_boxes, spelled_region, region_of, BoundForm, spelled_bound}
use Rattle.sot_parser.specs.Declarations.{bound_of}
use Rattle.sot_print.specs.declared.gap.Gap.TheVariants.{Touching}
use Rattle.sot_print.specs.Words.{sign}
use Rattle.sot_print.specs.Leaves.{listed, bounds_words}
use Rattle.sot_print.specs.Statements.{semicolon}
use Rattle.sot_print.specs.Canonical.{clause, area_words, areas_from, region_words}
use Rattle.sot_syntax_tree.specs.Formed as formed
use Rattle.sot_law_print_parse.specs.Unplaced.{nowhere, unplaced_area}
use Rattle.sot_law_print_parse.proofs.Takes.{Takes, split, a_keyword, a_sign, led, onto}
use Rattle.sot_law_print_parse.proofs.Kept.{Production, Again, Kept, Keeps, no_level}
use Rattle.sot_law_print_parse.proofs.Leaves.{sides, sides_keep}
use Rattle.sot_law_print_parse.proofs.Lists.{lists, lists_keep, cons_same}

-- box
abbrev pub boxes : Production (Unit {0}) BoxForm Area
boxes = record { spelled = spelled_box; tree = box_of; unplaced = unplaced_area; levels = no_level; Holds = formed.IsArea; words = λ _ a. area_words a }

abbrev area_with : List Bounds → Area
area_with xs = record { sides = xs; at = nowhere }

box_again : (b : BoxForm) → Kept (lists sides) b.sides → (ts us : List Lexeme) → Takes ts (area_words (box_of b)) us → Again boxes b ts us
box_again b kept ts us h =
    let parts = split (listed bounds_words Touching (separated_of side_of b.sides)) (sign Touching (codes "]") ∷ []) h.0 us h.2 in
    let a = kept.again Touching h.0 parts.0 parts.1 in
    let last = parts.2 in
    record {
      form = record { opening = a_sign h.1; sides = a.form; closing = a_sign last.1 };
      tokens = led h.1 (onto (spelled_separated spelled_side a.form) a.tokens (led last.1 last.2));
      same = ap area_with a.same;
      nests = le_refl 0;
    }

boxes_keep : Keeps boxes
boxes_keep b more texts =
    let kept = lists_keep sides sides_keep b.sides (b.closing.token ∷ more) texts.1 in
    (record { holds = kept.0.holds; again = λ _ ts us h. box_again b kept.0 ts us h }, kept.1.1)

-- the boxes behind the first, each with its bar
abbrev further_boxes : Production (Unit {0}) (List (Further (codes "|") BoxForm)) (List Area)
further_boxes = record {
  spelled = each (spelled_further spelled_box);
  tree = map (further_of box_of);
  unplaced = map unplaced_area;
  levels = no_level;
  Holds = formed.Each formed.IsArea;
  words = λ _ as_. areas_from false as_;
}

bar_again : (f : Further (codes "|") BoxForm) (fs : List (Further (codes "|") BoxForm)) → Kept boxes f.item → Kept further_boxes fs
    → (ts us : List Lexeme) → Takes ts (areas_from false (box_of f.item ∷ map (further_of box_of) fs)) us → Again further_boxes (f ∷ fs) ts us
bar_again f fs item others ts us h =
    let parts = split (area_words (box_of f.item)) (areas_from false (map (further_of box_of) fs)) h.0 us h.2 in
    let a = item.again tt h.0 parts.0 parts.1 in
    let b = others.again tt parts.0 us parts.2 in
    record {
      form = record { sign = a_sign h.1; item = a.form } ∷ b.form;
      tokens = led h.1 (onto (spelled_box a.form) a.tokens b.tokens);
      same = cons_same a.same b.same;
      nests = le_refl 0;
    }

further_boxes_keep : Keeps further_boxes
further_boxes_keep [] more texts = (record { holds = tt; again = λ _ ts us h. record { form = []; tokens = h; same = refl; nests = le_refl 0 } }, texts)
further_boxes_keep (f ∷ fs) more texts =
    let item = boxes_keep f.item (each (spelled_further spelled_box) fs more) texts.1 in
    let others = further_boxes_keep fs more item.1 in
    (record { holds = (item.0.holds, others.0.holds); again = λ _ ts us h. bar_again f fs item.0 others.0 ts us h }, others.1)

-- region
abbrev pub regions : Production (Unit {0}) RegionForm (List Area)
regions = record {
  spelled = spelled_region;
  tree = region_of;
  unplaced = map unplaced_area;
  levels = no_level;
  Holds = formed.Each formed.IsArea;
  words = λ _ as_. region_words as_;
}

boxes_again : (bs : Separated (codes "|") BoxForm) → Kept boxes bs.first → Kept further_boxes bs.further
    → (ts us : List Lexeme) → Takes ts (region_words (region_of (some_boxes bs))) us → Again regions (some_boxes bs) ts us
boxes_again bs first others ts us h =
    let parts = split (area_words (box_of bs.first)) (areas_from false (map (further_of box_of) bs.further)) ts us h in
    let a = first.again tt ts parts.0 parts.1 in
    let b = others.again tt parts.0 us parts.2 in
    record {
      form = some_boxes (record { first = a.form; further = b.form });
      tokens = onto (spelled_box a.form) a.tokens b.tokens;
      same = cons_same a.same b.same;
      nests = le_refl 0;
    }

regions_keep : Keeps regions
regions_keep (no_box word) more texts = (
  record {
    holds = tt;
    again = λ _ ts us h. record { form = no_box (a_keyword h.1); tokens = led h.1 h.2; same = refl; nests = le_refl 0 };
  },
  texts.1,
)
regions_keep (some_boxes bs) more texts =
    let first = boxes_keep bs.first (each (spelled_further spelled_box) bs.further more) texts in
    let others = further_boxes_keep bs.further more first.1 in
    (record { holds = (first.0.holds, others.0.holds); again = λ _ ts us h. boxes_again bs first.0 others.0 ts us h }, others.1)

-- a keyword, a region and ";"
abbrev pub bounds : (text : List ℕ) → Production (Unit {0}) (BoundForm text) (List Area)
bounds text = record {
  spelled = spelled_bound;
  tree = bound_of;
  unplaced = map unplaced_area;
  levels = no_level;
  Holds = formed.Each formed.IsArea;
  words = λ _ as_. clause text (region_words as_);
}

bound_again : (text : List ℕ) (b : BoundForm text) → Kept regions b.region → (ts us : List Lexeme) → Takes ts (clause text (region_words (bound_of b))) us
    → Again (bounds text) b ts us
bound_again text b region ts us h =
    let parts = split (region_words (bound_of b)) semicolon h.0 us h.2 in
    let a = region.again tt h.0 parts.0 parts.1 in
    let last = parts.2 in
    record {
      form = record { word = a_keyword h.1; region = a.form; semicolon = a_sign last.1 };
      tokens = led h.1 (onto (spelled_region a.form) a.tokens (led last.1 last.2));
      same = a.same;
      nests = le_refl 0;
    }

pub bounds_keep : (text : List ℕ) → Keeps (bounds text)
bounds_keep text b more texts =
    let region = regions_keep b.region (b.semicolon.token ∷ more) texts.1 in
    (record { holds = region.0.holds; again = λ _ ts us h. bound_again text b region.0 ts us h }, region.1.1)
