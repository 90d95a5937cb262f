-- The small productions: where reading stops, what was read begins a form.
use Rattle.std.proofs.Common.{ℕ, List, Bool, true, false, codes, refl}
use Rattle.sot_expression.specs.Lexemes.{begins, is_keyword}
use Rattle.sot_parser.specs.Pieces.{spelled_literal, spelled_side, spelled_range, spelled_fix, ScalarForm, an_int, a_fix, a_bool, spelled_scalar, spelled_field}
use Rattle.sot_parser.specs.Pieces.{ConstForm, a_literal, a_yes, a_no, spelled_const, spelled_role, spelled_timing, spelled_keyword}
use Rattle.sot_parser.specs.DeclarationReaders.{side_at, range_at, fix_at, int_scalar_at, fix_scalar_at, bool_scalar_at, scalar_at, named_scalar_at, truth_at}
use Rattle.sot_parser.specs.DeclarationReaders.{number_const_at, const_at, timing_at, role_at}
use Rattle.sot_parser.proofs.SoundSteps.{keyword_sound, sign_sound, name_sound, number_sound}
use Rattle.sot_parser.proofs.PiecesSound.{literal_sound, side_sound, fix_sound}
use Rattle.sot_law_fault_place.specs.Places.{IsToken}
use Rattle.sot_law_fault_place.proofs.Stops.{Appends, Twin, both, stops_inside, either_stops, twin_of, then_twin, last_twin, inside}
use Rattle.sot_law_fault_place.proofs.Tokens.{close_bracket_real, close_parenthesis_real, colon_real, dots_real, open_bracket_real, open_parenthesis_real}
use Rattle.sot_law_fault_place.proofs.Tokens.{semicolon_real, keyword, keyword_twin, sign_twin, name_twin, number_twin, literal_twin}

pub side_twin : Twin spelled_side side_at
unfolding side_at
side_twin =
    twin_of (λ p. record { lo = p.0; dots = p.1.0; hi = p.1.1 }) (λ s. (s.lo, (s.dots, s.hi))) (λ p behind. refl) (λ s behind. refl)
    (then_twin literal_sound literal_twin _ (λ _. then_twin (sign_sound (codes "..")) (sign_twin (codes "..") dots_real) _
    (λ _. last_twin literal_twin (λ x. (_, refl)))))

pub range_twin : Twin spelled_range range_at
unfolding range_at
range_twin =
    twin_of (λ p. record { opening = p.0; side = p.1.0; closing = p.1.1 }) (λ r. (r.opening, (r.side, r.closing))) (λ p behind. refl) (λ r behind. refl)
    (then_twin (sign_sound (codes "[")) (sign_twin (codes "[") open_bracket_real) _
    (λ _. then_twin side_sound side_twin _ (λ _. last_twin (sign_twin (codes "]") close_bracket_real) (λ x. (_, refl)))))

pub fix_twin : Twin spelled_fix fix_at
unfolding fix_at
fix_twin =
    twin_of (λ p. record { fix = p.0; opening = p.1.0; scale = p.1.1.0; closing = p.1.1.1 }) (λ f. (f.fix, (f.opening, (f.scale, f.closing))))
    (λ p behind. refl) (λ f behind. refl)
    (then_twin (keyword_sound (codes "fix")) (keyword_twin (codes "fix") refl) _
    (λ _. then_twin (sign_sound (codes "(")) (sign_twin (codes "(") open_parenthesis_real) _ (λ _.
    then_twin number_sound number_twin _ (λ _. last_twin (sign_twin (codes ")") close_parenthesis_real) (λ x. (_, refl))))))

int_twin : Twin (both (spelled_keyword {text = codes "int"}) spelled_range) int_scalar_at
unfolding int_scalar_at
int_twin = then_twin (keyword_sound (codes "int")) (keyword_twin (codes "int") refl) _ (λ _. last_twin range_twin (λ x. (_, refl)))

fixed_twin : Twin (both spelled_fix spelled_range) fix_scalar_at
unfolding fix_scalar_at
fixed_twin = then_twin fix_sound fix_twin _ (λ _. last_twin range_twin (λ x. (_, refl)))

bool_twin : Twin (spelled_keyword {text = codes "bool"}) bool_scalar_at
unfolding bool_scalar_at
bool_twin = last_twin (keyword_twin (codes "bool") refl) (λ x. (_, refl))

scalar_appends : (s : ScalarForm) → Appends (spelled_scalar s)
scalar_appends (an_int word range) us vs = int_twin.appends (word, range) us vs
scalar_appends (a_fix scale range) us vs = fixed_twin.appends (scale, range) us vs
scalar_appends (a_bool word) us vs = refl

pub scalar_twin : Twin spelled_scalar scalar_at
unfolding scalar_at
scalar_twin = record {
  appends = scalar_appends;
  some = inside a_bool (λ f behind. refl) bool_twin.some;
  stops =
      either_stops (begins (is_keyword (codes "int"))) _ _ (stops_inside (λ p. an_int p.0 p.1) (λ p behind. refl) int_twin.stops)
      (either_stops (begins (is_keyword (codes "fix"))) _ _ (stops_inside (λ p. a_fix p.0 p.1) (λ p behind. refl) fixed_twin.stops)
      (stops_inside a_bool (λ f behind. refl) bool_twin.stops));
}

pub field_twin : Twin spelled_field named_scalar_at
unfolding named_scalar_at
field_twin =
    twin_of (λ p. record { name = p.0; colon = p.1.0; scalar = p.1.1 }) (λ f. (f.name, (f.colon, f.scalar))) (λ p behind. refl) (λ f behind. refl)
    (then_twin name_sound name_twin _ (λ _. then_twin (sign_sound (codes ":")) (sign_twin (codes ":") colon_real) _
    (λ _. last_twin scalar_twin (λ x. (_, refl)))))

truth_twin : (value : Bool) (text : List ℕ) → IsToken (keyword text).token → Twin (spelled_keyword {text = text}) (truth_at value text)
unfolding truth_at
truth_twin value text real = last_twin (keyword_twin text real) (λ x. (_, refl))

number_const_twin : Twin spelled_literal number_const_at
unfolding number_const_at
number_const_twin = last_twin literal_twin (λ x. (_, refl))

const_appends : (c : ConstForm) → Appends (spelled_const c)
const_appends (a_literal l) us vs = literal_twin.appends l us vs
const_appends (a_yes word) us vs = refl
const_appends (a_no word) us vs = refl

pub const_twin : Twin spelled_const const_at
unfolding const_at
const_twin = record {
  appends = const_appends;
  some = inside a_literal (λ f behind. refl) literal_twin.some;
  stops =
      either_stops (begins (is_keyword (codes "true"))) _ _ (stops_inside a_yes (λ f behind. refl) (truth_twin true (codes "true") refl).stops)
      (either_stops (begins (is_keyword (codes "false"))) _ _ (stops_inside a_no (λ f behind. refl) (truth_twin false (codes "false") refl).stops)
      (stops_inside a_literal (λ f behind. refl) number_const_twin.stops));
}

pub timing_twin : Twin spelled_timing timing_at
unfolding timing_at
timing_twin =
    twin_of (λ p. record { period_word = p.0; period = p.1.0; offset_word = p.1.1.0; offset = p.1.1.1 })
    (λ t. (t.period_word, (t.period, (t.offset_word, t.offset)))) (λ p behind. refl) (λ t behind. refl)
    (then_twin (keyword_sound (codes "period")) (keyword_twin (codes "period") refl) _ (λ _. then_twin number_sound number_twin _ (λ _.
    then_twin (keyword_sound (codes "offset")) (keyword_twin (codes "offset") refl) _ (λ _. last_twin number_twin (λ x. (_, refl))))))

pub role_twin : (text : List ℕ) → IsToken (keyword text).token → Twin (spelled_role {text = text}) (role_at text)
unfolding role_at
role_twin text real =
    twin_of (λ p. record { word = p.0; name = p.1.0; semicolon = p.1.1 }) (λ r. (r.word, (r.name, r.semicolon))) (λ p behind. refl) (λ r behind. refl)
    (then_twin (keyword_sound text) (keyword_twin text real) _
    (λ _. then_twin name_sound name_twin _ (λ _. last_twin (sign_twin (codes ";") semicolon_real) (λ x. (_, refl)))))
