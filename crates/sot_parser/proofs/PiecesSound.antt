-- The small productions: what is read is of the grammar.
use Rattle.std.proofs.Common.{ℕ, List, [], ◌∷◌, true, false, codes, ap}
use Rattle.sot_expression.specs.Lexemes.{begins, is_keyword, is_sign, is_number, negative_literal}
use Rattle.sot_expression.specs.Readers.{number_at, negative_at, literal_at}
use Rattle.sot_parser.specs.Pieces.{plain, negative, spelled_literal, literal_of, spelled_side, side_of, spelled_range, range_of, spelled_fix, fix_of, an_int}
use Rattle.sot_parser.specs.Pieces.{a_fix, a_bool, spelled_scalar, scalar_of, spelled_field, field_of, a_literal, a_yes, a_no, spelled_const, const_of}
use Rattle.sot_parser.specs.Pieces.{spelled_role, role_of, spelled_timing, timing_of}
use Rattle.sot_parser.specs.DeclarationReaders.{side_at, range_at, fix_at, int_scalar_at, fix_scalar_at, bool_scalar_at, scalar_at, named_scalar_at, truth_at}
use Rattle.sot_parser.specs.DeclarationReaders.{number_const_at, const_at, timing_at, role_at}
use Rattle.sot_parser.proofs.SoundSteps.{Sound, Any, take, done, either, token_ok, number_kind, sign_is, keyword_sound, sign_sound, name_sound, number_sound}
use Rattle.sot_expression.proofs.ReadSteps.{chosen_by}

pub literal_sound : Sound spelled_literal literal_of Any literal_at
literal_sound [] y e = absurd cc
literal_sound (t ∷ ts) y e =
    chosen_by (is_sign (codes "-") t) (negative_at t ts) (number_at (t ∷ ts)) y _ e
    (λ minus e1.
    let n = token_ok is_number (negative_literal t) ts y e1 in
    (negative (record { token = t; is = sign_is (codes "-") t minus }) (record { token = n.0; is = number_kind n.0.kind n.1 }), tt, ap (λ us. t ∷ us) n.2, n.3))
    (λ _ e1. let n = number_sound (t ∷ ts) y e1 in (plain n.0, tt, n.2, n.3))

pub side_sound : Sound spelled_side side_of Any side_at
unfolding side_at
side_sound =
    take literal_sound _ _ (λ lo _.
    take (sign_sound (codes "..")) _ _ (λ dots _.
    take literal_sound _ _ (λ hi _.
    done spelled_side side_of (record { lo = lo; dots = dots; hi = hi }))))

pub range_sound : Sound spelled_range range_of Any range_at
unfolding range_at
range_sound =
    take (sign_sound (codes "[")) _ _ (λ opening _.
    take side_sound _ _ (λ side _.
    take (sign_sound (codes "]")) _ _ (λ closing _.
    done spelled_range range_of (record { opening = opening; side = side; closing = closing }))))

pub fix_sound : Sound spelled_fix fix_of Any fix_at
unfolding fix_at
fix_sound =
    take (keyword_sound (codes "fix")) _ _ (λ fix _.
    take (sign_sound (codes "(")) _ _ (λ opening _.
    take number_sound _ _ (λ scale _.
    take (sign_sound (codes ")")) _ _ (λ closing _.
    done spelled_fix fix_of (record { fix = fix; opening = opening; scale = scale; closing = closing })))))

pub int_scalar_sound : Sound spelled_scalar scalar_of Any int_scalar_at
unfolding int_scalar_at
int_scalar_sound = take (keyword_sound (codes "int")) _ _ (λ word _. take range_sound _ _ (λ range _. done spelled_scalar scalar_of (an_int word range)))

pub fix_scalar_sound : Sound spelled_scalar scalar_of Any fix_scalar_at
unfolding fix_scalar_at
fix_scalar_sound = take fix_sound _ _ (λ scale _. take range_sound _ _ (λ range _. done spelled_scalar scalar_of (a_fix scale range)))

pub bool_scalar_sound : Sound spelled_scalar scalar_of Any bool_scalar_at
unfolding bool_scalar_at
bool_scalar_sound = take (keyword_sound (codes "bool")) _ _ (λ word _. done spelled_scalar scalar_of (a_bool word))

pub scalar_sound : Sound spelled_scalar scalar_of Any scalar_at
unfolding scalar_at
scalar_sound =
    either (begins (is_keyword (codes "int"))) _ _ _ int_scalar_sound (either (begins (is_keyword (codes "fix"))) _ _ _ fix_scalar_sound bool_scalar_sound)

pub field_sound : Sound spelled_field field_of Any named_scalar_at
unfolding named_scalar_at
field_sound =
    take name_sound _ _ (λ name _.
    take (sign_sound (codes ":")) _ _ (λ colon _.
    take scalar_sound _ _ (λ scalar _.
    done spelled_field field_of (record { name = name; colon = colon; scalar = scalar }))))

pub yes_sound : Sound spelled_const const_of Any (truth_at true (codes "true"))
unfolding truth_at
yes_sound = take (keyword_sound (codes "true")) _ _ (λ word _. done spelled_const const_of (a_yes word))

pub no_sound : Sound spelled_const const_of Any (truth_at false (codes "false"))
unfolding truth_at
no_sound = take (keyword_sound (codes "false")) _ _ (λ word _. done spelled_const const_of (a_no word))

pub number_const_sound : Sound spelled_const const_of Any number_const_at
unfolding number_const_at
number_const_sound = take literal_sound _ _ (λ l _. done spelled_const const_of (a_literal l))

pub const_sound : Sound spelled_const const_of Any const_at
unfolding const_at
const_sound = either (begins (is_keyword (codes "true"))) _ _ _ yes_sound (either (begins (is_keyword (codes "false"))) _ _ _ no_sound number_const_sound)

pub timing_sound : Sound spelled_timing timing_of Any timing_at
unfolding timing_at
timing_sound =
    take (keyword_sound (codes "period")) _ _ (λ period_word _.
    take number_sound _ _ (λ period _.
    take (keyword_sound (codes "offset")) _ _ (λ offset_word _.
    take number_sound _ _ (λ offset _.
    done spelled_timing timing_of (record { period_word = period_word; period = period; offset_word = offset_word; offset = offset })))))

pub role_sound : (text : List ℕ) → Sound (spelled_role {text = text}) role_of Any (role_at text)
unfolding role_at
role_sound text =
    take (keyword_sound text) _ _ (λ word _.
    take name_sound _ _ (λ name _.
    take (sign_sound (codes ";")) _ _ (λ semicolon _.
    done spelled_role role_of (record { word = word; name = name; semicolon = semicolon }))))
