-- The small productions: what is of the grammar is read.
use Rattle.std.proofs.Common.{◌≡◌, ℕ, List, false, codes, Ok, refl, ap}
use Rattle.sot_text.specs.Reading.{Lexeme}
use Rattle.sot_expression.specs.Lexemes.{begins, is_keyword, is_sign, is_number, is_number_kind, negative_literal}
use Rattle.sot_expression.specs.Readers.{literal_at}
use Rattle.sot_parser.specs.Pieces.{LiteralForm, plain, negative, spelled_literal, literal_of, SideForm, spelled_side, side_of, RangeForm, spelled_range}
use Rattle.sot_parser.specs.Pieces.{range_of, FixForm, spelled_fix, fix_of, ScalarForm, an_int, a_fix, a_bool, spelled_scalar, scalar_of, FieldForm}
use Rattle.sot_parser.specs.Pieces.{spelled_field, field_of, ConstForm, a_literal, a_yes, a_no, spelled_const, const_of, RoleForm, spelled_role, role_of}
use Rattle.sot_parser.specs.Pieces.{TimingForm, spelled_timing, timing_of}
use Rattle.sot_parser.specs.DeclarationReaders.{side_at, range_at, fix_at, int_scalar_at, fix_scalar_at, bool_scalar_at, scalar_at, named_scalar_at, truth_at}
use Rattle.sot_parser.specs.DeclarationReaders.{number_const_at, const_at, timing_at, role_at}
use Rattle.sot_expression.proofs.ReadSteps.{give}
use Rattle.sot_parser.proofs.FullSteps.{yes_by, no_by, token_full, keyword_full, sign_full, name_full, number_full, keyword_test, sign_test, keyword_other}
use Rattle.sot_parser.proofs.FullSteps.{keyword_no_sign, sign_no_keyword, number_no_sign, number_no_keyword}

pub literal_full : (l : LiteralForm) (us : List Lexeme) → literal_at (spelled_literal l us) ≡ Ok (literal_of l, us)
literal_full (plain n) us = no_by (number_no_sign (codes "-") n) _ (number_full n us)
literal_full (negative minus n) us = yes_by (sign_test minus) _ (token_full is_number (negative_literal minus.token) n.token us (ap is_number_kind n.is))

pub side_full : (s : SideForm) (us : List Lexeme) → side_at (spelled_side s us) ≡ Ok (side_of s, us)
unfolding side_at
side_full s us = give (literal_full s.lo _) _ _ (give (sign_full s.dots _) _ _ (give (literal_full s.hi us) _ _ refl))

pub range_full : (r : RangeForm) (us : List Lexeme) → range_at (spelled_range r us) ≡ Ok (range_of r, us)
unfolding range_at
range_full r us = give (sign_full r.opening _) _ _ (give (side_full r.side _) _ _ (give (sign_full r.closing us) _ _ refl))

pub fix_full : (f : FixForm) (us : List Lexeme) → fix_at (spelled_fix f us) ≡ Ok (fix_of f, us)
unfolding fix_at
fix_full f us = give (keyword_full f.fix _) _ _ (give (sign_full f.opening _) _ _ (give (number_full f.scale _) _ _ (give (sign_full f.closing us) _ _ refl)))

pub scalar_full : (s : ScalarForm) (us : List Lexeme) → scalar_at (spelled_scalar s us) ≡ Ok (scalar_of s, us)
unfolding scalar_at int_scalar_at fix_scalar_at bool_scalar_at
scalar_full (an_int word range) us = yes_by (keyword_test word) _ (give (keyword_full word _) _ _ (give (range_full range us) _ _ refl))
scalar_full (a_fix scale range) us =
    no_by (keyword_other (codes "int") scale.fix refl) _ (yes_by (keyword_test scale.fix) _ (give (fix_full scale _) _ _ (give (range_full range us) _ _ refl)))
scalar_full (a_bool word) us =
    no_by (keyword_other (codes "int") word refl) _ (no_by (keyword_other (codes "fix") word refl) _ (give (keyword_full word us) _ _ refl))

pub field_full : (f : FieldForm) (us : List Lexeme) → named_scalar_at (spelled_field f us) ≡ Ok (field_of f, us)
unfolding named_scalar_at
field_full f us = give (name_full f.name _) _ _ (give (sign_full f.colon _) _ _ (give (scalar_full f.scalar us) _ _ refl))

literal_no_keyword : (other : List ℕ) (l : LiteralForm) (us : List Lexeme) → begins (is_keyword other) (spelled_literal l us) ≡ false
literal_no_keyword other (plain n) us = number_no_keyword other n
literal_no_keyword other (negative minus n) us = sign_no_keyword other minus

pub const_full : (c : ConstForm) (us : List Lexeme) → const_at (spelled_const c us) ≡ Ok (const_of c, us)
unfolding const_at truth_at number_const_at
const_full (a_literal l) us =
    no_by (literal_no_keyword (codes "true") l us) _ (no_by (literal_no_keyword (codes "false") l us) _ (give (literal_full l us) _ _ refl))
const_full (a_yes word) us = yes_by (keyword_test word) _ (give (keyword_full word us) _ _ refl)
const_full (a_no word) us = no_by (keyword_other (codes "true") word refl) _ (yes_by (keyword_test word) _ (give (keyword_full word us) _ _ refl))

-- what begins with no brace
pub scalar_no_sign : (other : List ℕ) (s : ScalarForm) (us : List Lexeme) → begins (is_sign other) (spelled_scalar s us) ≡ false
scalar_no_sign other (an_int word range) us = keyword_no_sign other word
scalar_no_sign other (a_fix scale range) us = keyword_no_sign other scale.fix
scalar_no_sign other (a_bool word) us = keyword_no_sign other word

pub timing_full : (t : TimingForm) (us : List Lexeme) → timing_at (spelled_timing t us) ≡ Ok (timing_of t, us)
unfolding timing_at
timing_full t us =
    give (keyword_full t.period_word _) _ _ (give (number_full t.period _) _ _
    (give (keyword_full t.offset_word _) _ _ (give (number_full t.offset us) _ _ refl)))

pub role_full : (text : List ℕ) (r : RoleForm text) (us : List Lexeme) → role_at text (spelled_role r us) ≡ Ok (role_of r, us)
unfolding role_at
role_full text r us = give (keyword_full r.word _) _ _ (give (name_full r.name _) _ _ (give (sign_full r.semicolon us) _ _ refl))
