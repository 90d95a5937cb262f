-- The lines of a trace beside lines with which it begins.
use Rattle.std.proofs.Common.{◌≡◌, ℕ, zero, suc, ◌≤◌, List, [], ◌∷◌, ◌++◌, map, length, take, refl, sym, ap, ◌∙◌, arith, append_assoc}
use Rattle.std.specs.Prelude.{sum_by}
use Rattle.std.proofs.lemmas.List.{append_cancel_left}
use Rattle.std.proofs.lemmas.Option.{none-some, same_Some}
use Rattle.sot_lists.specs.Places.{At}
use Rattle.sot_lang.specs.Tables.{Tables}
use Rattle.sot_lang.specs.TableRules.{MeetsTableRules}
use Rattle.sot_world.specs.HistoryEntry.{Logged}
use Rattle.sot_flight.specs.Plans.{Plan}
use Rattle.sot_trace.specs.Numbers.{numeral}
use Rattle.sot_trace.specs.Lines.{line_of, end_line, ticks_in, refused_in}
use Rattle.sot_trace.specs.Traces.{last_line, trace_lines}
use Rattle.sot_trace.specs.Words.{AreWords}
use Rattle.sot_trace.proofs.Splits.{cut_same}
use Rattle.sot_trace.proofs.NumberTexts.{in_number, numeral_in, numeral_some}
use Rattle.sot_trace.proofs.TraceTexts.{AreTold}
use Rattle.sot_trace.proofs.LineTexts.{tail_of, time_of, line_parts, tail_stops, line_same}
use Rattle.sot_replay.specs.Replays.{opening_lines}

-- no line of an entry is an end line: it begins with a digit
pub not_an_end : (p : Tables) (e : Logged) (t n r : ℕ) → line_of p e ≡ end_line t n r → ⊥
not_an_end p e t n r same =
    let opened : numeral (time_of e) ++ tail_of p e ≡ end_line t n r = sym (line_parts p e) ∙ same in
    let parts = cut_same in_number (numeral (time_of e)) [] (tail_of p e) (end_line t n r) (numeral_in (time_of e)) tt (tail_stops p e) refl opened in
    omega (arith, numeral_some (time_of e), ap length parts.0)

pub same_heads : (x y : List ℕ) (xs ys : List (List ℕ)) → x ∷ xs ≡ y ∷ ys → (x ≡ y) × (xs ≡ ys)
same_heads x y xs ys e = (cc, cc)

pub not_last : (p : Tables) (e : Logged) (all : List Logged) → line_of p e ≡ last_line p all → ⊥
not_last p e all same = not_an_end p e (sum_by ticks_in all) (length all) (sum_by (refused_in p) all) same

-- the lines of entries and a last line that begin with those of other entries and one line more: the entries begin with the others
pub entries_begin :
    (p : Tables) → MeetsTableRules p → AreWords p → (es hs all : List Logged) → AreTold p es → AreTold p hs → (line : List ℕ) (rest : List (List ℕ))
    → map (line_of p) hs ++ (last_line p all ∷ []) ≡ map (line_of p) es ++ (line ∷ rest)
    → (more : List Logged) × (hs ≡ es ++ more) × (map (line_of p) more ++ (last_line p all ∷ []) ≡ line ∷ rest)
entries_begin p rules words [] hs all told told' line rest same = (hs, refl, same)
entries_begin p rules words (e ∷ es) [] all told told' line rest same =
    absurd (not_last p e all (sym (same_heads (last_line p all) (line_of p e) [] (map (line_of p) es ++ (line ∷ rest)) same).0))
entries_begin p rules words (e ∷ es) (h ∷ hs) all told told' line rest same =
    let parts = same_heads (line_of p h) (line_of p e) (map (line_of p) hs ++ (last_line p all ∷ [])) (map (line_of p) es ++ (line ∷ rest)) same in
    let first : h ≡ e = line_same p rules words h e (told' 0 h refl) (told 0 e refl) parts.0 in
    let (more, is, last) = entries_begin p rules words es hs all (λ i x at. told (suc i) x at) (λ i x at. told' (suc i) x at) line rest parts.1 in
    (more, ap (λ x. x ∷ hs) first ∙ ap (λ l. e ∷ l) is, last)

-- the lines of entries alone are not those of entries and a last line
pub no_end_there : (p : Tables) (es hs all : List Logged) → map (line_of p) hs ++ (last_line p all ∷ []) ≡ map (line_of p) es → ⊥
no_end_there p [] [] all same = absurd cc
no_end_there p [] (h ∷ hs) all same = absurd cc
no_end_there p (e ∷ es) [] all same = not_last p e all (sym (same_heads (last_line p all) (line_of p e) [] (map (line_of p) es) same).0)
no_end_there p (e ∷ es) (h ∷ hs) all same =
    no_end_there p es hs all (same_heads (line_of p h) (line_of p e) (map (line_of p) hs ++ (last_line p all ∷ [])) (map (line_of p) es) same).1

-- the lines of a trace with one front of its opening, and of its entries
pub behind_opening :
    (p : Tables) (f : Plan) (hs es : List Logged) (rest : List (List ℕ)) → trace_lines p f.start hs ≡ (opening_lines p f ++ map (line_of p) es) ++ rest
    → map (line_of p) hs ++ (last_line p hs ∷ []) ≡ map (line_of p) es ++ rest
behind_opening p f hs es rest same = append_cancel_left (opening_lines p f) _ _ (same ∙ append_assoc (opening_lines p f) (map (line_of p) es) rest)

-- one line more, and the rest
pub line_and_rest : (front : List (List ℕ)) (line : List ℕ) (rest : List (List ℕ)) → (front ++ line ∷ []) ++ rest ≡ front ++ line ∷ rest
line_and_rest front line rest = append_assoc front (line ∷ []) rest

-- a list that begins with some front of another and one thing more has this where the other has its own
pub same_behind : {A : Type 0} (xs : List A) (n : ℕ) (x y : A) (zs rest : List A) → At xs n x → xs ++ zs ≡ (take n xs ++ y ∷ []) ++ rest → x ≡ y
same_behind [] n x y zs rest at same = absurd (none-some x at)
same_behind (w ∷ xs) zero x y zs rest at same = (let e = same_Some w x at in cc)
same_behind (w ∷ xs) (suc n) x y zs rest at same = same_behind xs n x y zs rest at cc

-- a front is no longer than the list
pub front_short : {A : Type 0} (xs : List A) (n : ℕ) → length (take n xs) ≤ length xs
front_short [] zero = omega arith
front_short [] (suc n) = omega arith
front_short (x ∷ xs) zero = omega arith
front_short (x ∷ xs) (suc n) = (let rest = front_short xs n in omega (arith, rest))
