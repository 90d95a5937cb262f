-- Texts that are written piece by piece.
use Rattle.std.proofs.Common.{◌≡◌, ℕ, ◌+◌, ℤ, List, [], ◌∷◌, ◌++◌, drop, length, map, refl, sym, ap, ◌∙◌, append_assoc}
use Rattle.std.specs.Prelude.{sum_by}
use Rattle.std.proofs.lemmas.List.Sums.{sum_by-cons}
use Rattle.sot_lang.specs.Tables.{Tables}
use Rattle.sot_lists.specs.Places.{At}
use Rattle.sot_lists.proofs.Places.{drop_at}
use Rattle.sot_world.specs.HistoryEntry.{Logged}
use Rattle.sot_trace.specs.Lines.{line_of, header, start_lines, end_line, ticks_in, refused_in}
use Rattle.sot_trace.specs.Traces.{text_of, trace_text}

-- the next line, and those behind it
pub line_more : (p : Tables) (es : List Logged) (i : ℕ) (e : Logged) → At es i e
    → text_of (map (line_of p) (drop i es)) ≡ line_of p e ++ (10 ∷ text_of (map (line_of p) (drop (i + 1) es)))
line_more p es i e at = ap (λ l. text_of (map (line_of p) l)) (drop_at es i e at)

-- what is counted of the next entry, and of those behind it
pub count_more : (f : Logged → ℕ) (es : List Logged) (i : ℕ) (e : Logged) → At es i e → sum_by f (drop i es) ≡ f e + sum_by f (drop (i + 1) es)
count_more f es i e at = ap (sum_by f) (drop_at es i e at) ∙ sum_by-cons f e (drop (i + 1) es)

text_of-append : (a b : List (List ℕ)) → text_of (a ++ b) ≡ text_of a ++ text_of b
text_of-append [] b = refl
text_of-append (l ∷ a) b = ap (λ x. l ++ (10 ∷ x)) (text_of-append a b) ∙ sym (append_assoc l (10 ∷ text_of a) (text_of b))

-- the first lines, the lines of the entries, and the last line
pub whole_trace : (p : Tables) (start : List (List ℤ)) (entries : List Logged) (ticks events refused : ℕ)
    → ticks ≡ sum_by ticks_in entries → events ≡ length entries → refused ≡ sum_by (refused_in p) entries
    → ((header ++ (10 ∷ text_of (start_lines p.plants start))) ++ text_of (map (line_of p) entries)) ++ (end_line ticks events refused ++ (10 ∷ []))
    ≡ trace_text p start entries
whole_trace p start entries ticks events refused is_ticks is_events is_refused =
    let starts = start_lines p.plants start in
    let lines = map (line_of p) entries in
    let front = header ++ (10 ∷ text_of starts) in
    let last = λ (t n r : ℕ). text_of (end_line t n r ∷ []) in
    let counted = ap (λ t. last t events refused) is_ticks ∙ ap (λ n. last (sum_by ticks_in entries) n refused) is_events
    ∙ ap (λ r. last (sum_by ticks_in entries) (length entries) r) is_refused in
    let end = end_line (sum_by ticks_in entries) (length entries) (sum_by (refused_in p) entries) in
    ap (λ x. (front ++ text_of lines) ++ x) counted
    ∙ append_assoc front (text_of lines) (text_of (end ∷ []))
    ∙ ap (λ x. front ++ x) (sym (text_of-append lines (end ∷ [])))
    ∙ ap (λ x. header ++ (10 ∷ x)) (sym (text_of-append starts (lines ++ (end ∷ []))))
