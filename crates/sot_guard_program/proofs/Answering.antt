-- Lines that are heard one after another.
use Rattle.std.proofs.Common.{◌≡◌, ℕ, ◌+◌, true, List, [], ◌∷◌, ◌++◌, map, length, refl, sym, ap, ◌∙◌, subst, append_assoc, append-nil, arith}
use Rattle.std.proofs.lemmas.List.{length-append, map-append}
use Rattle.sot_text.specs.LineEnds.{lines}
use Rattle.sot_trace.specs.Traces.{text_of}
use Rattle.sot_trace_lines.specs.LentLines.{without_end, lent_lines}
use Rattle.sot_guard_protocol.specs.Openings.{Starting, TakesStart}
use Rattle.sot_guard_protocol.specs.Talks.{Talking}
use Rattle.sot_guard_protocol.specs.TalkLaws.{HearsLine, HearsLines}
use Rattle.sot_guard_input.specs.Reading.{ends_line}
use Rattle.sot_guard_input.proofs.LineTexts.{lines_behind, ends_behind}
use Rattle.sot_guard_program.specs.Conversations.{Starts, Answers}
use Rattle.sot_guard_program.specs.Hearing.{IsOneLine}

-- behind whole lines, lines begin anew
pub lent_behind : (a b : List ℕ) → ends_line a ≡ true → lent_lines (a ++ b) ≡ lent_lines a ++ lent_lines b
lent_behind a b whole = ap (map without_end) (lines_behind a b whole) ∙ map-append without_end (lines a) (lines b)

pub lent_more : (a b line : List ℕ) → ends_line a ≡ true → IsOneLine b line → lent_lines (a ++ b) ≡ lent_lines a ++ line ∷ []
lent_more a b line whole one = lent_behind a b whole ∙ ap (λ l. lent_lines a ++ l) one

pub ends_both : (a b : List ℕ) → ends_line a ≡ true → ends_line b ≡ true → ends_line (a ++ b) ≡ true
ends_both a [] first second = ap ends_line (append-nil a) ∙ first
ends_both a (b ∷ bs) first second = ends_behind a (b ∷ bs) (omega arith) ∙ second

-- one more start
pub starts_more : (a b c : Starting) (ls : List (List ℕ)) (line : List ℕ) → Starts a ls b → TakesStart b line c → Starts a (ls ++ line ∷ []) c
starts_more a b c [] line same takes = (c, subst (λ z. TakesStart z line c) same takes, refl)
starts_more a b c (l ∷ ls) line (m, first, rest) takes = (m, first, starts_more m b c ls line rest takes)

-- each start is one point more
pub starts_count : (a b : Starting) (ls : List (List ℕ)) → Starts a ls b → length b.starts ≡ length a.starts + length ls
starts_count a b [] same = (let n = ap (λ (z : Starting). length z.starts) same in omega (arith, n))
starts_count a b (l ∷ ls) (m, first, rest) =
    let n = starts_count m b ls rest in
    let point = first.2.0 in
    let one = ap (λ (z : Starting). length z.starts) first.2.2 in
    omega (arith, n, one, length-append a.starts (point ∷ []))

pub starts_same : (a b : Starting) (ls : List (List ℕ)) → Starts a ls b → b.accepted ≡ a.accepted
starts_same a b [] same = ap (λ (z : Starting). z.accepted) same
starts_same a b (l ∷ ls) (m, first, rest) = starts_same m b ls rest ∙ ap (λ (z : Starting). z.accepted) first.2.2

-- one more line
pub answers_more : (t u v : Talking) (ls : List (List ℕ)) (line text : List ℕ) → Answers t ls u text → (h : HearsLine u line v)
    → Answers t (ls ++ line ∷ []) v (text ++ text_of h.answer)
answers_more t u v [] line text (same, empty) h =
    let answer = text_of h.answer in
    subst (λ z. Answers z (line ∷ []) v (text ++ answer)) same
    (v, h, [], (refl, refl), ap (λ l. l ++ answer) empty ∙ sym (append-nil answer))
answers_more t u v (l ∷ ls) line text (b, first, more, rest, is) h =
    let answer = text_of h.answer in (
      b,
      first,
      more ++ answer,
      answers_more b u v ls line more rest h,
      ap (λ l. l ++ answer) is ∙ append_assoc (text_of first.answer) more answer,
    )

-- lines that are answered are heard
pub answers_heard : (t u : Talking) (ls : List (List ℕ)) (text : List ℕ) → Answers t ls u text → HearsLines t ls u
answers_heard t u [] text (same, empty) = same
answers_heard t u (l ∷ ls) text (b, first, more, rest, is) = (b, first, answers_heard b u ls more rest)
