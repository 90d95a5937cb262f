-- Lines that tell a history of a flight so far begin a trace of it, and with which line more they do so again.
use Rattle.std.proofs.Common.{◌≡◌, ℕ, zero, suc, ℤ, ◌⊎◌, ⊎_elim, inl, inr, List, [], ◌∷◌, ◌++◌, Option, Some, None, map, length, take, drop, replicate, sym, ap}
use Rattle.std.proofs.Common.{◌∙◌, subst, arith, append_assoc, append-nil, take-append-drop}
use Rattle.std.proofs.Math.Seq.{take-append_seam, drop-append_seam}
use Rattle.std.proofs.lemmas.List.{map-append, length-append}
use Rattle.std.proofs.lemmas.Option.{none-some, same_Some}
use Rattle.sot_lists.specs.Places.{At}
use Rattle.sot_lang.specs.Tables.{Tables}
use Rattle.sot_lang.specs.TableRules.{MeetsTableRules}
use Rattle.sot_world.specs.HistoryEntry.{Logged}
use Rattle.sot_flight.specs.Plans.{Plan}
use Rattle.sot_board.specs.Flown.{Position, Flies, Leads, FlownSoFar, IsEnd}
use Rattle.sot_board.specs.Standing.{Standing, IsStanding}
use Rattle.sot_board.proofs.Entries.{flown_more}
use Rattle.sot_board.proofs.Same.{from_front}
use Rattle.sot_trace.specs.Lines.{line_of}
use Rattle.sot_trace.specs.Traces.{last_line, trace_lines}
use Rattle.sot_trace.specs.Words.{AreWords}
use Rattle.sot_trace.proofs.FlownTold.{flown_told}
use Rattle.sot_trace_lines.specs.Spelled.{Spelled, IsSpelled}
use Rattle.sot_trace_lines.specs.Laws.{spelled_of}
use Rattle.sot_trace_lines.proofs.ReadLines.{spelled_once, entries_spelled}
use Rattle.sot_law_flights.specs.Completion.{GuestsDraftNothing}
use Rattle.sot_law_flights.proofs.Completing.{stands_after, flights_can_be_completed}
use Rattle.sot_replay.specs.GoesOn.{AreHandedOver, IsTraceOf, GoesOn}
use Rattle.sot_replay.specs.Tests.{IsNextLine, Fails, IsFirstFailing}
use Rattle.sot_replay.specs.Replays.{opening_lines, Tell}
use Rattle.sot_replay.specs.declared.fail.LineKind.{LineKind}
use Rattle.sot_replay.proofs.BegunTraces.{not_last, entries_begin, no_end_there, behind_opening, line_and_rest, same_heads, same_behind, front_short}
use Rattle.sot_replay.proofs.PassedTests.{entry_fits, entry_passes, end_of, end_passes}

-- drafts that are handed over, entry by entry
nothing_at : (n k : ℕ) (z : ℤ) → At (let none : List (Option ℤ) = replicate n None in none) k (Some z) → ⊥
nothing_at zero k z at = none-some (Some z) at
nothing_at (suc n) zero z at = (let e = same_Some None (Some z) at in cc)
nothing_at (suc n) (suc k) z at = nothing_at n k z at

pub handed_nothing : (f : Plan) (more : List Logged) → GuestsDraftNothing f more → AreHandedOver f more
handed_nothing f more silent i time node index draft enabled at crew k z there =
    absurd (nothing_at 8 k z (subst (λ d. At d k (Some z)) (silent i time node index draft enabled at crew) there))

pub handed_both : (f : Plan) (es fs : List Logged) → AreHandedOver f es → AreHandedOver f fs → AreHandedOver f (es ++ fs)
handed_both f [] fs a b i time node index draft enabled at crew k z there = b i time node index draft enabled at crew k z there
handed_both f (e ∷ es) fs a b zero time node index draft enabled at crew k z there = a 0 time node index draft enabled at crew k z there
handed_both f (e ∷ es) fs a b (suc i) time node index draft enabled at crew k z there =
    handed_both f es fs (λ j t n x d o at_j. a (suc j) t n x d o at_j) b i time node index draft enabled at crew k z there

pub handed_behind : (f : Plan) (es fs : List Logged) → AreHandedOver f (es ++ fs) → AreHandedOver f fs
handed_behind f [] fs all = all
handed_behind f (e ∷ es) fs all = handed_behind f es fs (λ j t n x d o at_j. all (suc j) t n x d o at_j)

pub handed_first : (f : Plan) (e : Logged) (fs : List Logged) → AreHandedOver f (e ∷ fs) → AreHandedOver f (e ∷ [])
handed_first f e fs all zero time node index draft enabled at crew k z there = all 0 time node index draft enabled at crew k z there
handed_first f e fs all (suc i) time node index draft enabled at crew k z there = absurd (none-some _ at)

-- fewer lines go on too
pub fewer_go_on : (p : Tables) (j : ℕ) (f : Plan) (xs ys : List (List ℕ)) → GoesOn p j f (xs ++ ys) → GoesOn p j f xs
fewer_go_on p j f xs ys (entries, rest, flown, is) = (entries, ys ++ rest, flown, is ∙ append_assoc xs ys rest)

-- the lines of a trace, with those of the entries in two parts
pub trace_parts :
    (p : Tables) (f : Plan) (es more : List Logged) → trace_lines p f.start (es ++ more)
    ≡ (opening_lines p f ++ map (line_of p) es) ++ (map (line_of p) more ++ (last_line p (es ++ more) ∷ []))
trace_parts p f es more =
    let last = last_line p (es ++ more) ∷ [] in
    ap (λ l. opening_lines p f ++ (l ++ last)) (map-append (line_of p) es more)
    ∙ ap (λ l. opening_lines p f ++ l) (append_assoc (map (line_of p) es) (map (line_of p) more) last)
    ∙ sym (append_assoc (opening_lines p f) (map (line_of p) es) (map (line_of p) more ++ last))

-- the lines that tell a history, with the line of an entry more
pub told_more :
    (p : Tables) (j : ℕ) (f : Plan) (front : List (List ℕ)) (es : List Logged) (P : Position) (entry : Logged) (Q : Position) → Tell p j f front es P
    → Flies p j f P entry Q → AreHandedOver f (entry ∷ [])
    → Tell p j f (front ++ line_of p entry ∷ []) (es ++ entry ∷ []) Q
told_more p j f front es P entry Q (flown, handed, is) flies given = (
  flown_more p j f es P entry Q flown flies,
  handed_both f es (entry ∷ []) handed given,
  ap (λ l. l ++ line_of p entry ∷ []) is
      ∙ append_assoc (opening_lines p f) (map (line_of p) es) (line_of p entry ∷ [])
      ∙ ap (λ l. opening_lines p f ++ l) (sym (map-append (line_of p) es (entry ∷ []))),
)

-- where a whole history begins with one so far, its rest leads on from there
rest_leads : (p : Tables) (j : ℕ) (f : Plan) (es more : List Logged) (P Q : Position) → FlownSoFar p j f es P → FlownSoFar p j f (es ++ more) Q
    → Leads p j f P more Q
rest_leads p j f es more P Q flown all =
    subst (λ l. Leads p j f P l Q) (drop-append_seam es more)
    (from_front p j f (length es) (es ++ more) P Q (subst (λ l. FlownSoFar p j f l P) (sym (take-append_seam es more)) flown) all)

module _ (b : Standing) (is : IsStanding b) (front : List (List ℕ)) (tell : Tell b.accepted.program b.accepted.cert.jitter b.plan front b.entries b.position)
  where
    -- lines that tell a history so far begin the trace of a whole one
    pub told_goes_on : GoesOn b.accepted.program b.accepted.cert.jitter b.plan front
    told_goes_on =
        let p = b.accepted.program in
        let found = flights_can_be_completed b is in
        let more = found.0 in
        let completes = found.1 in (
          b.entries ++ more,
          map (line_of p) more ++ (last_line p (b.entries ++ more) ∷ []),
          (completes.whole, handed_both b.plan b.entries more tell.1 (handed_nothing b.plan more completes.silent)),
          trace_parts p b.plan b.entries more ∙ ap (λ l. l ++ (map (line_of p) more ++ (last_line p (b.entries ++ more) ∷ []))) (sym tell.2),
        )

    -- so do those in front of the entries' lines
    pub opening_goes_on : (n : ℕ) → GoesOn b.accepted.program b.accepted.cert.jitter b.plan (take n (opening_lines b.accepted.program b.plan))
    opening_goes_on n =
        let p = b.accepted.program in
        let opening = opening_lines p b.plan in
        let whole : take n opening ++ (drop n opening ++ map (line_of p) b.entries) ≡ front =
        sym (append_assoc (take n opening) (drop n opening) (map (line_of p) b.entries))
        ∙ ap (λ l. l ++ map (line_of p) b.entries) (take-append-drop n opening) ∙ sym tell.2 in
        fewer_go_on p b.accepted.cert.jitter b.plan (take n opening) (drop n opening ++ map (line_of p) b.entries)
        (subst (GoesOn p b.accepted.cert.jitter b.plan) (sym whole) told_goes_on)

    -- at the end the last line makes them a whole trace
    pub end_is_trace : (line : List ℕ) → IsEnd b.accepted.program b.plan b.position → line ≡ last_line b.accepted.program b.entries
        → IsTraceOf b.accepted.program b.accepted.cert.jitter b.plan (front ++ line ∷ []) b.entries
    end_is_trace line ended last =
        let p = b.accepted.program in (
          ((b.position, is.flown, ended), tell.1),
          ap (λ l. l ++ line ∷ []) tell.2 ∙ append_assoc (opening_lines p b.plan) (map (line_of p) b.entries) (line ∷ [])
              ∙ ap (λ l. opening_lines p b.plan ++ (map (line_of p) b.entries ++ l ∷ [])) last,
        )

    module _ (words : AreWords b.accepted.program) where
      -- with a line more they go on only where it is the line of an entry with which the flight goes on, or the last line at the end
      pub next_or_end :
          (line : List ℕ) → GoesOn b.accepted.program b.accepted.cert.jitter b.plan (front ++ line ∷ [])
          → IsNextLine b.accepted.program b.accepted.cert.jitter b.plan b.position line
          ⊎ (IsEnd b.accepted.program b.plan b.position × (line ≡ last_line b.accepted.program b.entries))
      next_or_end line (hs, rest, ((Q, flown, ended), handed), same) =
          let p = b.accepted.program in
          let j = b.accepted.cert.jitter in
          let f = b.plan in
          let lines : trace_lines p f.start hs ≡ (opening_lines p f ++ map (line_of p) b.entries) ++ line ∷ rest = same ∙ line_and_rest front line rest
          ∙ ap (λ l. l ++ line ∷ rest) tell.2 in
          let (more, begins, left) = entries_begin p is.kept.rules words b.entries hs hs (flown_told p j f b.entries b.position is.kept.rules is.flown).told
          (flown_told p j f hs Q is.kept.rules flown).told line rest (behind_opening p f hs b.entries (line ∷ rest) lines) in
          by_more more hs begins (rest_leads p j f b.entries more b.position Q is.flown (subst (λ l. FlownSoFar p j f l Q) begins flown))
          (handed_behind f b.entries more (subst (AreHandedOver f) begins handed)) ended left
        where
          by_more :
              (more hs : List Logged) → hs ≡ b.entries ++ more → Leads b.accepted.program b.accepted.cert.jitter b.plan b.position more Q
              → AreHandedOver b.plan more → IsEnd b.accepted.program b.plan Q
              → map (line_of b.accepted.program) more ++ (last_line b.accepted.program hs ∷ []) ≡ line ∷ rest
              → IsNextLine b.accepted.program b.accepted.cert.jitter b.plan b.position line
              ⊎ (IsEnd b.accepted.program b.plan b.position × (line ≡ last_line b.accepted.program b.entries))
          by_more [] hs begins led handed ended left =
              inr (
                subst (λ S. IsEnd b.accepted.program b.plan S) (sym led) ended,
                sym (same_heads (last_line b.accepted.program hs) line [] rest left).0 ∙ ap (last_line b.accepted.program) (begins ∙ append-nil b.entries),
              )
          by_more (e ∷ more) hs begins (R, flies, led) handed ended left =
              inl (
                e,
                R,
                flies,
                handed_first b.plan e more handed,
                sym (same_heads (line_of b.accepted.program e) line
                    (map (line_of b.accepted.program) more ++ (last_line b.accepted.program hs ∷ [])) rest left).0,
              )

      -- where a test fails they do not
      pub failing_stops : (line : List ℕ) (kind : LineKind) → IsFirstFailing b.accepted.program b.accepted.cert.jitter b.plan b.entries b.position line kind
          → GoesOn b.accepted.program b.accepted.cert.jitter b.plan (front ++ line ∷ []) → ⊥
      failing_stops line kind failing goes =
          ⊎_elim
          (λ (entry, Q, flies, handed, line_is).
          let p = b.accepted.program in
          let here : IsSpelled p line (spelled_of p entry) = subst (λ l. IsSpelled p l (spelled_of p entry)) (sym line_is)
          (entries_spelled p entry (entry_fits b is entry Q flies)) in
          passed kind (spelled_of p entry) here (entry_passes b is entry Q flies line (entry, Q, flies, handed, line_is) kind) failing)
          (λ (ended, line_is).
          let p = b.accepted.program in
          let here : IsSpelled p line (end_of p b.entries) = (tt, line_is) in
          passed kind (end_of p b.entries) here (λ no. end_passes b is ended kind
          (subst (Fails kind p b.accepted.cert.jitter b.plan b.entries b.position (end_of p b.entries)) line_is no)) failing)
          (next_or_end line goes)
        where
          passed :
              (kind : LineKind) (s : Spelled) → IsSpelled b.accepted.program line s
              → (Fails kind b.accepted.program b.accepted.cert.jitter b.plan b.entries b.position s line → ⊥)
              → IsFirstFailing b.accepted.program b.accepted.cert.jitter b.plan b.entries b.position line kind → ⊥
          passed kind s here passes failing =
              ⊎_elim
              (λ none. none.1 s here)
              (λ (t, first). passes (subst (λ x. Fails kind b.accepted.program b.accepted.cert.jitter b.plan b.entries b.position x line)
              (spelled_once b.accepted.program line t s is.kept.rules words first.spelled here) first.fails))
              failing

    -- they stop short of a whole trace
    pub told_is_short : (hs : List Logged) → IsTraceOf b.accepted.program b.accepted.cert.jitter b.plan front hs → ⊥
    told_is_short hs (flown, same) =
        let p = b.accepted.program in
        let lines : trace_lines p b.plan.start hs ≡ (opening_lines p b.plan ++ map (line_of p) b.entries) ++ [] = sym same ∙ tell.2 ∙ sym (append-nil _) in
        no_end_there p b.entries hs hs (behind_opening p b.plan hs b.entries [] lines ∙ append-nil _)

-- another line in the place of one of the opening
pub other_opening : (p : Tables) (j : ℕ) (f : Plan) (n : ℕ) (expected line : List ℕ) → At (opening_lines p f) n expected → (line ≡ expected → ⊥)
    → GoesOn p j f (take n (opening_lines p f) ++ line ∷ []) → ⊥
other_opening p j f n expected line at other (hs, rest, flown, same) = other (sym (same_behind (opening_lines p f) n expected line _ rest at same))

-- the opening alone stops short of a whole trace
pub opening_is_short : (p : Tables) (j : ℕ) (f : Plan) (n : ℕ) (hs : List Logged) → IsTraceOf p j f (take n (opening_lines p f)) hs → ⊥
opening_is_short p j f n hs (flown, same) =
    let size = ap length same ∙ length-append (opening_lines p f) (map (line_of p) hs ++ (last_line p hs ∷ [])) in
    omega (arith, size, front_short (opening_lines p f) n, length-append (map (line_of p) hs) (last_line p hs ∷ []))

-- behind the end no line goes on
pub behind_the_end :
    (p : Tables) (j : ℕ) (f : Plan) (front : List (List ℕ)) (es : List Logged) (line : List ℕ) → MeetsTableRules p → AreWords p → IsTraceOf p j f front es
    → GoesOn p j f (front ++ line ∷ []) → ⊥
behind_the_end p j f front es line rules words (((P, flown, ended), handed), is) (hs, rest, ((Q, flown', ended'), handed'), same) =
    let last = last_line p es in
    let whole : front ≡ (opening_lines p f ++ map (line_of p) es) ++ last ∷ [] = is ∙ sym (append_assoc (opening_lines p f) (map (line_of p) es) (last ∷ [])) in
    let lines : trace_lines p f.start hs ≡ (opening_lines p f ++ map (line_of p) es) ++ last ∷ line ∷ rest =
    same ∙ line_and_rest front line rest ∙ ap (λ l. l ++ line ∷ rest) whole ∙ line_and_rest (opening_lines p f ++ map (line_of p) es) last (line ∷ rest) in
    let (more, begins, left) = entries_begin p rules words es hs hs (flown_told p j f es P rules flown).told (flown_told p j f hs Q rules flown').told last
    (line ∷ rest) (behind_opening p f hs es (last ∷ line ∷ rest) lines) in
    by_more more left
  where
    by_more : (more : List Logged) → map (line_of p) more ++ (last_line p hs ∷ []) ≡ last_line p es ∷ line ∷ rest → ⊥
    by_more [] left = absurd cc
    by_more (e ∷ more) left = not_last p e es (same_heads (line_of p e) (last_line p es) (map (line_of p) more ++ (last_line p hs ∷ [])) (line ∷ rest) left).0

-- with the line of an entry with which the flight goes on, and at the end with the last line, they go on
module _ (b : Standing) (is : IsStanding b) (front : List (List ℕ)) (tell : Tell b.accepted.program b.accepted.cert.jitter b.plan front b.entries b.position)
  where
    pub next_goes_on : (line : List ℕ) → IsNextLine b.accepted.program b.accepted.cert.jitter b.plan b.position line
        → GoesOn b.accepted.program b.accepted.cert.jitter b.plan (front ++ line ∷ [])
    next_goes_on line (entry, Q, flies, handed, line_is) =
        let p = b.accepted.program in
        let j = b.accepted.cert.jitter in
        subst (λ l. GoesOn p j b.plan (front ++ l ∷ [])) (sym line_is)
        (told_goes_on (record { accepted = b.accepted; plan = b.plan; entries = b.entries ++ entry ∷ []; position = Q }) (stands_after b is entry Q flies)
        (front ++ line_of p entry ∷ [])
        (told_more p j b.plan front b.entries b.position entry Q tell flies handed))

    pub end_goes_on : (line : List ℕ) → IsEnd b.accepted.program b.plan b.position → line ≡ last_line b.accepted.program b.entries
        → GoesOn b.accepted.program b.accepted.cert.jitter b.plan (front ++ line ∷ [])
    end_goes_on line ended last =
        let trace = end_is_trace b is front tell line ended last in
        (b.entries, [], trace.0, sym trace.1 ∙ sym (append-nil (front ++ line ∷ [])))
