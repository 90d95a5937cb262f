-- Lines have one answer: they are the trace of one history, or are refused at one line by one test.
use Rattle.std.proofs.Common.{◌≡◌, ℕ, suc, ◌<◌, ◌≤◌, ◌⊎◌, ⊎_elim, inl, inr, List, [], ◌∷◌, ◌++◌, map, length, refl, sym, ap, ◌∙◌, subst, arith, append_assoc}
use Rattle.std.proofs.Common.{append-nil}
use Rattle.std.proofs.Math.Seq.{take-length, drop-length}
use Rattle.std.proofs.lemmas.Bool.{cases_lt}
use Rattle.std.proofs.lemmas.List.{append_cancel_left, length-append}
use Rattle.sot_lang.specs.Tables.{Tables}
use Rattle.sot_lang.specs.TableRules.{MeetsTableRules}
use Rattle.sot_world.specs.declared.outcome.Why.{Why}
use Rattle.sot_world.specs.declared.outcome.Why.TheVariants as whys
use Rattle.sot_world.specs.Configurations.{Configuration}
use Rattle.sot_world.specs.HistoryEntry.{Logged}
use Rattle.sot_flight.specs.Plans.{Plan}
use Rattle.sot_board.specs.Flown.{Position, Leads, FlownSoFar}
use Rattle.sot_board.proofs.Same.{from_front}
use Rattle.sot_trace.specs.Lines.{line_of}
use Rattle.sot_trace.specs.Traces.{last_line, text_of}
use Rattle.sot_trace.specs.Words.{AreWords}
use Rattle.sot_trace.proofs.LineTexts.{line_same}
use Rattle.sot_trace.proofs.FlownTold.{flown_told}
use Rattle.sot_trace.proofs.TraceTexts.{text_tells}
use Rattle.sot_trace_lines.specs.Spelled.{Spelled, InputLine, FireLine, DecideLine, TickLine, EndLine}
use Rattle.sot_trace_lines.proofs.ReadLines.{spelled_once}
use Rattle.sot_replay.specs.GoesOn.{IsTraceOf, GoesOn}
use Rattle.sot_replay.specs.Tests.{order_of, WorldRefuses, Fails, FailsFirst, IsFirstFailing}
use Rattle.sot_replay.specs.Replays.{opening_lines, Tell, RefusesStart, RefusesLine, StopsShort, StopsAt, IsRefusedAt}
use Rattle.sot_replay.specs.Laws.{RefusedOnce, TracesAreNotRefused, TracedOnce}
use Rattle.sot_replay.specs.declared.fail.LineKind.{LineKind}
use Rattle.sot_replay.specs.declared.fail.LineKind.TheVariants.{NotALine, WrongTime, NotDue, AlreadyFired, NodesLeft, OutsideType, InputsLeft, TooFar, Differs}
use Rattle.sot_replay.specs.declared.fail.LineKind.TheVariants.{Ended, Missing}
use Rattle.sot_trace.proofs.TraceTexts.{AreTold}
use Rattle.sot_replay.proofs.BegunTraces.{no_end_there, behind_opening, same_heads}
use Rattle.sot_replay.proofs.LinesGoOn.{fewer_go_on}

-- two fronts of a list, the first no longer than the second
shorter_front : {A : Type 0} (xs rest ys other : List A) → xs ++ rest ≡ ys ++ other → length xs ≤ length ys
    → (more : List A) × (ys ≡ xs ++ more) × (rest ≡ more ++ other)
shorter_front [] rest ys other same le = (ys, refl, same)
shorter_front (x ∷ xs) rest [] other same le = absurd (omega (arith, le))
shorter_front {A} (x ∷ xs) rest (y ∷ ys) other same le =
    let heads : x ≡ y = cc in
    let tails : xs ++ rest ≡ ys ++ other = cc in
    let (more, is, left) = shorter_front xs rest ys other tails (omega (arith, le)) in
    (more, ap (λ z. z ∷ ys) (sym heads) ∙ ap (λ l. x ∷ l) is, left)

-- the lines of entries tell them
lines_same : (p : Tables) → MeetsTableRules p → AreWords p → (es hs : List Logged) → AreTold p es → AreTold p hs → map (line_of p) es ≡ map (line_of p) hs
    → es ≡ hs
lines_same p rules words [] [] told told' same = refl
lines_same p rules words [] (h ∷ hs) told told' same = absurd cc
lines_same p rules words (e ∷ es) [] told told' same = absurd cc
lines_same p rules words (e ∷ es) (h ∷ hs) told told' same =
    let parts = same_heads (line_of p e) (line_of p h) (map (line_of p) es) (map (line_of p) hs) same in
    let first : e ≡ h = line_same p rules words e h (told 0 e refl) (told' 0 h refl) parts.0 in
    ap (λ x. x ∷ es) first ∙ ap (λ l. h ∷ l) (lines_same p rules words es hs (λ i x at. told (suc i) x at) (λ i x at. told' (suc i) x at) parts.1)

-- the answers of the world exclude one another
one_why : (p : Tables) (j : ℕ) (C : Configuration) (s : Spelled) (a b : Why) → WorldRefuses p j C s a → WorldRefuses p j C s b → a ≡ b
one_why p j C s whys.NotDue whys.NotDue x y = refl
one_why p j C s whys.AlreadyFired whys.AlreadyFired x y = refl
one_why p j C s whys.NodesLeft whys.NodesLeft x y = refl
one_why p j C s whys.OutsideType whys.OutsideType x y = refl
one_why p j C (InputLine time topic value) whys.NotDue b x y = absurd x
one_why p j C (InputLine time topic value) whys.AlreadyFired b x y = absurd x
one_why p j C (InputLine time topic value) whys.NodesLeft b x y = absurd x
one_why p j C (InputLine time topic value) whys.OutsideType whys.NotDue x y = absurd y
one_why p j C (InputLine time topic value) whys.OutsideType whys.AlreadyFired x y = absurd y
one_why p j C (InputLine time topic value) whys.OutsideType whys.NodesLeft x y = absurd y
one_why p j C (FireLine time node enabled slots) whys.NotDue whys.AlreadyFired x y = absurd (x y.0)
one_why p j C (FireLine time node enabled slots) whys.AlreadyFired whys.NotDue x y = absurd (y x.0)
one_why p j C (FireLine time node enabled slots) whys.NotDue whys.NodesLeft x y = absurd y
one_why p j C (FireLine time node enabled slots) whys.NotDue whys.OutsideType x y = absurd y
one_why p j C (FireLine time node enabled slots) whys.AlreadyFired whys.NodesLeft x y = absurd y
one_why p j C (FireLine time node enabled slots) whys.AlreadyFired whys.OutsideType x y = absurd y
one_why p j C (FireLine time node enabled slots) whys.NodesLeft b x y = absurd x
one_why p j C (FireLine time node enabled slots) whys.OutsideType b x y = absurd x
one_why p j C (DecideLine time decider mode) whys.NotDue whys.AlreadyFired x y = absurd (x y.0)
one_why p j C (DecideLine time decider mode) whys.AlreadyFired whys.NotDue x y = absurd (y x.0)
one_why p j C (DecideLine time decider mode) whys.NotDue whys.NodesLeft x y = absurd y
one_why p j C (DecideLine time decider mode) whys.NotDue whys.OutsideType x y = absurd y
one_why p j C (DecideLine time decider mode) whys.AlreadyFired whys.NodesLeft x y = absurd y
one_why p j C (DecideLine time decider mode) whys.AlreadyFired whys.OutsideType x y = absurd y
one_why p j C (DecideLine time decider mode) whys.NodesLeft b x y = absurd x
one_why p j C (DecideLine time decider mode) whys.OutsideType b x y = absurd x
one_why p j C (TickLine time noise states) whys.NotDue b x y = absurd x
one_why p j C (TickLine time noise states) whys.AlreadyFired b x y = absurd x
one_why p j C (TickLine time noise states) whys.NodesLeft whys.NotDue x y = absurd y
one_why p j C (TickLine time noise states) whys.NodesLeft whys.AlreadyFired x y = absurd y
one_why p j C (TickLine time noise states) whys.NodesLeft whys.OutsideType x y = absurd (x y.0)
one_why p j C (TickLine time noise states) whys.OutsideType whys.NotDue x y = absurd y
one_why p j C (TickLine time noise states) whys.OutsideType whys.AlreadyFired x y = absurd y
one_why p j C (TickLine time noise states) whys.OutsideType whys.NodesLeft x y = absurd (y x.0)
one_why p j C (EndLine ticks events refused) whys.NotDue b x y = absurd x
one_why p j C (EndLine ticks events refused) whys.AlreadyFired b x y = absurd x
one_why p j C (EndLine ticks events refused) whys.NodesLeft whys.NotDue x y = absurd y
one_why p j C (EndLine ticks events refused) whys.NodesLeft whys.AlreadyFired x y = absurd y
one_why p j C (EndLine ticks events refused) whys.NodesLeft whys.OutsideType x y = absurd y
one_why p j C (EndLine ticks events refused) whys.OutsideType b x y = absurd x

abbrev kind_of : Why → LineKind
kind_of whys.NotDue = NotDue
kind_of whys.AlreadyFired = AlreadyFired
kind_of whys.NodesLeft = NodesLeft
kind_of whys.OutsideType = OutsideType

module _ (p : Tables) (j : ℕ) (f : Plan) (es : List Logged) (P : Position) (line : List ℕ) where
  -- of tests at one place in the order one fails
  one_test : (s : Spelled) (k l : LineKind) → order_of k ≡ order_of l → Fails k p j f es P s line → Fails l p j f es P s line → k ≡ l
  one_test s NotALine l e x y = absurd x
  one_test s Ended l e x y = absurd x
  one_test s Missing l e x y = absurd x
  one_test s WrongTime WrongTime e x y = refl
  one_test s InputsLeft InputsLeft e x y = refl
  one_test s TooFar TooFar e x y = refl
  one_test s Differs Differs e x y = refl
  one_test s NotDue NotDue e x y = refl
  one_test s NotDue AlreadyFired e x y = ap kind_of (one_why p j P.at s whys.NotDue whys.AlreadyFired x y)
  one_test s NotDue NodesLeft e x y = ap kind_of (one_why p j P.at s whys.NotDue whys.NodesLeft x y)
  one_test s NotDue OutsideType e x y = ap kind_of (one_why p j P.at s whys.NotDue whys.OutsideType x y)
  one_test s AlreadyFired NotDue e x y = ap kind_of (one_why p j P.at s whys.AlreadyFired whys.NotDue x y)
  one_test s AlreadyFired AlreadyFired e x y = refl
  one_test s AlreadyFired NodesLeft e x y = ap kind_of (one_why p j P.at s whys.AlreadyFired whys.NodesLeft x y)
  one_test s AlreadyFired OutsideType e x y = ap kind_of (one_why p j P.at s whys.AlreadyFired whys.OutsideType x y)
  one_test s NodesLeft NotDue e x y = ap kind_of (one_why p j P.at s whys.NodesLeft whys.NotDue x y)
  one_test s NodesLeft AlreadyFired e x y = ap kind_of (one_why p j P.at s whys.NodesLeft whys.AlreadyFired x y)
  one_test s NodesLeft NodesLeft e x y = refl
  one_test s NodesLeft OutsideType e x y = ap kind_of (one_why p j P.at s whys.NodesLeft whys.OutsideType x y)
  one_test s OutsideType NotDue e x y = ap kind_of (one_why p j P.at s whys.OutsideType whys.NotDue x y)
  one_test s OutsideType AlreadyFired e x y = ap kind_of (one_why p j P.at s whys.OutsideType whys.AlreadyFired x y)
  one_test s OutsideType NodesLeft e x y = ap kind_of (one_why p j P.at s whys.OutsideType whys.NodesLeft x y)
  one_test s OutsideType OutsideType e x y = refl
  one_test s k l e x y = absurd (omega (arith, e))

  same_order : (s : Spelled) (k l : LineKind) → FailsFirst p j f es P line k s → FailsFirst p j f es P line l s → order_of k ≡ order_of l
  same_order s k l a b =
      ⊎_elim
      (λ less. absurd (b.first k less a.fails))
      (λ le. ⊎_elim (λ more. absurd (a.first l more b.fails)) (λ ge. let e : order_of k ≡ order_of l = omega (arith, le, ge) in e)
      (cases_lt (order_of l) (order_of k)))
      (cases_lt (order_of k) (order_of l))

  one_failing : MeetsTableRules p → AreWords p → (k l : LineKind) → IsFirstFailing p j f es P line k → IsFirstFailing p j f es P line l → k ≡ l
  one_failing rules words k l (inl a) (inl b) = a.0 ∙ sym b.0
  one_failing rules words k l (inl a) (inr (s, first)) = absurd (a.1 s first.spelled)
  one_failing rules words k l (inr (s, first)) (inl b) = absurd (b.1 s first.spelled)
  one_failing rules words k l (inr (s, first)) (inr (t, other)) =
      let same = spelled_once p line t s rules words other.spelled first.spelled in
      let other' = subst (FailsFirst p j f es P line l) same other in
      one_test s k l (same_order s k l first other') first.fails other'.fails

-- a history leads to one position
one_position : (p : Tables) (j : ℕ) (f : Plan) (es : List Logged) (P Q : Position) → FlownSoFar p j f es P → FlownSoFar p j f es Q → P ≡ Q
one_position p j f es P Q a b =
    let led = from_front p j f (length es) es P Q (subst (λ l. FlownSoFar p j f l P) (sym (take-length es)) a) b in
    subst (λ l. Leads p j f P l Q) (drop-length es) led

module _ (p : Tables) (j : ℕ) (f : Plan) (rules : MeetsTableRules p) (words : AreWords p) (front : List (List ℕ)) where
  -- how long lines are that tell a history, and a trace
  told_length : (es : List Logged) (P : Position) → Tell p j f front es P → length (opening_lines p f) ≤ length front
  told_length es P tell = omega (arith, ap length tell.2, length-append (opening_lines p f) (map (line_of p) es))

  trace_length : (es : List Logged) → IsTraceOf p j f front es → length (opening_lines p f) ≤ length front
  trace_length es trace = omega (arith, ap length trace.1, length-append (opening_lines p f) (map (line_of p) es ++ (last_line p es ∷ [])))

  some_opening : 0 < length (opening_lines p f)
  some_opening = omega arith

  told_short : (es : List Logged) (P : Position) (hs : List Logged) → Tell p j f front es P → IsTraceOf p j f front hs → ⊥
  told_short es P hs tell trace =
      no_end_there p es hs hs (behind_opening p f hs es [] (sym trace.1 ∙ tell.2 ∙ sym (append-nil (opening_lines p f ++ map (line_of p) es)))
      ∙ append-nil (map (line_of p) es))

  told_once : (es hs : List Logged) (P Q : Position) → Tell p j f front es P → Tell p j f front hs Q → es ≡ hs
  told_once es hs P Q a b =
      lines_same p rules words es hs (flown_told p j f es P rules a.0).told (flown_told p j f hs Q rules b.0).told
      (append_cancel_left (opening_lines p f) (map (line_of p) es) (map (line_of p) hs) (sym a.2 ∙ b.2))

  one_start : (line : List ℕ) (k l : LineKind) → RefusesStart p line k → RefusesStart p line l → k ≡ l
  one_start line k l (inl a) (inl b) = a.0 ∙ sym b.0
  one_start line k l (inl a) (inr b) = absurd (a.1 b.1)
  one_start line k l (inr a) (inl b) = absurd (b.1 a.1)
  one_start line k l (inr a) (inr b) = a.0 ∙ sym b.0

  one_refusal : (line : List ℕ) (k l : LineKind) → RefusesLine p j f front line k → RefusesLine p j f front line l → k ≡ l
  one_refusal line k l (inl a) (inl b) = a.1 ∙ sym b.1
  one_refusal line k l (inl a) (inr (inl b)) = absurd (b.0 a.0)
  one_refusal line k l (inl a) (inr (inr (inl (es, P, tell, failing)))) = absurd (omega (arith, some_opening, told_length es P tell, ap length a.0))
  one_refusal line k l (inl a) (inr (inr (inr (es, trace, is)))) = absurd (omega (arith, some_opening, trace_length es trace, ap length a.0))
  one_refusal line k l (inr (inl a)) (inl b) = absurd (a.0 b.0)
  one_refusal line k l (inr (inl a)) (inr (inl b)) = one_start line k l a.2 b.2
  one_refusal line k l (inr (inl a)) (inr (inr (inl (es, P, tell, failing)))) = absurd (omega (arith, told_length es P tell, a.1))
  one_refusal line k l (inr (inl a)) (inr (inr (inr (es, trace, is)))) = absurd (omega (arith, trace_length es trace, a.1))
  one_refusal line k l (inr (inr (inl (es, P, tell, failing)))) (inl b) = absurd (omega (arith, some_opening, told_length es P tell, ap length b.0))
  one_refusal line k l (inr (inr (inl (es, P, tell, failing)))) (inr (inl b)) = absurd (omega (arith, told_length es P tell, b.1))
  one_refusal line k l (inr (inr (inl (es, P, tell, failing)))) (inr (inr (inl (hs, Q, tell', failing')))) =
      let same = told_once es hs P Q tell tell' in
      let position = one_position p j f es P Q tell.0 (subst (λ x. FlownSoFar p j f x Q) (sym same) tell'.0) in
      one_failing p j f es P line rules words k l failing (subst (λ x. IsFirstFailing p j f es x line l) (sym position)
      (subst (λ x. IsFirstFailing p j f x Q line l) (sym same) failing'))
  one_refusal line k l (inr (inr (inl (es, P, tell, failing)))) (inr (inr (inr (hs, trace, is)))) = absurd (told_short es P hs tell trace)
  one_refusal line k l (inr (inr (inr (es, trace, is)))) (inl b) = absurd (omega (arith, some_opening, trace_length es trace, ap length b.0))
  one_refusal line k l (inr (inr (inr (es, trace, is)))) (inr (inl b)) = absurd (omega (arith, trace_length es trace, b.1))
  one_refusal line k l (inr (inr (inr (es, trace, is)))) (inr (inr (inl (hs, Q, tell, failing)))) = absurd (told_short hs Q es tell trace)
  one_refusal line k l (inr (inr (inr (es, trace, is)))) (inr (inr (inr (hs, trace', is')))) = is ∙ sym is'

module _ (p : Tables) (j : ℕ) (f : Plan) (lines : List (List ℕ)) where
  -- lines that go on with one line more, and further lines
  goes_with : (front : List (List ℕ)) (line : List ℕ) (more : List (List ℕ)) → GoesOn p j f (front ++ line ∷ more) → GoesOn p j f (front ++ line ∷ [])
  goes_with front line more goes = fewer_go_on p j f (front ++ line ∷ []) more (subst (GoesOn p j f) (sym (append_assoc front (line ∷ []) more)) goes)

  -- a refusal has no later one behind it
  not_later : (m n : ℕ) (k l : LineKind) (a : IsRefusedAt p j f lines m k) (b : IsRefusedAt p j f lines n l) → length a.front < length b.front → ⊥
  not_later m n k l a b less =
      let (more, is, left) = shorter_front a.front a.rest b.front b.rest (sym a.is ∙ b.is) (omega (arith, less)) in
      by_more more is left
    where
      at_line : (line x : List ℕ) (rest more : List (List ℕ)) → b.front ≡ a.front ++ x ∷ more → line ∷ rest ≡ (x ∷ more) ++ b.rest
          → (GoesOn p j f (a.front ++ line ∷ []) → ⊥) → ⊥
      at_line line x rest more is left stops =
          let same : line ≡ x = cc in
          stops (subst (λ y. GoesOn p j f (a.front ++ y ∷ [])) (sym same) (goes_with a.front x more (subst (GoesOn p j f) is b.goes_on)))

      by_more : (more : List (List ℕ)) → b.front ≡ a.front ++ more → a.rest ≡ more ++ b.rest → ⊥
      by_more [] is left = (let size : length b.front ≡ length a.front = ap length is ∙ ap length (append-nil a.front) in omega (arith, less, size))
      by_more (x ∷ more) is left =
          ⊎_elim
          (λ (empty, kind, none). (let e = sym empty ∙ left in cc))
          (λ (line, rest, begins, stops, why). at_line line x rest more is (sym begins ∙ left) stops)
          a.why

  same_front : (m n : ℕ) (k l : LineKind) (a : IsRefusedAt p j f lines m k) (b : IsRefusedAt p j f lines n l) → (a.front ≡ b.front) × (a.rest ≡ b.rest)
  same_front m n k l a b =
      ⊎_elim
      (λ less. absurd (not_later m n k l a b less))
      (λ le. ⊎_elim
      (λ more. absurd (not_later n m l k b a more))
      (λ ge.
      let (more, is, left) = shorter_front a.front a.rest b.front b.rest (sym a.is ∙ b.is) ge in
      let none : more ≡ [] = no_more more (omega (arith, ap length is, length-append a.front more, le)) in
      (sym (append-nil a.front) ∙ ap (λ l. a.front ++ l) (sym none) ∙ sym is, left ∙ ap (λ l. l ++ b.rest) none))
      (cases_lt (length b.front) (length a.front)))
      (cases_lt (length a.front) (length b.front))
    where
      no_more : (xs : List (List ℕ)) → length xs ≤ 0 → xs ≡ []
      no_more [] few = refl
      no_more (x ∷ xs) few = absurd (omega (arith, few))

  one_reason : MeetsTableRules p → AreWords p → (front rest : List (List ℕ)) (k l : LineKind) → (StopsShort p j f front rest k ⊎ StopsAt p j f front rest k)
      → (StopsShort p j f front rest l ⊎ StopsAt p j f front rest l) → k ≡ l
  one_reason rules words front rest k l (inl a) (inl b) = a.1 ∙ sym b.1
  one_reason rules words front rest k l (inl a) (inr (line, more, begins, stops, why)) = absurd (let e = sym a.0 ∙ begins in cc)
  one_reason rules words front rest k l (inr (line, more, begins, stops, why)) (inl b) = absurd (let e = sym b.0 ∙ begins in cc)
  one_reason rules words front rest k l (inr (line, more, begins, stops, why)) (inr (line', more', begins', stops', why')) =
      let both = sym begins' ∙ begins in
      let same : line' ≡ line = (same_heads line' line more' more both).0 in
      one_refusal p j f rules words front line k l why (subst (λ x. RefusesLine p j f front x l) same why')

pub refused_once : RefusedOnce
refused_once p j f lines number other kind another rules words a b =
    let (fronts, rests) = same_front p j f lines number other kind another a b in (
      a.counted ∙ ap (λ l. suc (length l)) fronts ∙ sym b.counted,
      one_reason p j f lines rules words a.front a.rest kind another a.why
          (subst (λ r. StopsShort p j f a.front r another ⊎ StopsAt p j f a.front r another) (sym rests)
          (subst (λ x. StopsShort p j f x b.rest another ⊎ StopsAt p j f x b.rest another) (sym fronts) b.why)),
    )

pub traces_are_not_refused : TracesAreNotRefused
traces_are_not_refused p j f lines entries number kind (flown, is) a =
    ⊎_elim
    (λ (empty, missing, none). none entries (flown, sym (append-nil a.front) ∙ ap (λ l. a.front ++ l) (sym empty) ∙ sym a.is ∙ is))
    (λ (line, more, begins, stops, why).
    let goes : GoesOn p j f lines = (entries, [], flown, sym is ∙ sym (append-nil lines)) in
    stops (goes_with p j f lines a.front line more (subst (GoesOn p j f) (a.is ∙ ap (λ l. a.front ++ l) begins) goes)))
    a.why

pub traced_once : TracedOnce
traced_once p j f lines entries others rules words (((P, flown, ended), handed), is) (((Q, flown', ended'), handed'), is') =
    (text_tells p f.start f.start entries others rules words (flown_told p j f entries P rules flown) (flown_told p j f others Q rules flown')
    (ap text_of (sym is ∙ is'))).1
