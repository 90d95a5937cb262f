-- What is looked at of a line, from what is kept of its pieces.
use Rattle.std.proofs.Common.{◌≡◌, ◌≢◌, ℕ, ◌≤◌, Bool, true, false, cond, List, [], ◌∷◌, Option, Some, None, length, replicate, codes, get_or, ◌<◌, refl, sym}
use Rattle.std.proofs.Common.{ap, subst, ◌∙◌, arith}
use Rattle.std.specs.Prelude.{ℤ, pos, slice_get, Result, Ok, Err, IfOk}
use Rattle.std.specs.Option.{option_map_or}
use Rattle.std.proofs.lemmas.Bool.{cond-true}
use Rattle.std.proofs.lemmas.Option.{slice_get_read}
use Rattle.sot_lang.specs.declared.tables.TopicInfo.{TopicInfo}
use Rattle.sot_lang.specs.Tables.{Tables}
use Rattle.sot_lang.specs.TableRules.{MeetsTableRules}
use Rattle.sot_trace.specs.Lines.{writes_of}
use Rattle.sot_trace.specs.Words.{AreWords}
use Rattle.sot_trace_lines.specs.declared.line.Line.{Line}
use Rattle.sot_trace_lines.specs.declared.line.Line.TheVariants.{Input, Fire, Tick}
use Rattle.sot_trace_lines.specs.Spelled.{Spelled, InputLine, FireLine, TickLine, EndLine}
use Rattle.sot_trace_lines.specs.Shown.{Shows, AnswersLine}
use Rattle.sot_trace_lines.specs.Pieces.{◌>>=◌, behind, at_end, numeral_at}
use Rattle.sot_trace_lines.specs.Readers.{refused_at, events_at, counts_at, topic_named, node_named, numbers_for, value_at, input_at, slots_at, fire_at}
use Rattle.sot_trace_lines.specs.Readers.{event_behind_idle, event_behind_fire, event_behind_input, event_at, spelled_at}
use Rattle.sot_trace_lines.specs.Kept.{bounded, Kept, put_all, draft_all, kept_numeral, kept_row, kept_noise, kept_slots, ShowsRead}
use Rattle.sot_trace_lines.proofs.Pieces.{then_next, parts_same}
use Rattle.sot_trace_lines.proofs.KeptNumbers.{reads_time, holds_all, shows_draft}
use Rattle.sot_trace_lines.proofs.Slots.{slots_from}
use Rattle.sot_trace_lines.proofs.SoundLines.{spelled_from}
use Rattle.sot_trace_lines.proofs.ReadLines.{read_spelled}

pub nothing : (list : List ℤ) (o : Option Spelled) → o ≡ None → ShowsRead list None o
nothing list o none = subst (ShowsRead list None) (sym none) tt

-- nothing behind the last piece
pub ended : (x : Spelled) (rest : List ℕ) → rest ≡ [] → at_end x rest ≡ Some x
ended x rest none = ap (at_end x) none

pub not_ended : (x : Spelled) (rest : List ℕ) → rest ≢ [] → at_end x rest ≡ None
not_ended x [] some = absurd (some refl)
not_ended x (b ∷ bs) some = refl

shown : (list : List ℤ) (line : Line) (s : Spelled) (rest : List ℕ) → rest ≡ [] → Shows line list s → ShowsRead list (Some line) (at_end s rest)
shown list line s rest none shows = subst (ShowsRead list (Some line)) (sym (ended s rest none)) shows

-- an input from its row
pub input_shown : (list : List ℤ) (whole : Bool) (rest : List ℕ) (time : Option ℤ) (t k : ℕ) (o : Option (List ℤ × List ℕ))
    → kept_row ([], true) o ≡ Some ((list, whole), rest) → rest ≡ []
    → time ≡ bounded (pos t) → ShowsRead list (Some (Input time k whole)) (o >>= λ v. at_end (InputLine t k v.0) v.1)
input_shown list whole rest time t k None e none is = absurd cc
input_shown list whole rest time t k (Some (v, r)) e none is =
    let same = parts_same (put_all ([], true) v) (list, whole) r rest e in
    shown list (Input time k whole) (InputLine t k v) r (same.1 ∙ none) (t, v, refl, reads_time time (pos t) is, holds_all list v whole same.0)

pub row_goes_on : (kept next : Kept) (rest : List ℕ) (f : List ℤ → Spelled) (o : Option (List ℤ × List ℕ)) → kept_row kept o ≡ Some (next, rest) → rest ≢ []
    → (o >>= λ v. at_end (f v.0) v.1) ≡ None
row_goes_on kept next rest f None e some = refl
row_goes_on kept next rest f (Some (v, r)) e some =
    (let same = parts_same (put_all kept v) next r rest e in not_ended (f v) r (λ none. some (sym same.1 ∙ none)))

pub row_missing : {A : Type 0} (kept : Kept) (f : List ℤ × List ℕ → Option A) (o : Option (List ℤ × List ℕ)) → kept_row kept o ≡ None → (o >>= f) ≡ None
row_missing kept f None e = refl
row_missing kept f (Some v) e = absurd cc

-- a tick from its disturbances
pub tick_shown : (list : List ℤ) (whole : Bool) (rest : List ℕ) (time : Option ℤ) (t : ℕ) (o : Option (List ℤ × List ℤ × List ℕ))
    → kept_noise ([], true) o ≡ Some ((list, whole), rest) → rest ≡ []
    → time ≡ bounded (pos t) → ShowsRead list (Some (Tick time whole)) (o >>= λ m. at_end (TickLine t m.0 m.1) m.2)
tick_shown list whole rest time t None e none is = absurd cc
tick_shown list whole rest time t (Some (v, x, r)) e none is =
    let same = parts_same (put_all ([], true) v) (list, whole) r rest e in
    shown list (Tick time whole) (TickLine t v x) r (same.1 ∙ none) (t, v, x, refl, reads_time time (pos t) is, holds_all list v whole same.0)

pub tick_goes_on : (kept next : Kept) (rest : List ℕ) (t : ℕ) (o : Option (List ℤ × List ℤ × List ℕ)) → kept_noise kept o ≡ Some (next, rest) → rest ≢ []
    → (o >>= λ m. at_end (TickLine t m.0 m.1) m.2) ≡ None
tick_goes_on kept next rest t None e some = refl
tick_goes_on kept next rest t (Some (v, x, r)) e some =
    (let same = parts_same (put_all kept v) next r rest e in not_ended (TickLine t v x) r (λ none. some (sym same.1 ∙ none)))

pub tick_missing : (kept : Kept) (t : ℕ) (o : Option (List ℤ × List ℤ × List ℕ)) → kept_noise kept o ≡ None
    → (o >>= λ m. at_end (TickLine t m.0 m.1) m.2) ≡ None
tick_missing kept t None e = refl
tick_missing kept t (Some m) e = absurd cc

-- a firing from its slots
pub fire_shown : (list : List ℤ) (draft : List (Option ℤ)) (whole : Bool) (rest : List ℕ) (time : Option ℤ) (t n : ℕ) (enabled : Bool)
    (o : Option (List (Option (Bool × ℤ)) × List ℕ))
    → ((slots : List (Option (Bool × ℤ))) (r : List ℕ) → o ≡ Some (slots, r) → length slots ≤ 8)
    → kept_slots 0 (replicate 8 None, true) o ≡ Some ((draft, whole), rest) → rest ≡ [] → time ≡ bounded (pos t)
    → ShowsRead list (Some (Fire time n (cond whole (Some draft) None))) (o >>= λ d. at_end (FireLine t n enabled d.0) d.1)
fire_shown list draft whole rest time t n enabled None few e none is = absurd cc
fire_shown list draft whole rest time t n enabled (Some (slots, r)) few e none is =
    let same = parts_same (draft_all 0 (replicate 8 None, true) slots) (draft, whole) r rest e in
    shown list (Fire time n (cond whole (Some draft) None)) (FireLine t n enabled slots) r (same.1 ∙ none)
    (t, enabled, slots, refl, reads_time time (pos t) is, shows_draft draft whole slots (few slots r refl) same.0)

pub fire_goes_on : (kept next : List (Option ℤ) × Bool) (rest : List ℕ) (t n : ℕ) (enabled : Bool) (o : Option (List (Option (Bool × ℤ)) × List ℕ))
    → kept_slots 0 kept o ≡ Some (next, rest) → rest ≢ []
    → (o >>= λ d. at_end (FireLine t n enabled d.0) d.1) ≡ None
fire_goes_on kept next rest t n enabled None e some = refl
fire_goes_on kept next rest t n enabled (Some (slots, r)) e some =
    (let same = parts_same (draft_all 0 kept slots) next r rest e in not_ended (FireLine t n enabled slots) r (λ none. some (sym same.1 ∙ none)))

pub fire_missing : (kept : List (Option ℤ) × Bool) (t n : ℕ) (enabled : Bool) (o : Option (List (Option (Bool × ℤ)) × List ℕ)) → kept_slots 0 kept o ≡ None
    → (o >>= λ d. at_end (FireLine t n enabled d.0) d.1) ≡ None
fire_missing kept t n enabled None e = refl
fire_missing kept t n enabled (Some d) e = absurd cc

-- what is read is the answer
pub answers : (p : Tables) (line : List ℕ) (list : List ℤ) (l : Option Line) (o : Option Spelled) → MeetsTableRules p → AreWords p → spelled_at p line ≡ o
    → ShowsRead list l o → AnswersLine p line list l
answers p line list (Some l) (Some s) rules words is shows = (s, spelled_from p line s is, shows)
answers p line list None None rules words is shows = λ s spelled. (let never : None ≡ Some s = sym is ∙ read_spelled p rules words line s spelled in absurd cc)
answers p line list (Some l) None rules words is shows = absurd shows
answers p line list None (Some s) rules words is shows = absurd shows

pub is_empty : (xs : List ℕ) → length xs ≡ 0 → xs ≡ []
is_empty [] none = refl
is_empty (x ∷ xs) none = absurd (omega arith)

pub not_empty : (xs : List ℕ) → length xs ≢ 0 → xs ≢ []
not_empty xs some none = some (ap length none)

-- a number from 0 on was read
some_numeral : (o : Option (ℕ × List ℕ)) (v : Option ℤ) (rest : List ℕ) → kept_numeral o ≡ Some (v, rest) → (n : ℕ) × (o ≡ Some (n, rest))
some_numeral None v rest e = absurd cc
some_numeral (Some (n, r)) v rest e = (let same = parts_same (bounded (pos n)) v r rest e in (n, ap (λ x. Some (n, x)) same.1))

-- the counts of the last line with something behind them
pub counts_go_on : (text a b c d rest : List ℕ) (h e n : Option ℤ) → kept_numeral (numeral_at text) ≡ Some (h, a) → behind (codes " events ") a ≡ Some b
    → kept_numeral (numeral_at b) ≡ Some (e, c)
    → behind (codes " refused ") c ≡ Some d → kept_numeral (numeral_at d) ≡ Some (n, rest) → rest ≢ [] → counts_at text ≡ None
counts_go_on text a b c d rest h e n first second third fourth fifth some =
    let x = some_numeral (numeral_at text) h a first in
    let y = some_numeral (numeral_at b) e c third in
    let z = some_numeral (numeral_at d) n rest fifth in
    then_next (numeral_at text) (λ k. behind (codes " events ") k.1 >>= events_at k.0) (x.0, a) x.1
    ∙ then_next (behind (codes " events ") a) (events_at x.0) b second
    ∙ then_next (numeral_at b) (λ k. behind (codes " refused ") k.1 >>= refused_at x.0 k.0) (y.0, c) y.1
    ∙ then_next (behind (codes " refused ") c) (refused_at x.0 y.0) d fourth
    ∙ then_next (numeral_at d) (λ k. at_end (EndLine x.0 y.0 k.0) k.1) (z.0, rest) z.1
    ∙ not_ended (EndLine x.0 y.0 z.0) rest some

-- an input of the topic of this word
abbrev pub input_of : Tables → ℕ → List ℕ × List ℕ → Option Spelled
input_of p t w = topic_named p w.0 >>= λ k. slice_get p.topics k >>= λ info. value_at t k info w.1

pub input_is : (p : Tables) (t k : ℕ) (text name rest : List ℕ) (info : TopicInfo) (w : List ℕ × List ℕ) → w ≡ (name, rest) → topic_named p name ≡ Some k
    → k < length p.topics → info ≡ get_or p.topics k info
    → input_of p t w ≡ value_at t k info rest
input_is p t k text name rest info w word named lt is =
    ap (input_of p t) word
    ∙ then_next (topic_named p name) (λ n. slice_get p.topics n >>= λ i. value_at t n i rest) k named
    ∙ then_next (slice_get p.topics k) (λ i. value_at t k i rest) info (slice_get_read p.topics (length p.topics) k info refl lt is)

pub value_is : (t k : ℕ) (info : TopicInfo) (text rest : List ℕ) → info.outside ≡ true → behind (codes "=") text ≡ Some rest
    → value_at t k info text ≡ numbers_for t k info rest
value_is t k info text rest outside is =
    cond-true info.outside (behind (codes "=") text >>= numbers_for t k info) None outside ∙ then_next (behind (codes "=") text) (numbers_for t k info) rest is

-- a firing of the node of this word
abbrev pub fire_of : Tables → Bool → ℕ → List ℕ × List ℕ → Option Spelled
fire_of p enabled t w = node_named p w.0 >>= λ n. slots_at p (writes_of p n) w.1 >>= λ d. at_end (FireLine t n enabled d.0) d.1

pub fire_is : (p : Tables) (enabled : Bool) (t n : ℕ) (name rest : List ℕ) (w : List ℕ × List ℕ) → w ≡ (name, rest) → node_named p name ≡ Some n
    → fire_of p enabled t w ≡ (slots_at p (writes_of p n) rest >>= λ d. at_end (FireLine t n enabled d.0) d.1)
fire_is p enabled t n name rest w word named =
    ap (fire_of p enabled t) word
    ∙ then_next (node_named p name) (λ m. slots_at p (writes_of p m) rest >>= λ d. at_end (FireLine t m enabled d.0) d.1) n named

-- a firing from what code read of it
pub fire_read : (p : Tables) (list : List ℤ) (enabled : Bool) (t n : ℕ) (name rest behind_slots : List ℕ) (w : List ℕ × List ℕ) (writes : List ℕ)
    (time : Option ℤ) (draft : List (Option ℤ)) (whole : Bool) (shown_draft : Option (List (Option ℤ)))
    → w ≡ (name, rest) → node_named p name ≡ Some n → writes ≡ writes_of p n → length writes ≤ 8
    → kept_slots 0 (replicate 8 None, true) (slots_at p writes rest) ≡ Some ((draft, whole), behind_slots)
    → behind_slots ≡ [] → shown_draft ≡ cond whole (Some draft) None → time ≡ bounded (pos t)
    → ShowsRead list (Some (Fire time n shown_draft)) (fire_of p enabled t w)
fire_read p list enabled t n name rest behind_slots w writes time draft whole shown_draft word named are few kept none drafted is =
    let all = ap (λ ks. kept_slots 0 (replicate 8 None, true) (slots_at p ks rest)) (sym are) ∙ kept in
    let size : length (writes_of p n) ≤ 8 = omega (arith, ap length are) in
    subst (ShowsRead list (Some (Fire time n shown_draft))) (sym (fire_is p enabled t n name rest w word named))
    (subst (λ d. ShowsRead list (Some (Fire time n d)) (slots_at p (writes_of p n) rest >>= λ d. at_end (FireLine t n enabled d.0) d.1)) (sym drafted)
    (fire_shown list draft whole behind_slots time t n enabled (slots_at p (writes_of p n) rest)
    (λ slots r e. (let from = slots_from p (writes_of p n) rest slots r e in omega (arith, from.0, size))) all none is))

pub fire_event : (p : Tables) (t : ℕ) (text rest : List ℕ) → behind (codes " input ") text ≡ None → behind (codes " fire ") text ≡ Some rest
    → event_at p t text ≡ fire_at p true t rest
fire_event p t text rest first second =
    ap (λ o. option_map_or (input_at p t) o (event_behind_input p t text)) first
    ∙ ap (λ o. option_map_or (fire_at p true t) o (event_behind_fire p t text)) second

pub idle_event : (p : Tables) (t : ℕ) (text rest : List ℕ) → behind (codes " input ") text ≡ None → behind (codes " fire ") text ≡ None
    → behind (codes " idle ") text ≡ Some rest → event_at p t text ≡ fire_at p false t rest
idle_event p t text rest first second third =
    ap (λ o. option_map_or (input_at p t) o (event_behind_input p t text)) first
    ∙ ap (λ o. option_map_or (fire_at p true t) o (event_behind_fire p t text)) second
    ∙ ap (λ o. option_map_or (fire_at p false t) o (event_behind_idle p t text)) third

pub answered : {E : Type 0} (p : Tables) (line : List ℕ) (list : List ℤ) (r : Result (Option Line) E) → MeetsTableRules p → AreWords p
    → IfOk r (λ l. ShowsRead list l (spelled_at p line)) → IfOk r (λ l. AnswersLine p line list l)
answered p line list (Ok l) rules words shows = answers p line list l (spelled_at p line) rules words refl shows
answered p line list (Err e) rules words shows = shows
