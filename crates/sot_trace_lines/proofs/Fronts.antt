-- What is looked at of the front of a line.
use Rattle.std.proofs.Common.{◌≡◌, ◌∙◌, ℕ, Bool, true, false, List, ◌++◌, Option, Some, None, codes, refl, sym, ap}
use Rattle.std.specs.Prelude.{ℤ, pos, Result, Ok, Err, IfOk}
use Rattle.std.specs.Option.{option_map, option_map_or}
use Rattle.sot_lang.specs.Tables.{Tables}
use Rattle.sot_lang.specs.TableRules.{MeetsTableRules}
use Rattle.sot_trace.specs.Lines.{writes_of, firing_word}
use Rattle.sot_trace.specs.Words.{AreWords}
use Rattle.sot_trace_lines.specs.declared.line.Line.{Line}
use Rattle.sot_trace_lines.specs.declared.line.LineFront.{LineFront}
use Rattle.sot_trace_lines.specs.declared.line.LineFront.TheVariants.{Firing, Tick, Whole}
use Rattle.sot_trace_lines.specs.Spelled.{Spelled, FireLine, TickLine}
use Rattle.sot_trace_lines.specs.Shown.{BeginsFiring, BeginsTick, AnswersFront}
use Rattle.sot_trace_lines.specs.Pieces.{◌>>=◌, behind, at_end, numeral_at}
use Rattle.sot_trace_lines.specs.Readers.{counts_at, node_named, slots_at, fire_at, moves_at, tick_at, event_at, spelled_at, word_at}
use Rattle.sot_trace_lines.specs.Kept.{bounded, ShowsRead, ShowsFront}
use Rattle.sot_trace_lines.proofs.Pieces.{both, is_ended, in_front}
use Rattle.sot_trace_lines.proofs.KeptNumbers.{reads_time}
use Rattle.sot_trace_lines.proofs.ReadLines.{read_spelled}
use Rattle.sot_trace_lines.proofs.ShownLines.{fire_is, answers}

-- behind the word of a firing nothing but a firing is read
pub firing_event : (p : Tables) (t : ℕ) (enabled : Bool) (rest : List ℕ) → event_at p t (firing_word enabled ++ rest) ≡ fire_at p enabled t rest
firing_event p t true rest = refl
firing_event p t false rest = refl

-- .. of the node that is named
pub fire_begins : (p : Tables) (enabled : Bool) (t n : ℕ) (text name rest : List ℕ) (time : Option ℤ) → word_at text ≡ (name, rest) → node_named p name ≡ Some n
    → time ≡ bounded (pos t)
    → (s : Spelled) → fire_at p enabled t text ≡ Some s → BeginsFiring time n s
fire_begins p enabled t n text name rest time word named is s e =
    let step = sym (fire_is p enabled t n name rest (word_at text) word named) ∙ e in
    let b = both (slots_at p (writes_of p n) rest) (λ d. at_end (FireLine t n enabled d.0) d.1) s step in
    let ends = is_ended (FireLine t n enabled b.0.0) s b.0.1 b.2 in
    (t, enabled, b.0.0, sym ends.1, reads_time time (pos t) is)

-- behind ` tick` nothing but a tick is read
tick_event : (p : Tables) (t : ℕ) (rest : List ℕ) → event_at p t (codes " tick" ++ rest) ≡ tick_at p t rest
tick_event p t rest = refl

pub tick_begins : (p : Tables) (t : ℕ) (text rest : List ℕ) (time : Option ℤ) → behind (codes " tick") text ≡ Some rest → time ≡ bounded (pos t) → (s : Spelled)
    → event_at p t text ≡ Some s → BeginsTick time s
tick_begins p t text rest time is bound s e =
    let step = sym (ap (event_at p t) (in_front (codes " tick") text rest is) ∙ tick_event p t rest) ∙ e in
    let b = both (moves_at p.plants rest) (λ m. at_end (TickLine t m.0 m.1) m.2) s step in
    let ends = is_ended (TickLine t b.0.0 b.0.1) s b.0.2 b.2 in
    (t, b.0.0, b.0.1, sym ends.1, reads_time time (pos t) bound)

-- what is looked at of a whole line
pub whole_shows : (p : Tables) (list : List ℤ) (l : Option Line) (o : Option Spelled) → ShowsRead list l o → ShowsFront p list (option_map (λ x. Whole x) l) o
whole_shows p list None o shows = shows
whole_shows p list (Some l) o shows = shows

-- the last line
pub end_spelled : (p : Tables) (line rest : List ℕ) → behind (codes "end ") line ≡ Some rest → spelled_at p line ≡ counts_at rest
end_spelled p line rest is = ap (λ o. option_map_or counts_at o (numeral_at line >>= λ t. event_at p t.0 t.1)) is

front_answers : (p : Tables) (line : List ℕ) (list : List ℤ) (f : Option LineFront) → MeetsTableRules p → AreWords p → ShowsFront p list f (spelled_at p line)
    → AnswersFront p line list f
front_answers p line list None rules words shows = answers p line list None (spelled_at p line) rules words refl shows
front_answers p line list (Some (Firing time node)) rules words (there, begins) = (there, λ s spelled. begins s (read_spelled p rules words line s spelled))
front_answers p line list (Some (Tick time)) rules words begins = λ s spelled. begins s (read_spelled p rules words line s spelled)
front_answers p line list (Some (Whole l)) rules words shows = answers p line list (Some l) (spelled_at p line) rules words refl shows

-- what is read is the answer
pub front_answered : {E : Type 0} (p : Tables) (line : List ℕ) (list : List ℤ) (r : Result (Option LineFront) E) → MeetsTableRules p → AreWords p
    → IfOk r (λ f. ShowsFront p list f (spelled_at p line)) → IfOk r (λ f. AnswersFront p line list f)
front_answered p line list (Ok f) rules words shows = front_answers p line list f rules words shows
front_answered p line list (Err e) rules words shows = shows
