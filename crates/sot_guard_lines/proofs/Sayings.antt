-- A line is read as what it says, and what it says is read.
use Rattle.std.proofs.Common.{◌≡◌, ℕ, ℤ, Bool, true, false, List, [], ◌∷◌, ◌++◌, Option, Some, None, length, drop, codes, refl, sym}
use Rattle.std.proofs.Common.{ap, ap₂, subst, ◌∙◌, arith, get_or, take-append-drop}
use Rattle.std.specs.Prelude.{slice_get}
use Rattle.std.specs.Option.{option_map_or}
use Rattle.std.specs.List.{prefix_len}
use Rattle.std.specs.Char.{is_ascii_digit}
use Rattle.std.proofs.lemmas.Option.{none-some, same_Some}
use Rattle.std.proofs.lemmas.List.{append-nil}
use Rattle.sot_text.specs.Lexeme.{is_in_word}
use Rattle.sot_lists.specs.Places.{At}
use Rattle.sot_lang.proofs.NamesOnce.{plant_same}
use Rattle.sot_lang.specs.declared.tables.PlantInfo.{PlantInfo}
use Rattle.sot_lang.specs.Tables.{Tables}
use Rattle.sot_lang.specs.TableRules.{MeetsTableRules}
use Rattle.sot_lang.specs.Names.{topic_name, node_name}
use Rattle.sot_trace.specs.Numbers.{numeral, numbers}
use Rattle.sot_trace.specs.Lines.{writes_of, firing_word}
use Rattle.sot_trace.specs.Words.{AreWords}
use Rattle.sot_trace.proofs.Splits.{Stops, cut_same}
use Rattle.sot_trace.proofs.NumberTexts.{numeral_digits}
use Rattle.sot_trace.proofs.NameTexts.{word_in}
use Rattle.sot_trace_lines.specs.Spelled.{Spelled, InputLine, FireLine, DecideLine, TickLine, EndLine, IsSpelled, marks_text, spelled_text}
use Rattle.sot_trace_lines.specs.Pieces.{◌>>=◌, behind, at_end}
use Rattle.sot_trace_lines.specs.Readers.{word_at, place_of, input_at, fire_at}
use Rattle.sot_trace_lines.proofs.Pieces.{both, then_next, is_ended, in_front}
use Rattle.sot_trace_lines.proofs.Places.{found, found_at}
use Rattle.sot_trace_lines.proofs.SoundLines.{spelled_from}
use Rattle.sot_trace_lines.proofs.ReadLines.{read_spelled, word_is}
use Rattle.sot_guard_lines.specs.Sayings.{Saying, StartSaid, InputSaid, DraftSaid, GoSaid, ResumeSaid, TickSaid, place_text, places_text, said_text}
use Rattle.sot_guard_lines.specs.Sayings.{IsSaid}
use Rattle.sot_guard_lines.specs.Shown.{SaidOnce}
use Rattle.sot_guard_lines.specs.Readers.{said_input, said_draft, input_said_at, draft_said_at, point_at, places_at, start_of, start_said_at, tick_said_at}
use Rattle.sot_guard_lines.specs.Readers.{go_said_at, resume_said_at, behind_go, behind_draft, behind_input, behind_tick, said_at}
use Rattle.sot_guard_lines.proofs.ReadPlaces.{point_from, read_point, places_from, read_places}

-- what a trace tells at time 0
at_zero : (t : ℕ) (x y : List ℕ) → Stops is_ascii_digit x → Stops is_ascii_digit y → 48 ∷ x ≡ numeral t ++ y → x ≡ y
at_zero t x y sx sy e = (cut_same is_ascii_digit (48 ∷ []) (numeral t) x y (refl, tt) (numeral_digits t) sx sy e).1

-- the first reader whose word stands in front, or some other
choose : (word : List ℕ) (f : List ℕ → Option Saying) (other : Option Saying) (P : List ℕ → Type 0) (text : List ℕ) (s : Saying)
    → ((rest : List ℕ) → f rest ≡ Some s → P (word ++ rest)) → (other ≡ Some s → P text) → option_map_or f (behind word text) other ≡ Some s → P text
choose word f other P text s one more e = chosen (behind word text) refl e
  where
    chosen : (o : Option (List ℕ)) → behind word text ≡ o → option_map_or f o other ≡ Some s → P text
    chosen None is e = more e
    chosen (Some rest) is e = subst P (sym (in_front word text rest is)) (one rest e)

module _ (p : Tables) where
  input_is : (text : List ℕ) (s : Saying) (x : Spelled) → IsSpelled p (48 ∷ 32 ∷ (codes "input " ++ text)) x → said_input x ≡ Some s
      → IsSaid p (codes "input " ++ text) s
  input_is text s (InputLine t k v) is e =
      let same = at_zero t (32 ∷ (codes "input " ++ text)) (codes " input " ++ (topic_name p k ++ (codes "=" ++ numbers v))) refl refl is.1 in
      subst (IsSaid p (codes "input " ++ text)) (same_Some (InputSaid k v) s e) (is.0, ap (drop 1) same)
  input_is text s (FireLine t n enabled slots) is e = absurd (none-some s e)
  input_is text s (DecideLine t m mode) is e = absurd (none-some s e)
  input_is text s (TickLine t noise states) is e = absurd (none-some s e)
  input_is text s (EndLine t events refused) is e = absurd (none-some s e)

  input_from : (text : List ℕ) (s : Saying) → input_said_at p text ≡ Some s → IsSaid p (codes "input " ++ text) s
  input_from text s e =
      let a = both (input_at p 0 text) said_input s e in
      input_is text s a.0 (spelled_from p (48 ∷ 32 ∷ (codes "input " ++ text)) a.0 a.1) a.2

  fire_words : (enabled : Bool) (text rest : List ℕ) → codes " fire " ++ text ≡ firing_word enabled ++ rest → text ≡ rest
  fire_words true text rest e = ap (drop 6) e
  fire_words false text rest e = (let never : 102 ≡ 105 = ap (λ (l : List ℕ). get_or l 1 0) e in absurd (omega (arith, never)))

  draft_is : (text : List ℕ) (s : Saying) (x : Spelled) → IsSpelled p (48 ∷ (codes " fire " ++ text)) x → said_draft x ≡ Some s
      → IsSaid p (codes "draft " ++ text) s
  draft_is text s (InputLine t k v) is e = absurd (none-some s e)
  draft_is text s (FireLine t n enabled slots) is e =
      let rest : List ℕ = node_name p n ++ marks_text p (writes_of p n) slots in
      let same = at_zero t (codes " fire " ++ text) (firing_word enabled ++ rest) refl (word_stops enabled rest) is.1 in
      subst (IsSaid p (codes "draft " ++ text)) (same_Some (DraftSaid n slots) s e) (is.0, ap (λ x. codes "draft " ++ x) (fire_words enabled text rest same))
    where
      word_stops : (enabled : Bool) (rest : List ℕ) → Stops is_ascii_digit (firing_word enabled ++ rest)
      word_stops true rest = refl
      word_stops false rest = refl
  draft_is text s (DecideLine t m mode) is e = absurd (none-some s e)
  draft_is text s (TickLine t noise states) is e = absurd (none-some s e)
  draft_is text s (EndLine t events refused) is e = absurd (none-some s e)

  draft_from : (text : List ℕ) (s : Saying) → draft_said_at p text ≡ Some s → IsSaid p (codes "draft " ++ text) s
  draft_from text s e =
      let a = both (fire_at p true 0 text) said_draft s e in
      draft_is text s a.0 (spelled_from p (48 ∷ (codes " fire " ++ text)) a.0 a.1) a.2

  start_text : (k : ℕ) (plant : PlantInfo) (point : List ℤ) → At p.plants k plant → said_text p (StartSaid k point) ≡ codes "start" ++ place_text plant point
  start_text k plant point at = ap (λ o. codes "start" ++ option_map_or (λ q. place_text q point) o []) at

  start_from : (text : List ℕ) (s : Saying) → start_said_at p text ≡ Some s → IsSaid p (codes "start " ++ text) s
  start_from text s e =
      let word : List ℕ = (word_at text).0 in
      let a = both (place_of (λ (x : PlantInfo). x.name) p.plants word) _ s e in
      let named = found_at (λ (x : PlantInfo). x.name) word p.plants a.0 a.1 in
      let step = sym (then_next _ (λ plant. behind (codes "(") (word_at text).1 >>= start_of a.0 plant) named.0 named.1) ∙ a.2 in
      let b = both (behind (codes "(") (word_at text).1) (start_of a.0 named.0) s step in
      let c = both (point_at named.0 b.0) (λ x. at_end (StartSaid a.0 x.0) x.1) s b.2 in
      let point = point_from named.0 b.0 c.0.0 c.0.1 c.1 in
      let ends = is_ended (StartSaid a.0 c.0.0) s c.0.1 c.2 in
      let inner : b.0 ≡ numbers c.0.0 ++ codes ")" = point.1 ∙ ap (λ r. numbers c.0.0 ++ (41 ∷ r)) ends.0 in
      let parts : word ++ (word_at text).1 ≡ text = take-append-drop (prefix_len is_in_word text) text in
      let whole : text ≡ named.0.name ++ (40 ∷ (numbers c.0.0 ++ codes ")")) = sym parts
      ∙ ap₂ (λ x y. x ++ y) (sym named.2) (in_front (codes "(") (word_at text).1 b.0 b.1 ∙ ap (λ x. 40 ∷ x) inner) in
      subst (IsSaid p (codes "start " ++ text)) ends.1
      ((named.0, named.1, point.0), ap (λ x. codes "start " ++ x) whole ∙ sym (start_text a.0 named.0 c.0.0 named.1))

  tick_from : (text : List ℕ) (s : Saying) → tick_said_at p text ≡ Some s → IsSaid p (codes "tick" ++ text) s
  tick_from text s e =
      let a = both (places_at p.plants text) (λ m. at_end (TickSaid m.0) m.1) s e in
      let are = places_from p.plants text a.0.0 a.0.1 a.1 in
      let ends = is_ended (TickSaid a.0.0) s a.0.1 a.2 in
      subst (IsSaid p (codes "tick" ++ text)) ends.1
      (are.0, ap (λ x. codes "tick" ++ x) (are.1 ∙ ap (λ x. places_text p.plants a.0.0 ++ x) ends.0 ∙ append-nil (places_text p.plants a.0.0)))

  go_from : (text : List ℕ) (s : Saying) → go_said_at text ≡ Some s → IsSaid p (codes "go" ++ text) s
  go_from text s e = (let ends = is_ended GoSaid s text e in subst (IsSaid p (codes "go" ++ text)) ends.1 (tt, ap (λ x. codes "go" ++ x) ends.0))

  resume_from : (text : List ℕ) (s : Saying) → resume_said_at text ≡ Some s → IsSaid p (codes "resume" ++ text) s
  resume_from text s e =
      (let ends = is_ended ResumeSaid s text e in subst (IsSaid p (codes "resume" ++ text)) ends.1 (tt, ap (λ x. codes "resume" ++ x) ends.0))

  -- what a line is read as is what it says
  pub said_from : (line : List ℕ) (s : Saying) → said_at p line ≡ Some s → IsSaid p line s
  said_from line s e =
      choose (codes "tick") (tick_said_at p) (behind_tick p line) (λ x. IsSaid p x s) line s (λ rest. tick_from rest s)
      (choose (codes "input ") (input_said_at p) (behind_input p line) (λ x. IsSaid p x s) line s (λ rest. input_from rest s)
      (choose (codes "draft ") (draft_said_at p) (behind_draft p line) (λ x. IsSaid p x s) line s (λ rest. draft_from rest s)
      (choose (codes "go") go_said_at (behind_go p line) (λ x. IsSaid p x s) line s (λ rest. go_from rest s)
      (choose (codes "resume") resume_said_at _ (λ x. IsSaid p x s) line s (λ rest. resume_from rest s)
      (choose (codes "start ") (start_said_at p) None (λ x. IsSaid p x s) line s (λ rest. start_from rest s)
      (λ none. absurd (none-some s none))))))) e

module _ (p : Tables) (rules : MeetsTableRules p) (words : AreWords p) where
  start_read : (k : ℕ) (plant : PlantInfo) (point : List ℤ) → At p.plants k plant → length point ≡ length plant.states.items
      → start_said_at p (plant.name ++ (40 ∷ (numbers point ++ codes ")"))) ≡ Some (StartSaid k point)
  start_read k plant point at size =
      let inner : List ℕ = numbers point ++ codes ")" in
      let parts = word_is plant.name (40 ∷ inner) (word_in plant.name (words.plants k plant at)) refl in
      let place = found (λ (x : PlantInfo). x.name) plant.name p.plants k plant at refl (λ j y at_y same. plant_same p rules j k y plant at_y at same) in
      ap₂ (λ word rest. place_of (λ (x : PlantInfo). x.name) p.plants word >>= λ n. slice_get p.plants n >>= λ y. behind (codes "(") rest >>= start_of n y)
      parts.0 parts.1
      ∙ then_next (place_of (λ (x : PlantInfo). x.name) p.plants plant.name) (λ n. slice_get p.plants n >>= λ y. start_of n y inner) k place
      ∙ then_next (slice_get p.plants k) (λ y. start_of k y inner) plant at
      ∙ then_next (point_at plant inner) (λ x. at_end (StartSaid k x.0) x.1) (point, []) (read_point plant point [] size)

  -- what is said is read in its text
  read_text : (s : Saying) → IsSaid p (said_text p s) s → said_at p (said_text p s) ≡ Some s
  read_text (StartSaid k point) ((plant, at, size), is) = ap (said_at p) (start_text p k plant point at) ∙ start_read k plant point at size
  read_text (InputSaid k v) (fits, is) =
      ap (λ o. o >>= said_input) (read_spelled p rules words (spelled_text p (InputLine 0 k v)) (InputLine 0 k v) (fits, refl))
  read_text (DraftSaid n slots) (fits, is) =
      ap (λ o. o >>= said_draft) (read_spelled p rules words (spelled_text p (FireLine 0 n true slots)) (FireLine 0 n true slots) (fits, refl))
  read_text GoSaid said = refl
  read_text ResumeSaid said = refl
  read_text (TickSaid states) (size, is) =
      then_next (places_at p.plants (places_text p.plants states)) (λ m. at_end (TickSaid m.0) m.1) (states, []) (read_places p.plants states size)

  -- what a line says is read
  pub read_saying : (line : List ℕ) (s : Saying) → IsSaid p line s → said_at p line ≡ Some s
  read_saying line s is = ap (said_at p) is.1 ∙ read_text s (is.0, refl)

pub said_once : SaidOnce
said_once p line s t rules words is_s is_t = same_Some s t (sym (read_saying p rules words line s is_s) ∙ read_saying p rules words line t is_t)
