-- What a line spells is read, so that it spells one thing at most.
use Rattle.std.proofs.Common.{◌≡◌, ℕ, ℤ, ◌<◌, ◌==◌, Bool, true, false, List, [], ◌∷◌, ◌++◌, Option, Some, None, length, take, drop, codes, refl, sym, ap, ap₂}
use Rattle.std.proofs.Common.{subst, ◌∙◌, arith}
use Rattle.std.specs.Prelude.{slice_get}
use Rattle.std.specs.Option.{option_map_or}
use Rattle.std.specs.Char.{is_ascii_digit}
use Rattle.std.proofs.Math.Seq.{take-append_seam, drop-append_seam}
use Rattle.std.proofs.lemmas.Bool.{cond-true, cond-false}
use Rattle.std.proofs.lemmas.Bool.Decides.{nat_tests}
use Rattle.std.proofs.lemmas.Option.{same_Some}
use Rattle.std.proofs.lemmas.List.{append-nil}
use Rattle.sot_text.specs.Lexeme.{is_in_word}
use Rattle.sot_lang.specs.declared.tables.TopicInfo.{TopicInfo}
use Rattle.sot_lang.specs.declared.tables.NodeInfo.{NodeInfo}
use Rattle.sot_lang.specs.declared.tables.ModuleInfo.{ModuleInfo}
use Rattle.sot_lang.specs.Tables.{Tables}
use Rattle.sot_lang.specs.TableRules.{MeetsTableRules}
use Rattle.sot_lists.specs.Places.{At, Has}
use Rattle.sot_lists.proofs.Places.{at_below}
use Rattle.sot_world.specs.declared.mode.Mode.{Mode}
use Rattle.sot_world.specs.declared.mode.Mode.TheVariants.{Ac, Sc}
use Rattle.sot_world.specs.HistoryEntry.{Logged, InputAt, FireAt, DecideAt, TickAt}
use Rattle.sot_lang.specs.Names.{topic_name, node_name, module_name}
use Rattle.sot_trace.specs.Numbers.{numeral, numbers}
use Rattle.sot_trace.specs.Drafts.{slot_text, draft_text}
use Rattle.sot_trace.specs.Moves.{moves_text}
use Rattle.sot_trace.specs.Lines.{writes_of, firing_word, mode_word, line_of}
use Rattle.sot_trace.specs.Words.{AreWords}
use Rattle.sot_trace.proofs.Splits.{AllIn, Stops}
use Rattle.sot_trace.proofs.NumberTexts.{numeral_digits, numeral_some}
use Rattle.sot_trace.proofs.NameTexts.{topic_named, node_named, module_named, topic_in, node_in, module_in}
use Rattle.sot_lang.proofs.NamesOnce.{topic_same, node_same, module_same}
use Rattle.sot_trace.proofs.LineTexts.{there_from, apart_from, mode_stops}
use Rattle.sot_trace_lines.specs.Pieces.{◌>>=◌, behind, at_end, numeral_at, row_at}
use Rattle.sot_trace_lines.specs.Spelled.{Spelled, InputLine, FireLine, DecideLine, TickLine, EndLine, marks_text, spelled_text, Fits, IsSpelled}
use Rattle.sot_trace_lines.specs.Laws.{marks_of, spelled_of, SpelledOnce, EntriesAreSpelled}
use Rattle.sot_trace_lines.specs.Readers.{word_at, place_of, value_at, input_at, slots_at, fire_at, mode_of, decide_at, moves_at, tick_at, refused_at}
use Rattle.sot_trace_lines.specs.Readers.{events_at, counts_at, event_at, spelled_at}
use Rattle.sot_trace_lines.proofs.Pieces.{then_next}
use Rattle.sot_trace_lines.proofs.Numerals.{front_is, read_numeral}
use Rattle.sot_trace_lines.proofs.Rows.{read_row}
use Rattle.sot_trace_lines.proofs.Places.{found}
use Rattle.sot_trace_lines.proofs.ReadMoves.{read_moves}
use Rattle.sot_trace_lines.proofs.Slots.{read_slots, marks_stop}

-- a name before what is no part of a word
pub word_is : (name rest : List ℕ) → AllIn is_in_word name → Stops is_in_word rest → ((word_at (name ++ rest)).0 ≡ name) × ((word_at (name ++ rest)).1 ≡ rest)
word_is name rest all stops =
    let len = front_is is_in_word name rest all stops in
    (ap (λ k. take k (name ++ rest)) len ∙ take-append_seam name rest, ap (λ k. drop k (name ++ rest)) len ∙ drop-append_seam name rest)

mode_read : (a : Mode) → mode_of (mode_word a) ≡ Some a
mode_read Ac = refl
mode_read Sc = refl

no_e : (d : ℕ) → is_ascii_digit d ≡ true → (d == 101) ≡ false
no_e d is = grind (arith, nat_tests)

-- a line that begins with a digit is not the last one
no_end : (ds rest : List ℕ) → 0 < length ds → AllIn is_ascii_digit ds → behind (codes "end ") (ds ++ rest) ≡ None
no_end [] rest some all = absurd (omega arith)
no_end (d ∷ ds) rest some all = cond-false (d == 101) _ _ (no_e d all.0)

row_read : (n : ℕ) (zs : List ℤ) → length zs ≡ n → row_at n (numbers zs) ≡ Some (zs, [])
row_read n zs size = ap₂ row_at (sym size) (sym (append-nil (numbers zs))) ∙ read_row zs [] tt

last_numeral : (n : ℕ) → numeral_at (numeral n) ≡ Some (n, [])
last_numeral n = ap numeral_at (sym (append-nil (numeral n))) ∙ read_numeral n [] tt

counts_read : (ticks events refused : ℕ) → counts_at (numeral ticks ++ (codes " events " ++ (numeral events ++ (codes " refused " ++ numeral refused))))
    ≡ Some (EndLine ticks events refused)
counts_read ticks events refused =
    let second : List ℕ = numeral events ++ (codes " refused " ++ numeral refused) in
    then_next (numeral_at (numeral ticks ++ (codes " events " ++ second))) (λ n. behind (codes " events ") n.1 >>= events_at n.0)
    (ticks, codes " events " ++ second) (read_numeral ticks (codes " events " ++ second) refl)
    ∙ then_next (numeral_at second) (λ n. behind (codes " refused ") n.1 >>= refused_at ticks n.0) (events, codes " refused " ++ numeral refused)
    (read_numeral events (codes " refused " ++ numeral refused) refl)
    ∙ then_next (numeral_at (numeral refused)) (λ n. at_end (EndLine ticks events n.0) n.1) (refused, []) (last_numeral refused)

module _ (p : Tables) (rules : MeetsTableRules p) (words : AreWords p) where
  input_read : (time k : ℕ) (info : TopicInfo) (value : List ℤ) → At p.topics k info → info.outside ≡ true → length value ≡ info.count
      → input_at p time (topic_name p k ++ (61 ∷ numbers value)) ≡ Some (InputLine time k value)
  input_read time k info value at is size =
      let text : List ℕ = info.name ++ (61 ∷ numbers value) in
      let parts = word_is info.name (61 ∷ numbers value) (topic_in p rules words k info at) refl in
      let place = found (λ (x : TopicInfo). x.name) info.name p.topics k info at refl (λ j y at_y same. topic_same p rules j k y info at_y at same) in
      ap (λ name. input_at p time (name ++ (61 ∷ numbers value))) (topic_named p k info at)
      ∙ ap₂ (λ word rest. place_of (λ (x : TopicInfo). x.name) p.topics word >>= λ n. slice_get p.topics n >>= λ y. value_at time n y rest) parts.0 parts.1
      ∙ then_next (place_of (λ (x : TopicInfo). x.name) p.topics info.name) (λ n. slice_get p.topics n >>= λ y. value_at time n y (61 ∷ numbers value)) k place
      ∙ then_next (slice_get p.topics k) (λ y. value_at time k y (61 ∷ numbers value)) info at
      ∙ cond-true info.outside _ _ is
      ∙ then_next (row_at info.count (numbers value)) (λ v. at_end (InputLine time k v.0) v.1) (value, []) (row_read info.count value size)

  fire_read : (enabled : Bool) (time n : ℕ) (slots : List (Option (Bool × ℤ))) → n < length p.nodes → length slots ≡ length (writes_of p n)
      → fire_at p enabled time (node_name p n ++ marks_text p (writes_of p n) slots) ≡ Some (FireLine time n enabled slots)
  fire_read enabled time n slots lt size =
      let node = at_below p.nodes n lt in
      let ks : List ℕ = writes_of p n in
      let marks : List ℕ = marks_text p ks slots in
      let parts = word_is node.0.name marks (node_in p rules words n node.0 node.1) (marks_stop p is_in_word refl ks slots) in
      let place = found (λ (x : NodeInfo). x.name) node.0.name p.nodes n node.0 node.1 refl (λ j y at_y same. node_same p rules j n y node.0 at_y node.1 same)
      in
      let are : ks ≡ node.0.writes.items = ap (λ o. option_map_or (λ (x : NodeInfo). x.writes.items) o []) node.1 in
      let there = there_from p ks (λ k has. at_below p.scalars k (rules.typed.inside n node.0 k node.1 (subst (λ l. Has l k) are has))) in
      let apart = apart_from ks (λ i j k at_i at_j. rules.typed.once n node.0 i j k node.1 (subst (λ l. At l i k) are at_i) (subst (λ l. At l j k) are at_j)) in
      ap (λ name. fire_at p enabled time (name ++ marks)) (node_named p n node.0 node.1)
      ∙ ap₂ (λ word rest. place_of (λ (x : NodeInfo). x.name) p.nodes word >>= λ m. slots_at p (writes_of p m) rest >>= λ d.
      at_end (FireLine time m enabled d.0) d.1) parts.0 parts.1
      ∙ then_next (place_of (λ (x : NodeInfo). x.name) p.nodes node.0.name)
      (λ m. slots_at p (writes_of p m) marks >>= λ d. at_end (FireLine time m enabled d.0) d.1) n place
      ∙ then_next (slots_at p ks marks) (λ d. at_end (FireLine time n enabled d.0) d.1) (slots, []) (read_slots p rules words ks there apart slots size)

  decide_read : (time m : ℕ) (mode : Mode) → m < length p.modules → decide_at p time (module_name p m ++ mode_word mode) ≡ Some (DecideLine time m mode)
  decide_read time m mode lt =
      let info = at_below p.modules m lt in
      let parts = word_is info.0.name (mode_word mode) (module_in p rules words m info.0 info.1) (mode_stops mode) in
      let place = found (λ (x : ModuleInfo). x.name) info.0.name p.modules m info.0 info.1 refl
      (λ j y at_y same. module_same p rules j m y info.0 at_y info.1 same) in
      ap (λ name. decide_at p time (name ++ mode_word mode)) (module_named p m info.0 info.1)
      ∙ ap₂ (λ word rest. place_of (λ (x : ModuleInfo). x.name) p.modules word >>= λ n. mode_of rest >>= λ a. Some (DecideLine time n a)) parts.0 parts.1
      ∙ then_next (place_of (λ (x : ModuleInfo). x.name) p.modules info.0.name) (λ n. mode_of (mode_word mode) >>= λ a. Some (DecideLine time n a)) m place
      ∙ then_next (mode_of (mode_word mode)) (λ a. Some (DecideLine time m a)) mode (mode_read mode)

  tick_read : (time : ℕ) (noise states : List ℤ) → Fits p (TickLine time noise states)
      → tick_at p time (moves_text p.plants noise states) ≡ Some (TickLine time noise states)
  tick_read time noise states fits =
      then_next (moves_at p.plants (moves_text p.plants noise states)) (λ m. at_end (TickLine time m.0 m.1) m.2) (noise, states, [])
      (read_moves p.plants noise states fits.0 fits.1)

  -- what stands behind the time
  timed : (time : ℕ) (tail : List ℕ) (s : Spelled) → Stops is_ascii_digit tail → event_at p time tail ≡ Some s → spelled_at p (numeral time ++ tail) ≡ Some s
  timed time tail s stops is =
      ap (λ o. option_map_or counts_at o (numeral_at (numeral time ++ tail) >>= λ t. event_at p t.0 t.1))
      (no_end (numeral time) tail (numeral_some time) (numeral_digits time))
      ∙ then_next (numeral_at (numeral time ++ tail)) (λ t. event_at p t.0 t.1) (time, tail) (read_numeral time tail stops)
      ∙ is

  -- what fits is read in its text
  read_text : (s : Spelled) → Fits p s → spelled_at p (spelled_text p s) ≡ Some s
  read_text (InputLine time topic value) (info, at, is, size) =
      timed time (codes " input " ++ (topic_name p topic ++ (61 ∷ numbers value))) (InputLine time topic value) refl
      (input_read time topic info value at is size)
  read_text (FireLine time node true slots) (lt, size) =
      timed time (codes " fire " ++ (node_name p node ++ marks_text p (writes_of p node) slots)) (FireLine time node true slots) refl
      (fire_read true time node slots lt size)
  read_text (FireLine time node false slots) (lt, size) =
      timed time (codes " idle " ++ (node_name p node ++ marks_text p (writes_of p node) slots)) (FireLine time node false slots) refl
      (fire_read false time node slots lt size)
  read_text (DecideLine time decider mode) lt =
      timed time (codes " decide " ++ (module_name p decider ++ mode_word mode)) (DecideLine time decider mode) refl (decide_read time decider mode lt)
  read_text (TickLine time noise states) fits =
      timed time (codes " tick" ++ moves_text p.plants noise states) (TickLine time noise states) refl (tick_read time noise states fits)
  read_text (EndLine ticks events refused) fits = counts_read ticks events refused

  -- what a line spells is read
  pub read_spelled : (line : List ℕ) (s : Spelled) → IsSpelled p line s → spelled_at p line ≡ Some s
  read_spelled line s is = ap (spelled_at p) is.1 ∙ read_text s is.0

pub spelled_once : SpelledOnce
spelled_once p line s t rules words is_s is_t = same_Some s t (sym (read_spelled p rules words line s is_s) ∙ read_spelled p rules words line t is_t)

drafted_text : (p : Tables) (ks : List ℕ) (draft : List (Option ℤ)) → marks_text p ks (marks_of p ks draft) ≡ draft_text p ks draft
drafted_text p [] draft = refl
drafted_text p (k ∷ ks) [] = nothing ks
  where
    nothing : (js : List ℕ) → marks_text p js (marks_of p js []) ≡ []
    nothing [] = refl
    nothing (j ∷ js) = nothing js
drafted_text p (k ∷ ks) (None ∷ draft) = drafted_text p ks draft
drafted_text p (k ∷ ks) (Some z ∷ draft) = ap (λ x. slot_text p k (Some z) ++ x) (drafted_text p ks draft)

-- the line of an entry is the text of what it spells
pub entry_text : (p : Tables) (entry : Logged) → line_of p entry ≡ spelled_text p (spelled_of p entry)
entry_text p (InputAt time topic value) = refl
entry_text p (FireAt time node draft enabled) =
    ap (λ x. numeral time ++ (firing_word enabled ++ (node_name p node ++ x))) (sym (drafted_text p (writes_of p node) draft))
entry_text p (DecideAt time decider mode) = refl
entry_text p (TickAt time noise states) = refl

pub entries_spelled : EntriesAreSpelled
entries_spelled p entry fits = (fits, entry_text p entry)
