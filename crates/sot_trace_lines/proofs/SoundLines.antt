-- A line is read as what it spells.
use Rattle.std.proofs.Common.{◌≡◌, ◌⊎◌, ℕ, ℤ, Bool, true, false, cond, List, [], ◌∷◌, ◌++◌, Option, Some, None, length, codes, inl, inr, refl, sym, ap, ap₂}
use Rattle.std.proofs.Common.{subst, ◌∙◌, take-append-drop}
use Rattle.std.specs.Option.{option_map_or}
use Rattle.std.specs.List.{prefix_len}
use Rattle.std.specs.Str.{bytes_eq}
use Rattle.std.proofs.lemmas.Bool.{cases_Bool, cond-true, cond-false}
use Rattle.std.proofs.lemmas.Option.{none-some, same_Some, slice_get_within}
use Rattle.std.proofs.lemmas.List.{append-nil}
use Rattle.std.proofs.lemmas.Slice.Eq.{bytes_eq-Decides}
use Rattle.sot_text.specs.Lexeme.{is_in_word}
use Rattle.sot_lang.specs.declared.tables.TopicInfo.{TopicInfo}
use Rattle.sot_lang.specs.declared.tables.NodeInfo.{NodeInfo}
use Rattle.sot_lang.specs.declared.tables.ModuleInfo.{ModuleInfo}
use Rattle.sot_lang.specs.Tables.{Tables}
use Rattle.sot_world.specs.declared.mode.Mode.{Mode}
use Rattle.sot_world.specs.declared.mode.Mode.TheVariants.{Ac, Sc}
use Rattle.sot_lang.specs.Names.{topic_name, node_name, module_name}
use Rattle.sot_trace.specs.Numbers.{numeral, numbers}
use Rattle.sot_trace.specs.Moves.{moves_text}
use Rattle.sot_trace.specs.Lines.{writes_of, firing_word, mode_word}
use Rattle.sot_trace.proofs.NameTexts.{topic_named, node_named, module_named}
use Rattle.sot_trace_lines.specs.Pieces.{◌>>=◌, behind, at_end, numeral_at, row_at}
use Rattle.sot_trace_lines.specs.Spelled.{Spelled, InputLine, FireLine, DecideLine, TickLine, EndLine, marks_text, spelled_text, Fits, IsSpelled}
use Rattle.sot_trace_lines.specs.Readers.{word_at, place_of, numbers_for, value_at, input_at, slots_at, fire_at, mode_of, decide_at, moves_at, tick_at}
use Rattle.sot_trace_lines.specs.Readers.{refused_at, events_at, counts_at, event_at, spelled_at}
use Rattle.sot_trace_lines.proofs.Pieces.{both, then_next, is_ended, in_front}
use Rattle.sot_trace_lines.proofs.Numerals.{numeral_from}
use Rattle.sot_trace_lines.proofs.Rows.{row_from}
use Rattle.sot_trace_lines.proofs.Places.{found_at}
use Rattle.sot_trace_lines.proofs.ReadMoves.{moves_from}
use Rattle.sot_trace_lines.proofs.Slots.{slots_from}

-- what stands behind the time of a line
abbrev pub behind_time : Tables → Spelled → List ℕ
behind_time p (InputLine time topic value) = codes " input " ++ (topic_name p topic ++ (codes "=" ++ numbers value))
behind_time p (FireLine time node enabled slots) = firing_word enabled ++ (node_name p node ++ marks_text p (writes_of p node) slots)
behind_time p (DecideLine time decider mode) = codes " decide " ++ (module_name p decider ++ mode_word mode)
behind_time p (TickLine time noise states) = codes " tick" ++ moves_text p.plants noise states
behind_time p (EndLine ticks events refused) = []

-- the text, read as an event at this time
abbrev pub IsEvent : Tables → ℕ → List ℕ → Spelled → Type 0
IsEvent p time text s = Fits p s × (numeral time ++ text ≡ spelled_text p s)

word_parts : (text : List ℕ) → (word_at text).0 ++ (word_at text).1 ≡ text
word_parts text = take-append-drop (prefix_len is_in_word text) text

no_rest : (a b : List ℕ) → b ≡ [] → a ++ b ≡ a
no_rest a b none = ap (λ x. a ++ x) none ∙ append-nil a

module _ (p : Tables) where
  value_from : (time k : ℕ) (info : TopicInfo) (text : List ℕ) (s : Spelled) → value_at time k info text ≡ Some s
      → (info.outside ≡ true) × ((v : List ℤ) × (length v ≡ info.count) × (s ≡ InputLine time k v) × (text ≡ codes "=" ++ numbers v))
  value_from time k info text s e =
      elim (cases_Bool info.outside) [
        | inl yes' ↦ (
            let t = both (behind (codes "=") text) (numbers_for time k info) s (sym (cond-true info.outside _ _ yes') ∙ e) in
            let u = both (row_at info.count t.0) (λ v. at_end (InputLine time k v.0) v.1) s t.2 in
            let row = row_from info.count t.0 u.0.0 u.0.1 u.1 in
            let ends = is_ended (InputLine time k u.0.0) s u.0.1 u.2 in
            (yes', (u.0.0, row.0, sym ends.1, in_front (codes "=") text t.0 t.1 ∙ ap (λ x. 61 ∷ x) (row.1 ∙ no_rest (numbers u.0.0) u.0.1 ends.0)))
            )
        | inr no' ↦ (let never : None ≡ Some s = sym (cond-false info.outside _ _ no') ∙ e in absurd (none-some s never))
      ]

  input_from : (time : ℕ) (text : List ℕ) (s : Spelled) → input_at p time text ≡ Some s → IsEvent p time (codes " input " ++ text) s
  input_from time text s e =
      let word : List ℕ = (word_at text).0 in
      let a = both (place_of (λ (x : TopicInfo). x.name) p.topics word) _ s e in
      let named = found_at (λ (x : TopicInfo). x.name) word p.topics a.0 a.1 in
      let step = sym (then_next _ (λ info. value_at time a.0 info (word_at text).1) named.0 named.1) ∙ a.2 in
      let v = value_from time a.0 named.0 (word_at text).1 s step in
      let is = v.1 in
      let whole : text ≡ topic_name p a.0 ++ (61 ∷ numbers is.0) = sym (word_parts text)
      ∙ ap₂ (λ x y. x ++ y) (sym named.2 ∙ sym (topic_named p a.0 named.0 named.1)) is.3 in
      subst (IsEvent p time (codes " input " ++ text)) (sym is.2)
      ((named.0, named.1, v.0, is.1), ap (λ x. numeral time ++ (codes " input " ++ x)) whole)

  fire_from : (enabled : Bool) (time : ℕ) (text : List ℕ) (s : Spelled) → fire_at p enabled time text ≡ Some s → IsEvent p time (firing_word enabled ++ text) s
  fire_from enabled time text s e =
      let word : List ℕ = (word_at text).0 in
      let a = both (place_of (λ (x : NodeInfo). x.name) p.nodes word) _ s e in
      let named = found_at (λ (x : NodeInfo). x.name) word p.nodes a.0 a.1 in
      let b = both (slots_at p (writes_of p a.0) (word_at text).1) (λ d. at_end (FireLine time a.0 enabled d.0) d.1) s a.2 in
      let are = slots_from p (writes_of p a.0) (word_at text).1 b.0.0 b.0.1 b.1 in
      let ends = is_ended (FireLine time a.0 enabled b.0.0) s b.0.1 b.2 in
      let slots : List ℕ = marks_text p (writes_of p a.0) b.0.0 in
      let whole : text ≡ node_name p a.0 ++ slots = sym (word_parts text)
      ∙ ap₂ (λ x y. x ++ y) (sym named.2 ∙ sym (node_named p a.0 named.0 named.1)) (are.1 ∙ no_rest slots b.0.1 ends.0) in
      subst (IsEvent p time (firing_word enabled ++ text)) ends.1
      ((slice_get_within p.nodes a.0 named.0 named.1, are.0), ap (λ x. numeral time ++ (firing_word enabled ++ x)) whole)

  mode_from : (text : List ℕ) (mode : Mode) → mode_of text ≡ Some mode → text ≡ mode_word mode
  mode_from text mode e =
      elim (cases_Bool (bytes_eq text (codes " ac"))) [
        | inl yes' ↦ (bytes_eq-Decides text (codes " ac")).0 yes'
            ∙ ap mode_word (same_Some Ac mode (sym (cond-true (bytes_eq text (codes " ac")) _ _ yes') ∙ e))
        | inr no' ↦ mode_second text mode (sym (cond-false (bytes_eq text (codes " ac")) _ _ no') ∙ e)
      ]
    where
      mode_second : (text : List ℕ) (mode : Mode) → cond (bytes_eq text (codes " sc")) (Some Sc) None ≡ Some mode → text ≡ mode_word mode
      mode_second text mode e =
          elim (cases_Bool (bytes_eq text (codes " sc"))) [
            | inl yes' ↦ (bytes_eq-Decides text (codes " sc")).0 yes'
                ∙ ap mode_word (same_Some Sc mode (sym (cond-true (bytes_eq text (codes " sc")) _ _ yes') ∙ e))
            | inr no' ↦ absurd (none-some mode (sym (cond-false (bytes_eq text (codes " sc")) _ _ no') ∙ e))
          ]

  decide_from : (time : ℕ) (text : List ℕ) (s : Spelled) → decide_at p time text ≡ Some s → IsEvent p time (codes " decide " ++ text) s
  decide_from time text s e =
      let word : List ℕ = (word_at text).0 in
      let a = both (place_of (λ (x : ModuleInfo). x.name) p.modules word) _ s e in
      let named = found_at (λ (x : ModuleInfo). x.name) word p.modules a.0 a.1 in
      let b = both (mode_of (word_at text).1) (λ mode. Some (DecideLine time a.0 mode)) s a.2 in
      let whole : text ≡ module_name p a.0 ++ mode_word b.0 = sym (word_parts text)
      ∙ ap₂ (λ x y. x ++ y) (sym named.2 ∙ sym (module_named p a.0 named.0 named.1)) (mode_from (word_at text).1 b.0 b.1) in
      subst (IsEvent p time (codes " decide " ++ text)) (same_Some (DecideLine time a.0 b.0) s b.2)
      (slice_get_within p.modules a.0 named.0 named.1, ap (λ x. numeral time ++ (codes " decide " ++ x)) whole)

  tick_from : (time : ℕ) (text : List ℕ) (s : Spelled) → tick_at p time text ≡ Some s → IsEvent p time (codes " tick" ++ text) s
  tick_from time text s e =
      let a = both (moves_at p.plants text) (λ m. at_end (TickLine time m.0 m.1) m.2) s e in
      let are = moves_from p.plants text a.0.0 a.0.1 a.0.2 a.1 in
      let ends = is_ended (TickLine time a.0.0 a.0.1) s a.0.2 a.2 in
      subst (IsEvent p time (codes " tick" ++ text)) ends.1
      ((are.0, are.1), ap (λ x. numeral time ++ (codes " tick" ++ x)) (are.2 ∙ no_rest (moves_text p.plants a.0.0 a.0.1) a.0.2 ends.0))

  counts_from : (text : List ℕ) (s : Spelled) → counts_at text ≡ Some s → Fits p s × (codes "end " ++ text ≡ spelled_text p s)
  counts_from text s e =
      let a = both (numeral_at text) (λ n. behind (codes " events ") n.1 >>= events_at n.0) s e in
      let b = both (behind (codes " events ") a.0.1) (events_at a.0.0) s a.2 in
      let c = both (numeral_at b.0) (λ n. behind (codes " refused ") n.1 >>= refused_at a.0.0 n.0) s b.2 in
      let d = both (behind (codes " refused ") c.0.1) (refused_at a.0.0 c.0.0) s c.2 in
      let f = both (numeral_at d.0) (λ n. at_end (EndLine a.0.0 c.0.0 n.0) n.1) s d.2 in
      let ends = is_ended (EndLine a.0.0 c.0.0 f.0.0) s f.0.1 f.2 in
      let last : d.0 ≡ numeral f.0.0 = numeral_from d.0 f.0.0 f.0.1 f.1 ∙ no_rest (numeral f.0.0) f.0.1 ends.0 in
      let middle : b.0 ≡ numeral c.0.0 ++ (codes " refused " ++ numeral f.0.0) =
      numeral_from b.0 c.0.0 c.0.1 c.1 ∙ ap (λ x. numeral c.0.0 ++ x) (in_front (codes " refused ") c.0.1 d.0 d.1 ∙ ap (λ x. codes " refused " ++ x) last) in
      let first : text ≡ numeral a.0.0 ++ (codes " events " ++ (numeral c.0.0 ++ (codes " refused " ++ numeral f.0.0))) =
      numeral_from text a.0.0 a.0.1 a.1 ∙ ap (λ x. numeral a.0.0 ++ x) (in_front (codes " events ") a.0.1 b.0 b.1 ∙ ap (λ x. codes " events " ++ x) middle) in
      subst (λ x. Fits p x × (codes "end " ++ text ≡ spelled_text p x)) ends.1 (tt, ap (λ x. codes "end " ++ x) first)

  -- the first reader whose word stands in front
  either_way : (f : List ℕ → Option Spelled) (other : Option Spelled) (o : Option (List ℕ)) (s : Spelled) → option_map_or f o other ≡ Some s
      → ((rest : List ℕ) × (o ≡ Some rest) × (f rest ≡ Some s)) ⊎ (other ≡ Some s)
  either_way f other None s e = inr e
  either_way f other (Some rest) s e = inl (rest, refl, e)

  -- .. or some other reads the text
  choose : (word : List ℕ) (f : List ℕ → Option Spelled) (other : Option Spelled) (P : List ℕ → Type 0) (text : List ℕ) (s : Spelled)
      → ((rest : List ℕ) → f rest ≡ Some s → P (word ++ rest)) → (other ≡ Some s → P text) → option_map_or f (behind word text) other ≡ Some s → P text
  choose word f other P text s one more e =
      elim (either_way f other (behind word text) s e) [
        | inl w ↦ subst P (sym (in_front word text w.0 w.1)) (one w.0 w.2)
        | inr w ↦ more w
      ]

  event_from : (time : ℕ) (text : List ℕ) (s : Spelled) → event_at p time text ≡ Some s → IsEvent p time text s
  event_from time text s e =
      choose (codes " input ") (input_at p time) _ (λ x. IsEvent p time x s) text s (λ rest. input_from time rest s)
      (choose (codes " fire ") (fire_at p true time) _ (λ x. IsEvent p time x s) text s (λ rest. fire_from true time rest s)
      (choose (codes " idle ") (fire_at p false time) _ (λ x. IsEvent p time x s) text s (λ rest. fire_from false time rest s)
      (choose (codes " decide ") (decide_at p time) _ (λ x. IsEvent p time x s) text s (λ rest. decide_from time rest s)
      (choose (codes " tick") (tick_at p time) None (λ x. IsEvent p time x s) text s (λ rest. tick_from time rest s)
      (λ none. absurd (none-some s none)))))) e

  -- what a line is read as is what it spells
  pub spelled_from : (line : List ℕ) (s : Spelled) → spelled_at p line ≡ Some s → IsSpelled p line s
  spelled_from line s e =
      choose (codes "end ") counts_at (numeral_at line >>= λ t. event_at p t.0 t.1) (λ x. IsSpelled p x s) line s (λ rest. counts_from rest s)
      (λ other.
      let t = both (numeral_at line) (λ t. event_at p t.0 t.1) s other in
      let is = event_from t.0.0 t.0.1 s t.2 in
      (is.0, numeral_from line t.0.0 t.0.1 t.1 ∙ is.1)) e
