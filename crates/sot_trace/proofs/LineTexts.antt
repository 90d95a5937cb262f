-- A line tells its entry.
use Rattle.std.proofs.Common.{◌≡◌, ℕ, suc, ◌-◌, ℤ, ◌<◌, ◌≤◌, Bool, true, false, List, [], ◌∷◌, ◌++◌, Option, None, length, replicate, refl, sym, ap, subst, ◌∙◌}
use Rattle.std.proofs.Common.{arith, drop, codes, length-append}
use Rattle.std.specs.Prelude.{slice_index_or}
use Rattle.std.specs.Option.{option_map_or}
use Rattle.std.proofs.Math.Seq.{drop-append_seam}
use Rattle.sot_text.specs.Lexeme.{is_in_word}
use Rattle.sot_lang.specs.declared.tables.ScalarInfo.{ScalarInfo}
use Rattle.sot_lang.specs.declared.tables.NodeInfo.{NodeInfo}
use Rattle.sot_lang.specs.Tables.{Tables}
use Rattle.sot_lang.specs.TableRules.{MeetsTableRules}
use Rattle.sot_lists.specs.Places.{At, Has}
use Rattle.sot_lists.proofs.Places.{at_below}
use Rattle.sot_code.specs.Recorded.{in_slots}
use Rattle.sot_world.specs.declared.mode.Mode.{Mode}
use Rattle.sot_world.specs.declared.mode.Mode.TheVariants.{Ac, Sc}
use Rattle.sot_world.specs.HistoryEntry.{Logged, InputAt, FireAt, DecideAt, TickAt}
use Rattle.sot_lang.specs.Names.{topic_name, node_name, module_name}
use Rattle.sot_trace.specs.Numbers.{numeral, numbers}
use Rattle.sot_trace.specs.Drafts.{draft_text}
use Rattle.sot_trace.specs.Moves.{moves_text}
use Rattle.sot_trace.specs.Lines.{line_of, writes_of, firing_word, mode_word}
use Rattle.sot_trace.specs.Words.{AreWords}
use Rattle.sot_trace.specs.Telling.{IsDraftOf, IsTold}
use Rattle.sot_trace.proofs.Splits.{Stops, cut_same}
use Rattle.sot_trace.proofs.NumberTexts.{in_number, numeral_in, numeral_same, numbers_same}
use Rattle.sot_trace.proofs.NameTexts.{topic_named, node_named, module_named, topic_in, node_in, module_in}
use Rattle.sot_lang.proofs.NamesOnce.{topic_same, node_same, module_same}
use Rattle.sot_trace.proofs.DraftTexts.{AreThere, AreApart, draft_stops, draft_same}
use Rattle.sot_trace.proofs.MoveTexts.{moves_same}

pub there_from : (p : Tables) (ks : List ℕ) → ((k : ℕ) → Has ks k → (info : ScalarInfo) × At p.scalars k info) → AreThere p ks
there_from p [] h = tt
there_from p (k ∷ ks) h = (h k (0, refl), there_from p ks (λ j has. h j (suc has.0, has.1)))

pub apart_from : (ks : List ℕ) → ((i j k : ℕ) → At ks i k → At ks j k → i ≡ j) → AreApart ks
apart_from [] once = tt
apart_from (k ∷ ks) once = (
  λ has. (let same : 0 ≡ suc has.0 = once 0 (suc has.0) k refl has.1 in omega arith),
  apart_from ks (λ i j n at_i at_j. (let same : suc i ≡ suc j = once (suc i) (suc j) n at_i at_j in omega arith)),
)

-- the slots of a draft that are printed, and what stands behind them
room : (draft slots : List (Option ℤ)) (n : ℕ) → length draft ≡ n → slots ≡ in_slots draft → n ≤ length slots
room draft slots n size is = omega (arith, size, ap length is, length-append draft (replicate (8 - length draft) None))

nothing_behind : (draft slots : List (Option ℤ)) (n : ℕ) → length draft ≡ n → slots ≡ in_slots draft → drop n slots ≡ replicate (8 - n) None
nothing_behind draft slots n size is = rw (is, ← size) (drop-append_seam draft (replicate (8 - length draft) None))

-- a line without its time
abbrev pub tail_of : Tables → Logged → List ℕ
tail_of p (InputAt time topic value) = codes " input " ++ (topic_name p topic ++ (codes "=" ++ numbers value))
tail_of p (FireAt time node draft enabled) = firing_word enabled ++ (node_name p node ++ draft_text p (writes_of p node) draft)
tail_of p (DecideAt time decider mode) = codes " decide " ++ (module_name p decider ++ mode_word mode)
tail_of p (TickAt time noise states) = codes " tick" ++ moves_text p.plants noise states

abbrev pub time_of : Logged → ℕ
time_of (InputAt time topic value) = time
time_of (FireAt time node draft enabled) = time
time_of (DecideAt time decider mode) = time
time_of (TickAt time noise states) = time

pub line_parts : (p : Tables) (e : Logged) → line_of p e ≡ numeral (time_of e) ++ tail_of p e
line_parts p (InputAt time topic value) = refl
line_parts p (FireAt time node draft enabled) = refl
line_parts p (DecideAt time decider mode) = refl
line_parts p (TickAt time noise states) = refl

pub tail_stops : (p : Tables) (e : Logged) → Stops in_number (tail_of p e)
tail_stops p (InputAt time topic value) = refl
tail_stops p (FireAt time node draft true) = refl
tail_stops p (FireAt time node draft false) = refl
tail_stops p (DecideAt time decider mode) = refl
tail_stops p (TickAt time noise states) = refl

-- the fourth letter of the word behind the time
letter : Logged → ℕ
letter (InputAt time topic value) = 117
letter (FireAt time node draft enabled) = 101
letter (DecideAt time decider mode) = 105
letter (TickAt time noise states) = 107

letter_is : (p : Tables) (e : Logged) → slice_index_or (tail_of p e) 4 0 ≡ letter e
unfolding letter
letter_is p (InputAt time topic value) = refl
letter_is p (FireAt time node draft true) = refl
letter_is p (FireAt time node draft false) = refl
letter_is p (DecideAt time decider mode) = refl
letter_is p (TickAt time noise states) = refl

firing_same : (b c : Bool) (x y : List ℕ) → firing_word b ++ x ≡ firing_word c ++ y → (b ≡ c) × (x ≡ y)
firing_same true true x y e = (refl, ap (drop 6) e)
firing_same false false x y e = (refl, ap (drop 6) e)
firing_same true false x y e = (let never : ◌≡◌ {A = ℕ} 102 105 = ap (λ l. slice_index_or l 1 0) e in absurd (omega arith))
firing_same false true x y e = (let never : ◌≡◌ {A = ℕ} 105 102 = ap (λ l. slice_index_or l 1 0) e in absurd (omega arith))

mode_same : (a b : Mode) → mode_word a ≡ mode_word b → a ≡ b
mode_same Ac Ac e = refl
mode_same Sc Sc e = refl
mode_same Ac Sc e = (let never : ◌≡◌ {A = ℕ} 97 115 = ap (λ l. slice_index_or l 1 0) e in absurd (omega arith))
mode_same Sc Ac e = (let never : ◌≡◌ {A = ℕ} 115 97 = ap (λ l. slice_index_or l 1 0) e in absurd (omega arith))

pub mode_stops : (a : Mode) → Stops is_in_word (mode_word a)
mode_stops Ac = refl
mode_stops Sc = refl

module _ (p : Tables) (rules : MeetsTableRules p) (words : AreWords p) where
  pub writes_are : (n : ℕ) (node : NodeInfo) → At p.nodes n node → writes_of p n ≡ node.writes.items
  writes_are n node at = ap (λ o. option_map_or (λ (x : NodeInfo). x.writes.items) o []) at

  -- the draft of one firing of a node and that of another
  drafts_same : (n : ℕ) (node : NodeInfo) → At p.nodes n node → (d e : List (Option ℤ)) → IsDraftOf node.writes.items d → IsDraftOf node.writes.items e
      → draft_text p node.writes.items d ≡ draft_text p node.writes.items e → d ≡ e
  drafts_same n node at d e (a, size_a, is_a) (b, size_b, is_b) same =
      draft_same p rules words node.writes.items
      (there_from p node.writes.items (λ k has. at_below p.scalars k (rules.typed.inside n node k at has)))
      (apart_from node.writes.items (λ i j k at_i at_j. rules.typed.once n node i j k at at_i at_j))
      d e (room a d _ size_a is_a) (room b e _ size_b is_b) (nothing_behind a d _ size_a is_a ∙ sym (nothing_behind b e _ size_b is_b)) same

  inputs_same : (s t : ℕ) (v w : List ℤ) → s < length p.topics → t < length p.topics → topic_name p s ++ (61 ∷ numbers v) ≡ topic_name p t ++ (61 ∷ numbers w)
      → (s ≡ t) × (v ≡ w)
  inputs_same s t v w ls lt e =
      let a = at_below p.topics s ls in
      let b = at_below p.topics t lt in
      let named = sym (ap (λ n. n ++ (61 ∷ numbers v)) (topic_named p s a.0 a.1)) ∙ e ∙ ap (λ n. n ++ (61 ∷ numbers w)) (topic_named p t b.0 b.1) in
      let parts = cut_same is_in_word a.0.name b.0.name (61 ∷ numbers v) (61 ∷ numbers w) (topic_in p rules words s a.0 a.1) (topic_in p rules words t b.0 b.1)
      refl refl named in
      (topic_same p rules s t a.0 b.0 a.1 b.1 parts.0, numbers_same v w (ap (drop 1) parts.1))

  firings_same : (m n : ℕ) (d e : List (Option ℤ)) → m < length p.nodes → n < length p.nodes → IsDraftOf (writes_of p m) d → IsDraftOf (writes_of p n) e
      → node_name p m ++ draft_text p (writes_of p m) d ≡ node_name p n ++ draft_text p (writes_of p n) e → (m ≡ n) × (d ≡ e)
  firings_same m n d e lm ln hd he same =
      let a = at_below p.nodes m lm in
      let b = at_below p.nodes n ln in
      let named = sym (ap (λ x. x ++ draft_text p (writes_of p m) d) (node_named p m a.0 a.1)) ∙ same
      ∙ ap (λ x. x ++ draft_text p (writes_of p n) e) (node_named p n b.0 b.1) in
      let parts = cut_same is_in_word a.0.name b.0.name _ _ (node_in p rules words m a.0 a.1) (node_in p rules words n b.0 b.1)
      (draft_stops p is_in_word refl (writes_of p m) d) (draft_stops p is_in_word refl (writes_of p n) e) named in
      let node : m ≡ n = node_same p rules m n a.0 b.0 a.1 b.1 parts.0 in
      let of_m = writes_are m a.0 a.1 in
      let of_n = ap (writes_of p) (sym node) ∙ of_m in (
        node,
        drafts_same m a.0 a.1 d e (subst (λ ks. IsDraftOf ks d) of_m hd) (subst (λ ks. IsDraftOf ks e) of_n he)
            (sym (ap (λ ks. draft_text p ks d) of_m) ∙ parts.1 ∙ ap (λ ks. draft_text p ks e) of_n),
      )

  decisions_same : (m n : ℕ) (a b : Mode) → m < length p.modules → n < length p.modules → module_name p m ++ mode_word a ≡ module_name p n ++ mode_word b
      → (m ≡ n) × (a ≡ b)
  decisions_same m n a b lm ln same =
      let x = at_below p.modules m lm in
      let y = at_below p.modules n ln in
      let named = sym (ap (λ z. z ++ mode_word a) (module_named p m x.0 x.1)) ∙ same ∙ ap (λ z. z ++ mode_word b) (module_named p n y.0 y.1) in
      let parts = cut_same is_in_word x.0.name y.0.name _ _ (module_in p rules words m x.0 x.1) (module_in p rules words n y.0 y.1) (mode_stops a)
      (mode_stops b) named in
      (module_same p rules m n x.0 y.0 x.1 y.1 parts.0, mode_same a b parts.1)

  -- with the same time, what stands behind the time tells the entry
  tail_same : (e f : Logged) → IsTold p e → IsTold p f → time_of e ≡ time_of f → letter e ≡ letter f → tail_of p e ≡ tail_of p f → e ≡ f
  unfolding letter
  tail_same (InputAt t s v) (InputAt u r w) he hf time kind same = (let parts = inputs_same s r v w he hf (ap (drop 7) same) in cc)
  tail_same (FireAt t m d b) (FireAt u n e c) he hf time kind same =
      let first = firing_same b c _ _ same in
      let parts = firings_same m n d e he.0 hf.0 he.1 hf.1 first.1 in
      cc
  tail_same (DecideAt t m a) (DecideAt u n b) he hf time kind same = (let parts = decisions_same m n a b he hf (ap (drop 8) same) in cc)
  tail_same (TickAt t v s) (TickAt u w r) he hf time kind same = (let parts = moves_same p.plants v w s r he.0 hf.0 he.1 hf.1 (ap (drop 5) same) in cc)
  tail_same e f he hf time kind same = absurd (omega arith)

  -- a line tells its entry
  pub line_same : (e f : Logged) → IsTold p e → IsTold p f → line_of p e ≡ line_of p f → e ≡ f
  line_same e f he hf same =
      let parts = cut_same in_number (numeral (time_of e)) (numeral (time_of f)) (tail_of p e) (tail_of p f) (numeral_in (time_of e)) (numeral_in (time_of f))
      (tail_stops p e) (tail_stops p f)
      (sym (line_parts p e) ∙ same ∙ line_parts p f) in
      tail_same e f he hf (numeral_same (time_of e) (time_of f) parts.0) (sym (letter_is p e) ∙ ap (λ l. slice_index_or l 4 0) parts.1 ∙ letter_is p f) parts.1
