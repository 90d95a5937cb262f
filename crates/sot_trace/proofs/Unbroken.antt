-- No entry's line has a line end inside.
use Rattle.std.proofs.Common.{◌≡◌, ℕ, suc, ℤ, ◌==◌, Bool, true, false, not, List, [], ◌∷◌, ◌++◌, Option, Some, None, length, refl, sym, subst, arith, take}
use Rattle.std.proofs.Common.{codes}
use Rattle.std.specs.List.{list_all}
use Rattle.std.proofs.lemmas.Bool.Decides.{nat_tests}
use Rattle.sot_text.specs.Lexeme.{is_in_word}
use Rattle.sot_lang.specs.declared.tables.PlantInfo.{PlantInfo}
use Rattle.sot_lang.specs.Tables.{Tables}
use Rattle.sot_lang.specs.TableRules.{MeetsTableRules}
use Rattle.sot_lists.specs.Places.{At}
use Rattle.sot_lists.proofs.Places.{at_below}
use Rattle.sot_world.specs.declared.mode.Mode.{Mode}
use Rattle.sot_world.specs.declared.mode.Mode.TheVariants.{Ac, Sc}
use Rattle.sot_world.specs.HistoryEntry.{Logged, InputAt, FireAt, DecideAt, TickAt}
use Rattle.sot_lang.specs.Names.{topic_name, node_name, module_name}
use Rattle.sot_trace.specs.Names.{scalar_name}
use Rattle.sot_trace.specs.Numbers.{numeral, signed_numeral, numbers}
use Rattle.sot_trace.specs.Drafts.{is_in_range, mark, slot_text, draft_text}
use Rattle.sot_trace.specs.Moves.{move_text, moves_text}
use Rattle.sot_trace.specs.Lines.{line_of, firing_word, mode_word}
use Rattle.sot_trace.specs.Words.{AreWords, IsWord}
use Rattle.sot_trace.specs.Telling.{IsTold}
use Rattle.sot_trace.proofs.Splits.{AllIn, both_in, in_wider, in_from_test}
use Rattle.sot_trace.proofs.NumberTexts.{in_number, in_numbers, numeral_in, signed_in, numbers_in}
use Rattle.sot_trace.proofs.NameTexts.{word_in, in_name, topic_named, node_named, module_named, topic_in, node_in, module_in, scalar_in}
use Rattle.sot_trace.proofs.DraftTexts.{AreThere}
use Rattle.sot_trace.proofs.LineTexts.{there_from, writes_are}

-- a byte that is no line end
abbrev pub no_end : ℕ → Bool
no_end b = not (b == 10)

word_wider : (b : ℕ) → is_in_word b ≡ true → no_end b ≡ true
word_wider b is = grind (arith, nat_tests)

number_wider : (b : ℕ) → in_number b ≡ true → no_end b ≡ true
number_wider b is = grind (arith, nat_tests)

numbers_wider : (b : ℕ) → in_numbers b ≡ true → no_end b ≡ true
numbers_wider b is = grind (arith, nat_tests)

name_wider : (b : ℕ) → in_name b ≡ true → no_end b ≡ true
name_wider b is = grind (arith, nat_tests)

abbrev Unbroken : List ℕ → Type 0
Unbroken text = AllIn no_end text

then_text : (a b : List ℕ) → Unbroken a → Unbroken b → Unbroken (a ++ b)
then_text a b h k = both_in no_end a b h k

fixed : (a : List ℕ) → list_all no_end a ≡ true → Unbroken a
fixed a h = in_from_test no_end a h

numbers_unbroken : (xs : List ℤ) → Unbroken (numbers xs)
numbers_unbroken xs = in_wider in_numbers no_end numbers_wider (numbers xs) (numbers_in xs)

numeral_unbroken : (n : ℕ) → Unbroken (numeral n)
numeral_unbroken n = in_wider in_number no_end number_wider (numeral n) (numeral_in n)

word_unbroken : (text : List ℕ) → AllIn is_in_word text → Unbroken text
word_unbroken text h = in_wider is_in_word no_end word_wider text h

mark_unbroken : (b : Bool) → Unbroken (mark b)
mark_unbroken true = (refl, tt)
mark_unbroken false = (refl, tt)

firing_unbroken : (b : Bool) → Unbroken (firing_word b)
firing_unbroken true = fixed (codes " fire ") refl
firing_unbroken false = fixed (codes " idle ") refl

mode_unbroken : (m : Mode) → Unbroken (mode_word m)
mode_unbroken Ac = fixed (codes " ac") refl
mode_unbroken Sc = fixed (codes " sc") refl

moves_unbroken : (ks : List PlantInfo) → ((i : ℕ) (k : PlantInfo) → At ks i k → IsWord k.name) → (v s : List ℤ) → Unbroken (moves_text ks v s)
moves_unbroken [] words v s = tt
moves_unbroken (k ∷ ks) words v s =
    let a = take (length k.noise.items) v in
    let b = take (length k.states.items) s in
    let move : Unbroken (move_text k a b) = (
      refl,
      then_text k.name (codes "(" ++ (numbers a ++ (codes ")=" ++ numbers b))) (word_unbroken k.name (word_in k.name (words 0 k refl)))
          (refl, then_text (numbers a) (codes ")=" ++ numbers b) (numbers_unbroken a) (refl, (refl, numbers_unbroken b))),
    ) in
    then_text (move_text k a b) _ move (moves_unbroken ks (λ i j at. words (suc i) j at) _ _)

module _ (p : Tables) (rules : MeetsTableRules p) (words : AreWords p) where
  draft_unbroken : (ks : List ℕ) → AreThere p ks → (d : List (Option ℤ)) → Unbroken (draft_text p ks d)
  draft_unbroken [] there d = tt
  draft_unbroken (k ∷ ks) there [] = tt
  draft_unbroken (k ∷ ks) there (None ∷ d) = draft_unbroken ks there.1 d
  draft_unbroken (k ∷ ks) there (Some z ∷ d) =
      let m = mark (is_in_range p k z) in
      let slot : Unbroken (slot_text p k (Some z)) = (
        refl,
        then_text (scalar_name p k) (m ++ signed_numeral z) (in_wider in_name no_end name_wider (scalar_name p k)
            (scalar_in p rules words k there.0.0 there.0.1))
            (then_text m (signed_numeral z) (mark_unbroken (is_in_range p k z)) (in_wider in_number no_end number_wider (signed_numeral z) (signed_in z))),
      ) in
      then_text (slot_text p k (Some z)) (draft_text p ks d) slot (draft_unbroken ks there.1 d)

  -- a line has no line end inside
  pub line_unbroken : (e : Logged) → IsTold p e → Unbroken (line_of p e)
  line_unbroken (InputAt time topic value) told =
      let a = at_below p.topics topic told in
      then_text (numeral time) _ (numeral_unbroken time)
      (then_text (codes " input ") _ (fixed (codes " input ") refl)
      (then_text (topic_name p topic) _ (subst Unbroken (sym (topic_named p topic a.0 a.1)) (word_unbroken a.0.name (topic_in p rules words topic a.0 a.1)))
      (refl, numbers_unbroken value)))
  line_unbroken (FireAt time node draft enabled) told =
      let a = at_below p.nodes node told.0 in
      let of_a = writes_are p rules words node a.0 a.1 in
      let drafted : Unbroken (draft_text p a.0.writes.items draft) =
      draft_unbroken a.0.writes.items (there_from p a.0.writes.items (λ k has. at_below p.scalars k (rules.typed.inside node a.0 k a.1 has))) draft in
      then_text (numeral time) _ (numeral_unbroken time)
      (then_text (firing_word enabled) _ (firing_unbroken enabled)
      (then_text (node_name p node) _ (subst Unbroken (sym (node_named p node a.0 a.1)) (word_unbroken a.0.name (node_in p rules words node a.0 a.1)))
      (subst (λ ks. Unbroken (draft_text p ks draft)) (sym of_a) drafted)))
  line_unbroken (DecideAt time decider mode) told =
      let a = at_below p.modules decider told in
      then_text (numeral time) _ (numeral_unbroken time)
      (then_text (codes " decide ") _ (fixed (codes " decide ") refl)
      (then_text (module_name p decider) _ (subst Unbroken (sym (module_named p decider a.0 a.1))
      (word_unbroken a.0.name (module_in p rules words decider a.0 a.1)))
      (mode_unbroken mode)))
  line_unbroken (TickAt time noise states) told =
      then_text (numeral time) _ (numeral_unbroken time)
      (then_text (codes " tick") _ (fixed (codes " tick") refl)
      (moves_unbroken p.plants words.plants noise states))
