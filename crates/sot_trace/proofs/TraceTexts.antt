-- The text of a history tells the start and the history.
use Rattle.std.proofs.Common.{◌≡◌, ℕ, suc, ◌<◌, ◌≤◌, ◌==◌, ℤ, Bool, true, false, List, [], ◌∷◌, ◌++◌, map, length, refl, sym, ap, subst, ◌∙◌, arith, drop}
use Rattle.std.proofs.Common.{append_assoc, codes}
use Rattle.std.specs.Prelude.{sum_by}
use Rattle.std.proofs.lemmas.Bool.Decides.{nat_tests}
use Rattle.std.proofs.lemmas.List.{append_cancel_left}
use Rattle.sot_lang.specs.declared.tables.PlantInfo.{PlantInfo}
use Rattle.sot_lang.specs.Tables.{Tables}
use Rattle.sot_lang.specs.TableRules.{MeetsTableRules}
use Rattle.sot_lists.specs.Places.{At}
use Rattle.sot_world.specs.HistoryEntry.{Logged, InputAt, FireAt, DecideAt, TickAt}
use Rattle.sot_trace.specs.Numbers.{numeral, numbers}
use Rattle.sot_trace.specs.Lines.{line_of, start_line, start_lines, end_line, ticks_in, refused_in}
use Rattle.sot_trace.specs.Traces.{text_of, last_line}
use Rattle.sot_trace.specs.Words.{AreWords}
use Rattle.sot_trace.specs.Telling.{IsTold, TextTellsHistory}
use Rattle.sot_trace.proofs.Splits.{AllIn, Stops, cut_same}
use Rattle.sot_trace.proofs.NumberTexts.{in_number, in_numbers, numeral_in, numeral_some, numbers_in, numbers_same}
use Rattle.sot_trace.proofs.LineTexts.{tail_of, time_of, line_parts, line_same}
use Rattle.sot_trace.proofs.Unbroken.{no_end, line_unbroken}

-- one start line, and what follows it
start_opens : (k : PlantInfo) (x : List ℤ) (rest : List ℕ) → start_line k x ++ rest ≡ codes "start " ++ (k.name ++ (32 ∷ (numbers x ++ rest)))
start_opens k x rest = ap (λ y. codes "start " ++ y) (append_assoc k.name (32 ∷ numbers x) rest)

-- an `s`
abbrev is_s : ℕ → Bool
is_s b = b == 115

no_s : (b : ℕ) → in_number b ≡ true → is_s b ≡ false
no_s b is = grind (arith, nat_tests)

-- a text that begins in one class does not go on with another
opens_so : (q r : ℕ → Bool) → ((b : ℕ) → q b ≡ true → r b ≡ false) → (a x : List ℕ) → 0 < length a → AllIn q a → Stops r (a ++ x)
opens_so q r other [] x some h = absurd (omega arith)
opens_so q r other (b ∷ a) x some h = other b h.0

starts_same : (ks : List PlantInfo) (xs ys : List (List ℤ)) (r s : List (List ℕ)) → length xs ≤ length ks → length ys ≤ length ks → Stops is_s (text_of r)
    → Stops is_s (text_of s)
    → text_of (start_lines ks xs ++ r) ≡ text_of (start_lines ks ys ++ s) → (xs ≡ ys) × (text_of r ≡ text_of s)
starts_same [] [] [] r s lx ly sr ss e = (refl, e)
starts_same [] (x ∷ xs) ys r s lx ly sr ss e = absurd (omega arith)
starts_same [] [] (y ∷ ys) r s lx ly sr ss e = absurd (omega arith)
starts_same (k ∷ ks) [] [] r s lx ly sr ss e = (refl, e)
starts_same (k ∷ ks) [] (y ∷ ys) r s lx ly sr ss e = (let never : true ≡ false = subst (Stops is_s) e sr in absurd cc)
starts_same (k ∷ ks) (x ∷ xs) [] r s lx ly sr ss e = (let never : true ≡ false = subst (Stops is_s) (sym e) ss in absurd cc)
starts_same (k ∷ ks) (x ∷ xs) (y ∷ ys) r s lx ly sr ss e =
    let a = 10 ∷ text_of (start_lines ks xs ++ r) in
    let b = 10 ∷ text_of (start_lines ks ys ++ s) in
    let whole = sym (start_opens k x a) ∙ e ∙ start_opens k y b in
    let inner = ap (drop 1) (append_cancel_left k.name _ _ (ap (drop 6) whole)) in
    let parts = cut_same in_numbers (numbers x) (numbers y) a b (numbers_in x) (numbers_in y) refl refl inner in
    let first : x ≡ y = numbers_same x y parts.0 in
    let more = starts_same ks xs ys r s (omega arith) (omega arith) sr ss (ap (drop 1) parts.1) in
    let rest : xs ≡ ys = more.0 in
    (cc, more.1)

-- what stands behind the time goes on with no digit
goes_on : (p : Tables) (e : Logged) (x : List ℕ) → Stops in_number (tail_of p e ++ x)
goes_on p (InputAt time topic value) x = refl
goes_on p (FireAt time node draft true) x = refl
goes_on p (FireAt time node draft false) x = refl
goes_on p (DecideAt time decider mode) x = refl
goes_on p (TickAt time noise states) x = refl

-- each entry is told
abbrev pub AreTold : Tables → List Logged → Type 0
AreTold p es = (i : ℕ) (e : Logged) → At es i e → IsTold p e

module _ (p : Tables) where
  -- the lines of the entries do not begin as those of the starts do
  no_start : (es : List Logged) (t n r : ℕ) → Stops is_s (text_of (map (line_of p) es ++ (end_line t n r ∷ [])))
  no_start [] t n r = refl
  no_start (e ∷ es) t n r =
      let more = tail_of p e ++ (10 ∷ text_of (map (line_of p) es ++ (end_line t n r ∷ []))) in
      let whole = ap (λ l. l ++ (10 ∷ text_of (map (line_of p) es ++ (end_line t n r ∷ [])))) (line_parts p e)
      ∙ append_assoc (numeral (time_of e)) (tail_of p e) _ in
      subst (Stops is_s) (sym whole) (opens_so in_number is_s no_s (numeral (time_of e)) more (numeral_some (time_of e)) (numeral_in (time_of e)))

  -- a line begins with a digit, and the last line does not
  last_is_last : (e : Logged) (x y : List ℕ) (t n r : ℕ) → line_of p e ++ x ≡ end_line t n r ++ y → ⊥
  last_is_last e x y t n r same =
      let opened : numeral (time_of e) ++ (tail_of p e ++ x) ≡ end_line t n r ++ y =
      sym (ap (λ l. l ++ x) (line_parts p e) ∙ append_assoc (numeral (time_of e)) (tail_of p e) x) ∙ same in
      let parts = cut_same in_number (numeral (time_of e)) [] (tail_of p e ++ x) (end_line t n r ++ y) (numeral_in (time_of e)) tt (goes_on p e x) refl opened
      in
      omega (arith, numeral_some (time_of e), ap length parts.0)

module _ (p : Tables) (rules : MeetsTableRules p) (words : AreWords p) where
  entries_same : (es fs : List Logged) → AreTold p es → AreTold p fs → (t n r u m s : ℕ)
      → text_of (map (line_of p) es ++ (end_line t n r ∷ [])) ≡ text_of (map (line_of p) fs ++ (end_line u m s ∷ [])) → es ≡ fs
  entries_same [] [] he hf t n r u m s same = refl
  entries_same [] (f ∷ fs) he hf t n r u m s same = absurd (last_is_last p f _ _ t n r (sym same))
  entries_same (e ∷ es) [] he hf t n r u m s same = absurd (last_is_last p e _ _ u m s same)
  entries_same (e ∷ es) (f ∷ fs) he hf t n r u m s same =
      let parts = cut_same no_end (line_of p e) (line_of p f) (10 ∷ text_of (map (line_of p) es ++ (end_line t n r ∷ [])))
      (10 ∷ text_of (map (line_of p) fs ++ (end_line u m s ∷ [])))
      (line_unbroken p rules words e (he 0 e refl)) (line_unbroken p rules words f (hf 0 f refl)) refl refl same in
      let first : e ≡ f = line_same p rules words e f (he 0 e refl) (hf 0 f refl) parts.0 in
      let rest : es ≡ fs = entries_same es fs (λ i x at. he (suc i) x at) (λ i x at. hf (suc i) x at) t n r u m s (ap (drop 1) parts.1) in
      cc

-- the text tells the history
pub text_tells : TextTellsHistory
text_tells p start other_start entries others rules words one other same =
    let ticks = λ (es : List Logged). sum_by ticks_in es in
    let refused = λ (es : List Logged). sum_by (refused_in p) es in
    let parts = starts_same p.plants start other_start (map (line_of p) entries ++ (last_line p entries ∷ []))
    (map (line_of p) others ++ (last_line p others ∷ [])) one.starts other.starts
    (no_start p entries (ticks entries) (length entries) (refused entries)) (no_start p others (ticks others) (length others) (refused others))
    (ap (drop 14) same) in (
      parts.0,
      entries_same p rules words entries others one.told other.told (ticks entries) (length entries) (refused entries) (ticks others) (length others)
          (refused others) parts.1,
    )
