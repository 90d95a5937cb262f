-- What is written of a history tells where its trace ends.
use Rattle.std.proofs.Common.{◌≡◌, ℕ, zero, suc, ◌+◌, ◌<◌, ◌/◌, ◌%◌, ◌==◌, ℤ, Bool, true, false, not, List, [], ◌∷◌, ◌++◌, inl, inr, refl, sym, ap}
use Rattle.std.proofs.Common.{◌∙◌, subst, arith, codes, map, drop, get_or, append_assoc, append-nil, length}
use Rattle.std.specs.Prelude.{if◌then◌else◌, nat_lt, sum_by, reverse}
use Rattle.std.specs.Fmt.{decimal, digits, digits_onto, digit_glyph}
use Rattle.std.proofs.lemmas.Bool.{cases_Bool}
use Rattle.std.proofs.lemmas.Bool.Decides.{nat_tests}
use Rattle.std.proofs.lemmas.List.{reverse-append, reverse-reverse}
use Rattle.sot_lang.specs.Tables.{Tables}
use Rattle.sot_world.specs.HistoryEntry.{Logged}
use Rattle.sot_trace.specs.Numbers.{numeral}
use Rattle.sot_trace.specs.Lines.{header, start_lines, line_of, ticks_in, refused_in}
use Rattle.sot_trace.specs.Traces.{text_of, trace_text, last_line}
use Rattle.sot_trace.proofs.Splits.{AllIn, Stops, both_in, in_wider, in_from_test, cut_same}
use Rattle.sot_trace.proofs.NumberTexts.{numeral_digits}
use Rattle.std.specs.Char.{is_ascii_digit}
use Rattle.sot_commands.specs.WatchTexts.{holds_text, fails_text}
use Rattle.sot_commands.specs.GuestLaws.{TracesEndOnce}

-- a byte inside a line
abbrev is_inner : ℕ → Bool
is_inner b = not (b == 10)

above_ten : (b : ℕ) → 10 < b → is_inner b ≡ true
above_ten b more = (let e : (b == 10) ≡ false = grind (arith, nat_tests) in ap not e)

digit_above : (b : ℕ) → is_ascii_digit b ≡ true → 10 < b
digit_above b digit = grind (arith, nat_tests)

digit_inner : (b : ℕ) → is_ascii_digit b ≡ true → is_inner b ≡ true
digit_inner b digit = above_ten b (digit_above b digit)

glyph_inner : (d : ℕ) → is_inner (digit_glyph false d) ≡ true
glyph_inner d =
    elim (cases_Bool (nat_lt d 10)) [
      | inl low ↦ subst (λ (b : Bool). is_inner (if b then 48 + d else (87 + d)) ≡ true) (sym low) (above_ten (48 + d) (omega arith))
      | inr high ↦ subst (λ (b : Bool). is_inner (if b then 48 + d else (87 + d)) ≡ true) (sym high) (above_ten (87 + d) (omega arith))
    ]

onto_inner : (k n : ℕ) (acc : List ℕ) → AllIn is_inner acc → AllIn is_inner (digits_onto k 10 false n acc)
onto_inner zero n acc has = has
onto_inner (suc k) n acc has =
    let more : List ℕ = digit_glyph false (n % 10) ∷ acc in
    let Goal : Bool → Type 0 = λ b. AllIn is_inner (if b then more else digits_onto k 10 false (n / 10) more) in
    elim (cases_Bool (n / 10 == 0)) [
      | inl yes' ↦ subst Goal (sym yes') (glyph_inner (n % 10), has)
      | inr no' ↦ subst Goal (sym no') (onto_inner k (n / 10) more (glyph_inner (n % 10), has))
    ]

decimal_inner : (n : ℕ) → AllIn is_inner (decimal n)
unfolding digits
decimal_inner n = onto_inner 64 n [] tt

numeral_inner : (n : ℕ) → AllIn is_inner (numeral n)
numeral_inner n = in_wider is_ascii_digit is_inner digit_inner (numeral n) (numeral_digits n)

reversed_in : (l : List ℕ) → AllIn is_inner l → AllIn is_inner (reverse l)
reversed_in [] has = tt
reversed_in (x ∷ l) has =
    subst (AllIn is_inner) (sym (reverse-append (x ∷ []) l)) (both_in is_inner (reverse l) (x ∷ []) (reversed_in l has.1) (has.0, tt))

-- lines with their line ends behind a text
turned : (x l : List ℕ) → reverse (x ++ (l ++ 10 ∷ [])) ≡ 10 ∷ (reverse l ++ reverse x)
turned x l = reverse-append x (l ++ 10 ∷ []) ∙ ap (λ (r : List ℕ). r ++ reverse x) (reverse-append l (10 ∷ []))

-- a text is empty, or ends with a line end
EndsLine : List ℕ → Type 0
EndsLine x = Stops is_inner (reverse x)

line_ends : (z : List ℕ) → EndsLine (z ++ 10 ∷ [])
unfolding EndsLine
line_ends z = subst (Stops is_inner) (sym (reverse-append z (10 ∷ []))) refl

-- so the last line is one
last_same : (x y l m : List ℕ) → AllIn is_inner l → AllIn is_inner m → EndsLine x → EndsLine y → x ++ (l ++ 10 ∷ []) ≡ y ++ (m ++ 10 ∷ []) → (x ≡ y) × (l ≡ m)
unfolding EndsLine
last_same x y l m in_l in_m ends_x ends_y e =
    let both : 10 ∷ (reverse l ++ reverse x) ≡ 10 ∷ (reverse m ++ reverse y) = sym (turned x l) ∙ ap reverse e ∙ turned y m in
    let cut = cut_same is_inner (reverse l) (reverse m) (reverse x) (reverse y) (reversed_in l in_l) (reversed_in m in_m) ends_x ends_y (ap (drop 1) both) in
    (sym (reverse-reverse x) ∙ ap reverse cut.1 ∙ reverse-reverse y, sym (reverse-reverse l) ∙ ap reverse cut.0 ∙ reverse-reverse m)

-- a text of lines ends with its last one
text_last : (lines : List (List ℕ)) (l : List ℕ) → text_of (lines ++ l ∷ []) ≡ text_of lines ++ (l ++ 10 ∷ [])
text_last [] l = refl
text_last (k ∷ lines) l = ap (λ (x : List ℕ). k ++ 10 ∷ x) (text_last lines l) ∙ sym (append_assoc k (10 ∷ text_of lines) (l ++ 10 ∷ []))

text_ends : (k : List ℕ) (lines : List (List ℕ)) → (z : List ℕ) × (text_of (k ∷ lines) ≡ z ++ 10 ∷ [])
text_ends k [] = (k, refl)
text_ends k (j ∷ lines) =
    (let (z, is) = text_ends j lines in (k ++ 10 ∷ z, ap (λ (x : List ℕ). k ++ 10 ∷ x) is ∙ sym (append_assoc k (10 ∷ z) (10 ∷ []))))

text_ends_line : (k : List ℕ) (lines : List (List ℕ)) → EndsLine (text_of (k ∷ lines))
text_ends_line k lines = (let (z, is) = text_ends k lines in subst EndsLine (sym is) (line_ends z))

-- a text with its last line, and what is before
record Ended (text front l : List ℕ) : Type 0 where
  is : text ≡ front ++ (l ++ 10 ∷ [])
  inner : AllIn is_inner l
  ends : EndsLine front

module _ (t : Tables) (start : List (List ℤ)) (xs : List Logged) where
  front : List ℕ
  front = text_of (header ∷ (start_lines t.plants start ++ map (line_of t) xs))

  trace_ends : EndsLine (trace_text t start xs)
  trace_ends = text_ends_line header _

  -- without a verdict the last line is the trace's, which begins with `e`
  bare_ended : Ended (trace_text t start xs ++ []) front (last_line t xs)
  unfolding front
  bare_ended = record {
    is =
        append-nil (trace_text t start xs)
        ∙ ap (λ (ls : List (List ℕ)). text_of (header ∷ ls)) (sym (append_assoc (start_lines t.plants start) (map (line_of t) xs) (last_line t xs ∷ [])))
        ∙ text_last (header ∷ (start_lines t.plants start ++ map (line_of t) xs)) (last_line t xs);
    inner =
        both_in is_inner (codes "end ") _ (in_from_test is_inner (codes "end ") refl)
        (both_in is_inner (numeral (sum_by ticks_in xs)) _ (numeral_inner (sum_by ticks_in xs))
        (both_in is_inner (codes " events ") _ (in_from_test is_inner (codes " events ") refl)
        (both_in is_inner (numeral (length xs)) _ (numeral_inner (length xs))
        (both_in is_inner (codes " refused ") _ (in_from_test is_inner (codes " refused ") refl) (numeral_inner (sum_by (refused_in t) xs))))));
    ends = text_ends_line header _;
  }

  -- with one it is the verdict
  said_ended : (word : List ℕ) (n : ℕ) (behind : List ℕ) → AllIn is_inner word → behind ≡ word ++ (decimal n ++ 10 ∷ [])
      → Ended (trace_text t start xs ++ behind) (trace_text t start xs) (word ++ decimal n)
  said_ended word n behind inner is = record {
    is = ap (λ (b : List ℕ). trace_text t start xs ++ b) (is ∙ sym (append_assoc word (decimal n) (10 ∷ [])));
    inner = both_in is_inner word (decimal n) inner (decimal_inner n);
    ends = trace_ends;
  }

ended_same : (text other x y l m : List ℕ) → Ended text x l → Ended other y m → text ≡ other → (x ≡ y) × (l ≡ m)
ended_same text other x y l m a b e = last_same x y l m a.inner b.inner a.ends b.ends (sym a.is ∙ e ∙ b.is)

-- the last lines begin with different letters
differ : (l m : List ℕ) (a b : ℕ) → get_or l 0 0 ≡ a → get_or m 0 0 ≡ b → a < b → l ≡ m → ⊥
differ l m a b is is' less e =
    (let same : a ≡ b = sym is ∙ ap (λ (x : List ℕ). get_or x 0 0) e ∙ is' in omega (arith, same, less))

holds_word : List ℕ
holds_word = codes "watch holds moments "

fails_word : List ℕ
fails_word = codes "refused watch time "

holds_inner : AllIn is_inner holds_word
unfolding holds_word
holds_inner = in_from_test is_inner (codes "watch holds moments ") refl

fails_inner : AllIn is_inner fails_word
unfolding fails_word
fails_inner = in_from_test is_inner (codes "refused watch time ") refl

module _ (t u : Tables) (start other_start : List (List ℤ)) (xs ys : List Logged) where
  abbrev trace : List ℕ
  trace = trace_text t start xs

  abbrev other_trace : List ℕ
  other_trace = trace_text u other_start ys

  abbrev Same : List ℕ → List ℕ → Type 0
  Same behind other = (trace ≡ other_trace) × (behind ≡ other)

  both_holds : (n k : ℕ) (behind other : List ℕ) → behind ≡ holds_text n → other ≡ holds_text k → trace ++ behind ≡ other_trace ++ other → Same behind other
  unfolding holds_word
  both_holds n k behind other is is' e =
      let both = ended_same _ _ trace other_trace _ _ (said_ended t start xs holds_word n behind holds_inner is)
      (said_ended u other_start ys holds_word k other holds_inner is') e in
      let lines = is ∙ sym (append_assoc holds_word (decimal n) (10 ∷ [])) ∙ ap (λ (l : List ℕ). l ++ 10 ∷ []) both.1
      ∙ append_assoc holds_word (decimal k) (10 ∷ []) ∙ sym is' in
      (both.0, lines)

  both_fails : (n k : ℕ) (behind other : List ℕ) → behind ≡ fails_text n → other ≡ fails_text k → trace ++ behind ≡ other_trace ++ other → Same behind other
  unfolding fails_word
  both_fails n k behind other is is' e =
      let both = ended_same _ _ trace other_trace _ _ (said_ended t start xs fails_word n behind fails_inner is)
      (said_ended u other_start ys fails_word k other fails_inner is') e in
      let lines = is ∙ sym (append_assoc fails_word (decimal n) (10 ∷ [])) ∙ ap (λ (l : List ℕ). l ++ 10 ∷ []) both.1
      ∙ append_assoc fails_word (decimal k) (10 ∷ []) ∙ sym is' in
      (both.0, lines)

  none_holds : (k : ℕ) (other : List ℕ) → other ≡ holds_text k → trace ++ [] ≡ other_trace ++ other → ⊥
  unfolding holds_word
  none_holds k other is e =
      let both = ended_same _ _ _ other_trace _ _ (bare_ended t start xs) (said_ended u other_start ys holds_word k other holds_inner is) e in
      differ _ _ 101 119 refl refl (omega arith) both.1

  none_fails : (k : ℕ) (other : List ℕ) → other ≡ fails_text k → trace ++ [] ≡ other_trace ++ other → ⊥
  unfolding fails_word
  none_fails k other is e =
      let both = ended_same _ _ _ other_trace _ _ (bare_ended t start xs) (said_ended u other_start ys fails_word k other fails_inner is) e in
      differ _ _ 101 114 refl refl (omega arith) both.1

  fails_holds : (n k : ℕ) (behind other : List ℕ) → behind ≡ fails_text n → other ≡ holds_text k → trace ++ behind ≡ other_trace ++ other → ⊥
  unfolding holds_word fails_word
  fails_holds n k behind other is is' e =
      let both = ended_same _ _ trace other_trace _ _ (said_ended t start xs fails_word n behind fails_inner is)
      (said_ended u other_start ys holds_word k other holds_inner is') e in
      differ _ _ 114 119 refl refl (omega arith) both.1

  none_none : (behind other : List ℕ) → behind ≡ [] → other ≡ [] → trace ++ behind ≡ other_trace ++ other → Same behind other
  none_none behind other is is' e =
      let bare = sym (ap (λ (b : List ℕ). trace ++ b) is ∙ append-nil trace) ∙ e ∙ ap (λ (b : List ℕ). other_trace ++ b) is' ∙ append-nil other_trace in
      (bare, is ∙ sym is')

pub traces_end_once : TracesEndOnce
traces_end_once t u start other_start xs ys behind other (inl is) (inl is') e = none_none t u start other_start xs ys behind other is is' e
traces_end_once t u start other_start xs ys behind other (inl is) (inr (inl (k, is'))) e =
    absurd (none_holds t u start other_start xs ys k other is' (sym (ap (λ (b : List ℕ). trace_text t start xs ++ b) is) ∙ e))
traces_end_once t u start other_start xs ys behind other (inl is) (inr (inr (k, is'))) e =
    absurd (none_fails t u start other_start xs ys k other is' (sym (ap (λ (b : List ℕ). trace_text t start xs ++ b) is) ∙ e))
traces_end_once t u start other_start xs ys behind other (inr (inl (n, is))) (inl is') e =
    absurd (none_holds u t other_start start ys xs n behind is (sym (ap (λ (b : List ℕ). trace_text u other_start ys ++ b) is') ∙ sym e))
traces_end_once t u start other_start xs ys behind other (inr (inl (n, is))) (inr (inl (k, is'))) e =
    both_holds t u start other_start xs ys n k behind other is is' e
traces_end_once t u start other_start xs ys behind other (inr (inl (n, is))) (inr (inr (k, is'))) e =
    absurd (fails_holds u t other_start start ys xs k n other behind is' is (sym e))
traces_end_once t u start other_start xs ys behind other (inr (inr (n, is))) (inl is') e =
    absurd (none_fails u t other_start start ys xs n behind is (sym (ap (λ (b : List ℕ). trace_text u other_start ys ++ b) is') ∙ sym e))
traces_end_once t u start other_start xs ys behind other (inr (inr (n, is))) (inr (inl (k, is'))) e =
    absurd (fails_holds t u start other_start xs ys n k behind other is is' e)
traces_end_once t u start other_start xs ys behind other (inr (inr (n, is))) (inr (inr (k, is'))) e =
    both_fails t u start other_start xs ys n k behind other is is' e
