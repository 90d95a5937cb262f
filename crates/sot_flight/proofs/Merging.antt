-- Sends that are put among given inputs, in one pass over both.
use Rattle.std.proofs.Common.{◌≡◌, ℕ, zero, suc, ◌+◌, ◌<◌, ◌≤◌, ℤ, Bool, true, false, List, [], ◌∷◌, ◌++◌, Option, None, Some, length, map}
use Rattle.std.proofs.Common.{drop, refl, sym, ap, ap₂, ◌∙◌, subst, append_assoc, arith}
use Rattle.std.specs.Prelude.{nat_le, if◌then◌else◌}
use Rattle.std.proofs.lemmas.Bool.{leb-true, le-leb}
use Rattle.std.proofs.Math.ListN.{drop_of_length-le}
use Rattle.std.proofs.lemmas.List.{map-append}
use Rattle.sot_lists.specs.Places.{At}
use Rattle.sot_lists.proofs.Places.{drop_at}
use Rattle.sot_flight.specs.Plans.{StatedInput}
use Rattle.sot_flight.specs.EarlyInputs.{early}
use Rattle.sot_flight.specs.Relayed.{Send, drafted, put_in, sent_input, with_sends}

-- each of them comes by that time
abbrev AllBy : ℕ → List StatedInput → Type 0
AllBy time [] = Unit {0}
AllBy time (y ∷ ys) = (y.at ≤ time) × AllBy time ys

early_by : (time : ℕ) (ys : List StatedInput) → AllBy time (early time ys)
early_by time [] = tt
early_by time (y ∷ ys) = go (nat_le y.at time) refl (early_by time ys)
  where
    go : (b : Bool) → nat_le y.at time ≡ b → AllBy time (early time ys) → AllBy time (if b then y ∷ early time ys else [])
    go true e rest = (leb-true y.at time e, rest)
    go false e rest = tt

put_behind : (x : StatedInput) (ys : List StatedInput) → put_in x ys ≡ early x.at ys ++ x ∷ drop (length (early x.at ys)) ys
put_behind x [] = refl
put_behind x (y ∷ ys) = go (nat_le y.at x.at) (put_behind x ys)
  where
    go : (b : Bool) → put_in x ys ≡ early x.at ys ++ x ∷ drop (length (early x.at ys)) ys → (if b then y ∷ put_in x ys else x ∷ y ∷ ys)
        ≡ (if b then y ∷ early x.at ys else []) ++ x ∷ drop (length (if b then y ∷ early x.at ys else [])) (y ∷ ys)
    go true rest = ap (λ l. y ∷ l) rest
    go false rest = refl

put_past : (x y : StatedInput) (ys : List StatedInput) → y.at ≤ x.at → put_in x (y ∷ ys) ≡ y ∷ put_in x ys
put_past x y ys le = ap (λ b. if b then y ∷ put_in x ys else x ∷ y ∷ ys) (le-leb y.at x.at le)

abbrev pub InOrder : List Send → Type 0
InOrder sends = (i : ℕ) (s t : Send) → At sends i s → At sends (suc i) t → s.at ≤ t.at

rest_in_order : (s : Send) (sends : List Send) → InOrder (s ∷ sends) → InOrder sends
rest_in_order s sends h i a b at_a at_b = h (suc i) a b at_a at_b

pub in_order_from : (n : ℕ) (sends : List Send) → InOrder sends → InOrder (drop n sends)
in_order_from zero sends h = h
in_order_from (suc n) [] h = h
in_order_from (suc n) (s ∷ sends) h = in_order_from n sends (rest_in_order s sends h)

-- the sends behind one come at its time or later
abbrev Later : ℕ → List Send → Type 0
Later time [] = Unit {0}
Later time (s ∷ sends) = (time ≤ s.at) × Later time sends

later_less : (m n : ℕ) (sends : List Send) → m ≤ n → Later n sends → Later m sends
later_less m n [] le h = tt
later_less m n (s ∷ sends) le h = (let first = h.0 in omega (arith, le, first), later_less m n sends le h.1)

later : (s : Send) (sends : List Send) → InOrder (s ∷ sends) → Later s.at sends
later s [] h = tt
later s (t ∷ sends) h = (h 0 s t refl refl, later_less s.at t.at sends (h 0 s t refl refl) (later t sends (rest_in_order s (t ∷ sends) h)))

dropped_twice : (n k : ℕ) (ys : List StatedInput) → drop k (drop n ys) ≡ drop (n + k) ys
dropped_twice zero k ys = ap (λ n. drop n ys) (omega arith)
dropped_twice (suc n) k [] = drop_of_length-le [] (omega arith) ∙ sym (drop_of_length-le [] (omega arith))
dropped_twice (suc n) k (y ∷ ys) =
    let e : suc (n + k) ≡ suc n + k = omega arith in
    dropped_twice n k ys ∙ ap (λ m. drop m (y ∷ ys)) e

module _ (topic delay : ℕ) where
  skip : (time : ℕ) (sends : List Send) (y : StatedInput) (ys : List StatedInput) → y.at ≤ time + delay → Later time sends
      → with_sends topic delay sends (y ∷ ys) ≡ y ∷ with_sends topic delay sends ys
  skip time [] y ys by h = refl
  skip time (s ∷ sends) y ys by h =
      let first = h.0 in
      let le : y.at ≤ s.at + delay = omega (arith, by, first) in
      ap (with_sends topic delay sends) (put_past (sent_input topic delay s) y ys le)
      ∙ skip time sends y (put_in (sent_input topic delay s) ys) by h.1

  skip_all : (time : ℕ) (sends : List Send) (front back : List StatedInput) → AllBy (time + delay) front → Later time sends
      → with_sends topic delay sends (front ++ back) ≡ front ++ with_sends topic delay sends back
  skip_all time sends [] back by h = refl
  skip_all time sends (y ∷ ys) back by h = skip time sends y (ys ++ back) by.0 h ∙ ap (λ l. y ∷ l) (skip_all time sends ys back by.1 h)

  -- the first send comes behind what is early, and all others among what is left
  pub one_by_one : (s : Send) (sends : List Send) (given : List StatedInput) → InOrder (s ∷ sends)
      → with_sends topic delay (s ∷ sends) given
      ≡ early (s.at + delay) given
      ++ sent_input topic delay s ∷ with_sends topic delay sends (drop (length (early (s.at + delay) given)) given)
  one_by_one s sends given h =
      let x = sent_input topic delay s in
      let front = early (s.at + delay) given in
      let back = drop (length (early (s.at + delay) given)) given in
      let by = later s sends h in
      ap (with_sends topic delay sends) (put_behind x given)
      ∙ skip_all s.at sends front (x ∷ back) (early_by (s.at + delay) given) by
      ∙ ap (λ l. front ++ l) (skip s.at sends x back (omega arith) by)

  -- one more send is put in, behind what is early
  pub sent_more : (done given : List StatedInput) (sends : List Send) (k place next : ℕ) (s : Send) (x : StatedInput) (total : List StatedInput)
      → InOrder sends → At sends k s → next ≡ place + length (early (s.at + delay) (drop place given)) → x ≡ sent_input topic delay s
      → done ++ with_sends topic delay (drop k sends) (drop place given) ≡ total
      → ((done ++ early (s.at + delay) (drop place given)) ++ x ∷ []) ++ with_sends topic delay (drop (k + 1) sends) (drop next given) ≡ total
  sent_more done given sends k place next s x total order at is same so_far =
      let ys = drop place given in
      let front = early (s.at + delay) ys in
      let rest = with_sends topic delay (drop (k + 1) sends) (drop next given) in
      let here = drop_at sends k s at in
      let behind : drop (length front) ys ≡ drop next given = dropped_twice place (length front) given ∙ ap (λ n. drop n given) (sym is) in
      let one : with_sends topic delay (drop k sends) ys ≡ front ++ x ∷ rest =
      ap (λ l. with_sends topic delay l ys) here
      ∙ one_by_one s (drop (k + 1) sends) ys (subst InOrder here (in_order_from k sends order))
      ∙ ap₂ (λ (y : StatedInput) (l : List StatedInput). front ++ y ∷ with_sends topic delay (drop (k + 1) sends) l) (sym same) behind in
      append_assoc (done ++ front) (x ∷ []) rest ∙ append_assoc done front (x ∷ rest) ∙ ap (λ l. done ++ l) (sym one) ∙ so_far

-- the early ones, as a loop finds them
early_on : (time i : ℕ) (ys : List StatedInput) (y : StatedInput) → At ys i y → y.at ≤ time → early time (drop i ys) ≡ y ∷ early time (drop (i + 1) ys)
early_on time i ys y at le =
    ap (early time) (drop_at ys i y at) ∙ ap (λ (b : Bool). if b then y ∷ early time (drop (i + 1) ys) else []) (le-leb y.at time le)

pub early_more : (done : List StatedInput) (time i : ℕ) (ys : List StatedInput) (y : StatedInput) (total : List StatedInput) → At ys i y → y.at ≤ time
    → done ++ early time (drop i ys) ≡ total → (done ++ y ∷ []) ++ early time (drop (i + 1) ys) ≡ total
early_more done time i ys y total at le so_far =
    append_assoc done (y ∷ []) (early time (drop (i + 1) ys)) ∙ ap (λ l. done ++ l) (sym (early_on time i ys y at le)) ∙ so_far

pub early_counted : (time i : ℕ) (ys : List StatedInput) (y : StatedInput) (total : ℕ) → At ys i y → y.at ≤ time
    → i + length (early time (drop i ys)) ≡ total → i + 1 + length (early time (drop (i + 1) ys)) ≡ total
early_counted time i ys y total at le so_far = let e = ap length (early_on time i ys y at le) in omega (arith, e, so_far)

pub early_off : (time i : ℕ) (ys : List StatedInput) (y : StatedInput) → At ys i y → time < y.at → early time (drop i ys) ≡ []
early_off time i ys y at lt =
    ap (early time) (drop_at ys i y at) ∙ ap (λ (b : Bool). if b then y ∷ early time (drop (i + 1) ys) else []) (no (nat_le y.at time) refl)
  where
    no : (b : Bool) → nat_le y.at time ≡ b → nat_le y.at time ≡ false
    no true e = (let le = leb-true y.at time e in absurd (omega (arith, le, lt)))
    no false e = e

pub early_end : (time i : ℕ) (ys : List StatedInput) → length ys ≤ i → early time (drop i ys) ≡ []
early_end time i ys le = ap (early time) (drop_of_length-le ys le)

append_none : {A : Type 0} (xs : List A) → xs ++ [] ≡ xs
append_none [] = refl
append_none (x ∷ xs) = ap (λ l. x ∷ l) (append_none xs)

-- the numbers of a draft, as a loop finds them
pub drafted_more : (done : List ℤ) (slots : List (Option ℤ)) (i : ℕ) (slot : Option ℤ) (total : List ℤ) → At slots i slot
    → done ++ drafted (drop i slots) ≡ total → (done ++ drafted (slot ∷ [])) ++ drafted (drop (i + 1) slots) ≡ total
drafted_more done slots i None total at so_far =
    ap (λ l. l ++ drafted (drop (i + 1) slots)) (append_none done) ∙ ap (λ l. done ++ l) (sym (ap drafted (drop_at slots i None at))) ∙ so_far
drafted_more done slots i (Some z) total at so_far =
    append_assoc done (z ∷ []) (drafted (drop (i + 1) slots)) ∙ ap (λ l. done ++ l) (sym (ap drafted (drop_at slots i (Some z) at))) ∙ so_far

pub drafted_all : (done : List ℤ) (slots : List (Option ℤ)) (i : ℕ) (total : List ℤ) → length slots ≤ i
    → done ++ drafted (drop i slots) ≡ total → done ≡ total
drafted_all done slots i total le so_far =
    sym (append_none done) ∙ ap (λ l. done ++ l) (sym (ap drafted (drop_of_length-le slots le))) ∙ so_far

pub early_done : (done : List StatedInput) (time i : ℕ) (ys total : List StatedInput) → early time (drop i ys) ≡ []
    → done ++ early time (drop i ys) ≡ total → done ≡ total
early_done done time i ys total none so_far = sym (append_none done) ∙ ap (λ l. done ++ l) (sym none) ∙ so_far

pub early_count_done : (time i : ℕ) (ys : List StatedInput) (total : ℕ) → early time (drop i ys) ≡ []
    → i + length (early time (drop i ys)) ≡ total → i ≡ total
early_count_done time i ys total none so_far = let e = ap length none in omega (arith, e, so_far)

-- a list that is copied, as a loop copies it
module _ {A : Type 0} where
  pub moved_more : (done ys : List A) (i : ℕ) (y : A) (total : List A) → At ys i y → done ++ drop i ys ≡ total → (done ++ y ∷ []) ++ drop (i + 1) ys ≡ total
  moved_more done ys i y total at so_far = append_assoc done (y ∷ []) (drop (i + 1) ys) ∙ ap (λ l. done ++ l) (sym (drop_at ys i y at)) ∙ so_far

  pub moved_all : (done ys : List A) (i : ℕ) (total : List A) → length ys ≤ i → done ++ drop i ys ≡ total → done ≡ total
  moved_all done ys i total le so_far = sym (append_none done) ∙ ap (λ l. done ++ l) (sym (drop_of_length-le ys le)) ∙ so_far

  -- the same, where what is copied stands for the parts
  pub pushed_more : {X : Type 0} (f : X → A) (done new : List X) (x : X) (ys : List A) (i : ℕ) (y : A) (total : List A) → new ≡ done ++ x ∷ [] → f x ≡ y
      → At ys i y
      → map f done ++ drop i ys ≡ total → map f new ++ drop (i + 1) ys ≡ total
  pushed_more f done new x ys i y total is same at so_far =
      ap (λ l. l ++ drop (i + 1) ys) (ap (map f) is ∙ map-append f done (x ∷ []) ∙ ap (λ z. map f done ++ z ∷ []) same)
      ∙ moved_more (map f done) ys i y total at so_far
