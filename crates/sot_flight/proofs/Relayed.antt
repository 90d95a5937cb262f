-- Inputs that are put among others.
use Rattle.std.proofs.Common.{◌≡◌, ℕ, zero, suc, ◌+◌, ◌≤◌, Bool, true, false, ◌⊎◌, inl, inr, ⊎_elim, List, [], ◌∷◌, length}
use Rattle.std.proofs.Common.{refl, sym, ap, ◌∙◌, subst, arith}
use Rattle.std.specs.Prelude.{nat_le, if◌then◌else◌}
use Rattle.std.proofs.lemmas.Bool.{leb-true, le-leb, false≢true}
use Rattle.std.proofs.lemmas.Option.{same_Some, none-some}
use Rattle.sot_lists.specs.Places.{At}
use Rattle.sot_lang.specs.Tables.{Tables}
use Rattle.sot_flight.specs.Plans.{StatedInput, Plan}
use Rattle.sot_flight.specs.Counts.{input_numbers}
use Rattle.sot_flight.specs.Fits.{FitsInput, FitsFlight}
use Rattle.sot_flight.specs.Relayed.{Send, put_in, sent_input, with_sends, send_numbers, relayed, MayRelay}

-- each one by itself, and each at its time
abbrev Each : (StatedInput → Type 0) → List StatedInput → Type 0
Each P xs = (i : ℕ) (x : StatedInput) → At xs i x → P x

abbrev Ordered : List StatedInput → Type 0
Ordered xs = (i : ℕ) (x y : StatedInput) → At xs i x → At xs (suc i) y → x.at ≤ y.at

tail_each : (P : StatedInput → Type 0) (y : StatedInput) (ys : List StatedInput) → Each P (y ∷ ys) → Each P ys
tail_each P y ys h i x at = h (suc i) x at

tail_ordered : (y : StatedInput) (ys : List StatedInput) → Ordered (y ∷ ys) → Ordered ys
tail_ordered y ys h i a b at_a at_b = h (suc i) a b at_a at_b

cons_each : (P : StatedInput → Type 0) (y : StatedInput) (ys : List StatedInput) → P y → Each P ys → Each P (y ∷ ys)
cons_each P y ys here rest zero x at = subst P (same_Some y x at) here
cons_each P y ys here rest (suc i) x at = rest i x at

cons_ordered : (y : StatedInput) (ys : List StatedInput) → ((z : StatedInput) → At ys 0 z → y.at ≤ z.at) → Ordered ys → Ordered (y ∷ ys)
cons_ordered y ys first rest zero a b at_a at_b = subst (λ q. q.at ≤ b.at) (same_Some y a at_a) (first b at_b)
cons_ordered y ys first rest (suc i) a b at_a at_b = rest i a b at_a at_b

by_case : (P : List StatedInput → Type 0) (x y : StatedInput) (ys : List StatedInput) (b : Bool) → nat_le y.at x.at ≡ b → (b ≡ true → P (y ∷ put_in x ys))
    → (b ≡ false → P (x ∷ y ∷ ys)) → P (if b then y ∷ put_in x ys else x ∷ y ∷ ys)
by_case P x y ys true e one other = one refl
by_case P x y ys false e one other = other refl

put_each : (P : StatedInput → Type 0) (x : StatedInput) (ys : List StatedInput) → P x → Each P ys → Each P (put_in x ys)
put_each P x [] here h = cons_each P x [] here h
put_each P x (y ∷ ys) here h =
    by_case (Each P) x y ys (nat_le y.at x.at) refl
    (λ e. cons_each P y (put_in x ys) (h 0 y refl) (put_each P x ys here (tail_each P y ys h)))
    (λ e. cons_each P x (y ∷ ys) here h)

-- the first one is the given first one or the one that was put in
first_is : (x z : StatedInput) (ys : List StatedInput) → At (put_in x ys) 0 z → (z ≡ x) ⊎ At ys 0 z
first_is x z [] at = inl (sym (same_Some x z at))
first_is x z (y ∷ ys) at = go (nat_le y.at x.at) at
  where
    go : (b : Bool) → At (if b then y ∷ put_in x ys else x ∷ y ∷ ys) 0 z → (z ≡ x) ⊎ At (y ∷ ys) 0 z
    go true at = inr at
    go false at = inl (sym (same_Some x z at))

not_le : (a b : ℕ) → nat_le a b ≡ false → b ≤ a
not_le a b e = cases (order a b)
  where
    order : (n k : ℕ) → (n ≤ k) ⊎ (k ≤ n)
    order zero k = inl (omega arith)
    order (suc n) zero = inr (omega arith)
    order (suc n) (suc k) = ⊎_elim (λ l. inl (omega (arith, l))) (λ l. inr (omega (arith, l))) (order n k)

    cases : (a ≤ b) ⊎ (b ≤ a) → b ≤ a
    cases (inl l) = absurd (false≢true (sym e ∙ le-leb a b l))
    cases (inr l) = l

put_ordered : (x : StatedInput) (ys : List StatedInput) → Ordered ys → Ordered (put_in x ys)
put_ordered x [] h = cons_ordered x [] (λ z at. absurd (none-some z at)) h
put_ordered x (y ∷ ys) h =
    by_case Ordered x y ys (nat_le y.at x.at) refl
    (λ e. cons_ordered y (put_in x ys) (λ z at. ⊎_elim (λ same. subst (λ q. y.at ≤ q.at) (sym same) (leb-true y.at x.at e)) (λ there. h 0 y z refl there)
    (first_is x z ys at)) (put_ordered x ys (tail_ordered y ys h)))
    (λ e. cons_ordered x (y ∷ ys) (λ z at. subst (λ q. x.at ≤ q.at) (same_Some y z at) (not_le y.at x.at e)) h)

put_length : (x : StatedInput) (ys : List StatedInput) → length (put_in x ys) ≡ suc (length ys)
put_length x [] = refl
put_length x (y ∷ ys) = by_case (λ l. length l ≡ suc (suc (length ys))) x y ys (nat_le y.at x.at) refl (λ e. ap suc (put_length x ys)) (λ e. refl)

put_numbers : (x : StatedInput) (ys : List StatedInput) → input_numbers (put_in x ys) ≡ length x.value + input_numbers ys
put_numbers x [] = refl
put_numbers x (y ∷ ys) = by_case (λ l. input_numbers l ≡ length x.value + (length y.value + input_numbers ys)) x y ys (nat_le y.at x.at) refl
    (λ e. let h = put_numbers x ys in omega (arith, h)) (λ e. refl)

-- all sends
module _ (topic delay : ℕ) where
  all_each : (P : StatedInput → Type 0) (sends : List Send) (given : List StatedInput) → ((i : ℕ) (s : Send) → At sends i s → P (sent_input topic delay s))
      → Each P given → Each P (with_sends topic delay sends given)
  all_each P [] given new h = h
  all_each P (s ∷ sends) given new h = all_each P sends (put_in (sent_input topic delay s) given) (λ i t at. new (suc i) t at)
      (put_each P (sent_input topic delay s) given (new 0 s refl) h)

  all_ordered : (sends : List Send) (given : List StatedInput) → Ordered given → Ordered (with_sends topic delay sends given)
  all_ordered [] given h = h
  all_ordered (s ∷ sends) given h = all_ordered sends (put_in (sent_input topic delay s) given) (put_ordered (sent_input topic delay s) given h)

  all_length : (sends : List Send) (given : List StatedInput) → length (with_sends topic delay sends given) ≡ length given + length sends
  all_length [] given = omega arith
  all_length (s ∷ sends) given = (let x = sent_input topic delay s in let h = all_length sends (put_in x given) in let one = put_length x given in omega
      (arith, h, one))

  all_numbers : (sends : List Send) (given : List StatedInput) → input_numbers (with_sends topic delay sends given) ≡ input_numbers given + send_numbers sends
  all_numbers [] given = omega arith
  all_numbers (s ∷ sends) given = (let x = sent_input topic delay s in let h = all_numbers sends (put_in x given) in let one = put_numbers x given in omega
      (arith, h, one))

-- what is sent to a flight that fits, as it may be sent, leaves it fitting
pub relayed_fits : (p : Tables) (guests topic delay : ℕ) (sends : List Send) (f : Plan)
    → FitsFlight p guests f → MayRelay p f topic delay sends → FitsFlight p guests (relayed topic delay sends f)
relayed_fits p guests topic delay sends f h may = record {
  horizon = h.horizon;
  starts = h.starts;
  widths = h.widths;
  inputs = all_each topic delay (FitsInput p f.horizon) sends f.inputs (λ i s at. record {
    in_time = may.in_time i s at;
    topic = may.info;
    is = may.is;
    outside = may.outside;
    size = may.sizes i s at;
    typed = λ k z there. may.typed i k s z
        at there;
  }) h.inputs;
  ordered = all_ordered topic delay sends f.inputs h.ordered;
  sways = h.sways;
  swayed = h.swayed;
  crews = h.crews;
  crewed = h.crewed;
  guests_there = h.guests_there;
  guests_once = h.guests_once;
  events = (let a = h.events in let b = all_length topic delay sends f.inputs in omega (arith, a, b));
  few_events = may.few_events;
  numbers = (let a = h.numbers in let b = all_numbers topic delay sends f.inputs in omega (arith, a, b));
  few_numbers = may.few_numbers;
}

-- two plans with the same parts are one
pub same_plan : (x y : Plan) → x.horizon ≡ y.horizon → x.start ≡ y.start → x.inputs ≡ y.inputs → x.sways ≡ y.sways → x.crews ≡ y.crews → x.events ≡ y.events
    → x.numbers ≡ y.numbers → x ≡ y
same_plan x y horizon start inputs sways crews events numbers =
    ap (λ h. let q : Plan = record x { horizon = h } in q) horizon ∙ ap (λ s. let q : Plan = record x { horizon = y.horizon; start = s } in q) start
    ∙ ap (λ l. let q : Plan = record x { horizon = y.horizon; start = y.start; inputs = l } in q) inputs
    ∙ ap (λ l. let q : Plan = record y { sways = l; crews = x.crews; events = x.events; numbers = x.numbers } in q) sways
    ∙ ap (λ l. let q : Plan = record y { crews = l; events = x.events; numbers = x.numbers } in q) crews
    ∙ ap (λ n. let q : Plan = record y { events = n; numbers = x.numbers } in q) events ∙ ap (λ n. let q : Plan = record y { numbers = n } in q) numbers
