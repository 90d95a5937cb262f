-- The parts of a history's words.
use Rattle.std.proofs.Common.{◌≡◌, ℕ, ◌/◌, ◌%◌, ◌<◌, ◌==◌, ℤ, pos, ◌-ℤ◌, Bool, true, false, if◌then◌else◌, List, refl, ap, ap₂}
use Rattle.std.proofs.Common.{◌∙◌, arith}
use Rattle.sot_world.specs.declared.mode.Mode.{Mode}
use Rattle.sot_world.specs.declared.mode.Mode.TheVariants.{Ac, Sc}
use Rattle.sot_world.specs.HistoryRecords.{One, Decision, Firing, LateDecision, Value, Moves, bit_of, near_word, far_word, flag_in, number_in, record_as}
use Rattle.sot_world.specs.HistoryRecords.{record_in, logged, end_of, entry_in, entry_end}

bit_small : (b : Bool) → bit_of b < 2
bit_small true = omega arith
bit_small false = omega arith

bit_read : (b : Bool) → (bit_of b == 1) ≡ b
bit_read true = refl
bit_read false = refl

module _ (form flag time index number : ℕ) (f : form < 8) (g : flag < 2) (t : time < 262144) (i : index < 1024) where
  near_form : near_word form flag time index number % 8 ≡ form
  near_form = omega (arith, f)

  near_flag : near_word form flag time index number / 8 % 2 ≡ flag
  near_flag = omega (arith, f, g)

  near_time : near_word form flag time index number / 16 % 262144 ≡ time
  near_time = omega (arith, f, g, t)

  near_index : near_word form flag time index number / 4194304 % 1024 ≡ index
  near_index = omega (arith, f, g, t, i)

  near_number : near_word form flag time index number / 4294967296 ≡ number
  near_number = omega (arith, f, g, t, i)

module _ (form flag there place : ℕ) (f : form < 8) (g : flag < 2) (t : there < 256) where
  far_form : far_word form flag there place % 8 ≡ form
  far_form = omega (arith, f)

  far_flag : far_word form flag there place / 8 % 2 ≡ flag
  far_flag = omega (arith, f, g)

  far_there : far_word form flag there place / 16 % 256 ≡ there
  far_there = omega (arith, f, g, t)

  far_place : far_word form flag there place / 4096 ≡ place
  far_place = omega (arith, f, g, t)

abbrev mode_of : Bool → Mode
mode_of b = if b then Ac else Sc

-- what each form of word tells
pub near_one : (time node number : ℕ) (b : Bool) → time < 262144 → node < 1024
    → record_in (near_word 0 (bit_of b) time node number) ≡ One time node (pos number -ℤ pos 2147483648) b
near_one time node number b t i =
    let w = near_word 0 (bit_of b) time node number in
    let g = bit_small b in
    ap (λ k. record_as k w) (near_form 0 (bit_of b) time node number (omega arith) g t i)
    ∙ ap₂ (λ x y. One x y (number_in w) (flag_in w)) (near_time 0 (bit_of b) time node number (omega arith) g t i)
    (near_index 0 (bit_of b) time node number (omega arith) g t i)
    ∙ ap₂ (One time node) (ap (λ n. pos n -ℤ pos 2147483648) (near_number 0 (bit_of b) time node number (omega arith) g t i))
    (ap (λ f. f == 1) (near_flag 0 (bit_of b) time node number (omega arith) g t i) ∙ bit_read b)

pub near_decision : (time decider : ℕ) (b : Bool) → time < 262144 → decider < 1024
    → record_in (near_word 1 (bit_of b) time decider 0) ≡ Decision time decider (if b then Ac else Sc)
near_decision time decider b t i =
    let w = near_word 1 (bit_of b) time decider 0 in
    let g = bit_small b in
    ap (λ k. record_as k w) (near_form 1 (bit_of b) time decider 0 (omega arith) g t i)
    ∙ ap₂ (λ x y. Decision x y (mode_of (flag_in w))) (near_time 1 (bit_of b) time decider 0 (omega arith) g t i)
    (near_index 1 (bit_of b) time decider 0 (omega arith) g t i)
    ∙ ap (λ x. Decision time decider (mode_of x)) (ap (λ f. f == 1) (near_flag 1 (bit_of b) time decider 0 (omega arith) g t i) ∙ bit_read b)

pub far_firing : (there place : ℕ) (b : Bool) → there < 256 → record_in (far_word 2 (bit_of b) there place) ≡ Firing place there b
far_firing there place b t =
    let w = far_word 2 (bit_of b) there place in
    let g = bit_small b in
    ap (λ k. record_as k w) (far_form 2 (bit_of b) there place (omega arith) g t)
    ∙ ap₂ (λ x y. Firing x y (flag_in w)) (far_place 2 (bit_of b) there place (omega arith) g t) (far_there 2 (bit_of b) there place (omega arith) g t)
    ∙ ap (Firing place there) (ap (λ f. f == 1) (far_flag 2 (bit_of b) there place (omega arith) g t) ∙ bit_read b)

pub far_decision : (place : ℕ) (b : Bool) → record_in (far_word 3 (bit_of b) 0 place) ≡ LateDecision place (if b then Ac else Sc)
far_decision place b =
    let w = far_word 3 (bit_of b) 0 place in
    let g = bit_small b in
    ap (λ k. record_as k w) (far_form 3 (bit_of b) 0 place (omega arith) g (omega arith))
    ∙ ap₂ (λ x y. LateDecision x (mode_of y)) (far_place 3 (bit_of b) 0 place (omega arith) g (omega arith))
    (ap (λ f. f == 1) (far_flag 3 (bit_of b) 0 place (omega arith) g (omega arith)) ∙ bit_read b)

pub far_value : (place : ℕ) → record_in (far_word 4 (bit_of false) 0 place) ≡ Value place
far_value place =
    let w = far_word 4 (bit_of false) 0 place in
    ap (λ k. record_as k w) (far_form 4 0 0 place (omega arith) (omega arith) (omega arith))
    ∙ ap Value (far_place 4 0 0 place (omega arith) (omega arith) (omega arith))

pub far_moves : (place : ℕ) → record_in (far_word 5 (bit_of false) 0 place) ≡ Moves place
far_moves place =
    let w = far_word 5 (bit_of false) 0 place in
    ap (λ k. record_as k w) (far_form 5 0 0 place (omega arith) (omega arith) (omega arith))
    ∙ ap Moves (far_place 5 0 0 place (omega arith) (omega arith) (omega arith))

-- a word of this form
pub told_as : (numbers : List ℤ) (form word : ℕ) → word % 8 ≡ form → entry_in numbers word ≡ logged numbers (record_as form word)
told_as numbers form word is = ap (λ k. logged numbers (record_as k word)) is

pub told_to_as : (numbers : List ℤ) (form word : ℕ) → word % 8 ≡ form → entry_end numbers word ≡ end_of numbers (record_as form word)
told_to_as numbers form word is = ap (λ k. end_of numbers (record_as k word)) is
