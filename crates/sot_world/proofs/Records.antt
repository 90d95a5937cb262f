-- What the words of a history tell of stays when numbers come behind its list.
use Rattle.std.proofs.Common.{◌≡◌, ℕ, zero, suc, ◌+◌, ◌%◌, ◌≤◌, ◌<◌, ℤ, pos, Bool, true, false, Option, None, Some, List, [], ◌∷◌, ◌++◌, length, map, take}
use Rattle.std.proofs.Common.{drop, get_or, refl, sym, ap, ap₂, ◌∙◌, subst, arith, length-drop}
use Rattle.std.proofs.Math.Seq.{take-length, drop-append-add, get_or-append_seam}
use Rattle.std.proofs.lemmas.List.{take-append-le, drop-append-le, map-append, get_or_append_left, length-append, append_assoc}
use Rattle.std.proofs.lemmas.List.Elements.{All-append}
use Rattle.std.specs.Prelude.{is_some, option_to_list, unsigned_abs}
use Rattle.std.specs.List.{All}
use Rattle.sot_world.specs.HistoryEntry.{Logged, InputAt, FireAt, DecideAt, TickAt}
use Rattle.sot_world.specs.HistoryRecords.{slots_filled, count_there, flags_in, count_at, counted_at, end_at, short_at, Record, One, Decision, Firing}
use Rattle.sot_world.specs.HistoryRecords.{LateDecision, Value, Moves, logged, end_of, record_in, entry_in, entry_end}

part_more : (ns more : List ℤ) (from count : ℕ) → from + count ≤ length ns → take count (drop from (ns ++ more)) ≡ take count (drop from ns)
part_more ns more from count inside =
    ap (take count) (drop-append-le from ns more (omega (arith, inside)))
    ∙ take-append-le count (drop from ns) more (omega (arith, inside, length-drop from ns))

-- numbers behind those that slots have
filled_more : (bs : List Bool) (ms more : List ℤ) → count_there bs ≤ length ms → slots_filled bs (ms ++ more) ≡ slots_filled bs ms
filled_more [] ms more inside = refl
filled_more (false ∷ bs) ms more inside = ap (λ l. None ∷ l) (filled_more bs ms more inside)
filled_more (true ∷ bs) [] more inside = absurd (omega (arith, inside))
filled_more (true ∷ bs) (m ∷ ms) more inside = ap (λ l. Some m ∷ l) (filled_more bs ms more (omega (arith, inside)))

-- one slot more, with its number behind the others
pub filled_next : (bs : List Bool) (ms : List ℤ) (o : Option ℤ) → count_there bs ≡ length ms
    → slots_filled (bs ++ is_some o ∷ []) (ms ++ option_to_list o) ≡ slots_filled bs ms ++ o ∷ []
filled_next [] [] None same = refl
filled_next [] [] (Some n) same = refl
filled_next [] (m ∷ ms) o same = absurd (omega (arith, same))
filled_next (false ∷ bs) ms o same = ap (λ l. None ∷ l) (filled_next bs ms o same)
filled_next (true ∷ bs) [] o same = absurd (omega (arith, same))
filled_next (true ∷ bs) (m ∷ ms) o same = ap (λ l. Some m ∷ l) (filled_next bs ms o (omega (arith, same)))

pub count_next : (bs : List Bool) (ms : List ℤ) (o : Option ℤ) → count_there bs ≡ length ms
    → count_there (bs ++ is_some o ∷ []) ≡ length (ms ++ option_to_list o)
count_next [] [] None same = refl
count_next [] [] (Some n) same = refl
count_next [] (m ∷ ms) o same = absurd (omega (arith, same))
count_next (false ∷ bs) ms o same = count_next bs ms o same
count_next (true ∷ bs) [] o same = absurd (omega (arith, same))
count_next (true ∷ bs) (m ∷ ms) o same = ap suc (count_next bs ms o (omega (arith, same)))

-- these numbers stand at a place behind their count, and end there
pub record IsPart (ns : List ℤ) (at : ℕ) (part : List ℤ) (end : ℕ) : Type 0 where
  pub numbers : counted_at ns at ≡ part
  pub ends : end_at ns at ≡ end

count_more : (ns more : List ℤ) (at : ℕ) → at < length ns → count_at (ns ++ more) at ≡ count_at ns at
count_more ns more at inside = ap unsigned_abs (get_or_append_left ns more (pos 0) at inside)

end_more : (ns more : List ℤ) (at : ℕ) → end_at ns at ≤ length ns → end_at (ns ++ more) at ≡ end_at ns at
end_more ns more at inside = ap (λ c. at + 1 + c) (count_more ns more at (omega (arith, inside)))

counted_more : (ns more : List ℤ) (at : ℕ) → end_at ns at ≤ length ns → counted_at (ns ++ more) at ≡ counted_at ns at
counted_more ns more at inside =
    ap (λ c. take c (drop (at + 1) (ns ++ more))) (count_more ns more at (omega (arith, inside)))
    ∙ part_more ns more (at + 1) (count_at ns at) inside

-- numbers put behind the list, behind their count
pub part_written : (ns part : List ℤ) → IsPart (ns ++ pos (length part) ∷ part) (length ns) part (length (ns ++ pos (length part) ∷ part))
part_written ns part =
    let counted = pos (length part) ∷ part in
    let count : count_at (ns ++ counted) (length ns) ≡ length part = ap unsigned_abs (get_or-append_seam ns (pos (length part)) part (pos 0)) in
    record {
      numbers = ap₂ take count (drop-append-add ns counted 1) ∙ take-length part;
      ends = ap (λ c. length ns + 1 + c) count ∙ (let e = length-append ns counted in omega (arith, e));
    }

-- .. are there still when others come behind them
pub part_stays : (ns more part : List ℤ) (at end : ℕ) → end ≤ length ns → IsPart ns at part end → IsPart (ns ++ more) at part end
part_stays ns more part at end inside p =
    let before : end_at ns at ≤ length ns = omega (arith, p.ends, inside) in
    record { numbers = counted_more ns more at before ∙ p.numbers; ends = end_more ns more at before ∙ p.ends }

short_more : (ns more : List ℤ) (at : ℕ) → at < length ns → short_at (ns ++ more) at ≡ short_at ns at
short_more ns more at inside = ap (λ c. c % 4294967296) (count_more ns more at inside)

pub end_of_more : (ns more : List ℤ) (r : Record) → end_of ns r ≤ length ns → end_of (ns ++ more) r ≡ end_of ns r
end_of_more ns more (One time node number enabled) inside = refl
end_of_more ns more (Decision time m mode) inside = refl
end_of_more ns more (Firing place there enabled) inside = refl
end_of_more ns more (LateDecision place mode) inside = refl
end_of_more ns more (Value place) inside = end_more ns more (place + 2) inside
end_of_more ns more (Moves place) inside =
    let middle = end_at ns (place + 1) in
    ap (end_at (ns ++ more)) (end_more ns more (place + 1) (omega (arith, inside))) ∙ end_more ns more middle inside

pub logged_more : (ns more : List ℤ) (r : Record) → end_of ns r ≤ length ns → logged (ns ++ more) r ≡ logged ns r
logged_more ns more (One time node number enabled) inside = refl
logged_more ns more (Decision time m mode) inside = refl
logged_more ns more (Firing place there enabled) inside =
    let bs = flags_in 8 there in
    let at = place + 2 in
    let time = short_more ns more place (omega (arith, inside)) in
    let node = short_more ns more (place + 1) (omega (arith, inside)) in
    let draft = ap (slots_filled bs) (drop-append-le at ns more (omega (arith, inside)))
    ∙ filled_more bs (drop at ns) more (omega (arith, inside, length-drop at ns)) in
    ap₂ (λ t n. FireAt t n (slots_filled bs (drop at (ns ++ more))) enabled) time node
    ∙ ap (λ d. FireAt (short_at ns place) (short_at ns (place + 1)) d enabled) draft
logged_more ns more (LateDecision place mode) inside =
    ap₂ (λ t m. DecideAt t m mode) (short_more ns more place (omega (arith, inside))) (short_more ns more (place + 1) (omega (arith, inside)))
logged_more ns more (Value place) inside =
    let time = short_more ns more place (omega (arith, inside)) in
    let topic = short_more ns more (place + 1) (omega (arith, inside)) in
    ap₂ (λ t k. InputAt t k (counted_at (ns ++ more) (place + 2))) time topic
    ∙ ap (InputAt (short_at ns place) (short_at ns (place + 1))) (counted_more ns more (place + 2) inside)
logged_more ns more (Moves place) inside =
    let at = place + 1 in
    let first : end_at ns at ≤ length ns = omega (arith, inside) in
    let time = short_more ns more place (omega (arith, inside)) in
    let states = ap (counted_at (ns ++ more)) (end_more ns more at first) ∙ counted_more ns more (end_at ns at) inside in
    ap (λ t. TickAt t (counted_at (ns ++ more) at) (counted_at (ns ++ more) (end_at (ns ++ more) at))) time
    ∙ ap₂ (TickAt (short_at ns place)) (counted_more ns more at first) states

pub all_told_more : (ns more : List ℤ) (ws : List ℕ) → All (λ w. entry_end ns w ≤ length ns) ws → map (entry_in (ns ++ more)) ws ≡ map (entry_in ns) ws
all_told_more ns more [] inside = refl
all_told_more ns more (w ∷ ws) inside =
    ap₂ (λ x xs. x ∷ xs) (logged_more ns more (record_in w) (inside 0 w (omega arith)))
    (all_told_more ns more ws (λ k d lt. inside (suc k) d (omega (arith, lt))))

-- a word behind the others
pub told_push : (ns more ns' : List ℤ) (ws : List ℕ) (w : ℕ) (e : Logged) → ns' ≡ ns ++ more → All (λ w. entry_end ns w ≤ length ns) ws → entry_in ns' w ≡ e
    → map (entry_in ns') (ws ++ w ∷ []) ≡ map (entry_in ns) ws ++ e ∷ []
told_push ns more ns' ws w e behind inside same =
    map-append (entry_in ns') ws (w ∷ [])
    ∙ ap₂ (λ a b. a ++ b ∷ []) (ap (λ x. map (entry_in x) ws) behind ∙ all_told_more ns more ws inside) same

inside_more : (ns more : List ℤ) (w : ℕ) → entry_end ns w ≤ length ns → entry_end (ns ++ more) w ≤ length (ns ++ more)
inside_more ns more w inside = (let e = end_of_more ns more (record_in w) inside in let l = length-append ns more in omega (arith, e, l, inside))

-- the numbers of all words are in the list still
pub inside_push : (ns more ns' : List ℤ) (ws : List ℕ) (w : ℕ) → ns' ≡ ns ++ more → All (λ w. entry_end ns w ≤ length ns) ws → entry_end ns' w ≤ length ns'
    → All (λ w. entry_end ns' w ≤ length ns') (ws ++ w ∷ [])
inside_push ns more ns' ws w behind inside last =
    All-append (λ w. entry_end ns' w ≤ length ns') ws (w ∷ [])
    (subst (λ x. All (λ w. entry_end x w ≤ length x) ws) (sym behind) (λ k d lt. inside_more ns more (get_or ws k d) (inside k d lt)))
    (λ k d lt. one_inside k d lt) where
      one_inside : (k : ℕ) (d : ℕ) → k < 1 → entry_end ns' (get_or (w ∷ []) k d) ≤ length ns'
      one_inside zero d lt = last
      one_inside (suc k) d lt = absurd (omega (arith, lt))

-- a number of 32 bits that was put behind these
pub short_written : (ns rest : List ℤ) (n : ℕ) → n < 4294967296 → short_at (ns ++ pos n ∷ rest) (length ns) ≡ n
short_written ns rest n small =
    ap (λ z. unsigned_abs z % 4294967296) (get_or-append_seam ns (pos n) rest (pos 0)) ∙ (let e : n % 4294967296 ≡ n = omega (arith, small) in e)

pub short_written_next : (ns rest : List ℤ) (m n : ℕ) → n < 4294967296 → short_at (ns ++ pos m ∷ pos n ∷ rest) (length ns + 1) ≡ n
short_written_next ns rest m n small =
    let behind : ns ++ pos m ∷ pos n ∷ rest ≡ (ns ++ pos m ∷ []) ++ pos n ∷ rest = sym (append_assoc ns (pos m ∷ []) (pos n ∷ rest)) in
    let place : length ns + 1 ≡ length (ns ++ pos m ∷ []) = sym (length-append ns (pos m ∷ [])) in
    ap₂ short_at behind place ∙ short_written (ns ++ pos m ∷ []) rest n small

-- the numbers of a tick, which were put behind these
pub moves_written : (ns noise states : List ℤ) (time : ℕ) → time < 4294967296
    → logged (((ns ++ pos time ∷ []) ++ pos (length noise) ∷ noise) ++ pos (length states) ∷ states) (Moves (length ns)) ≡ TickAt time noise states
moves_written ns noise states time small =
    let first = ns ++ pos time ∷ [] in
    let second = first ++ pos (length noise) ∷ noise in
    let third = second ++ pos (length states) ∷ states in
    let one : length first ≡ length ns + 1 = length-append ns (pos time ∷ []) in
    let two : length first < length second = (let e = length-append first (pos (length noise) ∷ noise) in omega (arith, e)) in
    let said : short_at third (length ns) ≡ time =
    short_more second (pos (length states) ∷ states) (length ns) (omega (arith, one, two))
    ∙ short_more first (pos (length noise) ∷ noise) (length ns) (omega (arith, one)) ∙ short_written ns [] time small in
    let noises = subst (λ at. IsPart third at noise (length second)) one
    (part_stays second (pos (length states) ∷ states) noise (length first) (length second) (omega arith) (part_written first noise)) in
    let moved = part_written second states in
    ap₂ (λ t x. TickAt t x (counted_at third (end_at third (length ns + 1)))) said noises.numbers
    ∙ ap (TickAt time noise) (ap (counted_at third) noises.ends ∙ moved.numbers)

-- the numbers of a draft, which were put behind a time and a node
pub firing_written : (ns more : List ℤ) (time node there : ℕ) (b : Bool) (draft : List (Option ℤ)) → time < 4294967296 → node < 4294967296
    → slots_filled (flags_in 8 there) more ≡ draft
    → logged ((ns ++ pos time ∷ pos node ∷ []) ++ more) (Firing (length ns) there b) ≡ FireAt time node draft b
firing_written ns more time node there b draft t n filled =
    let front = pos time ∷ pos node ∷ [] in
    let all = (ns ++ front) ++ more in
    let behind : all ≡ ns ++ pos time ∷ pos node ∷ more = append_assoc ns front more in
    let first : short_at all (length ns) ≡ time = ap (λ l. short_at l (length ns)) behind ∙ short_written ns (pos node ∷ more) time t in
    let second : short_at all (length ns + 1) ≡ node = ap (λ l. short_at l (length ns + 1)) behind ∙ short_written_next ns more time node n in
    let rest : drop (length ns + 2) all ≡ more = ap (drop (length ns + 2)) behind ∙ drop-append-add ns (pos time ∷ pos node ∷ more) 2 in
    ap₂ (λ x y. FireAt x y (slots_filled (flags_in 8 there) (drop (length ns + 2) all)) b) first second
    ∙ ap (λ d. FireAt time node d b) (ap (slots_filled (flags_in 8 there)) rest ∙ filled)
