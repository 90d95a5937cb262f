-- Made texts are short.
use Rattle.std.proofs.Common.{ℕ, zero, suc, ◌+◌, ◌*◌, ◌<◌, ◌≤◌, ◌^◌, List, [], ◌∷◌, length, arith, length-append}
use Rattle.std.specs.Fmt.{decimal}
use Rattle.std.proofs.lemmas.Fmt.{length-decimal-le}
use Rattle.sot_maker.specs.declared.member.Member.{Member}
use Rattle.sot_maker.specs.declared.member.Member.TheVariants.{Cells, Crew, Start, Sway}
use Rattle.sot_random_words.specs.Words.{word}
use Rattle.sot_maker.specs.Offsets.{offsets_of}
use Rattle.sot_maker.specs.Declarations.{topic_text, plant_text, fast_text, code_text, slow_front, slow_text, module_text, declarations_text, declarations_from}
use Rattle.sot_maker.specs.Declarations.{mission_stream, program_text}
use Rattle.sot_maker.specs.Members.{cells_text, crew_text, start_text, sway_text, member_text, further, listed, object_text}

-- a decimal of 64 bits has at most 20 digits
short : (k : ℕ) → k < 2 ^ 64 → length (decimal k) ≤ 20
short k fits = length-decimal-le 20 k (omega arith) (omega arith) fits

topic_short : (i : ℕ) → i < 2 ^ 64 → length (topic_text i) ≤ 100
unfolding topic_text
topic_short i fits = (let d = short i fits in simp length-append (omega (arith, d)))

plant_short : (i : ℕ) → i < 2 ^ 64 → length (plant_text i) ≤ 300
unfolding plant_text
plant_short i fits = (let d = short i fits in simp length-append (omega (arith, d)))

fast_short : (i o : ℕ) → i < 2 ^ 64 → o < 2 ^ 64 → length (fast_text i o) ≤ 300
unfolding fast_text
fast_short i o fits small = (let d = short i fits in let e = short o small in simp length-append (omega (arith, d, e)))

front_short : (i o : ℕ) → i < 2 ^ 64 → o < 2 ^ 64 → length (slow_front i o) ≤ 300
unfolding slow_front
front_short i o fits small = (let d = short i fits in let e = short o small in simp length-append (omega (arith, d, e)))

code_short : (i : ℕ) → i < 2 ^ 64 → length (code_text i) ≤ 300
unfolding code_text
code_short i fits = (let d = short i fits in simp length-append (omega (arith, d)))

slow_short : (i o : ℕ) → i < 2 ^ 64 → o < 2 ^ 64 → length (slow_text i o) ≤ 700
unfolding slow_text
slow_short i o fits small = (let d = front_short i o fits small in let e = code_short i fits in simp length-append (omega (arith, d, e)))

module_short : (i o : ℕ) → i < 2 ^ 64 → o < 2 ^ 64 → length (module_text i o) ≤ 400
unfolding module_text
module_short i o fits small = (let d = short i fits in let e = short o small in simp length-append (omega (arith, d, e)))

declarations_short : (i w : ℕ) → i < 2 ^ 64 → length (declarations_text i (offsets_of w)) ≤ 2000
unfolding declarations_text
declarations_short i w fits =
    let o = offsets_of w in
    let a = topic_short i fits in
    let b = plant_short i fits in
    let c = fast_short i o.fast fits (omega arith) in
    let d = slow_short i o.slow fits (omega arith) in
    let e = module_short i o.decides fits (omega arith) in
    simp length-append (omega (arith, a, b, c, d, e))

from_short : (seed i n : ℕ) → i + n < 2 ^ 64 → length (declarations_from seed i n) ≤ 2000 * n
unfolding declarations_from
from_short seed i zero fits = omega arith
from_short seed i (suc n) fits =
    let here = declarations_short i (word seed mission_stream i) (omega arith) in
    let rest = from_short seed (suc i) n (omega arith) in
    simp length-append (omega (arith, here, rest))

pub program_short : (n seed : ℕ) → n ≤ 100 → length (program_text n seed) ≤ 200000
unfolding program_text
program_short n seed few = (let all = from_short seed 0 n (omega arith) in omega (arith, all))

cells_short : (i : ℕ) → i < 2 ^ 64 → length (cells_text i) ≤ 200
unfolding cells_text
cells_short i fits = (let d = short i fits in simp length-append (omega (arith, d)))

crew_short : (seed i : ℕ) → seed < 2 ^ 64 → i < 100 → length (crew_text seed i) ≤ 200
unfolding crew_text
crew_short seed i fits small =
    (let d = short i (omega arith) in let e = short seed fits in let f = short (1000 + i) (omega arith) in simp length-append (omega (arith, d, e, f)))

start_short : (i : ℕ) → i < 2 ^ 64 → length (start_text i) ≤ 200
unfolding start_text
start_short i fits = (let d = short i fits in simp length-append (omega (arith, d)))

sway_short : (seed i : ℕ) → seed < 2 ^ 64 → i < 100 → length (sway_text seed i) ≤ 200
unfolding sway_text
sway_short seed i fits small = (let d = short i (omega arith) in let e = short seed fits in simp length-append (omega (arith, d, e)))

member_short : (m : Member) (seed i : ℕ) → seed < 2 ^ 64 → i < 100 → length (member_text m seed i) ≤ 200
unfolding member_text
member_short Cells seed i fits small = cells_short i (omega arith)
member_short Crew seed i fits small = crew_short seed i fits small
member_short Start seed i fits small = start_short i (omega arith)
member_short Sway seed i fits small = sway_short seed i fits small

-- numbers below 100
unfoldable pub AreSmall : List ℕ → Type 0
AreSmall [] = Unit {0}
AreSmall (k ∷ ks) = (k < 100) × AreSmall ks

further_short : (m : Member) (seed : ℕ) (ks : List ℕ) → seed < 2 ^ 64 → AreSmall ks → length (further m seed ks) ≤ 201 * length ks
unfolding AreSmall
further_short m seed [] fits small = omega arith
further_short m seed (k ∷ ks) fits (here, rest) =
    let d = member_short m seed k fits here in
    let e = further_short m seed ks fits rest in
    simp length-append (omega (arith, d, e))

listed_short : (m : Member) (seed : ℕ) (ks : List ℕ) → seed < 2 ^ 64 → AreSmall ks → length (listed m seed ks) ≤ 201 * length ks
unfolding AreSmall
listed_short m seed [] fits small = omega arith
listed_short m seed (k ∷ ks) fits (here, rest) =
    let d = member_short m seed k fits here in
    let e = further_short m seed ks fits rest in
    simp length-append (omega (arith, d, e))

pub object_short : (m : Member) (seed : ℕ) (ks : List ℕ) → seed < 2 ^ 64 → AreSmall ks → length ks ≤ 100 → length (object_text m seed ks) ≤ 20200
unfolding object_text
object_short m seed ks fits small few = (let d = listed_short m seed ks fits small in simp length-append (omega (arith, d)))
