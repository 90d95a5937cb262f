-- Made missions are short.
use Rattle.std.proofs.Common.{◌≡◌, ℕ, ◌<◌, ◌≤◌, ◌^◌, Bool, inl, inr, List, [], ◌∷◌, length, refl, arith, rules, length-append}
use Rattle.std.specs.Prelude.{nat_lt}
use Rattle.std.specs.List.{filter}
use Rattle.std.proofs.lemmas.Bool.{cases_Bool}
use Rattle.sot_maker.specs.declared.member.Member.TheVariants.{Cells, Crew, Start, Sway}
use Rattle.sot_maker.specs.NameOrder.{numbers_from, all_by_name, by_name}
use Rattle.sot_maker.specs.Missions.{certificate_text, flight_text, mission_text}
use Rattle.sot_maker.specs.Laws.{MadeTextsAreShort}
use Rattle.sot_maker.proofs.Short.{AreSmall, program_short, object_short}

-- what passes a test is small, and not more
small_filter : (test : ℕ → Bool) (ks : List ℕ) → AreSmall ks → AreSmall (filter test ks)
unfolding AreSmall
small_filter test [] small = tt
small_filter test (k ∷ ks) (here, rest) =
    elim (cases_Bool (test k)) [
      | inl passes ↦ rw passes (here, small_filter test ks rest)
      | inr fails ↦ rw fails (small_filter test ks rest)
    ]

few_filter : (test : ℕ → Bool) (ks : List ℕ) → length (filter test ks) ≤ length ks
few_filter test [] = omega arith
few_filter test (k ∷ ks) =
    let rest = few_filter test ks in
    elim (cases_Bool (test k)) [
      | inl passes ↦ rw passes (omega (arith, rest))
      | inr fails ↦ rw fails (omega (arith, rest))
    ]

all_small : AreSmall all_by_name
unfolding numbers_from all_by_name AreSmall
all_small = search rules

all_few : length all_by_name ≡ 100
unfolding numbers_from all_by_name
all_few = refl

pub missions_short : MadeTextsAreShort
unfolding mission_text certificate_text flight_text by_name
missions_short n seed few small =
    let order = by_name n in
    let fits : seed < 2 ^ 64 = omega arith in
    let are = small_filter (λ k. nat_lt k n) all_by_name all_small in
    let count = few_filter (λ k. nat_lt k n) all_by_name in
    let hundred : length order ≤ 100 = omega (arith, count, all_few) in
    let p = program_short n seed few in
    let a = object_short Cells seed order fits are hundred in
    let b = object_short Crew seed order fits are hundred in
    let c = object_short Start seed order fits are hundred in
    let d = object_short Sway seed order fits are hundred in
    simp length-append (omega (arith, p, a, b, c, d))
