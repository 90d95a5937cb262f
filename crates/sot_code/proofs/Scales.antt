-- Changes of scale, and calls, as the code makes them.
use Rattle.std.proofs.Common.{◌≡◌, ℕ, ◌-◌, ◌^◌, ◌/◌, ◌≤◌, ◌*ℤ◌, ℤ, pos, negsuc, ap, arith}
use Rattle.std.proofs.lemmas.Int.{ints}
use Rattle.sot_text.specs.declared.token.Span.{Span}
use Rattle.sot_lang.specs.Values.{word, floor_by, rescaled}

floor_by-one : (z : ℤ) → floor_by z 1 ≡ z
floor_by-one (pos a) = (let e : a / 1 ≡ a = omega arith in ap pos e)
floor_by-one (negsuc a) = (let e : a / 1 ≡ a = omega arith in ap negsuc e)

pub rescaled_up : (at : Span) (from to : ℕ) (a : ℤ) → from ≤ to → rescaled at from to a ≡ word at (a *ℤ pos (10 ^ (to - from)))
rescaled_up at from to a le =
    let e : from - to ≡ 0 = omega arith in
    rw e (ap (word at) (floor_by-one (a *ℤ pos (10 ^ (to - from)))))

pub rescaled_down : (at : Span) (from to : ℕ) (a : ℤ) → to ≤ from → rescaled at from to a ≡ word at (floor_by a (10 ^ (from - to)))
rescaled_down at from to a le =
    let e : to - from ≡ 0 = omega arith in
    let one : a *ℤ pos 1 ≡ a = omega (arith, ints) in
    rw e (ap (λ z. word at (floor_by z (10 ^ (from - to)))) one)
