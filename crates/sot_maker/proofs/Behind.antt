-- Texts behind one another.
use Rattle.std.proofs.Common.{◌≡◌, ℕ, List, ◌++◌, append_assoc, is_ok, Result, Ok, Err, OnOk}
use Rattle.std.specs.Prelude.{if◌then◌else◌}

-- a text with an object, and a last text
pub one_object : {T E : Type 0} (r : Result T E) (old one new a x z : List ℕ) → one ≡ old ++ (a ++ x) → new ≡ (if is_ok r then one ++ z else one)
    → OnOk r (new ≡ old ++ (a ++ (x ++ z)))
one_object (Ok t) old one new a x z is last = rw (last, is) (simp append_assoc)
one_object (Err e) old one new a x z is last = tt

-- three of them, and a last text
pub three_objects : {T E : Type 0} (r : Result T E) (old one two three new a x b y c w z : List ℕ) → one ≡ old ++ (a ++ x) → two ≡ one ++ (b ++ y)
    → three ≡ two ++ (c ++ w)
    → new ≡ (if is_ok r then three ++ z else three) → OnOk r (new ≡ old ++ (a ++ (x ++ (b ++ (y ++ (c ++ (w ++ z)))))))
three_objects (Ok t) old one two three new a x b y c w z is_one is_two is_three last = rw (last, is_three, is_two, is_one) (simp append_assoc)
three_objects (Err e) old one two three new a x b y c w z is_one is_two is_three last = tt
