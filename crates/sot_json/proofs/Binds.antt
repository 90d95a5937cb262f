-- What stood before an answer that is no fault.
use Rattle.std.proofs.Common.{◌≡◌, ℕ, List, Bool, true, false, Ok, Err, refl}
use Rattle.sot_json.specs.declared.fault.JsonKind.{JsonKind}
use Rattle.sot_json.specs.Says.{Says, ◌>>=◌, unless, part}

pub bind_ok : {A B : Type 0} (says : Says A) (f : A → Says B) (y : B) → says >>= f ≡ Ok y → (x : A) × (says ≡ Ok x) × (f x ≡ Ok y)
bind_ok (Ok x) f y h = (x, refl, h)
bind_ok (Err e) f y h = cc

pub part_ok : {A : Type 0} (name : List ℕ) (says : Says A) (x : A) → part name says ≡ Ok x → says ≡ Ok x
part_ok name (Ok z) x h = h
part_ok name (Err e) x h = cc

pub unless_ok : (k : JsonKind) (b : Bool) (x : Bool) → unless k b ≡ Ok x → b ≡ true
unless_ok k true x h = refl
unless_ok k false x h = cc

abbrev pub told : {A : Type 0} → A → Says A
told x = Ok x

pub ok_same : {A : Type 0} (x y : A) → told x ≡ told y → x ≡ y
ok_same x y h = cc
