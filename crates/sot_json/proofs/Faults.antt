-- A fault seen from above, and bytes that are no JSON.
use Rattle.std.proofs.Common.{◌≡◌, ℕ, List, Err, refl, sym, ap, ◌∙◌, Bool, true, false, Option, Some, None, IsUtf8}
use Rattle.std.specs.Str.{is_utf8}
use Rattle.std.proofs.lemmas.Str.{IsUtf8-from_is_utf8, is_utf8-from_IsUtf8}
use Rattle.serde_json.specs.Data.{Data}
use Rattle.serde_json.specs.Read.{read}
use Rattle.sot_json.specs.declared.fault.JsonFail.{JsonFail}
use Rattle.sot_json.specs.declared.fault.JsonFail.TheVariants as fails
use Rattle.sot_json.specs.declared.fault.JsonKind.TheVariants.{Missing}
use Rattle.sot_json.specs.Says.{Says, ◌>>=◌, or, under, part}
use Rattle.sot_json.specs.Json.{json_of, optional}
use Rattle.sot_json.specs.Answers.{Fails, IsUnder, IsHere}

pub part_fails : {A B : Type 0} (e r : JsonFail) (name : List ℕ) (says : Says A) (f : A → Says B) → IsUnder name e r → Fails e says
    → Fails r (part name says >>= f)
part_fails e fails.Memory name says f below at = tt
part_fails (fails.Fault g) (fails.Fault h) name says f below at = rw at (ap Err (sym below))
part_fails fails.Memory (fails.Fault h) name says f below at = absurd below

pub at_fails : {A : Type 0} (e r : JsonFail) (name : List ℕ) (f : Data → Says A) (d : Data) (o : Option Data) → o ≡ Some d → IsUnder name e r → Fails e (f d)
    → Fails r (part name (or Missing o >>= f))
at_fails e fails.Memory name f d o is below h = tt
at_fails (fails.Fault g) (fails.Fault k) name f d o is below h = rw (is, h) (ap Err (sym below))
at_fails fails.Memory (fails.Fault k) name f d o is below h = absurd below

pub at_missing : {A : Type 0} (e r : JsonFail) (name : List ℕ) (f : Data → Says A) (o : Option Data) → o ≡ None → IsUnder name e r → IsHere Missing e
    → Fails r (part name (or Missing o >>= f))
at_missing e fails.Memory name f o is below h = tt
at_missing (fails.Fault g) (fails.Fault k) name f o is below h = rw is (ap Err (ap (under name) (sym h) ∙ sym below))
at_missing fails.Memory (fails.Fault k) name f o is below h = absurd below

pub may_fails : {A : Type 0} (e r : JsonFail) (name : List ℕ) (f : Data → Says A) (d : Data) (o : Option Data) → o ≡ Some d → IsUnder name e r → Fails e (f d)
    → Fails r (part name (optional f o))
may_fails e fails.Memory name f d o is below h = tt
may_fails (fails.Fault g) (fails.Fault k) name f d o is below h = rw (is, h) (ap Err (sym below))
may_fails fails.Memory (fails.Fault k) name f d o is below h = absurd below

pub is_json : (bytes : List ℕ) (d : Data) → IsUtf8 bytes × (read bytes ≡ Some d) → json_of bytes ≡ Some d
is_json bytes d h = rw (is_utf8-from_IsUtf8 bytes h.0) h.1

no_json_at : (b : Bool) (bytes : List ℕ) → is_utf8 bytes ≡ b → (IsUtf8 bytes → read bytes ≡ None) → json_of bytes ≡ None
no_json_at true bytes is h = rw is (h (IsUtf8-from_is_utf8 bytes is))
no_json_at false bytes is h = rw is refl

pub no_json : (bytes : List ℕ) → (IsUtf8 bytes → read bytes ≡ None) → json_of bytes ≡ None
no_json bytes h = no_json_at _ bytes refl h
