-- What goes over one step after another.
use Rattle.std.proofs.Common.{ℕ, ◌+◌, List, [], ◌++◌, inl, inr, length, take, refl, sym, ap, ◌∙◌, subst, append-nil, arith}
use Rattle.std.specs.Prelude.{◌≢◌}
use Rattle.std.proofs.lemmas.List.{length-append}
use Rattle.std.proofs.Math.Seq.{take-append-add}
use Rattle.std.proofs.KnownBytes.{Appends-nil, Appends-trans}
use Rattle.std.specs.Io.KnownBytes.{Appends}
use Rattle.sot_ports.specs.Faults.{Rose}
use Rattle.sot_guard_input.proofs.Pieces.{reads_nil, reads_trans}
use Rattle.sot_guard_program.specs.Moments.{Ears, Mouth, Passes, Utters, Ended}
use Rattle.sot_guard_program.specs.Tellings.{Tells, IsQuiet}

pub passes_nil : (e : Ears) → Passes e e []
passes_nil e = record { reads = reads_nil e.left e.waiting; well = refl }

pub passes_trans : (e f g : Ears) (p q : List ℕ) → Passes e f p → Passes f g q → Passes e g (p ++ q)
passes_trans e f g p q first second = record {
  reads = reads_trans e.left f.left g.left e.waiting f.waiting g.waiting p q first.reads second.reads;
  well = second.well ∙ first.well;
}

pub utters_nil : (x : Mouth) → Utters x x []
utters_nil x = record { taken = Appends-nil x.held; well = refl }

pub utters_trans : (x y z : Mouth) (s t : List ℕ) → Utters x y s → Utters y z t → Utters x z (s ++ t)
utters_trans x y z s t first second = record {
  taken = Appends-trans x.held y.held z.held s t first.taken second.taken;
  well = second.well ∙ first.well;
}

-- nothing was written behind a text
pub utters_same : (x y z : Mouth) (text : List ℕ) → Utters x y text → Utters y z [] → Utters x z text
utters_same x y z text first nothing = subst (Utters x z) (append-nil text) (utters_trans x y z text [] first nothing)

-- a text was written behind another
pub written_behind : (x z y : Mouth) (t text : List ℕ) (said status : ℕ) → Utters x z t → Tells said text z y status → Tells said (t ++ text) x y status
written_behind x z y t text said status before (inl (is, well, taken)) =
    inl (is, well ∙ before.well, Appends-trans x.held z.held y.held t text before.taken taken)
written_behind x z y t text said status before (inr (is, rose, (n, below, taken))) = inr (
  is,
  subst (λ k. Rose k y.faults) before.well rose,
  (
    length t + n,
    omega (arith, below, length-append t text),
    subst (Appends x.held y.held) (sym (take-append-add t text n)) (Appends-trans x.held z.held y.held t (take n text) before.taken taken),
  ),
)

-- a call that goes on behind what went over before
pub ended_behind : (P Q : Ears → ℕ → List ℕ → List ℕ → Type 0) (e m f : Ears) (x z y : Mouth) (p t : List ℕ) (status : ℕ) → Passes e m p → Utters x z t
    → ((said : ℕ) (bytes text : List ℕ) → P f said bytes text → Q f said (p ++ bytes) (t ++ text)) → Ended P m f z y status → Ended Q e f x y status
ended_behind P Q e m f x z y p t status passes utters more r = record {
  passed = p ++ r.passed;
  said = r.said;
  text = t ++ r.text;
  reads = reads_trans e.left m.left f.left e.waiting m.waiting f.waiting p r.passed passes.reads r.reads;
  says = more r.said r.passed r.text r.says;
  written = written_behind x z y t r.text r.said status utters r.written;
  read_well = λ other. r.read_well other ∙ passes.well;
  read_fault = λ is. subst (λ k. Rose k f.faults) passes.well (r.read_fault is);
}

-- a call that says the same in other words
pub ended_so : (P Q : Ears → ℕ → List ℕ → List ℕ → Type 0) (e f : Ears) (x y : Mouth) (status : ℕ)
    → ((said : ℕ) (bytes text : List ℕ) → P f said bytes text → Q f said bytes text) → Ended P e f x y status → Ended Q e f x y status
ended_so P Q e f x y status other r = record {
  passed = r.passed;
  said = r.said;
  text = r.text;
  reads = r.reads;
  says = other r.said r.passed r.text r.says;
  written = r.written;
  read_well = r.read_well;
  read_fault = r.read_fault;
}

-- a text is told with another status than 4, and no byte was passed behind so many
pub ended_well : (P : Ears → ℕ → List ℕ → List ℕ → Type 0) (e f : Ears) (x y : Mouth) (passed text : List ℕ) (said status : ℕ) → Passes e f passed
    → status ≢ 4 → P f said passed text → Tells said text x y status → Ended P e f x y status
ended_well P e f x y passed text said status passes other says told = record {
  passed = passed;
  said = said;
  text = text;
  reads = passes.reads;
  says = says;
  written = told;
  read_well = λ _. passes.well;
  read_fault = λ is. absurd (other is);
}

told_well : (said : ℕ) (text : List ℕ) (x y : Mouth) (status : ℕ) → said ≢ 4 → Tells said text x y status → status ≢ 4
told_well said text x y status other (inl (is, well, taken)) = λ four. absurd (other (sym is ∙ four))
told_well said text x y status other (inr (five, rose, part)) = λ four. absurd (omega (arith, five, four))

-- a text is told that belongs to another status than 4
pub ended_told : (P : Ears → ℕ → List ℕ → List ℕ → Type 0) (e f : Ears) (x y : Mouth) (passed text : List ℕ) (said status : ℕ) → Passes e f passed
    → said ≢ 4 → P f said passed text → Tells said text x y status → Ended P e f x y status
ended_told P e f x y passed text said status passes other says told =
    ended_well P e f x y passed text said status passes (told_well said text x y status other told) says told

-- nothing is told
pub ended_quiet : (P : Ears → ℕ → List ℕ → List ℕ → Type 0) (e f : Ears) (x y : Mouth) (passed : List ℕ) (status : ℕ) → Passes e f passed
    → P f 6 passed [] → IsQuiet 6 x y status → Ended P e f x y status
ended_quiet P e f x y passed status passes says quiet =
    ended_told P e f x y passed [] 6 status passes (omega arith) says
    (inl (quiet.0, ap (λ m. m.faults) quiet.1, subst (λ m. Appends x.held m.held []) (sym quiet.1) (Appends-nil x.held)))
