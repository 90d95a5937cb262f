-- What is looked at of a line, from what is kept of its pieces.
use Rattle.std.proofs.Common.{◌≡◌, ◌≢◌, ℕ, ℤ, Bool, true, List, [], ◌∷◌, Option, Some, None, ◌<◌, length, get_or, codes, refl, sym, ap, subst, ◌∙◌}
use Rattle.std.specs.Prelude.{slice_get}
use Rattle.std.proofs.lemmas.Option.{slice_get_read}
use Rattle.sot_lang.specs.declared.tables.PlantInfo.{PlantInfo}
use Rattle.sot_lang.specs.Tables.{Tables}
use Rattle.sot_lang.specs.TableRules.{MeetsTableRules}
use Rattle.sot_trace.specs.Words.{AreWords}
use Rattle.sot_trace_lines.specs.declared.line.Line.{Line}
use Rattle.sot_trace_lines.specs.Pieces.{◌>>=◌, behind, at_end}
use Rattle.sot_trace_lines.specs.Spelled.{Spelled}
use Rattle.sot_trace_lines.specs.Shown.{Holds, Shows}
use Rattle.sot_trace_lines.specs.Kept.{Kept, put_all, kept_row, ShowsRead}
use Rattle.sot_trace_lines.proofs.Pieces.{parts_same, then_next}
use Rattle.sot_trace_lines.proofs.KeptNumbers.{holds_all}
use Rattle.sot_guard_lines.specs.declared.said.Said.{Said}
use Rattle.sot_guard_lines.specs.Sayings.{Saying}
use Rattle.sot_guard_lines.specs.Shown.{ShowsSaid, AnswersSaid}
use Rattle.sot_guard_lines.specs.Readers.{plant_named, start_of, said_at, ShowsReadSaid}
use Rattle.sot_guard_lines.proofs.Sayings.{said_from, read_saying}

pub nothing : (list : List ℤ) (o : Option Saying) → o ≡ None → ShowsReadSaid list None o
nothing list o none = subst (ShowsReadSaid list None) (sym none) tt

pub something : (list : List ℤ) (l : Said) (s : Saying) (o : Option Saying) → o ≡ Some s → ShowsSaid l list s → ShowsReadSaid list (Some l) o
something list l s o is shows = subst (ShowsReadSaid list (Some l)) (sym is) shows

-- nothing behind the last piece
ended : (x : Saying) (rest : List ℕ) → rest ≡ [] → at_end x rest ≡ Some x
ended x rest none = ap (at_end x) none

not_ended : (x : Saying) (rest : List ℕ) → rest ≢ [] → at_end x rest ≡ None
not_ended x [] some = absurd (some refl)
not_ended x (b ∷ bs) some = refl

-- numbers to the end of the line
pub row_shown : (list : List ℤ) (whole : Bool) (rest : List ℕ) (f : List ℤ → Saying) (l : Said) (o : Option (List ℤ × List ℕ))
    → kept_row ([], true) o ≡ Some ((list, whole), rest) → rest ≡ []
    → ((v : List ℤ) → Holds whole list v → ShowsSaid l list (f v)) → ShowsReadSaid list (Some l) (o >>= λ x. at_end (f x.0) x.1)
row_shown list whole rest f l None e none shows = absurd cc
row_shown list whole rest f l (Some (v, r)) e none shows =
    let same = parts_same (put_all ([], true) v) (list, whole) r rest e in
    something list l (f v) (at_end (f v) r) (ended (f v) r (same.1 ∙ none)) (shows v (holds_all list v whole same.0))

-- .. and more behind them
pub row_goes_on : (kept next : Kept) (rest : List ℕ) (f : List ℤ → Saying) (o : Option (List ℤ × List ℕ)) → kept_row kept o ≡ Some (next, rest) → rest ≢ []
    → (o >>= λ x. at_end (f x.0) x.1) ≡ None
row_goes_on kept next rest f None e some = refl
row_goes_on kept next rest f (Some (v, r)) e some =
    (let same = parts_same (put_all kept v) next r rest e in not_ended (f v) r (λ none. some (sym same.1 ∙ none)))

-- .. or no such numbers
pub row_missing : (kept : Kept) (f : List ℤ × List ℕ → Option Saying) (o : Option (List ℤ × List ℕ)) → kept_row kept o ≡ None → (o >>= f) ≡ None
row_missing kept f None e = refl
row_missing kept f (Some v) e = absurd cc

-- what is read is the answer
pub answers : (p : Tables) (line : List ℕ) (list : List ℤ) (l : Option Said) (o : Option Saying) → MeetsTableRules p → AreWords p → said_at p line ≡ o
    → ShowsReadSaid list l o → AnswersSaid p line list l
answers p line list (Some l) (Some s) rules words is shows = (s, said_from p line s is, shows)
answers p line list None None rules words is shows = λ s said. (let never : None ≡ Some s = sym is ∙ read_saying p rules words line s said in absurd cc)
answers p line list (Some l) None rules words is shows = absurd shows
answers p line list None (Some s) rules words is shows = absurd shows

-- what a line of a trace shows, taken on
pub taken_on : (f : Spelled → Option Saying) (list : List ℤ) (line : Line) (r : Option Said) (o : Option Spelled) → ShowsRead list (Some line) o
    → ((s : Spelled) → Shows line list s → ShowsReadSaid list r (f s)) → ShowsReadSaid list r (o >>= f)
taken_on f list line r (Some s) shows some = some s shows
taken_on f list line r None shows some = absurd shows

-- .. and no line
pub none_taken : (f : Spelled → Option Saying) (list : List ℤ) (o : Option Spelled) → ShowsRead list None o → ShowsReadSaid list None (o >>= f)
none_taken f list (Some s) shows = absurd shows
none_taken f list None shows = tt

-- a start of the plant of this word
abbrev pub start_in : Tables → List ℕ × List ℕ → Option Saying
start_in p w = plant_named p w.0 >>= λ k. slice_get p.plants k >>= λ plant. behind (codes "(") w.1 >>= start_of k plant

pub start_is : (p : Tables) (k : ℕ) (name rest inner : List ℕ) (plant : PlantInfo) (w : List ℕ × List ℕ) → w ≡ (name, rest) → plant_named p name ≡ Some k
    → k < length p.plants → plant ≡ get_or p.plants k plant → behind (codes "(") rest ≡ Some inner
    → start_in p w ≡ start_of k plant inner
start_is p k name rest inner plant w word named lt is opens =
    ap (start_in p) word
    ∙ then_next (plant_named p name) (λ n. slice_get p.plants n >>= λ i. behind (codes "(") rest >>= start_of n i) k named
    ∙ then_next (slice_get p.plants k) (λ i. behind (codes "(") rest >>= start_of k i) plant (slice_get_read p.plants (length p.plants) k plant refl lt is)
    ∙ then_next (behind (codes "(") rest) (start_of k plant) inner opens
