-- A text that was written through a spool, and one behind it.
use Rattle.std.proofs.Common.{◌≡◌, ℕ, ◌+◌, ◌<◌, List, [], ◌++◌, Option, Ok, inl, inr, length, take, refl, sym, ◌∙◌, subst, arith}
use Rattle.std.proofs.lemmas.List.{length-append, take-append-le}
use Rattle.std.proofs.Math.Seq.{take-append-add}
use Rattle.std.specs.Io.KnownBytes.{Appends}
use Rattle.std.proofs.KnownBytes.{Appends-trans}
use Rattle.sot_ports.specs.Faults.{Rose}
use Rattle.sot_ports.specs.Outside.{Written}
use Rattle.sot_text_output.specs.Spools.{IsSpooled, Arrives, ArrivesInPart}
use Rattle.sot_text_output.specs.declared.spool.Spool.{Spool}
use Rattle.sot_text_output.specs.SpoolViews.{spooling, Puts}
use Rattle.sot_cli.specs.declared.answer.Answer.{Answer}
use Rattle.sot_commands.specs.Steps.{SaysInAll}

-- all of the first was taken, and of the second all, or a front
written_behind : (held between after : Option (List ℕ)) (faults calm faults_after said : ℕ) (front text : List ℕ) (status : ℕ) → calm ≡ faults
    → Appends held between front → Written between after calm faults_after said text status
    → Written held after faults faults_after said (front ++ text) status
written_behind held between after faults calm faults_after said front text status same arrived (inl (is, stays, wrote)) =
    inl (is, stays ∙ same, Appends-trans held between after front text arrived wrote)
written_behind held between after faults calm faults_after said front text status same arrived (inr (five, rose, (n, less, wrote))) =
    let long = length-append front text in
    inr (
      five,
      subst (λ (k : ℕ). Rose k faults_after) same rose,
      (
        length front + n,
        omega (arith, long, less),
        subst (Appends held after) (sym (take-append-add front text n)) (Appends-trans held between after front (take n text) arrived wrote),
      ),
    )

-- a front of the first was taken, and nothing of the second
cut_before : (held after : Option (List ℕ)) (faults faults_after said : ℕ) (front text : List ℕ) → Rose faults faults_after
    → (n : ℕ) × (n < length front) × Appends held after (take n front) → Written held after faults faults_after said (front ++ text) 5
cut_before held after faults faults_after said front text rose (n, less, wrote) =
    let long = length-append front text in
    inr (refl, rose, (n, omega (arith, long, less), subst (Appends held after) (sym (take-append-le n front text (omega (arith, less)))) wrote))

-- what was put into a new spool over a sink, which has ended, and the answer that was written behind it
module _ {K : Type 0} (held : K → Option (List ℕ)) (faults : K → ℕ) (sink : K) (new full ended : Spool K) (a : Answer) (P : ℕ → List ℕ → Type 0)
    (is_new : IsSpooled (held sink) (faults sink) (spooling held faults new) []) (says : SaysInAll (Puts held faults) new full (Ok a) P) where
  abbrev Wrote : K → ℕ → Type 0
  Wrote last status = (text : List ℕ) × P a.status text × Written (held sink) (held last) (faults sink) (faults last) a.status text status

  pub spool_took : ((h : Option (List ℕ)) (n : ℕ) (text : List ℕ) → IsSpooled h n (spooling held faults full) text
      → Arrives h n (spooling held faults ended) text)
      → (last after : K) (status : ℕ) → last ≡ ended.sink.now
      → Written (held last) (held after) (faults last) (faults after) a.status a.text.items status → Wrote after status
  spool_took ends last after status same written = by says
    where
      by : SaysInAll (Puts held faults) new full (Ok a) P → Wrote after status
      by (front, (name, grows), holds) =
          let arrived = ends (held sink) (faults sink) front (grows (held sink) (faults sink) [] is_new) in (
            front ++ a.text.items,
            holds,
            written_behind (held sink) (held last) (held after) (faults sink) (faults last) (faults after) a.status front a.text.items status
                (subst (λ (k : K). faults k ≡ faults sink) (sym same) arrived.0) (subst (λ (k : K). Appends (held sink) (held k) front) (sym same) arrived.1)
                written,
          )

  pub spool_failed : ((h : Option (List ℕ)) (n : ℕ) (text : List ℕ) → IsSpooled h n (spooling held faults full) text
      → ArrivesInPart h n (spooling held faults ended) text)
      → (last : K) → last ≡ ended.sink.now → Wrote last 5
  spool_failed ends last same = by says
    where
      by : SaysInAll (Puts held faults) new full (Ok a) P → Wrote last 5
      by (front, (name, grows), holds) =
          let part = ends (held sink) (faults sink) front (grows (held sink) (faults sink) [] is_new) in (
            front ++ a.text.items,
            holds,
            subst (λ (k : K). Written (held sink) (held k) (faults sink) (faults k) a.status (front ++ a.text.items) 5) (sym same)
                (cut_before (held sink) (held ended.sink.now) (faults sink) (faults ended.sink.now) a.status front a.text.items part.0 part.1),
          )
