-- What a sink has taken of a text that was put into a new spool over it.
use Rattle.std.proofs.Common.{◌≡◌, ℕ, List, [], Option, inl, inr, length, sym, ap, subst, arith}
use Rattle.std.proofs.lemmas.List.{length-append, nil_from_length}
use Rattle.std.specs.Io.KnownBytes.{Appends}
use Rattle.sot_text_output.specs.declared.spool.Spool.{Spool}
use Rattle.sot_text_output.specs.Spools.{Spooling, IsSpooled, Arrives, ArrivesInPart}
use Rattle.sot_text_output.specs.SpoolViews.{spooling, Puts}
use Rattle.sot_guard_program.specs.Moments.{Mouth, Utters, mouth}
use Rattle.sot_guard_program.specs.Hearing.{CutsOff}
use Rattle.sot_guard_program.specs.Tellings.{Tells, TellsPut}

-- where nothing was put, the sink has taken nothing, without a fault
taken_nothing : (h : Option (List ℕ)) (n : ℕ) (s : Spooling) → IsSpooled h n s [] → Utters (mouth h n) (mouth s.held s.faults) []
taken_nothing h n s (inl (well, (same, (sent, taken, is)))) =
    let long = ap length is in
    let none = nil_from_length sent (omega (arith, long, length-append sent s.waiting)) in
    record { taken = subst (Appends h s.held) none taken; well = same }
taken_nothing h n s (inr (bad, (rose, (sent, rest, some, taken, is)))) =
    let long = ap length is in
    absurd (omega (arith, long, some, length-append sent rest))

module _ {K : Type 0} (held : K → Option (List ℕ)) (faults : K → ℕ) (sink : K) (new full : Spool K)
    (is_new : IsSpooled (held sink) (faults sink) (spooling held faults new) []) where
  abbrev at_sink : K → Mouth
  at_sink last = mouth (held last) (faults last)

  module _ (text : List ℕ) (puts : Puts held faults new full text) where
    spooled : IsSpooled (held sink) (faults sink) (spooling held faults full) text
    spooled = puts.1 (held sink) (faults sink) [] is_new

    module _ (ended : Spool K) (last : K) (same : last ≡ ended.sink.now) where
      -- all of it has arrived
      pub spool_took : ((h : Option (List ℕ)) (n : ℕ) (put : List ℕ) → IsSpooled h n (spooling held faults full) put
          → Arrives h n (spooling held faults ended) put) → Utters (at_sink sink) (at_sink last) text
      spool_took ends =
          let all = ends (held sink) (faults sink) text spooled in
          subst (λ (k : K). Utters (at_sink sink) (at_sink k) text) (sym same) (record { taken = all.1; well = all.0 })

      -- the sink has failed
      pub spool_cut : ((h : Option (List ℕ)) (n : ℕ) (put : List ℕ) → IsSpooled h n (spooling held faults full) put
          → ArrivesInPart h n (spooling held faults ended) put) → CutsOff (at_sink sink) (at_sink last) text
      spool_cut ends =
          let part = ends (held sink) (faults sink) text spooled in
          subst (λ (k : K). CutsOff (at_sink sink) (at_sink k) text) (sym same) part

      -- it is told with a status
      pub spool_told : (said status : ℕ) → TellsPut held faults full ended said status → Tells said text (at_sink sink) (at_sink last) status
      spool_told said status tells =
          subst (λ (k : K). Tells said text (at_sink sink) (at_sink k) status) (sym same) (tells (held sink) (faults sink) text spooled)

  -- nothing was put, and the spool was not ended
  pub spool_unused : Puts held faults new full [] → (last : K) → last ≡ full.sink.now → Utters (at_sink sink) (at_sink last) []
  spool_unused puts last same =
      subst (λ (k : K). Utters (at_sink sink) (at_sink k) []) (sym same)
      (taken_nothing (held sink) (faults sink) (spooling held faults full) (puts.1 (held sink) (faults sink) [] is_new))
