-- How what was put grows, by what a call did to the buffer and to the sink.
use Rattle.std.proofs.Common.{◌≡◌, ℕ, ◌<◌, Bool, true, false, inl, inr, List, [], ◌++◌, Option, length, refl, sym, ap, ◌∙◌, subst, arith, append_assoc}
use Rattle.std.proofs.Common.{append-nil, take}
use Rattle.std.proofs.lemmas.Bool.{true≢false}
use Rattle.std.proofs.lemmas.List.{length-append}
use Rattle.std.proofs.Math.Seq.{take-append_seam}
use Rattle.std.specs.Io.KnownBytes.{Appends}
use Rattle.std.proofs.KnownBytes.{Appends-trans}
use Rattle.sot_ports.specs.Faults.{Rose}
use Rattle.sot_text_output.specs.Spools.{Spooling, Waits, IsCutOff, IsSpooled, Sends, Gives, Grows, Arrives, ArrivesInPart}

-- once a text is cut off it stays so, whatever is put
cut_off_more : (a b : Spooling) (held : Option (List ℕ)) (faults : ℕ) (text more : List ℕ) → b.held ≡ a.held → b.faults ≡ a.faults → IsCutOff held faults a text
    → IsCutOff held faults b (text ++ more)
cut_off_more a b held faults text more same_held same_faults cut =
    let sent = cut.1.0 in
    let rest = cut.1.1 in
    let some : 0 < length (rest ++ more) = (let long = length-append rest more in omega (arith, long, cut.1.2)) in (
      subst (λ n. Rose faults n) (sym same_faults) cut.0,
      (sent, rest ++ more, some, subst (λ o. Appends held o sent) (sym same_held) cut.1.3, ap (λ l. l ++ more) cut.1.4 ∙ append_assoc sent rest more),
    )

-- bytes were put behind those that wait
pub waits_more : (taken : Option (List ℕ)) (failed : ℕ) (waiting longer : List ℕ) (well : Bool) (more : List ℕ) → longer ≡ waiting ++ more
    → Grows (record { held = taken; faults = failed; waiting = waiting; is_well = well })
    (record { held = taken; faults = failed; waiting = longer; is_well = well }) more
waits_more taken failed waiting longer well more grown held faults text (inl was) =
    let sent = was.1.1.0 in
    inl (was.0, (was.1.0, (sent, was.1.1.1, ap (λ l. l ++ more) was.1.1.2 ∙ append_assoc sent waiting more ∙ ap (λ l. sent ++ l) (sym grown))))
waits_more taken failed waiting longer well more grown held faults text (inr was) = inr (
  was.0,
  cut_off_more (record { held = taken; faults = failed; waiting = waiting; is_well = well })
      (record { held = taken; faults = failed; waiting = longer; is_well = well }) held faults text more refl refl was.1,
)

-- nothing was put
pub waits_same : (taken : Option (List ℕ)) (failed : ℕ) (waiting same : List ℕ) (well : Bool) → same ≡ waiting
    → Grows (record { held = taken; faults = failed; waiting = waiting; is_well = well })
    (record { held = taken; faults = failed; waiting = same; is_well = well }) []
waits_same taken failed waiting same well is = waits_more taken failed waiting same well [] (is ∙ sym (append-nil waiting))

-- the sink was given all that waited, with what was put behind it
sent_more : (a b : Spooling) (bytes more : List ℕ) (all : Bool) → b.is_well ≡ all → Sends a.held a.faults b.held b.faults bytes all → b.waiting ≡ []
    → a.waiting ++ more ≡ bytes → (held : Option (List ℕ)) (faults : ℕ) (text : List ℕ) → Waits held faults a text → IsSpooled held faults b (text ++ more)
sent_more a b bytes more true is_well sends none is_bytes held faults text was =
    let sent = was.1.0 in
    inl (
      is_well,
      (
        sends.0 ∙ was.0,
        (
          sent ++ bytes,
          Appends-trans held a.held b.held sent bytes was.1.1 sends.1,
          ap (λ l. l ++ more) was.1.2 ∙ append_assoc sent a.waiting more ∙ ap (λ l. sent ++ l) is_bytes ∙ sym (append-nil (sent ++ bytes))
              ∙ ap (λ l. (sent ++ bytes) ++ l) (sym none),
        ),
      ),
    )
sent_more a b bytes more false is_well sends none is_bytes held faults text was =
    let sent = was.1.0 in
    let last = sends.1.0 in
    let rest = sends.1.1 in
    inr (
      is_well,
      (
        subst (λ n. Rose n b.faults) was.0 sends.0,
        (
          sent ++ last,
          rest,
          sends.1.2,
          Appends-trans held a.held b.held sent last was.1.1 sends.1.3,
          ap (λ l. l ++ more) was.1.2 ∙ append_assoc sent a.waiting more ∙ ap (λ l. sent ++ l) (is_bytes ∙ sends.1.4) ∙ sym (append_assoc sent last rest),
        ),
      ),
    )

-- the sink was given all that waited, with what was put behind it, if it had taken all before
pub given_more : (a b : Spooling) (bytes more : List ℕ) → Gives a.is_well a.held a.faults b.held b.faults bytes b.is_well → b.waiting ≡ []
    → a.waiting ++ more ≡ bytes → Grows a b more
given_more a b bytes more gives none is_bytes held faults text (inl was) =
    let sends : Sends a.held a.faults b.held b.faults bytes b.is_well =
    subst (λ w. Gives w a.held a.faults b.held b.faults bytes b.is_well) was.0 gives in
    sent_more a b bytes more b.is_well refl sends none is_bytes held faults text was.1
given_more a b bytes more gives none is_bytes held faults text (inr was) =
    let kept : (b.held ≡ a.held) × (b.faults ≡ a.faults) × (b.is_well ≡ false) =
    subst (λ w. Gives w a.held a.faults b.held b.faults bytes b.is_well) was.0 gives in
    inr (kept.2, cut_off_more a b held faults text more kept.0 kept.1 was.1)

-- all was handed on, and taken
pub all_arrives : (a b : Spooling) → Grows a b [] → b.waiting ≡ [] → b.is_well ≡ true
    → (held : Option (List ℕ)) (faults : ℕ) (text : List ℕ) → IsSpooled held faults a text → Arrives held faults b text
all_arrives a b grows none well held faults text was = arrives (grows held faults text was) where
  arrives : IsSpooled held faults b (text ++ []) → Arrives held faults b text
  arrives (inl now) =
      let whole = sym (now.1.1.2) ∙ append-nil text in
      let same = sym (append-nil now.1.1.0) ∙ ap (λ l. now.1.1.0 ++ l) (sym none) ∙ whole in
      (now.1.0, subst (λ l. Appends held b.held l) same now.1.1.1)
  arrives (inr now) = absurd (true≢false (sym well ∙ now.0))

-- the sink has failed
pub part_arrives : (a b : Spooling) → Grows a b [] → b.is_well ≡ false → (held : Option (List ℕ)) (faults : ℕ) (text : List ℕ) → IsSpooled held faults a text
    → ArrivesInPart held faults b text
part_arrives a b grows bad held faults text was = arrives (grows held faults text was) where
  arrives : IsSpooled held faults b (text ++ []) → ArrivesInPart held faults b text
  arrives (inl now) = absurd (true≢false (sym now.0 ∙ bad))
  arrives (inr now) =
      let sent = now.1.1.0 in
      let rest = now.1.1.1 in
      let whole : text ≡ sent ++ rest = sym (append-nil text) ∙ now.1.1.4 in
      let long = ap length whole ∙ length-append sent rest in
      let front : sent ≡ take (length sent) text = sym (take-append_seam sent rest) ∙ ap (take (length sent)) (sym whole) in
      (now.1.0, (length sent, omega (arith, long, now.1.1.2), subst (λ l. Appends held b.held l) front now.1.1.3))
