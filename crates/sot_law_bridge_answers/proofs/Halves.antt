-- The two missions of one text, each of which soter would refuse alike.
use Rattle.std.proofs.Common.{◌≡◌, ◌∙◌, ℕ, List, inl, inr, ap, subst}
use Rattle.std.specs.Prelude.{◌⊎◌}
use Rattle.sot_lang.specs.declared.cert.Cert.{Cert}
use Rattle.sot_lang.specs.Tables.{Tables}
use Rattle.sot_tube.specs.Certified.{IsWellCertified}
use Rattle.sot_tube.specs.Verdict.{verdict}
use Rattle.sot_report.specs.RefusalTexts.{refusal_text}
use Rattle.sot_cli.specs.Starts.{IsOutsideLine}
use Rattle.sot_commands.specs.declared.words.Command.TheVariants.{Fly}
use Rattle.sot_commands.specs.Answers as soter
use Rattle.sot_commands.proofs.OneAnswer.{refuted_once}
use Rattle.sot_bridge.specs.Answers.{Side, SpellsSide, IsAccepted, IsRefused, IsOutside}

-- a mission is not flown, and this is said
abbrev pub IsStopped : Side → List ℕ → Type 0
IsStopped s line = IsRefused s line ⊎ (IsAccepted s × IsOutside s line)

-- soter says the same of its text
pub stopped_alone : (half : List ℕ) (s : Side) (line : List ℕ) → SpellsSide half s → IsStopped s line → soter.Refutes 0 Fly half line
stopped_alone half s line (m, x, tables, cert, flight) (inl (r, refuses, is)) =
    let here = subst (λ (t : Tables). (verdict t m.cert.jitter m.cert).Refuses r) tables
    (subst (λ (c : Cert). (verdict s.tables c.jitter c).Refuses r) cert refuses) in
    (m, x, inl (r, here, is ∙ ap (λ (t : Tables). refusal_text t r) tables))
stopped_alone half s line (m, x, tables, cert, flight) (inr (certified, outside)) =
    let here = subst (λ (t : Tables). IsWellCertified t m.cert.jitter m.cert) tables
    (subst (λ (c : Cert). IsWellCertified s.tables c.jitter c) cert certified) in
    (m, x, inr (here, (s.plan, flight, subst (λ (t : Tables). IsOutsideLine t s.plan.start line) tables outside)))

-- so one line is said of it
pub stopped_once : (half : List ℕ) (s t : Side) (x y : List ℕ) → SpellsSide half s → SpellsSide half t → IsStopped s x → IsStopped t y → x ≡ y
stopped_once half s t x y spells spells' stopped stopped' =
    refuted_once 0 Fly half x y tt (stopped_alone half s x spells stopped) (stopped_alone half t y spells' stopped')
