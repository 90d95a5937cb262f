-- The line of a certificate stands behind the text of its program.
use Rattle.std.proofs.Common.{◌≡◌, ℕ, zero, suc, true, [], ◌∷◌, ◌++◌, refl, ap}
use Rattle.sot_lang.specs.declared.cert.Cert.{Cert}
use Rattle.sot_lang.specs.Tables.{Tables}
use Rattle.serde_json.specs.Data.{Members}
use Rattle.serde_json.specs.Written.{compact_text}
use Rattle.sot_print.specs.Canonical.{canonical}
use Rattle.sot_certified_text.proofs.PlainTexts.{begins_plain, line_alone, line_plain}
use Rattle.sot_certified_text.proofs.Missions.{stand_behind}
use Rattle.sot_certified_text.proofs.TidyPrograms.{canonical_plain}
use Rattle.sot_certified_text.specs.CertText.{entries_data, jittered_data, data_with_jitter, certificate_line, line_with_jitter}
use Rattle.sot_certified_text.specs.Lines.{CertificateLinesArePlain, CertifiedTextsDivide, TextsWithJitterDivide}
use Rattle.sot_certified_text.proofs.JsonLines.{data_one_line}

begins_with_brace : (j : ℕ) (entries : Members) → begins_plain (compact_text (jittered_data j entries)) ≡ true
begins_with_brace zero entries = refl
begins_with_brace (suc j) entries = refl

pub lines_plain : CertificateLinesArePlain
lines_plain t cert =
    let one = data_one_line (data_with_jitter t cert) in (
      line_alone (compact_text (data_with_jitter t cert)) one,
      line_plain (compact_text (data_with_jitter t cert)) one (begins_with_brace cert.jitter (entries_data t.modules cert.modules.items)),
    )

pub jittered_texts_divide : TextsWithJitterDivide
jittered_texts_divide p t cert is =
    let plain = canonical_plain p is in
    stand_behind (canonical p) (line_with_jitter t cert) plain.0 plain.1 (lines_plain t cert).1

-- a certificate is written without jitter as with a jitter of 0
pub texts_divide : CertifiedTextsDivide
texts_divide p t cert = jittered_texts_divide p t (record cert { jitter = 0 })

-- the line of a certificate without jitter
pub without_jitter : (t : Tables) (cert : Cert) → cert.jitter ≡ 0 → line_with_jitter t cert ≡ certificate_line t cert
without_jitter t cert none = ap (λ j. compact_text (jittered_data j (entries_data t.modules cert.modules.items)) ++ 10 ∷ []) none
