-- The line that says why there is no certificate.
use Rattle.std.specs.Prelude.{ℕ, Bool, true, false, List, [], ◌++◌, codes}
use Rattle.sot_lang.specs.Tables.{Tables}
use Rattle.sot_rta.specs.Refused.{refusal_view}
use Rattle.sot_lang.specs.Names.{module_name}
use Rattle.sot_report.specs.Pieces.{line, point_text}
use Rattle.sot_report.specs.RefusalTexts.{refusal_text}
use Rattle.sot_certify.specs.declared.fail.CertifyFail.{CertifyFail}
use Rattle.sot_certify.specs.declared.fail.CertifyFail.TheVariants.{Refused, Point, TooMany, Memory}

abbrev pub list_word : Bool → List ℕ
list_word false = codes "closed"
list_word true = codes "reach"

-- `refused certify module NAME closed`, or the same with `reach`, which goes on
abbrev pub of_list : Tables → ℕ → Bool → List ℕ
of_list t m reach =
    codes "refused certify module " ++ module_name t m ++ codes " " ++ list_word reach

-- the refusal's own line; the list and its failing point; the list and `TooMany`. Want of memory
-- has no line
abbrev pub fail_text : Tables → CertifyFail → List ℕ
fail_text t (Refused r) = refusal_text t (refusal_view r)
fail_text t (Point m reach s) = line (of_list t m reach ++ codes " point " ++ point_text s)
fail_text t (TooMany m reach) = line (of_list t m reach ++ codes " TooMany")
fail_text t Memory = []
