-- What `certify` answers.
use Rattle.std.specs.Prelude.{◌≡◌, ℕ, ◌<◌, Bool, false, true, List, Result, Ok, Err, length}
use Rattle.sot_box.specs.Sides.{Side}
use Rattle.sot_lists.specs.Places.{At}
use Rattle.sot_lang.specs.declared.cert.Cells.{Cells}
use Rattle.sot_lang.specs.declared.cert.Cert.{Cert}
use Rattle.sot_lang.specs.declared.tables.ModuleInfo.{ModuleInfo}
use Rattle.sot_lang.specs.Tables.{Tables}
use Rattle.sot_tube.specs.Certified.{HasCells}
use Rattle.sot_rta.specs.Refused.{refusal_view}
use Rattle.sot_certify.specs.declared.fail.CertifyFail.{CertifyFail}
use Rattle.sot_certify.specs.declared.fail.CertifyFail.TheVariants.{Refused, Point, TooMany, Memory}
use Rattle.sot_certify.specs.Conditions.{without_cells}
use Rattle.sot_certify.specs.Made.{IsMade, FailsAt, HasTooMany, AreMade}

-- the certificate with both lists for each module, and with no jitter
pub record IsMadeFor (p : Tables) (cert : Cert) : Type 0 where
  pub jitter : cert.jitter ≡ 0
  pub entries : length cert.modules.items ≡ length p.modules
  pub cells : (m : ℕ) (a : ModuleInfo) → At p.modules m a
      → (cells : Cells) × HasCells cert m cells × AreMade p a cells

-- all lists before this one are made: both lists of each earlier module, and the closed cells
-- before the reach cells
pub record AreMadeBefore (p : Tables) (m : ℕ) (a : ModuleInfo) (reach : Bool) : Type 0 where
  pub is : At p.modules m a
  pub earlier : (i : ℕ) (b : ModuleInfo) (r : Bool) → i < m → At p.modules i b
      → (cells : List (List Side)) × IsMade p b r cells
  pub closed : reach ≡ true → (cells : List (List Side)) × IsMade p a false cells

-- why there is no certificate: a condition that speaks of no cells fails; or the first list that
-- cannot be made fails with a point, or has too many cells. Want of memory may come at any time
abbrev pub Fails : Tables → CertifyFail → Type 0
Fails p (Refused r) = (without_cells p).Refuses (refusal_view r)
Fails p (Point m reach s) =
    (without_cells p).Passes × (a : ModuleInfo) × AreMadeBefore p m a reach × FailsAt p a reach s
Fails p (TooMany m reach) =
    (without_cells p).Passes × (a : ModuleInfo) × AreMadeBefore p m a reach × HasTooMany p a reach
Fails p Memory = Unit {0}

abbrev pub Certifies : Tables → Result Cert CertifyFail → Type 0
Certifies p (Ok cert) = (without_cells p).Passes × IsMadeFor p cert
Certifies p (Err fail) = Fails p fail
