-- Talks that begin, and that stay safe.
use Rattle.std.proofs.Common.{ℕ, Bool, inl, length, sym, subst}
use Rattle.sot_lang.specs.TableRules.{MeetsTableRules}
use Rattle.sot_tube.specs.Admitted.{Admitted}
use Rattle.sot_tube.specs.Certified.{IsWellCertified}
use Rattle.sot_law_observed_runs.specs.Tubes.{KeepsTubes}
use Rattle.sot_guard.proofs.Holding.{held_starts_keep_tubes}
use Rattle.sot_guard_protocol.specs.Openings.{Starting}
use Rattle.sot_guard_protocol.specs.Talks.{Talking}
use Rattle.sot_guard_protocol.proofs.Conversing.{comes_back, talks_safe}
use Rattle.sot_guard_program.specs.Conversations.{Begins, StaysSafe}
use Rattle.sot_guard_program.specs.Moments.{Ears, Mouth, Ended}
use Rattle.sot_guard_program.specs.Says.{SaysBegun}
use Rattle.sot_guard_program.specs.Beginning.{SaysFrom, SaysOpened}
use Rattle.sot_guard_program.proofs.Passing.{ended_so}
use Rattle.sot_guard_program.proofs.Answering.{answers_heard}

-- a talk about an accepted program's plants, each held safe by the first commands, stays safe
pub stays_safe : (time : ℕ) (a : Starting) (t : Talking) → MeetsTableRules a.accepted.program
    → IsWellCertified a.accepted.program a.accepted.cert.jitter a.accepted.cert → Begins time a t → StaysSafe t
stays_safe time a t rules certified begins lines u text answers trusted =
    let heard = answers_heard t u lines text answers in
    let same = sym begins.accepted in
    let tubes = held_starts_keep_tubes a.accepted.program a.accepted.cert time a.starts t.hearing.guarding.at rules certified begins.opening begins.held in
    let back = comes_back t u lines heard trusted in
    record {
      since = back.0;
      trusted = back.1;
      inside =
          talks_safe t u lines (subst (λ (x : Admitted). MeetsTableRules x.program) same rules)
          (subst (λ (x : Admitted). IsWellCertified x.program x.cert.jitter x.cert) same certified)
          (λ on. subst (λ (x : Admitted). KeepsTubes x.program x.cert.jitter t.hearing.guarding.at) same tubes)
          heard trusted;
    }

-- what is said in a talk is said behind the starts of all plants
pub begun : (time : ℕ) (a : Starting) (t : Talking) (ended : Bool) (e f : Ears) (x y : Mouth) (status : ℕ) → MeetsTableRules a.accepted.program
    → IsWellCertified a.accepted.program a.accepted.cert.jitter a.accepted.cert → Begins time a t
    → Ended (SaysFrom ended (SaysBegun t (length a.starts))) e f x y status → Ended (SaysFrom ended (SaysOpened time a)) e f x y status
begun time a t ended e f x y status rules certified begins r =
    ended_so (SaysFrom ended (SaysBegun t (length a.starts))) (SaysFrom ended (SaysOpened time a)) e f x y status
    (λ said bytes text says. (inl (t, begins, stays_safe time a t rules certified begins, says.0), says.1)) r
