use Rattle.std.specs.Prelude.{IfOk, IfErr}
use Rattle.sot_law_runs.specs.Holds.{Guarded, IsRecovered}
use Rattle.sot_law_runs.specs.Ranks.{IsRank, HasNoRank}
use Rattle.sot_law_runs.specs.RunHolds.{FiringsAreHolds, TrustsAfter}
use Rattle.sot_recover.specs.Answers.{IfNever}
use Rattle.sot_recover.proofs.Whole.{if_ok_map, if_never_map, moved}
use Rattle.sot_recover.proofs.within.recover_within.Goals as goal

pub returns-clause-rank : goal.returns-clause-rank
returns-clause-rank c =
    let m = c.args.«module» in
    let r = c.within.result in
    let told : IfOk r (λ n. (h : Guarded c.args.acc.now.program c.args.acc.now.cert m) → IsRank h n) =
    moved (λ p d. IfOk r (λ n. (h : Guarded p d m) → IsRank h n)) c.typed.result.now c.args.acc.now.program c.cert.result.now c.args.acc.now.cert
    c.typed.ensures.program c.cert.ensures.cert c.within.ensures.rank in
    λ g. if_ok_map r (λ n. (h : Guarded c.args.acc.now.program c.args.acc.now.cert m) → IsRank h n) (λ n. IsRank g n) (λ n h. h g) told

pub returns-clause-recovered : goal.returns-clause-recovered
returns-clause-recovered c =
    let m = c.args.«module» in
    let r = c.within.result in
    let told : IfOk r (λ n. (h : Guarded c.args.acc.now.program c.args.acc.now.cert m) → IsRecovered h n) =
    moved (λ p d. IfOk r (λ n. (h : Guarded p d m) → IsRecovered h n)) c.typed.result.now c.args.acc.now.program c.cert.result.now c.args.acc.now.cert
    c.typed.ensures.program c.cert.ensures.cert c.within.ensures.recovered in
    λ g. if_ok_map r (λ n. (h : Guarded c.args.acc.now.program c.args.acc.now.cert m) → IsRecovered h n) (λ n. IsRecovered g n) (λ n h. h g) told

pub returns-clause-trusts : goal.returns-clause-trusts
returns-clause-trusts c =
    let m = c.args.«module» in
    let r = c.within.result in
    let told : IfOk r (λ n. (h : Guarded c.args.acc.now.program c.args.acc.now.cert m) → TrustsAfter h n) =
    moved (λ p d. IfOk r (λ n. (h : Guarded p d m) → TrustsAfter h n)) c.typed.result.now c.args.acc.now.program c.cert.result.now c.args.acc.now.cert
    c.typed.ensures.program c.cert.ensures.cert c.within.ensures.trusts in
    λ g. if_ok_map r (λ n. (h : Guarded c.args.acc.now.program c.args.acc.now.cert m) → TrustsAfter h n) (λ n. TrustsAfter g n) (λ n h. h g) told

pub returns-clause-holds : goal.returns-clause-holds
returns-clause-holds c =
    (let m = c.args.«module» in moved (λ p d. (h : Guarded p d m) → FiringsAreHolds h) c.typed.result.now c.args.acc.now.program c.cert.result.now
    c.args.acc.now.cert c.typed.ensures.program c.cert.ensures.cert c.within.ensures.holds)

pub returns-clause-never : goal.returns-clause-never
returns-clause-never c =
    let m = c.args.«module» in
    let r = c.within.result in
    let told : IfErr r (λ f. IfNever f (λ s. (h : Guarded c.args.acc.now.program c.args.acc.now.cert m) → HasNoRank h s)) =
    moved (λ p d. IfErr r (λ f. IfNever f (λ s. (h : Guarded p d m) → HasNoRank h s))) c.typed.result.now c.args.acc.now.program c.cert.result.now
    c.args.acc.now.cert c.typed.ensures.program c.cert.ensures.cert c.within.ensures.never in
    λ g. if_never_map r (λ s. (h : Guarded c.args.acc.now.program c.args.acc.now.cert m) → HasNoRank h s) (λ s. HasNoRank g s) (λ s h. h g) told
