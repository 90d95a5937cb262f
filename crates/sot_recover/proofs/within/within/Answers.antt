use Rattle.std.proofs.Common.{ℕ, ◌≤◌, List, length, sym, ap, ◌∙◌, subst, arith}
use Rattle.sot_box.specs.Regions.{IsFirstGap}
use Rattle.sot_rta.proofs.Found.{plant_there}
use Rattle.sot_law_runs.specs.Holds.{Guarded, IsRecovered}
use Rattle.sot_law_runs.specs.Ranks.{IsRank, HasNoRank}
use Rattle.sot_law_runs.specs.RunHolds.{TrustsAfter}
use Rattle.sot_law_runs.proofs.Rows.{ranks_recover}
use Rattle.sot_law_runs.proofs.Runs.{runs_hold}
use Rattle.sot_law_runs.proofs.Trusts.{runs_recover}
use Rattle.sot_recover.specs.Chosen.{chosen, IsLeastCover}
use Rattle.sot_recover.proofs.CellTubes.{account}
use Rattle.sot_recover.proofs.Whole.{if_ok_map, if_never_map, few_ranks, ranks_count, widths_are, to_rank, to_none}
use Rattle.sot_recover.proofs.within.within.Goals as goal

pub width_of-width-requires : goal.width_of-width-requires
width_of-width-requires c = plant_there c.args.p.now c.module_at-info.ensures.rules c.args.«module» c.module_at-info.result.now c.module_at-info.ensures.is

pub overflow_cast-top : goal.overflow_cast-top
overflow_cast-top c =
    let g = account c.args.p.now c.args.cert.now c.args.«module» c.module_at-info.ensures.rules c.requires.certified c.requires.fits c.requires.module_is in
    let few = few_ranks c.args.p.now c.args.cert.now c.args.«module» c.requires.fits c.module_at-info.result.now c.module_at-info.ensures.is
    c.in_ok-found.found.cells c.in_ok-found.ensures.cells c.in_ok-found.found.ranks.items c.in_ok-found.ensures.ranks g in
    let e = c.len-top.ensures in
    let ok = c.in_ok-found.found.ranks.ok.0 in
    omega (arith, few, e, ok)

pub least_rank-requires-clause-safe_width : goal.least_rank-requires-clause-safe_width
least_rank-requires-clause-safe_width c =
    (c.module_at-info.ensures.rules.modules c.args.«module» c.module_at-info.result.now c.module_at-info.ensures.is).safe.width ∙ sym c.width_of-width.ensures

pub least_rank-requires-clause-widths : goal.least_rank-requires-clause-widths
least_rank-requires-clause-widths c i b at =
    let g = account c.args.p.now c.args.cert.now c.args.«module» c.module_at-info.ensures.rules c.requires.certified c.requires.fits c.requires.module_is in
    widths_are c.args.p.now c.args.cert.now c.args.«module» c.requires.fits c.module_at-info.result.now c.module_at-info.ensures.is c.in_ok-found.found.cells
    c.in_ok-found.ensures.cells c.in_ok-found.found.ranks.items c.in_ok-found.ensures.ranks g i b at ∙ sym c.width_of-width.ensures

pub least_rank-requires-clause-count : goal.least_rank-requires-clause-count
least_rank-requires-clause-count c =
    let g = account c.args.p.now c.args.cert.now c.args.«module» c.module_at-info.ensures.rules c.requires.certified c.requires.fits c.requires.module_is in
    ap length c.deref.ensures.value ∙ ranks_count c.args.p.now c.args.cert.now c.args.«module» c.requires.fits c.module_at-info.result.now
    c.module_at-info.ensures.is c.in_ok-found.found.cells c.in_ok-found.ensures.cells c.in_ok-found.found.ranks.items c.in_ok-found.ensures.ranks g

pub returns-clause-rank : goal.returns-clause-rank
returns-clause-rank c =
    let all = c.len-top.ensures ∙ c.in_ok-found.found.ranks.ok.0 in
    if_ok_map c.least_rank.result (λ k. IsLeastCover c.module_at-info.result.now.safe.boxes c.in_ok-found.found.cells c.deref.result.now c.len-top.result k)
    (λ n. (g : Guarded c.args.p.now c.args.cert.now c.args.«module») → IsRank g n)
    (λ n h. to_rank c.args.p.now c.args.cert.now c.args.«module» c.requires.fits c.module_at-info.result.now c.module_at-info.ensures.is
    c.in_ok-found.found.cells c.in_ok-found.ensures.cells c.in_ok-found.found.ranks.items c.in_ok-found.ensures.ranks c.len-top.result n all
    (subst (λ (l : List ℕ). IsLeastCover c.module_at-info.result.now.safe.boxes c.in_ok-found.found.cells l c.len-top.result n) c.deref.ensures.value h))
    c.least_rank.ensures.ok

pub returns-clause-recovered : goal.returns-clause-recovered
returns-clause-recovered c =
    let all = c.len-top.ensures ∙ c.in_ok-found.found.ranks.ok.0 in
    if_ok_map c.least_rank.result (λ k. IsLeastCover c.module_at-info.result.now.safe.boxes c.in_ok-found.found.cells c.deref.result.now c.len-top.result k)
    (λ n. (g : Guarded c.args.p.now c.args.cert.now c.args.«module») → IsRecovered g n)
    (λ n h g. ranks_recover c.args.p.now c.args.cert.now c.args.«module» g n c.module_at-info.ensures.rules.typed c.requires.certified
    (to_rank c.args.p.now c.args.cert.now c.args.«module» c.requires.fits c.module_at-info.result.now c.module_at-info.ensures.is c.in_ok-found.found.cells
    c.in_ok-found.ensures.cells c.in_ok-found.found.ranks.items c.in_ok-found.ensures.ranks c.len-top.result n all
    (subst (λ (l : List ℕ). IsLeastCover c.module_at-info.result.now.safe.boxes c.in_ok-found.found.cells l c.len-top.result n) c.deref.ensures.value h)
    g).reaches)
    c.least_rank.ensures.ok

pub returns-clause-holds : goal.returns-clause-holds
returns-clause-holds c g = runs_hold c.args.p.now c.args.cert.now c.args.«module» g c.module_at-info.ensures.rules.typed c.requires.certified

pub returns-clause-trusts : goal.returns-clause-trusts
returns-clause-trusts c =
    let all = c.len-top.ensures ∙ c.in_ok-found.found.ranks.ok.0 in
    if_ok_map c.least_rank.result (λ k. IsLeastCover c.module_at-info.result.now.safe.boxes c.in_ok-found.found.cells c.deref.result.now c.len-top.result k)
    (λ n. (g : Guarded c.args.p.now c.args.cert.now c.args.«module») → TrustsAfter g n)
    (λ n h g. runs_recover c.args.p.now c.args.cert.now c.args.«module» g n c.module_at-info.ensures.rules.typed c.requires.certified
    (to_rank c.args.p.now c.args.cert.now c.args.«module» c.requires.fits c.module_at-info.result.now c.module_at-info.ensures.is c.in_ok-found.found.cells
    c.in_ok-found.ensures.cells c.in_ok-found.found.ranks.items c.in_ok-found.ensures.ranks c.len-top.result n all
    (subst (λ (l : List ℕ). IsLeastCover c.module_at-info.result.now.safe.boxes c.in_ok-found.found.cells l c.len-top.result n) c.deref.ensures.value h)
    g).reaches)
    c.least_rank.ensures.ok

pub returns-clause-few : goal.returns-clause-few
returns-clause-few c =
    let g = account c.args.p.now c.args.cert.now c.args.«module» c.module_at-info.ensures.rules c.requires.certified c.requires.fits c.requires.module_is in
    let few = few_ranks c.args.p.now c.args.cert.now c.args.«module» c.requires.fits c.module_at-info.result.now c.module_at-info.ensures.is
    c.in_ok-found.found.cells c.in_ok-found.ensures.cells c.in_ok-found.found.ranks.items c.in_ok-found.ensures.ranks g in
    let all = c.len-top.ensures ∙ c.in_ok-found.found.ranks.ok.0 in
    if_ok_map c.least_rank.result (λ k. IsLeastCover c.module_at-info.result.now.safe.boxes c.in_ok-found.found.cells c.deref.result.now c.len-top.result k)
    (λ n. n ≤ 4096)
    (λ n h. (let le = h.few in omega (arith, le, all, few)))
    c.least_rank.ensures.ok

pub returns-clause-never : goal.returns-clause-never
returns-clause-never c =
    let all = c.len-top.ensures ∙ c.in_ok-found.found.ranks.ok.0 in
    if_never_map c.least_rank.result (λ s. IsFirstGap c.module_at-info.result.now.safe.boxes
    (chosen c.in_ok-found.found.cells c.deref.result.now c.len-top.result) s)
    (λ s. (g : Guarded c.args.p.now c.args.cert.now c.args.«module») → HasNoRank g s)
    (λ s h. to_none c.args.p.now c.args.cert.now c.args.«module» c.requires.fits c.module_at-info.result.now c.module_at-info.ensures.is
    c.in_ok-found.found.cells c.in_ok-found.ensures.cells c.in_ok-found.found.ranks.items c.in_ok-found.ensures.ranks c.len-top.result s all
    (subst (λ (l : List ℕ). IsFirstGap c.module_at-info.result.now.safe.boxes (chosen c.in_ok-found.found.cells l c.len-top.result) s) c.deref.ensures.value
    h))
    c.least_rank.ensures.never

pub returns-in_err-found-clause-holds : goal.returns-in_err-found-clause-holds
returns-in_err-found-clause-holds c g = runs_hold c.args.p.now c.args.cert.now c.args.«module» g c.module_at-info.ensures.rules.typed c.requires.certified
