use Rattle.std.proofs.Common.{◌≡◌, ℕ, ℤ, List, Result, Ok, Err, arith}
use Rattle.std.specs.Prelude.{IfErr}
use Rattle.sot_lists.specs.Places.{At}
use Rattle.sot_syntax_tree.specs.TreeViews.{program_view}
use Rattle.sot_lang.specs.declared.tables.ModuleInfo.{ModuleInfo}
use Rattle.sot_lang.specs.Tables.{Tables}
use Rattle.sot_law_invariant_regions.specs.Following.{HasNoHeldRegion}
use Rattle.sot_regions.specs.Grains.{IsUnitGrain, HasNoClosedSetAt}
use Rattle.sot_regions.specs.declared.found.FoundRegions.{FoundRegions}
use Rattle.sot_regions.specs.declared.found.RegionsFail.{RegionsFail}
use Rattle.sot_regions.specs.declared.found.RegionsFail.TheVariants.{SafeNone}
use Rattle.sot_regions_program.specs.Steps.{TellsFail}
use Rattle.sot_regions_program.proofs.Spelled.{may_take, taken_boxes, taken_count}
use Rattle.sot_regions_program.proofs.search.found_of.Goals as goal

pub typed_with-requires-clause-may : goal.typed_with-requires-clause-may
typed_with-requires-clause-may c =
    may_take c.args.asked.text.now c.args.asked.tables.now c.args.before.now c.requires.found.0 c.args.«module» c.requires.tables c.requires.found.1

pub regions_of-requires-in-Ok : goal.regions_of-requires-in-Ok
regions_of-requires-in-Ok c =
    let count = taken_count c.args.asked.text.now c.args.asked.tables.now c.in-Ok.typed.tables (program_view c.in-Ok.typed.program) c.args.before.now
    c.requires.found.0 c.args.«module» c.requires.found.1 c.in-Ok.ensures c.requires.tables
    in
    record {
      there = omega (arith, count, c.requires.there);
      boxes =
          taken_boxes c.args.asked.text.now c.args.asked.tables.now c.in-Ok.typed.tables (program_view c.in-Ok.typed.program) c.args.before.now
          c.requires.found.0 c.args.«module» c.requires.found.1 c.in-Ok.ensures c.requires.tables c.requires.boxes;
      below = omega (arith, c.requires.jitter);
    }

-- what is known of each module is known of one that no other plant concerns
tells_fail : (r : Result FoundRegions RegionsFail) (t : Tables) (jitter m : ℕ)
    → IfErr r (λ e. (grain : List ℤ) (a : ModuleInfo) → e ≡ SafeNone grain → IsUnitGrain grain → At t.modules m a → HasNoHeldRegion t jitter a)
    → IfErr r (λ e. (grain : List ℤ) (a : ModuleInfo) → e ≡ SafeNone grain → At t.modules m a → HasNoClosedSetAt t jitter a grain)
    → IfErr r (TellsFail t jitter m)
tells_fail (Ok found) t jitter m none closed = tt
tells_fail (Err fail) t jitter m none closed = λ grain a is at alone. (closed grain a is at, λ unit. none grain a is unit at)

pub returns-then-before-eq0 : goal.returns-then-before-eq0
returns-then-before-eq0 c = tells_fail c.regions_of.result c.args.asked.tables.now c.args.asked.jitter c.args.«module» c.regions_of.ensures.none c.regions_of.ensures.closed
