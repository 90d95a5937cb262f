use Rattle.std.proofs.Common.{◌≡◌, length, get_or, sym, ap, ◌∙◌, subst}
use Rattle.std.proofs.lemmas.Option.{get_or_from_slice_get}
use Rattle.sot_lang.specs.OwnerNames.{seen_width}
use Rattle.sot_iv.specs.SeenHulls.{AreSeenHulls}
use Rattle.sot_tube.proofs.Follows.{seen_fit, seen_safe}
use Rattle.sot_lists.specs.Places.{Has}
use Rattle.sot_recover.proofs.CellTubes.{may, width, ordered, covered, follows, may_tick, inputs_long, goes, tube_of}
use Rattle.sot_recover.proofs.tube.put_tube.Goals as goal

pub held_commands-requires-clause-is : goal.held_commands-requires-clause-is
held_commands-requires-clause-is c = (c.args.«module», c.module_at-info.ensures.is)

pub held_commands-requires-clause-may : goal.held_commands-requires-clause-may
held_commands-requires-clause-may c = may c.args.p.now c.args.cert.now c.args.«module» c.module_at-info.ensures.rules c.requires.certified c.requires.fits

pub held_commands-requires-clause-width : goal.held_commands-requires-clause-width
held_commands-requires-clause-width c =
    width c.args.p.now c.args.cert.now c.args.«module» c.module_at-info.ensures.rules c.requires.certified c.requires.fits c.requires.module_is
    c.module_at-info.result.now c.module_at-info.ensures.is c.args.cell.now c.requires.closed

pub held_commands-requires-clause-ordered : goal.held_commands-requires-clause-ordered
held_commands-requires-clause-ordered c =
    ordered c.args.p.now c.args.cert.now c.args.«module» c.module_at-info.ensures.rules c.requires.certified c.requires.fits c.requires.module_is
    c.module_at-info.result.now c.module_at-info.ensures.is c.args.cell.now c.requires.closed

pub held_commands-requires-clause-covered : goal.held_commands-requires-clause-covered
held_commands-requires-clause-covered c =
    covered c.args.p.now c.args.cert.now c.args.«module» c.module_at-info.ensures.rules c.requires.certified c.requires.fits c.requires.module_is
    c.module_at-info.result.now c.module_at-info.ensures.is c.args.cell.now c.requires.closed

pub seen_hulls-seen-requires-clause-few : goal.seen_hulls-seen-requires-clause-few
seen_hulls-seen-requires-clause-few c =
    let p = c.args.p.now in
    let info = c.module_at-info.result.now in
    let plant = c.plant_at-plant.result.now in
    let info_is : info ≡ get_or p.modules c.args.«module» info = sym (get_or_from_slice_get p.modules c.args.«module» info info c.module_at-info.ensures.is) in
    let plant_is : plant ≡ get_or p.plants info.plant plant = sym (get_or_from_slice_get p.plants info.plant plant plant c.plant_at-plant.ensures.is) in
    rw c.deref.ensures.value (seen_fit p c.module_at-info.ensures.rules c.args.«module» c.args.cell.now
    (follows c.args.p.now c.args.cert.now c.args.«module» c.module_at-info.ensures.rules c.requires.certified c.requires.fits c.requires.module_is
    c.module_at-info.result.now c.module_at-info.ensures.is c.args.cell.now c.requires.closed) info info_is plant plant_is)

pub seen_hulls-seen-requires-clause-boxes : goal.seen_hulls-seen-requires-clause-boxes
seen_hulls-seen-requires-clause-boxes c k has =
    let p = c.args.p.now in
    let info = c.module_at-info.result.now in
    let plant = c.plant_at-plant.result.now in
    let info_is : info ≡ get_or p.modules c.args.«module» info = sym (get_or_from_slice_get p.modules c.args.«module» info info c.module_at-info.ensures.is) in
    let plant_is : plant ≡ get_or p.plants info.plant plant = sym (get_or_from_slice_get p.plants info.plant plant plant c.plant_at-plant.ensures.is) in
    seen_safe p c.module_at-info.ensures.rules c.args.«module» c.args.cell.now
    (follows c.args.p.now c.args.cert.now c.args.«module» c.module_at-info.ensures.rules c.requires.certified c.requires.fits c.requires.module_is
    c.module_at-info.result.now c.module_at-info.ensures.is c.args.cell.now c.requires.closed) info info_is plant plant_is k
    (subst (λ l. Has l k) c.deref.ensures.value has)

pub put_boxes-requires-clause-step : goal.put_boxes-requires-clause-step
put_boxes-requires-clause-step c =
    let seen : AreSeenHulls c.args.p.now.modules c.plant_at-plant.result.now.sees.items c.as_slice.result.now =
    subst (AreSeenHulls c.args.p.now.modules c.plant_at-plant.result.now.sees.items) (sym c.as_slice.ensures.value)
    (subst (λ l. AreSeenHulls c.args.p.now.modules l c.seen_hulls-seen.result) c.deref.ensures.value c.seen_hulls-seen.ensures.hulls) in
    may_tick c.args.p.now c.args.cert.now c.args.«module» c.module_at-info.ensures.rules c.requires.certified c.requires.fits c.requires.module_is
    c.module_at-info.result.now c.module_at-info.ensures.is c.args.cell.now c.requires.closed c.plant_at-plant.result.now c.plant_at-plant.ensures.is
    c.node_at-sc.result.now c.node_at-sc.ensures.is c.held_commands.new.sides c.as_slice.result.now
    (inputs_long c.args.p.now c.args.cert.now c.args.«module» c.module_at-info.ensures.rules c.requires.certified c.requires.fits c.requires.module_is
    c.module_at-info.result.now c.module_at-info.ensures.is c.args.cell.now c.requires.closed c.plant_at-plant.result.now c.plant_at-plant.ensures.is
    c.node_at-sc.result.now c.node_at-sc.ensures.is c.held_commands.new.sides c.as_slice.result.now c.held_commands.ensures seen)
    (ap length c.as_slice.ensures.value ∙ c.seen_hulls-seen.ensures.width ∙ ap (seen_width c.args.p.now.plants) c.deref.ensures.value)

pub put_boxes-requires-clause-goes : goal.put_boxes-requires-clause-goes
put_boxes-requires-clause-goes c =
    let seen : AreSeenHulls c.args.p.now.modules c.plant_at-plant.result.now.sees.items c.as_slice.result.now =
    subst (AreSeenHulls c.args.p.now.modules c.plant_at-plant.result.now.sees.items) (sym c.as_slice.ensures.value)
    (subst (λ l. AreSeenHulls c.args.p.now.modules l c.seen_hulls-seen.result) c.deref.ensures.value c.seen_hulls-seen.ensures.hulls) in
    goes c.args.p.now c.args.cert.now c.args.«module» c.module_at-info.ensures.rules c.requires.certified c.requires.fits c.requires.module_is
    c.module_at-info.result.now c.module_at-info.ensures.is c.args.cell.now c.requires.closed c.plant_at-plant.result.now c.plant_at-plant.ensures.is
    c.node_at-sc.result.now c.node_at-sc.ensures.is c.held_commands.new.sides c.as_slice.result.now c.held_commands.ensures seen

pub returns : goal.returns
returns c =
    let seen : AreSeenHulls c.args.p.now.modules c.plant_at-plant.result.now.sees.items c.as_slice.result.now =
    subst (AreSeenHulls c.args.p.now.modules c.plant_at-plant.result.now.sees.items) (sym c.as_slice.ensures.value)
    (subst (λ l. AreSeenHulls c.args.p.now.modules l c.seen_hulls-seen.result) c.deref.ensures.value c.seen_hulls-seen.ensures.hulls) in
    tube_of c.args.p.now c.args.cert.now c.args.«module» c.module_at-info.ensures.rules c.requires.certified c.requires.fits c.requires.module_is
    c.module_at-info.result.now c.module_at-info.ensures.is c.args.cell.now c.requires.closed c.plant_at-plant.result.now c.plant_at-plant.ensures.is
    c.node_at-sc.result.now c.node_at-sc.ensures.is c.held_commands.new.sides c.as_slice.result.now c.held_commands.ensures seen c.put_boxes.new.boxes.items
    c.in_ok-put_boxes.ensures
