use Rattle.std.proofs.Common.{◌<◌, length}
use Rattle.std.proofs.lemmas.Option.{slice_get_within}
use Rattle.sot_regions.proofs.asked.most_atoms.Goals as goal

pub node_at-requires : goal.node_at-requires
node_at-requires c =
    let asked = c.program.ensures.asked in
    let h = c.program.ensures.rules.typed.sc_is asked.m c.args.ask.now.info asked.is in
    let there : c.args.ask.now.info.sc < length c.args.ask.now.program.nodes = slice_get_within _ _ h.0 h.2 in
    rw (c.program.ensures.value, c.info.ensures) there
