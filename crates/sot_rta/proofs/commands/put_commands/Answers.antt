use Rattle.std.proofs.Common.{rules, arith, ◌<◌, ◌≤◌, ◌++◌, ◌∷◌, [], length, take, sym, ap, ◌∙◌}
use Rattle.std.specs.Prelude.{map}
use Rattle.std.proofs.lemmas.List.{map-append, take_all, take_more, take_more_set}
use Rattle.std.proofs.lemmas.Option.{slice_get-get_or}
use Rattle.sot_tube.specs.Certified.{command_interval}
use Rattle.sot_rta.proofs.commands.put_commands.Goals as goal

pub command-requires-clause-there : goal.command-requires-clause-there
command-requires-clause-there c = c.requires.there _ (c.loop-i.i, slice_get-get_or c.args.inputs.now c.loop-i.i 0 c.loop-i-test.true)

pub loop-i-preserved : goal.loop-i-preserved
loop-i-preserved c =
    let l = c.loop-i in
    let side = command_interval c.args.p.now c.args.writes.now c.args.draft.now in
    let inputs = c.args.inputs.now in
    let inside : l.i < length l.sides = omega (arith, l.invariant.size, c.requires.size, c.loop-i-test.true) in
    record {
      size = search (rules, l.invariant.size);
      put = take_more_set l.sides l.i c.command.result inside
          ∙ ap (λ done. done ++ c.command.result ∷ []) l.invariant.put
          ∙ ap (λ x. map side (take l.i inputs) ++ x ∷ []) c.command.ensures
          ∙ sym (ap (map side) (take_more inputs l.i 0 c.loop-i-test.true) ∙ map-append side (take l.i inputs) _);
    }

pub returns : goal.returns
returns c =
    let l = c.loop-i in
    let side = command_interval c.args.p.now c.args.writes.now c.args.draft.now in
    let all : length l.sides ≤ l.i = omega (arith, l.invariant.size, c.requires.size, c.loop-i-test.false) in
    sym (take_all l.i l.sides all) ∙ l.invariant.put ∙ ap (map side) (take_all l.i c.args.inputs.now c.loop-i-test.false)
