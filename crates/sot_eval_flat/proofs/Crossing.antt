-- That a flat form may cross threads.
use denote.Param.Send.{IsSend, sendable, recorded_send, struct_send}
use denote.Struct.Declared.{shape}
use Rattle.std.proofs.Crossing.{crosses}
use Rattle.sot_eval_flat.proofs.step.Step.TheLaws.TheKnot as step
use Rattle.sot_eval_flat.specs.contracts.instruction.Instruction as Instruction
use Rattle.sot_eval_flat.specs.contracts.step.Step as Step
use Rattle.sot_eval_flat.specs.contracts.shape.Shape as Shape
use Rattle.sot_eval_flat.specs.contracts.flat.Flat as Flat

instruction_send : IsSend Instruction.the_row
instruction_send = search (sendable, crosses) depth 40

step_send : IsSend Step.the_row
step_send = search (sendable, crosses, step.crosses, instruction_send) depth 40

shape_send : IsSend Shape.the_field.row
shape_send = struct_send (shape Shape.the_type) (search sendable, (search (crosses, sendable) depth 40, tt))

pub flat_send : IsSend Flat.the_row
flat_send =
    recorded_send Flat.the_field.row _ _ Flat.the_type.to_one
    (struct_send (shape Flat.the_type) (search sendable, (shape_send, (search (crosses, sendable, step_send) depth 40, tt))))
