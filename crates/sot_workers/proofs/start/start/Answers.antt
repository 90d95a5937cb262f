use denote.Exit.{no}
use denote.Param.Send.{param_send, arg_send, shr_send}
use Rattle.sot_fly_worker.proofs.bells.Bells.TheSendSync as bells
use Rattle.sot_workers.proofs.Crossing.{shift_send, turn_sync, closure_send}
use Rattle.sot_workers.proofs.start.start.Goals as goal

pub spawn_with-requires-send-F : goal.spawn_with-requires-send-F
spawn_with-requires-send-F g c κs within =
    param_send 2 _
    (arg_send _ no _
    (closure_send _ _ _ _ _ (shr_send _ _ _ c.type_bounds.sync-R) (shr_send _ _ _ (turn_sync _)) (shr_send _ _ _ bells.the_sync)
    (shift_send _ _ c.type_bounds.send-C)))

pub spawn_with-requires-send-T : goal.spawn_with-requires-send-T
spawn_with-requires-send-T g c κs within = param_send 3 _ (arg_send _ no _ (shift_send _ _ c.type_bounds.send-C))
