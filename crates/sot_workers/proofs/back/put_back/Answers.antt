use Rattle.std.proofs.Common.{List, length, sym, ap, subst, arith}
use Rattle.std.proofs.lemmas.List.{length_push}
use Rattle.sot_workers.specs.declared.lists.NodeList.{NodeList}
use Rattle.sot_workers.specs.Pairs.{EachFrom}
use Rattle.sot_workers.specs.Back.{IsGuestBack, AreListsBack}
use Rattle.sot_workers.proofs.Putting.{guests_first, lists_first, guest_more, lists_more}
use Rattle.sot_workers.proofs.back.put_back.Goals as goal

pub loop-done-init : goal.loop-done-init
loop-done-init g c =
    let asked = g.C.Controller.asked in
    let lists = c.args.lists.now.items in
    record {
      guests = λ a f history was each. guests_first asked a f history was c.args.guests.now.items c.requires.room.0 each;
      lists = λ a f history was each own once. lists_first asked a f history (length lists) lists was each own;
      count = omega (arith, c.args.guests.now.ok.0, ap length c.requires.room.0);
      room = c.requires.room.1;
    }

pub loop-done-preserved : goal.loop-done-preserved
loop-done-preserved g c =
    let asked = g.C.Controller.asked in
    let so_far = c.loop-done.yielded in
    let done = c.in-Some.done in
    let inv = c.loop-done.invariant in
    let pushed = c.push_reserved.ensures in
    record {
      guests = λ a f history was each.
          subst (λ (gs : List _). EachFrom (IsGuestBack asked a f history) 0 was gs) (sym pushed.items)
          (guest_more asked a f history was so_far c.loop-done.guests.items done each (inv.guests a f history));
      lists = λ a f history was each own once.
          subst (λ (ls : List NodeList). AreListsBack (length c.args.lists.now.items) f (length was) ls history) (sym c.put_list.ensures)
          (lists_more asked a f history (length c.args.lists.now.items) c.loop-done.lists.items was so_far done each once
          (λ w e. inv.lists a f history w e own once));
      count = omega (arith, length_push so_far done, inv.count, pushed.len);
      room = omega (arith, inv.room, pushed.capacity);
    }
