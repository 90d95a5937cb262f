use Rattle.std.proofs.Common.{◌≡◌, ◌+◌, ◌-◌, ◌≤◌, length, take, drop, sym, ap₂, ap, ◌∙◌, arith}
use Rattle.std.proofs.Common.{length-drop}
use Rattle.std.proofs.lemmas.List.{drop-take, length-take}
use Rattle.std.proofs.lemmas.List.Edits.{take-paste}
use Rattle.sot_guard_input.proofs.room.Room.leave_out.Goals as goal

pub returns : goal.returns
returns c =
    let bytes = c.self.inside.bytes.items in
    let end = c.self.inside.end in
    let n = c.args.count in
    let inside : n ≤ end = (let few = c.requires in let is = ap length c.self.view_is in omega (arith, length-take end bytes)) in
    let whole : n + (end - n) ≡ end = omega (arith, inside) in
    let none : end - n ≡ 0 + (end - n) = omega arith in
    ap₂ take none c.copy_within.ensures.items
    ∙ take-paste bytes 0 (drop n bytes) (end - n) (omega arith) (omega (arith, length-drop n bytes, c.self.invariant.0, c.self.invariant.1))
    ∙ sym (drop-take n (end - n) bytes)
    ∙ ap (λ k. drop n (take k bytes)) whole
    ∙ ap (drop n) c.self.view_is
