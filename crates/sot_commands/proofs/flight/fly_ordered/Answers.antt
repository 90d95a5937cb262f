use Rattle.std.proofs.Common.{◌≡◌, List, ℕ, sym, ◌∙◌, subst}
use Rattle.std.specs.Prelude.{vec_len}
use Rattle.sot_commands.specs.declared.telling.Telling.TheVariants.{Summary}
use Rattle.sot_commands.specs.Orders.{FliesBytes, handed_in}
use Rattle.sot_commands.specs.Guests.{UnnamedStay, Flew}
use Rattle.sot_commands.specs.Steps.{GuestsStand, GuestsDid, SaysInAll}
use Rattle.sot_commands.proofs.InAll.{says_also, says_first}
use Rattle.sot_commands.proofs.Guests.{all_stand, unnamed_stay}
use Rattle.sot_commands.proofs.Ordered.{traced, trace_not_summed, summed, summed_did}
use Rattle.sot_commands.proofs.flight.fly_ordered.Goals as goal

pub returns-in-Trace-clause-flies : goal.returns-in-Trace-clause-flies
returns-in-Trace-clause-flies g c =
    let told = g.C.Controller.asked in
    let telling = c.args.order.now.telling in
    let was = c.args.guests.now in
    let now = c.fly-in-Trace.new.guests in
    let n = vec_len was in
    let bytes = c.deref-in-Trace.result.now in
    let r = c.fly-in-Trace.result in
    subst
    (λ (b : List ℕ). SaysInAll g.O.Out.puts c.args.out.now c.fly-in-Trace.new.out r
    (λ (status : ℕ) (said : List ℕ). FliesBytes (handed_in telling n) telling b status said × GuestsDid telling status said
    (λ text. Flew told n b text was.items now.items) was now)) c.deref-in-Trace.ensures.value
    (says_first g.O.Out.puts c.args.out.now c.fly-in-Trace.new.out r (FliesBytes n telling bytes) (FliesBytes (handed_in telling n) telling bytes)
    (λ (status : ℕ) (said : List ℕ). GuestsDid telling status said (λ text. Flew told n bytes text was.items now.items) was now)
    (λ status said flies. traced telling n bytes status said (trace_not_summed telling c.in-Trace.is) flies) c.fly-in-Trace.ensures.flies)

pub returns-in-Trace-clause-guests : goal.returns-in-Trace-clause-guests
returns-in-Trace-clause-guests g c =
    let told = g.C.Controller.asked in
    let was = c.args.guests.now in
    let now = c.fly-in-Trace.new.guests in
    subst (λ (b : List ℕ). GuestsStand told (UnnamedStay (vec_len was) b was.items now.items) was now) c.deref-in-Trace.ensures.value
    c.fly-in-Trace.ensures.guests

pub returns-in-Verdict-clause-flies : goal.returns-in-Verdict-clause-flies
returns-in-Verdict-clause-flies g c =
    let told = g.C.Controller.asked in
    let telling = c.args.order.now.telling in
    let was = c.args.guests.now in
    let now = c.fly-in-Verdict.new.guests in
    let n = vec_len was in
    let bytes = c.deref-in-Verdict.result.now in
    let r = c.fly-in-Verdict.result in
    subst
    (λ (b : List ℕ). SaysInAll g.O.Out.puts c.args.out.now c.fly-in-Verdict.new.out r
    (λ (status : ℕ) (said : List ℕ). FliesBytes (handed_in telling n) telling b status said × GuestsDid telling status said
    (λ text. Flew told n b text was.items now.items) was now)) c.deref-in-Verdict.ensures.value
    (says_first g.O.Out.puts c.args.out.now c.fly-in-Verdict.new.out r (FliesBytes n telling bytes) (FliesBytes (handed_in telling n) telling bytes)
    (λ (status : ℕ) (said : List ℕ). GuestsDid telling status said (λ text. Flew told n bytes text was.items now.items) was now)
    (λ status said flies. traced telling n bytes status said (λ summary. (let e = sym c.in-Verdict.is ∙ summary in absurd cc)) flies)
    c.fly-in-Verdict.ensures.flies)

pub returns-in-Verdict-clause-guests : goal.returns-in-Verdict-clause-guests
returns-in-Verdict-clause-guests g c =
    let told = g.C.Controller.asked in
    let was = c.args.guests.now in
    let now = c.fly-in-Verdict.new.guests in
    subst (λ (b : List ℕ). GuestsStand told (UnnamedStay (vec_len was) b was.items now.items) was now) c.deref-in-Verdict.ensures.value
    c.fly-in-Verdict.ensures.guests

pub returns-in-Summary-clause-flies : goal.returns-in-Summary-clause-flies
returns-in-Summary-clause-flies g c =
    let told = g.C.Controller.asked in
    let telling = c.args.order.now.telling in
    let guests = c.args.guests.now in
    let n = vec_len guests in
    let mission = c.args.order.now.text.items in
    let bytes = c.deref.result.now in
    let was = c.new-nobody.result in
    let now = c.fly.new.guests in
    let none = vec_len was in
    says_also g.O.Out.puts c.args.out.now c.fly.new.out c.fly.result
    (λ (status : ℕ) (said : List ℕ). FliesBytes none Summary bytes status said × GuestsDid Summary status said
    (λ text. Flew told none bytes text was.items now.items) was now)
    (λ (status : ℕ) (said : List ℕ). FliesBytes (handed_in telling n) telling mission status said × GuestsDid telling status said
    (λ text. Flew told n mission text guests.items guests.items) guests guests)
    (λ status said says. (
      summed telling n mission status said c.in-Summary.is
          (subst (λ (k : ℕ). FliesBytes k Summary mission status said) c.new-nobody.ensures.len
          (subst (λ (b : List ℕ). FliesBytes none Summary b status said) c.deref.ensures.value says.0)),
      summed_did telling status said _ _ guests was now c.in-Summary.is says.1,
    )) c.fly.ensures.flies

pub returns-in-Summary-clause-guests : goal.returns-in-Summary-clause-guests
returns-in-Summary-clause-guests g c =
    let guests = c.args.guests.now in
    all_stand g.C.Controller.asked _ guests (unnamed_stay _ c.args.order.now.text.items guests.items)
