-- What a run of a node's body gives, whether it traps or not.
use Rattle.std.proofs.Common.{◌≡◌, Ok, Err, sym, ap}
use Rattle.std.specs.Prelude.{MatchResult}
use Rattle.sot_lang.specs.declared.trap.Trap.{Trap}
use Rattle.sot_lang.specs.Values.{Outcome}
use Rattle.sot_lang.specs.Bodies as bodies
use Rattle.sot_code.specs.declared.fired.Fired.{Fired}
use Rattle.sot_code.specs.Recorded.{recorded, in_slots}

pub ran : (Q : Trap → Type 0) (o : Outcome bodies.Fired) (f : Fired) → recorded o ≡ Ok f
    → MatchResult o (λ g. (f.locals ≡ g.locals) × (f.draft ≡ in_slots g.draft)) Q
ran Q (Ok g) f e =
    let told : Fired = record { locals = g.locals; draft = in_slots g.draft } in
    let same : told ≡ f = cc in
    (sym (ap (λ x. x.locals) same), sym (ap (λ x. x.draft) same))
ran Q (Err t) f e = cc

pub trapped : (P : bodies.Fired → Type 0) (Q : Trap → Type 0) (o : Outcome bodies.Fired) (t : Trap) → recorded o ≡ Err t → ((u : Trap) → Q u)
    → MatchResult o P Q
trapped P Q (Ok g) t e q = cc
trapped P Q (Err u) t e q = q u
