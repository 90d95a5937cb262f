use Rattle.std.proofs.Common.{ℕ, List, ◌++◌, ap, ◌∙◌}
use Rattle.std.specs.String.{string_bytes}
use Rattle.sot_bridge.proofs.Forms.{flown_second}
use Rattle.sot_bridge.proofs.flying.fly_second.Goals as goal

pub returns-clause-text : goal.returns-clause-text
returns-clause-text g c =
    let ended = c.in_ok-flown.ensures in
    let said = c.in_ok-text.ensures ∙ ap (λ (l : List ℕ). string_bytes c.args.front ++ l) (c.as_str.ensures.value ∙ c.in_ok-more.ensures) in
    flown_second c.args.board c.in_ok-flown.flown.board (string_bytes c.args.front) c.in_ok-text.text.items ended.accepted ended.plan ended.flown said
