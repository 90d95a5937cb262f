-- What is left to show of `push_name`.
use Rattle.std.proofs.Common.{encode_utf8, ap, sym, ◌∙◌, ◌++◌, string_bytes, append_assoc}
use Rattle.std.proofs.lemmas.Iterator.{YieldsList-from_chars}
use Rattle.std.proofs.lemmas.Iterator.Consumers.{YieldsList-end}
use Rattle.std.specs.Str.{encode_utf8_all}
use Rattle.sot_json.specs.Pointers.{escaped}
use Rattle.sot_json.proofs.Escapes.{escaped_push, all_spelled}
use Rattle.sot_json.proofs.path.push_name.Goals as goal

pub loop-c-preserved : goal.loop-c-preserved
loop-c-preserved c =
    let front = string_bytes c.args.text.now in
    let more = sym (escaped_push c.loop-c.yielded c.in-Some.c) in
    c.in_ok-push_escaped.ensures ∙ ap (λ t. t ++ escaped (encode_utf8 c.in-Some.c)) c.loop-c.invariant
    ∙ append_assoc front (escaped (encode_utf8_all c.loop-c.yielded)) (escaped (encode_utf8 c.in-Some.c)) ∙ ap (λ t. front ++ t) more

pub returns : goal.returns
returns c =
    let front = string_bytes c.args.text.now in
    let t = YieldsList-end (YieldsList-from_chars c.args.name.now c.utf8.name cc) c.loop-c.yielded _ c.loop-c.yielded_by _ _ c.in-None.is c.next.ensures.steps
    in
    c.loop-c.invariant ∙ ap (λ t. front ++ escaped t) (all_spelled c.args.name.now c.loop-c.yielded c.utf8.name t.0)
