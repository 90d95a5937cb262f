use Rattle.std.proofs.Common.{◌≡◌, ◌≢◌, ℕ, suc, ◌+◌, ◌-◌, length, take, drop, subst, sym, ap, ◌∙◌, arith, refl}
use Rattle.std.proofs.lemmas.List.{take_rest}
use Rattle.sot_text.specs.LineEnds.{lines}
use Rattle.sot_sections.specs.Sections.{title, place}
use Rattle.sot_sections.specs.Dividing.{divided, end_line, behind_first, IsRest}
use Rattle.sot_sections.proofs.SectionSteps.{taken_rest, not_taken}
use Rattle.sot_sections.proofs.mission.take_section.Goals as goal

pub returns-then-place-wanted-clause-body : goal.returns-then-place-wanted-clause-body
returns-then-place-wanted-clause-body c n =
    let bytes = c.args.bytes.now in
    let k = c.line_len-len.result in
    let cut = c.front-cut in
    let is : place (title (take k bytes)) ≡ c.args.wanted = ap place (sym c.title.ensures) ∙ sym c.place.ensures ∙ c.if-place-wanted.true in
    (taken_rest n k c.args.wanted (end_line (n + 1) cut.result.body.now) bytes (take (length bytes - k) (drop k bytes)) cut.result.body.now cut.result.rest.now
    c.requires.begins c.requires.wanted c.line_len-len.ensures.len is (take_rest bytes k) (cut.ensures.body (n + 1)) (cut.ensures.rest (n + 1))).0

pub returns-then-place-wanted-clause-rest : goal.returns-then-place-wanted-clause-rest
returns-then-place-wanted-clause-rest c n =
    let bytes = c.args.bytes.now in
    let k = c.line_len-len.result in
    let cut = c.front-cut in
    let is : place (title (take k bytes)) ≡ c.args.wanted = ap place (sym c.title.ensures) ∙ sym c.place.ensures ∙ c.if-place-wanted.true in
    let whole = (taken_rest n k c.args.wanted (end_line (n + 1) cut.result.body.now) bytes (take (length bytes - k) (drop k bytes)) cut.result.body.now
    cut.result.rest.now
    c.requires.begins c.requires.wanted c.line_len-len.ensures.len is (take_rest bytes k) (cut.ensures.body (n + 1)) (cut.ensures.rest (n + 1))).1 in
    let number : end_line (n + 1) cut.result.body.now ≡ n + suc (length (lines cut.result.body.now)) = omega arith in
    subst (λ (m : ℕ). IsRest (behind_first c.args.wanted (divided n bytes).sections) (end_line n bytes) (n + length bytes) m cut.result.rest.now) number whole

pub returns-else-place-wanted-clause-body : goal.returns-else-place-wanted-clause-body
returns-else-place-wanted-clause-body c n =
    let bytes = c.args.bytes.now in
    let k = c.line_len-len.result in
    let differ : place (title (take k bytes)) ≢ c.args.wanted = λ e. c.if-place-wanted.false (c.place.ensures ∙ ap place c.title.ensures ∙ e) in
    sym (not_taken n k c.args.wanted bytes c.requires.begins c.line_len-len.ensures.len differ).0

pub returns-else-place-wanted-clause-rest : goal.returns-else-place-wanted-clause-rest
returns-else-place-wanted-clause-rest c n =
    let bytes = c.args.bytes.now in
    let k = c.line_len-len.result in
    let differ : place (title (take k bytes)) ≢ c.args.wanted = λ e. c.if-place-wanted.false (c.place.ensures ∙ ap place c.title.ensures ∙ e) in
    let none : n + 0 ≡ n = omega arith in
    let rest : IsRest (behind_first c.args.wanted (divided n bytes).sections) (end_line n bytes) (n + length bytes) n bytes = record {
      begins = c.requires.begins;
      same = sym (not_taken n k c.args.wanted bytes c.requires.begins c.line_len-len.ensures.len differ).1;
      end = refl;
      room = omega arith;
    } in
    subst (λ (m : ℕ). IsRest (behind_first c.args.wanted (divided n bytes).sections) (end_line n bytes) (n + length bytes) m bytes) (sym none) rest
