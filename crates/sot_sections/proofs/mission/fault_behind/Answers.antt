use Rattle.std.proofs.Common.{◌≡◌, ◌≢◌, ℕ, ◌<◌, true, false, ◌==◌, length, take, rules, refl, sym, ap, ◌∙◌, arith}
use Rattle.std.proofs.lemmas.Bool.Decides.{nat_tests}
use Rattle.sot_sections.specs.Sections.{title, place}
use Rattle.sot_sections.proofs.SectionSteps.{fault_here}
use Rattle.sot_sections.proofs.mission.fault_behind.Goals as goal

pub returns-then-place-eq0 : goal.returns-then-place-eq0
returns-then-place-eq0 c =
    let bytes = c.args.bytes.now in
    let k = c.line_len.result in
    let some : 0 < length bytes = search rules in
    let none : place (title (take k bytes)) ≡ 0 = ap place (sym c.title.ensures) ∙ sym c.place.ensures ∙ c.if-place-eq0.true in
    let test : (place (title (take k bytes)) == 0) ≡ true = rw none refl in
    sym (rw test at (fault_here c.args.line k bytes c.requires some c.line_len.ensures.len))

not_zero : (n : ℕ) → n ≢ 0 → (n == 0) ≡ false
not_zero n some = grind (arith, nat_tests)

pub returns-else-place-eq0 : goal.returns-else-place-eq0
returns-else-place-eq0 c =
    let bytes = c.args.bytes.now in
    let k = c.line_len.result in
    let some : 0 < length bytes = search rules in
    let test : (place (title (take k bytes)) == 0) ≡ false =
    not_zero (place (title (take k bytes))) (λ e. c.if-place-eq0.false (c.place.ensures ∙ ap place c.title.ensures ∙ e)) in
    sym (rw test at (fault_here c.args.line k bytes c.requires some c.line_len.ensures.len))
