use Rattle.std.proofs.Common.{◌≡◌, ℕ, ◌+◌, ◌<◌, List, length, slice_index, subst, sym, ◌∙◌, arith}
use Rattle.std.proofs.lemmas.List.{take_rest}
use Rattle.memchr.specs.Find.{Nowhere, NoneBefore, Passes, is_byte}
use Rattle.sot_atoms.specs.Sets.{IsFirstMember}
use Rattle.sot_atoms.proofs.NextMembers.{none_found, first_found}
use Rattle.sot_atoms.proofs.set.AtomSet.next.Goals as goal

pub returns-in-None : goal.returns-in-None
returns-in-None c k low m =
    let e : c.deref.result.now ≡ c.args.self.now = c.deref.ensures.value ∙ c.self.view_is in
    let inside : c.args.from < length c.deref.result.now = omega arith in
    let none = subst (λ (xs : List ℕ). Nowhere (Passes (is_byte 1) xs) 0 (length xs)) (take_rest c.deref.result.now c.args.from) c.in-None.ensures in
    none_found c.deref.result.now c.args.from inside none k low (subst (λ xs. slice_index xs k ≡ 1) (sym e) m)

pub returns-in-Some : goal.returns-in-Some
returns-in-Some c =
    let e : c.deref.result.now ≡ c.args.self.now = c.deref.ensures.value ∙ c.self.view_is in
    let inside : c.args.from < length c.deref.result.now = omega arith in
    let found = subst
    (λ (xs : List ℕ). NoneBefore (Passes (is_byte 1) xs) 0 (length xs) c.in-Some.behind × Passes (is_byte 1) xs c.in-Some.behind)
    (take_rest c.deref.result.now c.args.from) c.in-Some.ensures in
    subst (λ xs. IsFirstMember xs c.args.from (c.args.from + c.in-Some.behind)) e
    (first_found c.deref.result.now c.args.from c.in-Some.behind inside found.0.high found.0.before found.1)
