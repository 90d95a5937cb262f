use Rattle.std.proofs.Common.{arith, ℕ, ◌≡◌, length, inl, inr, refl, sym, ◌∙◌, subst}
use Rattle.std.proofs.lemmas.Option.{slice_get_read, slice_get_within, same_Some}
use Rattle.sot_lang.specs.declared.tables.ModuleInfo.{ModuleInfo}
use Rattle.sot_lists.specs.Places.{At}
use Rattle.sot_rta.proofs.Steps.{below_next}
use Rattle.sot_compose.specs.Parts.{Uses}
use Rattle.sot_compose.proofs.parts.are_in_order.Goals as goal

pub loop-info-preserved : goal.loop-info-preserved
loop-info-preserved c =
    let k = c.loop-info.info-index in
    let ms = c.args.modules.now in
    let here : At ms k c.info-item.result = slice_get_read ms (length ms) k c.info-item.result refl c.loop-info-test.true c.info-item.is in
    let is = λ (m : ℕ) (a : ModuleInfo) (same : m ≡ k) (at : At ms m a). same_Some a c.info-item.result (sym (subst (λ i. At ms i a) same at) ∙ here) in
    let ends = λ (m : ℕ) (a : ModuleInfo) (x : ℕ) (same : m ≡ k) (at : At ms m a) (u : Uses c.args.part a x).
    c.ends-low.ensures.within x (subst (λ (b : ModuleInfo). Uses c.args.part b x) (is m a same at) u) in
    record {
      below = λ m a x lt at u. elim (below_next m k lt) [
        | inl less ↦ omega (arith, c.loop-info.invariant.below m a x less at u, c.if-low-next.false, c.ends-low.ensures.ordered)
        | inr same ↦ omega (arith, (ends m a x same at u).1)
      ];
      apart = λ x m n lt last shared. elim (below_next n k last) [
        | inl less ↦ c.loop-info.invariant.apart x m n lt less shared
        | inr same ↦ absurd (omega (
          arith,
          c.loop-info.invariant.below m shared.0 x (omega (arith, lt, same)) shared.2 shared.4,
          c.if-low-next.false,
          (ends n shared.1 x same shared.3 shared.5).0,
        ))
      ];
    }

pub returns : goal.returns
returns c e x m n lt shared =
    c.loop-info.invariant.apart x m n lt (omega (arith, slice_get_within c.args.modules.now n shared.1 shared.3, c.loop-info-test.false)) shared
