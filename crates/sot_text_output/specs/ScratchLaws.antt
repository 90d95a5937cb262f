-- Why what is put into a scratch grows piece by piece.
use Rattle.std.proofs.Common.{ℕ, List, [], ◌++◌, refl, sym, ap, ◌∙◌, append_assoc, append-nil}
use Rattle.std.specs.String.{string_bytes}
use Rattle.sot_text_output.specs.declared.scratch.Scratch.{Scratch}
use Rattle.sot_text_output.specs.Scratches.{Keeps}

pub keeps_nothing : (a : Scratch) → Keeps a a []
keeps_nothing a = (refl, λ whole. (whole, sym (append-nil (string_bytes a.text.now))))

pub keeps_more : (a b c : Scratch) (x y : List ℕ) → Keeps a b x → Keeps b c y → Keeps a c (x ++ y)
keeps_more a b c x y first second = (
  second.0 ∙ first.0,
  λ whole.
      let later = second.1 whole in
      let sooner = first.1 later.0 in (
        sooner.0,
        later.1 ∙ ap (λ l. l ++ y) sooner.1 ∙ append_assoc (string_bytes a.text.now) x y,
      ),
)
