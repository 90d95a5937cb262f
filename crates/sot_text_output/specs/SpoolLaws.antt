-- Why what is put into a spool grows piece by piece.
use Rattle.std.proofs.Common.{ℕ, List, [], ◌++◌, Option, refl, sym, ◌∙◌, subst}
use Rattle.std.proofs.Common.{append_assoc, append-nil}
use Rattle.sot_text_output.specs.declared.spool.Spool.{Spool}
use Rattle.sot_text_output.specs.Spools.{Spooling, IsSpooled, Grows}
use Rattle.sot_text_output.specs.SpoolViews.{spooling, Puts}

pub grows_nothing : (a : Spooling) → Grows a a []
grows_nothing a held faults text put =
    subst (IsSpooled held faults a) (sym (append-nil text)) put

pub grows_more : (a b c : Spooling) (x y : List ℕ) → Grows a b x → Grows b c y
    → Grows a c (x ++ y)
grows_more a b c x y first second held faults text put =
    subst (IsSpooled held faults c) (append_assoc text x y)
    (second held faults (text ++ x) (first held faults text put))

module _ {K : Type 0} (held : K → Option (List ℕ)) (faults : K → ℕ) where
  pub puts_nothing : (a : Spool K) → Puts held faults a a []
  puts_nothing a = (refl, grows_nothing (spooling held faults a))

  pub puts_more : (a b c : Spool K) (x y : List ℕ) → Puts held faults a b x
      → Puts held faults b c y → Puts held faults a c (x ++ y)
  puts_more a b c x y first second =
      (second.0 ∙ first.0, grows_more _ _ _ x y first.1 second.1)
