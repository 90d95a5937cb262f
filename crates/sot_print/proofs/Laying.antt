-- Words laid out one after another.
use Rattle.std.proofs.Common.{◌≡◌, List, [], ◌∷◌, ◌++◌, refl, sym, ap, ◌∙◌, append_assoc}
use Rattle.sot_print.specs.Words.{Word, blanks, laid}

pub laid-append : (a b : List Word) → laid (a ++ b) ≡ laid a ++ laid b
laid-append [] b = refl
laid-append (w ∷ a) b =
    ap (λ more. blanks w.before ++ (w.text ++ more)) (laid-append a b)
    ∙ ap (λ more. blanks w.before ++ more) (sym (append_assoc w.text (laid a) (laid b)))
    ∙ sym (append_assoc (blanks w.before) (w.text ++ laid a) (laid b))

pub ruleset laying = (laid-append, append_assoc)
