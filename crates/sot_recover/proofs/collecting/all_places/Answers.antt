use Rattle.std.proofs.Common.{◌≡◌, ⊎_elim, sym, subst, [], ◌∷◌, ◌++◌}
use Rattle.sot_lists.specs.Places.{Has}
use Rattle.sot_recover.proofs.Sets.{has_left, has_last, one_more}
use Rattle.sot_recover.proofs.collecting.all_places.Goals as goal

pub loop-i-preserved : goal.loop-i-preserved
loop-i-preserved c k lt =
    let l = c.loop-i in
    subst (λ xs. Has xs k) (sym c.in_ok-push.ensures.items)
    (⊎_elim
    (λ before. has_left l.places.items (l.i ∷ []) k (l.invariant k before))
    (λ (here : k ≡ l.i). subst (λ n. Has (l.places.items ++ l.i ∷ []) n) (sym here) (has_last l.places.items l.i))
    (one_more k l.i lt))
