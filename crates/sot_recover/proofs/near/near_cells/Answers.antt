use Rattle.std.proofs.Common.{inr, ⊎_elim, sym, subst}
use Rattle.sot_lists.specs.Places.{Has}
use Rattle.sot_box.specs.Regions.{IsInRegion}
use Rattle.sot_recover.specs.Near.{IsNear}
use Rattle.sot_recover.proofs.Grounds.{shared_meet}
use Rattle.sot_recover.proofs.near.near_cells.Goals as goal

pub returns-clause-near : goal.returns-clause-near
returns-clause-near c =
    let found = c.put_meeting.new.found.items in
    let points = c.in_ok-push_all.ensures.points in
    subst (IsNear c.args.cells.now c.args.set.now c.args.b.now) (sym c.in_ok-settle_many.ensures.boxes) (record {
      inside = λ s h. ⊎_elim (λ none. absurd (subst (λ bs. IsInRegion bs s) c.none-near.ensures.empty none)) (λ w. (w.0, w.2)) ((points s).0 h);
      all =
          λ s i x w. (points s).1 (inr (
            i,
            subst (λ xs. Has xs i) (sym c.deref.ensures.value)
                ((c.in_ok-put_meeting.ensures.places i).1 (x.0, x.2, shared_meet x.0 c.args.b.now s x.3 w)),
            x,
          ));
    })
