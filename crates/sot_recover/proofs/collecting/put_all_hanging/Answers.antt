use Rattle.std.proofs.Common.{◌≡◌, ◌<◌, ⊎_elim, sym, ◌∙◌, subst, arith}
use Rattle.std.specs.Prelude.{slice_index_or}
use Rattle.sot_lists.specs.Places.{Has}
use Rattle.sot_recover.proofs.Sets.{one_more, has_read}
use Rattle.sot_recover.proofs.collecting.put_all_hanging.Goals as goal

pub loop-n-preserved : goal.loop-n-preserved
loop-n-preserved g c =
    let l = c.loop-n in
    let a = c.in_ok-add_all.ensures in
    let f = c.args.fresh.now in
    record {
      size = a.size ∙ l.invariant.size;
      done = λ q i lt h there. ⊎_elim
          (λ (before : q < l.n). a.more i (l.invariant.done q i before h there))
          (λ (here : q ≡ l.n). let now = c.in_ok-put_hanging.ensures i (subst (λ n. g.L.Landing.hangs c.args.places.now (slice_index_or f n 0) i) here h) in
          a.here i (subst (λ xs. Has xs i) (sym c.deref.ensures.value) now) (let s = l.invariant.size in omega (arith, there, s)))
          (one_more q l.n lt);
      marks = a.marks;
    }

pub returns-clause-near : goal.returns-clause-near
returns-clause-near g c j i has h there =
    let r = has_read c.args.fresh.now j has in
    let lt = r.1 in
    let end = c.loop-n-test.false in
    c.loop-n.invariant.done r.0 i (omega (arith, lt, end)) (subst (λ n. g.L.Landing.hangs c.args.places.now n i) (sym r.2) h) there
