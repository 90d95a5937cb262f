use Rattle.std.proofs.Common.{arith, rules, ◌≡◌, ◌-◌, [], ◌∷◌, ◌++◌, ap, ◌∙◌}
use Rattle.sot_certify.proofs.Taking.{turned_more}
use Rattle.sot_certify.proofs.listing.opened.Goals as goal

pub loop-left-preserved : goal.loop-left-preserved
loop-left-preserved c =
    let pushed : c.push.new.self.items ≡ c.loop-left.pending.items ++ c.at.result ∷ [] = search (rules, c.in_ok-push.ensures.items) in
    record {
      inside = omega (arith, c.loop-left.invariant.inside);
      done =
          pushed ∙ ap (λ l. l ++ c.at.result ∷ []) c.loop-left.invariant.done
          ∙ turned_more c.args.region.now.boxes c.loop-left.left (c.loop-left.left - 1) c.at.result (omega (arith, c.loop-left-test.true)) c.at.ensures.place;
    }
