use Rattle.std.proofs.Common.{◌≡◌, ℕ, ◌<◌, List, ◌+◌, ◌-◌, ◌++◌, [], ◌∷◌, take, drop, length, replicate, arith, ap, sym, ◌∙◌}
use Rattle.std.proofs.Math.ListN.{length-set}
use Rattle.std.proofs.lemmas.List.{take_more, take_more_set, drop-set-lt, drop-replicate}
use Rattle.std.proofs.lemmas.Grind.{drop_more_same}
use Rattle.std.specs.Prelude.{slice_set}
use Rattle.sot_iv.specs.declared.drafted.Drafted.{Drafted}
use Rattle.sot_iv.specs.declared.drafted.Drafted.TheVariants.{Absent}
use Rattle.sot_iv.proofs.drafted.IvDraft.from_slice.Goals as goal

-- one slot fewer is left
rest_step : (slots : List Drafted) (i : ℕ) (x : Drafted) → i < 8 → length slots ≡ 8 → drop i slots ≡ replicate (8 - i) Absent
    → drop (i + 1) (slice_set slots i x) ≡ replicate (8 - (i + 1)) Absent
rest_step slots i x lt eight h =
    drop-set-lt (i + 1) slots i x (omega arith)
    ∙ drop_more_same slots (replicate 8 Absent) i (h ∙ sym (drop-replicate i 8 Absent))
    ∙ drop-replicate (i + 1) 8 Absent

pub loop-i-preserved : goal.loop-i-preserved
loop-i-preserved c =
    let k = c.loop-i.invariant in
    let x = c.index-draft-i.result in record {
      eight = length-set _ _ _ ∙ k.eight;
      taken = take_more_set c.loop-i.slots c.loop-i.i x (omega (arith, k.eight, c.requires, c.loop-i-test.true)) ∙ ap (λ zs. zs ++ x ∷ []) k.taken
          ∙ sym (take_more c.args.draft.now c.loop-i.i x c.loop-i-test.true ∙ ap (λ z. take c.loop-i.i c.args.draft.now ++ z ∷ []) (sym c.index-draft-i.is));
      rest = rest_step c.loop-i.slots c.loop-i.i x (omega (arith, c.requires, c.loop-i-test.true)) k.eight k.rest;
    }
