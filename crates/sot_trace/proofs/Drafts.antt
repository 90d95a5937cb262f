-- A draft, slot by slot.
use Rattle.std.proofs.Common.{◌≡◌, ℕ, ◌+◌, ℤ, List, ◌++◌, Option, drop, ap₂}
use Rattle.sot_lang.specs.Tables.{Tables}
use Rattle.sot_lists.specs.Places.{At}
use Rattle.sot_lists.proofs.Places.{drop_at}
use Rattle.sot_trace.specs.Drafts.{slot_text, draft_text, slot_refused, draft_refused}

module _ (p : Tables) (ks : List ℕ) (draft : List (Option ℤ)) (i k : ℕ) (slot : Option ℤ) (at_k : At ks i k) (at_slot : At draft i slot) where
  pub text_more : draft_text p (drop i ks) (drop i draft) ≡ slot_text p k slot ++ draft_text p (drop (i + 1) ks) (drop (i + 1) draft)
  text_more = ap₂ (draft_text p) (drop_at ks i k at_k) (drop_at draft i slot at_slot)

  pub refused_more : draft_refused p (drop i ks) (drop i draft) ≡ slot_refused p k slot + draft_refused p (drop (i + 1) ks) (drop (i + 1) draft)
  refused_more = ap₂ (draft_refused p) (drop_at ks i k at_k) (drop_at draft i slot at_slot)
