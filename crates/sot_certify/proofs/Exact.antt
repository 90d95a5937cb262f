-- One answer at most is true of a program, besides want of memory.
use Rattle.std.proofs.Common.{◌≡◌, ℕ, ◌<◌, ◌≤◌, ⊎_elim, ◌⊎◌, inl, inr, ℤ, Bool, false, true, Ok, Err, List, length, refl, ap, ◌∙◌, subst, arith}
use Rattle.std.proofs.lemmas.List.{length-append}
use Rattle.sot_box.specs.Sides.{Side}
use Rattle.sot_lists.specs.Places.{At}
use Rattle.sot_lists.proofs.Places.{at_same}
use Rattle.sot_lists.proofs.Numbers.{by_order}
use Rattle.sot_lang.specs.declared.cert.Cells.{Cells}
use Rattle.sot_lang.specs.declared.cert.Cert.{Cert}
use Rattle.sot_lang.specs.declared.tables.ModuleInfo.{ModuleInfo}
use Rattle.sot_lang.specs.Tables.{Tables}
use Rattle.sot_tube.specs.Checks.{and_then, for_each, IsExact}
use Rattle.sot_tube.specs.Verdict.{periods, outputs, boxes, composition, code}
use Rattle.sot_tube.proofs.Exact.{and_then_exact, for_each_exact}
use Rattle.sot_tube.proofs.VerdictExact.{composition_exact, code_exact, cells_same, periods_exact, outputs_exact, boxes_exact}
use Rattle.sot_rta.specs.Refused.{refusal_view}
use Rattle.sot_certify.specs.Findings.{Whole, Failing, Begun}
use Rattle.sot_certify.specs.HalvingLaws.{BeginsWith}
use Rattle.sot_certify.proofs.Agreement.{each_agree}
use Rattle.sot_certify.specs.declared.fail.CertifyFail.{CertifyFail}
use Rattle.sot_certify.specs.declared.fail.CertifyFail.TheVariants.{Refused, Point, TooMany, Memory}
use Rattle.sot_certify.specs.Conditions.{frame, without_cells}
use Rattle.sot_certify.specs.Made.{IsGood, region_of, IsMade, FailsAt, HasTooMany}
use Rattle.sot_certify.specs.Certifying.{IsMadeFor, AreMadeBefore, Fails}
use Rattle.sot_certify.specs.Laws.{SameFail, SameAnswer, AnswersAreOne}

frame_exact : (p : Tables) (m : ℕ) (a : ModuleInfo) → IsExact (frame p m a)
frame_exact p m a =
    and_then_exact (and_then (periods p m a) (outputs p m a)) (boxes m a)
    (and_then_exact (periods p m a) (outputs p m a) (periods_exact p m a) (outputs_exact p m a)) (boxes_exact m a)

without_exact : (p : Tables) → IsExact (without_cells p)
without_exact p =
    and_then_exact (composition p) (and_then (for_each p.modules (frame p)) (for_each p.nodes (code p))) (composition_exact p)
    (and_then_exact (for_each p.modules (frame p)) (for_each p.nodes (code p)) (for_each_exact p.modules (frame p) (frame_exact p))
    (for_each_exact p.nodes (code p) (code_exact p)))

-- a list that begins with more than 4,096 cells has more
too_long : (cells first : List (List Side)) → BeginsWith cells first → length cells ≤ 4096 → 4096 < length first → ⊥
too_long cells first h few many = (let n = ap length h.1 ∙ length-append first h.0 in omega (arith, n, few, many))

module _ (p : Tables) (a : ModuleInfo) (reach : Bool) where
  made_or_fails : (cells : List (List Side)) (s : List ℤ) → IsMade p a reach cells → FailsAt p a reach s → ⊥
  made_or_fails cells s made fails = each_agree (IsGood p a reach) (region_of a reach).boxes (Whole cells) (Failing fails.cells s) made.whole fails.found

  made_or_many : (cells : List (List Side)) → IsMade p a reach cells → HasTooMany p a reach → ⊥
  made_or_many cells made many =
      too_long cells many.cells (each_agree (IsGood p a reach) (region_of a reach).boxes (Whole cells) (Begun many.cells) made.whole many.found) made.few
      many.many

  fails_or_many : (s : List ℤ) → FailsAt p a reach s → HasTooMany p a reach → ⊥
  fails_or_many s fails many =
      too_long fails.cells many.cells (each_agree (IsGood p a reach) (region_of a reach).boxes (Failing fails.cells s) (Begun many.cells) fails.found
      many.found) fails.few many.many

  one_point : (s t : List ℤ) → FailsAt p a reach s → FailsAt p a reach t → s ≡ t
  one_point s t f g = (each_agree (IsGood p a reach) (region_of a reach).boxes (Failing f.cells s) (Failing g.cells t) f.found g.found).1

  one_list : (c d : List (List Side)) → IsMade p a reach c → IsMade p a reach d → c ≡ d
  one_list c d f g = each_agree (IsGood p a reach) (region_of a reach).boxes (Whole c) (Whole d) f.whole g.whole

-- a list that cannot be made, of either sort
abbrev IsStuck : Tables → ModuleInfo → Bool → Type 0
IsStuck p a reach = ((s : List ℤ) × FailsAt p a reach s) ⊎ HasTooMany p a reach

not_made : (p : Tables) (a : ModuleInfo) (reach : Bool) → IsStuck p a reach → ((cells : List (List Side)) × IsMade p a reach cells) → ⊥
not_made p a reach stuck made = ⊎_elim (λ f. made_or_fails p a reach made.0 f.0 made.1 f.1) (λ m. made_or_many p a reach made.0 made.1 m) stuck

-- the first list that cannot be made is one
record SameList (m n : ℕ) (a b : ModuleInfo) (r q : Bool) : Type 0 where
  place : m ≡ n
  info : a ≡ b
  sort : r ≡ q

same_sort : (p : Tables) (a : ModuleInfo) (r q : Bool) → IsStuck p a r → IsStuck p a q → (r ≡ true → (cells : List (List Side)) × IsMade p a false cells)
    → (q ≡ true → (cells : List (List Side)) × IsMade p a false cells) → r ≡ q
same_sort p a false false f g h k = refl
same_sort p a true true f g h k = refl
same_sort p a false true f g h k = absurd (not_made p a false f (k refl))
same_sort p a true false f g h k = absurd (not_made p a false g (h refl))

same_list : (p : Tables) (m n : ℕ) (a b : ModuleInfo) (r q : Bool) → AreMadeBefore p m a r → AreMadeBefore p n b q → IsStuck p a r → IsStuck p b q
    → SameList m n a b r q
same_list p m n a b r q h k f g =
    by_order m n
    (λ less. absurd (not_made p a r f (k.earlier m a r less h.is)))
    (λ more. absurd (not_made p b q g (h.earlier n b q more k.is)))
    (λ same.
    let one : a ≡ b = at_same p.modules n a b (subst (λ i. At p.modules i a) same h.is) k.is in
    record {
      place = same;
      info = one;
      sort =
          same_sort p b r q (subst (λ (x : ModuleInfo). IsStuck p x r) one f) g
          (subst (λ (x : ModuleInfo). r ≡ true → (cells : List (List Side)) × IsMade p x false cells) one h.closed) k.closed;
    })

same_fail : (p : Tables) (e f : CertifyFail) → Fails p e → Fails p f → SameFail e f
same_fail p (Refused r) (Refused s) h k = (without_exact p).unique (refusal_view r) (refusal_view s) h k
same_fail p (Refused r) (Point n q t) h k = (without_exact p).exclusive (refusal_view r) h k.0
same_fail p (Refused r) (TooMany n q) h k = (without_exact p).exclusive (refusal_view r) h k.0
same_fail p (Refused r) Memory h k = tt
same_fail p (Point m r s) (Refused x) h k = (without_exact p).exclusive (refusal_view x) k h.0
same_fail p (Point m r s) (Point n q t) h k =
    let e = same_list p m n h.1 k.1 r q h.2 k.2 (inl (s, h.3)) (inl (t, k.3)) in
    (e.place, e.sort, one_point p k.1 q s t (subst (λ x. FailsAt p k.1 x s) e.sort (subst (λ (x : ModuleInfo). FailsAt p x r s) e.info h.3)) k.3)
same_fail p (Point m r s) (TooMany n q) h k =
    let e = same_list p m n h.1 k.1 r q h.2 k.2 (inl (s, h.3)) (inr k.3) in
    fails_or_many p k.1 q s (subst (λ x. FailsAt p k.1 x s) e.sort (subst (λ (x : ModuleInfo). FailsAt p x r s) e.info h.3)) k.3
same_fail p (Point m r s) Memory h k = tt
same_fail p (TooMany m r) (Refused x) h k = (without_exact p).exclusive (refusal_view x) k h.0
same_fail p (TooMany m r) (Point n q t) h k =
    let e = same_list p n m k.1 h.1 q r k.2 h.2 (inl (t, k.3)) (inr h.3) in
    fails_or_many p h.1 r t (subst (λ x. FailsAt p h.1 x t) e.sort (subst (λ (x : ModuleInfo). FailsAt p x q t) e.info k.3)) h.3
same_fail p (TooMany m r) (TooMany n q) h k = (let e = same_list p m n h.1 k.1 r q h.2 k.2 (inr h.3) (inr k.3) in (e.place, e.sort))
same_fail p (TooMany m r) Memory h k = tt
same_fail p Memory (Refused r) h k = tt
same_fail p Memory (Point n q t) h k = tt
same_fail p Memory (TooMany n q) h k = tt
same_fail p Memory Memory h k = tt

-- a certificate and a failure are not true of one program
list_of : (p : Tables) (c : Cert) (a : ModuleInfo) (m : ℕ) (r : Bool) → IsMadeFor p c → At p.modules m a → (cells : List (List Side)) × IsMade p a r cells
list_of p c a m false h at = (let e = h.cells m a at in (e.0.closed.boxes, e.2.closed))
list_of p c a m true h at = (let e = h.cells m a at in (e.0.reach.boxes, e.2.reach))

made_fails : (p : Tables) (c : Cert) (e : CertifyFail) → (without_cells p).Passes × IsMadeFor p c → Fails p e → SameAnswer p (Ok c) (Err e)
made_fails p c (Refused r) h k = (without_exact p).exclusive (refusal_view r) k h.0
made_fails p c (Point m r s) h k = not_made p k.1 r (inl (s, k.3)) (list_of p c k.1 m r h.1 k.2.is)
made_fails p c (TooMany m r) h k = not_made p k.1 r (inr k.3) (list_of p c k.1 m r h.1 k.2.is)
made_fails p c Memory h k = tt

fails_made : (p : Tables) (c : Cert) (e : CertifyFail) → (without_cells p).Passes × IsMadeFor p c → Fails p e → SameAnswer p (Err e) (Ok c)
fails_made p c (Refused r) h k = (without_exact p).exclusive (refusal_view r) k h.0
fails_made p c (Point m r s) h k = not_made p k.1 r (inl (s, k.3)) (list_of p c k.1 m r h.1 k.2.is)
fails_made p c (TooMany m r) h k = not_made p k.1 r (inr k.3) (list_of p c k.1 m r h.1 k.2.is)
fails_made p c Memory h k = tt

pub answers_are_one : AnswersAreOne
answers_are_one p (Ok c) (Ok d) h k = λ m a x y at has_x has_y.
    let e = h.1.cells m a at in
    let f = k.1.cells m a at in
    let ex = cells_same c m e.0 x e.1 has_x in
    let fy = cells_same d m f.0 y f.1 has_y in (
      one_list p a false x.closed.boxes y.closed.boxes (subst (λ (z : Cells). IsMade p a false z.closed.boxes) ex e.2.closed)
          (subst (λ (z : Cells). IsMade p a false z.closed.boxes) fy f.2.closed),
      one_list p a true x.reach.boxes y.reach.boxes (subst (λ (z : Cells). IsMade p a true z.reach.boxes) ex e.2.reach)
          (subst (λ (z : Cells). IsMade p a true z.reach.boxes) fy f.2.reach),
    )
answers_are_one p (Ok c) (Err e) h k = made_fails p c e h k
answers_are_one p (Err e) (Ok d) h k = fails_made p d e k h
answers_are_one p (Err e) (Err f) h k = same_fail p e f h k
