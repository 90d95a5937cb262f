-- A body that does not trap leaves its locals in their ranges and drafts numbers in theirs.
use Rattle.std.proofs.Common.{◌≡◌, ℕ, zero, suc, ℤ, ◌⊎◌, inl, inr, ⊎_elim, List, [], ◌∷◌, ◌++◌, Some, None, Ok, Err, length, replicate, refl, sym, ap, subst}
use Rattle.std.specs.Prelude.{slice_set, int_le, ◌&&◌, if◌then◌else◌}
use Rattle.std.proofs.lemmas.Bool.{cases_Bool}
use Rattle.sot_box.specs.Sides.{Side, IsIn, nought}
use Rattle.sot_text.specs.declared.token.Span.{Span}
use Rattle.sot_lang.specs.declared.act.Act.{Act, Row_of-Act, end_of-Act, more_of-Act}
use Rattle.sot_lang.specs.declared.act.Act.TheVariants.{Assign, Publish, If', Repeat'}
use Rattle.sot_lang.specs.Values.{Outcome, value_of, then_with, is_true}
use Rattle.sot_lists.specs.Places.{At}
use Rattle.sot_box.specs.Boxes.{IsWithin}
use Rattle.std.proofs.lemmas.Option.{get_or_from_slice_get, same_Some}
use Rattle.sot_box.proofs.Ranges.{within_set, in_range_is}
use Rattle.sot_lang.specs.Bodies.{Fired, in_range, times, act, acts, body, execution}

-- locals and draft in their ranges
record Fits (locals writes : List Side) (f : Fired) : Type 0 where
  locals_in : IsWithin locals f.locals
  draft_in : (i : ℕ) (z : ℤ) → At f.draft i (Some z) → (r : Side) × At writes i r × IsIn r z

abbrev FitsIfOk : List Side → List Side → Outcome Fired → Type 0
FitsIfOk locals writes (Ok f) = Fits locals writes f
FitsIfOk locals writes (Err t) = Unit {0}

then_fits : (locals writes : List Side) (o : Outcome Fired) (g : Fired → Outcome Fired) → FitsIfOk locals writes o
    → ((f : Fired) → Fits locals writes f → FitsIfOk locals writes (g f)) → FitsIfOk locals writes (then_with o g)
then_fits locals writes (Ok f) g a h = h f a
then_fits locals writes (Err t) g a h = tt

times_fit : (locals writes : List Side) (n : ℕ) (g : Fired → Outcome Fired) (f : Fired) → ((f : Fired) → Fits locals writes f → FitsIfOk locals writes (g f))
    → Fits locals writes f → FitsIfOk locals writes (times n g f)
times_fit locals writes zero g f h a = a
times_fit locals writes (suc n) g f h a = then_fits locals writes (g f) (times n g) (h f a) (λ f' a'. times_fit locals writes n g f' h a')

-- a value in its range is put into the locals
abbrev RangedIs : List Side → ℕ → Outcome ℤ → Type 0
RangedIs rs k (Ok z) = (r : Side) × At rs k r × IsIn r z
RangedIs rs k (Err t) = Unit {0}

ranged_fits : (rs : List Side) (k : ℕ) (at : Span) (z : ℤ) → RangedIs rs k (in_range rs k at z)
ranged_fits [] k at z = tt
ranged_fits (r ∷ rs) zero at z =
    ⊎_elim
    (λ t. rw t (r, refl, in_range_is r z t))
    (λ f. rw f tt)
    (cases_Bool (int_le r.lo z && int_le z r.hi))
ranged_fits (r ∷ rs) (suc k) at z = ranged_deeper r rs k (in_range rs k at z) (ranged_fits rs k at z)
  where
    ranged_deeper : (r : Side) (rs : List Side) (k : ℕ) (o : Outcome ℤ) → RangedIs rs k o → RangedIs (r ∷ rs) (suc k) o
    ranged_deeper r rs k (Ok z) h = h
    ranged_deeper r rs k (Err t) h = tt

then_ranged : (rs : List Side) (k : ℕ) (at : Span) (v : Outcome ℤ) → RangedIs rs k (then_with v (in_range rs k at))
then_ranged rs k at (Ok z) = ranged_fits rs k at z
then_ranged rs k at (Err t) = tt

at_set : {A : Type 0} (xs : List A) (k i : ℕ) (v y : A) → At (slice_set xs k v) i y → ((i ≡ k) × (y ≡ v)) ⊎ At xs i y
at_set [] k i v y a = inr a
at_set (x ∷ xs) zero zero v y a = inl (refl, cc)
at_set (x ∷ xs) zero (suc i) v y a = inr a
at_set (x ∷ xs) (suc k) zero v y a = inr a
at_set (x ∷ xs) (suc k) (suc i) v y a = ⊎_elim (λ e. inl (ap suc e.0, e.1)) (λ b. inr b) (at_set xs k i v y a)

assign_fits : (locals writes : List Side) (k : ℕ) (f : Fired) (o : Outcome ℤ) → Fits locals writes f → RangedIs locals k o
    → FitsIfOk locals writes (then_with o (λ z. Ok (record { locals = slice_set f.locals k z; draft = f.draft })))
assign_fits locals writes k f (Err t) h r = tt
assign_fits locals writes k f (Ok z) h r =
    let e = get_or_from_slice_get locals k r.0 nought r.1 in
    record { locals_in = within_set locals f.locals k z h.locals_in (subst (λ s. IsIn s z) (sym e) r.2); draft_in = h.draft_in }

publish_fits : (locals writes : List Side) (k : ℕ) (f : Fired) (o : Outcome ℤ) → Fits locals writes f → RangedIs writes k o
    → FitsIfOk locals writes (then_with o (λ z. Ok (record { locals = f.locals; draft = slice_set f.draft k (Some z) })))
publish_fits locals writes k f (Err t) h r = tt
publish_fits locals writes k f (Ok z) h r =
    record {
      locals_in = h.locals_in;
      draft_in = λ i y at. ⊎_elim
          (λ e. let yz : y ≡ z = same_Some y z e.1 in (r.0, rw e.0 r.1, rw yz r.2))
          (λ old. h.draft_in i y old)
          (at_set f.draft k i (Some z) (Some y) at);
    }

either_fits : (locals writes : List Side) (o : Outcome ℤ) (t e : Outcome Fired) → FitsIfOk locals writes t → FitsIfOk locals writes e
    → FitsIfOk locals writes (then_with o (λ z. if is_true z then t else e))
either_fits locals writes (Err x) t e a b = tt
either_fits locals writes (Ok z) t e a b = ⊎_elim (λ h. rw h a) (λ h. rw h b) (cases_Bool (is_true z))

mutual
  act_fits : (seen : List ℤ) (locals writes : List Side) (a : Act) (f : Fired) → Fits locals writes f → FitsIfOk locals writes (act seen locals writes a f)
  act_fits seen locals writes (Assign k t at) f h = assign_fits locals writes k f _ h (then_ranged locals k at (value_of t (seen ++ f.locals)))
  act_fits seen locals writes (Publish k t at) f h = publish_fits locals writes k f _ h (then_ranged writes k at (value_of t (seen ++ f.locals)))
  act_fits seen locals writes (If' t s1 us s2 vs) f h =
      either_fits locals writes (value_of t (seen ++ f.locals)) _ _ (acts_fit seen locals writes us f h) (acts_fit seen locals writes vs f h)
  act_fits seen locals writes (Repeat' n s us) f h = times_fit locals writes n _ f (λ g i. acts_fit seen locals writes us g i) h

  acts_fit : {m : _} (seen : List ℤ) (locals writes : List Side) (us : Row_of-Act m) (f : Fired) → Fits locals writes f
      → FitsIfOk locals writes (acts seen locals writes us f)
  acts_fit seen locals writes end_of-Act f h = h
  acts_fit seen locals writes (more_of-Act a rest) f h =
      then_fits locals writes (act seen locals writes a f) _ (act_fits seen locals writes a f h) (λ g i. acts_fit seen locals writes rest g i)

body_fits : (seen : List ℤ) (locals writes : List Side) (us : List Act) (f : Fired) → Fits locals writes f
    → FitsIfOk locals writes (body seen locals writes us f)
body_fits seen locals writes [] f h = h
body_fits seen locals writes (a ∷ rest) f h =
    then_fits locals writes (act seen locals writes a f) _ (act_fits seen locals writes a f h) (λ g i. body_fits seen locals writes rest g i)

no_draft : (n i : ℕ) (z : ℤ) → At (replicate n None) i (Some z) → ⊥
no_draft zero i z a = cc
no_draft (suc n) zero z a = cc
no_draft (suc n) (suc i) z a = no_draft n i z a

pub exec_locals : (us : List Act) (locals writes : List Side) (seen at_start : List ℤ) (f : Fired) → IsWithin locals at_start
    → execution us locals writes seen at_start ≡ Ok f → IsWithin locals f.locals
unfolding execution
exec_locals us locals writes seen at_start f w e =
    let start : Fits locals writes (record { locals = at_start; draft = replicate (length writes) None }) =
    record { locals_in = w; draft_in = λ i z a. absurd (no_draft (length writes) i z a) } in
    (subst (FitsIfOk locals writes) e (body_fits seen locals writes us _ start)).locals_in

pub exec_draft : (us : List Act) (locals writes : List Side) (seen at_start : List ℤ) (f : Fired) → IsWithin locals at_start
    → execution us locals writes seen at_start ≡ Ok f → (i : ℕ) (z : ℤ) → At f.draft i (Some z) → (r : Side) × At writes i r × IsIn r z
unfolding execution
exec_draft us locals writes seen at_start f w e =
    let start : Fits locals writes (record { locals = at_start; draft = replicate (length writes) None }) =
    record { locals_in = w; draft_in = λ i z a. absurd (no_draft (length writes) i z a) } in
    (subst (FitsIfOk locals writes) e (body_fits seen locals writes us _ start)).draft_in
