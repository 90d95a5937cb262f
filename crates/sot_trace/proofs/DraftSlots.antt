-- A body that does not trap drafts a number or nothing for each scalar that its node writes.
use Rattle.std.proofs.Common.{◌≡◌, ◌∙◌, ℕ, zero, suc, ℤ, Bool, true, false, List, [], ◌∷◌, ◌++◌, Some, None, Ok, Err, length, subst}
use Rattle.std.specs.Prelude.{if◌then◌else◌}
use Rattle.std.proofs.lemmas.List.{length-set, length-replicate}
use Rattle.sot_box.specs.Sides.{Side}
use Rattle.sot_lang.specs.declared.act.Act.{Act, Row_of-Act, end_of-Act, more_of-Act}
use Rattle.sot_lang.specs.declared.act.Act.TheVariants.{Assign, Publish, If', Repeat'}
use Rattle.sot_lang.specs.Values.{Outcome, value_of, then_with, is_true}
use Rattle.sot_lang.specs.Bodies.{Fired, in_range, times, act, acts, body, execution}

-- what does not trap has so many slots
abbrev HaveSlots : ℕ → Outcome Fired → Type 0
HaveSlots n (Ok f) = length f.draft ≡ n
HaveSlots n (Err t) = Unit {0}

then_slots : (n : ℕ) (o : Outcome Fired) (g : Fired → Outcome Fired) → HaveSlots n o → ((f : Fired) → length f.draft ≡ n → HaveSlots n (g f))
    → HaveSlots n (then_with o g)
then_slots n (Ok f) g size more = more f size
then_slots n (Err t) g size more = tt

value_slots : (n : ℕ) (o : Outcome ℤ) (g : ℤ → Outcome Fired) → ((z : ℤ) → HaveSlots n (g z)) → HaveSlots n (then_with o g)
value_slots n (Ok z) g more = more z
value_slots n (Err t) g more = tt

either_slots : (n : ℕ) (b : Bool) (x y : Outcome Fired) → HaveSlots n x → HaveSlots n y → HaveSlots n (if b then x else y)
either_slots n true x y first second = first
either_slots n false x y first second = second

times_slots : (n count : ℕ) (g : Fired → Outcome Fired) (f : Fired) → ((f : Fired) → length f.draft ≡ n → HaveSlots n (g f)) → length f.draft ≡ n
    → HaveSlots n (times count g f)
times_slots n zero g f each size = size
times_slots n (suc count) g f each size = then_slots n (g f) (times count g) (each f size) (λ h more. times_slots n count g h each more)

mutual
  act_slots : (n : ℕ) (seen : List ℤ) (locals writes : List Side) (a : Act) (f : Fired) → length f.draft ≡ n → HaveSlots n (act seen locals writes a f)
  act_slots n seen locals writes (Assign k t at) f size = value_slots n (then_with (value_of t (seen ++ f.locals)) (in_range locals k at)) _ (λ z. size)
  act_slots n seen locals writes (Publish k t at) f size =
      value_slots n (then_with (value_of t (seen ++ f.locals)) (in_range writes k at)) _ (λ z. length-set f.draft k (Some z) ∙ size)
  act_slots n seen locals writes (If' t s us r vs) f size =
      value_slots n (value_of t (seen ++ f.locals)) _ (λ z. either_slots n (is_true z) _ _ (acts_slots n seen locals writes us f size)
      (acts_slots n seen locals writes vs f size))
  act_slots n seen locals writes (Repeat' count s us) f size = times_slots n count _ f (λ g more. acts_slots n seen locals writes us g more) size

  acts_slots : {m : _} (n : ℕ) (seen : List ℤ) (locals writes : List Side) (us : Row_of-Act m) (f : Fired) → length f.draft ≡ n
      → HaveSlots n (acts seen locals writes us f)
  acts_slots n seen locals writes end_of-Act f size = size
  acts_slots n seen locals writes (more_of-Act a rest) f size =
      then_slots n (act seen locals writes a f) _ (act_slots n seen locals writes a f size) (λ g more. acts_slots n seen locals writes rest g more)

body_slots : (n : ℕ) (seen : List ℤ) (locals writes : List Side) (us : List Act) (f : Fired) → length f.draft ≡ n → HaveSlots n (body seen locals writes us f)
body_slots n seen locals writes [] f size = size
body_slots n seen locals writes (a ∷ rest) f size =
    then_slots n (act seen locals writes a f) _ (act_slots n seen locals writes a f size) (λ g more. body_slots n seen locals writes rest g more)

pub execution_slots : (us : List Act) (locals writes : List Side) (seen at_start : List ℤ) (f : Fired) → execution us locals writes seen at_start ≡ Ok f
    → length f.draft ≡ length writes
unfolding execution
execution_slots us locals writes seen at_start f e =
    subst (HaveSlots (length writes)) e (body_slots (length writes) seen locals writes us _ (length-replicate (length writes) None))
