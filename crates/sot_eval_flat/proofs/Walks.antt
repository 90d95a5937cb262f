-- Lists of steps, and blocks of steps read as the list of a `Vec`.
use Rattle.std.proofs.Common.{◌≡◌, ℕ, zero, suc, ◌+◌, ◌<◌, true, false, List, [], ◌∷◌, ◌++◌, take, length, get_or, refl, sym, ap, ◌∙◌, subst, add-one}
use Rattle.std.proofs.lemmas.List.{take_more}
use Rattle.std.specs.Global.{Vec}
use Rattle.sot_lang.specs.Values.{is_true}
use Rattle.sot_eval_flat.specs.declared.step.Step.{Step, Choice, Turns, Row_of-Step, end_of-Step, more_of-Step, items-the_row-Step, items_hidden-the_row-Step-0}
use Rattle.sot_eval_flat.specs.declared.step.Step.TheBlock.{hidden-the_row-Step-0}
use Rattle.sot_eval_flat.specs.Instructions.{number_at}
use Rattle.sot_eval_flat.specs.Flows.{State, Flows, FlowRow, FlowAll, Rounds}

pub flow_join : (fs bs : List Step) (s m t : State) → FlowAll fs s m → FlowAll bs m t → FlowAll (fs ++ bs) s t
flow_join [] bs s m t a b = subst (λ x. FlowAll bs x t) a b
flow_join (i ∷ fs) bs s m t a b = (a.0, a.1, flow_join fs bs a.0 m t a.2 b)

pub flow_part : (fs bs : List Step) (s t : State) → FlowAll (fs ++ bs) s t → (m : State) × FlowAll fs s m × FlowAll bs m t
flow_part [] bs s t r = (s, refl, r)
flow_part (i ∷ fs) bs s t r = (let q = flow_part fs bs r.0 t r.2 in (q.0, (r.0, r.1, q.1), q.2))

-- one more step
pub flow_more : (steps : List Step) (i : ℕ) (one : Step) (s m t : State) → i < length steps → one ≡ get_or steps i one
    → FlowAll (take i steps) s m → Flows one m t → FlowAll (take (i + 1) steps) s t
flow_more steps i one s m t lt is before now =
    subst (λ l. FlowAll l s t) (sym (take_more steps i one lt ∙ ap (λ x. take i steps ++ x ∷ []) (sym is)))
    (flow_join (take i steps) (one ∷ []) s m t before (t, now, refl))

-- one more turn
pub round_more : (k : ℕ) (Round : State → State → Type 0) (s m t : State) → Rounds k Round s m → Round m t → Rounds (k + 1) Round s t
round_more k Round s m t before now = subst (λ n. Rounds n Round s t) (sym (add-one k)) (m, before, now)

row_flow : {m : _} (us : Row_of-Step m) (s t : State) → FlowAll (items-the_row-Step _ us) s t → FlowRow us s t
row_flow end_of-Step s t h = h
row_flow (more_of-Step a rest) s t h = (h.0, h.1, row_flow rest h.0 t h.2)

flow_row : {m : _} (us : Row_of-Step m) (s t : State) → FlowRow us s t → FlowAll (items-the_row-Step _ us) s t
flow_row end_of-Step s t h = h
flow_row (more_of-Step a rest) s t h = (h.0, h.1, flow_row rest h.0 t h.2)

block_row : (v : Vec Step) (s t : State) → FlowAll v.items s t → FlowRow (hidden-the_row-Step-0 v) s t
block_row v s t h = row_flow (hidden-the_row-Step-0 v) s t (subst (λ us. FlowAll us s t) (sym (items_hidden-the_row-Step-0 v)) h)

row_block : (v : Vec Step) (s t : State) → FlowRow (hidden-the_row-Step-0 v) s t → FlowAll v.items s t
row_block v s t h = subst (λ us. FlowAll us s t) (items_hidden-the_row-Step-0 v) (flow_row (hidden-the_row-Step-0 v) s t h)

rounds_map : (k : ℕ) (Old New : State → State → Type 0) (s t : State) → ((x y : State) → Old x y → New x y) → Rounds k Old s t → Rounds k New s t
rounds_map zero Old New s t f r = r
rounds_map (suc k) Old New s t f r = (r.0, rounds_map k Old New s r.0 f r.1, f r.0 t r.2)

-- the way that is taken
pub choose_first : (place : ℕ) (u v : Vec Step) (s t : State) → is_true (number_at s.room place) ≡ true → FlowAll u.items s t → Flows (Choice place u v) s t
choose_first place u v s t first h = (λ e. block_row u s t h, λ e. absurd (let no : true ≡ false = sym first ∙ e in cc))

pub choose_second : (place : ℕ) (u v : Vec Step) (s t : State) → is_true (number_at s.room place) ≡ false → FlowAll v.items s t → Flows (Choice place u v) s t
choose_second place u v s t second h = (λ e. absurd (let no : true ≡ false = sym e ∙ second in cc), λ e. block_row v s t h)

-- what the ways lead to
pub chosen : (place : ℕ) (u v : Vec Step) (s t : State) → Flows (Choice place u v) s t
    → (is_true (number_at s.room place) ≡ true → FlowAll u.items s t) × (is_true (number_at s.room place) ≡ false → FlowAll v.items s t)
chosen place u v s t h = (λ e. row_block u s t (h.0 e), λ e. row_block v s t (h.1 e))

pub turn : (k : ℕ) (u : Vec Step) (s t : State) → Rounds k (FlowAll u.items) s t → Flows (Turns k u) s t
turn k u s t h = rounds_map k (FlowAll u.items) (FlowRow (hidden-the_row-Step-0 u)) s t (λ x y f. block_row u x y f) h

pub turned : (k : ℕ) (u : Vec Step) (s t : State) → Flows (Turns k u) s t → Rounds k (FlowAll u.items) s t
turned k u s t h = rounds_map k (FlowRow (hidden-the_row-Step-0 u)) (FlowAll u.items) s t (λ x y f. row_block u x y f) h
