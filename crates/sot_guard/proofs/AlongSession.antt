-- A session that is another one.
use Rattle.std.proofs.Common.{◌≡◌, ℕ, zero, suc, ℤ, Bool, true, false, List, [], ◌∷◌, Option, None, Some, map, refl, ap, ◌∙◌, subst}
use Rattle.std.specs.Prelude.{slice_set, slice_index_or, MatchOption, is_some}
use Rattle.sot_guard.specs.declared.outside.Outside.{Outside}
use Rattle.sot_guard.specs.Changes.{AsksSafeNodes}
use Rattle.sot_guard.specs.Guarding.{Guarding}
use Rattle.sot_guard.specs.Hearing.{Hearing, guard_at, hearing_at}

-- only the configuration is another
pub same_guarding : (g h : Guarding) → g.accepted ≡ h.accepted → g.trusted ≡ h.trusted → g ≡ guard_at h g.at
same_guarding g h accepted trusted =
    ap (λ a. let x : Guarding = record { accepted = a; trusted = g.trusted; at = g.at } in x) accepted
    ∙ ap (λ t. let x : Guarding = record { accepted = h.accepted; trusted = t; at = g.at } in x) trusted

pub taken_along : (s t : Hearing) (g : Guarding) → s ≡ t → g.accepted ≡ s.guarding.accepted → g.trusted ≡ s.guarding.trusted
    → (let k : Hearing = record s { guarding = g } in k) ≡ hearing_at t g.at
taken_along s t g same accepted trusted =
    subst (λ x. (let k : Hearing = record s { guarding = g } in k) ≡ hearing_at x g.at) same
    (ap (λ y. let k : Hearing = record s { guarding = y } in k) (same_guarding g s.guarding accepted trusted))

pub drafts_along : (s t : Hearing) (n : ℕ) (draft : List (Option ℤ)) → s ≡ t
    → (let k : Hearing = record s { drafts = slice_set s.drafts n draft; drafted = slice_set s.drafted n true } in k)
    ≡ (let k : Hearing = record t { drafts = slice_set t.drafts n draft; drafted = slice_set t.drafted n true } in k)
drafts_along s t n draft same = ap (λ h. let k : Hearing = record h { drafts = slice_set h.drafts n draft; drafted = slice_set h.drafted n true } in k) same

-- where every element is one thing, so is what stands for none
all_are : {A B : Type 0} (xs : List A) (d : B) (n : ℕ) → slice_index_or (map (λ x. d) xs) n d ≡ d
all_are [] d n = refl
all_are (x ∷ xs) d zero = refl
all_are (x ∷ xs) d (suc n) = all_are xs d n

pub items_are : {A B : Type 0} (ys : List B) (xs : List A) (d : B) (n : ℕ) → ys ≡ map (λ x. d) xs → slice_index_or ys n d ≡ d
items_are ys xs d n same = ap (λ l. slice_index_or l n d) same ∙ all_are xs d n

-- the safe nodes are asked where a plant was told to be outside
pub asked_so : (o : Option Outside) (moved k : Guarding) (b : Bool) → b ≡ is_some o → (b ≡ true → AsksSafeNodes moved k) → (b ≡ false → k ≡ moved)
    → MatchOption o (k ≡ moved) (λ x. AsksSafeNodes moved k)
asked_so None moved k b is asks same = same is
asked_so (Some o) moved k b is asks same = asks is

pub asked_accepted : (o : Option Outside) (moved k : Guarding) → MatchOption o (k ≡ moved) (λ x. AsksSafeNodes moved k) → k.accepted ≡ moved.accepted
asked_accepted None moved k same = ap (λ (x : Guarding). x.accepted) same
asked_accepted (Some o) moved k asks = ap (λ (x : Guarding). x.accepted) asks.rest
