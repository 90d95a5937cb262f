-- Two findings of the same boxes agree.
use Rattle.std.proofs.Common.{◌≡◌, ℕ, zero, suc, inl, inr, List, [], ◌∷◌, ◌++◌, refl, sym, ap, ◌∙◌, subst, append_assoc}
use Rattle.sot_box.specs.Sides.{Side}
use Rattle.sot_certify.specs.Findings.{Finding, Whole, Failing, Begun, behind, followed, BisectsWithin, BisectsEach}
use Rattle.sot_certify.specs.HalvingLaws.{BeginsWith, Agree}
use Rattle.sot_certify.proofs.Cuts.{point_uncut, same_low, same_high}

abbrev Cells : Type 0
Cells = List (List Side)

-- what lies behind the same cells agrees
begins_behind : (cs a b : Cells) → BeginsWith a b → BeginsWith (cs ++ a) (cs ++ b)
begins_behind cs a b h = (h.0, ap (λ l. cs ++ l) h.1 ∙ sym (append_assoc cs b h.0))

agree_behind : (cs : Cells) (f g : Finding) → Agree f g → Agree (behind cs f) (behind cs g)
agree_behind cs (Whole a) (Whole b) h = ap (λ l. cs ++ l) h
agree_behind cs (Whole a) (Failing b t) h = h
agree_behind cs (Whole a) (Begun b) h = begins_behind cs a b h
agree_behind cs (Failing a s) (Whole b) h = h
agree_behind cs (Failing a s) (Failing b t) h = (ap (λ l. cs ++ l) h.0, h.1)
agree_behind cs (Failing a s) (Begun b) h = begins_behind cs a b h
agree_behind cs (Begun a) (Whole b) h = begins_behind cs b a h
agree_behind cs (Begun a) (Failing b t) h = begins_behind cs b a h
agree_behind cs (Begun a) (Begun b) (inl h) = inl (begins_behind cs a b h)
agree_behind cs (Begun a) (Begun b) (inr h) = inr (begins_behind cs b a h)

-- what begins with some cells agrees with a finding that is open behind them
more : (a bs cs : Cells) → BeginsWith a bs → BeginsWith (a ++ cs) bs
more a bs cs h = (h.0 ++ cs, ap (λ l. l ++ cs) h.1 ∙ append_assoc bs h.0 cs)

agree_begun : (ds bs : Cells) (f : Finding) → BeginsWith ds bs → Agree (behind ds f) (Begun bs)
agree_begun ds bs (Whole c) h = more ds bs c h
agree_begun ds bs (Failing c s) h = more ds bs c h
agree_begun ds bs (Begun c) h = inl (more ds bs c h)

begun_agrees : (ds bs : Cells) (f : Finding) → BeginsWith ds bs → Agree (Begun bs) (behind ds f)
begun_agrees ds bs (Whole c) h = more ds bs c h
begun_agrees ds bs (Failing c s) h = more ds bs c h
begun_agrees ds bs (Begun c) h = inr (more ds bs c h)

agree_followed : (f f' g g' : Finding) → Agree f f' → Agree g g' → Agree (followed f g) (followed f' g')
agree_followed (Whole a) (Whole b) g g' h k = subst (λ l. Agree (behind a g) (behind l g')) h (agree_behind a g g' k)
agree_followed (Whole a) (Failing b t) g g' h k = absurd h
agree_followed (Whole a) (Begun b) g g' h k = agree_begun a b g h
agree_followed (Failing a s) (Whole b) g g' h k = absurd h
agree_followed (Failing a s) (Failing b t) g g' h k = h
agree_followed (Failing a s) (Begun b) g g' h k = h
agree_followed (Begun a) (Whole b) g g' h k = begun_agrees b a g' h
agree_followed (Begun a) (Failing b t) g g' h k = h
agree_followed (Begun a) (Begun b) g g' h k = h

nothing_agrees : (f : Finding) → Agree (Begun []) f
nothing_agrees (Whole c) = (c, refl)
nothing_agrees (Failing c s) = (c, refl)
nothing_agrees (Begun c) = inr (c, refl)

agrees_nothing : (f : Finding) → Agree f (Begun [])
agrees_nothing (Whole c) = (c, refl)
agrees_nothing (Failing c s) = (c, refl)
agrees_nothing (Begun c) = inl (c, refl)

at : (f f' g g' : Finding) → f ≡ f' → g ≡ g' → Agree f' g' → Agree f g
at f f' g g' e e' h = subst (λ x. Agree x g) (sym e) (subst (λ x. Agree f' x) (sym e') h)

within : (Good : List Side → Type 0) (n m : ℕ) (box : List Side) (f g : Finding) → BisectsWithin Good n box f → BisectsWithin Good m box g → Agree f g
within Good zero m box f g h k = at f (Begun []) g g h refl (nothing_agrees g)
within Good (suc n) m box f g (inl h) k = at f (Begun []) g g h refl (nothing_agrees g)
within Good (suc n) zero box f g (inr h) k = at f f g (Begun []) refl k (agrees_nothing f)
within Good (suc n) (suc m) box f g (inr h) (inl k) = at f f g (Begun []) refl k (agrees_nothing f)
within Good (suc n) (suc m) box f g (inr (inl h)) (inr (inl k)) = at f _ g _ h.1 k.1 refl
within Good (suc n) (suc m) box f g (inr (inl h)) (inr (inr (inl k))) = absurd (k.0 h.0)
within Good (suc n) (suc m) box f g (inr (inl h)) (inr (inr (inr k))) = absurd (k.0 h.0)
within Good (suc n) (suc m) box f g (inr (inr (inl h))) (inr (inl k)) = absurd (h.0 k.0)
within Good (suc n) (suc m) box f g (inr (inr (inl h))) (inr (inr (inl k))) = at f _ g _ h.2 k.2 (refl, refl)
within Good (suc n) (suc m) box f g (inr (inr (inl h))) (inr (inr (inr k))) = absurd (point_uncut box k.1 k.2 h.1 k.3)
within Good (suc n) (suc m) box f g (inr (inr (inr h))) (inr (inl k)) = absurd (h.0 k.0)
within Good (suc n) (suc m) box f g (inr (inr (inr h))) (inr (inr (inl k))) = absurd (point_uncut box h.1 h.2 k.1 h.3)
within Good (suc n) (suc m) box f g (inr (inr (inr h))) (inr (inr (inr k))) =
    let low = subst (λ b. BisectsWithin Good n b h.4) (same_low box h.1 h.2 k.1 k.2 h.3 k.3) h.6 in
    let high = subst (λ b. BisectsWithin Good n b h.5) (same_high box h.1 h.2 k.1 k.2 h.3 k.3) h.7 in
    at f (followed h.4 h.5) g (followed k.4 k.5) h.8 k.8
    (agree_followed h.4 k.4 h.5 k.5 (within Good n m k.1 h.4 k.4 low k.6) (within Good n m k.2 h.5 k.5 high k.7))

-- what is found in boxes is one thing
pub each_agree : (Good : List Side → Type 0) (boxes : Cells) (f g : Finding) → BisectsEach Good boxes f → BisectsEach Good boxes g → Agree f g
each_agree Good [] f g (inl h) k = at f (Begun []) g g h refl (nothing_agrees g)
each_agree Good [] f g (inr h) (inl k) = at f f g (Begun []) refl k (agrees_nothing f)
each_agree Good [] f g (inr h) (inr k) = at f _ g _ h k refl
each_agree Good (b ∷ bs) f g h k =
    at f (followed h.0 h.1) g (followed k.0 k.1) h.4 k.4
    (agree_followed h.0 k.0 h.1 k.1 (within Good h.2.0 k.2.0 b h.0 k.0 h.2.1 k.2.1) (each_agree Good bs h.1 k.1 h.3 k.3))
