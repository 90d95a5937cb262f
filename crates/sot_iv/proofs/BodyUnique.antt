-- A body leaves one thing, or has one first trap.
use Rattle.std.proofs.Common.{◌≡◌, ℕ, zero, suc, List, [], ◌∷◌, ◌++◌, Ok, sym, ap, ap₂, ◌∙◌, replicate, length}
use Rattle.std.specs.Prelude.{slice_set}
use Rattle.sot_text.specs.declared.token.Span.{Span}
use Rattle.sot_box.specs.Sides.{Side}
use Rattle.sot_lang.specs.declared.act.Act.{Act, Row_of-Act, end_of-Act, more_of-Act}
use Rattle.sot_lang.specs.declared.act.Act.TheVariants.{Assign, Publish, If', Repeat'}
use Rattle.sot_iv.specs.TermIntervals.{OrMayTrap, After, Chooses, IsIntervalHull}
use Rattle.sot_iv.specs.declared.drafted.Drafted.{Drafted}
use Rattle.sot_iv.specs.declared.drafted.Drafted.TheVariants.{Absent, Maybe, Sure}
use Rattle.sot_iv.specs.BodyIntervals.{Intervals, IsPut, AreIntervalHulls, IsDraftJoin, AreDraftJoins, IsJoin, IsTimes, IsActIntervals, AreActIntervals}
use Rattle.sot_iv.specs.BodyIntervals.{IsBodyIntervals, IsExecutionIntervals}
use Rattle.sot_iv.proofs.Unique.{least_same, after_same, chooses_same, term_same}

put_same : (rs : List Side) (k : ℕ) (at : Span) (x : Side) (o p : OrMayTrap Side) → IsPut rs k at x o → IsPut rs k at x p → o ≡ p
put_same [] k at x o p a b = a ∙ sym b
put_same (r ∷ rs) zero at x o p a b = a ∙ sym b
put_same (r ∷ rs) (suc k) at x o p a b = put_same rs k at x o p a b

hulls_same : (as' bs rs ss : List Side) → AreIntervalHulls as' bs rs → AreIntervalHulls as' bs ss → rs ≡ ss
hulls_same [] [] rs ss x y = x ∙ sym y
hulls_same (a ∷ as') (b ∷ bs) (r ∷ rs) (s ∷ ss) x y = ap₂ (λ u v. u ∷ v) (least_same _ r s x.0 y.0) (hulls_same as' bs rs ss x.1 y.1)
hulls_same (a ∷ as') (b ∷ bs) [] ss x y = absurd x
hulls_same (a ∷ as') (b ∷ bs) (r ∷ rs) [] x y = absurd y
hulls_same [] (b ∷ bs) rs ss x y = absurd x
hulls_same (a ∷ as') [] rs ss x y = absurd x

-- a draft that is made of a hull is one
made_same : (a b : Side) (make : Side → Drafted) (d e : Drafted) → (r : Side) × IsIntervalHull a b r × (d ≡ make r)
    → (r : Side) × IsIntervalHull a b r × (e ≡ make r) → d ≡ e
made_same a b make d e x y = x.2 ∙ ap make (least_same _ x.0 y.0 x.1 y.1) ∙ sym y.2

draft_same : (a b d e : Drafted) → IsDraftJoin a b d → IsDraftJoin a b e → d ≡ e
draft_same Absent Absent d e x y = x ∙ sym y
draft_same Absent (Maybe b) d e x y = x ∙ sym y
draft_same Absent (Sure b) d e x y = x ∙ sym y
draft_same (Maybe a) Absent d e x y = x ∙ sym y
draft_same (Sure a) Absent d e x y = x ∙ sym y
draft_same (Maybe a) (Maybe b) d e x y = made_same a b Maybe d e x y
draft_same (Maybe a) (Sure b) d e x y = made_same a b Maybe d e x y
draft_same (Sure a) (Maybe b) d e x y = made_same a b Maybe d e x y
draft_same (Sure a) (Sure b) d e x y = made_same a b Sure d e x y

drafts_same : (as' bs ds es : List Drafted) → AreDraftJoins as' bs ds → AreDraftJoins as' bs es → ds ≡ es
drafts_same [] [] ds es x y = x ∙ sym y
drafts_same (a ∷ as') (b ∷ bs) (d ∷ ds) (e ∷ es) x y = ap₂ (λ u v. u ∷ v) (draft_same a b d e x.0 y.0) (drafts_same as' bs ds es x.1 y.1)
drafts_same (a ∷ as') (b ∷ bs) [] es x y = absurd x
drafts_same (a ∷ as') (b ∷ bs) (d ∷ ds) [] x y = absurd y
drafts_same [] (b ∷ bs) ds es x y = absurd x
drafts_same (a ∷ as') [] ds es x y = absurd x

join_same : (f g : Intervals) (o p : OrMayTrap Intervals) → IsJoin f g o → IsJoin f g p → o ≡ p
join_same f g o p x y =
    let ls = hulls_same f.locals g.locals x.0.locals y.0.locals x.1 y.1 in
    let ds = drafts_same f.draft g.draft x.0.draft y.0.draft x.2 y.2 in
    x.3 ∙ ap₂ (λ l d. Ok (record { locals = l; draft = d })) ls ds ∙ sym y.3

times_same : (n : ℕ) (block : Intervals → OrMayTrap Intervals → Type 0) → ((f : Intervals) (o p : OrMayTrap Intervals) → block f o → block f p → o ≡ p)
    → (f : Intervals) (o p : OrMayTrap Intervals) → IsTimes n block f o → IsTimes n block f p → o ≡ p
times_same zero block same f o p x y = x ∙ sym y
times_same (suc n) block same f o p x y =
    after_same x.0 y.0 o p (λ g z. IsTimes n block g z) (same f x.0 y.0 x.1 y.1) x.2 y.2 (λ g u v. times_same n block same g o p u v)

mutual
  act_same : (seen locals writes : List Side) (a : Act) (f : Intervals) (o p : OrMayTrap Intervals) → IsActIntervals seen locals writes a f o
      → IsActIntervals seen locals writes a f p → o ≡ p
  act_same seen locals writes (Assign k t at) f o p x y =
      let done : Side → OrMayTrap Intervals → Type 0 = λ s z. z ≡ Ok (record { locals = slice_set f.locals k s; draft = f.draft }) in
      after_same x.0 y.0 o p (λ v z. (w : OrMayTrap Side) × IsPut locals k at v w × After w z (λ s. done s z)) (term_same t (seen ++ f.locals) x.0 y.0 x.1 y.1)
      x.2 y.2
      (λ v c d. after_same c.0 d.0 o p done (put_same locals k at v c.0 d.0 c.1 d.1) c.2 d.2 (λ s m n. m ∙ sym n))
  act_same seen locals writes (Publish k t at) f o p x y =
      let done : Side → OrMayTrap Intervals → Type 0 = λ s z. z ≡ Ok (record { locals = f.locals; draft = slice_set f.draft k (Sure s) }) in
      after_same x.0 y.0 o p (λ v z. (w : OrMayTrap Side) × IsPut writes k at v w × After w z (λ s. done s z)) (term_same t (seen ++ f.locals) x.0 y.0 x.1 y.1)
      x.2 y.2
      (λ v c d. after_same c.0 d.0 o p done (put_same writes k at v c.0 d.0 c.1 d.1) c.2 d.2 (λ s m n. m ∙ sym n))
  act_same seen locals writes (If' t s1 us s2 vs) f o p x y =
      let joins : Intervals → OrMayTrap Intervals → Type 0 = λ g z. (w : OrMayTrap Intervals) × AreActIntervals seen locals writes vs f w
      × After w z (λ h. IsJoin g h z) in
      let both : OrMayTrap Intervals → Type 0 = λ z. (g : OrMayTrap Intervals) × AreActIntervals seen locals writes us f g × After g z (λ g. joins g z) in
      after_same x.0 y.0 o p (λ c z. Chooses c (AreActIntervals seen locals writes us f z) (AreActIntervals seen locals writes vs f z) (both z))
      (term_same t (seen ++ f.locals) x.0 y.0 x.1 y.1) x.2 y.2
      (λ c l r. chooses_same c (o ≡ p) (AreActIntervals seen locals writes us f o) (AreActIntervals seen locals writes us f p)
      (AreActIntervals seen locals writes vs f o) (AreActIntervals seen locals writes vs f p) (both o) (both p)
      (λ d e. acts_same seen locals writes us f o p d e)
      (λ d e. acts_same seen locals writes vs f o p d e)
      (λ d e. after_same d.0 e.0 o p joins (acts_same seen locals writes us f d.0 e.0 d.1 e.1) d.2 e.2
      (λ g u v. after_same u.0 v.0 o p (λ h z. IsJoin g h z) (acts_same seen locals writes vs f u.0 v.0 u.1 v.1) u.2 v.2 (λ h m n. join_same g h o p m n)))
      l r)
  act_same seen locals writes (Repeat' n s us) f o p x y =
      times_same n (λ g z. AreActIntervals seen locals writes us g z) (λ g u v a b. acts_same seen locals writes us g u v a b) f o p x y

  acts_same : {m : _} (seen locals writes : List Side) (us : Row_of-Act m) (f : Intervals) (o p : OrMayTrap Intervals)
      → AreActIntervals seen locals writes us f o → AreActIntervals seen locals writes us f p → o ≡ p
  acts_same seen locals writes end_of-Act f o p x y = x ∙ sym y
  acts_same seen locals writes (more_of-Act a rest) f o p x y =
      after_same x.0 y.0 o p (λ g z. AreActIntervals seen locals writes rest g z) (act_same seen locals writes a f x.0 y.0 x.1 y.1) x.2 y.2
      (λ g u v. acts_same seen locals writes rest g o p u v)

body_same : (seen locals writes : List Side) (us : List Act) (f : Intervals) (o p : OrMayTrap Intervals) → IsBodyIntervals seen locals writes us f o
    → IsBodyIntervals seen locals writes us f p → o ≡ p
body_same seen locals writes [] f o p x y = x ∙ sym y
body_same seen locals writes (a ∷ rest) f o p x y =
    after_same x.0 y.0 o p (λ g z. IsBodyIntervals seen locals writes rest g z) (act_same seen locals writes a f x.0 y.0 x.1 y.1) x.2 y.2
    (λ g u v. body_same seen locals writes rest g o p u v)

pub execution_same : (us : List Act) (locals writes seen at_start : List Side) (o p : OrMayTrap Intervals)
    → IsExecutionIntervals us locals writes seen at_start o → IsExecutionIntervals us locals writes seen at_start p → o ≡ p
execution_same us locals writes seen at_start o p x y =
    body_same seen locals writes us (record { locals = at_start; draft = replicate (length writes) Absent }) o p x y
