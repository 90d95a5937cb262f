-- The evaluation by ends gives what the definition says of a body.
use Rattle.std.proofs.Common.{◌≡◌, ℕ, zero, suc, Bool, true, false, ◌⊎◌, inl, inr, ⊎_elim, List, [], ◌∷◌, ◌++◌, length, replicate, Ok, Err, refl, sym, ap, ◌∙◌}
use Rattle.std.proofs.Common.{subst, arith}
use Rattle.std.specs.Prelude.{slice_set, int_le, ◌&&◌}
use Rattle.std.proofs.Math.ListN.{length-set}
use Rattle.std.proofs.lemmas.Bool.{cases_Bool}
use Rattle.sot_text.specs.declared.token.Span.{Span}
use Rattle.sot_box.specs.Sides.{Side, AreOrdered}
use Rattle.sot_box.proofs.Ordered.{ordered-set, append_ordered}
use Rattle.sot_lang.specs.declared.act.Act.{Act, Row_of-Act, end_of-Act, more_of-Act}
use Rattle.sot_lang.specs.declared.act.Act.TheVariants.{Assign, Publish, If', Repeat'}
use Rattle.sot_lang.specs.declared.term.Term.{Term}
use Rattle.sot_lang.specs.declared.trap.TrapKind.TheVariants.{OutsideRange}
use Rattle.sot_lang.specs.TermRules.{TermFits}
use Rattle.sot_lang.specs.ActRules.{ActFits, RowFits, ActsFit}
use Rattle.sot_lang.proofs.Places.{HasPlaces-TermFits}
use Rattle.sot_iv.specs.declared.may_trap.MayTrap.{MayTrap}
use Rattle.sot_iv.specs.declared.drafted.Drafted.{Drafted}
use Rattle.sot_iv.specs.declared.drafted.Drafted.TheVariants.{Absent, Maybe, Sure}
use Rattle.sot_iv.specs.TermIntervals.{OrMayTrap, After, Chooses, IsTermInterval}
use Rattle.sot_iv.specs.BodyIntervals.{Intervals, IsPut, AreIntervalHulls, IsDraftJoin, AreDraftJoins, IsJoin, IsTimes, IsActIntervals, AreActIntervals}
use Rattle.sot_iv.specs.BodyIntervals.{IsBodyIntervals, IsExecutionIntervals}
use Rattle.sot_iv.specs.Ends.{hull, is_always, is_ever}
use Rattle.sot_iv.specs.Evaluation.{and_then, joined, chosen, term_interval, put_at, hulls, joined_draft, joined_drafts, join_of, repeated, act_intervals}
use Rattle.sot_iv.specs.Evaluation.{block_intervals, body_intervals}
use Rattle.sot_iv.proofs.Least.{IsOrdered, hull_is}
use Rattle.sot_iv.proofs.Terms.{term_is, interval_ordered, chosen_is}

abbrev DraftOrdered : Drafted → Type 0
DraftOrdered Absent = Unit {0}
DraftOrdered (Maybe r) = IsOrdered r
DraftOrdered (Sure r) = IsOrdered r

abbrev DraftsOrdered : List Drafted → Type 0
DraftsOrdered [] = Unit {0}
DraftsOrdered (d ∷ ds) = DraftOrdered d × DraftsOrdered ds

-- intervals in order, of so many locals and scalars
record Fits (l d : ℕ) (f : Intervals) : Type 0 where
  locals : AreOrdered f.locals
  draft : DraftsOrdered f.draft
  count : length f.locals ≡ l
  slots : length f.draft ≡ d

abbrev EndsFit : ℕ → ℕ → OrMayTrap Intervals → Type 0
EndsFit l d (Ok f) = Fits l d f
EndsFit l d (Err t) = Unit {0}

hull_ordered : (a b : Side) → IsOrdered a → IsOrdered b → IsOrdered (hull a b)
hull_ordered a b x y = (let h = hull_is a b x y in (h.holds (hull a b).lo h.low).1)

hulls_are : (as' bs : List Side) → AreOrdered as' → AreOrdered bs → length as' ≡ length bs → AreIntervalHulls as' bs (hulls as' bs)
hulls_are [] [] x y e = refl
hulls_are (a ∷ as') (b ∷ bs) x y e = (hull_is a b x.0 y.0, hulls_are as' bs x.1 y.1 (omega (arith, e)))
hulls_are [] (b ∷ bs) x y e = absurd (omega (arith, e))
hulls_are (a ∷ as') [] x y e = absurd (omega (arith, e))

hulls_ordered : (as' bs : List Side) → AreOrdered as' → AreOrdered bs → AreOrdered (hulls as' bs)
hulls_ordered [] bs x y = tt
hulls_ordered (a ∷ as') [] x y = tt
hulls_ordered (a ∷ as') (b ∷ bs) x y = (hull_ordered a b x.0 y.0, hulls_ordered as' bs x.1 y.1)

hulls_count : (as' bs : List Side) → length as' ≡ length bs → length (hulls as' bs) ≡ length as'
hulls_count [] bs e = refl
hulls_count (a ∷ as') [] e = absurd (omega (arith, e))
hulls_count (a ∷ as') (b ∷ bs) e = ap suc (hulls_count as' bs (omega (arith, e)))

draft_is : (a b : Drafted) → DraftOrdered a → DraftOrdered b → IsDraftJoin a b (joined_draft a b)
draft_is Absent Absent x y = refl
draft_is Absent (Maybe b) x y = refl
draft_is Absent (Sure b) x y = refl
draft_is (Maybe a) Absent x y = refl
draft_is (Sure a) Absent x y = refl
draft_is (Maybe a) (Maybe b) x y = (hull a b, hull_is a b x y, refl)
draft_is (Maybe a) (Sure b) x y = (hull a b, hull_is a b x y, refl)
draft_is (Sure a) (Maybe b) x y = (hull a b, hull_is a b x y, refl)
draft_is (Sure a) (Sure b) x y = (hull a b, hull_is a b x y, refl)

draft_ordered : (a b : Drafted) → DraftOrdered a → DraftOrdered b → DraftOrdered (joined_draft a b)
draft_ordered Absent Absent x y = tt
draft_ordered Absent (Maybe b) x y = y
draft_ordered Absent (Sure b) x y = y
draft_ordered (Maybe a) Absent x y = x
draft_ordered (Sure a) Absent x y = x
draft_ordered (Maybe a) (Maybe b) x y = hull_ordered a b x y
draft_ordered (Maybe a) (Sure b) x y = hull_ordered a b x y
draft_ordered (Sure a) (Maybe b) x y = hull_ordered a b x y
draft_ordered (Sure a) (Sure b) x y = hull_ordered a b x y

drafts_are : (as' bs : List Drafted) → DraftsOrdered as' → DraftsOrdered bs → length as' ≡ length bs → AreDraftJoins as' bs (joined_drafts as' bs)
drafts_are [] [] x y e = refl
drafts_are (a ∷ as') (b ∷ bs) x y e = (draft_is a b x.0 y.0, drafts_are as' bs x.1 y.1 (omega (arith, e)))
drafts_are [] (b ∷ bs) x y e = absurd (omega (arith, e))
drafts_are (a ∷ as') [] x y e = absurd (omega (arith, e))

drafts_ordered : (as' bs : List Drafted) → DraftsOrdered as' → DraftsOrdered bs → DraftsOrdered (joined_drafts as' bs)
drafts_ordered [] bs x y = tt
drafts_ordered (a ∷ as') [] x y = tt
drafts_ordered (a ∷ as') (b ∷ bs) x y = (draft_ordered a b x.0 y.0, drafts_ordered as' bs x.1 y.1)

drafts_count : (as' bs : List Drafted) → length as' ≡ length bs → length (joined_drafts as' bs) ≡ length as'
drafts_count [] bs e = refl
drafts_count (a ∷ as') [] e = absurd (omega (arith, e))
drafts_count (a ∷ as') (b ∷ bs) e = ap suc (drafts_count as' bs (omega (arith, e)))

draft_set : (ds : List Drafted) (k : ℕ) (x : Side) → DraftsOrdered ds → IsOrdered x → DraftsOrdered (slice_set ds k (Sure x))
draft_set [] k x h o = tt
draft_set (d ∷ ds) zero x h o = (o, h.1)
draft_set (d ∷ ds) (suc k) x h o = (h.0, draft_set ds k x h.1 o)

-- an interval put into a target's range
put_is : (rs : List Side) (k : ℕ) (at : Span) (x : Side) → IsPut rs k at x (put_at rs k at x)
put_is [] k at x = refl
put_is (r ∷ rs) zero at x = refl
put_is (r ∷ rs) (suc k) at x = put_is rs k at x

put_keeps : (rs : List Side) (k : ℕ) (at : Span) (x : Side) → (put_at rs k at x ≡ Ok x) ⊎ ((t : MayTrap) × (put_at rs k at x ≡ Err t))
put_keeps [] k at x = inr (record { at = at; kind = OutsideRange; lo = x.lo; hi = x.hi }, refl)
put_keeps (r ∷ rs) zero at x =
    ⊎_elim (λ (t : (int_le r.lo x.lo && int_le x.hi r.hi) ≡ true). inl (rw t refl))
    (λ (f : (int_le r.lo x.lo && int_le x.hi r.hi) ≡ false). inr (record { at = at; kind = OutsideRange; lo = x.lo; hi = x.hi }, rw f refl))
    (cases_Bool (int_le r.lo x.lo && int_le x.hi r.hi))
put_keeps (r ∷ rs) (suc k) at x = put_keeps rs k at x

after_put : (o : OrMayTrap Side) (done : Side → Intervals) → After o (and_then o (λ x. Ok (done x))) (λ y. and_then o (λ x. Ok (done x)) ≡ Ok (done y))
after_put (Err t) done = refl
after_put (Ok x) done = refl

target_is : (rs : List Side) (k : ℕ) (at : Span) (done : Side → Intervals) (o : OrMayTrap Side) →
    After o (and_then (and_then o (put_at rs k at)) (λ x. Ok (done x)))
    (λ x. (y : OrMayTrap Side) × IsPut rs k at x y × After y (and_then (and_then o (put_at rs k at)) (λ x. Ok (done x)))
    (λ y. and_then (and_then o (put_at rs k at)) (λ x. Ok (done x)) ≡ Ok (done y)))
target_is rs k at done (Err t) = refl
target_is rs k at done (Ok x) = (put_at rs k at x, put_is rs k at x, after_put (put_at rs k at x) done)

target_fits : (l d : ℕ) (rs : List Side) (k : ℕ) (at : Span) (done : Side → Intervals) (o : OrMayTrap Side) → ((x : Side) → o ≡ Ok x → IsOrdered x)
    → ((x : Side) → IsOrdered x → Fits l d (done x)) → EndsFit l d (and_then (and_then o (put_at rs k at)) (λ x. Ok (done x)))
target_fits l d rs k at done (Err t) xo h = tt
target_fits l d rs k at done (Ok x) xo h =
    ⊎_elim (λ e. rw e (h x (xo x refl))) (λ e. rw e.1 tt) (put_keeps rs k at x)

-- both branches of an undecided condition
join_fits : (l d : ℕ) (f g : Intervals) → Fits l d f → Fits l d g
    → Fits l d (record { locals = hulls f.locals g.locals; draft = joined_drafts f.draft g.draft })
join_fits l d f g x y = record {
  locals = hulls_ordered f.locals g.locals x.locals y.locals;
  draft = drafts_ordered f.draft g.draft x.draft y.draft;
  count = hulls_count f.locals g.locals (x.count ∙ sym y.count) ∙ x.count;
  slots = drafts_count f.draft g.draft (x.slots ∙ sym y.slots) ∙ x.slots;
}

join_is : (l d : ℕ) (f g : Intervals) → Fits l d f → Fits l d g → IsJoin f g (join_of f g)
join_is l d f g x y = (
  record { locals = hulls f.locals g.locals; draft = joined_drafts f.draft g.draft },
  hulls_are f.locals g.locals x.locals y.locals (x.count ∙ sym y.count),
  drafts_are f.draft g.draft x.draft y.draft (x.slots ∙ sym y.slots),
  refl,
)

both_are : (l d : ℕ) (second : OrMayTrap Intervals → Type 0) (o p : OrMayTrap Intervals) → second p → EndsFit l d o → EndsFit l d p →
    After o (joined join_of o p) (λ y. (z : OrMayTrap Intervals) × second z × After z (joined join_of o p) (λ z. IsJoin y z (joined join_of o p)))
both_are l d second (Err t) p h x y = refl
both_are l d second (Ok f) (Err t) h x y = (Err t, h, refl)
both_are l d second (Ok f) (Ok g) h x y = (Ok g, h, join_is l d f g x y)

both_fit : (l d : ℕ) (o p : OrMayTrap Intervals) → EndsFit l d o → EndsFit l d p → EndsFit l d (joined join_of o p)
both_fit l d (Err t) p x y = tt
both_fit l d (Ok f) (Err t) x y = tt
both_fit l d (Ok f) (Ok g) x y = join_fits l d f g x y

choice_fits : (l d : ℕ) (c : Side) (o p : OrMayTrap Intervals) → EndsFit l d o → EndsFit l d p → EndsFit l d (chosen join_of c o p)
choice_fits l d c o p x y =
    ⊎_elim (λ (e : is_ever c ≡ true). ⊎_elim (λ (a : is_always c ≡ true). rw (e, a) x) (λ (a : is_always c ≡ false). rw (e, a) (both_fit l d o p x y))
    (cases_Bool (is_always c))) (λ (e : is_ever c ≡ false). rw e y) (cases_Bool (is_ever c))

condition_is : (l d : ℕ) (first second : OrMayTrap Intervals → Type 0) (c : OrMayTrap Side) (o p : OrMayTrap Intervals) → ((x : Side) → c ≡ Ok x → IsOrdered x)
    → first o → second p → EndsFit l d o → EndsFit l d p →
    After c (and_then c (λ x. chosen join_of x o p)) (λ x. Chooses x
    (first (and_then c (λ x. chosen join_of x o p)))
    (second (and_then c (λ x. chosen join_of x o p)))
    ((y : OrMayTrap Intervals) × first y × After y (and_then c (λ x. chosen join_of x o p))
    (λ y. (z : OrMayTrap Intervals) × second z × After z (and_then c (λ x. chosen join_of x o p))
    (λ z. IsJoin y z (and_then c (λ x. chosen join_of x o p))))))
condition_is l d first second (Err t) o p co ha hb x y = refl
condition_is l d first second (Ok c) o p co ha hb x y =
    chosen_is join_of c o p first second
    (λ q. (y : OrMayTrap Intervals) × first y × After y q (λ y. (z : OrMayTrap Intervals) × second z × After z q (λ z. IsJoin y z q)))
    (co c refl) ha hb (o, ha, both_are l d second o p hb x y)

condition_fits : (l d : ℕ) (c : OrMayTrap Side) (o p : OrMayTrap Intervals) → EndsFit l d o → EndsFit l d p
    → EndsFit l d (and_then c (λ x. chosen join_of x o p))
condition_fits l d (Err t) o p x y = tt
condition_fits l d (Ok c) o p x y = choice_fits l d c o p x y

-- one thing after another
then_is : (l d : ℕ) (o : OrMayTrap Intervals) (go : Intervals → OrMayTrap Intervals) (rest : Intervals → OrMayTrap Intervals → Type 0) → EndsFit l d o
    → ((f : Intervals) → Fits l d f → rest f (go f) × EndsFit l d (go f)) →
    After o (and_then o go) (λ f. rest f (and_then o go)) × EndsFit l d (and_then o go)
then_is l d (Err t) go rest x h = (refl, tt)
then_is l d (Ok f) go rest x h = h f x

times_are : (l d n : ℕ) (block : Intervals → OrMayTrap Intervals → Type 0) (go : Intervals → OrMayTrap Intervals)
    → ((f : Intervals) → Fits l d f → block f (go f) × EndsFit l d (go f)) → (f : Intervals) → Fits l d f
    → IsTimes n block f (repeated n go f) × EndsFit l d (repeated n go f)
times_are l d zero block go h f x = (refl, x)
times_are l d (suc n) block go h f x =
    let one = h f x in
    let more = then_is l d (go f) (repeated n go) (λ g o. IsTimes n block g o) one.1 (λ g y. times_are l d n block go h g y) in
    ((go f, one.0, more.0), more.1)

module _ (truths : List Bool) (n m : ℕ) (seen locals writes : List Side) (so : AreOrdered seen) where
  term_here : (t : Term) (f : Intervals) (l d : ℕ) → TermFits truths t → Fits l d f → IsTermInterval t (seen ++ f.locals) (term_interval t (seen ++ f.locals))
  term_here t f l d h x = term_is (length truths) t (seen ++ f.locals) (append_ordered seen f.locals so x.locals) (HasPlaces-TermFits truths t h)

  ordered_here : (t : Term) (f : Intervals) (l d : ℕ) → TermFits truths t → Fits l d f → (x : Side) → term_interval t (seen ++ f.locals) ≡ Ok x → IsOrdered x
  ordered_here t f l d h x r e =
      interval_ordered t (seen ++ f.locals) r (append_ordered seen f.locals so x.locals) (subst (IsTermInterval t (seen ++ f.locals)) e (term_here t f l d h x))

  mutual
    act_is : (a : Act) (f : Intervals) (l d : ℕ) → ActFits truths n m a → Fits l d f
        → IsActIntervals seen locals writes a f (act_intervals seen locals writes a f) × EndsFit l d (act_intervals seen locals writes a f)
    act_is (Assign k t at) f l d h x =
        let done : Side → Intervals = λ s. record { locals = slice_set f.locals k s; draft = f.draft } in (
          (term_interval t (seen ++ f.locals), term_here t f l d h.1 x, target_is locals k at done (term_interval t (seen ++ f.locals))),
          target_fits l d locals k at done (term_interval t (seen ++ f.locals)) (ordered_here t f l d h.1 x)
              (λ s o. record { locals = ordered-set f.locals k s x.locals o; draft = x.draft; count = length-set _ _ _ ∙ x.count; slots = x.slots }),
        )
    act_is (Publish k t at) f l d h x =
        let done : Side → Intervals = λ s. record { locals = f.locals; draft = slice_set f.draft k (Sure s) } in (
          (term_interval t (seen ++ f.locals), term_here t f l d h.1 x, target_is writes k at done (term_interval t (seen ++ f.locals))),
          target_fits l d writes k at done (term_interval t (seen ++ f.locals)) (ordered_here t f l d h.1 x)
              (λ s o. record { locals = x.locals; draft = draft_set f.draft k s x.draft o; count = x.count; slots = length-set _ _ _ ∙ x.slots }),
        )
    act_is (If' t s1 us s2 vs) f l d h x =
        let a = block_is us f l d h.2 x in
        let b = block_is vs f l d h.3 x in (
          (
            term_interval t (seen ++ f.locals),
            term_here t f l d h.1 x,
            condition_is l d (AreActIntervals seen locals writes us f) (AreActIntervals seen locals writes vs f) (term_interval t (seen ++ f.locals)) _ _
                (ordered_here t f l d h.1 x) a.0 b.0 a.1 b.1,
          ),
          condition_fits l d (term_interval t (seen ++ f.locals)) _ _ a.1 b.1,
        )
    act_is (Repeat' k s us) f l d h x =
        times_are l d k (λ g o. AreActIntervals seen locals writes us g o) (block_intervals seen locals writes us) (λ g y. block_is us g l d h.2 y) f x

    block_is : {c : _} (us : Row_of-Act c) (f : Intervals) (l d : ℕ) → RowFits truths n m us → Fits l d f
        → AreActIntervals seen locals writes us f (block_intervals seen locals writes us f) × EndsFit l d (block_intervals seen locals writes us f)
    block_is end_of-Act f l d h x = (refl, x)
    block_is (more_of-Act a rest) f l d h x =
        let one = act_is a f l d h.0 x in
        let more = then_is l d (act_intervals seen locals writes a f) (block_intervals seen locals writes rest)
        (λ g o. AreActIntervals seen locals writes rest g o) one.1 (λ g y. block_is rest g l d h.1 y) in
        ((act_intervals seen locals writes a f, one.0, more.0), more.1)

  body_is : (us : List Act) (f : Intervals) (l d : ℕ) → ActsFit truths n m us → Fits l d f
      → IsBodyIntervals seen locals writes us f (body_intervals seen locals writes us f) × EndsFit l d (body_intervals seen locals writes us f)
  body_is [] f l d h x = (refl, x)
  body_is (a ∷ rest) f l d h x =
      let one = act_is a f l d h.0 x in
      let more = then_is l d (act_intervals seen locals writes a f) (body_intervals seen locals writes rest)
      (λ g o. IsBodyIntervals seen locals writes rest g o) one.1 (λ g y. body_is rest g l d h.1 y) in
      ((act_intervals seen locals writes a f, one.0, more.0), more.1)

  absent_ordered : (k : ℕ) → DraftsOrdered (replicate k Absent)
  absent_ordered zero = tt
  absent_ordered (suc k) = (tt, absent_ordered k)

  -- what the definition says of an execution
  pub execution_is : (us : List Act) (at_start : List Side) → ActsFit truths n m us → AreOrdered at_start
      → IsExecutionIntervals us locals writes seen at_start (body_intervals seen locals writes us
      (record { locals = at_start; draft = replicate (length writes) Absent }))
  execution_is us at_start h o =
      (body_is us (record { locals = at_start; draft = replicate (length writes) Absent }) (length at_start) _ h
      (record { locals = o; draft = absent_ordered (length writes); count = refl; slots = refl })).0
