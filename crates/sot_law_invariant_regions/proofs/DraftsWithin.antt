-- What a body drafts for a scalar lies in the scalar's range.
use Rattle.std.proofs.Common.{◌≡◌, ℕ, zero, suc, true, false, ⊎_elim, ◌⊎◌, ℤ, List, [], ◌∷◌, ◌++◌, Ok, sym, subst, length, replicate, arith}
use Rattle.std.specs.Prelude.{slice_set, int_le, ◌&&◌}
use Rattle.std.proofs.lemmas.Bool.{cases_Bool, and_parts}
use Rattle.std.proofs.lemmas.Int.{ints}
use Rattle.sot_text.specs.declared.token.Span.{Span}
use Rattle.sot_box.specs.Sides.{Side, IsIn}
use Rattle.sot_lang.specs.declared.act.Act.{Act, Row_of-Act, end_of-Act, more_of-Act}
use Rattle.sot_lang.specs.declared.act.Act.TheVariants.{Assign, Publish, If', Repeat'}
use Rattle.sot_iv.specs.TermIntervals.{OrMayTrap, IsIntervalHull}
use Rattle.sot_iv.specs.declared.drafted.Drafted.{Drafted}
use Rattle.sot_iv.specs.declared.drafted.Drafted.TheVariants.{Absent, Maybe, Sure}
use Rattle.sot_iv.specs.BodyIntervals.{Intervals, IsPut, IsDraftJoin, AreDraftJoins, IsJoin, IsTimes, IsActIntervals, AreActIntervals}
use Rattle.sot_iv.specs.BodyIntervals.{IsBodyIntervals, IsExecutionIntervals}
use Rattle.sot_iv.proofs.Sound.{after_ok}

-- each number of one interval is in another
abbrev pub Lies : Side → Side → Type 0
Lies r s = (z : ℤ) → IsIn r z → IsIn s z

-- the interval of a draft lies in a range, and so do all
abbrev pub DraftLies : Drafted → Side → Type 0
DraftLies Absent w = Unit {0}
DraftLies (Maybe r) w = Lies r w
DraftLies (Sure r) w = Lies r w

abbrev pub DraftsLie : List Drafted → List Side → Type 0
DraftsLie [] [] = Unit {0}
DraftsLie (d ∷ ds) (w ∷ ws) = DraftLies d w × DraftsLie ds ws
DraftsLie [] (w ∷ ws) = ⊥
DraftsLie (d ∷ ds) [] = ⊥

none_lie : (ws : List Side) → DraftsLie (replicate (length ws) Absent) ws
none_lie [] = tt
none_lie (w ∷ ws) = (tt, none_lie ws)

target_lies : (r x y : Side) → (let o : OrMayTrap Side = Ok y in o) ≡ Ok x → Lies x r → Lies y r
target_lies r x y e h = (let same : y ≡ x = cc in subst (λ q. Lies q r) (sym same) h)

-- what is put at a place lies in the range there
put_lies : (ds : List Drafted) (ws : List Side) (k : ℕ) (at : Span) (x y : Side) → DraftsLie ds ws → IsPut ws k at x (Ok y)
    → DraftsLie (slice_set ds k (Sure y)) ws
put_lies [] [] k at x y h put = tt
put_lies (d ∷ ds) (w ∷ ws) zero at x y h put =
    ⊎_elim
    (λ (t : (int_le w.lo x.lo && int_le x.hi w.hi) ≡ true).
    let ends = and_parts (int_le w.lo x.lo) (int_le x.hi w.hi) t in
    let lo = ends.0 in
    let hi = ends.1 in
    let e : (let o : OrMayTrap Side = Ok y in o) ≡ Ok x = rw t at put in
    (target_lies w x y e (λ z i. (grind (arith, ints, lo, i.0), grind (arith, ints, hi, i.1))), h.1))
    (λ (f : (int_le w.lo x.lo && int_le x.hi w.hi) ≡ false). absurd (let bad = rw f at put in cc))
    (cases_Bool (int_le w.lo x.lo && int_le x.hi w.hi))
put_lies (d ∷ ds) (w ∷ ws) (suc k) at x y h put = (h.0, put_lies ds ws k at x y h.1 put)
put_lies [] (w ∷ ws) k at x y h put = absurd h
put_lies (d ∷ ds) [] k at x y h put = absurd h

hull_lies : (a b r w : Side) → Lies a w → Lies b w → IsIntervalHull a b r → Lies r w
hull_lies a b r w ha hb h z i =
    let either : (y : ℤ) → (IsIn a y ⊎ IsIn b y) → IsIn w y = λ y u. ⊎_elim (λ j. ha y j) (λ j. hb y j) u in
    let lo = (either r.lo h.low).0 in
    let hi = (either r.hi h.high).1 in
    (omega (arith, ints, lo, i.0), omega (arith, ints, hi, i.1))

draft_lies : (a b d : Drafted) (w : Side) → DraftLies a w → DraftLies b w → IsDraftJoin a b d → DraftLies d w
draft_lies Absent Absent d w ha hb j = subst (λ q. DraftLies q w) (sym j) tt
draft_lies Absent (Maybe b) d w ha hb j = subst (λ q. DraftLies q w) (sym j) hb
draft_lies Absent (Sure b) d w ha hb j = subst (λ q. DraftLies q w) (sym j) hb
draft_lies (Maybe a) Absent d w ha hb j = subst (λ q. DraftLies q w) (sym j) ha
draft_lies (Sure a) Absent d w ha hb j = subst (λ q. DraftLies q w) (sym j) ha
draft_lies (Maybe a) (Maybe b) d w ha hb j = subst (λ q. DraftLies q w) (sym j.2) (hull_lies a b j.0 w ha hb j.1)
draft_lies (Maybe a) (Sure b) d w ha hb j = subst (λ q. DraftLies q w) (sym j.2) (hull_lies a b j.0 w ha hb j.1)
draft_lies (Sure a) (Maybe b) d w ha hb j = subst (λ q. DraftLies q w) (sym j.2) (hull_lies a b j.0 w ha hb j.1)
draft_lies (Sure a) (Sure b) d w ha hb j = subst (λ q. DraftLies q w) (sym j.2) (hull_lies a b j.0 w ha hb j.1)

drafts_lie : (as' bs ds : List Drafted) (ws : List Side) → DraftsLie as' ws → DraftsLie bs ws → AreDraftJoins as' bs ds → DraftsLie ds ws
drafts_lie [] [] ds [] ha hb j = subst (λ q. DraftsLie q []) (sym j) tt
drafts_lie (a ∷ as') (b ∷ bs) (d ∷ ds) (w ∷ ws) ha hb j = (draft_lies a b d w ha.0 hb.0 j.0, drafts_lie as' bs ds ws ha.1 hb.1 j.1)
drafts_lie (a ∷ as') (b ∷ bs) [] (w ∷ ws) ha hb j = absurd j
drafts_lie [] bs ds (w ∷ ws) ha hb j = absurd ha
drafts_lie (a ∷ as') bs ds [] ha hb j = absurd ha
drafts_lie [] (b ∷ bs) ds [] ha hb j = absurd hb
drafts_lie (a ∷ as') [] ds (w ∷ ws) ha hb j = absurd hb

join_lies : (ws : List Side) (f g h : Intervals) → DraftsLie f.draft ws → DraftsLie g.draft ws → IsJoin f g (Ok h) → DraftsLie h.draft ws
join_lies ws f g h hf hg j =
    let same : h ≡ j.0 = (let e = j.3 in cc) in
    subst (λ (q : Intervals). DraftsLie q.draft ws) (sym same) (drafts_lie f.draft g.draft j.0.draft ws hf hg j.2)

times_lie : (ws : List Side) (n : ℕ) (block : Intervals → OrMayTrap Intervals → Type 0)
    → ((f g : Intervals) → DraftsLie f.draft ws → block f (Ok g) → DraftsLie g.draft ws) → (f g : Intervals) → DraftsLie f.draft ws
    → IsTimes n block f (Ok g) → DraftsLie g.draft ws
times_lie ws zero block keeps f g h x = (let same : g ≡ f = cc in subst (λ (q : Intervals). DraftsLie q.draft ws) (sym same) h)
times_lie ws (suc n) block keeps f g h x =
    let a = after_ok x.0 g _ x.2 in
    times_lie ws n block keeps a.0 g (keeps f a.0 h (subst (block f) a.1 x.1)) a.2

mutual
  act_lies : (seen locals ws : List Side) (a : Act) (f g : Intervals) → DraftsLie f.draft ws → IsActIntervals seen locals ws a f (Ok g)
      → DraftsLie g.draft ws
  act_lies seen locals ws (Assign k t at) f g h x =
      let v = after_ok x.0 g _ x.2 in
      let w = after_ok v.2.0 g _ v.2.2 in
      let same : g ≡ record { locals = slice_set f.locals k w.0; draft = f.draft } = (let e = w.2 in cc) in
      subst (λ (q : Intervals). DraftsLie q.draft ws) (sym same) h
  act_lies seen locals ws (Publish k t at) f g h x =
      let v = after_ok x.0 g _ x.2 in
      let w = after_ok v.2.0 g _ v.2.2 in
      let same : g ≡ record { locals = f.locals; draft = slice_set f.draft k (Sure w.0) } = (let e = w.2 in cc) in
      subst (λ (q : Intervals). DraftsLie q.draft ws) (sym same)
      (put_lies f.draft ws k at v.0 w.0 h (subst (IsPut ws k at v.0) w.1 v.2.1))
  act_lies seen locals ws (If' t s1 us s2 vs) f g h x =
      let c = after_ok x.0 g _ x.2 in
      ⊎_elim
      (λ first. acts_lie seen locals ws us f g h first.2)
      (λ rest. ⊎_elim
      (λ second. acts_lie seen locals ws vs f g h second.2)
      (λ both. let y = after_ok both.2.0 g _ both.2.2 in
      let z = after_ok y.2.0 g _ y.2.2 in
      join_lies ws y.0 z.0 g (acts_lie seen locals ws us f y.0 h (subst (AreActIntervals seen locals ws us f) y.1 both.2.1))
      (acts_lie seen locals ws vs f z.0 h (subst (AreActIntervals seen locals ws vs f) z.1 y.2.1)) z.2)
      rest)
      c.2
  act_lies seen locals ws (Repeat' n s us) f g h x =
      times_lie ws n (λ q o. AreActIntervals seen locals ws us q o) (λ q r hq y. acts_lie seen locals ws us q r hq y) f g h x

  acts_lie : {m : _} (seen locals ws : List Side) (us : Row_of-Act m) (f g : Intervals) → DraftsLie f.draft ws → AreActIntervals seen locals ws us f (Ok g)
      → DraftsLie g.draft ws
  acts_lie seen locals ws end_of-Act f g h x = (let same : g ≡ f = cc in subst (λ (q : Intervals). DraftsLie q.draft ws) (sym same) h)
  acts_lie seen locals ws (more_of-Act a rest) f g h x =
      let y = after_ok x.0 g _ x.2 in
      acts_lie seen locals ws rest y.0 g (act_lies seen locals ws a f y.0 h (subst (IsActIntervals seen locals ws a f) y.1 x.1)) y.2

body_lies : (seen locals ws : List Side) (us : List Act) (f g : Intervals) → DraftsLie f.draft ws → IsBodyIntervals seen locals ws us f (Ok g)
    → DraftsLie g.draft ws
body_lies seen locals ws [] f g h x = (let same : g ≡ f = cc in subst (λ (q : Intervals). DraftsLie q.draft ws) (sym same) h)
body_lies seen locals ws (a ∷ rest) f g h x =
    let y = after_ok x.0 g _ x.2 in
    body_lies seen locals ws rest y.0 g (act_lies seen locals ws a f y.0 h (subst (IsActIntervals seen locals ws a f) y.1 x.1)) y.2

pub execution_lies : (us : List Act) (locals ws seen at_start : List Side) (g : Intervals) → IsExecutionIntervals us locals ws seen at_start (Ok g)
    → DraftsLie g.draft ws
execution_lies us locals ws seen at_start g x =
    body_lies seen locals ws us (record { locals = at_start; draft = replicate (length ws) Absent }) g (none_lie ws) x
