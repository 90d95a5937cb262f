-- The running example, whatever its safer region, passes the checks that do not name that region; it is well certified.
use Rattle.std.proofs.Common.{Option, ◌≡◌, ◌≢◌, ℕ, zero, suc, ◌≤◌, ℤ, pos, negsuc, ◌≤ℤ◌, ◌⊎◌, inl, inr, ⊎_elim, true, refl, sym, ap, ◌∙◌, Ok, Some, List, []}
use Rattle.std.proofs.Common.{◌∷◌, arith, subst}
use Rattle.std.specs.Prelude.{int_le, slice_get, slice_index_or}
use Rattle.std.proofs.lemmas.Int.{ints, by_lt_z}
use Rattle.std.proofs.lemmas.Option.{same_Some, none-some}
use Rattle.std.specs.Global.{Global, Vec}
use Rattle.sot_box.specs.Sides.{Side}
use Rattle.sot_lists.specs.Places.{At}
use Rattle.sot_box.specs.Regions.{IsInRegion, IsHull}
use Rattle.sot_lang.specs.declared.act.Act.{Act}
use Rattle.sot_lang.specs.declared.cert.Cells.{Cells}
use Rattle.sot_lang.specs.declared.tables.PlantInfo.{PlantInfo}
use Rattle.sot_lang.specs.declared.tables.NodeInfo.{NodeInfo}
use Rattle.sot_lang.specs.declared.tables.ModuleInfo.{ModuleInfo}
use Rattle.sot_lang.specs.SafeRegions.{safe_of, AllHulls}
use Rattle.sot_lang.specs.TableRules.{IsCoded}
use Rattle.sot_lang.specs.Line.{line, line_cert, line_cells, side, vec, pos_plant, fast, slow, nav, slow_acts}
use Rattle.sot_lists.proofs.ShortLists.{at_one, at_two, at_more}
use Rattle.sot_iv.specs.declared.drafted.Drafted.TheVariants.{Sure}
use Rattle.sot_iv.specs.NodeIntervals.{IsNodeIntervals}
use Rattle.sot_iv.specs.TrapFree.{IsTrapFree}
use Rattle.sot_tube.specs.Topics.{WritesTopic, IsInputTopic}
use Rattle.sot_tube.specs.Composition.{ArePartners}
use Rattle.sot_tube.specs.Certified.{DraftsFrom, IsClosedCell, IsReachCell}
use Rattle.sot_tube.specs.Refusals.{Refusal}
use Rattle.sot_tube.specs.Checks.{for_each}
use Rattle.sot_tube.specs.Verdict.{composition, shape, code, cell_checks, cells_of, verdict}
use Rattle.sot_tube.specs.Examples.{segment, nav_with, line_with, line_body, cert_with, LineIsCertified}
use Rattle.sot_tube.proofs.LineBoxes.{far, near, high, undecided, next_box, any_stays, covers, DraftIs}
use Rattle.sot_lang.proofs.LineRules.{line_typed}
use Rattle.sot_tube.proofs.Acceptance.{passes_certified}
use Rattle.sot_tube.proofs.LineTubes.{nav_hull}

module _ (g : Global) (safer : List (List Side)) (body : Option (Vec Act)) where
  pub one_module : (m m' : ℕ) (a b : ModuleInfo) → At (line_body g safer body).modules m a → At (line_body g safer body).modules m' b → m ≡ m'
  one_module m m' a b at_a at_b = at_one (λ i x. i ≡ m') (nav_with g safer) (sym (at_one (λ i x. i ≡ 0) (nav_with g safer) refl m' b at_b)) m a at_a

  outputs : (n n' : ℕ) (a b : NodeInfo) → At (line_body g safer body).nodes n a → At (line_body g safer body).nodes n' b → n ≢ n'
      → ArePartners (line_body g safer body) n n'
  outputs zero zero a b at_a at_b ne = absurd (ne refl)
  outputs zero (suc zero) a b at_a at_b ne = (0, nav_with g safer, refl, inl (refl, refl))
  outputs (suc zero) zero a b at_a at_b ne = (0, nav_with g safer, refl, inr (refl, refl))
  outputs (suc zero) (suc zero) a b at_a at_b ne = absurd (ne refl)
  outputs (suc (suc n)) n' a b at_a at_b ne = absurd (none-some a at_a)
  outputs zero (suc (suc n')) a b at_a at_b ne = absurd (none-some b at_b)
  outputs (suc zero) (suc (suc n')) a b at_a at_b ne = absurd (none-some b at_b)

  inputs : (plant : PlantInfo) (sc : NodeInfo) (t : ℕ) → At (line_body g safer body).plants 0 plant → At (line_body g safer body).nodes 1 sc
      → IsInputTopic (line_body g safer body) plant t → WritesTopic (line_body g safer body) sc t
  inputs plant sc t at_p at_s =
      let ep : pos_plant g ≡ plant = same_Some (pos_plant g) plant at_p in
      let es : record (slow g) { body = body } ≡ sc = same_Some (record (slow g) { body = body }) sc at_s in
      subst (λ q. IsInputTopic (line_body g safer body) q t → WritesTopic (line_body g safer body) sc t) ep
      (subst (λ q. IsInputTopic (line_body g safer body) (pos_plant g) t → WritesTopic (line_body g safer body) q t) es (λ i. i))

  pub composition_passes : (composition (line_body g safer body)).Passes
  composition_passes = (
    (λ m m' a b n at_a at_b x y. one_module m m' a b at_a at_b),
    (
      (λ n n' a b t at_a at_b w w' ne. outputs n n' a b at_a at_b ne),
      (
        (λ m m' a b at_a at_b e. one_module m m' a b at_a at_b),
        at_one (λ m a. (plant : PlantInfo) (sc : NodeInfo) (t : ℕ) → At (line_body g safer body).plants a.plant plant
            → At (line_body g safer body).nodes a.sc sc → IsInputTopic (line_body g safer body) plant t → WritesTopic (line_body g safer body) sc t)
            (nav_with g safer) inputs,
      ),
    ),
  )

  pub same_outputs : (ac sc : NodeInfo) (t : ℕ) → At (line_body g safer body).nodes 0 ac → At (line_body g safer body).nodes 1 sc
      → (WritesTopic (line_body g safer body) ac t → WritesTopic (line_body g safer body) sc t)
      × (WritesTopic (line_body g safer body) sc t → WritesTopic (line_body g safer body) ac t)
  same_outputs ac sc t at_a at_s =
      let ea : fast g ≡ ac = same_Some (fast g) ac at_a in
      let es : record (slow g) { body = body } ≡ sc = same_Some (record (slow g) { body = body }) sc at_s in
      subst (λ q. (WritesTopic (line_body g safer body) q t → WritesTopic (line_body g safer body) sc t)
      × (WritesTopic (line_body g safer body) sc t → WritesTopic (line_body g safer body) q t)) ea
      (subst (λ q. (WritesTopic (line_body g safer body) (fast g) t → WritesTopic (line_body g safer body) q t)
      × (WritesTopic (line_body g safer body) q t → WritesTopic (line_body g safer body) (fast g) t)) es (λ i. i, λ i. i))

  pub short : (node : NodeInfo) → (At (line_body g safer body).nodes 0 node ⊎ At (line_body g safer body).nodes 1 node) → node.period ≤ 4
  short node o =
      ⊎_elim
      (λ at. subst (λ q. q.period ≤ 4) (same_Some (fast g) node at) (omega arith))
      (λ at. subst (λ q. q.period ≤ 4) (same_Some (record (slow g) { body = body }) node at) (omega arith))
      o

  pub shape_passes : safer ≢ [] → (cells : Cells) → (for_each (line_body g safer body).modules (shape (line_body g safer body) (cert_with g cells))).Passes
  shape_passes some cells =
      at_one (λ m a. (shape (line_body g safer body) (cert_with g cells) m a).Passes) (nav_with g safer)
      ((cells, refl), (short, (same_outputs, (safe_some, some))))
    where
      safe_some : segment (negsuc 39) (pos 40) ∷ [] ≢ []
      safe_some e = none-some _ (ap (λ r. slice_get r 0) (sym e))

module _ (g : Global) (safer : List (List Side)) where
  pub hulls : AllHulls (line_with g safer) (segment (negsuc 39) (pos 40) ∷ [])
  hulls = (
    refl,
    at_one (λ k plant. IsHull (safe_of (line_with g safer).modules k) (slice_index_or (segment (negsuc 39) (pos 40) ∷ []) k [])) (pos_plant g)
        (nav_hull g),
  )

  -- what the safe node drafts with its plant in an interval
  runs : (cell r : Side) → DraftIs g cell r → int_le (negsuc 1) r.lo ≡ true → int_le r.hi (pos 2) ≡ true
      → IsNodeIntervals (line_with g safer) (slow g) (slow_acts g) ((cell ∷ []) ∷ []) (record { locals = []; draft = Sure r ∷ [] })
  runs cell r t e f = (Ok (record { locals = []; draft = Sure r ∷ [] }), (Ok r, t, (Ok r, rw e (rw f refl), refl)), refl)

  pub drafts : (cell r : Side) → DraftIs g cell r → int_le (negsuc 1) r.lo ≡ true → int_le r.hi (pos 2) ≡ true
      → DraftsFrom (line_with g safer) (nav_with g safer) (slow g) (slow_acts g) (cell ∷ []) (record { locals = []; draft = Sure r ∷ [] })
  drafts cell r t e f = record { hulls = segment (negsuc 39) (pos 40) ∷ []; are = hulls; runs = runs cell r t e f }

  trap_free : IsTrapFree (line_with g safer) (slow g) (slow_acts g)
  trap_free = (
    segment (negsuc 39) (pos 40) ∷ [],
    hulls,
    (
      record { locals = []; draft = Sure (side (negsuc 1) (pos 2)) ∷ [] },
      runs (side (negsuc 39) (pos 40)) (side (negsuc 1) (pos 2)) (undecided g) refl refl,
    ),
  )

  is_slow : (node : NodeInfo) (acts : List Act) → node ≡ slow g → IsCoded node acts → acts ≡ slow_acts g
  is_slow node acts e coded =
      let b : Some (vec g (slow_acts g) refl) ≡ Some coded.0 = ap (λ x. x.body) (sym e) ∙ coded.1 in
      sym coded.2 ∙ ap (λ v. v.items) (sym (same_Some _ _ b))

  pub code_passes : (for_each (line_with g safer).nodes (code (line_with g safer))).Passes
  code_passes zero node at acts coded = absurd (none-some coded.0 (ap (λ x. x.body) (same_Some (fast g) node at) ∙ coded.1))
  code_passes (suc zero) node at acts coded =
      let e : node ≡ slow g = sym (same_Some (slow g) node at) in
      let a : acts ≡ slow_acts g = is_slow node acts e coded in
      rw e (rw a trap_free)
  code_passes (suc (suc n)) node at acts coded = absurd (none-some node at)

  -- the three closed cells
  abbrev Closed : Side → Type 0
  Closed cell = IsClosedCell (line_with g safer) 0 (nav_with g safer) (pos_plant g) (slow g) (slow_acts g) (cell ∷ [])

  low_cell : Closed (side (negsuc 39) (negsuc 10))
  low_cell = record {
    covered = covers g (negsuc 39) (negsuc 10) (omega (arith, ints)) (omega (arith, ints));
    fired = record { locals = []; draft = Sure (side (pos 2) (pos 2)) ∷ [] };
    drafts =
        drafts (side (negsuc 39) (negsuc 10)) (side (pos 2) (pos 2)) (far g (side (negsuc 39) (negsuc 10)) (omega (arith, ints)) (omega (arith, ints))) refl
        refl;
    stays = record {
      hulls = [];
      are = tt;
      stays = (
        covers g (negsuc 39) (negsuc 10) (omega (arith, ints)) (omega (arith, ints)),
        (
          _,
          next_box g (side (negsuc 39) (negsuc 10)) (side (pos 2) (pos 2)) (omega (arith, ints)) (omega (arith, ints)) (refl, refl) (refl, refl),
          (
            covers g (negsuc 38) (negsuc 7) (omega (arith, ints)) (omega (arith, ints)),
            (
              _,
              next_box g (side (negsuc 38) (negsuc 7)) (side (pos 2) (pos 2)) (omega (arith, ints)) (omega (arith, ints)) (refl, refl) (refl, refl),
              covers g (negsuc 37) (negsuc 4) (omega (arith, ints)) (omega (arith, ints)),
            ),
          ),
        ),
      );
    };
  }

  mid_cell : Closed (side (negsuc 9) (pos 10))
  mid_cell = record {
    covered = covers g (negsuc 9) (pos 10) (omega (arith, ints)) (omega (arith, ints));
    fired = record { locals = []; draft = Sure (side (pos 0) (pos 0)) ∷ [] };
    drafts =
        drafts (side (negsuc 9) (pos 10)) (side (pos 0) (pos 0))
        (near g (side (negsuc 9) (pos 10)) (omega (arith, ints)) (omega (arith, ints)) (omega (arith, ints))) refl refl;
    stays = record {
      hulls = [];
      are = tt;
      stays = (
        covers g (negsuc 9) (pos 10) (omega (arith, ints)) (omega (arith, ints)),
        (
          _,
          next_box g (side (negsuc 9) (pos 10)) (side (pos 0) (pos 0)) (omega (arith, ints)) (omega (arith, ints)) (refl, refl) (refl, refl),
          (
            covers g (negsuc 10) (pos 11) (omega (arith, ints)) (omega (arith, ints)),
            (
              _,
              next_box g (side (negsuc 10) (pos 11)) (side (pos 0) (pos 0)) (omega (arith, ints)) (omega (arith, ints)) (refl, refl) (refl, refl),
              covers g (negsuc 11) (pos 12) (omega (arith, ints)) (omega (arith, ints)),
            ),
          ),
        ),
      );
    };
  }

  high_cell : Closed (side (pos 11) (pos 40))
  high_cell = record {
    covered = covers g (pos 11) (pos 40) (omega (arith, ints)) (omega (arith, ints));
    fired = record { locals = []; draft = Sure (side (negsuc 1) (negsuc 1)) ∷ [] };
    drafts =
        drafts (side (pos 11) (pos 40)) (side (negsuc 1) (negsuc 1)) (high g (side (pos 11) (pos 40)) (omega (arith, ints)) (omega (arith, ints))) refl refl;
    stays = record {
      hulls = [];
      are = tt;
      stays = (
        covers g (pos 11) (pos 40) (omega (arith, ints)) (omega (arith, ints)),
        (
          _,
          next_box g (side (pos 11) (pos 40)) (side (negsuc 1) (negsuc 1)) (omega (arith, ints)) (omega (arith, ints)) (refl, refl) (refl, refl),
          (
            covers g (pos 8) (pos 39) (omega (arith, ints)) (omega (arith, ints)),
            (
              _,
              next_box g (side (pos 8) (pos 39)) (side (negsuc 1) (negsuc 1)) (omega (arith, ints)) (omega (arith, ints)) (refl, refl) (refl, refl),
              covers g (pos 5) (pos 38) (omega (arith, ints)) (omega (arith, ints)),
            ),
          ),
        ),
      );
    };
  }

  pub closed_covers : (s : List ℤ) → IsInRegion (nav g).safe.boxes s → IsInRegion (line_cells g).closed.boxes s
  closed_covers [] i = ⊎_elim (λ w. absurd w) (λ w. absurd w) i
  closed_covers (x ∷ []) i = ⊎_elim (λ w. pick x w.0 w.1) (λ w. absurd w) i
    where
      pick : (x : ℤ) → negsuc 39 ≤ℤ x → x ≤ℤ pos 40 → IsInRegion (line_cells g).closed.boxes (x ∷ [])
      pick x p q =
          by_lt_z x (negsuc 9) (λ lt. inl (p, omega (arith, ints), tt))
          (λ ge. by_lt_z (pos 10) x (λ lt. inr (inr (inl (omega (arith, ints), q, tt)))) (λ le. inr (inl (ge, le, tt))))
  closed_covers (x ∷ y ∷ ys) i = ⊎_elim (λ w. absurd w.2) (λ w. absurd w) i

  pub closed_cells : (i : ℕ) (cell : List Side) → At (line_cells g).closed.boxes i cell
      → IsClosedCell (line_with g safer) 0 (nav_with g safer) (pos_plant g) (slow g) (slow_acts g) cell
  closed_cells =
      at_more (λ i cell. IsClosedCell (line_with g safer) 0 (nav_with g safer) (pos_plant g) (slow g) (slow_acts g) cell) (segment (negsuc 39) (negsuc 10))
      (segment (negsuc 9) (pos 10) ∷ segment (pos 11) (pos 40) ∷ []) low_cell
      (at_two (λ i cell. IsClosedCell (line_with g safer) 0 (nav_with g safer) (pos_plant g) (slow g) (slow_acts g) cell) (segment (negsuc 9) (pos 10))
      (segment (pos 11) (pos 40)) mid_cell high_cell)

  -- what the cells' checks are about is found by its place
  pub cells_checked : (cells : Cells) → (cell_checks (line_with g safer) 0 0 (nav_with g safer) (pos_plant g) (slow g) (slow_acts g) cells).Passes
      → (for_each (line_with g safer).modules (cells_of (line_with g safer) 0 (cert_with g cells))).Passes
  cells_checked cells passes = at_one (λ m a. (cells_of (line_with g safer) 0 (cert_with g cells) m a).Passes) (nav_with g safer) found
    where
      found : (cells_of (line_with g safer) 0 (cert_with g cells) 0 (nav_with g safer)).Passes
      found plant at_p sc at_s acts coded others has =
          let ep : pos_plant g ≡ plant = same_Some (pos_plant g) plant at_p in
          let es : slow g ≡ sc = same_Some (slow g) sc at_s in
          let ea : slow_acts g ≡ acts = sym (is_slow sc acts (sym es) coded) in
          let ec : cells ≡ others = same_Some cells others (same_Some (Some cells) (Some others) has) in
          subst (λ q. (cell_checks (line_with g safer) 0 0 (nav_with g safer) q sc acts others).Passes) ep
          (subst (λ q. (cell_checks (line_with g safer) 0 0 (nav_with g safer) (pos_plant g) q acts others).Passes) es
          (subst (λ q. (cell_checks (line_with g safer) 0 0 (nav_with g safer) (pos_plant g) (slow g) q others).Passes) ea
          (subst (λ q. (cell_checks (line_with g safer) 0 0 (nav_with g safer) (pos_plant g) (slow g) (slow_acts g) q).Passes) ec passes)))

  pub cells_refused : (cells : Cells) (r : Refusal) → (cell_checks (line_with g safer) 0 0 (nav_with g safer) (pos_plant g) (slow g) (slow_acts g)
      cells).Refuses r → (for_each (line_with g safer).modules (cells_of (line_with g safer) 0 (cert_with g cells))).Refuses r
  cells_refused cells r refuses = (
    0,
    nav_with g safer,
    refl,
    (pos_plant g, refl, (slow g, refl, (slow_acts g, (_, refl, refl), (cells, refl, refuses)))),
    (λ j y lt at. absurd (omega (arith, lt))),
  )

module _ (g : Global) where
  abbrev pub safer_10 : List (List Side)
  safer_10 = segment (negsuc 9) (pos 10) ∷ []

  pub some_10 : safer_10 ≢ []
  some_10 e = none-some _ (ap (λ r. slice_get r 0) (sym e))

  reach_cells : (i : ℕ) (cell : List Side) → At safer_10 i cell → IsReachCell (line g) 0 (nav g) (pos_plant g) cell
  reach_cells =
      at_one (λ i cell. IsReachCell (line g) 0 (nav g) (pos_plant g) cell) (segment (negsuc 9) (pos 10))
      (record { hulls = []; are = tt; stays = any_stays g 8 (negsuc 9) (pos 10) (omega (arith, ints)) (omega (arith, ints)) (omega (arith, ints)) })

  line_passes : (verdict (line g) 0 (line_cert g)).Passes
  line_passes = (
    composition_passes g safer_10 (slow g).body,
    (
      shape_passes g safer_10 (slow g).body some_10 (line_cells g),
      (
        code_passes g safer_10,
        cells_checked g safer_10 (line_cells g) (closed_covers g safer_10, (closed_cells g safer_10, ((λ s i. i), reach_cells))),
      ),
    ),
  )

  pub line_is_certified : LineIsCertified g
  line_is_certified =
      let typed = line_typed g in
      passes_certified (line g) 0 (line_cert g) typed (λ n node at. let h = typed.node_times n node at in omega arith)
      (λ m a at. let h = typed.module_times m a at in omega arith) line_passes
