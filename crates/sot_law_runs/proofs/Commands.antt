-- Commands that are held lie in the intervals of the drafts from a cell.
use Rattle.std.proofs.Common.{◌≡◌, ℕ, ◌+◌, ◌<◌, ◌≤◌, ℤ, ⊎_elim, List, [], length, sym, ◌∙◌, subst, arith}
use Rattle.std.specs.Prelude.{slice_index_or, slice_set}
use Rattle.std.proofs.lemmas.Bool.{cases_eq}
use Rattle.std.proofs.lemmas.List.{get_or-set_same, get_or-set_other, length-map}
use Rattle.std.proofs.lemmas.Option.{slice_get_within, same_Some}
use Rattle.sot_lists.proofs.Places.{at_map}
use Rattle.sot_box.specs.Sides.{Side}
use Rattle.sot_box.specs.Boxes.{IsWithin}
use Rattle.sot_box.proofs.Ranges.{within_length, within_at}
use Rattle.sot_lang.specs.declared.cert.Cert.{Cert}
use Rattle.sot_lang.specs.Tables.{Tables}
use Rattle.sot_lang.specs.TableRules.{IsTyped}
use Rattle.sot_lang.specs.Ranges.{range_of, input_ranges, local_ranges, write_ranges}
use Rattle.sot_lang.specs.Readings.{reading}
use Rattle.sot_iv.specs.BodyIntervals.{Intervals}
use Rattle.sot_iv.specs.NodeIntervals.{reading_intervals}
use Rattle.sot_iv.proofs.BodySound.{AreDrafted, exec_sound}
use Rattle.sot_tube.specs.Certified.{command_interval, command_intervals, DraftsFrom}
use Rattle.sot_lang.specs.Bodies.{Fired}
use Rattle.sot_tube.specs.WellFormed.{FiresTo, Agrees}
use Rattle.sot_tube.proofs.Certificate.{within_by, command_lies, reading_within}
use Rattle.sot_law_runs.specs.Holds.{Guarded, MayRead, IsHeldPath, IsHold}

-- a hold that may go on
pub record IsBegun {p : Tables} {cert : Cert} {m : ℕ} (g : Guarded p cert m) (s : List ℤ) (path : List (List ℤ)) : Type 0 where
  pub scalars : List ℤ
  pub points : List (List ℤ)
  pub locals : List ℤ
  pub fired : Fired
  pub c : List ℤ
  pub reads : MayRead g s scalars points locals
  pub fires : FiresTo p g.sc g.acts scalars points locals fired
  pub types : IsWithin (input_ranges p g.plant) c
  pub agrees : Agrees g.plant g.sc fired.draft c
  pub ticks : IsHeldPath g c s path
  pub most : length path ≤ g.sc.period + cert.jitter

pub begun : {p : Tables} {cert : Cert} {m : ℕ} (g : Guarded p cert m) (s : List ℤ) (path : List (List ℤ)) → IsHold g s path → IsBegun g s path
begun g s path h =
    record {
      scalars = h.scalars;
      points = h.points;
      locals = h.locals;
      fired = h.fired;
      c = h.c;
      reads = h.reads;
      fires = h.fires;
      types = h.types;
      agrees = h.agrees;
      ticks = h.ticks;
      most = h.most;
    }

pub whole : {p : Tables} {cert : Cert} {m : ℕ} (g : Guarded p cert m) (s : List ℤ) (path : List (List ℤ)) → IsBegun g s path
    → g.sc.period ≤ length path + cert.jitter → IsHold g s path
whole g s path h least =
    record {
      scalars = h.scalars;
      points = h.points;
      locals = h.locals;
      fired = h.fired;
      c = h.c;
      reads = h.reads;
      fires = h.fires;
      types = h.types;
      agrees = h.agrees;
      ticks = h.ticks;
      least = least;
      most = h.most;
    }

module _ {p : Tables} {cert : Cert} {m : ℕ} (g : Guarded p cert m) (typed : IsTyped p) where
  -- what the safe node reads lies in what the cell's evaluation reads
  cell_reading : (cell : List Side) (s : List ℤ) (path : List (List ℤ)) (hulls : List (List Side)) (fired : Intervals)
      (drafts : DraftsFrom p g.info g.sc g.acts cell fired) (h : IsBegun g s path) → IsWithin cell s
      → IsWithin (reading_intervals p g.sc (slice_set drafts.hulls g.info.plant cell)) (reading g.sc h.scalars h.points)
  cell_reading cell s path hulls fired drafts h in_cell =
      let lt : g.info.plant < length drafts.hulls = omega (arith, slice_get_within p.plants g.info.plant g.plant g.plant_is, drafts.are.0) in
      reading_within p g.sc (slice_set drafts.hulls g.info.plant cell) h.scalars h.points h.reads.scalars_in (λ k v has.
      ⊎_elim
      (λ (same : k ≡ g.info.plant). subst (λ q. IsWithin (slice_index_or (slice_set drafts.hulls g.info.plant cell) q []) (slice_index_or h.points q []))
      (sym same)
      (subst (λ q. IsWithin q (slice_index_or h.points g.info.plant [])) (sym (get_or-set_same drafts.hulls g.info.plant cell [] lt))
      (subst (IsWithin cell) (sym h.reads.here) in_cell)))
      (λ (ne : k ≡ g.info.plant → ⊥). let other = typed.reads_are g.info.sc g.sc k v g.sc_is has in
      subst (λ q. IsWithin q (slice_index_or h.points k [])) (sym (get_or-set_other drafts.hulls g.info.plant k cell [] ne))
      ((drafts.are.1 k other.0 other.1).holds (slice_index_or h.points k []) (h.reads.others_in k v has ne)))
      (cases_eq k g.info.plant))

  pub commands_lie : (cell : List Side) (s : List ℤ) (path : List (List ℤ)) (fired : Intervals) (drafts : DraftsFrom p g.info g.sc g.acts cell fired)
      (h : IsBegun g s path) → IsWithin cell s → IsWithin (command_intervals p g.plant g.sc fired.draft) h.c
  commands_lie cell s path fired drafts h in_cell =
      let reads = cell_reading cell s path drafts.hulls fired drafts h in_cell in
      let x = exec_sound g.acts (local_ranges g.sc) (write_ranges p g.sc) (reading_intervals p g.sc (slice_set drafts.hulls g.info.plant cell))
      (local_ranges g.sc) (reading g.sc h.scalars h.points) h.locals fired reads h.reads.locals_in drafts.runs in
      let runs = h.fires in
      let same : x.0 ≡ h.fired = cc in
      let drafted : AreDrafted fired.draft h.fired.draft = subst (λ q. AreDrafted fired.draft q.draft) same x.2.draft in
      within_by (command_interval p g.sc.writes.items fired.draft) g.plant.inputs.items h.c
      (within_length (input_ranges p g.plant) h.c h.types ∙ length-map g.plant.inputs.items (range_of p.scalars))
      (λ i k y at_i at_c. command_lies p g.sc.writes.items fired.draft h.fired.draft k y drafted
      (within_at (input_ranges p g.plant) h.c i (range_of p.scalars k) y h.types (at_map (range_of p.scalars) g.plant.inputs.items i k at_i) at_c)
      (λ l z at_w at_d. same_Some y z (sym at_c ∙ h.agrees l i k z at_w at_i at_d)))
