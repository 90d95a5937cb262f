use Rattle.std.proofs.Common.{◌≡◌, ℕ, List, length, refl, sym, ap, ◌∙◌, subst}
use Rattle.sot_lists.specs.Places.{At}
use Rattle.sot_box.specs.Sides.{Side}
use Rattle.sot_box.specs.BoxList.{BoxList}
use Rattle.sot_recover.specs.Found.{AreRanksOf}
use Rattle.sot_recover.proofs.CellTubes.{account}
use Rattle.sot_recover.proofs.Whole.{vec_whole, one_width, few_cells, hulls_one_width}
use Rattle.sot_recover.proofs.within.ranked_cells.Goals as goal

pub of-requires : goal.of-requires
of-requires c =
    let g = account c.args.p.now c.args.cert.now c.args.«module» c.requires.rules c.requires.certified c.requires.fits c.requires.module_is in
    one_width c.args.p.now c.args.cert.now c.args.«module» c.requires.fits g c.in_ok-boxes_of.field-0.items
    (c.in_ok-boxes_of.ensures ∙ ap (λ (b : BoxList). b.boxes) (c.closed_cells-closed.ensures g))

pub survey-requires-clause-cells_are : goal.survey-requires-clause-cells_are
survey-requires-clause-cells_are c g = ap (λ (b : BoxList). b.boxes) (c.closed_cells-closed.ensures g)

pub of-requires-2 : goal.of-requires-2
of-requires-2 c =
    let g = account c.args.p.now c.args.cert.now c.args.«module» c.requires.rules c.requires.certified c.requires.fits c.requires.module_is in
    let closed = c.closed_cells-closed.result.now.boxes in
    hulls_one_width c.args.p.now c.args.cert.now c.args.«module» c.requires.fits g closed (ap (λ (b : BoxList). b.boxes) (c.closed_cells-closed.ensures g))
    (length closed) c.survey.new.hulls.items c.survey.new.set.items c.survey.new.leaving.items refl c.in_ok-survey.ensures

pub rank_cells-requires-clause-ground : goal.rank_cells-requires-clause-ground
rank_cells-requires-clause-ground c =
    let e : c.in_ok-cells.cells ≡ c.closed_cells-closed.result.now.boxes = c.in_ok-cells.ensures ∙ c.in_ok-boxes_of.ensures in
    let h : c.in_ok-hulls.hulls ≡ c.survey.new.hulls.items = c.in_ok-hulls.ensures in
    let s = c.in_ok-survey.ensures in
    record {
      module_is = c.requires.module_is;
      rules = c.requires.rules;
      fits = c.requires.fits;
      certified = c.requires.certified;
      cells_are = λ g. e ∙ ap (λ (b : BoxList). b.boxes) (c.closed_cells-closed.ensures g);
      count = ap length h ∙ s.hulls_count ∙ sym (ap length e);
      hulls_are =
          λ g i cell hull at_c at_h. s.hulls_are g i cell hull (subst (λ (l : List (List Side)). At l i cell) e at_c)
          (subst (λ (l : List (List Side)). At l i hull) h at_h);
    }

pub rank_cells-requires-clause-few : goal.rank_cells-requires-clause-few
rank_cells-requires-clause-few c =
    let g = account c.args.p.now c.args.cert.now c.args.«module» c.requires.rules c.requires.certified c.requires.fits c.requires.module_is in
    few_cells c.args.p.now c.args.cert.now c.args.«module» c.requires.fits g c.in_ok-cells.cells
    (c.in_ok-cells.ensures ∙ c.in_ok-boxes_of.ensures ∙ ap (λ (b : BoxList). b.boxes) (c.closed_cells-closed.ensures g))

pub returns-clause-cells : goal.returns-clause-cells
returns-clause-cells c g =
    c.into_cells-cells.ensures ∙ c.in_ok-cells.ensures ∙ c.in_ok-boxes_of.ensures ∙ ap (λ (b : BoxList). b.boxes) (c.closed_cells-closed.ensures g)

pub returns-clause-ranks : goal.returns-clause-ranks
returns-clause-ranks c g =
    let are = c.in_ok-rank_cells.ensures g in
    let same : length c.rank_cells.new.ranks ≡ length c.in_ok-ranks.ranks.items = are.count
    ∙ sym (ap (λ (b : BoxList). length b.boxes) (c.closed_cells-closed.ensures g)) ∙ sym c.len.ensures ∙ sym c.in_ok-ranks.ensures in
    subst (λ (l : List ℕ). AreRanksOf g l) (sym (vec_whole c.rank_cells.new.ranks c.in_ok-ranks.ranks.items c.in_ok-ranks.ranks.len same
    c.in_ok-ranks.ranks.ok.0)) are
