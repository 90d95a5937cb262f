-- What may be answered for a table may be answered for one that looks the same.
use Rattle.std.proofs.Common.{◌≡◌, ℕ, ℤ, Bool, false, true, List, Ok, Err, length, sym, ap, ◌∙◌}
use Rattle.sot_box.specs.Sides.{Side}
use Rattle.sot_lang.specs.declared.cert.Cells.{Cells}
use Rattle.sot_lang.specs.declared.cert.Cert.{Cert}
use Rattle.sot_lang.specs.declared.tables.ModuleInfo.{ModuleInfo}
use Rattle.sot_lang.specs.Tables.{Tables}
use Rattle.sot_certify.specs.Findings.{Finding, Whole, Failing, Begun}
use Rattle.sot_rta.specs.Refused.{refusal_view}
use Rattle.sot_typing.specs.Resolved.{tables_seen}
use Rattle.sot_law_equal_tables.proofs.Seen.{module_back, modules_same, plant_back, node_back}
use Rattle.sot_law_equal_tables.proofs.Nodes.{coded_alike}
use Rattle.sot_law_equal_tables.proofs.Cells.{closed_cell_alike, reach_cell_alike}
use Rattle.sot_certify.specs.declared.fail.CertifyFail.TheVariants.{Refused, Point, TooMany, Memory}
use Rattle.sot_certify.specs.Made.{IsGood, region_of, FindsCells, IsMade, FailsAt, HasTooMany, AreMade}
use Rattle.sot_certify.specs.Certifying.{IsMadeFor, AreMadeBefore}
use Rattle.sot_law_equal_verdicts.specs.Laws.{AnswersAlike}
use Rattle.sot_law_equal_verdicts.proofs.Halving.{found_alike}
use Rattle.sot_law_equal_verdicts.proofs.Conditions.{without_cells_carried}

-- a box is good alike
good_alike : (t u : Tables) → tables_seen t ≡ tables_seen u → (a : ModuleInfo) (reach : Bool) (cell : List Side) → IsGood t a reach cell → IsGood u a reach cell
good_alike t u same a false cell good = λ plant sc acts at_p at_s coded.
    let x = plant_back t u same a.plant plant at_p in
    let v = node_back t u same a.sc sc at_s in
    let us = coded_alike v.0 sc acts v.2 coded in
    closed_cell_alike t u same x.0 plant x.2 a 0 cell v.0 sc v.2 us.0 acts us.2 (good x.0 v.0 us.0 x.1 v.1 us.1)
good_alike t u same a true cell good = λ plant at_p.
    let x = plant_back t u same a.plant plant at_p in
    reach_cell_alike t u same x.0 plant x.2 a 0 cell (good x.0 x.1)

module _ (t u : Tables) (same : tables_seen t ≡ tables_seen u) where
  -- so the same is found for a list
  finds_alike : (a : ModuleInfo) (reach : Bool) (f : Finding) → FindsCells t a reach f → FindsCells u a reach f
  finds_alike a reach f =
      found_alike (IsGood t a reach) (IsGood u a reach) (good_alike t u same a reach) (good_alike u t (sym same) a reach) (region_of a reach).boxes f

  made_alike : (a : ModuleInfo) (reach : Bool) (cells : List (List Side)) → IsMade t a reach cells → IsMade u a reach cells
  made_alike a reach cells h = record { whole = finds_alike a reach (Whole cells) h.whole; few = h.few }

  fails_alike : (a : ModuleInfo) (reach : Bool) (s : List ℤ) → FailsAt t a reach s → FailsAt u a reach s
  fails_alike a reach s h = record { cells = h.cells; found = finds_alike a reach (Failing h.cells s) h.found; few = h.few }

  too_many_alike : (a : ModuleInfo) (reach : Bool) → HasTooMany t a reach → HasTooMany u a reach
  too_many_alike a reach h = record { cells = h.cells; found = finds_alike a reach (Begun h.cells) h.found; many = h.many }

  both_made_alike : (a : ModuleInfo) (cells : Cells) → AreMade t a cells → AreMade u a cells
  both_made_alike a cells h = record {
    closed = made_alike a false cells.closed.boxes h.closed;
    reach = made_alike a true cells.reach.boxes h.reach;
    closed_settled = h.closed_settled;
    reach_settled = h.reach_settled;
  }

  made_for_alike : (cert : Cert) → IsMadeFor t cert → IsMadeFor u cert
  made_for_alike cert h = record {
    jitter = h.jitter;
    entries = h.entries ∙ ap (λ (ms : List ModuleInfo). length ms) (modules_same t u same);
    cells = λ m a at. (let entry = h.cells m a (module_back t u same m a at) in (entry.0, entry.1, both_made_alike a entry.0 entry.2));
  }

  before_alike : (m : ℕ) (a : ModuleInfo) (reach : Bool) → AreMadeBefore t m a reach → AreMadeBefore u m a reach
  before_alike m a reach h = record {
    is = module_back u t (sym same) m a h.is;
    earlier = λ i b r less at. (let made = h.earlier i b r less (module_back t u same i b at) in (made.0, made_alike b r made.0 made.1));
    closed = λ is. (let made = h.closed is in (made.0, made_alike a false made.0 made.1));
  }

pub answers_alike : AnswersAlike
answers_alike t u (Ok cert) same h = ((without_cells_carried t u same).passes h.0, made_for_alike t u same cert h.1)
answers_alike t u (Err (Refused r)) same h = (without_cells_carried t u same).refuses (refusal_view r) h
answers_alike t u (Err (Point m reach s)) same h =
    ((without_cells_carried t u same).passes h.0, h.1, before_alike t u same m h.1 reach h.2, fails_alike t u same h.1 reach s h.3)
answers_alike t u (Err (TooMany m reach)) same h =
    ((without_cells_carried t u same).passes h.0, h.1, before_alike t u same m h.1 reach h.2, too_many_alike t u same h.1 reach h.3)
answers_alike t u (Err Memory) same h = tt
