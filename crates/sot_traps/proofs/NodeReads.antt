-- What a coded node's evaluation asks for and answers, from what is read of the tables.
use Rattle.std.proofs.Common.{◌≡◌, ℕ, ◌+◌, ◌≤◌, ◌≤ℤ◌, ◌++◌, List, length, get_or, sym, ap, ◌∙◌, subst, arith, length-append}
use Rattle.std.specs.Prelude.{map}
use Rattle.std.proofs.lemmas.List.{length-map}
use Rattle.sot_box.specs.Sides.{Side}
use Rattle.sot_lists.specs.Places.{At}
use Rattle.sot_lang.specs.declared.act.Act.{Act}
use Rattle.sot_lang.specs.declared.tables.LocalInfo.{LocalInfo}
use Rattle.sot_lang.specs.declared.tables.NodeInfo.{NodeInfo}
use Rattle.sot_lang.specs.declared.tables.Slot.{Slot}
use Rattle.sot_lang.specs.Tables.{Tables}
use Rattle.sot_lang.specs.Ranges.{local_ranges}
use Rattle.sot_lang.specs.TableRules.{MeetsTableRules, IsCoded}
use Rattle.sot_iv.specs.declared.drafted.Drafted.{Drafted}
use Rattle.sot_iv.specs.TermIntervals.{OrMayTrap}
use Rattle.sot_iv.specs.NodeFirings.{MayEvaluate, IsNodeDraft}
use Rattle.sot_lang.proofs.Owners.{node_is}
use Rattle.sot_traps.specs.Readings.{AreReadings, CanBeRead}
use Rattle.sot_traps.specs.Verdict.{HaveSafeBoxes, IsCodedNode, IsVerdictOf}
use Rattle.sot_traps.proofs.SlotReadings.{can_be_read, readings_length}
use Rattle.sot_traps.proofs.Verdicts.{told, verdict_of}

module _ (made p : Tables) (view : made ≡ p) (kept : MeetsTableRules made) (boxes : HaveSafeBoxes p) (n : ℕ) (coded : IsCodedNode p n) (info : NodeInfo)
    (read : info ≡ get_or made.nodes n info) where
  rules' : MeetsTableRules p
  rules' = subst MeetsTableRules view kept

  is : info ≡ get_or p.nodes n info
  is = read ∙ ap (λ (t : Tables). get_or t.nodes n info) view

  same : coded.0 ≡ info
  same = node_is p n coded.0 info coded.2 is

  here : At p.nodes n info
  here = subst (λ x. At p.nodes n x) same coded.2

  module _ (reads : List Slot) (reads_are : reads ≡ info.reads.items) where
    -- what the node reads can be read
    pub readable : (i : ℕ) (s : Slot) → At reads i s → CanBeRead p s
    readable i s at = can_be_read p rules' boxes n info here i s (subst (λ l. At l i s) reads_are at)

    module _ (sides : List Side) (are : AreReadings p reads sides) (locals : List LocalInfo) (locals_are : locals ≡ info.locals.items) where
      mine : AreReadings p info.reads.items sides
      mine = subst (λ l. AreReadings p l sides) reads_are are

      long : length sides ≡ length info.reads.items
      long = readings_length p info.reads.items sides mine

      -- its locals have room behind them
      pub room : length sides + length locals ≤ 80
      room = (let d = ap length locals_are in omega (arith, long, d, (rules'.nodes n info here).reads, (rules'.nodes n info here).locals))

      -- and ordered ranges
      pub ordered : (i : ℕ) (l : LocalInfo) → At locals i l → l.lo ≤ℤ l.hi
      ordered i l at = ((rules'.nodes n info here).local_ranges i l (subst (λ q. At q i l) locals_are at)).range

      module _ (ranges : List Side) (ranges_are : ranges ≡ sides ++ map (λ (x : LocalInfo). record { lo = x.lo; hi = x.hi }) locals) where
        whole : ranges ≡ sides ++ local_ranges info
        whole = ranges_are ∙ ap (λ l. sides ++ map (λ (x : LocalInfo). record { lo = x.lo; hi = x.hi }) l) locals_are

        -- its body may be evaluated over these intervals
        pub may_evaluate : MayEvaluate p n ranges
        may_evaluate =
            let size = ap length whole ∙ length-append sides (local_ranges info) in
            let own : length (local_ranges info) ≡ length info.locals.items =
            length-map info.locals.items (λ (x : LocalInfo). record { lo = x.lo; hi = x.hi }) in
            let names : length ranges ≡ length info.reads.items + length info.locals.items = omega (arith, size, own, long) in
            record {
              node = info;
              acts = coded.1;
              is = here;
              coded = subst (λ x. IsCoded x coded.1) same coded.3;
              names = names;
            }

        -- what the evaluation gives is the verdict
        pub verdict : (result : OrMayTrap (List Drafted)) → IsNodeDraft p n ranges result → (node : NodeInfo) (acts : List Act) → At p.nodes n node
            → IsCoded node acts → IsVerdictOf p node acts (told result)
        verdict result gives node acts at body =
            let theirs : info ≡ node = sym (node_is p n node info at is) in
            let its : AreReadings p node.reads.items sides = subst (λ (x : NodeInfo). AreReadings p x.reads.items sides) theirs mine in
            verdict_of p n node acts sides ranges result rules' boxes at its (whole ∙ ap (λ x. sides ++ local_ranges x) theirs) (gives node acts at body)
