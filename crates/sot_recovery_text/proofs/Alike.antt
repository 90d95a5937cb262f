-- What is told of tables that look the same.
use Rattle.std.proofs.Common.{◌≡◌, ℕ, zero, suc, ◌+◌, ◌*◌, List, [], ◌∷◌, ◌++◌}
use Rattle.std.proofs.Common.{Option, Some, None, length, map, codes, refl, sym, ap, ap₂, ◌∙◌}
use Rattle.std.proofs.Common.{subst}
use Rattle.std.specs.Prelude.{slice_get}
use Rattle.std.specs.Option.{option_map_or}
use Rattle.std.specs.Fmt.{decimal}
use Rattle.sot_lists.specs.Places.{Has}
use Rattle.sot_lists.proofs.Places.{same_list}
use Rattle.sot_lang.specs.declared.cert.Cert.{Cert}
use Rattle.sot_lang.specs.declared.tables.ModuleInfo.{ModuleInfo}
use Rattle.sot_lang.specs.declared.tables.NodeInfo.{NodeInfo}
use Rattle.sot_lang.specs.Tables.{Tables}
use Rattle.sot_typing.specs.Resolved.{NodeTable, node_seen, tables_seen}
use Rattle.sot_law_equal_tables.proofs.Seen.{modules_same, nodes_seen_same}
use Rattle.sot_law_equal_ranks.specs.Laws.{LookTheSame}
use Rattle.sot_law_equal_ranks.proofs.Parts.{turned}
use Rattle.sot_law_equal_ranks.proofs.Ranks.{one_answer}
use Rattle.sot_lang.specs.Names.{module_name}
use Rattle.sot_report.specs.Pieces.{line}
use Rattle.sot_report.specs.RefusalTexts.{at_point}
use Rattle.sot_recovery_text.specs.Lines.{Outcome, Within, Never, safe_period, recover_line, line_within, line_never, recover_lines, never_lines}
use Rattle.sot_recovery_text.specs.Recovery.{HasOutcome, TellsAll, AllRecover, SomeNever}
use Rattle.sot_recovery_text.specs.Laws.{ToldOnce}

-- the period at a place of nodes that look the same
period_seen : (ns : List NodeInfo) (k : ℕ)
    → option_map_or (λ (n : NodeInfo). n.period) (slice_get ns k) 0 ≡ option_map_or (λ (n : NodeTable). n.period) (slice_get (map node_seen ns) k) 0
period_seen [] k = refl
period_seen (n ∷ ns) zero = refl
period_seen (n ∷ ns) (suc k) = period_seen ns k

module _ (t u : Tables) (same : tables_seen t ≡ tables_seen u) where
  node_period : (k : ℕ)
      → option_map_or (λ (n : NodeInfo). n.period) (slice_get t.nodes k) 0 ≡ option_map_or (λ (n : NodeInfo). n.period) (slice_get u.nodes k) 0
  node_period k =
      period_seen t.nodes k
      ∙ ap (λ (ns : List NodeTable). option_map_or (λ (n : NodeTable). n.period) (slice_get ns k) 0) (nodes_seen_same t u same)
      ∙ sym (period_seen u.nodes k)

  of_module : (o : Option ModuleInfo)
      → option_map_or (λ (a : ModuleInfo). option_map_or (λ (n : NodeInfo). n.period) (slice_get t.nodes a.sc) 0) o 0
      ≡ option_map_or (λ (a : ModuleInfo). option_map_or (λ (n : NodeInfo). n.period) (slice_get u.nodes a.sc) 0) o 0
  of_module None = refl
  of_module (Some a) = node_period a.sc

  period_same : (m : ℕ) → safe_period t m ≡ safe_period u m
  period_same m =
      of_module (slice_get t.modules m)
      ∙ ap (λ (ms : List ModuleInfo). option_map_or
      (λ (a : ModuleInfo). option_map_or (λ (n : NodeInfo). n.period) (slice_get u.nodes a.sc) 0) (slice_get ms m) 0)
      (modules_same t u same)

  name_same : (m : ℕ) → module_name t m ≡ module_name u m
  name_same m = ap (λ (ms : List ModuleInfo). option_map_or (λ (x : ModuleInfo). x.name) (slice_get ms m) []) (modules_same t u same)

  line_same : (i j m n : ℕ) → i ≡ j → recover_line t i m n ≡ recover_line u j m n
  line_same i j m n is = λ x.
      codes "recover " ++ (name_same m x ++ (codes " holds " ++ (decimal n ++ (codes " ticks " ++ line (decimal (n * (period_same m x + is x)))))))

  within_same : (i j m : ℕ) (o : Outcome) → i ≡ j → line_within t i m o ≡ line_within u j m o
  within_same i j m (Within n) is = line_same i j m n is
  within_same i j m (Never s) is = refl

  never_same : (m : ℕ) (o : Outcome) → line_never t m o ≡ line_never u m o
  never_same m (Within n) = refl
  never_same m (Never s) = λ x. line (codes "refused " ++ codes "recover" ++ (codes " module " ++ name_same m x) ++ at_point s)

  recover_lines_same : (i j m : ℕ) (os : List Outcome) → i ≡ j → recover_lines t i m os ≡ recover_lines u j m os
  recover_lines_same i j m [] is = refl
  recover_lines_same i j m (o ∷ os) is = ap₂ (λ (a b : List ℕ). a ++ b) (within_same i j m o is) (recover_lines_same i j (m + 1) os is)

  never_lines_same : (m : ℕ) (os : List Outcome) → never_lines t m os ≡ never_lines u m os
  never_lines_same m [] = refl
  never_lines_same m (o ∷ os) = ap₂ (λ (a b : List ℕ). a ++ b) (never_same m o) (never_lines_same (m + 1) os)

-- a module has one outcome, whichever of the tables is asked
one_outcome : (t u : Tables) (c d : Cert) → LookTheSame t u c d → (m : ℕ) (x y : Outcome) → HasOutcome t c m x → HasOutcome u d m y → x ≡ y
one_outcome t u c d same m (Within n) (Within k) a b = ap Within ((one_answer t u c d m a.parts b.parts same).0 n k a.rank b.rank)
one_outcome t u c d same m (Never s) (Never r) a b = ap Never ((one_answer t u c d m a.parts b.parts same).1 s r a.none b.none)
one_outcome t u c d same m (Within n) (Never r) a b = absurd ((one_answer t u c d m a.parts b.parts same).2 n r a.rank b.none)
one_outcome t u c d same m (Never s) (Within k) a b = absurd ((one_answer u t d c m b.parts a.parts (turned t u c d same)).2 k s b.rank a.none)

module _ (t u : Tables) (c d : Cert) (text other : List ℕ) (same : LookTheSame t u c d) where
  modules_count : length t.modules ≡ length u.modules
  modules_count = ap (λ (ms : List ModuleInfo). length ms) (modules_same t u same.tables)

  one_list : (os ps : List Outcome) → TellsAll t c os text → TellsAll u d ps other → os ≡ ps
  one_list os ps a b = same_list os ps (a.are.count ∙ modules_count ∙ sym b.are.count)
      (λ m x y here there. one_outcome t u c d same m x y (a.are.each m x here) (b.are.each m y there))

  one_text : (os ps : List Outcome) → TellsAll t c os text → TellsAll u d ps other → text ≡ other
  one_text os ps a b =
      a.said
      ∙ ap₂ (λ (x y : List ℕ). x ++ y) (never_lines_same t u same.tables 0 os) (recover_lines_same t u same.tables c.jitter d.jitter 0 os same.jitter)
      ∙ ap (λ (l : List Outcome). never_lines u 0 l ++ recover_lines u d.jitter 0 l) (one_list os ps a b)
      ∙ sym b.said

  never_both : AllRecover t c text → SomeNever u d other → ⊥
  never_both a b = a.all b.point (subst (λ (l : List Outcome). Has l (Never b.point)) (sym (one_list a.outcomes b.outcomes a.tells b.tells)) b.never)

pub told_once : ToldOnce
told_once t u c d text other same = (
  λ a b. one_text t u c d text other same a.outcomes b.outcomes a.tells b.tells,
  λ a b. one_text t u c d text other same a.outcomes b.outcomes a.tells b.tells,
  never_both t u c d text other same,
)
