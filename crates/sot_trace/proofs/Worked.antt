-- A worked start and history meet what the law asks for.
use Rattle.std.proofs.Common.{◌≡◌, pos, negsuc, [], ◌∷◌, Some, refl, lit<, lit≤}
use Rattle.std.specs.Global.{Global}
use Rattle.std.proofs.lemmas.Option.{none-some}
use Rattle.sot_lang.specs.Line.{line, cmd, cmd_number, pos_plant, fast, slow, nav}
use Rattle.sot_lists.proofs.ShortLists.{at_one, at_two, at_more}
use Rattle.sot_world.specs.HistoryEntry.{DecideAt}
use Rattle.sot_world.specs.declared.mode.Mode.TheVariants.{Sc}
use Rattle.sot_trace.specs.Words.{IsWord, AreWords}
use Rattle.sot_trace.specs.Telling.{IsTold, IsTraced}
use Rattle.sot_trace.specs.Examples.{fires, ticks, back}

pub words : (g : Global) → AreWords (line g)
words g = record {
  topics = at_one (λ k x. IsWord x.name) (cmd g) refl;
  fields = λ k info field at is. at_one (λ n x. x.field ≡ Some field → IsWord field) (cmd_number g) (λ e. absurd (none-some field e)) k info at is;
  plants = at_one (λ k x. IsWord x.name) (pos_plant g) refl;
  nodes = at_two (λ k x. IsWord x.name) (fast g) (slow g) refl refl;
  modules = at_one (λ k x. IsWord x.name) (nav g) refl;
}

pub traced : (g : Global) → IsTraced (line g) ((pos 20 ∷ []) ∷ []) back
traced g = record {
  starts = lit≤ tt;
  told = at_more (λ i e. IsTold (line g) e) (DecideAt 12 0 Sc) (fires 13 1 (negsuc 1) ∷ ticks 13 (pos 1) (negsuc 18) ∷ []) (lit< tt)
      (at_two (λ i e. IsTold (line g) e) (fires 13 1 (negsuc 1)) (ticks 13 (pos 1) (negsuc 18)) (lit< tt, (Some (negsuc 1) ∷ [], refl, refl))
      (lit≤ tt, lit≤ tt));
}
