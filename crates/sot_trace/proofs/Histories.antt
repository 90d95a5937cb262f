-- How a history that can be printed grows.
use Rattle.std.proofs.Common.{suc, List, [], ◌∷◌, ◌++◌, refl}
use Rattle.std.proofs.lemmas.Option.{none-some}
use Rattle.sot_lang.specs.Tables.{Tables}
use Rattle.sot_lists.proofs.ShortLists.{at_one, at_more}
use Rattle.sot_world.specs.HistoryEntry.{Logged}
use Rattle.sot_trace.specs.Fitting.{FitsEntry, FitsHistory}

module _ (p : Tables) where
  pub fits_none : FitsHistory p []
  fits_none i e at = absurd (none-some e at)

  -- with one entry more behind the others
  pub fits_more : (es : List Logged) (e : Logged) → FitsHistory p es → FitsEntry p e → FitsHistory p (es ++ e ∷ [])
  fits_more [] e fits is = at_one (λ i x. FitsEntry p x) e is
  fits_more (x ∷ es) e fits is = at_more (λ i y. FitsEntry p y) x (es ++ e ∷ []) (fits 0 x refl) (fits_more es e (λ i y at. fits (suc i) y at) is)
