-- FlightCounts and sums, entry by entry.
use Rattle.std.proofs.Common.{◌≡◌, ℕ, ◌+◌, ℤ, ◌+ℤ◌, List, drop, ap, refl}
use Rattle.sot_lists.specs.Places.{At}
use Rattle.sot_lists.proofs.Places.{drop_at}
use Rattle.sot_world.specs.HistoryEntry.{Logged}
use Rattle.sot_summary.specs.declared.summary.Summary.{Summary}
use Rattle.sot_summary.specs.Counted.{total, states_in, states_sum}

-- the next number, and those behind it
pub total_more : (xs : List ℤ) (i : ℕ) (x : ℤ) → At xs i x → total (drop i xs) ≡ x +ℤ total (drop (i + 1) xs)
total_more xs i x at = ap total (drop_at xs i x at)

-- the states of the next entry, and of those behind it
pub states_more : (es : List Logged) (i : ℕ) (e : Logged) → At es i e → states_sum (drop i es) ≡ states_in e +ℤ states_sum (drop (i + 1) es)
states_more es i e at = ap states_sum (drop_at es i e at)

-- summaries of the same counts are the same
pub same_summary :
    {modules modules' nodes nodes' horizon horizon' firings firings' ticks ticks' refused refused' outside outside' : ℕ} {sum sum' : ℤ} → modules ≡ modules'
    → nodes ≡ nodes' → horizon ≡ horizon'
    → firings ≡ firings' → ticks ≡ ticks' → refused ≡ refused' → outside ≡ outside' → sum ≡ sum'
    → ◌≡◌ {A = Summary} (record {
      modules = modules;
      nodes = nodes;
      horizon = horizon;
      firings = firings;
      ticks = ticks;
      refused = refused;
      outside = outside;
      sum = sum;
    })
    (record { modules = modules'; nodes = nodes'; horizon = horizon'; firings = firings'; ticks = ticks'; refused = refused'; outside = outside'; sum = sum' })
same_summary a b c d e f g h = rw (a, b, c, d, e, f, g, h) refl
