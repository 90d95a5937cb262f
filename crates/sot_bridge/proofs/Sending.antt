-- What is sent, entry by entry.
use Rattle.std.proofs.Common.{◌≡◌, ◌∙◌, ℕ, ◌+◌, List, ◌++◌, drop, refl, sym, ap, append_assoc}
use Rattle.sot_lists.specs.Places.{At}
use Rattle.sot_lists.proofs.Places.{drop_at}
use Rattle.sot_lang.specs.Tables.{Tables}
use Rattle.sot_world.specs.HistoryEntry.{Logged, InputAt, FireAt, DecideAt, TickAt}
use Rattle.sot_flight.specs.Relayed.{Send}
use Rattle.sot_history_state.specs.Scenes.{Scene, after, scalars_after}
use Rattle.sot_bridge.specs.SendLaws.{sent_by, sends_from}

pub after_scalars : (p : Tables) (e : Logged) (s : Scene) → (after p e s).scalars ≡ scalars_after p e s.scalars
after_scalars p (InputAt time topic value) s = refl
after_scalars p (FireAt time n draft enabled) s = refl
after_scalars p (DecideAt time m mode) s = refl
after_scalars p (TickAt time noise states) s = refl

-- the entries from a place on
pub sends_step : (p : Tables) (topic : ℕ) (es : List Logged) (i : ℕ) (e : Logged) (s : Scene) → At es i e
    → sends_from p topic s.scalars (drop i es)
    ≡ sent_by p topic e (after p e s).scalars ++ sends_from p topic (after p e s).scalars (drop (i + 1) es)
sends_step p topic es i e s at =
    ap (sends_from p topic s.scalars) (drop_at es i e at)
    ∙ ap (λ xs. sent_by p topic e xs ++ sends_from p topic xs (drop (i + 1) es)) (sym (after_scalars p e s))

-- what was sent before, by this entry, and by those behind it
pub sent_more : (done one rest now total : List Send) → now ≡ one ++ rest → done ++ now ≡ total → (done ++ one) ++ rest ≡ total
sent_more done one rest now total is so_far = append_assoc done one rest ∙ ap (λ l. done ++ l) (sym is) ∙ so_far
