-- One text has one history in order.
use Rattle.std.proofs.Common.{◌≡◌, ℕ, List, Option, None, Some, sym, ap, subst, arith}
use Rattle.std.proofs.lemmas.Option.{same_Some}
use Rattle.sot_sections.specs.declared.mission.Need.TheVariants as needs
use Rattle.sot_sections.specs.Sections.{Parts}
use Rattle.sot_lang.specs.Tables.{Tables}
use Rattle.sot_cert.specs.CertFormat.{Contents}
use Rattle.sot_world.specs.HistoryEntry.{Logged}
use Rattle.sot_flight.specs.Plans.{Plan}
use Rattle.sot_flight.specs.Fits.{FitsFlight}
use Rattle.sot_ordered_board.specs.Crews.{HasNoGuests}
use Rattle.sot_ordered_board.specs.Order.{FliesInOrder}
use Rattle.sot_ordered_board.proofs.OneHistory.{one_history_in_order}
use Rattle.sot_law_equal_flights.proofs.Histories.{ordered}
use Rattle.sot_report.specs.Missions.{Mission, SaysFlight}
use Rattle.sot_commands.specs.Answers.{SpellsFor}
use Rattle.sot_commands.proofs.SameMissions.{same_flown, sections, seen, said}

-- a flight that a text says fits the tables
said_fits : (guests : ℕ) (t : Tables) (section : Option (List ℕ)) (f : Plan) (a : Option Plan) → a ≡ Some f → SaysFlight t guests section a
    → FitsFlight t guests f
said_fits guests t None f None is says = absurd cc
said_fits guests t None f (Some a) is says = absurd says
said_fits guests t (Some section) f None is says = absurd says
said_fits guests t (Some section) f (Some a) is says = subst (FitsFlight t guests) (same_Some a f is) says.1

module _ (guests : ℕ) (nobody : guests ≡ 0) (bytes : List ℕ) (m n : Mission) (x : SpellsFor needs.Fly guests bytes m) (y : SpellsFor needs.Fly guests bytes n)
    (f g : Plan) (is : m.flight ≡ Some f) (is' : n.flight ≡ Some g) where
  pub same_plan : f ≡ g
  same_plan =
      same_flown guests m.tables n.tables x.parts.flight f g m.flight n.flight (seen needs.Fly guests bytes m n x y) is is' x.flown
      (subst (λ (q : Parts). SaysFlight n.tables guests q.flight n.flight) (sym (sections needs.Fly guests bytes m n x y)) y.flown)

  -- without guests two histories in order of one text's mission are one
  pub one_history : (h h' : List Logged) → FliesInOrder m.tables m.cert.jitter f h → FliesInOrder n.tables n.cert.jitter g h' → h ≡ h'
  one_history h h' order order' =
      let fits = said_fits guests m.tables x.parts.flight f m.flight is x.flown in
      let none : HasNoGuests f = λ k i at. (let below = fits.guests_there k i at in omega (arith, below, nobody)) in
      let jitter : m.cert.jitter ≡ n.cert.jitter = ap (λ (c : Contents). c.jitter) (said needs.Fly guests bytes m n x y) in
      let moved = ordered n.tables m.tables n.cert.jitter g h' (sym (seen needs.Fly guests bytes m n x y)) order' in
      let here : FliesInOrder m.tables m.cert.jitter f h' =
      subst (λ (q : Plan). FliesInOrder m.tables m.cert.jitter q h') (sym same_plan)
      (subst (λ j. FliesInOrder m.tables j g h') (sym jitter) moved) in
      one_history_in_order m.tables m.cert.jitter guests f h h' fits none order here
