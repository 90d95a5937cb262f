-- Lines of the relay's flight that are refused, as wholes.
use Rattle.std.proofs.Common.{◌≡◌, ◌≢◌, ℕ, inl, inr, refl, sym, ap, subst, ◌∙◌, suc, List, [], ◌∷◌, arith, append-nil}
use Rattle.std.specs.Prelude.{codes, slice_get, take, length}
use Rattle.std.proofs.lemmas.Bool.{false≢true}
use Rattle.std.proofs.lemmas.Option.{same_Some}
use Rattle.std.specs.Global.{Global}
use Rattle.sot_world.specs.Configurations.{is_left}
use Rattle.sot_world.specs.HistoryEntry.{Logged}
use Rattle.sot_world.specs.Examples.{relay, copy}
use Rattle.sot_board.specs.Flown.{Position, FlownSoFar, Leads, IsEnd}
use Rattle.sot_board.specs.Examples.{relay_flight, relay_history}
use Rattle.sot_board.proofs.Same.{from_front}
use Rattle.sot_trace.specs.Lines.{header, line_of}
use Rattle.sot_trace.specs.Traces.{trace_lines}
use Rattle.sot_replay.specs.GoesOn.{IsTraceOf, GoesOn}
use Rattle.sot_replay.specs.Tests.{IsNextLine, IsFirstFailing}
use Rattle.sot_replay.specs.Replays.{opening_lines, IsRefusedAt}
use Rattle.sot_replay.specs.Examples.{starting, RefusedLines}
use Rattle.sot_replay.specs.declared.fail.LineKind.{LineKind}
use Rattle.sot_replay.specs.declared.fail.LineKind.TheVariants.{Missing}
use Rattle.sot_replay.proofs.LinesGoOn.{other_opening, opening_is_short}
use Rattle.sot_replay.proofs.Refusals.{refused_behind_end}
use Rattle.sot_replay.proofs.RelayRules.{rules, words}
use Rattle.sot_replay.proofs.RelayLines.{other_at, opens, none_handed, no_next, two_traces, other_first_lines, spell_nothing}

module _ (g : Global) where
  starts : FlownSoFar (relay g) 0 relay_flight [] starting
  starts = (starting, record { opening = opens g; inputs = refl; fired = refl }, refl)

  -- the flight is not at its end where it starts
  not_ended : (Q : Position) → starting ≡ Q → IsEnd (relay g) relay_flight Q → ⊥
  not_ended Q same end = false≢true (sym (end.nothing.nodes 0 (copy g) refl) ∙ ap (λ P. is_left P.at 0) (sym same))

  -- where the history begins with no entry of this line, none has it behind the header
  other_history : (entries : List Logged) (line : List ℕ) (rest : List (List ℕ)) (Q : Position) → (IsNextLine (relay g) 0 relay_flight starting line → ⊥)
      → Leads (relay g) 0 relay_flight starting entries Q
      → IsEnd (relay g) relay_flight Q → trace_lines (relay g) relay_flight.start entries ≡ header ∷ line ∷ rest → ⊥
  other_history [] line rest Q not same end is = not_ended Q same end
  other_history (e ∷ es) line rest Q not (R, flies, more) end is =
      not (e, R, flies, none_handed (e ∷ []), sym (same_Some (line_of (relay g) e) line (ap (λ l. slice_get l 1) is)))

  stops : (line : List ℕ) → (IsNextLine (relay g) 0 relay_flight starting line → ⊥) → GoesOn (relay g) 0 relay_flight (header ∷ line ∷ []) → ⊥
  stops line not (entries, rest, ((Q, so_far, end), handed), is) =
      other_history entries line rest Q not (from_front (relay g) 0 relay_flight 0 entries starting Q starts so_far) end is

  goes_on : GoesOn (relay g) 0 relay_flight (header ∷ [])
  goes_on = (relay_history, _, (two_traces g).0.0, refl)

  begun : GoesOn (relay g) 0 relay_flight []
  begun = (relay_history, _, (two_traces g).0.0, refl)

  -- a first line behind the header is refused in its place, whatever follows
  in_place : (line : List ℕ) (more : List (List ℕ)) (kind : LineKind) → line ≢ codes "0 input e=5" → line ≢ codes "0 fire copy m=0"
      → IsFirstFailing (relay g) 0 relay_flight [] starting line kind
      → IsRefusedAt (relay g) 0 relay_flight (header ∷ line ∷ more) 2 kind
  in_place line more kind not_heard not_copied fails = record {
    front = header ∷ [];
    rest = line ∷ more;
    is = refl;
    counted = refl;
    goes_on = goes_on;
    why = inr (line, more, refl, stops line (no_next g line not_heard not_copied), inr (inr (inl ([], starting, (starts, none_handed [], refl), fails))));
  }

  -- lines that stop short
  short : (n : ℕ) (lines : List (List ℕ)) → GoesOn (relay g) 0 relay_flight lines → lines ≡ take n (opening_lines (relay g) relay_flight)
      → IsRefusedAt (relay g) 0 relay_flight lines (suc (length lines)) Missing
  short n lines goes is = record {
    front = lines;
    rest = [];
    is = sym (append-nil lines);
    counted = refl;
    goes_on = goes;
    why = inl (refl, refl, λ hs trace. opening_is_short (relay g) 0 relay_flight n hs (subst (λ l. IsTraceOf (relay g) 0 relay_flight l hs) is trace));
  }

  pub refused_lines : RefusedLines g
  refused_lines = (
    in_place _ _ _ (other_at 2 102 105 _ _ refl refl (λ e. omega (arith, e))) (other_at 14 53 48 _ _ refl refl (λ e. omega (arith, e))) (other_first_lines g).0,
    in_place _ _ _ (other_at 10 49 53 _ _ refl refl (λ e. omega (arith, e))) (other_at 2 105 102 _ _ refl refl (λ e. omega (arith, e))) (other_first_lines g).4,
    in_place _ _ _ (other_at 0 49 48 _ _ refl refl (λ e. omega (arith, e))) (other_at 0 49 48 _ _ refl refl (λ e. omega (arith, e))) (other_first_lines g).6,
    in_place _ _ _ (other_at 10 48 53 _ _ refl refl (λ e. omega (arith, e))) (other_at 2 105 102 _ _ refl refl (λ e. omega (arith, e))) (spell_nothing g).0,
    short 0 [] begun refl,
    short 1 (header ∷ []) goes_on refl,
    record {
      front = [];
      rest = _;
      is = refl;
      counted = refl;
      goes_on = begun;
      why =
          inr (_, _, refl, other_opening (relay g) 0 relay_flight 0 header _ refl (other_at 12 50 49 _ _ refl refl (λ e. omega (arith, e))), inl (refl, refl));
    },
    refused_behind_end (relay g) 0 relay_flight _ _ (codes "x") [] relay_history 5 (rules g) (words g) refl refl (two_traces g).0,
  )
