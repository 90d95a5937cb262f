use Rattle.std.proofs.Common.{◌≡◌, ◌≤◌, true, length, refl, sym, ap, ap₂, ◌∙◌, subst, rules}
use Rattle.sot_lang.specs.Tables.{Tables}
use Rattle.sot_board.specs.Counts.{state_count}
use Rattle.sot_trace_lines.specs.Kept.{kept_row}
use Rattle.sot_trace_lines.proofs.ShownLines.{is_empty}
use Rattle.sot_guard_lines.specs.declared.said.Said.TheVariants.{Tick}
use Rattle.sot_guard_lines.specs.Sayings.{TickSaid}
use Rattle.sot_guard_lines.specs.Room.{said_room}
use Rattle.sot_guard_lines.specs.Readers.{places_at}
use Rattle.sot_guard_lines.proofs.Room.{states_fit, roomier}
use Rattle.sot_guard_lines.proofs.ShownSaid.{row_shown}
use Rattle.sot_guard_lines.proofs.read.read_states.Goals as goal

pub places_at-requires : goal.places_at-requires
places_at-requires c =
    let plants = ap (λ (p : Tables). p.plants) (sym c.p.view_is) ∙ sym c.deref.ensures.value in
    record {
      room =
          roomier (state_count c.deref.result.now) (said_room c.args.p.now) c.args.numbers.now
          (subst (λ ks. state_count ks ≤ said_room c.args.p.now) plants (states_fit c.args.p.now c.keeps_rules.ensures)) c.requires.room;
    }

pub returns-clause-said : goal.returns-clause-said
returns-clause-said c =
    let read = c.in-Some.read in
    let none : length read.rest.now ≡ 0 = search rules in
    let plants = ap (λ (p : Tables). p.plants) (sym c.p.view_is) ∙ sym c.deref.ensures.value in
    let kept = ap₂ (λ items ks. kept_row (items, true) (places_at ks c.args.text.now)) (sym c.requires.none) plants
    ∙ sym c.in-Some.ensures.read in
    row_shown c.places_at.new.numbers.items read.whole read.rest.now (λ v. TickSaid v) (Tick read.whole)
    (places_at c.args.p.now.plants c.args.text.now) kept (is_empty read.rest.now none) (λ v holds. (v, refl, holds))
