-- Of `part_named`: its promises.
use Rattle.std.proofs.Common.{◌∙◌, ap, sym, map}
use Rattle.std.specs.List.{position_or_len}
use Rattle.sot_rules.specs.Names.{field_part, state_part}
use Rattle.sot_rules.specs.Scopes.{field_in}
use Rattle.sot_typing.specs.declared.names.things.Parts.TheVariants.{Fields, States}
use Rattle.sot_typing.specs.Terms.{is_meant, parts_references}
use Rattle.sot_typing.specs.Things.{parts_in}
use Rattle.sot_typing.proofs.Searches.{meant_parts}
use Rattle.sot_typing.proofs.names.things.part_named.Goals as goal

pub returns-in-Fields-clause-place : goal.returns-in-Fields-clause-place
returns-in-Fields-clause-place c =
    λ i name h.
    c.field_named.ensures.place
    ∙ sym (meant_parts i c.in-Some.name.now name (map field_part c.in-Fields.fields.now) h)
    ∙ sym (ap (λ o. position_or_len (is_meant i (field_in o)) (parts_references name (parts_in (Fields c.in-Fields.fields)))) c.in-Some.is)
    ∙ sym (ap (λ p. position_or_len (is_meant i (field_in c.args.field)) (parts_references name (parts_in p))) c.in-Fields.is)

pub returns-in-States-clause-place : goal.returns-in-States-clause-place
returns-in-States-clause-place c =
    λ i name h.
    c.state_named.ensures.place
    ∙ sym (meant_parts i c.in-Some.name.now name (map state_part c.in-States.states.now) h)
    ∙ sym (ap (λ o. position_or_len (is_meant i (field_in o)) (parts_references name (parts_in (States c.in-States.states)))) c.in-Some.is)
    ∙ sym (ap (λ p. position_or_len (is_meant i (field_in c.args.field)) (parts_references name (parts_in p))) c.in-States.is)
