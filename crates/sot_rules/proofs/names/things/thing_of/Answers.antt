-- Of `thing_of`: its promises.
use Rattle.std.proofs.Common.{◌≡◌, ◌∙◌, subst}
use Rattle.std.specs.Map.{lookup}
use Rattle.std.specs.Str.{bytes_eq}
use Rattle.sot_rules.proofs.FewNames.{few_found, many_found}
use Rattle.sot_rules.proofs.names.things.thing_of.Goals as goal

pub returns-in-Some : goal.returns-in-Some
returns-in-Some c =
    few_found c.args.things.now c.args.name.now c.first_of.result c.in-Some.kept
    (subst (λ es. c.first_of.result ≡ lookup (λ k. bytes_eq c.args.name.now k.now) es) c.as_slice.ensures.value c.first_of.ensures)
    c.in-Some.is

pub returns-else-is_empty : goal.returns-else-is_empty
returns-else-is_empty c =
    many_found c.args.things.now c.args.name.now c.first_of.result c.copied.result
    (subst (λ es. c.first_of.result ≡ lookup (λ k. bytes_eq c.args.name.now k.now) es) c.as_slice.ensures.value c.first_of.ensures)
    c.in-None.is (c.copied.ensures ∙ c.get.ensures.value)
