-- Of `contains`: its promises.
use Rattle.std.proofs.Common.{refl, ◌≡◌, subst, ℕ, List}
use Rattle.std.specs.List.{list_any}
use Rattle.std.specs.Str.{bytes_eq}
use denote.Ref.{Bor}
use Rattle.sot_names.proofs.FewNames.{any_few, any_many, any_none}
use Rattle.sot_names.proofs.set.contains.Goals as goal

pub returns-then-is_one_of : goal.returns-then-is_one_of
returns-then-is_one_of c =
    any_few c.args.name.now c.args.set.now.few.items c.args.set.now.many.keys c.is_one_of.result
    (subst (λ ks. c.is_one_of.result ≡ list_any (λ (k : Bor (List ℕ)). bytes_eq c.args.name.now k.now) ks) c.as_slice.ensures.value c.is_one_of.ensures)
    c.if-is_one_of.true

pub returns-then-is_empty : goal.returns-then-is_empty
returns-then-is_empty c =
    any_none c.args.name.now c.args.set.now.few.items c.args.set.now.many.keys c.is_one_of.result
    (subst (λ ks. c.is_one_of.result ≡ list_any (λ (k : Bor (List ℕ)). bytes_eq c.args.name.now k.now) ks) c.as_slice.ensures.value c.is_one_of.ensures)
    c.if-is_one_of.false (c.if-is_empty.ensures.0 refl)

pub returns : goal.returns
returns c =
    any_many c.args.name.now c.args.set.now.few.items c.args.set.now.many.keys c.is_one_of.result c.contains.result
    (subst (λ ks. c.is_one_of.result ≡ list_any (λ (k : Bor (List ℕ)). bytes_eq c.args.name.now k.now) ks) c.as_slice.ensures.value c.is_one_of.ensures)
    c.if-is_one_of.false c.contains.ensures
