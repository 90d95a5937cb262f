-- Of `insert_name`: its promises.
use Rattle.std.proofs.Common.{◌≡◌, ◌∙◌, subst, ap, not, refl, ℕ, List}
use Rattle.std.specs.List.{list_any}
use Rattle.std.specs.Str.{bytes_eq}
use denote.Ref.{Bor}
use Rattle.sot_names.proofs.FewNames.{any_few, any_many, any_none, kept_as_is, few_longer, many_longer}
use Rattle.sot_names.proofs.set.insert_name.Goals as goal

pub returns-then-is_one_of-clause-added : goal.returns-then-is_one_of-clause-added
returns-then-is_one_of-clause-added c =
    ap not (any_few c.args.name.now c.args.set.now.few.items c.args.set.now.many.keys c.is_one_of.result
    (subst (λ ks. c.is_one_of.result ≡ list_any (λ (k : Bor (List ℕ)). bytes_eq c.args.name.now k.now) ks) c.as_slice.ensures.value c.is_one_of.ensures)
    c.if-is_one_of.true)

pub returns-then-is_one_of-clause-keys : goal.returns-then-is_one_of-clause-keys
returns-then-is_one_of-clause-keys c =
    kept_as_is c.args.name c.args.set.now.few.items c.args.set.now.many.keys c.is_one_of.result
    (subst (λ ks. c.is_one_of.result ≡ list_any (λ (k : Bor (List ℕ)). bytes_eq c.args.name.now k.now) ks) c.as_slice.ensures.value c.is_one_of.ensures)
    c.if-is_one_of.true

pub returns-then-is_empty-clause-added : goal.returns-then-is_empty-clause-added
returns-then-is_empty-clause-added c =
    ap not (any_none c.args.name.now c.args.set.now.few.items c.args.set.now.many.keys c.is_one_of.result
    (subst (λ ks. c.is_one_of.result ≡ list_any (λ (k : Bor (List ℕ)). bytes_eq c.args.name.now k.now) ks) c.as_slice.ensures.value c.is_one_of.ensures)
    c.if-is_one_of.false (c.if-is_empty.ensures.0 refl))

pub returns-then-is_empty-clause-keys : goal.returns-then-is_empty-clause-keys
returns-then-is_empty-clause-keys c =
    few_longer c.args.name c.args.set.now.few.items c.args.set.now.many.keys c.push.new.self.items c.is_one_of.result
    (subst (λ ks. c.is_one_of.result ≡ list_any (λ (k : Bor (List ℕ)). bytes_eq c.args.name.now k.now) ks) c.as_slice.ensures.value c.is_one_of.ensures)
    c.if-is_one_of.false (c.if-is_empty.ensures.0 refl) c.in_ok-push.ensures.items

pub returns-clause-added : goal.returns-clause-added
returns-clause-added c =
    c.in_ok-added.ensures.added
    ∙ ap not (any_many c.args.name.now c.args.set.now.few.items c.args.set.now.many.keys c.is_one_of.result _
    (subst (λ ks. c.is_one_of.result ≡ list_any (λ (k : Bor (List ℕ)). bytes_eq c.args.name.now k.now) ks) c.as_slice.ensures.value c.is_one_of.ensures)
    c.if-is_one_of.false refl)

pub returns-clause-keys : goal.returns-clause-keys
returns-clause-keys c =
    many_longer c.args.name c.args.set.now.few.items c.args.set.now.many.keys _ c.is_one_of.result
    (subst (λ ks. c.is_one_of.result ≡ list_any (λ (k : Bor (List ℕ)). bytes_eq c.args.name.now k.now) ks) c.as_slice.ensures.value c.is_one_of.ensures)
    c.if-is_one_of.false c.in_ok-added.ensures.keys
