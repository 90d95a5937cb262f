-- The list of a program's faults has exactly the rules that fail, and its least one is the first fault.
use Rattle.std.proofs.Common.{◌≡◌, inl, inr, List, [], ◌∷◌, map, Some, None, refl, sym, subst}
use Rattle.sot_lists.specs.Places.{Has}
use Rattle.sot_text.specs.declared.token.Span.{Span}
use Rattle.sot_syntax_tree.specs.Trees.{Program}
use Rattle.sot_rules.specs.declared.fault.TypeFault.{TypeFault}
use Rattle.sot_rules.specs.declared.fault.TypeKind.{TypeKind}
use Rattle.sot_rules.specs.Names.{declared_name}
use Rattle.sot_rules.specs.Lists.{places}
use Rattle.sot_rules.specs.Tests.{topic_name, plant_name, node_name, module_name, names_of}
use Rattle.sot_rules.specs.Fails.{Fails, declared_twice, many_topics, many_nodes, many_modules, many_plants, declaration}
use Rattle.sot_rules.specs.First.{IsNotAfter, IsFirstFault, IsFaultless}
use Rattle.sot_rules.specs.Faults.{fault, together, declaration_faults, program_lists, faults, least}
use Rattle.sot_rules.proofs.Members.{In, has_in, in_has, in_together, of_together, in_each, of_each}
use Rattle.sot_rules.proofs.ListFaults.{repeats_in, of_repeats, past_in, of_past}
use Rattle.sot_rules.proofs.DeclarationFaults.{declaration_in, of_declaration}
use Rattle.sot_rules.proofs.Least.{least_is, least_some}

fault_in : (p : Program) {at : Span} {k : TypeKind} → Fails p at k → In (fault at k) (together (program_lists p))
fault_in p (declared_twice {at = at} r) = in_together _ (program_lists p) 0 (repeats_in (map declared_name p.decls) at r)
fault_in p (many_topics {at = at} r) = in_together _ (program_lists p) 1 (past_in 512 (places (names_of topic_name p)) at r)
fault_in p (many_nodes {at = at} r) = in_together _ (program_lists p) 2 (past_in 300 (places (names_of node_name p)) at r)
fault_in p (many_modules {at = at} r) = in_together _ (program_lists p) 3 (past_in 100 (places (names_of module_name p)) at r)
fault_in p (many_plants {at = at} r) = in_together _ (program_lists p) 4 (past_in 100 (places (names_of plant_name p)) at r)
fault_in p (declaration {d = d} m h) = in_together _ (program_lists p) 5 (in_each _ (declaration_faults p) p.decls d m (declaration_in p h))

of_fault : (p : Program) (at : Span) (k : TypeKind) → In (fault at k) (together (program_lists p)) → Fails p at k
of_fault p at k h =
    of_together (Fails p at k) (fault at k) (program_lists p) (
      of_repeats (Fails p) (map declared_name p.decls) (λ w r. declared_twice r) at k,
      (
        of_past (Fails p) 512 (places (names_of topic_name p)) (λ w r. many_topics r) at k,
        (
          of_past (Fails p) 300 (places (names_of node_name p)) (λ w r. many_nodes r) at k,
          (
            of_past (Fails p) 100 (places (names_of module_name p)) (λ w r. many_modules r) at k,
            (
              of_past (Fails p) 100 (places (names_of plant_name p)) (λ w r. many_plants r) at k,
              (
                (λ x. of_each (fault at k) (declaration_faults p) p.decls x (λ d m y. declaration m (of_declaration p d at k y))),
                tt,
              ),
            ),
          ),
        ),
      ),
    )
    h

pub listed : (p : Program) (f : TypeFault) → Has (faults p) f → Fails p f.at f.kind
unfolding faults
listed p f h = of_fault p f.at f.kind (has_in f (together (program_lists p)) h)

pub failing : (p : Program) (f : TypeFault) → Fails p f.at f.kind → Has (faults p) f
unfolding faults
failing p f h = in_has f (together (program_lists p)) (fault_in p h)

first_by : (p : Program) (f : TypeFault) (xs : List TypeFault) → faults p ≡ xs → least None xs ≡ Some f → IsFirstFault p f
first_by p f [] q e = cc
first_by p f (x ∷ xs) q e =
    let r = least_is x xs f e in
    record {
      fails = listed p f (in_has f (faults p) (subst (λ z. In f z) (sym q) (elim r.0 [ inl a ↦ inl (sym a) | inr a ↦ inr a ])));
      first = λ g h. elim (subst (λ z. In g z) q (has_in g (faults p) (failing p g h))) [ inl a ↦ subst (λ z. IsNotAfter f z) a r.1 | inr a ↦ r.2 g a ];
    }

pub first_is : (p : Program) (f : TypeFault) → least None (faults p) ≡ Some f → IsFirstFault p f
first_is p f e = first_by p f (faults p) refl e

none_by : (p : Program) (xs : List TypeFault) → faults p ≡ xs → least None xs ≡ None → IsFaultless p
none_by p [] q e at k h = subst (λ z. In (fault at k) z) q (has_in (fault at k) (faults p) (failing p (fault at k) h))
none_by p (x ∷ xs) q e at k h = let r = least_some x xs in cc

pub none_is : (p : Program) → least None (faults p) ≡ None → IsFaultless p
none_is p e = none_by p (faults p) refl e
