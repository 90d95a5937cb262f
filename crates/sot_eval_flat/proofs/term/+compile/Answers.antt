use Rattle.std.proofs.Common.{rules, arith, ◌≡◌, ◌+◌, pos, true, false, [], ◌∷◌, ◌++◌, Ok, refl, length, ap, ap₂, sym, subst, ◌∙◌, FitsSigned, w64}
use Rattle.std.proofs.lemmas.List.{append-nil}
use Rattle.std.specs.Prelude.{int_le, ◌-ℤ◌, ◌*ℤ◌}
use Rattle.sot_syntax_tree.specs.Functions.{arity}
use Rattle.sot_lang.specs.declared.term.Term.{the_lemmas}
use Rattle.sot_lang.specs.Values.{value_of, then_with, called, floor_div, is_true}
use Rattle.sot_lang.specs.Ticks.{values}
use Rattle.sot_lang.proofs.Places.{HasPlaces-Call}
use Rattle.sot_code.proofs.Filling.{read_word}
use Rattle.sot_eval_flat.specs.declared.instruction.Make.TheVariants.{Min, Max, Clamp, Neg, Abs, Not, And, Without, Rest, Select}
use Rattle.sot_eval_flat.specs.Instructions.{made, number_at}
use Rattle.sot_eval_flat.specs.Shapes.{IsRoom, Reckons, ReckonsCall}
use Rattle.sot_eval_flat.proofs.Reckoning.{leads_more, leads_then, two_behind}
use Rattle.sot_text.specs.declared.token.Span.{Span}
use Rattle.sot_eval_flat.proofs.Making.{both_are, plus_two, plus_three, plus_four, three_behind, five_behind, value_of-Neg, value_of-Not, value_of-Rest}
use Rattle.sot_eval_flat.proofs.Making.{if_ok, finish, tested, named, states, leads_room, reckons_call, one_value, two_values, three_values, value_of-Rescale}
use Rattle.sot_eval_flat.proofs.Branching.{counter, sides_lead, taken_is}
use Rattle.sot_eval_flat.proofs.term.+compile.Goals as goal

pub compile-compile_call-requires : goal.compile-compile_call-requires
compile-compile_call-requires t c =
    let p = HasPlaces-Call c.in-Call.func c.in-Call.parts c.in-Call.at _ (rw c.in-Call.is at c.requires.places) in
    (search (rules, the_lemmas, c.in-Call.is, c.decreases), (p.0, (p.1, (c.requires.behind, (c.requires.counts, c.if-base-gt-MOST_DEEP.false)))))

pub compile-returns-in-Number : goal.compile-returns-in-Number
compile-returns-in-Number t c =
    let n = c.args.shape.now.names in
    let stated = c.args.shape.now.constants.items in
    let z = c.in-Number.z in
    let fits : FitsSigned w64 z = search rules in
    let h = rw (read_word z fits) at c.place_of.ensures in
    if_ok c.place_of.result _ _
    (λ place w. (
      [],
      sym (append-nil c.args.line.now.items),
      states n stated c.args.counts c.args.base c.requires.behind w.0 z place c.args.term.now
          w.1 w.2 c.in-Number.is,
    ))
    h

pub compile-returns-in-Place : goal.compile-returns-in-Place
compile-returns-in-Place t c =
    let k = c.in-Place.n in
    let lt = rw c.in-Place.is at c.requires.places in (
      [],
      sym (append-nil c.args.line.now.items),
      named c.args.shape.now.names c.args.shape.now.constants.items c.args.counts c.args.base c.requires.behind k k c.args.term.now lt refl c.in-Place.is,
    )

pub compile-returns-in-Call : goal.compile-returns-in-Call
compile-returns-in-Call t c =
    let n = c.args.shape.now.names in
    let stated = c.args.shape.now.constants.items in
    if_ok c.compile_call.result _ _
    (λ place w. (
      w.0,
      w.1,
      reckons_call n stated c.args.counts c.args.base c.requires.behind c.in-Call.func c.in-Call.parts c.in-Call.at c.args.term.now w.0 place
          c.in-Call.is w.2,
    ))
    c.compile_call.ensures

pub compile-returns-in_ok-b-in-Binary : goal.compile-returns-in_ok-b-in-Binary
compile-returns-in_ok-b-in-Binary t c =
    let n = c.args.shape.now.names in
    let stated = c.args.shape.now.constants.items in
    let base = c.args.base in
    let g = c.args.counts in
    let below = c.requires.counts in
    let le = c.requires.behind in
    let deep = c.if-base-gt-MOST_DEEP.false in
    let fa = c.in_ok-a-in-Binary.ensures in
    let fb = c.in_ok-b-in-Binary.ensures in
    let pa = c.in_ok-a-in-Binary.a in
    let pb = c.in_ok-b-in-Binary.b in
    let l = c.in-Binary.left.value in
    let r = c.in-Binary.right.value in
    let at = c.in-Binary.at in
    let ra = subst (λ u. Reckons n stated g base u fa.0 pa) c.deref.ensures fa.2 in
    let rb = subst (λ u. Reckons n stated g (base + 1) u fb.0 pb) c.deref-in-Binary.ensures fb.2 in
    let lead = leads_then n stated g base l fa.0 fb.0 pa (λ names ys. value_of r names ≡ Ok (number_at ys pb)) le below ra rb.1 in
    finish c.emit.result base c.args.line.now.items _ c.emit.new.line.items (fa.0 ++ fb.0) _
    (λ x place. Reckons n stated g base c.args.term.now x place) c.emit.ensures
    (two_behind c.args.line.now.items _ _ fa.0 fb.0 fa.1 fb.1) (
      omega arith,
      leads_more n stated g base (fa.0 ++ fb.0) (record { make = c.make_of.result; to = base; a = pa; b = pb; c = pb; counts = g })
          (λ names ys. (value_of l names ≡ Ok (number_at ys pa)) × (value_of r names ≡ Ok (number_at ys pb)))
          (λ names z. value_of c.args.term.now names ≡ Ok z) refl refl below (omega (arith, deep)) lead
          (λ names ms z told made_is.
          ap (λ u. value_of u names) c.in-Binary.is ∙ both_are c.in-Binary.op at (value_of l names) (value_of r names) (number_at ms pa) (number_at ms pb)
          told.0 told.1
          ∙ sym (c.make_of.ensures at (number_at ms pa) (number_at ms pb) (number_at ms pb)) ∙ made_is at),
    )

pub compile-returns-in_ok-a-in-Neg : goal.compile-returns-in_ok-a-in-Neg
compile-returns-in_ok-a-in-Neg t c =
    let n = c.args.shape.now.names in
    let stated = c.args.shape.now.constants.items in
    let base = c.args.base in
    let g = c.args.counts in
    let below = c.requires.counts in
    let le = c.requires.behind in
    let deep = c.if-base-gt-MOST_DEEP.false in
    let fa = c.in_ok-a-in-Neg.ensures in
    let pa = c.in_ok-a-in-Neg.a in
    let l = c.in-Neg.part.value in
    let ra = subst (λ u. Reckons n stated g base u fa.0 pa) c.deref-in-Neg.ensures fa.2 in
    finish c.emit-in-Neg.result base c.args.line.now.items _ c.emit-in-Neg.new.line.items fa.0 _ (λ x place. Reckons n stated g base c.args.term.now x place)
    c.emit-in-Neg.ensures fa.1 (
      omega arith,
      leads_more n stated g base fa.0 (record { make = Neg; to = base; a = pa; b = pa; c = pa; counts = g })
          (λ names ys. value_of l names ≡ Ok (number_at ys pa))
          (λ names z. value_of c.args.term.now names ≡ Ok z) refl refl below (omega (arith, deep)) ra.1
          (λ names ms z told made_is. ap (λ u. value_of u names) c.in-Neg.is ∙ value_of-Neg l c.in-Neg.at names (number_at ms pa) told ∙ made_is c.in-Neg.at),
    )

pub compile-returns-in_ok-a-in-Not : goal.compile-returns-in_ok-a-in-Not
compile-returns-in_ok-a-in-Not t c =
    let n = c.args.shape.now.names in
    let stated = c.args.shape.now.constants.items in
    let base = c.args.base in
    let g = c.args.counts in
    let below = c.requires.counts in
    let le = c.requires.behind in
    let deep = c.if-base-gt-MOST_DEEP.false in
    let fa = c.in_ok-a-in-Not.ensures in
    let pa = c.in_ok-a-in-Not.a in
    let l = c.in-Not.part.value in
    let ra = subst (λ u. Reckons n stated g base u fa.0 pa) c.deref-in-Not.ensures fa.2 in
    finish c.emit-in-Not.result base c.args.line.now.items _ c.emit-in-Not.new.line.items fa.0 _ (λ x place. Reckons n stated g base c.args.term.now x place)
    c.emit-in-Not.ensures fa.1 (
      omega arith,
      leads_more n stated g base fa.0 (record { make = Not; to = base; a = pa; b = pa; c = pa; counts = g })
          (λ names ys. value_of l names ≡ Ok (number_at ys pa))
          (λ names z. value_of c.args.term.now names ≡ Ok z) refl refl below (omega (arith, deep)) ra.1
          (λ names ms z told made_is. ap (λ u. value_of u names) c.in-Not.is ∙ value_of-Not l c.in-Not.at names (number_at ms pa) told ∙ made_is c.in-Not.at),
    )

pub compile-returns-in_ok-b-in-Rest : goal.compile-returns-in_ok-b-in-Rest
compile-returns-in_ok-b-in-Rest t c =
    let n = c.args.shape.now.names in
    let stated = c.args.shape.now.constants.items in
    let base = c.args.base in
    let g = c.args.counts in
    let below = c.requires.counts in
    let le = c.requires.behind in
    let deep = c.if-base-gt-MOST_DEEP.false in
    let fa = c.in_ok-a-in-Rest.ensures in
    let pa = c.in_ok-a-in-Rest.a in
    let by = c.in-Rest.by in
    let fits : FitsSigned w64 by = search rules in
    let fb = rw (read_word by fits) at c.in_ok-b-in-Rest.ensures in
    let pb = c.in_ok-b-in-Rest.b in
    let l = c.in-Rest.left.value in
    let ra = subst (λ u. Reckons n stated g base u fa.0 pa) c.deref-in-Rest.ensures fa.2 in
    let at = c.in-Rest.at in
    finish c.emit-in-Rest.result base c.args.line.now.items _ c.emit-in-Rest.new.line.items fa.0 _ (λ x place. Reckons n stated g base c.args.term.now x place)
    c.emit-in-Rest.ensures fa.1 (
      omega arith,
      leads_more n stated g base fa.0 (record { make = Rest; to = base; a = pa; b = pb; c = pb; counts = g })
          (λ names ys. (value_of l names ≡ Ok (number_at ys pa)) × IsRoom n stated ys)
          (λ names z. value_of c.args.term.now names ≡ Ok z) refl refl below (omega (arith, deep))
          (leads_room n stated g base le fa.0 (λ names ys. value_of l names ≡ Ok (number_at ys pa)) ra.1)
          (λ names ms z told made_is.
          let x = number_at ms pa in
          let by_is : number_at ms pb ≡ by = ap (number_at ms) fb.2 ∙ told.1.1 fb.0 by fb.1 in
          ap (λ u. value_of u names) c.in-Rest.is ∙ value_of-Rest l by at names x told.0
          ∙ ap (λ d. Ok (x -ℤ (d *ℤ floor_div x d))) (sym by_is)
          ∙ tested at (int_le (pos 1) (number_at ms pb)) (x -ℤ (number_at ms pb *ℤ floor_div x (number_at ms pb))) z (made_is at)),
    )

pub compile-returns-else-saturating_sub-gt-LONG : goal.compile-returns-else-saturating_sub-gt-LONG
compile-returns-else-saturating_sub-gt-LONG t c =
    let n = c.args.shape.now.names in
    let stated = c.args.shape.now.constants.items in
    let base = c.args.base in
    let g = c.args.counts in
    let below = c.requires.counts in
    let le = c.requires.behind in
    let deep = c.if-base-gt-MOST_DEEP.false in
    let fa = c.in_ok-a-in-If.ensures in
    let fi = c.in_ok-first-in-If.ensures in
    let fb = c.in_ok-b-in-If.ensures in
    let fj = c.in_ok-second-in-If.ensures in
    let fc = c.in_ok-c-in-If.ensures in
    let pa = c.in_ok-a-in-If.a in
    let pb = c.in_ok-b-in-If.b in
    let pc = c.in_ok-c-in-If.c in
    let o = c.in-If.cond.value in
    let l = c.in-If.yes.value in
    let r = c.in-If.no.value in
    let ra = subst (λ u. Reckons n stated g base u fa.0 pa) c.deref-in-If.ensures fa.2 in
    let rb0 = subst (λ u. Reckons n stated c.in_ok-first-in-If.first (base + 2) u fb.0 pb) c.deref-in-If-2.ensures fb.2 in
    let rc0 = subst (λ u. Reckons n stated c.in_ok-second-in-If.second (base + 4) u fc.0 pc) c.deref-in-If-3.ensures fc.2 in
    let rb1 = subst (λ k. Reckons n stated k (base + 2) l fb.0 pb) fi.0 rb0 in
    let rc1 = subst (λ k. Reckons n stated k (base + 4) r fc.0 pc) (fj.0 ∙ plus_three base) rc0 in
    let rb : Reckons n stated (base + 1) (base + 1 + 1) l fb.0 pb = subst (λ k. Reckons n stated (base + 1) k l fb.0 pb) (plus_two base) rb1 in
    let rc : Reckons n stated (base + 1 + 2) (base + 1 + 2 + 1) r fc.0 pc = subst (λ k. Reckons n stated (base + 1 + 2) k r fc.0 pc) (plus_four base) rc1 in
    let i = counter n stated g pa And (base + 1) in
    let j = counter n stated g pa Without (base + 1 + 2) in
    let j_is = fj.1 ∙ ap (λ k. c.compile-in-If-2.new.line.items ++ (record { make = Without; to = k; a = g; b = pa; c = pa; counts = g }) ∷ [])
    (plus_three base) in
    let sides = sides_lead n stated g pa c.in-If.at (base + 1) l r fb.0 fc.0 pb pc (omega (arith, le)) (omega (arith, below)) (omega (arith, fa.2.0))
    (omega (arith, deep)) rb rc in
    let lead = leads_then n stated g base o fa.0 ((i ∷ fb.0) ++ j ∷ fc.0) pa (λ names ys.
    (is_true (number_at ys pa) ≡ true → value_of l names ≡ Ok (number_at ys pb))
    × (is_true (number_at ys pa) ≡ false → value_of r names ≡ Ok (number_at ys pc))) le below ra sides in
    finish c.emit-in-If-3.result base c.args.line.now.items _ c.emit-in-If-3.new.line.items (fa.0 ++ ((i ∷ fb.0) ++ j ∷ fc.0)) _
    (λ x place. Reckons n stated g base c.args.term.now x place) c.emit-in-If-3.ensures
    (five_behind c.args.line.now.items _ _ _ _ _ fa.0 (i ∷ []) fb.0 (j ∷ []) fc.0 fa.1 fi.1 fb.1 j_is fc.1) (
      omega arith,
      leads_more n stated g base (fa.0 ++ ((i ∷ fb.0) ++ j ∷ fc.0)) (record { make = Select; to = base; a = pa; b = pb; c = pc; counts = g }) (λ names ys.
          (value_of o names ≡ Ok (number_at ys pa))
          × ((is_true (number_at ys pa) ≡ true → value_of l names ≡ Ok (number_at ys pb))
          × (is_true (number_at ys pa) ≡ false → value_of r names ≡ Ok (number_at ys pc)))) (λ names z. value_of c.args.term.now names ≡ Ok z) refl refl below
          (omega (arith, deep)) lead
          (λ names ms z told made_is.
          ap (λ u. value_of u names) c.in-If.is
          ∙ taken_is (value_of o names) (value_of l names) (value_of r names) (number_at ms pa) (number_at ms pb) (number_at ms pc) z told.0 told.1.0 told.1.1
          (made_is c.in-If.at)),
    )

pub compile-returns-in_ok-b-in-Rescale : goal.compile-returns-in_ok-b-in-Rescale
compile-returns-in_ok-b-in-Rescale t c =
    let n = c.args.shape.now.names in
    let stated = c.args.shape.now.constants.items in
    let base = c.args.base in
    let g = c.args.counts in
    let below = c.requires.counts in
    let le = c.requires.behind in
    let deep = c.if-base-gt-MOST_DEEP.false in
    let fa = c.in_ok-a-in-Rescale.ensures in
    let pa = c.in_ok-a-in-Rescale.a in
    let by = c.scale_change-scaling.result.by in
    let make = c.scale_change-scaling.result.make in
    let fits : FitsSigned w64 by = search rules in
    let fb = rw (read_word by fits) at c.in_ok-b-in-Rescale.ensures in
    let pb = c.in_ok-b-in-Rescale.b in
    let l = c.in-Rescale.part.value in
    let from = c.in-Rescale.from in
    let to = c.in-Rescale.to in
    let at = c.in-Rescale.at in
    let scales = rw c.in-Rescale.is at c.requires.places in
    let ra = subst (λ u. Reckons n stated g base u fa.0 pa) c.deref-in-Rescale.ensures fa.2 in
    finish c.emit-in-Rescale.result base c.args.line.now.items _ c.emit-in-Rescale.new.line.items fa.0 _
    (λ x place. Reckons n stated g base c.args.term.now x place)
    c.emit-in-Rescale.ensures fa.1 (
      omega arith,
      leads_more n stated g base fa.0 (record { make = make; to = base; a = pa; b = pb; c = pb; counts = g })
          (λ names ys. (value_of l names ≡ Ok (number_at ys pa)) × IsRoom n stated ys)
          (λ names z. value_of c.args.term.now names ≡ Ok z) refl refl below (omega (arith, deep))
          (leads_room n stated g base le fa.0 (λ names ys. value_of l names ≡ Ok (number_at ys pa)) ra.1)
          (λ names ms z told made_is.
          let x = number_at ms pa in
          let by_is : number_at ms pb ≡ by = ap (number_at ms) fb.2 ∙ told.1.1 fb.0 by fb.1 in
          ap (λ u. value_of u names) c.in-Rescale.is ∙ value_of-Rescale l from to at names x told.0
          ∙ sym (c.scale_change-scaling.ensures scales.0 scales.1 at x by) ∙ ap₂ (λ d e. made make at x d e) (sym by_is) (sym by_is) ∙ made_is at),
    )

pub compile_call-returns-in_ok-a-in-Abs : goal.compile_call-returns-in_ok-a-in-Abs
compile_call-returns-in_ok-a-in-Abs t c =
    let n = c.args.shape.now.names in
    let stated = c.args.shape.now.constants.items in
    let base = c.args.base in
    let g = c.args.counts in
    let below = c.requires.counts in
    let deep = c.requires.deep in
    let parts = c.args.parts.now.items in
    let size : length parts ≡ 1 = c.requires.arity ∙ ap arity c.in-Abs.is in
    let fa = c.in_ok-a-in-Abs.ensures in
    let pa = c.in_ok-a-in-Abs.a in
    let l = c.index-in-Abs.result.now in
    finish c.emit-in-Abs.result base c.args.line.now.items _ c.emit-in-Abs.new.line.items fa.0 _
    (λ x place. ReckonsCall n stated g base c.args.func parts x place) c.emit-in-Abs.ensures fa.1 (
      omega arith,
      leads_more n stated g base fa.0 (record { make = Abs; to = base; a = pa; b = pa; c = pa; counts = g })
          (λ names ys. value_of l names ≡ Ok (number_at ys pa))
          (λ names z. (at : Span) → then_with (values parts names) (called c.args.func at) ≡ Ok z) refl refl below (omega (arith, deep)) fa.2.1
          (λ names ms z told made_is at.
          let x = number_at ms pa in
          ap (λ v. then_with v (called c.args.func at)) (one_value parts l names x size c.index-in-Abs.ensures told)
          ∙ ap (λ f. called f at (x ∷ [])) c.in-Abs.is ∙ made_is at),
    )

pub compile_call-returns-in_ok-b-in-Min : goal.compile_call-returns-in_ok-b-in-Min
compile_call-returns-in_ok-b-in-Min t c =
    let n = c.args.shape.now.names in
    let stated = c.args.shape.now.constants.items in
    let base = c.args.base in
    let g = c.args.counts in
    let below = c.requires.counts in
    let le = c.requires.behind in
    let deep = c.requires.deep in
    let parts = c.args.parts.now.items in
    let size : length parts ≡ 2 = c.requires.arity ∙ ap arity c.in-Min.is in
    let fa = c.in_ok-a-in-Min.ensures in
    let fb = c.in_ok-b-in-Min.ensures in
    let pa = c.in_ok-a-in-Min.a in
    let pb = c.in_ok-b-in-Min.b in
    let l = c.index.result.now in
    let r = c.index-in-Min.result.now in
    let lead = leads_then n stated g base l fa.0 fb.0 pa (λ names ys. value_of r names ≡ Ok (number_at ys pb)) le below fa.2 fb.2.1 in
    finish c.emit.result base c.args.line.now.items _ c.emit.new.line.items (fa.0 ++ fb.0) _
    (λ x place. ReckonsCall n stated g base c.args.func parts x place) c.emit.ensures
    (two_behind c.args.line.now.items _ _ fa.0 fb.0 fa.1 fb.1) (
      omega arith,
      leads_more n stated g base (fa.0 ++ fb.0) (record { make = Min; to = base; a = pa; b = pb; c = pb; counts = g })
          (λ names ys. (value_of l names ≡ Ok (number_at ys pa)) × (value_of r names ≡ Ok (number_at ys pb)))
          (λ names z. (at : Span) → then_with (values parts names) (called c.args.func at) ≡ Ok z) refl refl below (omega (arith, deep)) lead
          (λ names ms z told made_is at.
          let x = number_at ms pa in
          let y = number_at ms pb in
          ap (λ v. then_with v (called c.args.func at)) (two_values parts l r names x y size c.index.ensures c.index-in-Min.ensures told.0 told.1)
          ∙ ap (λ f. called f at (x ∷ y ∷ [])) c.in-Min.is ∙ made_is at),
    )

pub compile_call-returns-in_ok-b-in-Max : goal.compile_call-returns-in_ok-b-in-Max
compile_call-returns-in_ok-b-in-Max t c =
    let n = c.args.shape.now.names in
    let stated = c.args.shape.now.constants.items in
    let base = c.args.base in
    let g = c.args.counts in
    let below = c.requires.counts in
    let le = c.requires.behind in
    let deep = c.requires.deep in
    let parts = c.args.parts.now.items in
    let size : length parts ≡ 2 = c.requires.arity ∙ ap arity c.in-Max.is in
    let fa = c.in_ok-a-in-Max.ensures in
    let fb = c.in_ok-b-in-Max.ensures in
    let pa = c.in_ok-a-in-Max.a in
    let pb = c.in_ok-b-in-Max.b in
    let l = c.index-in-Max.result.now in
    let r = c.index-in-Max-2.result.now in
    let lead = leads_then n stated g base l fa.0 fb.0 pa (λ names ys. value_of r names ≡ Ok (number_at ys pb)) le below fa.2 fb.2.1 in
    finish c.emit-in-Max.result base c.args.line.now.items _ c.emit-in-Max.new.line.items (fa.0 ++ fb.0) _
    (λ x place. ReckonsCall n stated g base c.args.func parts x place) c.emit-in-Max.ensures
    (two_behind c.args.line.now.items _ _ fa.0 fb.0 fa.1 fb.1) (
      omega arith,
      leads_more n stated g base (fa.0 ++ fb.0) (record { make = Max; to = base; a = pa; b = pb; c = pb; counts = g })
          (λ names ys. (value_of l names ≡ Ok (number_at ys pa)) × (value_of r names ≡ Ok (number_at ys pb)))
          (λ names z. (at : Span) → then_with (values parts names) (called c.args.func at) ≡ Ok z) refl refl below (omega (arith, deep)) lead
          (λ names ms z told made_is at.
          let x = number_at ms pa in
          let y = number_at ms pb in
          ap (λ v. then_with v (called c.args.func at)) (two_values parts l r names x y size c.index-in-Max.ensures c.index-in-Max-2.ensures told.0 told.1)
          ∙ ap (λ f. called f at (x ∷ y ∷ [])) c.in-Max.is ∙ made_is at),
    )

pub compile_call-returns-in_ok-c-in-Clamp : goal.compile_call-returns-in_ok-c-in-Clamp
compile_call-returns-in_ok-c-in-Clamp t c =
    let n = c.args.shape.now.names in
    let stated = c.args.shape.now.constants.items in
    let base = c.args.base in
    let g = c.args.counts in
    let below = c.requires.counts in
    let le = c.requires.behind in
    let deep = c.requires.deep in
    let parts = c.args.parts.now.items in
    let size : length parts ≡ 3 = c.requires.arity ∙ ap arity c.in-Clamp.is in
    let fa = c.in_ok-a-in-Clamp.ensures in
    let fb = c.in_ok-b-in-Clamp.ensures in
    let pa = c.in_ok-a-in-Clamp.a in
    let pb = c.in_ok-b-in-Clamp.b in
    let l = c.index-in-Clamp.result.now in
    let r = c.index-in-Clamp-2.result.now in
    let fc = c.in_ok-c-in-Clamp.ensures in
    let pc = c.in_ok-c-in-Clamp.c in
    let o = c.index-in-Clamp-3.result.now in
    let third : Reckons n stated g (base + 1 + 1) o fc.0 pc = subst (λ k. Reckons n stated g k o fc.0 pc) (plus_two base) fc.2 in
    let back = leads_then n stated g (base + 1) r fb.0 fc.0 pb (λ names ys. value_of o names ≡ Ok (number_at ys pc)) (omega (arith, le))
    (omega (arith, below)) fb.2 third.1 in
    let lead = leads_then n stated g base l fa.0 (fb.0 ++ fc.0) pa
    (λ names ys. (value_of r names ≡ Ok (number_at ys pb)) × (value_of o names ≡ Ok (number_at ys pc))) le below fa.2 back in
    finish c.emit-in-Clamp.result base c.args.line.now.items _ c.emit-in-Clamp.new.line.items (fa.0 ++ (fb.0 ++ fc.0)) _
    (λ x place. ReckonsCall n stated g base c.args.func parts x place) c.emit-in-Clamp.ensures
    (three_behind c.args.line.now.items _ _ _ fa.0 fb.0 fc.0 fa.1 fb.1 fc.1) (
      omega arith,
      leads_more n stated g base (fa.0 ++ (fb.0 ++ fc.0)) (record { make = Clamp; to = base; a = pa; b = pb; c = pc; counts = g })
          (λ names ys. (value_of l names ≡ Ok (number_at ys pa)) × ((value_of r names ≡ Ok (number_at ys pb)) × (value_of o names ≡ Ok (number_at ys pc))))
          (λ names z. (at : Span) → then_with (values parts names) (called c.args.func at) ≡ Ok z) refl refl below (omega (arith, deep)) lead
          (λ names ms z told made_is at.
          let x = number_at ms pa in
          let y = number_at ms pb in
          let w = number_at ms pc in
          ap (λ v. then_with v (called c.args.func at))
          (three_values parts l r o names x y w size c.index-in-Clamp.ensures c.index-in-Clamp-2.ensures c.index-in-Clamp-3.ensures told.0 told.1.0 told.1.1)
          ∙ ap (λ f. called f at (x ∷ y ∷ w ∷ [])) c.in-Clamp.is ∙ made_is at),
    )
