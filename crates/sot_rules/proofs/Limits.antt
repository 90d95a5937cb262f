-- The first item past a limit.
use Rattle.std.proofs.Common.{◌≡◌, ◌∙◌, ℕ, ◌<◌, ◌≤◌, List, length, map, get_or, Option, option_map, ap, refl, sym, true}
use Rattle.std.proofs.lemmas.Option.{slice_get-map, slice_get_read, slice_get_past}
use Rattle.std.specs.List.{slice_get}
use Rattle.sot_text.specs.declared.token.Span.{Span}
use Rattle.sot_rules.specs.declared.fault.TypeFault.{TypeFault}
use Rattle.sot_rules.specs.declared.fault.TypeKind.TheVariants.{TooMany}
use Rattle.sot_rules.specs.Faults.{least, when, past, one_past}

module _ {X Y : Type 0} (f : X → Y) (at : Y → Span) (xs : List X) (limit : ℕ) where
  mapped : slice_get (map at (map f xs)) limit ≡ option_map at (option_map f (slice_get xs limit))
  mapped = slice_get-map at (map f xs) limit ∙ ap (option_map at) (slice_get-map f xs limit)

  -- one item stands past the limit
  pub past_noted : (x : X) (n : Y) (a b : Option TypeFault) → limit < length xs → x ≡ get_or xs limit x → n ≡ f x → b ≡ least a (when true (at n) TooMany)
      → b ≡ least a (past limit (map at (map f xs)))
  past_noted x n a b lt e named noted =
      noted
      ∙ ap (λ z. least a (when true (at z) TooMany)) named
      ∙ ap (λ z. least a (one_past z)) (sym (mapped ∙ ap (λ z. option_map at (option_map f z)) (slice_get_read xs (length xs) limit x refl lt e)))

  -- no item does
  pub none_past : (a : Option TypeFault) → length xs ≤ limit → a ≡ least a (past limit (map at (map f xs)))
  none_past a le = ap (λ z. least a (one_past z)) (sym (mapped ∙ ap (λ z. option_map at (option_map f z)) (slice_get_past xs limit le)))
