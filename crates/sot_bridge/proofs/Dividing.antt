-- A text that is divided line by line.
use Rattle.std.proofs.Common.{◌≡◌, ℕ, zero, suc, ◌+◌, ◌<◌, ◌≤◌, Bool, true, false, List, [], ◌∷◌, ◌++◌, Option, None, Some, length, take}
use Rattle.std.proofs.Common.{drop, refl, sym, ap, ap₂, ◌∙◌, append_assoc, arith}
use Rattle.std.specs.Prelude.{◌==◌, if◌then◌else◌}
use Rattle.std.specs.Option.{option_map}
use Rattle.std.proofs.Math.Seq.{take-add}
use Rattle.std.proofs.Math.ListN.{drop_of_length-le}
use Rattle.std.proofs.lemmas.List.{length-drop}
use Rattle.sot_text.specs.LineEnds.{lines, line_len, onto_first}
use Rattle.sot_text.proofs.Lines.{first_line, line_len-le}
use Rattle.sot_bridge.specs.MissionHalves.{MissionHalves, is_bridge, joined, behind, halves_in, halves_of}

joined_onto : (b : ℕ) (ls : List (List ℕ)) → joined (onto_first b ls) ≡ b ∷ joined ls
joined_onto b [] = refl
joined_onto b (l ∷ ls) = refl

-- the lines of a text, one behind another, are the text
pub joined_lines : (bs : List ℕ) → joined (lines bs) ≡ bs
joined_lines [] = refl
joined_lines (b ∷ bs) = go (b == 10) (joined_lines bs)
  where
    go : (e : Bool) → joined (lines bs) ≡ bs → joined (if e then (b ∷ []) ∷ lines bs else onto_first b (lines bs)) ≡ b ∷ bs
    go true rest = ap (λ l. b ∷ l) rest
    go false rest = joined_onto b (lines bs) ∙ ap (λ l. b ∷ l) rest

append_none : (xs : List ℕ) → xs ++ [] ≡ xs
append_none [] = refl
append_none (x ∷ xs) = ap (λ l. x ∷ l) (append_none xs)

behind_twice : (p l : List ℕ) (h : Option MissionHalves) → option_map (behind p) (option_map (behind l) h) ≡ option_map (behind (p ++ l)) h
behind_twice p l None = refl
behind_twice p l (Some h) = ap (λ x. Some (let r : MissionHalves = record { a = x; b = h.b } in r)) (sym (append_assoc p l h.a))

pub dropped_twice : (n k : ℕ) (ys : List ℕ) → drop k (drop n ys) ≡ drop (n + k) ys
dropped_twice zero k ys = ap (λ n. drop n ys) (omega arith)
dropped_twice (suc n) k [] = drop_of_length-le [] (omega arith) ∙ sym (drop_of_length-le [] (omega arith))
dropped_twice (suc n) k (y ∷ ys) =
    let e : suc (n + k) ≡ suc n + k = omega arith in
    dropped_twice n k ys ∙ ap (λ m. drop m (y ∷ ys)) e

-- before the first line nothing is passed
pub begun : (bs : List ℕ) → option_map (behind (take 0 bs)) (halves_in (lines (drop 0 bs))) ≡ halves_of bs
begun bs = none (halves_in (lines bs))
  where
    none : (h : Option MissionHalves) → option_map (behind []) h ≡ h
    none None = refl
    none (Some h) = refl

module _ (bs : List ℕ) (at end : ℕ) (line : List ℕ) (total : Option MissionHalves) (below : at < length bs) (is_end : end ≡ at + line_len (drop at bs))
    (is : line ≡ take (line_len (drop at bs)) (drop at bs)) (so_far : option_map (behind (take at bs)) (halves_in (lines (drop at bs))) ≡ total) where
  next_line : lines (drop at bs) ≡ line ∷ lines (drop end bs)
  next_line =
      let size = length-drop at bs in
      first_line (drop at bs) (omega (arith, below, size))
      ∙ ap₂ (λ l rest. l ∷ lines rest) (sym is) (dropped_twice at (line_len (drop at bs)) bs ∙ ap (λ n. drop n bs) (sym is_end))

  divides : (b : Bool) → is_bridge line ≡ b → halves_in (lines (drop at bs))
      ≡ (if b then Some (let h : MissionHalves = record { a = []; b = joined (lines (drop end bs)) } in h) else option_map (behind line)
      (halves_in (lines (drop end bs))))
  divides b e =
      ap halves_in next_line
      ∙ ap (λ (c : Bool). if c then Some (let h : MissionHalves = record { a = []; b = joined (lines (drop end bs)) } in h) else option_map (behind line)
      (halves_in (lines (drop end bs)))) e

  -- another line is passed
  pub passed : is_bridge line ≡ false → option_map (behind (take end bs)) (halves_in (lines (drop end bs))) ≡ total
  passed differs =
      let front : take end bs ≡ take at bs ++ line = ap (λ n. take n bs) is_end ∙ take-add at (line_len (drop at bs)) bs ∙ ap (λ l. take at bs ++ l) (sym is) in
      ap (λ l. option_map (behind l) (halves_in (lines (drop end bs)))) front ∙ sym (behind_twice (take at bs) line (halves_in (lines (drop end bs))))
      ∙ ap (option_map (behind (take at bs))) (sym (divides false differs)) ∙ so_far

  -- the line is found
  pub found : is_bridge line ≡ true → Some (let h : MissionHalves = record { a = take at bs; b = drop end bs } in h) ≡ total
  found same =
      ap₂ (λ x y. Some (let h : MissionHalves = record { a = x; b = y } in h)) (sym (append_none (take at bs))) (sym (joined_lines (drop end bs)))
      ∙ ap (option_map (behind (take at bs))) (sym (divides true same)) ∙ so_far

  pub within : end ≤ length bs
  within = let size = length-drop at bs in let le = line_len-le (drop at bs) in omega (arith, below, size, le, is_end)

-- no line is left
pub ended : (bs : List ℕ) (at : ℕ) (total : Option MissionHalves) → length bs ≤ at → option_map (behind (take at bs)) (halves_in (lines (drop at bs))) ≡ total
    → None ≡ total
ended bs at total le so_far =
    sym (ap (λ rest. option_map (behind (take at bs)) (halves_in (lines rest))) (drop_of_length-le bs le)) ∙ so_far
