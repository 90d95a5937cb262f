-- Plants in their places are read as they are spelled.
use Rattle.std.proofs.Common.{◌≡◌, ℕ, ℤ, ◌+◌, List, [], ◌∷◌, ◌++◌, Some, length, take, drop, codes, refl, sym, ap, ap₂, ◌∙◌, arith, append_assoc}
use Rattle.std.proofs.Common.{length-append, length-drop, take-append-drop}
use Rattle.std.proofs.Math.Seq.{take-append_seam, drop-append_seam}
use Rattle.std.proofs.lemmas.List.{length-take-le}
use Rattle.sot_lang.specs.declared.tables.PlantInfo.{PlantInfo}
use Rattle.sot_board.specs.Counts.{state_count}
use Rattle.sot_trace.specs.Numbers.{numbers}
use Rattle.sot_trace_lines.specs.Pieces.{◌>>=◌, behind, row_at}
use Rattle.sot_trace_lines.specs.Readers.{move_front}
use Rattle.sot_trace_lines.proofs.Pieces.{both, then_next, parts_same, in_front, behind_them}
use Rattle.sot_trace_lines.proofs.Rows.{row_from, read_row}
use Rattle.sot_guard_lines.specs.Sayings.{place_text, places_text}
use Rattle.sot_guard_lines.specs.Readers.{closed_at, point_at, place_at, places_at}

pub point_from : (k : PlantInfo) (text : List ℕ) (a : List ℤ) (rest : List ℕ) → point_at k text ≡ Some (a, rest)
    → (length a ≡ length k.states.items) × (text ≡ numbers a ++ (41 ∷ rest))
point_from k text a rest e =
    let v = both (row_at (length k.states.items) text) closed_at (a, rest) e in
    let w = both (behind (codes ")") v.0.1) (λ x. Some (v.0.0, x)) (a, rest) v.2 in
    let same = parts_same v.0.0 a w.0 rest w.2 in
    let row = row_from (length k.states.items) text v.0.0 v.0.1 v.1 in (
      ap length (sym same.0) ∙ row.0,
      row.1 ∙ ap₂ (λ n r. numbers n ++ r) same.0 (in_front (codes ")") v.0.1 w.0 w.1 ∙ ap (λ r. 41 ∷ r) same.1),
    )

pub read_point : (k : PlantInfo) (a : List ℤ) (rest : List ℕ) → length a ≡ length k.states.items → point_at k (numbers a ++ (41 ∷ rest)) ≡ Some (a, rest)
read_point k a rest size =
    then_next (row_at (length k.states.items) (numbers a ++ (41 ∷ rest))) closed_at (a, 41 ∷ rest)
    (ap (λ m. row_at m (numbers a ++ (41 ∷ rest))) (sym size) ∙ read_row a (41 ∷ rest) refl)

-- the text of a plant in its place, and what stands behind it
place_opens : (k : PlantInfo) (a : List ℤ) (x : List ℕ) → place_text k a ++ x ≡ 32 ∷ (k.name ++ (40 ∷ (numbers a ++ (41 ∷ x))))
place_opens k a x =
    ap (λ y. 32 ∷ y) (append_assoc k.name (codes "(" ++ (numbers a ++ codes ")")) x ∙ ap (λ y. k.name ++ (40 ∷ y)) (append_assoc (numbers a) (codes ")") x))

place_from : (k : PlantInfo) (text : List ℕ) (a : List ℤ) (rest : List ℕ) → place_at k text ≡ Some (a, rest)
    → (length a ≡ length k.states.items) × (text ≡ place_text k a ++ rest)
place_from k text a rest e =
    let f = both (move_front k text) (point_at k) (a, rest) e in
    let s = both (behind (codes " ") text) (λ x. behind k.name x >>= behind (codes "(")) f.0 f.1 in
    let t = both (behind k.name s.0) (behind (codes "(")) f.0 s.2 in
    let inner = point_from k f.0 a rest f.2 in
    let named : s.0 ≡ k.name ++ (40 ∷ (numbers a ++ (41 ∷ rest))) = in_front k.name s.0 t.0 t.1
    ∙ ap (λ r. k.name ++ r) (in_front (codes "(") t.0 f.0 t.2 ∙ ap (λ r. 40 ∷ r) inner.1) in
    (inner.0, in_front (codes " ") text s.0 s.1 ∙ ap (λ r. 32 ∷ r) named ∙ sym (place_opens k a rest))

read_place : (k : PlantInfo) (a : List ℤ) (rest : List ℕ) → length a ≡ length k.states.items → place_at k (place_text k a ++ rest) ≡ Some (a, rest)
read_place k a rest size =
    let point : List ℕ = numbers a ++ (41 ∷ rest) in
    ap (place_at k) (place_opens k a rest)
    ∙ then_next (behind k.name (k.name ++ (40 ∷ point)) >>= behind (codes "(")) (point_at k) point
    (then_next (behind k.name (k.name ++ (40 ∷ point))) (behind (codes "(")) (40 ∷ point) (behind_them k.name (40 ∷ point)))
    ∙ read_point k a rest size

-- one plant before others
places_opens : (k : PlantInfo) (ks : List PlantInfo) (a c : List ℤ) → length a ≡ length k.states.items
    → places_text (k ∷ ks) (a ++ c) ≡ place_text k a ++ places_text ks c
places_opens k ks a c size =
    ap (λ n. place_text k (take n (a ++ c)) ++ places_text ks (drop n (a ++ c))) (sym size)
    ∙ ap₂ (λ x y. place_text k x ++ places_text ks y) (take-append_seam a c) (drop-append_seam a c)

pub places_from : (ks : List PlantInfo) (text : List ℕ) (a : List ℤ) (rest : List ℕ) → places_at ks text ≡ Some (a, rest)
    → (length a ≡ state_count ks) × (text ≡ places_text ks a ++ rest)
places_from [] text a rest e =
    (let same = parts_same [] a text rest e in (sym (ap length same.0), same.1 ∙ ap (λ (x : List ℤ). places_text [] x ++ rest) same.0))
places_from (k ∷ ks) text a rest e =
    let s = both (place_at k text) (λ m. places_at ks m.1 >>= λ n. Some (m.0 ++ n.0, n.1)) (a, rest) e in
    let t = both (places_at ks s.0.1) (λ n. Some (s.0.0 ++ n.0, n.1)) (a, rest) s.2 in
    let same = parts_same (s.0.0 ++ t.0.0) a t.0.1 rest t.2 in
    let one = place_from k text s.0.0 s.0.1 s.1 in
    let more = places_from ks s.0.1 t.0.0 t.0.1 t.1 in (
      ap length (sym same.0) ∙ length-append s.0.0 t.0.0 ∙ ap₂ (λ n m. n + m) one.0 more.0,
      one.1 ∙ ap (λ x. place_text k s.0.0 ++ x) more.1
          ∙ sym (append_assoc (place_text k s.0.0) (places_text ks t.0.0) t.0.1)
          ∙ ap (λ x. x ++ t.0.1) (sym (places_opens k ks s.0.0 t.0.0 one.0))
          ∙ ap₂ (λ x y. places_text (k ∷ ks) x ++ y) same.0 same.1,
    )

no_numbers : (xs : List ℤ) → length xs ≡ 0 → xs ≡ []
no_numbers [] none = refl
no_numbers (x ∷ xs) none = absurd (omega arith)

pub read_places : (ks : List PlantInfo) (a : List ℤ) → length a ≡ state_count ks → places_at ks (places_text ks a) ≡ Some (a, [])
read_places [] a size = ap (λ x. Some (x, [])) (sym (no_numbers a size))
read_places (k ∷ ks) a size =
    let m : ℕ = length k.states.items in
    let rest : List ℕ = places_text ks (drop m a) in
    then_next (place_at k (places_text (k ∷ ks) a)) (λ x. places_at ks x.1 >>= λ y. Some (x.0 ++ y.0, y.1)) (take m a, rest)
    (read_place k (take m a) rest (length-take-le m a (omega arith)))
    ∙ then_next (places_at ks rest) (λ y. Some (take m a ++ y.0, y.1)) (drop m a, []) (read_places ks (drop m a) (omega (arith, length-drop m a)))
    ∙ ap (λ x. Some (x, [])) (take-append-drop m a)
