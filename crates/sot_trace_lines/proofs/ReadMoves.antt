-- The plants of a tick are read as they are spelled.
use Rattle.std.proofs.Common.{◌≡◌, ℕ, ℤ, ◌+◌, List, [], ◌∷◌, ◌++◌, Option, Some, length, take, drop, codes, refl, sym, ap, ap₂, ◌∙◌, arith, append_assoc}
use Rattle.std.proofs.Common.{length-append, length-drop, take-append-drop}
use Rattle.std.specs.Char.{is_ascii_digit}
use Rattle.std.proofs.Math.Seq.{take-append_seam, drop-append_seam}
use Rattle.std.proofs.lemmas.Option.{same_Some}
use Rattle.std.proofs.lemmas.List.{length-take-le}
use Rattle.sot_lang.specs.declared.tables.PlantInfo.{PlantInfo}
use Rattle.sot_world.specs.Events.{noise_count}
use Rattle.sot_board.specs.Counts.{state_count}
use Rattle.sot_trace.specs.Numbers.{numbers}
use Rattle.sot_trace.specs.Moves.{move_text, moves_text}
use Rattle.sot_trace.proofs.Splits.{Stops}
use Rattle.sot_trace.proofs.MoveTexts.{move_opens}
use Rattle.sot_trace_lines.specs.Pieces.{◌>>=◌, behind, row_at}
use Rattle.sot_trace_lines.specs.Readers.{states_at, noise_at, move_front, move_at, moves_at}
use Rattle.sot_trace_lines.proofs.Pieces.{both, then_next, in_front, behind_them}
use Rattle.sot_trace_lines.proofs.Rows.{row_from, read_row}

-- two answers of three parts that are the same
triple_same : {A B C : Type 0} (x y : A) (u v : B) (s t : C) → ◌≡◌ {A = Option (A × B × C)} (Some (x, u, s)) (Some (y, v, t)) → (x ≡ y) × (u ≡ v) × (s ≡ t)
triple_same {A} {B} {C} x y u v s t e =
    (ap (λ (q : A × B × C). q.0) (same_Some _ _ e), ap (λ (q : A × B × C). q.1) (same_Some _ _ e), ap (λ (q : A × B × C). q.2) (same_Some _ _ e))

move_from : (k : PlantInfo) (text : List ℕ) (a b : List ℤ) (rest : List ℕ) → move_at k text ≡ Some (a, b, rest)
    → (length a ≡ length k.noise.items) × (length b ≡ length k.states.items) × (text ≡ move_text k a b ++ rest)
move_from k text a b rest e =
    let f = both (move_front k text) (noise_at k) (a, b, rest) e in
    let s = both (behind (codes " ") text) (λ x. behind k.name x >>= behind (codes "(")) f.0 f.1 in
    let t = both (behind k.name s.0) (behind (codes "(")) f.0 s.2 in
    let v = both (row_at (length k.noise.items) f.0) (λ w. behind (codes ")=") w.1 >>= states_at k w.0) (a, b, rest) f.2 in
    let w = both (behind (codes ")=") v.0.1) (states_at k v.0.0) (a, b, rest) v.2 in
    let x = both (row_at (length k.states.items) w.0) (λ y. Some (v.0.0, y.0, y.1)) (a, b, rest) w.2 in
    let same = triple_same v.0.0 a x.0.0 b x.0.1 rest x.2 in
    let noise = row_from (length k.noise.items) f.0 v.0.0 v.0.1 v.1 in
    let states = row_from (length k.states.items) w.0 x.0.0 x.0.1 x.1 in
    let last : w.0 ≡ numbers b ++ rest = states.1 ∙ ap₂ (λ n r. numbers n ++ r) same.1 same.2 in
    let inner : f.0 ≡ numbers a ++ (41 ∷ 61 ∷ (numbers b ++ rest)) = noise.1
    ∙ ap₂ (λ n r. numbers n ++ r) same.0 (in_front (codes ")=") v.0.1 w.0 w.1 ∙ ap (λ r. 41 ∷ 61 ∷ r) last) in
    let named : s.0 ≡ k.name ++ (40 ∷ (numbers a ++ (41 ∷ 61 ∷ (numbers b ++ rest)))) = in_front k.name s.0 t.0 t.1
    ∙ ap (λ r. k.name ++ r) (in_front (codes "(") t.0 f.0 t.2 ∙ ap (λ r. 40 ∷ r) inner) in (
      ap length (sym same.0) ∙ noise.0,
      ap length (sym same.1) ∙ states.0,
      in_front (codes " ") text s.0 s.1 ∙ ap (λ r. 32 ∷ r) named
          ∙ sym (move_opens k a b rest),
    )

-- one plant before others
moves_opens : (k : PlantInfo) (ks : List PlantInfo) (a b c d : List ℤ) → length a ≡ length k.noise.items → length b ≡ length k.states.items
    → moves_text (k ∷ ks) (a ++ c) (b ++ d) ≡ move_text k a b ++ moves_text ks c d
moves_opens k ks a b c d len_a len_b =
    ap₂ (λ n m. move_text k (take n (a ++ c)) (take m (b ++ d)) ++ moves_text ks (drop n (a ++ c)) (drop m (b ++ d))) (sym len_a) (sym len_b)
    ∙ ap₂ (λ x y. move_text k x y ++ moves_text ks (drop (length a) (a ++ c)) (drop (length b) (b ++ d))) (take-append_seam a c) (take-append_seam b d)
    ∙ ap₂ (λ x y. move_text k a b ++ moves_text ks x y) (drop-append_seam a c) (drop-append_seam b d)

pub moves_from : (ks : List PlantInfo) (text : List ℕ) (a b : List ℤ) (rest : List ℕ) → moves_at ks text ≡ Some (a, b, rest)
    → (length a ≡ noise_count ks) × (length b ≡ state_count ks) × (text ≡ moves_text ks a b ++ rest)
moves_from [] text a b rest e = (let same = triple_same [] a [] b text rest e in (sym (ap length same.0), sym (ap length same.1), same.2))
moves_from (k ∷ ks) text a b rest e =
    let s = both (move_at k text) (λ m. moves_at ks m.2 >>= λ n. Some (m.0 ++ n.0, m.1 ++ n.1, n.2)) (a, b, rest) e in
    let t = both (moves_at ks s.0.2) (λ n. Some (s.0.0 ++ n.0, s.0.1 ++ n.1, n.2)) (a, b, rest) s.2 in
    let same = triple_same (s.0.0 ++ t.0.0) a (s.0.1 ++ t.0.1) b t.0.2 rest t.2 in
    let one = move_from k text s.0.0 s.0.1 s.0.2 s.1 in
    let more = moves_from ks s.0.2 t.0.0 t.0.1 t.0.2 t.1 in (
      ap length (sym same.0) ∙ length-append s.0.0 t.0.0 ∙ ap₂ (λ n m. n + m) one.0 more.0,
      ap length (sym same.1) ∙ length-append s.0.1 t.0.1 ∙ ap₂ (λ n m. n + m) one.1 more.1,
      one.2 ∙ ap (λ x. move_text k s.0.0 s.0.1 ++ x) more.2
          ∙ sym (append_assoc (move_text k s.0.0 s.0.1) (moves_text ks t.0.0 t.0.1) t.0.2)
          ∙ ap (λ x. x ++ t.0.2) (sym (moves_opens k ks s.0.0 s.0.1 t.0.0 t.0.1 one.0 one.1))
          ∙ ap₂ (λ x y. moves_text (k ∷ ks) x y ++ t.0.2) same.0 same.1
          ∙ ap (λ x. moves_text (k ∷ ks) a b ++ x) same.2,
    )

read_sized : (n : ℕ) (zs : List ℤ) (rest : List ℕ) → length zs ≡ n → Stops is_ascii_digit rest → row_at n (numbers zs ++ rest) ≡ Some (zs, rest)
read_sized n zs rest size stops = ap (λ m. row_at m (numbers zs ++ rest)) (sym size) ∙ read_row zs rest stops

read_move : (k : PlantInfo) (a b : List ℤ) (rest : List ℕ) → length a ≡ length k.noise.items → length b ≡ length k.states.items → Stops is_ascii_digit rest
    → move_at k (move_text k a b ++ rest) ≡ Some (a, b, rest)
read_move k a b rest len_a len_b stops =
    let states : List ℕ = numbers b ++ rest in
    let noise : List ℕ = numbers a ++ (41 ∷ 61 ∷ states) in
    ap (move_at k) (move_opens k a b rest)
    ∙ then_next (behind k.name (k.name ++ (40 ∷ noise)) >>= behind (codes "(")) (noise_at k) noise
    (then_next (behind k.name (k.name ++ (40 ∷ noise))) (behind (codes "(")) (40 ∷ noise) (behind_them k.name (40 ∷ noise)))
    ∙ then_next (row_at (length k.noise.items) noise) (λ w. behind (codes ")=") w.1 >>= states_at k w.0) (a, 41 ∷ 61 ∷ states)
    (read_sized (length k.noise.items) a (41 ∷ 61 ∷ states) len_a refl)
    ∙ then_next (row_at (length k.states.items) states) (λ y. Some (a, y.0, y.1)) (b, rest) (read_sized (length k.states.items) b rest len_b stops)

moves_stop : (ks : List PlantInfo) (a b : List ℤ) → Stops is_ascii_digit (moves_text ks a b)
moves_stop [] a b = tt
moves_stop (k ∷ ks) a b = refl

no_numbers : (xs : List ℤ) → length xs ≡ 0 → xs ≡ []
no_numbers [] none = refl
no_numbers (x ∷ xs) none = absurd (omega arith)

-- the text of a tick is read as its numbers
pub read_moves : (ks : List PlantInfo) (a b : List ℤ) → length a ≡ noise_count ks → length b ≡ state_count ks
    → moves_at ks (moves_text ks a b) ≡ Some (a, b, [])
read_moves [] a b len_a len_b = ap₂ (λ x y. Some (x, y, [])) (sym (no_numbers a len_a)) (sym (no_numbers b len_b))
read_moves (k ∷ ks) a b len_a len_b =
    let n : ℕ = length k.noise.items in
    let m : ℕ = length k.states.items in
    let rest : List ℕ = moves_text ks (drop n a) (drop m b) in
    then_next (move_at k (moves_text (k ∷ ks) a b)) (λ x. moves_at ks x.2 >>= λ y. Some (x.0 ++ y.0, x.1 ++ y.1, y.2)) (take n a, take m b, rest)
    (read_move k (take n a) (take m b) rest (length-take-le n a (omega arith)) (length-take-le m b (omega arith)) (moves_stop ks (drop n a) (drop m b)))
    ∙ then_next (moves_at ks rest) (λ y. Some (take n a ++ y.0, take m b ++ y.1, y.2)) (drop n a, drop m b, [])
    (read_moves ks (drop n a) (drop m b) (omega (arith, length-drop n a)) (omega (arith, length-drop m b)))
    ∙ ap₂ (λ x y. Some (x, y, [])) (take-append-drop n a) (take-append-drop m b)
