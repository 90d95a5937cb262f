-- Texts that are put piece by piece.
use Rattle.std.proofs.Common.{◌≡◌, ℕ, List, ◌++◌, sym, subst}

module _ {O : Type 0} (puts : O → O → List ℕ → Type 0) where
  -- what was put, by another word
  pub put_so : (a b : O) (x y : List ℕ) → puts a b x → x ≡ y → puts a b y
  put_so a b x y put same = subst (puts a b) same put

  module _ (more : (a b c : O) (x y : List ℕ) → puts a b x → puts b c y → puts a c (x ++ y)) where
    -- what puts the rest puts the whole: a piece is put, and the rest behind it
    pub piece_put : (first a b last : O) (piece rest left whole : List ℕ) → puts a b piece → left ≡ piece ++ rest → (puts a last left → puts first last whole)
        → puts b last rest → puts first last whole
    piece_put first a b last piece rest left whole put is so then = so (put_so a last (piece ++ rest) left (more a b last piece rest put then) (sym is))
