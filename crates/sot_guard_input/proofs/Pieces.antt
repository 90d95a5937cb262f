-- A text that grows piece by piece.
use Rattle.std.proofs.Common.{◌≡◌, ℕ, ◌+◌, ◌<◌, ◌≤◌, true, false, List, [], ◌∷◌, ◌++◌, Option, None, Some, inl, inr}
use Rattle.std.proofs.Common.{length, take, drop, sym, ap, ◌∙◌, subst, append_assoc, append-nil, take-append-drop, arith}
use Rattle.std.specs.Io.KnownBytes.{IsAtEnd}
use Rattle.std.proofs.KnownBytes.{Consumes-nil, Consumes-trans}
use Rattle.std.proofs.lemmas.List.{length-append, length-take-le, take_all, take-append-le, drop-append-le}
use Rattle.sot_text.specs.LineEnds.{lines, line_len}
use Rattle.sot_text.proofs.Lines.{line_len-pos, line_len-le}
use Rattle.sot_guard_input.specs.Waiting.{has_end}
use Rattle.sot_guard_input.proofs.Ends.{later_end}
use Rattle.sot_guard_input.specs.declared.ear.Ear.{Ear}
use Rattle.sot_guard_input.specs.declared.ear.Next.{Next}
use Rattle.sot_guard_input.specs.declared.ear.Next.TheVariants.{Line, End, TooLong}
use Rattle.sot_guard_input.specs.declared.piece.Piece.{Piece}
use Rattle.sot_guard_input.specs.declared.piece.FrontFail.{FrontFail}
use Rattle.sot_guard_input.specs.declared.piece.FrontFail.TheVariants as fails
use Rattle.sot_guard_input.specs.Reading.{Reads, ends_line, IsAtMostALine, IsLine, IsLast, IsNext, IsPiece, IsSettled, AddsPiece, IfFails}
use Rattle.sot_guard_input.specs.Reading.{IsPieceTooLong}
use Rattle.sot_guard_input.specs.declared.piece.Piece.TheVariants as pieces
use Rattle.sot_guard_input.specs.declared.front.MissionFront.{MissionFront}
use Rattle.sot_guard_input.specs.declared.front.MissionFront.TheVariants.{Observed, Unobserved}
use Rattle.sot_guard_input.specs.Marks.{marked_time, is_observed}
use Rattle.sot_guard_input.specs.Fronts.{HasNone, IsFront, IsMark, IsRead, Comes, IsLastFront, IsTooLong}
use Rattle.sot_guard_input.proofs.LineTexts.{first_alone, first_ends, ends_behind, joined_line, unended_alone, none_behind}

pub reads_nil : (left : Option (List ℕ)) (waiting : List ℕ) → Reads left left waiting waiting []
reads_nil left waiting = record { bytes = []; taken = Consumes-nil left; kept = append-nil waiting }

pub reads_trans : (a b c : Option (List ℕ)) (v w z p q : List ℕ) → Reads a b v w p → Reads b c w z q → Reads a c v z (p ++ q)
reads_trans a b c v w z p q first second = record {
  bytes = first.bytes ++ second.bytes;
  taken = Consumes-trans a b c first.bytes second.bytes first.taken second.taken;
  kept =
      sym (append_assoc v first.bytes second.bytes)
      ∙ ap (λ l. l ++ second.bytes) first.kept
      ∙ append_assoc p w second.bytes
      ∙ ap (λ l. p ++ l) second.kept
      ∙ sym (append_assoc p q z);
}

-- a line that comes in pieces is at most one
pub at_most : (part piece : List ℕ) → has_end part ≡ false → IsAtMostALine piece → IsAtMostALine (part ++ piece)
at_most [] piece none is = is
at_most (x ∷ part) piece none (inr one) = inr (joined_line (x ∷ part) piece none one)
at_most (x ∷ part) piece none (inl empty) =
    inr (subst (λ l. lines l ≡ l ∷ []) (sym (append-nil (x ∷ part)) ∙ ap (λ l. (x ∷ part) ++ l) (sym empty)) (unended_alone (x ∷ part) (omega arith) none))

module _ (text piece text_after : List ℕ) (start : ℕ) (within : start ≤ length text) (added : text_after ≡ text ++ piece) where
  pub same_front : take start text_after ≡ take start text
  same_front = ap (take start) added ∙ take-append-le start text piece within

  pub longer_part : drop start text_after ≡ drop start text ++ piece
  longer_part = ap (drop start) added ∙ drop-append-le start text piece within

  -- the line goes on
  pub part_goes_on : has_end (drop start text) ≡ false → has_end piece ≡ false → has_end (drop start text_after) ≡ false
  part_goes_on none more = ap has_end longer_part ∙ later_end (drop start text) piece none ∙ more

  whole_text : text_after ≡ take start text ++ drop start text_after
  whole_text = sym (take-append-drop start text_after) ∙ ap (λ l. l ++ drop start text_after) same_front

  pub at_most_one : has_end (drop start text) ≡ false → IsAtMostALine piece → IsAtMostALine (drop start text_after)
  at_most_one none one = subst IsAtMostALine (sym longer_part) (at_most (drop start text) piece none one)

  -- one more line does not say it
  pub none_so_far : ends_line (take start text) ≡ true → HasNone (take start text) → has_end (drop start text) ≡ false → IsAtMostALine piece
      → is_observed (drop start text_after) ≡ false → HasNone text_after
  none_so_far whole none part one other =
      subst HasNone (sym whole_text) (none_behind (take start text) (drop start text_after) whole none (at_most_one part one) other)

-- a text that is too long with one more piece
pub too_long : (text waiting : List ℕ) (start limit : ℕ) → ends_line (take start text) ≡ true → HasNone (take start text) → has_end (drop start text) ≡ false
    → IsPieceTooLong waiting (length text) limit → IsTooLong text waiting limit
too_long text waiting start limit whole none part p =
    let parts = take-append-drop start text in
    let front = take start text in
    let rest = drop start text in
    record {
      front = front;
      part = rest ++ p.piece;
      rest = p.rest;
      bytes_are =
          ap (λ l. text ++ l) p.waiting_are
          ∙ sym (append_assoc text p.piece p.rest)
          ∙ ap (λ l. (l ++ p.piece) ++ p.rest) (sym parts)
          ∙ ap (λ l. l ++ p.rest) (append_assoc front rest p.piece);
      is_front = record { whole = whole; none = none };
      part_is = at_most rest p.piece part (inr p.one);
      long = (
          let one = length-append front (rest ++ p.piece) in
          let two = length-append rest p.piece in
          let three = length-append front rest in
          let all = ap length parts in
          omega (arith, p.long, one, two, three, all));
    }

-- why there is no front, where the text so far is known
pub fails_so : (why : FrontFail) (Faulty Other : Type 0) (text waiting : List ℕ) (start before limit : ℕ) → (Faulty → Other) → before ≡ length text
    → ends_line (take start text) ≡ true → HasNone (take start text) → has_end (drop start text) ≡ false
    → IfFails why Faulty (IsPieceTooLong waiting before limit) → IfFails why Other (IsTooLong text waiting limit)
fails_so fails.Fault Faulty Other text waiting start before limit as_other is whole none part rose = as_other rose
fails_so fails.TooLong Faulty Other text waiting start before limit as_other is whole none part long =
    too_long text waiting start limit whole none part (subst (λ n. IsPieceTooLong waiting n limit) is long)
fails_so fails.Memory Faulty Other text waiting start before limit as_other is whole none part memory = tt

-- a piece for which there is no room
pub piece_fails : (why : FrontFail) (Faulty : Type 0) (w : List ℕ) (len before limit : ℕ) → len ≤ length w → lines (take len w) ≡ take len w ∷ []
    → IfFails why ⊥ (limit < before + len) → IfFails why Faulty (IsPieceTooLong w before limit)
piece_fails fails.Fault Faulty w len before limit few one never = absurd never
piece_fails fails.TooLong Faulty w len before limit few one long = record {
  piece = take len w;
  rest = drop len w;
  waiting_are = sym (take-append-drop len w);
  one = one;
  long = (let size = length-take-le len w few in omega (arith, long, size));
}
piece_fails fails.Memory Faulty w len before limit few one memory = tt

-- first bytes were passed, and put behind a text
pub adds : (kind : Piece) (left left_after : Option (List ℕ)) (e m f : Ear) (text text_after : List ℕ) (len : ℕ)
    → Reads left left_after e.buffer m.buffer [] → f.buffer ≡ drop len m.buffer → text_after ≡ text ++ take len m.buffer
    → IsPiece kind left_after f (take len m.buffer) → AddsPiece kind left left_after e f text text_after
adds kind left left_after e m f text text_after len reads passed added is = record {
  piece = take len m.buffer;
  reads = record {
    bytes = reads.bytes;
    taken = reads.taken;
    kept = reads.kept ∙ sym (take-append-drop len m.buffer) ∙ ap (λ l. take len m.buffer ++ l) (sym passed);
  };
  is = is;
  added = added;
}

some_end : (w : List ℕ) → has_end w ≡ true → 0 < length w
some_end [] e = absurd cc
some_end (b ∷ bs) e = omega arith

-- the first line of what waits is a line
pub is_line : (len : ℕ) (left : Option (List ℕ)) (e : Ear) → has_end e.buffer ≡ true → len ≡ line_len e.buffer → e.ended ≡ false → IsLine len left e
is_line len left e found is open_ =
    let some = some_end e.buffer found in
    record {
      some = (let pos = line_len-pos e.buffer some in omega (arith, pos, is));
      few = (let le = line_len-le e.buffer in omega (arith, le, is));
      one = subst (λ n. lines (take n e.buffer) ≡ take n e.buffer ∷ []) (sym is) (first_alone e.buffer some);
      whole = λ _. subst (λ n. ends_line (take n e.buffer) ≡ true) (sym is) (first_ends e.buffer found);
      last = λ ended. (let never : false ≡ true = sym open_ ∙ ended in absurd cc);
    }

-- all that waits at the end of a source is a line, or nothing
pub is_next : (n : Next) (left : Option (List ℕ)) (e : Ear) → IsLast n e → has_end e.buffer ≡ false → IsAtEnd left → IsNext n left e
is_next (Line len) left e (ended, is, some) none end =
    let whole : take len e.buffer ≡ e.buffer = ap (λ n. take n e.buffer) is ∙ take_all (length e.buffer) e.buffer (omega arith) in
    record {
      some = some;
      few = omega (arith, is);
      one = subst (λ l. lines l ≡ l ∷ []) (sym whole) (unended_alone e.buffer (omega (arith, is, some)) none);
      whole = λ open_. (let never : false ≡ true = sym open_ ∙ ended in absurd cc);
      last = λ _. (is, end);
    }
is_next End left e (ended, empty) none end = (ended, empty, end)
is_next TooLong left e never none end = absurd never

-- all bytes of a room without a line end
pub all_of : (w : List ℕ) (n : ℕ) → length w ≡ n → take n w ≡ w
all_of w n is = ap (λ k. take k w) (sym is) ∙ take_all (length w) w (omega arith)

some_line : (piece : List ℕ) → lines piece ≡ piece ∷ [] → 0 < length piece
some_line [] one = (let none : [] ≡ [] ∷ [] = one in absurd cc)
some_line (b ∷ bs) one = omega arith

-- a mark is there
is_one : (line : List ℕ) (time : ℕ) → IsAtMostALine line → marked_time line ≡ Some time → lines line ≡ line ∷ []
is_one line time (inl empty) says = (let never : None ≡ Some time = sym (ap marked_time empty) ∙ says in absurd cc)
is_one line time (inr one) says = one

module _ (left left_after : Option (List ℕ)) (e : Ear) (limit start : ℕ) (text piece text_after : List ℕ)
    (reads : Reads left left_after [] e.buffer text_after) (added : text_after ≡ text ++ piece) (within : start ≤ length text)
    (whole : ends_line (take start text) ≡ true) (none : HasNone (take start text)) (part : has_end (drop start text) ≡ false)
    (short : length text_after ≤ limit) where
  is_front : (front : List ℕ) → front ≡ take start text_after → IsFront front
  is_front front is =
      let same = is ∙ same_front text piece text_after start within added in
      record { whole = ap ends_line same ∙ whole; none = subst HasNone (sym same) none }

  parted : (front : List ℕ) → front ≡ take start text_after → front ++ drop start text_after ≡ text_after
  parted front is = ap (λ l. l ++ drop start text_after) is ∙ take-append-drop start text_after

  is_read : IsSettled left_after e.buffer e.ended → (bytes : List ℕ) → bytes ≡ text_after → IsRead left left_after e limit bytes
  is_read settled bytes is = record {
    reads = subst (Reads left left_after [] e.buffer) (sym is) reads;
    settled = settled;
    short = (let size = ap length is in omega (arith, short, size));
  }

  -- the line is a mark
  pub comes_line : (front : List ℕ) (time : ℕ) → IsPiece pieces.Line left_after e piece → front ≡ take start text_after
      → marked_time (drop start text_after) ≡ Some time → (mark : List ℕ) × IsFront front × IsMark mark time e.ended × IsRead left left_after e limit (front ++ mark)
  comes_line front time (open_, one, ends) is says = (
    drop start text_after,
    is_front front is,
    record {
      one = is_one (drop start text_after) time (at_most_one text piece text_after start within added part (inr one)) says;
      is = says;
      whole = λ _. ap ends_line (longer_part text piece text_after start within added) ∙ ends_behind (drop start text) piece (some_line piece one) ∙ ends;
    },
    is_read (λ ended. (let never : false ≡ true = sym open_ ∙ ended in absurd cc)) (front ++ drop start text_after) (parted front is),
  )

  -- the last line is a mark, or no line is
  pub comes_last : (f : MissionFront) → IsPiece pieces.Last left_after e piece → IsLastFront text_after start f → Comes left left_after e limit f
  comes_last (Observed front time) (ended, empty, end, one) (says, is) = (
    drop start text_after,
    is_front front.items is,
    record {
      one = is_one (drop start text_after) time (at_most_one text piece text_after start within added part one) says;
      is = says;
      whole = λ open_. (let never : false ≡ true = sym open_ ∙ ended in absurd cc);
    },
    is_read (λ _. (empty, end)) (front.items ++ drop start text_after) (parted front.items is),
  )
  comes_last (Unobserved all) (ended, empty, end, one) (other, is) = (
    subst HasNone (sym is) (none_so_far text piece text_after start within added whole none part one other),
    ended,
    is_read (λ _. (empty, end)) all.items is,
  )

  -- a line that is no mark ends its text
  pub ends_so_far : lines piece ≡ piece ∷ [] → ends_line piece ≡ true → ends_line text_after ≡ true
  ends_so_far one ends = ap ends_line added ∙ ends_behind text piece (some_line piece one) ∙ ends
