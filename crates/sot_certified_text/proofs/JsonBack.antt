-- JSON that is written with no blank is read back, where its numbers have 64 bits, its texts are UTF-8 and its keys are in order.
use Rattle.std.proofs.Common.{◌≡◌, ℕ, ◌<◌, ◌≤◌, ◌^◌, pos, negsuc, Bool, true, false, Some, option_map, option_and_then, List, [], ◌∷◌, ◌++◌, Ordering, Less}
use Rattle.std.proofs.Common.{Equal, Greater, nat_cmp, refl, sym, ap, ◌∙◌, subst, arith}
use Rattle.std.specs.Cmp.Lexicographic.{slice_cmp}
use Rattle.std.specs.Ordering.{match_ordering, ordering_reverse}
use Rattle.std.specs.Str.{IsUtf8}
use Rattle.std.proofs.lemmas.Cmp.{nat_list_cmp_total}
use Rattle.std.proofs.lemmas.Fmt.{IsAscii-decimal, IsAscii-signed}
use Rattle.std.proofs.lemmas.List.{append-nil}
use Rattle.std.proofs.lemmas.Str.{IsUtf8-append, IsUtf8-nil, IsUtf8-from_ascii}
use Rattle.json.specs.Lex.{tokens}
use Rattle.json.specs.Json as json
use Rattle.json.specs.Print.{quoted}
use Rattle.json.specs.Tree as tree
use Rattle.json.proofs.Printed.Decimals.{IsNumber-decimal, IsNumber-signed_decimal}
use Rattle.json.proofs.Printed.Tokens.{tokens-print}
use Rattle.json.proofs.Printed.Trees.{value-json_tokens, ArePrintable-json_tokens}
use Rattle.json.proofs.Printed.Utf8.{IsUtf8-are_ascii, IsUtf8-quoted, IsUtf8-boolean}
use Rattle.serde_json.specs.Data.{Num, unsigned, negative, float, Data, null, boolean, number, string, array, object, Items, no_items, item, Members}
use Rattle.serde_json.specs.Data.{no_members, member, put, depth, items_depth, members_depth}
use Rattle.serde_json.specs.Read.{number_of, of_json, of_items, of_members, max_depth, read}
use Rattle.serde_json.specs.Written.{number_text, outline, items_outline, members_outline, comma_if, compact_text, items_text, members_text}
use Rattle.serde_json.proofs.Numbers.{number_of-decimal, number_of-negative}
use Rattle.serde_json.proofs.Texts.{print-outline}
use Rattle.sot_json.specs.Json.{json_of}
use Rattle.sot_json.proofs.Faults.{is_json}

-- ---- what is read back

abbrev pub IsNum : Num → Type 0
IsNum (unsigned n) = n < 2 ^ 64
IsNum (negative (pos n)) = ⊥
IsNum (negative (negsuc n)) = n < 2 ^ 63
IsNum (float x) = ⊥

-- a key comes before all keys of these members
abbrev pub ComesBefore : List ℕ → Members → Type 0
ComesBefore k no_members = Unit {0}
ComesBefore k (member l d ms) = (slice_cmp nat_cmp k l ≡ Less) × ComesBefore k ms

abbrev pub AreSorted : Members → Type 0
AreSorted no_members = Unit {0}
AreSorted (member k d ms) = ComesBefore k ms × AreSorted ms

abbrev mutual
  pub CanWrite : Data → Type 0
  CanWrite null = Unit {0}
  CanWrite (boolean b) = Unit {0}
  CanWrite (number n) = IsNum n
  CanWrite (string s) = IsUtf8 s
  CanWrite (array ds) = CanWriteItems ds
  CanWrite (object ms) = CanWriteMembers ms × AreSorted ms

  pub CanWriteItems : Items → Type 0
  CanWriteItems no_items = Unit {0}
  CanWriteItems (item d ds) = CanWrite d × CanWriteItems ds

  pub CanWriteMembers : Members → Type 0
  CanWriteMembers no_members = Unit {0}
  CanWriteMembers (member k d ms) = IsUtf8 k × CanWrite d × CanWriteMembers ms

-- ---- members in order

after : (k l : List ℕ) → slice_cmp nat_cmp k l ≡ Less → slice_cmp nat_cmp l k ≡ Greater
after k l less = nat_list_cmp_total.antisymm l k ∙ ap ordering_reverse less

before : (k l : List ℕ) → slice_cmp nat_cmp k l ≡ Greater → slice_cmp nat_cmp l k ≡ Less
before k l greater = nat_list_cmp_total.antisymm l k ∙ ap ordering_reverse greater

comes_before_all : (k l : List ℕ) (ms : Members) → slice_cmp nat_cmp k l ≡ Less → ComesBefore l ms → ComesBefore k ms
comes_before_all k l no_members less all = tt
comes_before_all k l (member q d ms) less all = (nat_list_cmp_total.trans k l q less all.0, comes_before_all k l ms less all.1)

put_before : (q k : List ℕ) (d : Data) (ms : Members) → slice_cmp nat_cmp q k ≡ Less → ComesBefore q ms → ComesBefore q (put k d ms)
put_before q k d no_members less all = (less, tt)
put_before q k d (member l e ms) less all = placed (slice_cmp nat_cmp k l) (put_before q k d ms less all.1)
  where
    placed : (o : Ordering) → ComesBefore q (put k d ms) → ComesBefore q
        (match_ordering o (member k d (member l e ms)) (member l d ms) (member l e (put k d ms)))
    placed Less rest = (less, all)
    placed Equal rest = all
    placed Greater rest = (all.0, rest)

pub put_sorted : (k : List ℕ) (d : Data) (ms : Members) → AreSorted ms → AreSorted (put k d ms)
put_sorted k d no_members sorted = (tt, tt)
put_sorted k d (member l e ms) sorted = placed (slice_cmp nat_cmp k l) refl (put_sorted k d ms sorted.1)
  where
    placed : (o : Ordering) → slice_cmp nat_cmp k l ≡ o → AreSorted (put k d ms)
        → AreSorted (match_ordering o (member k d (member l e ms)) (member l d ms) (member l e (put k d ms)))
    placed Less is rest = ((is, comes_before_all k l ms is sorted.0), sorted)
    placed Equal is rest = sorted
    placed Greater is rest = (put_before l k d ms (before k l is) sorted.0, rest)

pub put_can_write : (k : List ℕ) (d : Data) (ms : Members) → IsUtf8 k → CanWrite d → CanWriteMembers ms → CanWriteMembers (put k d ms)
put_can_write k d no_members key own all = (key, own, tt)
put_can_write k d (member l e ms) key own all = placed (slice_cmp nat_cmp k l) (put_can_write k d ms key own all.2)
  where
    placed : (o : Ordering) → CanWriteMembers (put k d ms) → CanWriteMembers
        (match_ordering o (member k d (member l e ms)) (member l d ms) (member l e (put k d ms)))
    placed Less rest = (key, own, all)
    placed Equal rest = (all.0, own, all.2)
    placed Greater rest = (all.0, all.1, rest)

-- ---- JSON's values say the data

number_back : (n : Num) → IsNum n → number_of (number_text n) ≡ Some n
number_back (unsigned n) is = number_of-decimal n is
number_back (negative (pos n)) is = absurd is
number_back (negative (negsuc n)) is = number_of-negative n is
number_back (float x) is = absurd is

-- members behind others
abbrev appended : Members → Members → Members
appended no_members ns = ns
appended (member k d ms) ns = member k d (appended ms ns)

appended_none : (ms : Members) → appended ms no_members ≡ ms
appended_none no_members = refl
appended_none (member k d ms) = ap (member k d) (appended_none ms)

appended_one : (done : Members) (k : List ℕ) (d : Data) (ms : Members) → appended (appended done (member k d no_members)) ms ≡ appended done (member k d ms)
appended_one no_members k d ms = refl
appended_one (member l e done) k d ms = ap (member l e) (appended_one done k d ms)

comes_before_later : (l : List ℕ) (done : Members) (k : List ℕ) (d : Data) (ms : Members) → ComesBefore l (appended done (member k d ms))
    → slice_cmp nat_cmp l k ≡ Less
comes_before_later l no_members k d ms all = all.0
comes_before_later l (member q e done) k d ms all = comes_before_later l done k d ms all.1

put_last : (done : Members) (k : List ℕ) (d : Data) (ms : Members) → AreSorted (appended done (member k d ms))
    → put k d done ≡ appended done (member k d no_members)
put_last no_members k d ms sorted = refl
put_last (member l e done) k d ms sorted =
    ap (λ o. match_ordering o (member k d (member l e done)) (member l d done) (member l e (put k d done)))
    (after l k (comes_before_later l done k d ms sorted.0))
    ∙ ap (member l e) (put_last done k d ms sorted.1)

mutual
  data_back : (d : Data) → CanWrite d → of_json (outline d) ≡ Some d
  data_back null can = refl
  data_back (boolean b) can = refl
  data_back (number n) can = ap (option_map number) (number_back n can)
  data_back (string s) can = refl
  data_back (array ds) can = ap (option_map array) (items_back ds can)
  data_back (object ms) can = ap (option_map object) (members_back no_members ms can.0 can.1)

  items_back : (ds : Items) → CanWriteItems ds → of_items (items_outline ds) ≡ Some ds
  items_back no_items can = refl
  items_back (item d ds) can =
      ap (λ o. option_and_then (λ e. option_map (item e) (of_items (items_outline ds))) o) (data_back d can.0) ∙ ap (option_map (item d)) (items_back ds can.1)

  members_back : (done ms : Members) → CanWriteMembers ms → AreSorted (appended done ms) → of_members (members_outline ms) done ≡ Some (appended done ms)
  members_back done no_members can sorted = ap Some (sym (appended_none done))
  members_back done (member k d ms) can sorted =
      ap (λ o. option_and_then (λ e. of_members (members_outline ms) (put k e done)) o) (data_back d can.1)
      ∙ ap (of_members (members_outline ms)) (put_last done k d ms sorted)
      ∙ members_back (appended done (member k d no_members)) ms can.2 (subst AreSorted (sym (appended_one done k d ms)) sorted)
      ∙ ap Some (appended_one done k d ms)

-- ---- numbers, depths and UTF-8

number_is : (n : Num) → IsNum n → tree.HasNumbers (outline (number n))
number_is (unsigned n) is = IsNumber-decimal n is
number_is (negative (pos n)) is = absurd is
number_is (negative (negsuc n)) is = IsNumber-signed_decimal (negsuc n) is
number_is (float x) is = absurd is

mutual
  has_numbers : (d : Data) → CanWrite d → tree.HasNumbers (outline d)
  has_numbers null can = tt
  has_numbers (boolean b) can = tt
  has_numbers (number n) can = number_is n can
  has_numbers (string s) can = tt
  has_numbers (array ds) can = items_have_numbers ds can
  has_numbers (object ms) can = members_have_numbers ms can.0

  items_have_numbers : (ds : Items) → CanWriteItems ds → tree.ItemsHaveNumbers (items_outline ds)
  items_have_numbers no_items can = tt
  items_have_numbers (item d ds) can = (has_numbers d can.0, items_have_numbers ds can.1)

  members_have_numbers : (ms : Members) → CanWriteMembers ms → tree.MembersHaveNumbers (members_outline ms)
  members_have_numbers no_members can = tt
  members_have_numbers (member k d ms) can = (has_numbers d can.1, members_have_numbers ms can.2)

mutual
  same_depth : (d : Data) → tree.depth (outline d) ≡ depth d
  same_depth null = refl
  same_depth (boolean b) = refl
  same_depth (number n) = refl
  same_depth (string s) = refl
  same_depth (array ds) = (let m = items_same_depth ds in omega (arith, m))
  same_depth (object ms) = (let m = members_same_depth ms in omega (arith, m))

  items_same_depth : (ds : Items) → tree.items_depth (items_outline ds) ≡ items_depth ds
  items_same_depth no_items = refl
  items_same_depth (item d ds) = (let m = same_depth d in let n = items_same_depth ds in omega (arith, m, n))

  members_same_depth : (ms : Members) → tree.members_depth (members_outline ms) ≡ members_depth ms
  members_same_depth no_members = refl
  members_same_depth (member k d ms) = (let m = same_depth d in let n = members_same_depth ms in omega (arith, m, n))

number_utf8 : (n : Num) → IsNum n → IsUtf8 (number_text n)
number_utf8 (unsigned n) is = IsUtf8-from_ascii (number_text (unsigned n)) (IsAscii-decimal n is)
number_utf8 (negative (pos n)) is = absurd is
number_utf8 (negative (negsuc n)) is = IsUtf8-from_ascii (number_text (negative (negsuc n))) (IsAscii-signed (negsuc n) is)
number_utf8 (float x) is = absurd is

comma_utf8 : (later : Bool) → IsUtf8 (comma_if later)
comma_utf8 true = IsUtf8-are_ascii (44 ∷ []) refl
comma_utf8 false = IsUtf8-nil

mutual
  data_utf8 : (d : Data) → CanWrite d → IsUtf8 (compact_text d)
  data_utf8 null can = IsUtf8-are_ascii (compact_text null) refl
  data_utf8 (boolean b) can = IsUtf8-boolean b
  data_utf8 (number n) can = number_utf8 n can
  data_utf8 (string s) can = IsUtf8-quoted s can
  data_utf8 (array ds) can = IsUtf8-append (91 ∷ []) (items_text false ds) (IsUtf8-are_ascii (91 ∷ []) refl) (items_utf8 false ds can)
  data_utf8 (object ms) can = IsUtf8-append (123 ∷ []) (members_text false ms) (IsUtf8-are_ascii (123 ∷ []) refl) (members_utf8 false ms can.0)

  items_utf8 : (later : Bool) (ds : Items) → CanWriteItems ds → IsUtf8 (items_text later ds)
  items_utf8 later no_items can = IsUtf8-are_ascii (93 ∷ []) refl
  items_utf8 later (item d ds) can =
      IsUtf8-append (comma_if later) (compact_text d ++ items_text true ds) (comma_utf8 later)
      (IsUtf8-append (compact_text d) (items_text true ds) (data_utf8 d can.0) (items_utf8 true ds can.1))

  members_utf8 : (later : Bool) (ms : Members) → CanWriteMembers ms → IsUtf8 (members_text later ms)
  members_utf8 later no_members can = IsUtf8-are_ascii (125 ∷ []) refl
  members_utf8 later (member k d ms) can =
      let rest : List ℕ = compact_text d ++ members_text true ms in
      IsUtf8-append (comma_if later) (quoted k ++ 58 ∷ rest) (comma_utf8 later)
      (IsUtf8-append (quoted k) (58 ∷ rest) (IsUtf8-quoted k can.0)
      (IsUtf8-append (58 ∷ []) rest (IsUtf8-are_ascii (58 ∷ []) refl)
      (IsUtf8-append (compact_text d) (members_text true ms) (data_utf8 d can.1) (members_utf8 true ms can.2))))

-- ---- the whole

whole_back : (d : Data) → CanWrite d → depth d ≤ 127 → read (compact_text d) ≡ Some d
whole_back d can flat =
    let j : json.Json = outline d in
    let same : tokens (compact_text d) ≡ tree.json_tokens j = ap tokens (sym (print-outline d))
    ∙ tokens-print (tree.json_tokens j) (ArePrintable-json_tokens j (has_numbers d can)) in
    let shallow : tree.depth j ≤ 127 = omega (arith, same_depth d, flat) in
    ap (λ ts. option_and_then of_json (option_and_then (λ p. json.if_last p.0 p.1) (json.value max_depth ts))) (same ∙ sym (append-nil (tree.json_tokens j)))
    ∙ ap (λ o. option_and_then of_json (option_and_then (λ p. json.if_last p.0 p.1) o)) (value-json_tokens j max_depth [] shallow)
    ∙ data_back d can

pub json_back : (d : Data) → CanWrite d → depth d ≤ 127 → json_of (compact_text d) ≡ Some d
json_back d can flat = is_json (compact_text d) d (data_utf8 d can, whole_back d can flat)
