-- The JSON of a certificate has no float, and nests six levels deep at most.
use Rattle.std.proofs.Common.{◌≡◌, ℕ, zero, suc, ◌≤◌, ℤ, pos, negsuc, false, Option, None, Some, List, [], ◌∷◌}
use Rattle.std.proofs.Common.{Ordering, Less, Equal, Greater, nat_cmp, refl, arith}
use Rattle.std.proofs.lemmas.Bool.{or_from, or_parts}
use Rattle.std.specs.Prelude.{max}
use Rattle.std.specs.Ordering.{match_ordering}
use Rattle.std.specs.Cmp.Lexicographic.{slice_cmp}
use Rattle.serde_json.specs.Data.{Data, number, Members, no_members, member, put, depth, items_depth, members_depth}
use Rattle.serde_json.specs.Find.{of_integer}
use Rattle.serde_json.specs.Written.{has_float, items_have_float, members_have_float}
use Rattle.sot_box.specs.Sides.{Side}
use Rattle.sot_lang.specs.declared.cert.Cells.{Cells}
use Rattle.sot_lang.specs.declared.cert.Cert.{Cert}
use Rattle.sot_lang.specs.declared.tables.ModuleInfo.{ModuleInfo}
use Rattle.sot_lang.specs.Tables.{Tables}
use Rattle.sot_certified_text.specs.CertText.{side_data, cell_data, cells_data, entry_data, entries_data, jittered_data, data_with_jitter, items_by}

-- numbers

whole_number : (z : ℤ) → has_float (number (of_integer z)) ≡ false
whole_number (pos n) = refl
whole_number (negsuc n) = refl

no_floats : {A : Type 0} (f : A → Data) (xs : List A) → ((x : A) → has_float (f x) ≡ false) → items_have_float (items_by f xs) ≡ false
no_floats f [] h = refl
no_floats f (x ∷ xs) h = or_from (has_float (f x)) (items_have_float (items_by f xs)) (h x) (no_floats f xs h)

side_whole : (r : Side) → has_float (side_data r) ≡ false
side_whole r =
    or_from (has_float (number (of_integer r.lo))) _ (whole_number r.lo) (or_from (has_float (number (of_integer r.hi))) false (whole_number r.hi) refl)

cells_whole : (cells : List (List Side)) → has_float (cells_data cells) ≡ false
cells_whole cells = no_floats cell_data cells (λ cell. no_floats side_data cell side_whole)

entry_whole : (cells : Cells) → has_float (entry_data cells) ≡ false
entry_whole cells =
    or_from (has_float (cells_data cells.closed.boxes)) _ (cells_whole cells.closed.boxes)
    (or_from (has_float (cells_data cells.reach.boxes)) false (cells_whole cells.reach.boxes) refl)

-- objects

by_place_whole : (o : Ordering) (k l : List ℕ) (d e : Data) (ms more : Members) → has_float d ≡ false → members_have_float (member l e ms) ≡ false
    → members_have_float more ≡ false
    → members_have_float (match_ordering o (member k d (member l e ms)) (member l d ms) (member l e more)) ≡ false
by_place_whole Less k l d e ms more h g r = or_from (has_float d) _ h g
by_place_whole Equal k l d e ms more h g r = or_from (has_float d) (members_have_float ms) h (or_parts (has_float e) (members_have_float ms) g).1
by_place_whole Greater k l d e ms more h g r = or_from (has_float e) (members_have_float more) (or_parts (has_float e) (members_have_float ms) g).0 r

put_whole : (k : List ℕ) (d : Data) (ms : Members) → has_float d ≡ false → members_have_float ms ≡ false → members_have_float (put k d ms) ≡ false
put_whole k d no_members h g = or_from (has_float d) false h refl
put_whole k d (member l e ms) h g =
    by_place_whole (slice_cmp nat_cmp k l) k l d e ms (put k d ms) h g (put_whole k d ms h (or_parts (has_float e) (members_have_float ms) g).1)

entries_whole : (infos : List ModuleInfo) (entries : List (Option Cells)) → members_have_float (entries_data infos entries) ≡ false
entries_whole [] entries = refl
entries_whole (m ∷ ms) [] = refl
entries_whole (m ∷ ms) (None ∷ entries) = entries_whole ms entries
entries_whole (m ∷ ms) (Some cells ∷ entries) = put_whole m.name (entry_data cells) (entries_data ms entries) (entry_whole cells) (entries_whole ms entries)

jittered_whole : (j : ℕ) (entries : Members) → members_have_float entries ≡ false → has_float (jittered_data j entries) ≡ false
jittered_whole zero entries none = or_from (members_have_float entries) false none refl
jittered_whole (suc j) entries none = or_from (members_have_float entries) false none refl

pub certificate_whole : (p : Tables) (cert : Cert) → has_float (data_with_jitter p cert) ≡ false
certificate_whole p cert = jittered_whole cert.jitter (entries_data p.modules cert.modules.items) (entries_whole p.modules cert.modules.items)

-- depths

greater : (a b n : ℕ) → a ≤ n → b ≤ n → max a b ≤ n
greater a b n h k = omega (arith, h, k)

flat : (z : ℤ) → depth (number (of_integer z)) ≡ 0
flat (pos n) = refl
flat (negsuc n) = refl

items_flat : {A : Type 0} (f : A → Data) (xs : List A) (n : ℕ) → ((x : A) → depth (f x) ≤ n) → items_depth (items_by f xs) ≤ n
items_flat f [] n h = omega arith
items_flat f (x ∷ xs) n h = greater (depth (f x)) (items_depth (items_by f xs)) n (h x) (items_flat f xs n h)

side_flat : (r : Side) → depth (side_data r) ≤ 1
side_flat r =
    (let a = flat r.lo in let b = flat r.hi in let m = greater (depth (number (of_integer r.lo))) (max (depth (number (of_integer r.hi))) 0) 0
    (omega (arith, a)) (greater (depth (number (of_integer r.hi))) 0 0 (omega (arith, b)) (omega arith)) in omega (arith, m))

cells_flat : (cells : List (List Side)) → depth (cells_data cells) ≤ 3
cells_flat cells = (let m = items_flat cell_data cells 2 (λ cell. (let n = items_flat side_data cell 1 side_flat in omega (arith, n))) in omega (arith, m))

entry_flat : (cells : Cells) → depth (entry_data cells) ≤ 4
entry_flat cells =
    let m = greater (depth (cells_data cells.closed.boxes)) (max (depth (cells_data cells.reach.boxes)) 0) 3 (cells_flat cells.closed.boxes)
    (greater (depth (cells_data cells.reach.boxes)) 0 3 (cells_flat cells.reach.boxes) (omega arith)) in
    omega (arith, m)

lesser_first : (a b n : ℕ) → max a b ≤ n → a ≤ n
lesser_first a b n h = omega (arith, h)

lesser_second : (a b n : ℕ) → max a b ≤ n → b ≤ n
lesser_second a b n h = omega (arith, h)

by_place_flat : (o : Ordering) (k l : List ℕ) (d e : Data) (ms more : Members) (n : ℕ) → depth d ≤ n → members_depth (member l e ms) ≤ n
    → members_depth more ≤ n
    → members_depth (match_ordering o (member k d (member l e ms)) (member l d ms) (member l e more)) ≤ n
by_place_flat Less k l d e ms more n h g r = greater (depth d) (members_depth (member l e ms)) n h g
by_place_flat Equal k l d e ms more n h g r = greater (depth d) (members_depth ms) n h (lesser_second (depth e) (members_depth ms) n g)
by_place_flat Greater k l d e ms more n h g r = greater (depth e) (members_depth more) n (lesser_first (depth e) (members_depth ms) n g) r

put_flat : (k : List ℕ) (d : Data) (ms : Members) (n : ℕ) → depth d ≤ n → members_depth ms ≤ n → members_depth (put k d ms) ≤ n
put_flat k d no_members n h g = greater (depth d) 0 n h (omega arith)
put_flat k d (member l e ms) n h g =
    by_place_flat (slice_cmp nat_cmp k l) k l d e ms (put k d ms) n h g (put_flat k d ms n h (lesser_second (depth e) (members_depth ms) n g))

entries_flat : (infos : List ModuleInfo) (entries : List (Option Cells)) → members_depth (entries_data infos entries) ≤ 4
entries_flat [] entries = omega arith
entries_flat (m ∷ ms) [] = omega arith
entries_flat (m ∷ ms) (None ∷ entries) = entries_flat ms entries
entries_flat (m ∷ ms) (Some cells ∷ entries) = put_flat m.name (entry_data cells) (entries_data ms entries) 4 (entry_flat cells) (entries_flat ms entries)

jittered_flat : (j : ℕ) (entries : Members) → members_depth entries ≤ 4 → depth (jittered_data j entries) ≤ 127
jittered_flat zero entries flat =
    let inner = greater (suc (members_depth entries)) 0 5 (omega (arith, flat)) (omega arith) in
    let outer = greater 0 (max (suc (members_depth entries)) 0) 5 (omega arith) inner in
    omega (arith, outer)
jittered_flat (suc j) entries flat =
    let inner = greater (suc (members_depth entries)) 0 5 (omega (arith, flat)) (omega arith) in
    let middle = greater 0 (max (suc (members_depth entries)) 0) 5 (omega arith) inner in
    let outer = greater 0 (max 0 (max (suc (members_depth entries)) 0)) 5 (omega arith) middle in
    omega (arith, outer)

pub certificate_flat : (p : Tables) (cert : Cert) → depth (data_with_jitter p cert) ≤ 127
certificate_flat p cert = jittered_flat cert.jitter (entries_data p.modules cert.modules.items) (entries_flat p.modules cert.modules.items)
