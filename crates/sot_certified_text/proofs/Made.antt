-- Boxes that are halved stay within short sides, so a text can say the certificates that are made.
use Rattle.std.proofs.Common.{◌≡◌, ℕ, zero, suc, ◌≤◌, ◌^◌, ◌⊎◌, inl, inr, ⊎_elim, ℤ, pos, negsuc, ◌≤ℤ◌, ◌+ℤ◌, Some, Ok, List, [], ◌∷◌, ◌++◌, map, nat_abs, refl}
use Rattle.std.proofs.Common.{sym, subst, arith}
use Rattle.std.specs.Prelude.{slice_set}
use Rattle.std.proofs.lemmas.Int.{ints}
use Rattle.std.proofs.lemmas.Option.{none-some, same_Some, slice_get_within}
use Rattle.sot_text.specs.declared.token.Kind.TheVariants.{Name}
use Rattle.sot_text.specs.Lexeme.{IsTokenText}
use Rattle.sot_syntax_tree.specs.declared.tree.Bounds.{Bounds}
use Rattle.sot_syntax_tree.specs.Trees.{Area}
use Rattle.sot_syntax_tree.specs.Formed.{Each, AreBounds, IsArea}
use Rattle.sot_typing.specs.Resolved.{side_of}
use Rattle.sot_typing.proofs.Lists.{each_at}
use Rattle.sot_typing.proofs.Meanings.{module_formed}
use Rattle.sot_typing.proofs.Seen.{are_seen, of_module}
use Rattle.sot_box.specs.Sides.{Side}
use Rattle.sot_box.specs.BoxList.{BoxList}
use Rattle.sot_lists.specs.Places.{At}
use Rattle.sot_lists.proofs.Places.{at_same, at_mapped, at_below}
use Rattle.sot_lang.specs.declared.cert.Cells.{Cells}
use Rattle.sot_lang.specs.declared.cert.Cert.{Cert}
use Rattle.sot_lang.specs.declared.tables.ModuleInfo.{ModuleInfo}
use Rattle.sot_lang.specs.Tables.{Tables}
use Rattle.sot_certify.specs.Cuts.{AreHalves}
use Rattle.sot_certify.specs.Findings.{Finding, Whole, Failing, Begun, followed, BisectsWithin, BisectsEach}
use Rattle.sot_cert.specs.CertFormat.{cert_of, contents}
use Rattle.sot_certify.specs.Made.{AreMade}
use Rattle.sot_certify.specs.Certifying.{IsMadeFor}
use Rattle.sot_certified_text.specs.ReadBack.{IsShort, AreShort, IsWritable}
use Rattle.sot_certified_text.specs.Made.{HasShortBoxes, HaveShortRegions, TablesHaveShortRegions, MadeCertificatesAreWritable, CertifiedTextsSay}
use Rattle.sot_certified_text.specs.CertText.{line_with_jitter}
use Rattle.sot_certified_text.proofs.Lines.{texts_divide, without_jitter}
use Rattle.sot_certified_text.proofs.LineBack.{line_back}

-- ---- halves

-- a side of a box with a new side is that one, or one of the box
side_in : (box : List Side) (k i : ℕ) (q r : Side) → At (slice_set box k q) i r → (q ≡ r) ⊎ At box i r
side_in [] k i q r at = inr at
side_in (s ∷ ss) zero zero q r at = inl (same_Some q r at)
side_in (s ∷ ss) zero (suc i) q r at = inr at
side_in (s ∷ ss) (suc k) zero q r at = inr at
side_in (s ∷ ss) (suc k) (suc i) q r at = side_in ss k i q r at

set_short : (box : List Side) (k : ℕ) (q : Side) → AreShort box → IsShort q → AreShort (slice_set box k q)
set_short box k q all own i r at = ⊎_elim (λ e. subst IsShort e own) (λ there. all i r there) (side_in box k i q r at)

halves_short : (box low high : List Side) → AreHalves box low high → AreShort box → AreShort low × AreShort high
halves_short box low high h all =
    let own = all h.axis h.side h.widest.is in
    let below : h.middle ≤ℤ h.side.hi = omega (arith, ints, h.half.at_most, h.apart) in
    let above : h.side.lo ≤ℤ h.middle = omega (arith, ints, h.half.at_least, h.apart) in (
      subst AreShort (sym h.low_is) (set_short box h.axis (record { lo = h.side.lo; hi = h.middle }) all (own.0, omega (arith, ints, below, own.1))),
      subst AreShort (sym h.high_is) (set_short box h.axis (record { lo = h.middle +ℤ pos 1; hi = h.side.hi }) all (omega (arith, ints, above, own.0), own.1)),
    )

-- ---- what is found

abbrev cells_of : Finding → List (List Side)
cells_of (Whole cells) = cells
cells_of (Failing cells point) = cells
cells_of (Begun cells) = cells

abbrev AllShort : List (List Side) → Type 0
AllShort [] = Unit {0}
AllShort (c ∷ cs) = AreShort c × AllShort cs

all_on : (cs ds : List (List Side)) → AllShort cs → AllShort ds → AllShort (cs ++ ds)
all_on [] ds a b = b
all_on (c ∷ cs) ds a b = (a.0, all_on cs ds a.1 b)

followed_short : (a b : Finding) → AllShort (cells_of a) → AllShort (cells_of b) → AllShort (cells_of (followed a b))
followed_short (Whole cells) (Whole more) h k = all_on cells more h k
followed_short (Whole cells) (Failing more point) h k = all_on cells more h k
followed_short (Whole cells) (Begun more) h k = all_on cells more h k
followed_short (Failing cells point) b h k = h
followed_short (Begun cells) b h k = h

same_short : (f g : Finding) → f ≡ g → AllShort (cells_of g) → AllShort (cells_of f)
same_short f g e h = subst (λ x. AllShort (cells_of x)) (sym e) h

box_short : (Good : List Side → Type 0) (n : ℕ) (box : List Side) (found : Finding) → AreShort box → BisectsWithin Good n box found → AllShort (cells_of found)
box_short Good zero box found own h = same_short found (Begun []) h tt
box_short Good (suc n) box found own (inl h) = same_short found (Begun []) h tt
box_short Good (suc n) box found own (inr (inl h)) = same_short found (Whole (box ∷ [])) h.1 (own, tt)
box_short Good (suc n) box found own (inr (inr (inl h))) = same_short found (Failing [] _) h.2 tt
box_short Good (suc n) box found own (inr (inr (inr h))) =
    let halves = halves_short box h.1 h.2 h.3 own in
    same_short found (followed h.4 h.5) h.8 (followed_short h.4 h.5 (box_short Good n h.1 h.4 halves.0 h.6) (box_short Good n h.2 h.5 halves.1 h.7))

boxes_short : (Good : List Side → Type 0) (boxes : List (List Side)) (found : Finding) → ((i : ℕ) (box : List Side) → At boxes i box → AreShort box)
    → BisectsEach Good boxes found → AllShort (cells_of found)
boxes_short Good [] found all (inl h) = same_short found (Begun []) h tt
boxes_short Good [] found all (inr h) = same_short found (Whole []) h tt
boxes_short Good (b ∷ bs) found all h =
    same_short found (followed h.0 h.1) h.4
    (followed_short h.0 h.1 (box_short Good h.2.0 b h.0 (all 0 b refl) h.2.1) (boxes_short Good bs h.1 (λ i. all (suc i)) h.3))

short_at : (cells : List (List Side)) → AllShort cells → (i : ℕ) (cell : List Side) → At cells i cell → AreShort cell
short_at [] all i cell at = absurd (none-some cell at)
short_at (c ∷ cs) all zero cell at = subst AreShort (same_Some c cell at) all.0
short_at (c ∷ cs) all (suc i) cell at = short_at cs all.1 i cell at

list_short : (Good : List Side → Type 0) (region : BoxList) (cells : List (List Side)) → HasShortBoxes region → BisectsEach Good region.boxes (Whole cells)
    → (i : ℕ) (cell : List Side) → At cells i cell → AreShort cell
list_short Good region cells short found = short_at cells (boxes_short Good region.boxes (Whole cells) short found)

module _ (t : Tables) (cert : Cert) (short : HaveShortRegions t) (made : IsMadeFor t cert) where
  -- the module of an entry, and how the entry is made
  record IsEntry (m : ℕ) (cells : Cells) : Type 0 where
    info : ModuleInfo
    is : At t.modules m info
    lists : AreMade t info cells

  entry_at : (m : ℕ) (cells : Cells) → At cert.modules.items m (Some cells) → IsEntry m cells
  entry_at m cells at =
      let there = at_below t.modules m (omega (arith, made.entries, slice_get_within cert.modules.items m (Some cells) at)) in
      let own = made.cells m there.0 there.1 in
      let same : own.0 ≡ cells = inside (at_same cert.modules.items m (Some own.0) (Some cells) own.1 at) in
      record { info = there.0; is = there.1; lists = subst (AreMade t there.0) same own.2 }
    where
      inside : {a b : Cells} → Some a ≡ Some b → a ≡ b
      inside e = cc

  writable : IsWritable cert
  writable = record {
    jitter = omega (arith, made.jitter);
    closed =
        λ m i cells cell at. (let e = entry_at m cells at in list_short _ e.info.safe cells.closed.boxes (short m e.info e.is).0 e.lists.closed.whole i cell);
    reach =
        λ m i cells cell at. (let e = entry_at m cells at in list_short _ e.info.safer cells.reach.boxes (short m e.info e.is).1 e.lists.reach.whole i cell);
    closed_settled = λ m cells at. (entry_at m cells at).lists.closed_settled;
    reach_settled = λ m cells at. (entry_at m cells at).lists.reach_settled;
  }

pub made_writable : MadeCertificatesAreWritable
made_writable t cert short made = writable t cert short made

-- ---- the regions of a formed program

literal_low : (z : ℤ) → nat_abs z ≤ 10 ^ 12 → negsuc 999999999999 ≤ℤ z
literal_low (pos n) few = omega (arith, ints, few)
literal_low (negsuc n) few = omega (arith, ints, few)

literal_high : (z : ℤ) → nat_abs z ≤ 10 ^ 12 → z ≤ℤ pos 1000000000000
literal_high (pos n) few = omega (arith, ints, few)
literal_high (negsuc n) few = omega (arith, ints, few)

side_short : (b : Bounds) → AreBounds b → IsShort (side_of b)
side_short b is = (literal_low b.lo.mantissa is.0.mantissa, literal_high b.hi.mantissa is.1.mantissa)

area_short : (a : Area) → IsArea a → AreShort (map side_of a.sides)
area_short a is i r at =
    let side = at_mapped side_of a.sides i r at in
    subst IsShort side.2 (side_short side.0 (each_at AreBounds a.sides i side.0 is.1 side.1))

areas_short : (areas : List Area) → Each IsArea areas → (i : ℕ) (box : List Side) → At (map (λ a. map side_of a.sides) areas) i box → AreShort box
areas_short areas all i box at =
    let area = at_mapped (λ (a : Area). map side_of a.sides) areas i box at in
    subst AreShort area.2 (area_short area.0 (each_at IsArea areas i area.0 all area.1))

pub regions_short : TablesHaveShortRegions
regions_short p t formed are =
    let seen = are_seen p t are in (
      λ m a at.
          let own = of_module p t seen m a at in
          let is = module_formed p formed m own.0 own.1 in
          subst (λ (x : ModuleInfo). HasShortBoxes x.safe × HasShortBoxes x.safer) own.2 (areas_short own.0.safe is.safe, areas_short own.0.safer is.safer),
      λ m a at.
          let own = of_module p t seen m a at in
          let is = module_formed p formed m own.0 own.1 in
          subst (λ (x : ModuleInfo). IsTokenText Name x.name) own.2 is.name,
    )

-- ---- the whole

pub texts_say : CertifiedTextsSay
texts_say p t cert formed are rules fits made =
    let known = regions_short p t formed are in
    let line : cert_of t (line_with_jitter t cert) ≡ Ok (contents cert) = line_back t cert rules known.1 fits (made_writable t cert known.0 made) in
    (texts_divide p t cert formed, subst (λ text. cert_of t text ≡ Ok (contents cert)) (without_jitter t cert made.jitter) line)
