-- A text behind which a certificate's line and its body stand.
use Rattle.std.proofs.Common.{◌≡◌, ℕ, suc, List, [], ◌∷◌, ◌++◌, ◌==◌, if◌then◌else◌, length, false, None, Ok, codes, inl, inr, refl, sym, ap, ◌∙◌, subst}
use Rattle.std.proofs.Common.{append_assoc}
use Rattle.std.proofs.lemmas.Bool.{cases_Bool}
use Rattle.std.proofs.lemmas.List.{append-nil}
use Rattle.sot_sections.specs.declared.mission.Need.TheVariants.{Check}
use Rattle.sot_sections.specs.Sections.{Division, Section, is_section_line, place, continued, opened, division, answer_of, split_of}
use Rattle.sot_text.specs.LineEnds.{onto_first, lines}
use Rattle.sot_certified_text.specs.Plain.{EndsLine, IsPlain}
use Rattle.sot_certified_text.specs.Missions.{CertificatesStandBehind}

abbrev Lines : Type 0
Lines = List (List ℕ)

flat : Lines → List ℕ
flat [] = []
flat (l ∷ ls) = l ++ flat ls

flat_onto : (b : ℕ) (ls : Lines) → flat (onto_first b ls) ≡ b ∷ flat ls
unfolding flat
flat_onto b [] = refl
flat_onto b (l ∷ ls) = refl

flat_lines : (bs : List ℕ) → flat (lines bs) ≡ bs
unfolding flat
flat_lines [] = refl
flat_lines (b ∷ bs) =
    elim (cases_Bool (b == 10)) [
      | inl end ↦ rw end (ap (λ (l : List ℕ). b ∷ l) (flat_lines bs))
      | inr more ↦ rw more (flat_onto b (lines bs) ∙ ap (λ (l : List ℕ). b ∷ l) (flat_lines bs))
    ]

-- lines of a text that ends with a line end, and of what follows it
onto_some : (b : ℕ) (ls ms : Lines) → (ls ≡ [] → ⊥) → onto_first b (ls ++ ms) ≡ onto_first b ls ++ ms
onto_some b [] ms ne = absurd (ne refl)
onto_some b (l ∷ ls) ms ne = refl

nothing_flat : (c : ℕ) (cs : List ℕ) → c ∷ cs ≡ flat [] → ⊥
unfolding flat
nothing_flat c cs e = absurd (cc)

some_lines : (b : ℕ) (bs : List ℕ) → lines (b ∷ bs) ≡ [] → ⊥
some_lines b bs e = nothing_flat b bs (sym (flat_lines (b ∷ bs)) ∙ ap flat e)

lines_on : (a rest : List ℕ) → lines ((a ++ 10 ∷ []) ++ rest) ≡ lines (a ++ 10 ∷ []) ++ lines rest
lines_on [] rest = refl
lines_on (x ∷ xs) rest =
    elim (cases_Bool (x == 10)) [
      | inl end ↦ rw end (ap (λ ls. (x ∷ []) ∷ ls) (lines_on xs rest))
      | inr more ↦ rw more (ap (onto_first x) (lines_on xs rest) ∙ onto_some x (lines (xs ++ 10 ∷ [])) (lines rest) (later xs))
    ]
  where
    later : (ys : List ℕ) → lines (ys ++ 10 ∷ []) ≡ [] → ⊥
    later [] e = absurd (cc)
    later (y ∷ ys) e = some_lines y (ys ++ 10 ∷ []) e

lines_behind : (a rest : List ℕ) → EndsLine a → lines (a ++ rest) ≡ lines a ++ lines rest
lines_behind a rest (inl none) = subst (λ x. lines (x ++ rest) ≡ lines x ++ lines rest) (sym none) refl
lines_behind a rest (inr h) = subst (λ x. lines (x ++ rest) ≡ lines x ++ lines rest) (sym h.1) (lines_on h.0 rest)

-- plain lines
no_sections : (s : Section) (ss : List Section) → s ∷ ss ≡ [] → ⊥
no_sections s ss e = absurd (cc)

first_plain : (n : ℕ) (l : List ℕ) (ls : Lines) → (division n (l ∷ ls)).sections ≡ [] → is_section_line l ≡ false
first_plain n l ls h = elim (cases_Bool (is_section_line l)) [
  | inl mark ↦ absurd (no_sections _ _ (subst (λ b. (if b then opened n l (division (suc n) ls) else continued l (division (suc n) ls)).sections ≡ []) mark h))
  | inr plain ↦ plain
]

rest_plain : (n : ℕ) (l : List ℕ) (ls : Lines) → (division n (l ∷ ls)).sections ≡ [] → (division (suc n) ls).sections ≡ []
rest_plain n l ls h = subst (λ b. (if b then opened n l (division (suc n) ls) else continued l (division (suc n) ls)).sections ≡ []) (first_plain n l ls h) h

front_is : (n : ℕ) (ls : Lines) → (division n ls).sections ≡ [] → (division n ls).front ≡ flat ls
unfolding flat
front_is n [] h = refl
front_is n (l ∷ ls) h = rw (first_plain n l ls h) (ap (λ t. l ++ t) (front_is (suc n) ls (rest_plain n l ls h)))

-- how many lines were passed
passed : ℕ → Lines → ℕ
passed n [] = n
passed n (l ∷ ls) = passed (suc n) ls

division_on : (n : ℕ) (ls ms : Lines) → (division n ls).sections ≡ []
    → division n (ls ++ ms) ≡ record { front = flat ls ++ (division (passed n ls) ms).front; sections = (division (passed n ls) ms).sections }
unfolding flat passed
division_on n [] ms h = refl
division_on n (l ∷ ls) ms h =
    rw (first_plain n l ls h)
    (ap (continued l) (division_on (suc n) ls ms (rest_plain n l ls h))
    ∙ ap (λ f. record { front = f; sections = (division (passed (suc n) ls) ms).sections })
    (sym (append_assoc l (flat ls) (division (passed (suc n) ls) ms).front)))

renumbered : (n m : ℕ) (ls : Lines) → (division n ls).sections ≡ [] → (division m ls).sections ≡ []
renumbered n m [] h = refl
renumbered n m (l ∷ ls) h = rw (first_plain n l ls h) (renumbered (suc n) (suc m) ls (rest_plain n l ls h))

abbrev mark : List ℕ
mark = codes "%certificate" ++ 10 ∷ []

abbrev the_section : ℕ → List ℕ → Section
the_section k cert = record { line = k; mark = mark; body = cert }

module _ (program cert : List ℕ) (ends : EndsLine program) (plain : IsPlain program) (cert_plain : IsPlain cert) where
  abbrev k : ℕ
  k = passed 1 (lines program)

  behind_is : division k (mark ∷ lines cert) ≡ record { front = []; sections = the_section k cert ∷ [] }
  behind_is =
      let none = renumbered 1 (suc k) (lines cert) cert_plain in
      let body = front_is (suc k) (lines cert) none ∙ flat_lines cert in
      ap (λ b. record { front = []; sections = record { line = k; mark = mark; body = b } ∷ (division (suc k) (lines cert)).sections }) body
      ∙ ap (λ ss. record { front = []; sections = the_section k cert ∷ ss }) none

  whole_is : division 1 (lines (program ++ (mark ++ cert))) ≡ record { front = program; sections = the_section k cert ∷ [] }
  whole_is =
      ap (division 1) (lines_behind program (mark ++ cert) ends ∙ ap (λ ls. lines program ++ ls) (lines_on (codes "%certificate") cert))
      ∙ division_on 1 (lines program) (mark ∷ lines cert) plain
      ∙ ap (λ (d : Division). record { front = flat (lines program) ++ d.front; sections = d.sections }) behind_is
      ∙ ap (λ f. record { front = f; sections = the_section k cert ∷ [] }) (append-nil (flat (lines program)) ∙ flat_lines program)

  split_is : split_of (program ++ (mark ++ cert)) Check ≡ Ok (record { program = program; cert = cert; flight = None; trace = None })
  unfolding place
  split_is = ap (answer_of Check (length (lines (program ++ (mark ++ cert))))) whole_is

pub stand_behind : CertificatesStandBehind
stand_behind program cert ends plain cert_plain = split_is program cert ends plain cert_plain
