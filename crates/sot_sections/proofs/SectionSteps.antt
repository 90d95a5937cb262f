-- How sections are taken one by one, in their order.
use Rattle.std.proofs.Common.{◌≡◌, ◌≢◌, ℕ, suc, ◌+◌, ◌<◌, ◌≤◌, List, [], ◌∷◌, true, false, ◌==◌, nat_le, inl, inr, length, take, drop, Option, None, Some, refl}
use Rattle.std.proofs.Common.{sym, ap, ◌∙◌, subst, arith, add-one, ◌-◌, length-drop}
use Rattle.std.specs.Prelude.{if◌then◌else◌, Bool, codes, Result, Ok}
use Rattle.std.specs.Str.{bytes_eq}
use Rattle.std.proofs.lemmas.Bool.{cases_Bool, cases_eq}
use Rattle.std.proofs.lemmas.Bool.Decides.{nat_tests}
use Rattle.sot_sections.specs.declared.mission.Need.{Need}
use Rattle.sot_sections.specs.declared.mission.SectionFault.{SectionFault}
use Rattle.sot_sections.specs.declared.mission.SectionKind.TheVariants.{Unknown, Order}
use Rattle.sot_sections.specs.Sections.{Section, Division, Parts, title, place, fault_behind, body_of, needed, or_missing, unless, split_of}
use Rattle.sot_text.specs.LineEnds.{lines}
use Rattle.sot_text.specs.LineEnds.{line_len}
use Rattle.sot_sections.specs.Dividing.{divided, begins_section, end_line, first_body, behind_first, IsRest}
use Rattle.sot_text.proofs.Lines.{line_len-pos, line_len-le}
use Rattle.sot_sections.proofs.Divided.{divided_opened, end_moves}

pub first_yes : (k : ℕ) (s : Section) (ss : List Section) → place (title s.mark) ≡ k → (first_body k (s ∷ ss) ≡ Some s.body) × (behind_first k (s ∷ ss) ≡ ss)
first_yes k s ss is = (let same : (place (title s.mark) == k) ≡ true = grind (arith, nat_tests) in rw same (refl, refl))

pub first_no : (k : ℕ) (s : Section) (ss : List Section) → place (title s.mark) ≢ k → (first_body k (s ∷ ss) ≡ None) × (behind_first k (s ∷ ss) ≡ s ∷ ss)
first_no k s ss is = (let other : (place (title s.mark) == k) ≡ false = grind (arith, nat_tests) in rw other (refl, refl))

at_most_3 : (a b c : Bool) → (if a then 1 else (if b then 2 else (if c then 3 else 0))) ≤ 3
at_most_3 true b c = omega arith
at_most_3 false true c = omega arith
at_most_3 false false true = omega arith
at_most_3 false false false = omega arith

pub place_limit : (t : List ℕ) → place t ≤ 3
unfolding place
place_limit t = at_most_3 (bytes_eq t (codes "%certificate")) (bytes_eq t (codes "%flight")) (bytes_eq t (codes "%trace"))

pub place_nothing : place [] ≡ 0
unfolding place
place_nothing = refl

-- the first fault is the same where the section is taken that is next in the order
fault_step : (k : ℕ) (ss : List Section) → fault_behind k ss ≡ fault_behind (suc k) (behind_first (suc k) ss)
fault_step k [] = refl
fault_step k (s ∷ ss) =
    elim (cases_eq (place (title s.mark)) (suc k)) [
      | inl next ↦
          let hit : (place (title s.mark) == suc k) ≡ true = grind (arith, nat_tests) in
          let known : (place (title s.mark) == 0) ≡ false = grind (arith, nat_tests) in
          let later : nat_le (place (title s.mark)) k ≡ false = grind (arith, nat_tests) in
          rw (hit, known, later) (ap (λ (p : ℕ). fault_behind p ss) next)
      | inr differ ↦
          let miss : (place (title s.mark) == suc k) ≡ false = grind (arith, nat_tests) in
          let same : nat_le (place (title s.mark)) k ≡ nat_le (place (title s.mark)) (suc k) = same_order (place (title s.mark)) k differ in
          rw (miss, same) refl
    ]
  where
    same_order : (p k : ℕ) → p ≢ suc k → nat_le p k ≡ nat_le p (suc k)
    same_order p k differ =
        elim (cases_Bool (nat_le p k)) [
          | inl le ↦ (let more : nat_le p (suc k) ≡ true = grind (arith, nat_tests) in le ∙ sym more)
          | inr gt ↦ (let more : nat_le p (suc k) ≡ false = grind (arith, nat_tests) in gt ∙ sym more)
        ]

body_step : (j k : ℕ) (ss : List Section) → j ≢ k → body_of j (behind_first k ss) ≡ body_of j ss
body_step j k [] differ = refl
body_step j k (s ∷ ss) differ =
    elim (cases_eq (place (title s.mark)) k) [
      | inl same ↦
          let hit : (place (title s.mark) == k) ≡ true = grind (arith, nat_tests) in
          let other : (place (title s.mark) == j) ≡ false = grind (arith, nat_tests) in
          rw (hit, other) refl
      | inr other ↦ ap (body_of j) (first_no k s ss other).1
    ]

-- the body of a section that does not come behind the first is that of the first
body_first : (k : ℕ) (ss : List Section) → body_of k (behind_first k ss) ≡ None → body_of k ss ≡ first_body k ss
body_first k [] none = refl
body_first k (s ∷ ss) none =
    elim (cases_eq (place (title s.mark)) k) [
      | inl same ↦ (let hit : (place (title s.mark) == k) ≡ true = grind (arith, nat_tests) in rw hit refl)
      | inr other ↦
          let Lacks : List Section → Type 0 = λ l. body_of k l ≡ None in
          subst Lacks (first_no k s ss other).1 none ∙ sym (first_no k s ss other).0
    ]

pub fault_first : (s : Section) (ss : List Section) → fault_behind 3 (s ∷ ss)
    ≡ Some (record { line = s.line; kind = (if place (title s.mark) == 0 then Unknown else Order) })
fault_first s ss =
    let limit = place_limit (title s.mark) in
    elim (cases_Bool (place (title s.mark) == 0)) [
      | inl unknown ↦ rw unknown refl
      | inr known ↦ (let early : nat_le (place (title s.mark)) 3 ≡ true = grind (arith, nat_tests) in rw (known, early) refl)
    ]

none_left : (ss : List Section) → fault_behind 3 ss ≡ None → ss ≡ []
none_left [] none = refl
none_left (s ∷ ss) none = (let some = fault_first s ss in absurd cc)

-- all sections are taken in their order, or the first that is left is the first fault
pub fault_left : (ss : List Section) → fault_behind 0 ss ≡ fault_behind 3 (behind_first 3 (behind_first 2 (behind_first 1 ss)))
fault_left ss = fault_step 0 ss ∙ fault_step 1 (behind_first 1 ss) ∙ fault_step 2 (behind_first 2 (behind_first 1 ss))

pub bodies_left : (ss : List Section) → behind_first 3 (behind_first 2 (behind_first 1 ss)) ≡ []
    → (body_of 1 ss ≡ first_body 1 ss) × (body_of 2 ss ≡ first_body 2 (behind_first 1 ss)) × (body_of 3 ss ≡ first_body 3 (behind_first 2 (behind_first 1 ss)))
bodies_left ss none =
    let r1 = behind_first 1 ss in
    let r2 = behind_first 2 r1 in
    let gone : (k : ℕ) → body_of k (behind_first 3 r2) ≡ None = λ k. ap (body_of k) none in
    let c : body_of 1 r1 ≡ None = sym (body_step 1 2 r1 (omega arith)) ∙ sym (body_step 1 3 r2 (omega arith)) ∙ gone 1 in
    let f : body_of 2 r2 ≡ None = sym (body_step 2 3 r2 (omega arith)) ∙ gone 2 in (
      body_first 1 ss c,
      sym (body_step 2 1 ss (omega arith)) ∙ body_first 2 r1 f,
      sym (body_step 3 1 ss (omega arith)) ∙ sym (body_step 3 2 r1 (omega arith)) ∙ body_first 3 r2 (gone 3),
    )

-- what the first section gives, and what stands behind it
taken_here : (n wanted : ℕ) (bs : List ℕ) → begins_section bs ≡ true → 0 < wanted → place (title (take (line_len bs) bs)) ≡ wanted
    → (first_body wanted (divided n bs).sections ≡ Some (divided (suc n) (drop (line_len bs) bs)).front)
    × (behind_first wanted (divided n bs).sections ≡ (divided (suc n) (drop (line_len bs) bs)).sections) × (0 < length bs)
taken_here n wanted [] begins some is = absurd (omega (arith, is, place_nothing))
taken_here n wanted (b ∷ bs) begins some is =
    let text = b ∷ bs in
    let rest = divided (suc n) (drop (line_len text) text) in
    let s : Section = record { line = n; mark = take (line_len text) text; body = rest.front } in
    let hit = first_yes wanted s rest.sections is in
    let here = divided_opened n text begins in
    (ap (λ (d : Division). first_body wanted d.sections) here ∙ hit.0, ap (λ (d : Division). behind_first wanted d.sections) here ∙ hit.1, omega arith)

-- the same, as code counts
pub taken : (n k wanted : ℕ) (bs : List ℕ) → begins_section bs ≡ true → 0 < wanted → k ≡ line_len bs → place (title (take k bs)) ≡ wanted
    → (first_body wanted (divided n bs).sections ≡ Some (divided (n + 1) (drop k bs)).front)
    × (behind_first wanted (divided n bs).sections ≡ (divided (n + 1) (drop k bs)).sections) × (0 < length bs)
taken n k wanted bs begins some len is = rw (len, add-one) (taken_here n wanted bs begins some (rw len at is))

-- where the first section is taken, what is found behind its line is the section and the rest
pub taken_rest : (n k wanted r : ℕ) (bs tail body rest : List ℕ) → begins_section bs ≡ true → 0 < wanted → k ≡ line_len bs → place (title (take k bs)) ≡ wanted
    → tail ≡ drop k bs
    → body ≡ (divided (n + 1) tail).front → IsRest (divided (n + 1) tail).sections (end_line (n + 1) tail) (n + 1 + length tail) r rest
    → (Some body ≡ first_body wanted (divided n bs).sections) × IsRest (behind_first wanted (divided n bs).sections) (end_line n bs) (n + length bs) r rest
taken_rest n k wanted r bs tail body rest begins some len is at_tail is_body is_rest =
    let got = taken n k wanted bs begins some len is in
    let moved : end_line n bs ≡ end_line (n + 1) tail = rw (add-one, at_tail, len) (end_moves n bs got.2) in
    let pos : 0 < k = rw len (line_len-pos bs got.2) in
    let le : k ≤ length bs = rw len (line_len-le bs) in
    let shorter : length tail ≡ length bs - k = ap (λ (l : List ℕ). length l) at_tail ∙ length-drop k bs in
    let front : body ≡ (divided (n + 1) (drop k bs)).front = is_body ∙ ap (λ (l : List ℕ). (divided (n + 1) l).front) at_tail in (
      ap (λ (l : List ℕ). Some l) front ∙ sym got.0,
      record {
        begins = is_rest.begins;
        same = is_rest.same ∙ ap (λ (l : List ℕ). (divided (n + 1) l).sections) at_tail ∙ sym got.1;
        end = is_rest.end ∙ sym moved;
        room = (let room = is_rest.room in omega arith);
      },
    )

pub not_taken : (n k wanted : ℕ) (bs : List ℕ) → begins_section bs ≡ true → k ≡ line_len bs → place (title (take k bs)) ≢ wanted
    → (first_body wanted (divided n bs).sections ≡ None) × (behind_first wanted (divided n bs).sections ≡ (divided n bs).sections)
not_taken n k wanted [] begins len is = (refl, refl)
not_taken n k wanted (b ∷ bs) begins len is =
    let text = b ∷ bs in
    let rest = divided (suc n) (drop (line_len text) text) in
    let s : Section = record { line = n; mark = take (line_len text) text; body = rest.front } in
    let miss = first_no wanted s rest.sections (rw len at is) in
    let here = divided_opened n text begins in (
      ap (λ (d : Division). first_body wanted d.sections) here ∙ miss.0,
      ap (λ (d : Division). behind_first wanted d.sections) here ∙ miss.1 ∙ sym (ap (λ (d : Division). d.sections) here),
    )

pub fault_here : (n k : ℕ) (bs : List ℕ) → begins_section bs ≡ true → 0 < length bs → k ≡ line_len bs
    → fault_behind 3 (divided n bs).sections ≡ Some (record { line = n; kind = (if place (title (take k bs)) == 0 then Unknown else Order) })
fault_here n k [] begins some len = absurd (omega arith)
fault_here n k (b ∷ bs) begins some len =
    let text = b ∷ bs in
    let rest = divided (suc n) (drop (line_len text) text) in
    let s : Section = record { line = n; mark = take (line_len text) text; body = rest.front } in
    rw len (ap (λ (d : Division). fault_behind 3 d.sections) (divided_opened n text begins) ∙ fault_first s rest.sections)

nothing_left : (n : ℕ) (bs : List ℕ) → begins_section bs ≡ true → (divided n bs).sections ≡ [] → bs ≡ []
nothing_left n [] begins none = refl
nothing_left n (b ∷ bs) begins none = (let here = ap (λ (d : Division). d.sections) (divided_opened n (b ∷ bs) begins) in absurd cc)

unless_same : (r r' : Option SectionFault) (a b : Result Parts SectionFault) → r ≡ r' → (r' ≡ None → a ≡ b) → unless r a ≡ unless r' b
unless_same r None a b e same = rw e (same refl)
unless_same r (Some fault) a b e same = rw e refl

same_needed : (need : Need) (n n' : ℕ) (p p' : List ℕ) (c c' f f' t t' : Option (List ℕ)) → n ≡ n' → p ≡ p' → c ≡ c' → f ≡ f' → t ≡ t'
    → or_missing n (needed need p c f t) ≡ or_missing n' (needed need p' c' f' t')
same_needed need n n' p p' c c' f f' t t' en ep ec ef et = rw (en, ep, ec, ef, et) refl

-- the whole of `split`, from what was taken one by one
pub collected : (bytes : List ℕ) (n₁ n₂ n₃ n₄ m₁ m₂ m₃ m₄ : ℕ) (t₁ t₂ t₃ t₄ p : List ℕ) (c f t : Option (List ℕ)) (need : Need)
    → p ≡ (divided 1 bytes).front → IsRest (divided 1 bytes).sections (end_line 1 bytes) m₁ n₁ t₁
    → c ≡ first_body 1 (divided n₁ t₁).sections → IsRest (behind_first 1 (divided n₁ t₁).sections) (end_line n₁ t₁) m₂ n₂ t₂
    → f ≡ first_body 2 (divided n₂ t₂).sections → IsRest (behind_first 2 (divided n₂ t₂).sections) (end_line n₂ t₂) m₃ n₃ t₃
    → t ≡ first_body 3 (divided n₃ t₃).sections → IsRest (behind_first 3 (divided n₃ t₃).sections) (end_line n₃ t₃) m₄ n₄ t₄
    → split_of bytes need ≡ unless (fault_behind 3 (divided n₄ t₄).sections) (or_missing n₄ (needed need p c f t))
collected bytes n₁ n₂ n₃ n₄ m₁ m₂ m₃ m₄ t₁ t₂ t₃ t₄ p c f t need front r₁ is_c r₂ is_f r₃ is_t r₄ =
    let ss = (divided 1 bytes).sections in
    let s₂ : (divided n₂ t₂).sections ≡ behind_first 1 ss = r₂.same ∙ ap (behind_first 1) r₁.same in
    let s₃ : (divided n₃ t₃).sections ≡ behind_first 2 (behind_first 1 ss) = r₃.same ∙ ap (behind_first 2) s₂ in
    let s₄ : (divided n₄ t₄).sections ≡ behind_first 3 (behind_first 2 (behind_first 1 ss)) = r₄.same ∙ ap (behind_first 3) s₃ in
    let faults : fault_behind 0 ss ≡ fault_behind 3 (divided n₄ t₄).sections = fault_left ss ∙ ap (fault_behind 3) (sym s₄) in
    unless_same (fault_behind 0 ss) (fault_behind 3 (divided n₄ t₄).sections)
    (or_missing (suc (length (lines bytes))) (needed need (divided 1 bytes).front (body_of 1 ss) (body_of 2 ss) (body_of 3 ss)))
    (or_missing n₄ (needed need p c f t)) faults
    (λ none.
    let empty : (divided n₄ t₄).sections ≡ [] = none_left (divided n₄ t₄).sections none in
    let bodies = bodies_left ss (sym s₄ ∙ empty) in
    let ends : end_line n₄ t₄ ≡ end_line 1 bytes = r₄.end ∙ r₃.end ∙ r₂.end ∙ r₁.end in
    let no_line : length (lines t₄) ≡ 0 = ap (λ (l : List ℕ). length (lines l)) (nothing_left n₄ t₄ r₄.begins empty) in
    same_needed need (suc (length (lines bytes))) n₄ (divided 1 bytes).front p (body_of 1 ss) c (body_of 2 ss) f (body_of 3 ss) t (omega arith) (sym front)
    (bodies.0 ∙ sym (is_c ∙ ap (first_body 1) r₁.same))
    (bodies.1 ∙ sym (is_f ∙ ap (first_body 2) s₂))
    (bodies.2 ∙ sym (is_t ∙ ap (first_body 3) s₃)))

-- where nothing is left and no part is missing, the parts are the answer
pub collected_ok : (n : ℕ) (rest p : List ℕ) (c f t : Option (List ℕ)) (need : Need) (parts : Parts) → rest ≡ [] → needed need p c f t ≡ Some parts
    → unless (fault_behind 3 (divided n rest).sections) (or_missing n (needed need p c f t)) ≡ Ok parts
collected_ok n rest p c f t need parts none are = rw (none, are) refl
