-- `resume` is a line by itself.
use Rattle.std.proofs.Common.{◌≡◌, ℕ, ◌<◌, List, ◌∷◌, length, get_or, codes, refl, ap, arith}
use Rattle.sot_lang.specs.Tables.{Tables}
use Rattle.sot_guard_lines.specs.Sayings.{Saying, StartSaid, InputSaid, DraftSaid, GoSaid, ResumeSaid, TickSaid, IsSaid}
use Rattle.sot_guard_lines.specs.Examples.{ResumesAlone}

module _ (p : Tables) where
  -- a line that begins with r says this alone
  r_resumes : (rest : List ℕ) (s : Saying) → IsSaid p (114 ∷ rest) s → length rest ≡ 5
  r_resumes rest (StartSaid plant point) is = (let never : 114 ≡ 115 = ap (λ (l : List ℕ). get_or l 0 0) is.1 in absurd (omega (arith, never)))
  r_resumes rest (InputSaid topic value) is = (let never : 114 ≡ 105 = ap (λ (l : List ℕ). get_or l 0 0) is.1 in absurd (omega (arith, never)))
  r_resumes rest (DraftSaid node slots) is = (let never : 114 ≡ 100 = ap (λ (l : List ℕ). get_or l 0 0) is.1 in absurd (omega (arith, never)))
  r_resumes rest GoSaid is = (let never : 114 ≡ 103 = ap (λ (l : List ℕ). get_or l 0 0) is.1 in absurd (omega (arith, never)))
  r_resumes rest ResumeSaid is = (let size : length (114 ∷ rest) ≡ 6 = ap length is.1 in omega (arith, size))
  r_resumes rest (TickSaid states) is = (let never : 114 ≡ 116 = ap (λ (l : List ℕ). get_or l 0 0) is.1 in absurd (omega (arith, never)))

  -- no line begins with a byte below `d`
  low : (c : ℕ) (rest : List ℕ) (s : Saying) → c < 100 → IsSaid p (c ∷ rest) s → ⊥
  low c rest (StartSaid plant point) lt is = (let e : c ≡ 115 = ap (λ (l : List ℕ). get_or l 0 0) is.1 in omega (arith, e, lt))
  low c rest (InputSaid topic value) lt is = (let e : c ≡ 105 = ap (λ (l : List ℕ). get_or l 0 0) is.1 in omega (arith, e, lt))
  low c rest (DraftSaid node slots) lt is = (let e : c ≡ 100 = ap (λ (l : List ℕ). get_or l 0 0) is.1 in omega (arith, e, lt))
  low c rest GoSaid lt is = (let e : c ≡ 103 = ap (λ (l : List ℕ). get_or l 0 0) is.1 in omega (arith, e, lt))
  low c rest ResumeSaid lt is = (let e : c ≡ 114 = ap (λ (l : List ℕ). get_or l 0 0) is.1 in omega (arith, e, lt))
  low c rest (TickSaid states) lt is = (let e : c ≡ 116 = ap (λ (l : List ℕ). get_or l 0 0) is.1 in omega (arith, e, lt))

  pub resumes_alone : ResumesAlone p
  resumes_alone = (
    (tt, refl),
    λ s said. (let n : 9 ≡ 5 = r_resumes (codes "esume now") s said in omega (arith, n)),
    λ s said. (let n : 6 ≡ 5 = r_resumes (codes "esume ") s said in omega (arith, n)),
    λ s said. (let n : 6 ≡ 5 = r_resumes (codes "esumed") s said in omega (arith, n)),
    λ s said. (let n : 4 ≡ 5 = r_resumes (codes "esum") s said in omega (arith, n)),
    λ s said. low 32 (codes "resume") s (omega arith) said,
    λ s said. low 82 (codes "esume") s (omega arith) said,
  )
