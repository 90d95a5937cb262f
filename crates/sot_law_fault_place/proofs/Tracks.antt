-- What a reader answers hangs on the tokens that it reads, and on the next one alone; and more room changes nothing, unless it nests too deep.
use Rattle.std.proofs.Common.{◌≡◌, cond, List, [], ◌∷◌, ◌++◌, Bool, true, false, None, Some, Ok, Err, refl, sym, ap, subst, ◌∙◌, append_assoc}
use Rattle.sot_text.specs.Reading.{Lexeme}
use Rattle.sot_expression.specs.Stream.{first_of}
use Rattle.sot_expression.specs.Lexemes.{begins}
use Rattle.sot_expression.specs.Readers.{Read, Fault, stuck, deep, ◌>>=◌, one_token}
use Rattle.sot_expression.proofs.ReadSteps.{ok}
use Rattle.sot_law_fault_place.proofs.Stops.{err}

-- the tokens that are left
abbrev pub left_of : {A : Type 0} → Read A → List Lexeme
left_of (Ok x) = x.1
left_of (Err e) = e.1

-- the same answer before these tokens; where it nests too deep, if `Same` holds
abbrev pub Matches : {A : Type 0} → Type 0 → Read A → List Lexeme → Read A → Type 0
Matches Same (Ok x) us r = r ≡ Ok (x.0, us)
Matches Same (Err (stuck, ts)) us r = r ≡ Err (stuck, us)
Matches Same (Err (deep, ts)) us r = Same → r ≡ Err (deep, us)

-- what was read, and that the other reader answers the same wherever it begins so
pub record Track {A : Type 0} (Same : Type 0) (other : List Lexeme → Read A) (m : Read A) (ts : List Lexeme) : Type 0 where
  pub used : List Lexeme
  pub split : ts ≡ used ++ left_of m
  pub same : (us : List Lexeme) → first_of us ≡ first_of (left_of m) → Matches Same m us (other (used ++ us))

abbrev pub Tracks : {A : Type 0} → Type 0 → (List Lexeme → Read A) → (List Lexeme → Read A) → Type 0
Tracks Same g other = (ts : List Lexeme) → Track Same other (g ts) ts

-- what begins with the same tokens, and goes on with the same one, has the same first token
pub same_first : (used us vs : List Lexeme) → first_of us ≡ first_of vs → first_of (used ++ us) ≡ first_of (used ++ vs)
same_first [] us vs e = e
same_first (t ∷ used) us vs e = refl

pub nothing_left : (us : List Lexeme) → first_of us ≡ None → us ≡ []
nothing_left [] e = refl
nothing_left (u ∷ us) e = absurd cc

pub same_head : (t : Lexeme) (us : List Lexeme) → first_of us ≡ Some t → (vs : List Lexeme) × (us ≡ t ∷ vs)
same_head t [] e = absurd cc
same_head t (u ∷ us) e = let is : u ≡ t = cc in (us, ap (λ v. v ∷ us) is)

-- a fault stays one behind a further step
carried : {A B : Type 0} (Same : Type 0) (e : Fault × List Lexeme) (us : List Lexeme) (r : Read A) (k : A × List Lexeme → Read B)
    → Matches Same (err {A = A} e) us r → Matches Same (err {A = B} e) us (r >>= k)
carried Same (stuck, ts) us r k is = ap (λ m. m >>= k) is
carried Same (deep, ts) us r k is = λ same. ap (λ m. m >>= k) (is same)

bind_err : {A B : Type 0} {Same : Type 0} {other : List Lexeme → Read A} (later : A × List Lexeme → Read B) (e : Fault × List Lexeme) (ts : List Lexeme)
    → Track Same other (err {A = A} e) ts → Track Same (λ us. other us >>= later) (err {A = B} e) ts
bind_err {Same = Same} {other = other} later e ts t =
    record { used = t.used; split = t.split; same = λ us first. carried Same e us (other (t.used ++ us)) later (t.same us first) }

bind_goes : {A B : Type 0} {Same : Type 0} {other : List Lexeme → Read A} (k later : A × List Lexeme → Read B) (x : A × List Lexeme) (ts : List Lexeme)
    → Track Same other (ok x) ts → Track Same (λ us. later (x.0, us)) (k x) x.1 → Track Same (λ us. other us >>= later) (k x) ts
bind_goes {Same = Same} {other = other} k later x ts t s =
    let out = left_of (k x) in
    record {
      used = t.used ++ s.used;
      split = t.split ∙ (ap (λ us. t.used ++ us) s.split ∙ sym (append_assoc t.used s.used out));
      same = λ us first.
          let begins_so : first_of (s.used ++ us) ≡ first_of x.1 = same_first s.used us out first ∙ ap first_of (sym s.split) in
          let one : other (t.used ++ (s.used ++ us)) ≡ Ok (x.0, s.used ++ us) = t.same (s.used ++ us) begins_so in
          let all : (other ((t.used ++ s.used) ++ us) >>= later) ≡ later (x.0, s.used ++ us) = ap (λ ws. other ws >>= later) (append_assoc t.used s.used us)
          ∙ ap (λ m. m >>= later) one in
          subst (Matches Same (k x) us) (sym all) (s.same us first);
    }

-- one step of a chain, with what is known of what was read
pub bind_track : {A B : Type 0} {Same : Type 0} {other : List Lexeme → Read A} (g : List Lexeme → Read A) (k later : A × List Lexeme → Read B)
    (ts : List Lexeme) → Track Same other (g ts) ts
    → ((x : A × List Lexeme) → g ts ≡ Ok x → Track Same (λ us. later (x.0, us)) (k x) x.1) → Track Same (λ us. other us >>= later) (g ts >>= k) ts
bind_track {Same = Same} {other = other} g k later ts t next = by (g ts) refl t
  where
    by : (m : Read _) → g ts ≡ m → Track Same other m ts → Track Same (λ us. other us >>= later) (m >>= k) ts
    by (Err e) is t1 = bind_err later e ts t1
    by (Ok x) is t1 = bind_goes k later x ts t1 (next x is)

pub bind_tracks : {A B : Type 0} {Same : Type 0} {g other : List Lexeme → Read A} (k later : A × List Lexeme → Read B) → Tracks Same g other
    → ((a : A) → Tracks Same (λ us. k (a, us)) (λ us. later (a, us))) → Tracks Same (λ ts. g ts >>= k) (λ ts. other ts >>= later)
bind_tracks {g = g} k later tracks next ts = bind_track g k later ts (tracks ts) (λ x _. next x.0 x.1)

module _ {Same : Type 0} where
  pub ok_tracks : {A : Type 0} (a : A) → Tracks Same (λ us. Ok (a, us)) (λ us. Ok (a, us))
  ok_tracks a ts = record { used = []; split = refl; same = λ us first. refl }

  pub stuck_tracks : {A : Type 0} (other : List Lexeme → Read A) (ts : List Lexeme)
      → ((us : List Lexeme) → first_of us ≡ first_of ts → other us ≡ Err (stuck, us)) → Track Same other (Err (stuck, ts)) ts
  stuck_tracks other ts is = record { used = []; split = refl; same = is }

  pub deep_tracks : {A : Type 0} (other : List Lexeme → Read A) (ts : List Lexeme)
      → (Same → (us : List Lexeme) → first_of us ≡ first_of ts → other us ≡ Err (deep, us)) → Track Same other (Err (deep, ts)) ts
  deep_tracks other ts is = record { used = []; split = refl; same = λ us first same. is same us first }

  -- one token
  pub token_tracks : {A : Type 0} (test : Lexeme → Bool) (view : Lexeme → A) → Tracks Same (one_token test view) (one_token test view)
  token_tracks test view [] = stuck_tracks (one_token test view) [] (λ us first. let none = nothing_left us first in rw none refl)
  token_tracks test view (t ∷ ts) = by (test t) refl
    where
      by : (b : Bool) → test t ≡ b → Track Same (one_token test view) (cond b (Ok (view t, ts)) (Err (stuck, t ∷ ts))) (t ∷ ts)
      by true is = record { used = t ∷ []; split = refl; same = λ us first. ap (λ b. cond b (ok (view t, us)) (Err (stuck, t ∷ us))) is }
      by false is = stuck_tracks (one_token test view) (t ∷ ts) (λ us first.
          let same = same_head t us first in
          rw same.1 (ap (λ b. cond b (ok (view t, same.0)) (Err (stuck, t ∷ same.0))) is))

-- a test of the next token
abbrev pub IsFirst : (List Lexeme → Bool) → Type 0
IsFirst test = (ts us : List Lexeme) → first_of ts ≡ first_of us → test ts ≡ test us

pub begins_first : (test : Lexeme → Bool) → IsFirst (begins test)
begins_first test [] [] e = refl
begins_first test [] (u ∷ us) e = absurd cc
begins_first test (t ∷ ts) [] e = absurd cc
begins_first test (t ∷ ts) (u ∷ us) e = let is : t ≡ u = cc in ap test is

module _ {Same : Type 0} {A : Type 0} where
  -- one of two, by the next token
  pub cond_track : (test : List Lexeme → Bool) → IsFirst test → (m n other_m other_n : List Lexeme → Read A) (ts : List Lexeme)
      → (test ts ≡ true → Track Same other_m (m ts) ts) → (test ts ≡ false → Track Same other_n (n ts) ts)
      → Track Same (λ us. cond (test us) (other_m us) (other_n us)) (cond (test ts) (m ts) (n ts)) ts
  cond_track test first m n other_m other_n ts yes_ no_ = by (test ts) refl
    where
      tests : (used out us : List Lexeme) → ts ≡ used ++ out → first_of us ≡ first_of out → test (used ++ us) ≡ test ts
      tests used out us split e = first (used ++ us) ts (same_first used us out e ∙ ap first_of (sym split))

      by : (b : Bool) → test ts ≡ b → Track Same (λ us. cond (test us) (other_m us) (other_n us)) (cond b (m ts) (n ts)) ts
      by true is =
          let t = yes_ is in
          record {
            used = t.used;
            split = t.split;
            same =
                λ us e. subst (Matches Same (m ts) us) (ap (λ b. cond b (other_m (t.used ++ us)) (other_n (t.used ++ us)))
                (sym (tests t.used (left_of (m ts)) us t.split e ∙ is))) (t.same us e);
          }
      by false is =
          let t = no_ is in
          record {
            used = t.used;
            split = t.split;
            same =
                λ us e. subst (Matches Same (n ts) us) (ap (λ b. cond b (other_m (t.used ++ us)) (other_n (t.used ++ us)))
                (sym (tests t.used (left_of (n ts)) us t.split e ∙ is))) (t.same us e);
          }

  pub cond_tracks : (test : List Lexeme → Bool) → IsFirst test → {m n other_m other_n : List Lexeme → Read A} → Tracks Same m other_m → Tracks Same n other_n
      → Tracks Same (λ ts. cond (test ts) (m ts) (n ts)) (λ ts. cond (test ts) (other_m ts) (other_n ts))
  cond_tracks test first {m} {n} {other_m} {other_n} yes_ no_ ts = cond_track test first m n other_m other_n ts (λ _. yes_ ts) (λ _. no_ ts)

-- the same of a reader that answers so wherever the next token is this one
pub retrack : {Same : Type 0} {A : Type 0} {m : Read A} {ts : List Lexeme} (g other : List Lexeme → Read A) → Track Same g m ts
    → ((us : List Lexeme) → first_of us ≡ first_of ts → other us ≡ g us) → Track Same other m ts
retrack {Same = Same} {m = m} g other t is = record {
  used = t.used;
  split = t.split;
  same = λ us first. subst (Matches Same m us) (sym (is (t.used ++ us) (same_first t.used us (left_of m) first ∙ ap first_of (sym t.split)))) (t.same us first);
}
