-- The entries of modules, one after another.
use Rattle.std.proofs.Common.{◌≡◌, ℕ, zero, suc, ◌+◌, ⊎_elim, Bool, false, true, Option, Some, List, [], ◌∷◌, ◌++◌, length, refl, sym, ◌∙◌, subst, arith}
use Rattle.std.proofs.lemmas.Bool.{cases_lt}
use Rattle.std.proofs.lemmas.List.{length-append}
use Rattle.sot_box.specs.Sides.{Side}
use Rattle.sot_lists.specs.Places.{At}
use Rattle.sot_lists.proofs.Places.{at_same, at_front}
use Rattle.sot_lang.specs.declared.cert.Cells.{Cells}
use Rattle.sot_lang.specs.declared.tables.ModuleInfo.{ModuleInfo}
use Rattle.sot_lang.specs.Tables.{Tables}
use Rattle.sot_certify.specs.declared.fail.CertifyFail.{CertifyFail}
use Rattle.sot_certify.specs.declared.fail.CertifyFail.TheVariants.{Refused, Point, TooMany, Memory}
use Rattle.sot_certify.specs.Made.{IsMade}
use Rattle.sot_certify.specs.Certifying.{AreMadeBefore}
use Rattle.sot_certify.specs.Steps.{AreListsOf, HasNoCells, AreEntriesTo, HasNoEntries}

abbrev Entries : Type 0
Entries = List (Option Cells)

at_end : (xs : Entries) (x : Option Cells) (m : ℕ) → length xs ≡ m → At (xs ++ x ∷ []) m x
at_end [] x zero e = refl
at_end [] x (suc m) e = absurd (omega (arith, e))
at_end (z ∷ zs) x zero e = absurd (omega (arith, e))
at_end (z ∷ zs) x (suc m) e = at_end zs x m (omega (arith, e))

module _ (p : Tables) (entries : Entries) (m : ℕ) (a : ModuleInfo) (at : At p.modules m a) (before : AreEntriesTo p entries m) where
  pub more_entries : (cells : Cells) → AreListsOf p a cells → AreEntriesTo p (entries ++ Some cells ∷ []) (m + 1)
  more_entries cells lists = record {
    count = (let n = length-append entries (Some cells ∷ []) in let k = before.count in omega (arith, n, k));
    each = λ i b lt at_b.
        ⊎_elim
        (λ less. let e = before.each i b less at_b in (e.0, at_front entries (Some cells ∷ []) i (Some e.0) e.1, e.2))
        (λ ge.
        let same : m ≡ i = omega (arith, lt, ge) in
        let one : a ≡ b = at_same p.modules m a b at (subst (λ k. At p.modules k b) (sym same) at_b) in
        (cells, at_end entries (Some cells) i (before.count ∙ same), subst (λ (x : ModuleInfo). AreListsOf p x cells) one lists))
        (cases_lt i m);
  }

  of_sort : (b : ModuleInfo) (cells : Cells) (r : Bool) → AreListsOf p b cells → (list : List (List Side)) × IsMade p b r list
  of_sort b cells false lists = (cells.closed.boxes, lists.made.closed)
  of_sort b cells true lists = (cells.reach.boxes, lists.made.reach)

  made_before : (n : ℕ) (reach : Bool) → n ≡ m → (reach ≡ true → (cells : List (List Side)) × IsMade p a false cells) → AreMadeBefore p n a reach
  made_before n reach same closed = record {
    is = subst (λ k. At p.modules k a) (sym same) at;
    earlier = λ i b r lt at_b. (let e = before.each i b (omega (arith, lt, same)) at_b in of_sort b e.0 r e.2);
    closed = closed;
  }

  pub no_entries : (fail : CertifyFail) → HasNoCells p m a fail → HasNoEntries p fail
  no_entries (Refused r) h = absurd h
  no_entries (Point n reach s) h = (a, made_before n reach h.0 h.1, h.2)
  no_entries (TooMany n reach) h = (a, made_before n reach h.0 h.1, h.2)
  no_entries Memory h = tt
