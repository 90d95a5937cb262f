-- Items one after another: where reading stops, what was read begins a list of forms.
use Rattle.std.proofs.Common.{ℕ, zero, suc, length, List, [], ◌∷◌, Bool, codes, Option, None, Some, refl, ap, ◌∙◌}
use Rattle.sot_text.specs.Reading.{Lexeme}
use Rattle.sot_expression.specs.Lexemes.{begins, is_sign, is_keyword}
use Rattle.sot_expression.specs.Readers.{Read}
use Rattle.sot_parser.specs.ListReaders.{repeated, all_at, further_at, separated_at, clause_at, optional_at}
use Rattle.sot_parser.specs.Pieces.{each, maybe, spelled_further, spelled_separated, spelled_clause}
use Rattle.sot_parser.proofs.SoundSteps.{Sound, Any, keyword_sound, sign_sound}
use Rattle.sot_parser.proofs.ListsSound.{further_sound, separated_sound}
use Rattle.sot_law_fault_place.specs.Places.{IsToken}
use Rattle.sot_law_fault_place.proofs.Stops.{Spelling, Appends, Twin, stops_inside, either_stops, never_stops, twin_of, then_twin, last_twin}
use Rattle.sot_law_fault_place.proofs.Tokens.{comma_real, semicolon_real, begun_by, keyword, sign, keyword_twin, sign_twin}

each_appends : {F : Type 0} (s : Spelling F) → ((f : F) → Appends (s f)) → (fs : List F) → Appends (each s fs)
each_appends s a [] us vs = refl
each_appends s a (f ∷ fs) us vs = ap (s f) (each_appends s a fs us vs) ∙ a f (each s fs us) vs

module _ {F A : Type 0} {s : Spelling F} {tree : F → A} {Fits : F → Type 0} where
  repeated_twin : (goes_on : List Lexeme → Bool) (item : List Lexeme → Read A) → Sound s tree Fits item → Twin s item → (n : ℕ)
      → Twin (each s) (repeated goes_on item n)
  unfolding repeated
  repeated_twin goes_on item sound twin zero =
      record { appends = each_appends s twin.appends; some = begun_by [] [] tt (λ behind. refl); stops = never_stops _ (λ ts. (_, refl)) }
  repeated_twin goes_on item sound twin (suc n) = record {
    appends = each_appends s twin.appends;
    some = begun_by [] [] tt (λ behind. refl);
    stops =
        either_stops goes_on _ _
        (stops_inside (λ p. p.0 ∷ p.1) (λ p behind. refl) (then_twin sound twin _
        (λ _. last_twin (repeated_twin goes_on item sound twin n) (λ x. (_, refl)))).stops)
        (never_stops _ (λ ts. (_, refl)));
  }

  pub all_twin : (goes_on : List Lexeme → Bool) (item : List Lexeme → Read A) → Sound s tree Fits item → Twin s item → Twin (each s) (all_at goes_on item)
  unfolding all_at
  all_twin goes_on item sound twin = record {
    appends = each_appends s twin.appends;
    some = begun_by [] [] tt (λ behind. refl);
    stops = λ ts e eq. (repeated_twin goes_on item sound twin (suc (length ts))).stops ts e eq;
  }

-- a part that may be left out
pub maybe_appends : {F : Type 0} (s : Spelling F) → ((f : F) → Appends (s f)) → (f : Option F) → Appends (maybe s f)
maybe_appends s a None us vs = refl
maybe_appends s a (Some f) us vs = a f us vs

module _ {F A : Type 0} {s : Spelling F} where
  further_twin : (text : List ℕ) → IsToken (sign text).token → (item : List Lexeme → Read A) → Twin s item
      → Twin (spelled_further {text = text} s) (further_at text item)
  unfolding further_at
  further_twin text real item twin =
      twin_of (λ p. record { sign = p.0; item = p.1 }) (λ f. (f.sign, f.item)) (λ p behind. refl) (λ f behind. refl)
      (then_twin (sign_sound text) (sign_twin text real) _ (λ _. twin))

module _ {F A : Type 0} {s : Spelling F} {tree : F → A} where
  pub separated_twin : (text : List ℕ) → IsToken (sign text).token → (item : List Lexeme → Read A) → Sound s tree Any item → Twin s item
      → Twin (spelled_separated {text = text} s) (separated_at text item)
  unfolding separated_at
  separated_twin text real item sound twin =
      twin_of (λ p. record { first = p.0; further = p.1 }) (λ f. (f.first, f.further)) (λ p behind. refl) (λ f behind. refl)
      (then_twin sound twin _ (λ _. last_twin (all_twin (begins (is_sign text)) (further_at text item) (further_sound s tree text item sound)
      (further_twin text real item twin)) (λ x. (_, refl))))

  pub clause_twin : (text : List ℕ) → IsToken (keyword text).token → (item : List Lexeme → Read A) → Sound s tree Any item → Twin s item
      → Twin (spelled_clause {text = text} s) (clause_at text item)
  unfolding clause_at
  clause_twin text real item sound twin =
      twin_of (λ p. record { word = p.0; items = p.1.0; semicolon = p.1.1 }) (λ c. (c.word, (c.items, c.semicolon))) (λ p behind. refl) (λ c behind. refl)
      (then_twin (keyword_sound text) (keyword_twin text real) _ (λ _.
      then_twin (separated_sound s tree (codes ",") item sound) (separated_twin (codes ",") comma_real item sound twin) _ (λ _.
      last_twin (sign_twin (codes ";") semicolon_real) (λ x. (_, refl)))))

  pub optional_twin : (text : List ℕ) → IsToken (keyword text).token → (item : List Lexeme → Read A) → Sound s tree Any item → Twin s item
      → Twin (maybe (spelled_clause {text = text} s)) (optional_at text item)
  unfolding optional_at
  optional_twin text real item sound twin =
      let c = clause_twin text real item sound twin in
      record {
        appends = maybe_appends (spelled_clause s) c.appends;
        some = begun_by None [] tt (λ behind. refl);
        stops = either_stops (begins (is_keyword text)) _ _ (stops_inside Some (λ f behind. refl) c.stops) (never_stops _ (λ ts. (_, refl)));
      }
