-- What is published slot by slot, and counted topic by topic.
use Rattle.std.proofs.Common.{◌≡◌, ◌≢◌, ℕ, suc, ◌+◌, ◌≤◌, ◌<◌, Bool, true, false, inl, inr, ℤ, Option, List, length, map, drop, refl, sym, ap, ap₂, ◌∙◌, subst}
use Rattle.std.proofs.Common.{arith}
use Rattle.std.specs.Prelude.{slice_index_or, slice_set, ◌==◌, ◌&&◌, ◌||◌, not, if◌then◌else◌}
use Rattle.std.proofs.lemmas.Bool.{cases_Bool, eqb-true, eqb-false}
use Rattle.std.proofs.lemmas.List.{get_or-set_same, get_or-set_other, length-set}
use Rattle.sot_lists.specs.Places.{At}
use Rattle.std.proofs.lemmas.Option.{get_or_from_slice_get}
use Rattle.sot_lists.proofs.Places.{drop_at, at_below, at_map}
use Rattle.sot_lang.specs.declared.tables.ScalarInfo.{ScalarInfo}
use Rattle.sot_lang.specs.Tables.{Tables}
use Rattle.sot_board.specs.Versions.{topic_of, is_published, publishes_on}

pub publishes_step :
    (p : Tables) (t : ℕ) (ws : List ℕ) (ds : List (Option ℤ)) (i k : ℕ) (d : Option ℤ) → At ws i k → At ds i d
    → publishes_on p t (drop i ws) (drop i ds) ≡ ((topic_of p k == t && is_published p k d) || publishes_on p t (drop (i + 1) ws) (drop (i + 1) ds))
publishes_step p t ws ds i k d at_w at_d = ap₂ (λ a b. publishes_on p t a b) (drop_at ws i k at_w) (drop_at ds i d at_d)

-- a count with one more where a fact holds
abbrev pub more_if : Bool → ℕ → ℕ
more_if b v = if b then suc v else v

-- a topic is counted at the last place that publishes on it
pub count_step :
    (p : Tables) (k t : ℕ) (published rest_t rest_k : Bool) (versions : List ℕ) → t < length versions → (k ≡ t → rest_k ≡ rest_t)
    → more_if rest_k (slice_index_or (if published && not rest_t then slice_set versions t (suc (slice_index_or versions t 0)) else versions) k 0)
    ≡ more_if ((t == k && published) || rest_k) (slice_index_or versions k 0)
count_step p k t published rest_t rest_k versions lt same = elim (cases_Bool (t == k)) [
  | inl here ↦
      let is : t ≡ k = eqb-true t k here in
      subst (λ b. more_if rest_k (slice_index_or (if published && not rest_t then slice_set versions t (suc (slice_index_or versions t 0)) else versions) k 0)
      ≡ more_if ((b && published) || rest_k) (slice_index_or versions k 0)) (sym here)
      (at_topic is published rest_t rest_k (same (sym is)))
  | inr other ↦
      subst (λ b. more_if rest_k (slice_index_or (if published && not rest_t then slice_set versions t (suc (slice_index_or versions t 0)) else versions) k 0)
      ≡ more_if ((b && published) || rest_k) (slice_index_or versions k 0)) (sym other)
      (ap (more_if rest_k) (elsewhere (published && not rest_t) (λ e. eqb-false t k other (sym e))))
]
  where
    elsewhere : (b : Bool) → k ≢ t → slice_index_or (if b then slice_set versions t (suc (slice_index_or versions t 0)) else versions) k 0
        ≡ slice_index_or versions k 0
    elsewhere true ne = get_or-set_other versions t k (suc (slice_index_or versions t 0)) 0 ne
    elsewhere false ne = refl

    at_topic : t ≡ k → (pub_ rt rk : Bool) → rk ≡ rt → more_if rk
        (slice_index_or (if pub_ && not rt then slice_set versions t (suc (slice_index_or versions t 0)) else versions) k 0)
        ≡ more_if ((true && pub_) || rk) (slice_index_or versions k 0)
    at_topic is false rt rk e = refl
    at_topic is true true true e = refl
    at_topic is true false false e =
        ap (λ i. slice_index_or (slice_set versions t (suc (slice_index_or versions t 0))) i 0) (sym is)
        ∙ get_or-set_same versions t (suc (slice_index_or versions t 0)) 0 lt ∙ ap (λ i. suc (slice_index_or versions i 0)) is
    at_topic is true true false e = cc
    at_topic is true false true e = cc

-- a count rises by one at most
pub count_room : (b : Bool) (versions : List ℕ) (t k : ℕ) → t < length versions
    → slice_index_or (if b then slice_set versions t (suc (slice_index_or versions t 0)) else versions) k 0 ≤ slice_index_or versions k 0 + 1
count_room false versions t k lt = omega arith
count_room true versions t k lt = elim (cases_Bool (k == t)) [
  | inl here ↦ (let is : k ≡ t = eqb-true k t here in
      subst (λ i. slice_index_or (slice_set versions t (suc (slice_index_or versions t 0))) i 0 ≤ slice_index_or versions i 0 + 1) (sym is)
      (omega (arith, get_or-set_same versions t (suc (slice_index_or versions t 0)) 0 lt)))
  | inr other ↦ omega (arith, get_or-set_other versions t k (suc (slice_index_or versions t 0)) 0 (eqb-false k t other))
]

pub count_size : (b : Bool) (versions : List ℕ) (t : ℕ) → length (if b then slice_set versions t (suc (slice_index_or versions t 0)) else versions)
    ≡ length versions
count_size true versions t = length-set versions t (suc (slice_index_or versions t 0))
count_size false versions t = refl

-- the topic of a scalar has a count
pub topic_inside : (p : Tables) (k count : ℕ) → k < length p.scalars → ((i : ℕ) (info : ScalarInfo) → At p.scalars i info → info.topic < count)
    → topic_of p k < count
topic_inside p k count lt each =
    let x = at_below p.scalars k lt in
    subst (λ t. t < count) (sym (get_or_from_slice_get (map (λ i. i.topic) p.scalars) k x.0.topic 0 (at_map (λ i. i.topic) p.scalars k x.0 x.1)))
    (each k x.0 x.1)
