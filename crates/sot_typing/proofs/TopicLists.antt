-- Lists of topics by name, and the scalars that they stand for.
use Rattle.std.proofs.Common.{◌≡◌, ◌∙◌, ℕ, ◌+◌, ◌<◌, ◌≤◌, List, length, take, sum_by, flat_map, sym, ap, subst, Some, arith}
use Rattle.sot_lists.specs.Places.{At, Has}
use Rattle.sot_text.specs.declared.token.Span.{Span}
use Rattle.sot_syntax_tree.specs.declared.tree.Ident.{Ident}
use Rattle.sot_lang.specs.declared.tables.ScalarInfo.{ScalarInfo}
use Rattle.sot_lang.specs.Tables.{Tables}
use Rattle.sot_syntax_tree.specs.Trees.{Topic, Program, a_topic}
use Rattle.sot_rules.specs.First.{IsFaultless}
use Rattle.sot_rules.specs.Names.{meaning}
use Rattle.sot_rules.specs.Lists.{IsRepeated, IsPassedBy}
use Rattle.sot_rules.specs.Tests.{topic_size}
use Rattle.sot_typing.specs.Resolved.{topics, topic_place, scalar_count, first_scalar, scalars_meant}
use Rattle.sot_typing.proofs.Lists.{at_same}
use Rattle.sot_typing.proofs.Joined.{of_joined, length_joined, has_joined, of_has_joined, at_counted}
use Rattle.sot_typing.proofs.Once.{names_once, not_passed}
use Rattle.sot_typing.proofs.Meanings.{topic_at, meaning_name, scalars_are, of_scalars, length_scalars}
use Rattle.sot_typing.proofs.Seen.{AreSeen}
use Rattle.sot_typing.proofs.Topics.{same_topic}
use Rattle.sot_typing.proofs.ScalarFacts.{at_scalar, scalar_below}

-- a scalar that a list of names stands for, with its name and its topic
pub record IsListed (p : Program) (names : List Ident) (k : ℕ) : Type 0 where
  pub name : Ident
  pub topic : Topic
  pub nth : ℕ
  pub listed : Has names name
  pub means : meaning p name ≡ Some (a_topic topic)
  pub below : nth < scalar_count topic
  pub place : k ≡ first_scalar p (topic_place p name) + nth

pub of_listed : (p : Program) (names : List Ident) (k : ℕ) → Has (flat_map (scalars_meant p) names) k → IsListed p names k
of_listed p names k h =
    let r = of_has_joined (scalars_meant p) names k h in
    let m = of_scalars p r.0 r.2.0 k r.2.1 in
    record { name = r.0; topic = m.0; nth = r.2.0; listed = r.1; means = m.1; below = m.2; place = m.3 }

pub listed_at : (p : Program) (names : List Ident) (i : Ident) (t : Topic) (m : ℕ) → Has names i → meaning p i ≡ Some (a_topic t) → m < scalar_count t
    → Has (flat_map (scalars_meant p) names) (first_scalar p (topic_place p i) + m)
listed_at p names i t m h e l =
    has_joined (scalars_meant p) names i _ h (
      m,
      subst (λ (x : List ℕ). At x m (first_scalar p (topic_place p i) + m)) (sym (scalars_are p i t e))
          (at_counted (first_scalar p (topic_place p i)) (scalar_count t) m l),
    )

-- how many they are
pub length_listed : (p : Program) (names : List Ident) → length (flat_map (scalars_meant p) names) ≡ sum_by (λ i. topic_size (meaning p i)) names
length_listed p names = length_joined (scalars_meant p) (λ i. topic_size (meaning p i)) names (λ i z a. length_scalars p z)

pub few_listed : (p : Program) (limit : ℕ) (names : List Ident) → ((at : Span) → IsPassedBy (λ i. topic_size (meaning p i)) limit names at → ⊥)
    → length (flat_map (scalars_meant p) names) ≤ limit
few_listed p limit names h =
    let a = not_passed (λ i. topic_size (meaning p i)) limit names h in
    let b = length_listed p names in
    omega arith

-- two names for one scalar are one
pub one_name : (p : Program) (names others : List Ident) (k : ℕ) (x : IsListed p names k) (y : IsListed p others k)
    → (topic_place p x.name ≡ topic_place p y.name) × (x.name.name ≡ y.name.name)
one_name p names others k x y =
    let a = topic_at p x.name x.topic x.means in
    let b = topic_at p y.name y.topic y.means in
    let e = same_topic p (topic_place p x.name) (topic_place p y.name) x.nth y.nth x.topic y.topic a b x.below y.below (sym x.place ∙ y.place) in
    let t : x.topic ≡ y.topic = at_same (topics p) (topic_place p y.name) x.topic y.topic (subst (λ n. At (topics p) n x.topic) e a) b in
    (e, meaning_name p x.name (a_topic x.topic) x.means ∙ ap (λ (t : Topic). t.name.name) t ∙ sym (meaning_name p y.name (a_topic y.topic) y.means))

-- each stands once
pub listed_once : (p : Program) (names : List Ident) → ((at : Span) → IsRepeated names at → ⊥) → (i j k : ℕ) → At (flat_map (scalars_meant p) names) i k
    → At (flat_map (scalars_meant p) names) j k → i ≡ j
listed_once p names none i j k a b =
    let x = of_joined (scalars_meant p) (λ i. topic_size (meaning p i)) names i k (λ i z a. length_scalars p z) a in
    let y = of_joined (scalars_meant p) (λ i. topic_size (meaning p i)) names j k (λ i z a. length_scalars p z) b in
    let m = of_scalars p x.1 x.2 k x.4 in
    let n = of_scalars p y.1 y.2 k y.4 in
    let u : IsListed p names k = record { name = x.1; topic = m.0; nth = x.2; listed = (x.0, x.3); means = m.1; below = m.2; place = m.3 } in
    let v : IsListed p names k = record { name = y.1; topic = n.0; nth = y.2; listed = (y.0, y.3); means = n.1; below = n.2; place = n.3 } in
    let s = one_name p names names k u v in
    let e : x.0 ≡ y.0 = names_once names none x.0 y.0 x.1 y.1 x.3 y.3 s.1 in
    let f : first_scalar p (topic_place p x.1) ≡ first_scalar p (topic_place p y.1) = ap (first_scalar p) s.0 in
    let g : x.2 ≡ y.2 = (let q = m.3 in let r = n.3 in omega arith) in
    x.5 ∙ ap (λ w. sum_by (λ i. topic_size (meaning p i)) (take w names) + x.2) e ∙ ap (λ w. sum_by (λ i. topic_size (meaning p i)) (take y.0 names) + w) g
    ∙ sym y.5

module _ (p : Program) (t : Tables) (s : AreSeen p t) (f : IsFaultless p) (names : List Ident) where
  -- each is a scalar of the tables
  pub listed_below : (k : ℕ) → Has (flat_map (scalars_meant p) names) k → k < length t.scalars
  listed_below k h =
      let x = of_listed p names k h in
      subst (λ n. n < length t.scalars) (sym x.place) (scalar_below p t s f (topic_place p x.name) x.nth x.topic (topic_at p x.name x.topic x.means) x.below)

  -- they are whole topics
  pub listed_whole : (j k : ℕ) (a b : ScalarInfo) → Has (flat_map (scalars_meant p) names) j → At t.scalars j a → At t.scalars k b → a.topic ≡ b.topic
      → Has (flat_map (scalars_meant p) names) k
  listed_whole j k a b h u v e =
      let x = of_listed p names j h in
      let y = at_scalar p t s f j a u in
      let z = at_scalar p t s f k b v in
      let w = topic_at p x.name x.topic x.means in
      let m : topic_place p x.name ≡ y.topic = same_topic p (topic_place p x.name) y.topic x.nth y.nth x.topic y.tree w y.stands x.below y.below
      (sym x.place ∙ y.place) in
      let n : topic_place p x.name ≡ z.topic = m ∙ sym (ap (λ (i : ScalarInfo). i.topic) y.is) ∙ e ∙ ap (λ (i : ScalarInfo). i.topic) z.is in
      let q : x.topic ≡ z.tree = at_same (topics p) z.topic x.topic z.tree (subst (λ n. At (topics p) n x.topic) n w) z.stands in
      let l : z.nth < scalar_count x.topic = subst (λ (t : Topic). z.nth < scalar_count t) (sym q) z.below in
      let r : first_scalar p (topic_place p x.name) + z.nth ≡ k = ap (λ n. first_scalar p n + z.nth) n ∙ sym z.place in
      subst (λ n. Has (flat_map (scalars_meant p) names) n) r (listed_at p names x.name x.topic z.nth x.listed x.means l)
