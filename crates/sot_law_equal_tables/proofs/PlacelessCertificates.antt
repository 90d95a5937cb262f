-- A certificate's text says the same of tables that are alike: it is read by modules, by widths of plants and by periods.
use Rattle.std.proofs.Common.{◌≡◌, ℕ, zero, suc, Bool, true, false, ◌&&◌, List, [], ◌∷◌, map, length, codes, Ok, refl, sym, ap, ◌∙◌, nat_lt}
use Rattle.std.specs.List.{list_all}
use Rattle.serde_json.specs.Data.{Data, Members}
use Rattle.serde_json.specs.Find.{as_object}
use Rattle.sot_lang.specs.declared.tables.PlantInfo.{PlantInfo}
use Rattle.sot_lang.specs.declared.tables.NodeInfo.{NodeInfo}
use Rattle.sot_lang.specs.declared.tables.ModuleInfo.{ModuleInfo}
use Rattle.sot_lang.specs.Tables.{Tables}
use Rattle.sot_lang.specs.OwnerNames.{width_of}
use Rattle.sot_json.specs.declared.fault.JsonKind.TheVariants.{NotJson, WrongShape, OutsideRange, Unknown}
use Rattle.sot_json.specs.Says.{◌>>=◌, or, unless}
use Rattle.sot_json.specs.Json.{json_of, count, at, may, all_among}
use Rattle.sot_cert.specs.CertFormat.{entry, entries, names, modules, is_below_periods, jitter, has_jitter, jitter_in, keys, cert}
use Rattle.sot_typing.specs.Resolved.{PlantTable, NodeTable}
use Rattle.sot_law_equal_tables.specs.Places.{CertificatesAlikeButForPlaces}
use Rattle.sot_law_equal_tables.specs.UnplacedTables.{AreAlike}
use Rattle.sot_law_equal_tables.proofs.PlacelessSeen.{bare_plant, bare_node, modules_same, plants_same, nodes_same}

-- how many state variables a plant has
abbrev width_seen : List PlantTable → ℕ → ℕ
width_seen [] k = 0
width_seen (plant ∷ rest) zero = length plant.states
width_seen (plant ∷ rest) (suc k) = width_seen rest k

width_is : (plants : List PlantInfo) (k : ℕ) → width_of plants k ≡ width_seen (map bare_plant plants) k
width_is [] k = refl
width_is (plant ∷ rest) zero = refl
width_is (plant ∷ rest) (suc k) = width_is rest k

periods_are : (nodes : List NodeInfo) (j : ℕ) → list_all (λ n. nat_lt j n.period) nodes ≡ list_all (λ (n : NodeTable). nat_lt j n.period) (map bare_node nodes)
periods_are [] j = refl
periods_are (n ∷ nodes) j = ap (λ b. nat_lt j n.period && b) (periods_are nodes j)

-- entries are read by the widths of plants
entries_same : (plants others : List PlantInfo) → ((k : ℕ) → width_of plants k ≡ width_of others k) → (infos : List ModuleInfo) (ms : Members)
    → entries plants infos ms ≡ entries others infos ms
unfolding entries
entries_same plants others widths [] ms = refl
entries_same plants others widths (m ∷ more) ms = λ i. do
  x ← may m.name (entry (widths m.plant i)) ms
  xs ← entries_same plants others widths more ms i
  Ok (x ∷ xs)

module _ (t u : Tables) (same : AreAlike t u) where
  widths_same : (k : ℕ) → width_of t.plants k ≡ width_of u.plants k
  widths_same k = width_is t.plants k ∙ ap (λ (ps : List PlantTable). width_seen ps k) (plants_same t u same) ∙ sym (width_is u.plants k)

  found_same : (ms : Members) → entries t.plants t.modules ms ≡ entries u.plants u.modules ms
  found_same ms = entries_same t.plants u.plants widths_same t.modules ms ∙ ap (λ (infos : List ModuleInfo). entries u.plants infos ms) (modules_same t u same)

  modules_say : (d : Data) → modules t d ≡ modules u d
  unfolding modules
  modules_say d = λ i. do
    ms ← or WrongShape (as_object d)
    found ← found_same ms i
    ok ← unless Unknown (all_among ms (names (modules_same t u same i)))
    Ok found

  below_same : (j : ℕ) → is_below_periods t j ≡ is_below_periods u j
  below_same j =
      let nodes : list_all (λ (n : NodeInfo). nat_lt j n.period) t.nodes ≡ list_all (λ (n : NodeInfo). nat_lt j n.period) u.nodes =
      periods_are t.nodes j ∙ ap (λ (ns : List NodeTable). list_all (λ (n : NodeTable). nat_lt j n.period) ns) (nodes_same t u same)
      ∙ sym (periods_are u.nodes j)
      in
      λ i. nodes i && list_all (λ (m : ModuleInfo). nat_lt j m.period) (modules_same t u same i)

  jitter_says : (d : Data) → jitter t d ≡ jitter u d
  unfolding jitter
  jitter_says d = λ i. do
    j ← count 999 d
    ok ← unless OutsideRange (below_same j i)
    Ok j

  jitter_in_says : (jittered : Bool) (ms : Members) → jitter_in jittered t ms ≡ jitter_in jittered u ms
  unfolding jitter_in
  jitter_in_says true ms = λ i. at (codes "jitter") (λ d. jitter_says d i) ms
  jitter_in_says false ms = refl

  cert_says : (d : Data) → cert t d ≡ cert u d
  unfolding cert
  cert_says d = λ i. do
    ms ← or WrongShape (as_object d)
    jittered ← at (codes "format") has_jitter ms
    j ← jitter_in_says jittered ms i
    found ← at (codes "modules") (λ d. modules_say d i) ms
    ok ← unless Unknown (all_among ms (keys jittered))
    Ok (record { jitter = j; modules = found })

pub certificates_alike : CertificatesAlikeButForPlaces
certificates_alike t u bytes same = λ i. or NotJson (json_of bytes) >>= (λ d. cert_says t u same d i)
