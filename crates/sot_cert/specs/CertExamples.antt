-- Worked certificates of the running example, as statements that the functions of `facts` prove:
-- what a text says, by hand.
use Rattle.std.specs.Prelude.{◌≡◌, ℕ, zero, suc, pos, negsuc, List, [], ◌∷◌, ◌++◌, codes, Option}
use Rattle.std.specs.Prelude.{Some, None, Ok, Err}
use Rattle.std.specs.Global.{Global}
use Rattle.serde_json.specs.Data.{null, array, Items, no_items, item}
use Rattle.sot_lang.specs.declared.cert.Cells.{Cells}
use Rattle.sot_lang.specs.Line.{side, line}
use Rattle.sot_json.specs.declared.fault.JsonKind.{JsonKind}
use Rattle.sot_json.specs.declared.fault.JsonKind.TheVariants.{NotJson, WrongShape, NotWhole}
use Rattle.sot_json.specs.declared.fault.JsonKind.TheVariants.{OutsideRange, Missing, Unknown}
use Rattle.sot_json.specs.declared.fault.JsonKind.TheVariants.{Width, Empty, TooMany}
use Rattle.sot_cert.specs.CertFormat.{cert_of, region_of, cells}

module _ (g : Global) where
  -- the text says this certificate of the running example
  abbrev pub Reads : List ℕ → ℕ → List (Option Cells) → Type 0
  Reads text jitter modules =
      cert_of (line g) text ≡ Ok (record { jitter = jitter; modules = modules })

  -- the first fault of the text stands at that path
  abbrev pub FaultsAt : List ℕ → List ℕ → JsonKind → Type 0
  FaultsAt text path kind = cert_of (line g) text ≡ Err (record { path = path; kind = kind })

  -- one closed cell from -40 to 40, and one reach cell from -10 to 10
  abbrev pub two_cells : Cells
  two_cells =
      record {
        closed = region_of 1 ((side (negsuc 39) (pos 40) ∷ []) ∷ []);
        reach = region_of 1 ((side (negsuc 9) (pos 10) ∷ []) ∷ []);
      }

  -- a closed cell from the least number to the greatest, one of a single number, and no reach cell
  abbrev pub wide_cells : Cells
  wide_cells =
      record {
        closed = region_of 1 ((side (negsuc 999999999999) (pos 1000000000000) ∷ []) ∷
            (side (pos 7) (pos 7) ∷ []) ∷ []);
        reach = region_of 1 [];
      }

  -- format 1 has jitter 0, format 2 a jitter of its own; keys come in any order; a module may have
  -- no entry, and lists no cell
  abbrev pub Certificates : Type 0
  Certificates =
      Reads
      (codes
      "{\"format\":1,\"modules\":{\"nav\":{\"closed\":[[[-40,40]]],\"reach\":[[[-10,10]]]}}}") 0
      (Some two_cells ∷ [])
      × Reads
      (codes
      "{\"modules\":{\"nav\":{\"reach\":[[[-10,10]]],\"closed\":[[[-40,40]]]}},\"jitter\":1,\"format\":2}") 1 (Some two_cells ∷ [])
      × Reads
      (codes
      "{\"format\":2,\"jitter\":0,\"modules\":{\"nav\":{\"closed\":[[[-1000000000000,1000000000000]],[[7,7]]],\"reach\":[]}}}") 0 (Some wide_cells ∷ [])
      × Reads (codes "{\"format\":1,\"modules\":{}}") 0 (None ∷ [])
      × Reads (codes "{\"format\":1,\"modules\":{\"nav\":{\"closed\":[],\"reach\":[]}}}") 0
      (Some (record { closed = region_of 1 []; reach = region_of 1 [] }) ∷ [])

  -- of a repeated key the last value stays
  abbrev pub LastOfRepeated : Type 0
  LastOfRepeated =
      Reads (codes "{\"format\":3,\"modules\":1,\"modules\":{},\"format\":1}") 0 (None ∷ [])

  -- no text, a text that is cut, one that goes on, a lone surrogate, and a number past every float
  -- are no JSON
  abbrev pub NoJson : Type 0
  NoJson =
      FaultsAt [] [] NotJson × FaultsAt (codes "{\"format\":1,\"modules") [] NotJson
      × FaultsAt (codes "{} {}") [] NotJson
      × FaultsAt (codes "{\"format\":\"\\ud800\"}") [] NotJson
      × FaultsAt (codes "{\"format\":1e400}") [] NotJson

  -- numbers with a point or an exponent, `-0`, and those past 64 bits are no whole ones; other
  -- values are no numbers
  abbrev pub Numbers : Type 0
  Numbers =
      FaultsAt (codes "{\"format\":1.0,\"modules\":{}}") (codes "/format") NotWhole
      × FaultsAt (codes "{\"format\":1e0}") (codes "/format") NotWhole
      × FaultsAt (codes "{\"format\":-0}") (codes "/format") NotWhole
      × FaultsAt (codes "{\"format\":18446744073709551616}") (codes "/format") NotWhole
      × FaultsAt (codes "{\"format\":18446744073709551615}") (codes "/format") OutsideRange
      × FaultsAt (codes "{\"format\":3,\"modules\":{}}") (codes "/format") OutsideRange
      × FaultsAt (codes "{\"format\":0}") (codes "/format") OutsideRange
      × FaultsAt (codes "{\"format\":\"1\"}") (codes "/format") WrongShape
      × FaultsAt (codes "[]") [] WrongShape

  -- listed keys first, in the order of the format, modules in declared order, and unknown keys last
  abbrev pub Keys : Type 0
  Keys =
      FaultsAt (codes "{\"modules\":{}}") (codes "/format") Missing
      × FaultsAt (codes "{\"x\":0}") (codes "/format") Missing
      × FaultsAt (codes "{\"format\":1,\"x\":0}") (codes "/modules") Missing
      × FaultsAt (codes "{\"format\":1,\"modules\":{},\"x\":0}") [] Unknown
      × FaultsAt (codes "{\"format\":1,\"modules\":{\"zap\":{}}}") (codes "/modules") Unknown
      × FaultsAt (codes "{\"format\":1,\"modules\":{\"a\":0,\"nav\":{\"reach\":0}}}")
      (codes "/modules/nav/closed") Missing
      × FaultsAt (codes "{\"format\":1,\"modules\":{\"nav\":{\"a\":0,\"closed\":[]}}}")
      (codes "/modules/nav/reach") Missing
      × FaultsAt (codes "{\"format\":1,\"modules\":{\"nav\":{\"a\":0,\"closed\":[],\"reach\":[]}}}")
      (codes "/modules/nav") Unknown

  -- a jitter is below the periods, which are 4, 2 and 4, and stands in format 2 alone
  abbrev pub Jitters : Type 0
  Jitters =
      FaultsAt (codes "{\"format\":2,\"jitter\":2,\"modules\":0}") (codes "/jitter") OutsideRange
      × FaultsAt (codes "{\"format\":2,\"jitter\":-1}") (codes "/jitter") OutsideRange
      × FaultsAt (codes "{\"format\":2,\"modules\":0}") (codes "/jitter") Missing
      × FaultsAt (codes "{\"format\":2,\"jitter\":1}") (codes "/modules") Missing
      × FaultsAt (codes "{\"format\":1,\"jitter\":1,\"modules\":{}}") [] Unknown

  -- the first fault of closed cells, at this path below the list
  abbrev pub CellFaultsAt : List ℕ → List ℕ → JsonKind → Type 0
  CellFaultsAt text path kind =
      FaultsAt (codes "{\"format\":1,\"modules\":{\"nav\":{\"closed\":" ++ text ++ codes "}}}")
      (codes "/modules/nav/closed" ++ path) kind

  -- a cell has a side a state variable, a side has two numbers, in order and in range
  abbrev pub CellFaults : Type 0
  CellFaults =
      CellFaultsAt (codes "{}") [] WrongShape
      × CellFaultsAt (codes "[[[0,1]],0]") (codes "/1") WrongShape
      × CellFaultsAt (codes "[[0]]") (codes "/0/0") WrongShape
      × CellFaultsAt (codes "[[]]") (codes "/0") Width
      × CellFaultsAt (codes "[[[0,1],[0,1]]]") (codes "/0") Width
      × CellFaultsAt (codes "[[[0]]]") (codes "/0/0") Width
      × CellFaultsAt (codes "[[[1,0]]]") (codes "/0/0") Empty
      × CellFaultsAt (codes "[[[1,null]]]") (codes "/0/0/1") WrongShape
      × CellFaultsAt (codes "[[[-1000000000001,0]]]") (codes "/0/0/0") OutsideRange
      × CellFaultsAt (codes "[[[0,1000000000001]]]") (codes "/0/0/1") OutsideRange

-- a list of so many nulls
abbrev pub nulls : ℕ → Items
nulls zero = no_items
nulls (suc n) = item null (nulls n)

-- 4,096 cells are looked at, from the first; 4,097 are too many
abbrev pub CellLimit : Type 0
CellLimit =
    (cells 1 (array (nulls 4096)) ≡ Err (record { path = codes "/0"; kind = WrongShape }))
    × (cells 1 (array (nulls 4097)) ≡ Err (record { path = []; kind = TooMany }))
