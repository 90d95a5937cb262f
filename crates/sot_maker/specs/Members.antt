-- The members of the objects in the two lines of JSON, each with its key, in compact text.
use Rattle.std.specs.Prelude.{ℕ, ◌+◌, List, [], ◌∷◌, ◌++◌, codes}
use Rattle.std.specs.Fmt.{decimal}
use Rattle.sot_maker.specs.declared.member.Member.{Member}
use Rattle.sot_maker.specs.declared.member.Member.TheVariants.{Cells, Crew, Start, Sway}

-- of a module, its cells: three closed ones that cover the safe region, and one reach cell, which
-- is the safer region
unfoldable pub cells_text : ℕ → List ℕ
cells_text i =
    codes "\"nav" ++ (decimal i ++ codes
    "\":{\"closed\":[[[-40,-11]],[[-10,10]],[[11,40]]],\"reach\":[[[-10,10]]]}")

-- of an advanced node, who drafts for it: the words of the seed, on stream 1000 + i
unfoldable pub crew_text : ℕ → ℕ → List ℕ
crew_text seed i =
    codes "\"fast" ++ (decimal i ++ (codes "\":{\"kind\":\"wild\",\"seed\":"
    ++ (decimal seed ++ (codes ",\"stream\":" ++ (decimal (1000 + i) ++ codes "}")))))

-- of a plant, where it starts: at 0
unfoldable pub start_text : ℕ → List ℕ
start_text i = codes "\"pos" ++ (decimal i ++ codes "\":[0]")

-- of a plant, its disturbances: the words of the seed, on stream i
unfoldable pub sway_text : ℕ → ℕ → List ℕ
sway_text seed i =
    codes "\"pos" ++ (decimal i ++ (codes "\":{\"kind\":\"seed\",\"seed\":"
    ++ (decimal seed ++ (codes ",\"stream\":" ++ (decimal i ++ codes "}")))))

unfoldable pub member_text : Member → ℕ → ℕ → List ℕ
member_text Cells seed i = cells_text i
member_text Crew seed i = crew_text seed i
member_text Start seed i = start_text i
member_text Sway seed i = sway_text seed i

-- a comma before each further member
abbrev pub further : Member → ℕ → List ℕ → List ℕ
further member seed [] = []
further member seed (i ∷ is) = codes "," ++ (member_text member seed i ++ further member seed is)

-- members with a comma between two
abbrev pub listed : Member → ℕ → List ℕ → List ℕ
listed member seed [] = []
listed member seed (i ∷ is) = member_text member seed i ++ further member seed is

-- an object with such a member for each of these numbers, in this order
unfoldable pub object_text : Member → ℕ → List ℕ → List ℕ
object_text member seed order = codes "{" ++ (listed member seed order ++ codes "}")
