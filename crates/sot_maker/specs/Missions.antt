-- The mission that two numbers stand for: how many modules it has, and a seed.
use Rattle.std.specs.Prelude.{ℕ, List, ◌++◌, codes}
use Rattle.sot_maker.specs.declared.member.Member.TheVariants.{Cells, Crew, Start, Sway}
use Rattle.sot_maker.specs.Declarations.{program_text}
use Rattle.sot_maker.specs.NameOrder.{by_name}
use Rattle.sot_maker.specs.Members.{object_text}

-- the certificate of the modules of these numbers: the cells of each
unfoldable pub certificate_text : ℕ → List ℕ → List ℕ
certificate_text seed order =
    codes "{\"format\":1,\"modules\":" ++ (object_text Cells seed order ++ codes "}")

-- their flight: 1000 ticks without inputs
unfoldable pub flight_text : ℕ → List ℕ → List ℕ
flight_text seed order =
    codes "{\"crew\":" ++ (object_text Crew seed order
    ++ (codes ",\"format\":1,\"horizon\":1000,\"inputs\":[],\"start\":"
    ++ (object_text Start seed order
    ++ (codes ",\"sway\":" ++ (object_text Sway seed order ++ codes "}")))))

-- the mission of n modules: the program, and a section each for certificate and flight, with keys
-- in byte order
unfoldable pub mission_text : ℕ → ℕ → List ℕ
mission_text n seed =
    program_text n seed ++ (codes "%certificate\n"
    ++ (certificate_text seed (by_name n)
    ++ (codes "\n%flight\n" ++ (flight_text seed (by_name n) ++ codes "\n"))))
