-- The program: five declarations for each module, in canonical text. Module i has names that end
-- with i.
use Rattle.std.specs.Prelude.{ℕ, zero, suc, List, [], ◌++◌, codes}
use Rattle.std.specs.Fmt.{decimal}
use Rattle.sot_random_words.specs.Words.{word}
use Rattle.sot_maker.specs.declared.offsets.Offsets.{Offsets}
use Rattle.sot_maker.specs.Offsets.{offsets_of}

-- the command that both nodes write
unfoldable pub topic_text : ℕ → List ℕ
topic_text i = codes "topic cmd" ++ (decimal i ++ codes ": int[-2..2] = 0;\n")

-- a vehicle on a line, which moves by the command and by a disturbance
unfoldable pub plant_text : ℕ → List ℕ
plant_text i =
    codes "plant pos" ++ (decimal i ++
    (codes " {\n  state x: int;\n  input cmd"
    ++ (decimal i ++ (codes ";\n  noise w: int[-1..1];\n  next x = (x + cmd"
    ++ (decimal i ++ codes ") + w;\n}\n")))))

-- the advanced node, whose code is not known
unfoldable pub fast_text : ℕ → ℕ → List ℕ
fast_text i offset =
    codes "external fast" ++ (decimal i
    ++ (codes " period 4 offset " ++ (decimal offset
    ++ (codes " {\n  reads pos" ++ (decimal i ++ (codes ";\n  writes cmd"
    ++ (decimal i ++ codes ";\n}\n")))))))

-- the code of the safe node, which drives back where the vehicle is more than 10 from 0
unfoldable pub code_text : ℕ → List ℕ
code_text i =
    codes "    publish cmd" ++ (decimal i
    ++ (codes " = if (pos" ++ (decimal i ++ (codes ".x > 10) then -2 else (if (pos"
    ++ (decimal i ++ codes ".x < -10) then 2 else 0);\n")))))

-- what stands before it
unfoldable pub slow_front : ℕ → ℕ → List ℕ
slow_front i offset =
    codes "node slow" ++ (decimal i ++
    (codes " period 2 offset " ++ (decimal offset
    ++ (codes " {\n  reads pos" ++ (decimal i ++ (codes ";\n  writes cmd"
    ++ (decimal i ++ codes ";\n  do {\n")))))))

-- the safe node
unfoldable pub slow_text : ℕ → ℕ → List ℕ
slow_text i offset = slow_front i offset ++ (code_text i ++ codes "  }\n}\n")

-- the module of the two
unfoldable pub module_text : ℕ → ℕ → List ℕ
module_text i offset =
    codes "module nav" ++ (decimal i ++
    (codes " {\n  ac fast" ++ (decimal i
    ++ (codes ";\n  sc slow" ++ (decimal i ++ (codes ";\n  period 4 offset "
    ++ (decimal offset ++ (codes ";\n  plant pos"
    ++ (decimal i ++ codes ";\n  safe [-40..40];\n  safer [-10..10];\n}\n")))))))))

-- the five declarations of a module with these offsets
unfoldable pub declarations_text : ℕ → Offsets → List ℕ
declarations_text i o =
    topic_text i ++ (plant_text i ++ (fast_text i o.fast
    ++ (slow_text i o.slow ++ module_text i o.decides)))

-- the stream whose words are for missions, one word for each module
abbrev pub mission_stream : ℕ
mission_stream = 54

-- the declarations of so many modules, from module i on, each with the offsets that its word stands
-- for
unfoldable pub declarations_from : ℕ → ℕ → ℕ → List ℕ
declarations_from seed i zero = []
declarations_from seed i (suc n) =
    declarations_text i (offsets_of (word seed mission_stream i))
    ++ declarations_from seed (suc i) n

-- the program of n modules
unfoldable pub program_text : ℕ → ℕ → List ℕ
program_text n seed = declarations_from seed 0 n
