-- Lines that a robot may spell wrong and go on: they hand on what nobody has verified, drafts of
-- external nodes and values of the environment, or ask for trust in the models.
use Rattle.std.specs.Prelude.{ℕ, List, [], ◌++◌, Option, None, Some, codes}
use Rattle.std.specs.Option.{option_map_or}
use Rattle.sot_lang.specs.Tables.{Tables}
use Rattle.sot_lang.specs.Names.{topic_name, node_name}
use Rattle.sot_trace_lines.specs.Pieces.{behind}
use Rattle.sot_trace_lines.specs.Readers.{word_at, node_named, topic_named}
use Rattle.sot_guard_protocol.specs.declared.aside.Aside.{Aside}
use Rattle.sot_guard_protocol.specs.declared.aside.Aside.TheVariants.{Draft, Input, Resume}

-- which of them a line is, by its first bytes, whatever comes behind them
abbrev pub aside_of : List ℕ → Option Aside
aside_of line =
    option_map_or (λ rest. Some Draft) (behind (codes "draft") line)
    (option_map_or (λ rest. Some Input) (behind (codes "input") line)
    (option_map_or (λ rest. Some Resume) (behind (codes "resume") line) None))

-- ` NODE`, where a node of that name is declared
abbrev pub node_text : Tables → List ℕ → List ℕ
node_text p word = option_map_or (λ n. codes " " ++ node_name p n) (node_named p word) []

-- ` TOPIC`, where a topic of that name is declared
abbrev pub topic_text : Tables → List ℕ → List ℕ
topic_text p word = option_map_or (λ k. codes " " ++ topic_name p k) (topic_named p word) []

-- whom such a line is about: the node of a draft, the topic of an input. Its name is the whole word
-- behind the first word and a blank, whatever comes behind that; where nothing of that name is
-- declared, nothing is told
abbrev pub about_text : Tables → Aside → List ℕ → List ℕ
about_text p Draft line =
    option_map_or (λ rest. node_text p (word_at rest).0) (behind (codes "draft ") line) []
about_text p Input line =
    option_map_or (λ rest. topic_text p (word_at rest).0) (behind (codes "input ") line) []
about_text p Resume line = []
