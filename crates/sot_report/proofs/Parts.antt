-- The parts of a mission are parts of its text.
use Rattle.std.proofs.Common.{◌≡◌, ℕ, suc, ◌≤◌, List, ◌++◌, Option, None, Some, Ok, length, ap, arith}
use Rattle.std.specs.List.{flat_map}
use Rattle.std.proofs.lemmas.List.{length-append}
use Rattle.sot_sections.specs.declared.mission.Need.{Need}
use Rattle.sot_sections.specs.declared.mission.Need.TheVariants as needs
use Rattle.sot_sections.specs.declared.mission.SectionFault.{SectionFault}
use Rattle.sot_sections.specs.Sections.{Division, Section, Parts, division, fault_behind, body_of, needed, or_missing, unless, split_of}
use Rattle.sot_text.specs.LineEnds.{lines}
use Rattle.sot_sections.proofs.SectionLaws.{sections_are_the_text}

-- parts that are those of a text have its program
program_of : (front c : List ℕ) (f t : Option (List ℕ)) (parts : Parts)
    → ◌≡◌ {A = Option Parts} (Some (record { program = front; cert = c; flight = f; trace = t })) (Some parts) → front ≡ parts.program
program_of front c f t parts e =
    (let whole : Parts = record { program = front; cert = c; flight = f; trace = t } in let same : whole ≡ parts = cc in ap (λ (p : Parts). p.program) same)

-- what is needed of a text stands behind the program, which is what stands before the first section line
front_of : (need : Need) (front : List ℕ) (c f t : Option (List ℕ)) (parts : Parts) → needed need front c f t ≡ Some parts → front ≡ parts.program
front_of needs.Check front None f t parts e = absurd cc
front_of needs.Check front (Some c) f t parts e = program_of front c None None parts e
front_of needs.Fly front None f t parts e = absurd cc
front_of needs.Fly front (Some c) None t parts e = absurd cc
front_of needs.Fly front (Some c) (Some f) t parts e = program_of front c (Some f) None parts e
front_of needs.Replay front None f t parts e = absurd cc
front_of needs.Replay front (Some c) None t parts e = absurd cc
front_of needs.Replay front (Some c) (Some f) None parts e = absurd cc
front_of needs.Replay front (Some c) (Some f) (Some t) parts e = program_of front c (Some f) (Some t) parts e

found_of : (fault : Option SectionFault) (n : ℕ) (found : Option Parts) (parts : Parts) → unless fault (or_missing n found) ≡ Ok parts → found ≡ Some parts
found_of (Some x) n found parts e = absurd cc
found_of None n None parts e = absurd cc
found_of None n (Some x) parts e = (let same : x ≡ parts = cc in ap (λ (p : Parts). Some p) same)

pub program_within : (need : Need) (bytes : List ℕ) (parts : Parts) → split_of bytes need ≡ Ok parts → length parts.program ≤ length bytes
program_within need bytes parts split =
    let d : Division = division 1 (lines bytes) in
    let sections : List Section = d.sections in
    let found = found_of (fault_behind 0 sections) (suc (length (lines bytes)))
    (needed need d.front (body_of 1 sections) (body_of 2 sections) (body_of 3 sections)) parts split in
    let is = ap length (front_of need d.front (body_of 1 sections) (body_of 2 sections) (body_of 3 sections) parts found) in
    let whole = ap length (sections_are_the_text bytes) in
    omega (arith, is, whole, length-append d.front (flat_map (λ (s : Section). s.mark ++ s.body) sections))
