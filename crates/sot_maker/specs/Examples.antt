-- Worked offsets, orders and missions, as statements that the functions of `facts` prove.
use Rattle.std.specs.Prelude.{◌≡◌, ℕ, List, [], ◌∷◌, ◌++◌, codes}
use Rattle.sot_random_words.specs.Words.{word}
use Rattle.sot_maker.specs.Declarations.{mission_stream}
use Rattle.sot_maker.specs.Offsets.{offsets_of}
use Rattle.sot_maker.specs.NameOrder.{by_name}
use Rattle.sot_maker.specs.declared.member.Member.TheVariants.{Cells, Crew, Start, Sway}
use Rattle.sot_maker.specs.Members.{object_text}
use Rattle.sot_maker.specs.Missions.{mission_text}

-- seed 42 gives the words a15c02b7 and 7b47f409 for the first two modules, and what these stand for
abbrev pub FirstOffsets : Type 0
FirstOffsets =
    (word 42 mission_stream 0 ≡ 0xa15c02b7) × (word 42 mission_stream 1 ≡ 0x7b47f409)
    × (offsets_of 0xa15c02b7 ≡ record { decides = 2; fast = 0; slow = 1 })
    × (offsets_of 0x7b47f409 ≡ record { decides = 0; fast = 2; slow = 1 })

-- words that end with the bits 00 and 10
abbrev pub EvenOffsets : Type 0
EvenOffsets =
    (offsets_of 4 ≡ record { decides = 1; fast = 3; slow = 0 })
    × (offsets_of 6 ≡ record { decides = 3; fast = 1; slow = 0 })

-- one number, two, twelve, and twenty-two: what begins with a digit stands behind it
abbrev pub Orders : Type 0
Orders =
    (by_name 1 ≡ 0 ∷ []) × (by_name 2 ≡ 0 ∷ 1 ∷ [])
    × (by_name 12 ≡ 0 ∷ 1 ∷ 10 ∷ 11 ∷ 2 ∷ 3 ∷ 4 ∷ 5 ∷ 6 ∷ 7 ∷ 8 ∷ 9 ∷ [])
    × (by_name 22 ≡ 0 ∷ 1 ∷ 10 ∷ 11 ∷ 12 ∷ 13 ∷ 14 ∷ 15 ∷ 16 ∷ 17 ∷ 18 ∷ 19 ∷ 2 ∷ 20 ∷ 21 ∷ 3 ∷ 4 ∷
    5 ∷ 6 ∷ 7 ∷ 8 ∷ 9 ∷ [])

-- members of each kind, in the order of names: an object with none, with one, and with commas
-- between three
abbrev pub Objects : Type 0
Objects =
    (object_text Start 42 [] ≡ codes "{}")
    × (object_text Start 42 (1 ∷ []) ≡ codes "{\"pos1\":[0]}")
    × (object_text Start 42 (1 ∷ 10 ∷ 2 ∷ []) ≡ codes "{\"pos1\":[0],\"pos10\":[0],\"pos2\":[0]}")
    × (object_text Cells 42 (1 ∷ 10 ∷ [])
    ≡ codes "{\"nav1\":{\"closed\":[[[-40,-11]],[[-10,10]],[[11,40]]],\"reach\":[[[-10,10]]]},"
    ++ codes "\"nav10\":{\"closed\":[[[-40,-11]],[[-10,10]],[[11,40]]],\"reach\":[[[-10,10]]]}}")
    × (object_text Crew 42 (1 ∷ 10 ∷ [])
    ≡ codes "{\"fast1\":{\"kind\":\"wild\",\"seed\":42,\"stream\":1001},"
    ++ codes "\"fast10\":{\"kind\":\"wild\",\"seed\":42,\"stream\":1010}}")
    × (object_text Sway 7 (1 ∷ 10 ∷ [])
    ≡ codes "{\"pos1\":{\"kind\":\"seed\",\"seed\":7,\"stream\":1},"
    ++ codes "\"pos10\":{\"kind\":\"seed\",\"seed\":7,\"stream\":10}}")

-- the mission of one module for seed 42
abbrev pub one_module : List ℕ
one_module =
    codes "topic cmd0: int[-2..2] = 0;\nplant pos0 {\n  state x: int;\n  input cmd0;\n  "
    ++ (codes "noise w: int[-1..1];\n  next x = (x + cmd0) + w;\n}\n"
    ++ (codes "external fast0 period 4 offset 0 {\n  reads pos0;\n  writes cmd0;\n}\n"
    ++ (codes "node slow0 period 2 offset 1 {\n  reads pos0;\n  writes cmd0;\n  do {\n    "
    ++ (codes "publish cmd0 = if (pos0.x > 10) then -2 else (if (pos0.x < -10) then 2 else "
    ++ (codes "0);\n  }\n}\n"
    ++ (codes "module nav0 {\n  ac fast0;\n  sc slow0;\n  period 4 offset 2;\n  plant pos0;\n  "
    ++ (codes "safe [-40..40];\n  safer [-10..10];\n}\n"
    ++ (codes "%certificate\n{\"format\":1,\"modules\":{\"nav0\":{\"closed\":[[[-40,-11]],"
    ++ (codes "[[-10,10]],[[11,40]]],\"reach\":[[[-10,10]]]}}}\n"
    ++ (codes "%flight\n{\"crew\":{\"fast0\":{\"kind\":\"wild\",\"seed\":42,\"stream\":1000}},"
    ++ (codes "\"format\":1,\"horizon\":1000,\"inputs\":[],\"start\":{\"pos0\":[0]},"
    ++ codes "\"sway\":{\"pos0\":{\"kind\":\"seed\",\"seed\":42,\"stream\":0}}}\n")))))))))))

abbrev pub OneModule : Type 0
OneModule = mission_text 1 42 ≡ one_module

-- the missions of two modules for the seeds 42 and 9
abbrev pub two_modules_forty_two : List ℕ
two_modules_forty_two =
    codes "topic cmd0: int[-2..2] = 0;\nplant pos0 {\n  state x: int;\n  input cmd0;\n  "
    ++ (codes "noise w: int[-1..1];\n  next x = (x + cmd0) + w;\n}\n"
    ++ (codes "external fast0 period 4 offset 0 {\n  reads pos0;\n  writes cmd0;\n}\n"
    ++ (codes "node slow0 period 2 offset 1 {\n  reads pos0;\n  writes cmd0;\n  do {\n    "
    ++ (codes "publish cmd0 = if (pos0.x > 10) then -2 else (if (pos0.x < -10) then 2 else "
    ++ (codes "0);\n  }\n}\n"
    ++ (codes "module nav0 {\n  ac fast0;\n  sc slow0;\n  period 4 offset 2;\n  plant pos0;\n  "
    ++ (codes "safe [-40..40];\n  safer [-10..10];\n}\n"
    ++ (codes "topic cmd1: int[-2..2] = 0;\nplant pos1 {\n  state x: int;\n  input cmd1;\n  "
    ++ (codes "noise w: int[-1..1];\n  next x = (x + cmd1) + w;\n}\n"
    ++ (codes "external fast1 period 4 offset 2 {\n  reads pos1;\n  writes cmd1;\n}\n"
    ++ (codes "node slow1 period 2 offset 1 {\n  reads pos1;\n  writes cmd1;\n  do {\n    "
    ++ (codes "publish cmd1 = if (pos1.x > 10) then -2 else (if (pos1.x < -10) then 2 else "
    ++ (codes "0);\n  }\n}\n"
    ++ (codes "module nav1 {\n  ac fast1;\n  sc slow1;\n  period 4 offset 0;\n  plant pos1;\n  "
    ++ (codes "safe [-40..40];\n  safer [-10..10];\n}\n"
    ++ (codes "%certificate\n{\"format\":1,\"modules\":{\"nav0\":{\"closed\":[[[-40,-11]],"
    ++ (codes "[[-10,10]],[[11,40]]],\"reach\":[[[-10,10]]]},\"nav1\":{\"closed\":[[[-40,-11]],"
    ++ (codes "[[-10,10]],[[11,40]]],\"reach\":[[[-10,10]]]}}}\n"
    ++ (codes "%flight\n{\"crew\":{\"fast0\":{\"kind\":\"wild\",\"seed\":42,\"stream\":1000},"
    ++ (codes "\"fast1\":{\"kind\":\"wild\",\"seed\":42,\"stream\":1001}},\"format\":1,"
    ++ (codes "\"horizon\":1000,\"inputs\":[],\"start\":{\"pos0\":[0],\"pos1\":[0]},"
    ++ (codes "\"sway\":{\"pos0\":{\"kind\":\"seed\",\"seed\":42,\"stream\":0},"
    ++ codes "\"pos1\":{\"kind\":\"seed\",\"seed\":42,\"stream\":1}}}\n"))))))))))))))))))))))

abbrev pub two_modules_nine : List ℕ
two_modules_nine =
    codes "topic cmd0: int[-2..2] = 0;\nplant pos0 {\n  state x: int;\n  input cmd0;\n  "
    ++ (codes "noise w: int[-1..1];\n  next x = (x + cmd0) + w;\n}\n"
    ++ (codes "external fast0 period 4 offset 0 {\n  reads pos0;\n  writes cmd0;\n}\n"
    ++ (codes "node slow0 period 2 offset 1 {\n  reads pos0;\n  writes cmd0;\n  do {\n    "
    ++ (codes "publish cmd0 = if (pos0.x > 10) then -2 else (if (pos0.x < -10) then 2 else "
    ++ (codes "0);\n  }\n}\n"
    ++ (codes "module nav0 {\n  ac fast0;\n  sc slow0;\n  period 4 offset 2;\n  plant pos0;\n  "
    ++ (codes "safe [-40..40];\n  safer [-10..10];\n}\n"
    ++ (codes "topic cmd1: int[-2..2] = 0;\nplant pos1 {\n  state x: int;\n  input cmd1;\n  "
    ++ (codes "noise w: int[-1..1];\n  next x = (x + cmd1) + w;\n}\n"
    ++ (codes "external fast1 period 4 offset 1 {\n  reads pos1;\n  writes cmd1;\n}\n"
    ++ (codes "node slow1 period 2 offset 0 {\n  reads pos1;\n  writes cmd1;\n  do {\n    "
    ++ (codes "publish cmd1 = if (pos1.x > 10) then -2 else (if (pos1.x < -10) then 2 else "
    ++ (codes "0);\n  }\n}\n"
    ++ (codes "module nav1 {\n  ac fast1;\n  sc slow1;\n  period 4 offset 3;\n  plant pos1;\n  "
    ++ (codes "safe [-40..40];\n  safer [-10..10];\n}\n"
    ++ (codes "%certificate\n{\"format\":1,\"modules\":{\"nav0\":{\"closed\":[[[-40,-11]],"
    ++ (codes "[[-10,10]],[[11,40]]],\"reach\":[[[-10,10]]]},\"nav1\":{\"closed\":[[[-40,-11]],"
    ++ (codes "[[-10,10]],[[11,40]]],\"reach\":[[[-10,10]]]}}}\n"
    ++ (codes "%flight\n{\"crew\":{\"fast0\":{\"kind\":\"wild\",\"seed\":9,\"stream\":1000},"
    ++ (codes "\"fast1\":{\"kind\":\"wild\",\"seed\":9,\"stream\":1001}},\"format\":1,"
    ++ (codes "\"horizon\":1000,\"inputs\":[],\"start\":{\"pos0\":[0],\"pos1\":[0]},"
    ++ (codes "\"sway\":{\"pos0\":{\"kind\":\"seed\",\"seed\":9,\"stream\":0},"
    ++ codes "\"pos1\":{\"kind\":\"seed\",\"seed\":9,\"stream\":1}}}\n"))))))))))))))))))))))

abbrev pub TwoModules : Type 0
TwoModules = (mission_text 2 42 ≡ two_modules_forty_two) × (mission_text 2 9 ≡ two_modules_nine)
