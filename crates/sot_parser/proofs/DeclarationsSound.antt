-- Declarations: what is read is of the grammar.
use Rattle.std.proofs.Common.{ℕ, ◌≤◌, ◌||◌, List, [], ◌∷◌, codes, map, Some, None, arith}
use Rattle.sot_expression.specs.Lexemes.{begins, is_sign, is_keyword}
use Rattle.sot_expression.specs.Readers.{name_at}
use Rattle.sot_parser.specs.Pieces.{spelled_name, name_of, spelled_field, field_of, spelled_const, const_of, spelled_side, side_of, each, maybe, spelled_clause}
use Rattle.sot_parser.specs.Pieces.{clause_or_none}
use Rattle.sot_parser.specs.Declarations.{one_scalar, a_record, spelled_shape, shape_of, one_const, consts, spelled_init, init_of, spelled_outside}
use Rattle.sot_parser.specs.Declarations.{spelled_topic, topic_of, is_given, whole, scaled, spelled_scale, scale_of, spelled_state, state_of, NextForm}
use Rattle.sot_parser.specs.Declarations.{spelled_next, next_of, PlantForm, spelled_plant, plant_of, most, next_levels, plant_levels, spelled_local, local_of}
use Rattle.sot_parser.specs.Declarations.{CodedForm, spelled_coded, coded_of, spelled_external, external_of, spelled_box, box_of, no_box, some_boxes}
use Rattle.sot_parser.specs.Declarations.{spelled_region, region_of, spelled_bound, bound_of, spelled_module, module_of, DeclarationForm, a_topic, a_plant}
use Rattle.sot_parser.specs.Declarations.{a_coded, an_external, a_module, spelled_declaration, declaration_of, declaration_levels}
use Rattle.sot_parser.specs.Statements.{block_levels}
use Rattle.sot_parser.specs.ListReaders.{optional_at}
use Rattle.sot_parser.specs.DeclarationReaders.{side_at, named_scalar_at, const_at, fields_at, one_scalar_at, shape_at, consts_at, one_const_at, init_at}
use Rattle.sot_parser.specs.DeclarationReaders.{environment_at, outside_at, topic_at, whole_at, scaled_at, scale_at, state_at, next_at, signals_at, plant_at}
use Rattle.sot_parser.specs.DeclarationReaders.{local_at, head_at, code_at, coded_at, external_at, box_at, no_box_at, region_at, bound_at, pairing_at}
use Rattle.sot_parser.specs.DeclarationReaders.{bounds_at, module_at, a_topic_at, a_plant_at, a_coded_at, an_external_at, a_module_at, declaration_at}
use Rattle.sot_parser.specs.DeclarationReaders.{declarations_at, is_some}
use Rattle.sot_parser.proofs.DeclarationParts.{spelled_signals, signals_of, spelled_head, head_of, CodeForm, spelled_code, code_of, spelled_pairing, pairing_of}
use Rattle.sot_parser.proofs.DeclarationParts.{spelled_bounds, bounds_of}
use Rattle.sot_parser.proofs.SoundSteps.{Sound, Any, take, close, here, done, done_within, either, keyword_sound, sign_sound, name_sound}
use Rattle.sot_parser.proofs.ListsSound.{Each, all_sound, all_any_sound, separated_sound, clause_sound, optional_sound}
use Rattle.sot_parser.proofs.PiecesSound.{side_sound, fix_sound, scalar_sound, field_sound, const_sound, timing_sound, role_sound}
use Rattle.sot_parser.proofs.StatementsSound.{tree_sound, body_sound}

pub fields_sound : Sound spelled_shape shape_of Any fields_at
unfolding fields_at
fields_sound =
    take (sign_sound (codes "{")) _ _ (λ opening _.
    take (separated_sound spelled_field field_of (codes ",") named_scalar_at field_sound) _ _ (λ items _.
    take (sign_sound (codes "}")) _ _ (λ closing _.
    done spelled_shape shape_of (a_record opening items closing))))

pub one_scalar_sound : Sound spelled_shape shape_of Any one_scalar_at
unfolding one_scalar_at
one_scalar_sound = take scalar_sound _ _ (λ s _. done spelled_shape shape_of (one_scalar s))

pub shape_sound : Sound spelled_shape shape_of Any shape_at
unfolding shape_at
shape_sound = either (begins (is_sign (codes "{"))) _ _ _ fields_sound one_scalar_sound

pub consts_sound : Sound spelled_init init_of Any consts_at
unfolding consts_at
consts_sound =
    take (sign_sound (codes "{")) _ _ (λ opening _.
    take (separated_sound spelled_const const_of (codes ",") const_at const_sound) _ _ (λ items _.
    take (sign_sound (codes "}")) _ _ (λ closing _.
    done spelled_init init_of (consts opening items closing))))

pub one_const_sound : Sound spelled_init init_of Any one_const_at
unfolding one_const_at
one_const_sound = take const_sound _ _ (λ c _. done spelled_init init_of (one_const c))

pub init_sound : Sound spelled_init init_of Any init_at
unfolding init_at
init_sound = either (begins (is_sign (codes "{"))) _ _ _ consts_sound one_const_sound

pub environment_sound : Sound spelled_outside is_given Any environment_at
unfolding environment_at
environment_sound = take (keyword_sound (codes "environment")) _ _ (λ word _. done spelled_outside is_given (Some word))

pub outside_sound : Sound spelled_outside is_given Any outside_at
unfolding outside_at
outside_sound = either (begins (is_keyword (codes "environment"))) _ _ _ environment_sound (done spelled_outside is_given None)

pub topic_sound : Sound spelled_topic topic_of Any topic_at
unfolding topic_at
topic_sound =
    take outside_sound _ _ (λ environment _.
    take (keyword_sound (codes "topic")) _ _ (λ word _.
    take name_sound _ _ (λ name _.
    take (sign_sound (codes ":")) _ _ (λ colon _.
    take shape_sound _ _ (λ shape _.
    take (sign_sound (codes "=")) _ _ (λ equals _.
    take init_sound _ _ (λ init _.
    take (sign_sound (codes ";")) _ _ (λ semicolon _.
    done spelled_topic topic_of (record {
      environment = environment;
      word = word;
      name = name;
      colon = colon;
      shape = shape;
      equals = equals;
      init = init;
      semicolon = semicolon;
    })))))))))

pub whole_sound : Sound spelled_scale scale_of Any whole_at
unfolding whole_at
whole_sound = take (keyword_sound (codes "int")) _ _ (λ word _. done spelled_scale scale_of (whole word))

pub scaled_sound : Sound spelled_scale scale_of Any scaled_at
unfolding scaled_at
scaled_sound = take fix_sound _ _ (λ f _. done spelled_scale scale_of (scaled f))

pub scale_sound : Sound spelled_scale scale_of Any scale_at
unfolding scale_at
scale_sound = either (begins (is_keyword (codes "int"))) _ _ _ whole_sound scaled_sound

pub state_sound : Sound spelled_state state_of Any state_at
unfolding state_at
state_sound =
    take name_sound _ _ (λ name _.
    take (sign_sound (codes ":")) _ _ (λ colon _.
    take scale_sound _ _ (λ scale _.
    done spelled_state state_of (record { name = name; colon = colon; scale = scale }))))

abbrev pub NextFits : ℕ → NextForm → Type 0
NextFits room n = next_levels n ≤ room

pub next_sound : (room : ℕ) → Sound spelled_next next_of (NextFits room) (next_at room)
unfolding next_at
next_sound room =
    take (keyword_sound (codes "next")) _ _ (λ word _.
    take name_sound _ _ (λ name _.
    take (sign_sound (codes "=")) _ _ (λ equals _.
    take (tree_sound room) _ _ (λ value fits.
    take (sign_sound (codes ";")) _ _ (λ semicolon _.
    done_within spelled_next next_of (NextFits room) (record { word = word; name = name; equals = equals; value = value; semicolon = semicolon }) fits)))))

pub most_fit : {F : Type 0} (levels : F → ℕ) (room : ℕ) (fs : List F) → Each (λ f. levels f ≤ room) fs → most levels fs ≤ room
most_fit levels room [] all = omega arith
most_fit levels room (f ∷ fs) all = omega (arith, all.0, most_fit levels room fs all.1)

pub names_sound : (text : List ℕ) → Sound (maybe (spelled_clause {text = text} spelled_name)) (clause_or_none name_of) Any (optional_at text name_at)
names_sound text = optional_sound spelled_name name_of text name_at name_sound

pub signals_sound : Sound spelled_signals signals_of Any signals_at
unfolding signals_at
signals_sound =
    take (clause_sound spelled_state state_of (codes "state") state_at state_sound) _ _ (λ states _.
    take (names_sound (codes "input")) _ _ (λ inputs _.
    take (names_sound (codes "sees")) _ _ (λ sees _.
    take (optional_sound spelled_field field_of (codes "noise") named_scalar_at field_sound) _ _ (λ noise _.
    done spelled_signals signals_of (record { states = states; inputs = inputs; sees = sees; noise = noise })))))

abbrev pub PlantFits : ℕ → PlantForm → Type 0
PlantFits room p = plant_levels p ≤ room

pub plant_sound : (room : ℕ) → Sound spelled_plant plant_of (PlantFits room) (plant_at room)
unfolding plant_at
plant_sound room =
    take (keyword_sound (codes "plant")) _ _ (λ word _.
    take name_sound _ _ (λ name _.
    take (sign_sound (codes "{")) _ _ (λ opening _.
    take signals_sound _ _ (λ s _.
    take (all_sound spelled_next next_of (NextFits room) (begins (is_keyword (codes "next"))) (next_at room) (next_sound room)) _ _ (λ next all.
    take (sign_sound (codes "}")) _ _ (λ closing _.
    done_within spelled_plant plant_of (PlantFits room) (record
    { word = word; name = name; opening = opening; states = s.states; inputs = s.inputs; sees = s.sees; noise = s.noise; next = next; closing = closing })
    (most_fit next_levels room next all)))))))

pub local_sound : Sound spelled_local local_of Any local_at
unfolding local_at
local_sound =
    take (keyword_sound (codes "local")) _ _ (λ word _.
    take name_sound _ _ (λ name _.
    take (sign_sound (codes ":")) _ _ (λ colon _.
    take scalar_sound _ _ (λ scalar _.
    take (sign_sound (codes "=")) _ _ (λ equals _.
    take const_sound _ _ (λ init _.
    take (sign_sound (codes ";")) _ _ (λ semicolon _.
    done spelled_local local_of (record {
      word = word;
      name = name;
      colon = colon;
      scalar = scalar;
      equals = equals;
      init = init;
      semicolon = semicolon;
    }))))))))

pub head_sound : Sound spelled_head head_of Any head_at
unfolding head_at
head_sound =
    take name_sound _ _ (λ name _.
    take timing_sound _ _ (λ timing _.
    take (sign_sound (codes "{")) _ _ (λ opening _.
    take (names_sound (codes "reads")) _ _ (λ reads _.
    take (names_sound (codes "writes")) _ _ (λ writes _.
    done spelled_head head_of (record { name = name; timing = timing; opening = opening; reads = reads; writes = writes }))))))

abbrev pub CodeFits : ℕ → CodeForm → Type 0
CodeFits room c = block_levels c.body ≤ room

pub code_sound : (room : ℕ) → Sound spelled_code code_of (CodeFits room) (code_at room)
unfolding code_at
code_sound room =
    take (all_any_sound spelled_local local_of (begins (is_keyword (codes "local"))) local_at local_sound) _ _ (λ locals _.
    take (keyword_sound (codes "do")) _ _ (λ do_word _.
    take (body_sound room) _ _ (λ body fits.
    done_within spelled_code code_of (CodeFits room) (record { locals = locals; do_word = do_word; body = body }) fits)))

abbrev pub CodedFits : ℕ → CodedForm → Type 0
CodedFits room n = block_levels n.body ≤ room

pub coded_sound : (room : ℕ) → Sound spelled_coded coded_of (CodedFits room) (coded_at room)
unfolding coded_at
coded_sound room =
    take (keyword_sound (codes "node")) _ _ (λ word _.
    take head_sound _ _ (λ h _.
    take (code_sound room) _ _ (λ c fits.
    take (sign_sound (codes "}")) _ _ (λ closing _.
    done_within spelled_coded coded_of (CodedFits room)
    (record {
      word = word;
      name = h.name;
      timing = h.timing;
      opening = h.opening;
      reads = h.reads;
      writes = h.writes;
      locals = c.locals;
      do_word = c.do_word;
      body = c.body;
      closing = closing;
    }) fits))))

pub external_sound : Sound spelled_external external_of Any external_at
unfolding external_at
external_sound =
    take (keyword_sound (codes "external")) _ _ (λ word _.
    take head_sound _ _ (λ h _.
    take (sign_sound (codes "}")) _ _ (λ closing _.
    done spelled_external external_of (record {
      word = word;
      name = h.name;
      timing = h.timing;
      opening = h.opening;
      reads = h.reads;
      writes = h.writes;
      closing = closing;
    }))))

pub box_sound : Sound spelled_box box_of Any box_at
unfolding box_at
box_sound =
    take (sign_sound (codes "[")) _ _ (λ opening _.
    take (separated_sound spelled_side side_of (codes ",") side_at side_sound) _ _ (λ sides _.
    take (sign_sound (codes "]")) _ _ (λ closing _.
    done spelled_box box_of (record { opening = opening; sides = sides; closing = closing }))))

pub no_box_sound : Sound spelled_region region_of Any no_box_at
unfolding no_box_at
no_box_sound = take (keyword_sound (codes "none")) _ _ (λ word _. done spelled_region region_of (no_box word))

pub region_sound : Sound spelled_region region_of Any region_at
unfolding region_at
region_sound =
    either (begins (is_keyword (codes "none"))) _ _ _ no_box_sound
    (close (separated_sound spelled_box box_of (codes "|") box_at box_sound) _ (λ boxes _ us. here spelled_region region_of (some_boxes boxes) us))

pub bound_sound : (text : List ℕ) → Sound (spelled_bound {text = text}) bound_of Any (bound_at text)
unfolding bound_at
bound_sound text =
    take (keyword_sound text) _ _ (λ word _.
    take region_sound _ _ (λ region _.
    take (sign_sound (codes ";")) _ _ (λ semicolon _.
    done spelled_bound bound_of (record { word = word; region = region; semicolon = semicolon }))))

pub pairing_sound : Sound spelled_pairing pairing_of Any pairing_at
unfolding pairing_at
pairing_sound =
    take (role_sound (codes "ac")) _ _ (λ ac _.
    take (role_sound (codes "sc")) _ _ (λ sc _.
    take timing_sound _ _ (λ timing _.
    take (sign_sound (codes ";")) _ _ (λ semicolon _.
    take (role_sound (codes "plant")) _ _ (λ plant _.
    done spelled_pairing pairing_of (record { ac = ac; sc = sc; timing = timing; semicolon = semicolon; plant = plant }))))))

pub bounds_sound : Sound spelled_bounds bounds_of Any bounds_at
unfolding bounds_at
bounds_sound =
    take (bound_sound (codes "safe")) _ _ (λ safe _.
    take (bound_sound (codes "safer")) _ _ (λ safer _.
    done spelled_bounds bounds_of (record { safe = safe; safer = safer })))

pub module_sound : Sound spelled_module module_of Any module_at
unfolding module_at
module_sound =
    take (keyword_sound (codes "module")) _ _ (λ word _.
    take name_sound _ _ (λ name _.
    take (sign_sound (codes "{")) _ _ (λ opening _.
    take pairing_sound _ _ (λ p _.
    take bounds_sound _ _ (λ b _.
    take (sign_sound (codes "}")) _ _ (λ closing _.
    done spelled_module module_of
    (record {
      word = word;
      name = name;
      opening = opening;
      ac = p.ac;
      sc = p.sc;
      timing = p.timing;
      semicolon = p.semicolon;
      plant = p.plant;
      safe = b.safe;
      safer = b.safer;
      closing = closing;
    })))))))

abbrev pub DeclarationFits : ℕ → DeclarationForm → Type 0
DeclarationFits room d = declaration_levels d ≤ room

pub a_topic_sound : (room : ℕ) → Sound spelled_declaration declaration_of (DeclarationFits room) a_topic_at
unfolding a_topic_at
a_topic_sound room = take topic_sound _ _ (λ t _. done_within spelled_declaration declaration_of (DeclarationFits room) (a_topic t) (omega arith))

pub a_plant_sound : (room : ℕ) → Sound spelled_declaration declaration_of (DeclarationFits room) (a_plant_at room)
unfolding a_plant_at
a_plant_sound room = take (plant_sound room) _ _ (λ p fits. done_within spelled_declaration declaration_of (DeclarationFits room) (a_plant p) fits)

pub a_coded_sound : (room : ℕ) → Sound spelled_declaration declaration_of (DeclarationFits room) (a_coded_at room)
unfolding a_coded_at
a_coded_sound room = take (coded_sound room) _ _ (λ n fits. done_within spelled_declaration declaration_of (DeclarationFits room) (a_coded n) fits)

pub an_external_sound : (room : ℕ) → Sound spelled_declaration declaration_of (DeclarationFits room) an_external_at
unfolding an_external_at
an_external_sound room = take external_sound _ _ (λ n _. done_within spelled_declaration declaration_of (DeclarationFits room) (an_external n) (omega arith))

pub a_module_sound : (room : ℕ) → Sound spelled_declaration declaration_of (DeclarationFits room) a_module_at
unfolding a_module_at
a_module_sound room = take module_sound _ _ (λ m _. done_within spelled_declaration declaration_of (DeclarationFits room) (a_module m) (omega arith))

pub declaration_sound : (room : ℕ) → Sound spelled_declaration declaration_of (DeclarationFits room) (declaration_at room)
unfolding declaration_at
declaration_sound room =
    either (λ ts. begins (is_keyword (codes "topic")) ts || begins (is_keyword (codes "environment")) ts) _ _ _ (a_topic_sound room)
    (either (begins (is_keyword (codes "plant"))) _ _ _ (a_plant_sound room)
    (either (begins (is_keyword (codes "node"))) _ _ _ (a_coded_sound room)
    (either (begins (is_keyword (codes "external"))) _ _ _ (an_external_sound room) (a_module_sound room))))

pub declarations_sound : (room : ℕ) → Sound (each spelled_declaration) (map declaration_of) (Each (DeclarationFits room)) (declarations_at room)
unfolding declarations_at
declarations_sound room = all_sound spelled_declaration declaration_of (DeclarationFits room) is_some (declaration_at room) (declaration_sound room)
