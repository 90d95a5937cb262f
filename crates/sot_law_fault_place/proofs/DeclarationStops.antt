-- Declarations: where reading stops, what was read begins a form.
use Rattle.std.proofs.Common.{ℕ, suc, ◌||◌, List, [], codes, None, Some, refl}
use Rattle.sot_expression.specs.Lexemes.{begins, is_sign, is_keyword}
use Rattle.sot_expression.specs.Readers.{name_at}
use Rattle.sot_parser.specs.Pieces.{spelled_keyword, spelled_sign, spelled_name, spelled_side, side_of, spelled_scalar, spelled_fix, spelled_field, field_of}
use Rattle.sot_parser.specs.Pieces.{spelled_const, const_of, each, maybe, spelled_separated, spelled_clause}
use Rattle.sot_parser.specs.Declarations.{ShapeForm, one_scalar, a_record, spelled_shape, InitForm, one_const, consts, spelled_init, spelled_outside}
use Rattle.sot_parser.specs.Declarations.{spelled_topic, ScaleForm, whole, scaled, spelled_scale, spelled_state, state_of, spelled_next, next_of, spelled_plant}
use Rattle.sot_parser.specs.Declarations.{spelled_local, local_of, spelled_coded, spelled_external, spelled_box, RegionForm, no_box, some_boxes, spelled_region}
use Rattle.sot_parser.specs.Declarations.{spelled_bound, spelled_module, DeclarationForm, a_topic, a_plant, a_coded, an_external, a_module, spelled_declaration}
use Rattle.sot_parser.specs.ListReaders.{separated_at, optional_at}
use Rattle.sot_parser.specs.DeclarationReaders.{side_at, named_scalar_at, const_at, fields_at, one_scalar_at, shape_at, consts_at, one_const_at, init_at}
use Rattle.sot_parser.specs.DeclarationReaders.{environment_at, outside_at, topic_at, whole_at, scaled_at, scale_at, state_at, next_at, signals_at, plant_at}
use Rattle.sot_parser.specs.DeclarationReaders.{local_at, head_at, code_at, coded_at, external_at, box_at, no_box_at, region_at, bound_at, pairing_at}
use Rattle.sot_parser.specs.DeclarationReaders.{bounds_at, module_at, a_topic_at, a_plant_at, a_coded_at, an_external_at, a_module_at, declaration_at}
use Rattle.sot_parser.specs.DeclarationReaders.{declarations_at, is_some}
use Rattle.sot_parser.proofs.DeclarationParts.{spelled_signals, spelled_head, spelled_code, spelled_pairing, spelled_bounds}
use Rattle.sot_parser.proofs.SoundSteps.{keyword_sound, sign_sound, name_sound}
use Rattle.sot_parser.proofs.PiecesSound.{side_sound, scalar_sound, field_sound, const_sound, timing_sound, role_sound}
use Rattle.sot_parser.proofs.ListsSound.{all_sound, all_any_sound, separated_sound, clause_sound}
use Rattle.sot_parser.proofs.StatementsSound.{tree_sound}
use Rattle.sot_parser.proofs.DeclarationsSound.{NextFits, shape_sound, init_sound, outside_sound, state_sound, next_sound, names_sound, signals_sound}
use Rattle.sot_parser.proofs.DeclarationsSound.{local_sound, head_sound, code_sound, box_sound, region_sound, bound_sound, pairing_sound, bounds_sound}
use Rattle.sot_parser.proofs.DeclarationsSound.{declaration_sound}
use Rattle.sot_law_fault_place.specs.Places.{IsToken}
use Rattle.sot_law_fault_place.proofs.Stops.{Appends, Twin, both, inside, stops_inside, either_stops, never_stops, twin_of, then_twin, last_twin}
use Rattle.sot_law_fault_place.proofs.Tokens.{bar_real, close_brace_real, close_bracket_real, colon_real, comma_real, equals_real, open_brace_real}
use Rattle.sot_law_fault_place.proofs.Tokens.{open_bracket_real, semicolon_real, begun_by, keyword, keyword_twin, sign_twin, name_twin}
use Rattle.sot_law_fault_place.proofs.PieceStops.{side_twin, fix_twin, scalar_twin, field_twin, const_twin, timing_twin, role_twin}
use Rattle.sot_law_fault_place.proofs.ListStops.{maybe_appends, all_twin, separated_twin, clause_twin, optional_twin}
use Rattle.sot_law_fault_place.proofs.ExpressionStops.{tree_twin}
use Rattle.sot_law_fault_place.proofs.StatementStops.{body_twin}

fields_twin : Twin (both (spelled_sign {text = codes "{"}) (both (spelled_separated {text = codes ","} spelled_field) (spelled_sign {text = codes "}"})))
    fields_at
unfolding fields_at
fields_twin =
    then_twin (sign_sound (codes "{")) (sign_twin (codes "{") open_brace_real) _
    (λ _. then_twin (separated_sound spelled_field field_of (codes ",") named_scalar_at field_sound)
    (separated_twin (codes ",") comma_real named_scalar_at field_sound field_twin) _ (λ _.
    last_twin (sign_twin (codes "}") close_brace_real) (λ x. (_, refl))))

one_scalar_twin : Twin spelled_scalar one_scalar_at
unfolding one_scalar_at
one_scalar_twin = last_twin scalar_twin (λ x. (_, refl))

shape_appends : (s : ShapeForm) → Appends (spelled_shape s)
shape_appends (one_scalar s) us vs = scalar_twin.appends s us vs
shape_appends (a_record opening fs closing) us vs = fields_twin.appends (opening, (fs, closing)) us vs

shape_twin : Twin spelled_shape shape_at
unfolding shape_at
shape_twin = record {
  appends = shape_appends;
  some = inside one_scalar (λ f behind. refl) scalar_twin.some;
  stops =
      either_stops (begins (is_sign (codes "{"))) _ _ (stops_inside (λ p. a_record p.0 p.1.0 p.1.1) (λ p behind. refl) fields_twin.stops)
      (stops_inside one_scalar (λ f behind. refl) one_scalar_twin.stops);
}

consts_twin : Twin (both (spelled_sign {text = codes "{"}) (both (spelled_separated {text = codes ","} spelled_const) (spelled_sign {text = codes "}"})))
    consts_at
unfolding consts_at
consts_twin =
    then_twin (sign_sound (codes "{")) (sign_twin (codes "{") open_brace_real) _
    (λ _. then_twin (separated_sound spelled_const const_of (codes ",") const_at const_sound)
    (separated_twin (codes ",") comma_real const_at const_sound const_twin) _ (λ _.
    last_twin (sign_twin (codes "}") close_brace_real) (λ x. (_, refl))))

one_const_twin : Twin spelled_const one_const_at
unfolding one_const_at
one_const_twin = last_twin const_twin (λ x. (_, refl))

init_appends : (s : InitForm) → Appends (spelled_init s)
init_appends (one_const c) us vs = const_twin.appends c us vs
init_appends (consts opening cs closing) us vs = consts_twin.appends (opening, (cs, closing)) us vs

init_twin : Twin spelled_init init_at
unfolding init_at
init_twin = record {
  appends = init_appends;
  some = inside one_const (λ f behind. refl) const_twin.some;
  stops =
      either_stops (begins (is_sign (codes "{"))) _ _ (stops_inside (λ p. consts p.0 p.1.0 p.1.1) (λ p behind. refl) consts_twin.stops)
      (stops_inside one_const (λ f behind. refl) one_const_twin.stops);
}

environment_twin : Twin (spelled_keyword {text = codes "environment"}) environment_at
unfolding environment_at
environment_twin = last_twin (keyword_twin (codes "environment") refl) (λ x. (_, refl))

outside_twin : Twin spelled_outside outside_at
unfolding outside_at
outside_twin = record {
  appends = maybe_appends spelled_keyword (keyword_twin (codes "environment") refl).appends;
  some = begun_by None [] tt (λ behind. refl);
  stops =
      either_stops (begins (is_keyword (codes "environment"))) _ _ (stops_inside Some (λ f behind. refl) environment_twin.stops)
      (never_stops _ (λ ts. (_, refl)));
}

topic_twin : Twin spelled_topic topic_at
unfolding topic_at
topic_twin =
    twin_of
    (λ p. record {
      environment = p.0;
      word = p.1.0;
      name = p.1.1.0;
      colon = p.1.1.1.0;
      shape = p.1.1.1.1.0;
      equals = p.1.1.1.1.1.0;
      init = p.1.1.1.1.1.1.0;
      semicolon = p.1.1.1.1.1.1.1;
    })
    (λ t. (t.environment, (t.word, (t.name, (t.colon, (t.shape, (t.equals, (t.init, t.semicolon)))))))) (λ p behind. refl) (λ t behind. refl)
    (then_twin outside_sound outside_twin _ (λ _. then_twin (keyword_sound (codes "topic")) (keyword_twin (codes "topic") refl) _
    (λ _. then_twin name_sound name_twin _ (λ _. then_twin (sign_sound (codes ":")) (sign_twin (codes ":") colon_real) _ (λ _.
    then_twin shape_sound shape_twin _ (λ _. then_twin (sign_sound (codes "=")) (sign_twin (codes "=") equals_real) _
    (λ _. then_twin init_sound init_twin _ (λ _. last_twin (sign_twin (codes ";") semicolon_real) (λ x. (_, refl))))))))))

whole_twin : Twin (spelled_keyword {text = codes "int"}) whole_at
unfolding whole_at
whole_twin = last_twin (keyword_twin (codes "int") refl) (λ x. (_, refl))

scaled_twin : Twin spelled_fix scaled_at
unfolding scaled_at
scaled_twin = last_twin fix_twin (λ x. (_, refl))

scale_appends : (s : ScaleForm) → Appends (spelled_scale s)
scale_appends (whole word) us vs = refl
scale_appends (scaled f) us vs = fix_twin.appends f us vs

scale_twin : Twin spelled_scale scale_at
unfolding scale_at
scale_twin = record {
  appends = scale_appends;
  some = inside whole (λ f behind. refl) whole_twin.some;
  stops =
      either_stops (begins (is_keyword (codes "int"))) _ _ (stops_inside whole (λ f behind. refl) whole_twin.stops)
      (stops_inside scaled (λ f behind. refl) scaled_twin.stops);
}

state_twin : Twin spelled_state state_at
unfolding state_at
state_twin =
    twin_of (λ p. record { name = p.0; colon = p.1.0; scale = p.1.1 }) (λ s. (s.name, (s.colon, s.scale))) (λ p behind. refl) (λ s behind. refl)
    (then_twin name_sound name_twin _ (λ _. then_twin (sign_sound (codes ":")) (sign_twin (codes ":") colon_real) _
    (λ _. last_twin scale_twin (λ x. (_, refl)))))

next_twin : (room : ℕ) → Twin spelled_next (next_at (suc room))
unfolding next_at
next_twin room =
    twin_of (λ p. record { word = p.0; name = p.1.0; equals = p.1.1.0; value = p.1.1.1.0; semicolon = p.1.1.1.1 })
    (λ n. (n.word, (n.name, (n.equals, (n.value, n.semicolon))))) (λ p behind. refl) (λ n behind. refl)
    (then_twin (keyword_sound (codes "next")) (keyword_twin (codes "next") refl) _
    (λ _. then_twin name_sound name_twin _ (λ _. then_twin (sign_sound (codes "=")) (sign_twin (codes "=") equals_real) _ (λ _.
    then_twin (tree_sound (suc room)) (tree_twin room) _ (λ _. last_twin (sign_twin (codes ";") semicolon_real) (λ x. (_, refl)))))))

names_twin : (text : List ℕ) → IsToken (keyword text).token → Twin (maybe (spelled_clause {text = text} spelled_name)) (optional_at text name_at)
names_twin text real = optional_twin text real name_at name_sound name_twin

signals_twin : Twin spelled_signals signals_at
unfolding signals_at
signals_twin =
    twin_of (λ p. record { states = p.0; inputs = p.1.0; sees = p.1.1.0; noise = p.1.1.1 }) (λ s. (s.states, (s.inputs, (s.sees, s.noise)))) (λ p behind. refl)
    (λ s behind. refl)
    (then_twin (clause_sound spelled_state state_of (codes "state") state_at state_sound) (clause_twin (codes "state") refl state_at state_sound state_twin) _
    (λ _.
    then_twin (names_sound (codes "input")) (names_twin (codes "input") refl) _
    (λ _. then_twin (names_sound (codes "sees")) (names_twin (codes "sees") refl) _ (λ _.
    last_twin (optional_twin (codes "noise") refl named_scalar_at field_sound field_twin) (λ x. (_, refl))))))

plant_twin : (room : ℕ) → Twin spelled_plant (plant_at (suc room))
unfolding plant_at
plant_twin room =
    twin_of
    (λ p. record {
      word = p.0;
      name = p.1.0;
      opening = p.1.1.0;
      states = p.1.1.1.0.states;
      inputs = p.1.1.1.0.inputs;
      sees = p.1.1.1.0.sees;
      noise = p.1.1.1.0.noise;
      next = p.1.1.1.1.0;
      closing = p.1.1.1.1.1;
    })
    (λ q. (q.word, (q.name, (q.opening, (record { states = q.states; inputs = q.inputs; sees = q.sees; noise = q.noise }, (q.next, q.closing))))))
    (λ p behind. refl) (λ q behind. refl)
    (then_twin (keyword_sound (codes "plant")) (keyword_twin (codes "plant") refl) _
    (λ _. then_twin name_sound name_twin _ (λ _. then_twin (sign_sound (codes "{")) (sign_twin (codes "{") open_brace_real) _
    (λ _. then_twin signals_sound signals_twin _ (λ _.
    then_twin (all_sound spelled_next next_of (NextFits (suc room)) (begins (is_keyword (codes "next"))) (next_at (suc room)) (next_sound (suc room)))
    (all_twin (begins (is_keyword (codes "next"))) (next_at (suc room)) (next_sound (suc room)) (next_twin room)) _ (λ _.
    last_twin (sign_twin (codes "}") close_brace_real) (λ x. (_, refl))))))))

local_twin : Twin spelled_local local_at
unfolding local_at
local_twin =
    twin_of (λ p. record {
      word = p.0;
      name = p.1.0;
      colon = p.1.1.0;
      scalar = p.1.1.1.0;
      equals = p.1.1.1.1.0;
      init = p.1.1.1.1.1.0;
      semicolon = p.1.1.1.1.1.1;
    })
    (λ l. (l.word, (l.name, (l.colon, (l.scalar, (l.equals, (l.init, l.semicolon))))))) (λ p behind. refl) (λ l behind. refl)
    (then_twin (keyword_sound (codes "local")) (keyword_twin (codes "local") refl) _
    (λ _. then_twin name_sound name_twin _ (λ _. then_twin (sign_sound (codes ":")) (sign_twin (codes ":") colon_real) _
    (λ _. then_twin scalar_sound scalar_twin _ (λ _.
    then_twin (sign_sound (codes "=")) (sign_twin (codes "=") equals_real) _
    (λ _. then_twin const_sound const_twin _ (λ _. last_twin (sign_twin (codes ";") semicolon_real) (λ x. (_, refl)))))))))

head_twin : Twin spelled_head head_at
unfolding head_at
head_twin =
    twin_of (λ p. record { name = p.0; timing = p.1.0; opening = p.1.1.0; reads = p.1.1.1.0; writes = p.1.1.1.1 })
    (λ h. (h.name, (h.timing, (h.opening, (h.reads, h.writes))))) (λ p behind. refl) (λ h behind. refl)
    (then_twin name_sound name_twin _ (λ _. then_twin timing_sound timing_twin _
    (λ _. then_twin (sign_sound (codes "{")) (sign_twin (codes "{") open_brace_real) _ (λ _.
    then_twin (names_sound (codes "reads")) (names_twin (codes "reads") refl) _ (λ _. last_twin (names_twin (codes "writes") refl) (λ x. (_, refl)))))))

code_twin : (room : ℕ) → Twin spelled_code (code_at room)
unfolding code_at
code_twin room =
    twin_of (λ p. record { locals = p.0; do_word = p.1.0; body = p.1.1 }) (λ c. (c.locals, (c.do_word, c.body))) (λ p behind. refl) (λ c behind. refl)
    (then_twin (all_any_sound spelled_local local_of (begins (is_keyword (codes "local"))) local_at local_sound)
    (all_twin (begins (is_keyword (codes "local"))) local_at local_sound local_twin) _ (λ _.
    then_twin (keyword_sound (codes "do")) (keyword_twin (codes "do") refl) _ (λ _. last_twin (body_twin room) (λ x. (_, refl)))))

coded_twin : (room : ℕ) → Twin spelled_coded (coded_at room)
unfolding coded_at
coded_twin room =
    twin_of
    (λ p. record {
      word = p.0;
      name = p.1.0.name;
      timing = p.1.0.timing;
      opening = p.1.0.opening;
      reads = p.1.0.reads;
      writes = p.1.0.writes;
      locals = p.1.1.0.locals;
      do_word = p.1.1.0.do_word;
      body = p.1.1.0.body;
      closing = p.1.1.1;
    })
    (λ n. (
      n.word,
      (
        record { name = n.name; timing = n.timing; opening = n.opening; reads = n.reads; writes = n.writes },
        (record { locals = n.locals; do_word = n.do_word; body = n.body }, n.closing),
      ),
    )) (λ p behind. refl) (λ n behind. refl)
    (then_twin (keyword_sound (codes "node")) (keyword_twin (codes "node") refl) _
    (λ _. then_twin head_sound head_twin _ (λ _. then_twin (code_sound room) (code_twin room) _
    (λ _. last_twin (sign_twin (codes "}") close_brace_real) (λ x. (_, refl))))))

external_twin : Twin spelled_external external_at
unfolding external_at
external_twin =
    twin_of (λ p. record {
      word = p.0;
      name = p.1.0.name;
      timing = p.1.0.timing;
      opening = p.1.0.opening;
      reads = p.1.0.reads;
      writes = p.1.0.writes;
      closing = p.1.1;
    })
    (λ n. (n.word, (record { name = n.name; timing = n.timing; opening = n.opening; reads = n.reads; writes = n.writes }, n.closing))) (λ p behind. refl)
    (λ n behind. refl)
    (then_twin (keyword_sound (codes "external")) (keyword_twin (codes "external") refl) _
    (λ _. then_twin head_sound head_twin _ (λ _. last_twin (sign_twin (codes "}") close_brace_real) (λ x. (_, refl)))))

box_twin : Twin spelled_box box_at
unfolding box_at
box_twin =
    twin_of (λ p. record { opening = p.0; sides = p.1.0; closing = p.1.1 }) (λ b. (b.opening, (b.sides, b.closing))) (λ p behind. refl) (λ b behind. refl)
    (then_twin (sign_sound (codes "[")) (sign_twin (codes "[") open_bracket_real) _
    (λ _. then_twin (separated_sound spelled_side side_of (codes ",") side_at side_sound)
    (separated_twin (codes ",") comma_real side_at side_sound side_twin) _ (λ _.
    last_twin (sign_twin (codes "]") close_bracket_real) (λ x. (_, refl)))))

no_box_twin : Twin (spelled_keyword {text = codes "none"}) no_box_at
unfolding no_box_at
no_box_twin = last_twin (keyword_twin (codes "none") refl) (λ x. (_, refl))

boxes_twin : Twin (spelled_separated {text = codes "|"} spelled_box) (separated_at (codes "|") box_at)
boxes_twin = separated_twin (codes "|") bar_real box_at box_sound box_twin

region_appends : (r : RegionForm) → Appends (spelled_region r)
region_appends (no_box word) us vs = refl
region_appends (some_boxes bs) us vs = boxes_twin.appends bs us vs

region_twin : Twin spelled_region region_at
unfolding region_at
region_twin = record {
  appends = region_appends;
  some = inside no_box (λ f behind. refl) no_box_twin.some;
  stops =
      either_stops (begins (is_keyword (codes "none"))) _ _ (stops_inside no_box (λ f behind. refl) no_box_twin.stops)
      (stops_inside some_boxes (λ f behind. refl) boxes_twin.stops);
}

bound_twin : (text : List ℕ) → IsToken (keyword text).token → Twin (spelled_bound {text = text}) (bound_at text)
unfolding bound_at
bound_twin text real =
    twin_of (λ p. record { word = p.0; region = p.1.0; semicolon = p.1.1 }) (λ b. (b.word, (b.region, b.semicolon))) (λ p behind. refl) (λ b behind. refl)
    (then_twin (keyword_sound text) (keyword_twin text real) _
    (λ _. then_twin region_sound region_twin _ (λ _. last_twin (sign_twin (codes ";") semicolon_real) (λ x. (_, refl)))))

pairing_twin : Twin spelled_pairing pairing_at
unfolding pairing_at
pairing_twin =
    twin_of (λ p. record { ac = p.0; sc = p.1.0; timing = p.1.1.0; semicolon = p.1.1.1.0; plant = p.1.1.1.1 })
    (λ q. (q.ac, (q.sc, (q.timing, (q.semicolon, q.plant))))) (λ p behind. refl) (λ q behind. refl)
    (then_twin (role_sound (codes "ac")) (role_twin (codes "ac") refl) _
    (λ _. then_twin (role_sound (codes "sc")) (role_twin (codes "sc") refl) _ (λ _. then_twin timing_sound timing_twin _ (λ _.
    then_twin (sign_sound (codes ";")) (sign_twin (codes ";") semicolon_real) _ (λ _. last_twin (role_twin (codes "plant") refl) (λ x. (_, refl)))))))

bounds_twin : Twin spelled_bounds bounds_at
unfolding bounds_at
bounds_twin =
    twin_of (λ p. record { safe = p.0; safer = p.1 }) (λ b. (b.safe, b.safer)) (λ p behind. refl) (λ b behind. refl)
    (then_twin (bound_sound (codes "safe")) (bound_twin (codes "safe") refl) _ (λ _. last_twin (bound_twin (codes "safer") refl) (λ x. (_, refl))))

module_twin : Twin spelled_module module_at
unfolding module_at
module_twin =
    twin_of
    (λ p. record {
      word = p.0;
      name = p.1.0;
      opening = p.1.1.0;
      ac = p.1.1.1.0.ac;
      sc = p.1.1.1.0.sc;
      timing = p.1.1.1.0.timing;
      semicolon = p.1.1.1.0.semicolon;
      plant = p.1.1.1.0.plant;
      safe = p.1.1.1.1.0.safe;
      safer = p.1.1.1.1.0.safer;
      closing = p.1.1.1.1.1;
    })
    (λ m. (
      m.word,
      (
        m.name,
        (
          m.opening,
          (
            record { ac = m.ac; sc = m.sc; timing = m.timing; semicolon = m.semicolon; plant = m.plant },
            (record { safe = m.safe; safer = m.safer }, m.closing),
          ),
        ),
      ),
    )) (λ p behind. refl) (λ m behind. refl)
    (then_twin (keyword_sound (codes "module")) (keyword_twin (codes "module") refl) _
    (λ _. then_twin name_sound name_twin _ (λ _. then_twin (sign_sound (codes "{")) (sign_twin (codes "{") open_brace_real) _ (λ _.
    then_twin pairing_sound pairing_twin _ (λ _. then_twin bounds_sound bounds_twin _
    (λ _. last_twin (sign_twin (codes "}") close_brace_real) (λ x. (_, refl))))))))

a_topic_twin : Twin spelled_topic a_topic_at
unfolding a_topic_at
a_topic_twin = last_twin topic_twin (λ x. (_, refl))

a_plant_twin : (room : ℕ) → Twin spelled_plant (a_plant_at (suc room))
unfolding a_plant_at
a_plant_twin room = last_twin (plant_twin room) (λ x. (_, refl))

a_coded_twin : (room : ℕ) → Twin spelled_coded (a_coded_at room)
unfolding a_coded_at
a_coded_twin room = last_twin (coded_twin room) (λ x. (_, refl))

an_external_twin : Twin spelled_external an_external_at
unfolding an_external_at
an_external_twin = last_twin external_twin (λ x. (_, refl))

a_module_twin : Twin spelled_module a_module_at
unfolding a_module_at
a_module_twin = last_twin module_twin (λ x. (_, refl))

declaration_appends : (d : DeclarationForm) → Appends (spelled_declaration d)
declaration_appends (a_topic t) us vs = topic_twin.appends t us vs
declaration_appends (a_plant p) us vs = (plant_twin 0).appends p us vs
declaration_appends (a_coded n) us vs = (coded_twin 1).appends n us vs
declaration_appends (an_external n) us vs = external_twin.appends n us vs
declaration_appends (a_module m) us vs = module_twin.appends m us vs

declaration_twin : (room : ℕ) → Twin spelled_declaration (declaration_at (suc room))
unfolding declaration_at
declaration_twin room = record {
  appends = declaration_appends;
  some = inside a_module (λ f behind. refl) module_twin.some;
  stops =
      either_stops (λ ts. begins (is_keyword (codes "topic")) ts || begins (is_keyword (codes "environment")) ts) _ _
      (stops_inside a_topic (λ f behind. refl) a_topic_twin.stops)
      (either_stops (begins (is_keyword (codes "plant"))) _ _ (stops_inside a_plant (λ f behind. refl) (a_plant_twin room).stops)
      (either_stops (begins (is_keyword (codes "node"))) _ _ (stops_inside a_coded (λ f behind. refl) (a_coded_twin (suc room)).stops)
      (either_stops (begins (is_keyword (codes "external"))) _ _ (stops_inside an_external (λ f behind. refl) an_external_twin.stops)
      (stops_inside a_module (λ f behind. refl) a_module_twin.stops))));
}

pub declarations_twin : (room : ℕ) → Twin (each spelled_declaration) (declarations_at (suc room))
unfolding declarations_at
declarations_twin room = all_twin is_some (declaration_at (suc room)) (declaration_sound (suc room)) (declaration_twin room)
