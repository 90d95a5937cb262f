-- Declarations: what is read hangs on the tokens read and on the next one, and more room changes nothing, unless it nests too deep.
use Rattle.std.proofs.Common.{◌≡◌, ℕ, ◌≤◌, ◌||◌, List, [], ◌∷◌, codes, refl}
use Rattle.sot_expression.specs.Lexemes.{begins, is_sign, is_keyword}
use Rattle.sot_expression.specs.Readers.{name_at}
use Rattle.sot_parser.specs.ListReaders.{optional_at}
use Rattle.sot_parser.specs.DeclarationReaders.{side_at, named_scalar_at, const_at, fields_at, one_scalar_at, shape_at, consts_at, one_const_at, init_at}
use Rattle.sot_parser.specs.DeclarationReaders.{environment_at, outside_at, topic_at, whole_at, scaled_at, scale_at, state_at, next_at, signals_at, plant_at}
use Rattle.sot_parser.specs.DeclarationReaders.{local_at, head_at, code_at, coded_at, external_at, box_at, no_box_at, region_at, bound_at, pairing_at}
use Rattle.sot_parser.specs.DeclarationReaders.{bounds_at, module_at, a_topic_at, a_plant_at, a_coded_at, an_external_at, a_module_at, declaration_at}
use Rattle.sot_parser.specs.DeclarationReaders.{declarations_at, is_some}
use Rattle.sot_parser.proofs.Shorter.{name_short, side_short, named_scalar_short, const_short, state_short, next_short, local_short, box_short}
use Rattle.sot_parser.proofs.Shorter.{declaration_short}
use Rattle.sot_law_fault_place.proofs.Tracks.{Tracks, IsFirst, begins_first, bind_tracks, ok_tracks, cond_tracks}
use Rattle.sot_law_fault_place.proofs.ListTracks.{sign_tracks, keyword_tracks, name_tracks, all_tracks, separated_tracks, clause_tracks, optional_tracks}
use Rattle.sot_law_fault_place.proofs.ListTracks.{side_tracks, fix_tracks, scalar_tracks, field_tracks, const_tracks, timing_tracks, role_tracks}
use Rattle.sot_law_fault_place.proofs.ExpressionTracks.{tree_tracks}
use Rattle.sot_law_fault_place.proofs.StatementTracks.{body_tracks}

some_first : IsFirst is_some
some_first [] [] e = refl
some_first [] (u ∷ us) e = absurd cc
some_first (t ∷ ts) [] e = absurd cc
some_first (t ∷ ts) (u ∷ us) e = refl

topic_first : IsFirst (λ ts. begins (is_keyword (codes "topic")) ts || begins (is_keyword (codes "environment")) ts)
topic_first ts us e =
    let a = begins_first (is_keyword (codes "topic")) ts us e in let b = begins_first (is_keyword (codes "environment")) ts us e in rw (a, b) refl

module _ {Same : Type 0} where
  fields_tracks : Tracks Same fields_at fields_at
  unfolding fields_at
  fields_tracks =
      bind_tracks _ _ (sign_tracks (codes "{")) (λ _. bind_tracks _ _ (separated_tracks (codes ",") named_scalar_at field_tracks named_scalar_short)
      (λ _. bind_tracks _ _ (sign_tracks (codes "}")) (λ _. ok_tracks _)))

  one_scalar_tracks : Tracks Same one_scalar_at one_scalar_at
  unfolding one_scalar_at
  one_scalar_tracks = bind_tracks _ _ scalar_tracks (λ _. ok_tracks _)

  shape_tracks : Tracks Same shape_at shape_at
  unfolding shape_at
  shape_tracks = cond_tracks (begins (is_sign (codes "{"))) (begins_first (is_sign (codes "{"))) fields_tracks one_scalar_tracks

  consts_tracks : Tracks Same consts_at consts_at
  unfolding consts_at
  consts_tracks =
      bind_tracks _ _ (sign_tracks (codes "{")) (λ _. bind_tracks _ _ (separated_tracks (codes ",") const_at const_tracks const_short)
      (λ _. bind_tracks _ _ (sign_tracks (codes "}")) (λ _. ok_tracks _)))

  one_const_tracks : Tracks Same one_const_at one_const_at
  unfolding one_const_at
  one_const_tracks = bind_tracks _ _ const_tracks (λ _. ok_tracks _)

  init_tracks : Tracks Same init_at init_at
  unfolding init_at
  init_tracks = cond_tracks (begins (is_sign (codes "{"))) (begins_first (is_sign (codes "{"))) consts_tracks one_const_tracks

  environment_tracks : Tracks Same environment_at environment_at
  unfolding environment_at
  environment_tracks = bind_tracks _ _ (keyword_tracks (codes "environment")) (λ _. ok_tracks _)

  outside_tracks : Tracks Same outside_at outside_at
  unfolding outside_at
  outside_tracks = cond_tracks (begins (is_keyword (codes "environment"))) (begins_first (is_keyword (codes "environment"))) environment_tracks (ok_tracks _)

  topic_tracks : Tracks Same topic_at topic_at
  unfolding topic_at
  topic_tracks =
      bind_tracks _ _ outside_tracks (λ _. bind_tracks _ _ (keyword_tracks (codes "topic"))
      (λ _. bind_tracks _ _ name_tracks (λ _. bind_tracks _ _ (sign_tracks (codes ":")) (λ _. bind_tracks _ _ shape_tracks (λ _.
      bind_tracks _ _ (sign_tracks (codes "=")) (λ _. bind_tracks _ _ init_tracks (λ _. bind_tracks _ _ (sign_tracks (codes ";")) (λ _. ok_tracks _))))))))

  whole_tracks : Tracks Same whole_at whole_at
  unfolding whole_at
  whole_tracks = bind_tracks _ _ (keyword_tracks (codes "int")) (λ _. ok_tracks _)

  scaled_tracks : Tracks Same scaled_at scaled_at
  unfolding scaled_at
  scaled_tracks = bind_tracks _ _ fix_tracks (λ _. ok_tracks _)

  scale_tracks : Tracks Same scale_at scale_at
  unfolding scale_at
  scale_tracks = cond_tracks (begins (is_keyword (codes "int"))) (begins_first (is_keyword (codes "int"))) whole_tracks scaled_tracks

  state_tracks : Tracks Same state_at state_at
  unfolding state_at
  state_tracks = bind_tracks _ _ name_tracks (λ _. bind_tracks _ _ (sign_tracks (codes ":")) (λ _. bind_tracks _ _ scale_tracks (λ _. ok_tracks _)))

  names_tracks : (text : List ℕ) → Tracks Same (optional_at text name_at) (optional_at text name_at)
  names_tracks text = optional_tracks text name_at name_tracks name_short

  signals_tracks : Tracks Same signals_at signals_at
  unfolding signals_at
  signals_tracks =
      bind_tracks _ _ (clause_tracks (codes "state") state_at state_tracks state_short)
      (λ _. bind_tracks _ _ (names_tracks (codes "input")) (λ _. bind_tracks _ _ (names_tracks (codes "sees")) (λ _.
      bind_tracks _ _ (optional_tracks (codes "noise") named_scalar_at field_tracks named_scalar_short) (λ _. ok_tracks _))))

  local_tracks : Tracks Same local_at local_at
  unfolding local_at
  local_tracks =
      bind_tracks _ _ (keyword_tracks (codes "local")) (λ _.
      bind_tracks _ _ name_tracks (λ _. bind_tracks _ _ (sign_tracks (codes ":"))
      (λ _. bind_tracks _ _ scalar_tracks (λ _. bind_tracks _ _ (sign_tracks (codes "=")) (λ _.
      bind_tracks _ _ const_tracks (λ _. bind_tracks _ _ (sign_tracks (codes ";")) (λ _. ok_tracks _)))))))

  head_tracks : Tracks Same head_at head_at
  unfolding head_at
  head_tracks =
      bind_tracks _ _ name_tracks (λ _. bind_tracks _ _ timing_tracks
      (λ _. bind_tracks _ _ (sign_tracks (codes "{")) (λ _. bind_tracks _ _ (names_tracks (codes "reads"))
      (λ _. bind_tracks _ _ (names_tracks (codes "writes")) (λ _. ok_tracks _)))))

  external_tracks : Tracks Same external_at external_at
  unfolding external_at
  external_tracks =
      bind_tracks _ _ (keyword_tracks (codes "external")) (λ _. bind_tracks _ _ head_tracks (λ _. bind_tracks _ _ (sign_tracks (codes "}")) (λ _. ok_tracks _)))

  box_tracks : Tracks Same box_at box_at
  unfolding box_at
  box_tracks =
      bind_tracks _ _ (sign_tracks (codes "[")) (λ _. bind_tracks _ _ (separated_tracks (codes ",") side_at side_tracks side_short)
      (λ _. bind_tracks _ _ (sign_tracks (codes "]")) (λ _. ok_tracks _)))

  no_box_tracks : Tracks Same no_box_at no_box_at
  unfolding no_box_at
  no_box_tracks = bind_tracks _ _ (keyword_tracks (codes "none")) (λ _. ok_tracks _)

  region_tracks : Tracks Same region_at region_at
  unfolding region_at
  region_tracks =
      cond_tracks (begins (is_keyword (codes "none"))) (begins_first (is_keyword (codes "none"))) no_box_tracks
      (separated_tracks (codes "|") box_at box_tracks box_short)

  bound_tracks : (text : List ℕ) → Tracks Same (bound_at text) (bound_at text)
  unfolding bound_at
  bound_tracks text =
      bind_tracks _ _ (keyword_tracks text) (λ _. bind_tracks _ _ region_tracks (λ _. bind_tracks _ _ (sign_tracks (codes ";")) (λ _. ok_tracks _)))

  pairing_tracks : Tracks Same pairing_at pairing_at
  unfolding pairing_at
  pairing_tracks =
      bind_tracks _ _ (role_tracks (codes "ac")) (λ _. bind_tracks _ _ (role_tracks (codes "sc"))
      (λ _. bind_tracks _ _ timing_tracks (λ _. bind_tracks _ _ (sign_tracks (codes ";"))
      (λ _. bind_tracks _ _ (role_tracks (codes "plant")) (λ _. ok_tracks _)))))

  bounds_tracks : Tracks Same bounds_at bounds_at
  unfolding bounds_at
  bounds_tracks = bind_tracks _ _ (bound_tracks (codes "safe")) (λ _. bind_tracks _ _ (bound_tracks (codes "safer")) (λ _. ok_tracks _))

  module_tracks : Tracks Same module_at module_at
  unfolding module_at
  module_tracks =
      bind_tracks _ _ (keyword_tracks (codes "module")) (λ _.
      bind_tracks _ _ name_tracks (λ _. bind_tracks _ _ (sign_tracks (codes "{")) (λ _. bind_tracks _ _ pairing_tracks (λ _. bind_tracks _ _ bounds_tracks (λ _.
      bind_tracks _ _ (sign_tracks (codes "}")) (λ _. ok_tracks _))))))

  a_topic_tracks : Tracks Same a_topic_at a_topic_at
  unfolding a_topic_at
  a_topic_tracks = bind_tracks _ _ topic_tracks (λ _. ok_tracks _)

  an_external_tracks : Tracks Same an_external_at an_external_at
  unfolding an_external_at
  an_external_tracks = bind_tracks _ _ external_tracks (λ _. ok_tracks _)

  a_module_tracks : Tracks Same a_module_at a_module_at
  unfolding a_module_at
  a_module_tracks = bind_tracks _ _ module_tracks (λ _. ok_tracks _)

  -- the productions with expressions
  module _ (room more : ℕ) (le : room ≤ more) (equal : Same → room ≡ more) where
    next_tracks : Tracks Same (next_at room) (next_at more)
    unfolding next_at
    next_tracks =
        bind_tracks _ _ (keyword_tracks (codes "next")) (λ _. bind_tracks _ _ name_tracks
        (λ _. bind_tracks _ _ (sign_tracks (codes "=")) (λ _. bind_tracks _ _ (tree_tracks room more le equal)
        (λ _. bind_tracks _ _ (sign_tracks (codes ";")) (λ _. ok_tracks _)))))

    plant_tracks : Tracks Same (plant_at room) (plant_at more)
    unfolding plant_at
    plant_tracks =
        bind_tracks _ _ (keyword_tracks (codes "plant")) (λ _.
        bind_tracks _ _ name_tracks (λ _. bind_tracks _ _ (sign_tracks (codes "{")) (λ _. bind_tracks _ _ signals_tracks (λ _.
        bind_tracks _ _ (all_tracks (begins (is_keyword (codes "next"))) (begins_first (is_keyword (codes "next"))) (next_at room) (next_at more) next_tracks
        (next_short room)) (λ _. bind_tracks _ _ (sign_tracks (codes "}")) (λ _. ok_tracks _))))))

    code_tracks : Tracks Same (code_at room) (code_at more)
    unfolding code_at
    code_tracks =
        bind_tracks _ _ (all_tracks (begins (is_keyword (codes "local"))) (begins_first (is_keyword (codes "local"))) local_at local_at local_tracks
        local_short) (λ _. bind_tracks _ _ (keyword_tracks (codes "do")) (λ _.
        bind_tracks _ _ (body_tracks room more le equal) (λ _. ok_tracks _)))

    coded_tracks : Tracks Same (coded_at room) (coded_at more)
    unfolding coded_at
    coded_tracks =
        bind_tracks _ _ (keyword_tracks (codes "node")) (λ _. bind_tracks _ _ head_tracks
        (λ _. bind_tracks _ _ code_tracks (λ _. bind_tracks _ _ (sign_tracks (codes "}")) (λ _. ok_tracks _))))

    a_plant_tracks : Tracks Same (a_plant_at room) (a_plant_at more)
    unfolding a_plant_at
    a_plant_tracks = bind_tracks _ _ plant_tracks (λ _. ok_tracks _)

    a_coded_tracks : Tracks Same (a_coded_at room) (a_coded_at more)
    unfolding a_coded_at
    a_coded_tracks = bind_tracks _ _ coded_tracks (λ _. ok_tracks _)

    declaration_tracks : Tracks Same (declaration_at room) (declaration_at more)
    unfolding declaration_at
    declaration_tracks =
        cond_tracks (λ ts. begins (is_keyword (codes "topic")) ts || begins (is_keyword (codes "environment")) ts) topic_first a_topic_tracks
        (cond_tracks (begins (is_keyword (codes "plant"))) (begins_first (is_keyword (codes "plant"))) a_plant_tracks
        (cond_tracks (begins (is_keyword (codes "node"))) (begins_first (is_keyword (codes "node"))) a_coded_tracks
        (cond_tracks (begins (is_keyword (codes "external"))) (begins_first (is_keyword (codes "external"))) an_external_tracks a_module_tracks)))

    pub declarations_tracks : Tracks Same (declarations_at room) (declarations_at more)
    unfolding declarations_at
    declarations_tracks = all_tracks is_some some_first (declaration_at room) (declaration_at more) declaration_tracks (declaration_short room)
