-- `clap` takes the word of a command: alone, or with one or two words behind it.
use Rattle.std.proofs.Common.{◌≡◌, ℕ, List, [], ◌∷◌, ◌++◌, Bool, true, false, ◌||◌, inl, inr, Option, Some, None, refl, sym, ap, ◌∙◌, subst, codes, map}
use Rattle.std.proofs.Common.{append_assoc, ◌==◌, arith, get_or, Global, ◌≢◌, ◌⊎◌, Result, Ok, Err}
use Rattle.std.specs.Prelude.{option_map, find, fold, if◌then◌else◌, String, IfOk, IsErrOf, Box}
use Rattle.std.specs.List.{list_any}
use Rattle.std.specs.Str.{bytes_eq}
use Rattle.std.specs.String.{string_bytes}
use Rattle.std.specs.Fmt.{decimal}
use Rattle.std.proofs.lemmas.Bool.{cases_Bool, or_parts}
use Rattle.std.proofs.lemmas.List.{append-nil}
use Rattle.std.proofs.lemmas.Option.{same_Some}
use Rattle.std.specs.Box.{box_value}
use Rattle.clap.specs.declared.parser.matches.SubCommand.{SubCommand}
use Rattle.clap.specs.declared.parser.matches.ArgMatches.TheViews.{out-SubCommand}
use Rattle.std.proofs.lemmas.Slice.Eq.{bytes_eq-Decides}
use Rattle.clap.specs.Walk.{Held, Names, Step, Text, Waiting, idle, value, answers_to, nothing_held, walk, walk_from, walked, word_met}
use Rattle.clap.specs.Simple.{Shape, built, entered, built_leaf, inherited, marked_built, is_simple, names_of, new_shape, subcommand_of, subcommand_rows}
use Rattle.clap.specs.Simple.{with_leaf_noted}
use Rattle.clap.specs.Kinds.{Kinds, IsAmong, or_else}
use Rattle.clap.specs.Faults.{turn_fault, step_fault, stray_fault, walk_fault, level_fault, entered_fault, fault_of, is_simple_and_free}
use Rattle.clap.specs.declared.error.kind.ErrorKind.{ErrorKind}
use Rattle.clap.specs.declared.error.kind.ErrorKind.TheVariants as kind
use Rattle.clap.proofs.OnLiterals.{clap_on_literals}
use Rattle.sot_commands.specs.declared.words.Command.{Command}
use Rattle.sot_commands.specs.declared.words.Command.TheVariants.{Check, Fly, Replay, Recover, Watch, Format, Certify, Make, Soak}
use Rattle.sot_commands.specs.declared.words.WordFail.{WordFail}
use Rattle.sot_commands.specs.declared.words.WordFail.TheVariants.{Form}
use Rattle.sot_commands.specs.Words.{word_of, words_behind, AreAsked, IsInForm, Asks, HasNumbers, HasFormula, IsNumbered}
use Rattle.sot_commands.specs.WordParser.{is_dashed, numbered, program}
use Rattle.sot_commands.proofs.OneCommand.{at_text}
use Rattle.sot_commands.proofs.Decimals.{plain_decimal, dashless}

no_words : fault_of program [] ≡ [] → ⊥
unfolding clap_on_literals
no_words e = absurd cc

neither : (a b : Kinds) → or_else a b ≡ [] → (a ≡ []) × (b ≡ [])
neither [] b e = (refl, e)
neither (k ∷ ks) b e = absurd cc

-- a word without '-' that names no subcommand is a value
is_value : (names : Names) (word : Text) → is_dashed word ≡ false → find (answers_to word) names ≡ None
    → word_met [] names false idle 1 word nothing_held ≡ (nothing_held, value)
is_value names [] plain none = rw none refl
is_value names (x ∷ xs) plain none = rw (none, plain, plain) refl

two_kinds : (b : Bool) (k l m : ErrorKind) → (if b then k ∷ [] else l ∷ m ∷ []) ≡ [] → ⊥
two_kinds true k l m e = absurd cc
two_kinds false k l m e = absurd cc

-- and no command has a place for one
strays : (s : Shape) (names : Names) (word : Text) (rest : List Text) → s.rules ≡ [] → is_dashed word ≡ false → find (answers_to word) names ≡ None
    → walk_fault s names (walk_from nothing_held) (word ∷ rest) ≡ [] → ⊥
unfolding walk_fault
strays s names word rest rules plain none e =
    let met : word_met s.rules names false idle 1 word nothing_held ≡ (nothing_held, value) = rw rules (is_value names word plain none) in
    let turn : turn_fault s names (walk_from nothing_held) word ≡ [] = (neither _ _ e).0 in
    let step : step_fault s 1 (word_met s.rules names false idle 1 word nothing_held).0 (word_met s.rules names false idle 1 word nothing_held).1 ≡ [] =
    (neither _ _ turn).1 in
    let at_value : step_fault s 1 nothing_held value ≡ [] = subst (λ (m : Held × Step). step_fault s 1 m.0 m.1 ≡ []) met step in
    let stray : stray_fault s ≡ [] = rw rules at at_value in
    two_kinds s.is_leaf kind.UnknownArgument kind.UnknownArgument kind.InvalidSubcommand stray

-- a walk that stopped at a subcommand keeps the words behind it
stops : (names : Names) (h : Held) (waiting : Waiting) (position : ℕ) (trailing : Bool) (name : Text) (behind rest : List Text)
    → (fold (walked [] names) (record { held = h; waiting = waiting; position = position; is_trailing = trailing; stopped = Some (name, behind) }) rest).stopped
    ≡ Some (name, behind ++ rest)
unfolding walked
stops names h waiting position trailing name behind [] = ap (λ (l : List Text). Some (name, l)) (sym (append-nil behind))
stops names h waiting position trailing name behind (r ∷ rest) =
    stops names h waiting position trailing name (behind ++ r ∷ []) rest ∙ ap (λ (l : List Text). Some (name, l)) (append_assoc behind (r ∷ []) rest)

-- the program when it is built: its subcommands' names, and each of them
abbrev sub_names : Names
sub_names = names_of (built program)

abbrev sub_shape : Text → Shape
sub_shape name = built_leaf (inherited (with_leaf_noted (marked_built program.top)) (new_shape name))

-- a subcommand takes no word
nothing_behind : (s : Shape) (r : Text) (rest : List Text) → s.rules ≡ [] → is_dashed r ≡ false → level_fault s [] nothing_held (r ∷ rest) false [] ≡ [] → ⊥
nothing_behind s r rest rules plain e = strays s [] r rest rules plain refl (neither _ _ e).0

-- behind the word of a command that has none behind it stands no further word
alone : (c : Command) (rest : List Text) → words_behind c ≡ [] → list_any is_dashed rest ≡ false → fault_of program (word_of c ∷ rest) ≡ [] → rest ≡ []
unfolding walked
alone c [] none plain e = refl
alone Check (r ∷ rest) none plain e =
    let parts = or_parts (is_dashed r) (list_any is_dashed rest) plain in
    let below : entered_fault (built program) (walk [] sub_names nothing_held (codes "check" ∷ r ∷ rest)).stopped ≡ [] = (neither _ _ (neither _ _ e).1).0 in
    let inner : entered_fault (built program) (Some (codes "check", r ∷ rest)) ≡ [] =
    subst (λ (p : Option (Text × List Text)). entered_fault (built program) p ≡ []) (stops sub_names nothing_held idle 1 false (codes "check") [] (r ∷ rest))
    below in
    absurd (nothing_behind (sub_shape (codes "check")) r rest refl parts.0 inner)
alone Fly (r ∷ rest) none plain e =
    let parts = or_parts (is_dashed r) (list_any is_dashed rest) plain in
    let below : entered_fault (built program) (walk [] sub_names nothing_held (codes "fly" ∷ r ∷ rest)).stopped ≡ [] = (neither _ _ (neither _ _ e).1).0 in
    let inner : entered_fault (built program) (Some (codes "fly", r ∷ rest)) ≡ [] =
    subst (λ (p : Option (Text × List Text)). entered_fault (built program) p ≡ []) (stops sub_names nothing_held idle 1 false (codes "fly") [] (r ∷ rest))
    below in
    absurd (nothing_behind (sub_shape (codes "fly")) r rest refl parts.0 inner)
alone Replay (r ∷ rest) none plain e =
    let parts = or_parts (is_dashed r) (list_any is_dashed rest) plain in
    let below : entered_fault (built program) (walk [] sub_names nothing_held (codes "replay" ∷ r ∷ rest)).stopped ≡ [] = (neither _ _ (neither _ _ e).1).0 in
    let inner : entered_fault (built program) (Some (codes "replay", r ∷ rest)) ≡ [] =
    subst (λ (p : Option (Text × List Text)). entered_fault (built program) p ≡ []) (stops sub_names nothing_held idle 1 false (codes "replay") [] (r ∷ rest))
    below in
    absurd (nothing_behind (sub_shape (codes "replay")) r rest refl parts.0 inner)
alone Recover (r ∷ rest) none plain e =
    let parts = or_parts (is_dashed r) (list_any is_dashed rest) plain in
    let below : entered_fault (built program) (walk [] sub_names nothing_held (codes "recover" ∷ r ∷ rest)).stopped ≡ [] = (neither _ _ (neither _ _ e).1).0 in
    let inner : entered_fault (built program) (Some (codes "recover", r ∷ rest)) ≡ [] =
    subst (λ (p : Option (Text × List Text)). entered_fault (built program) p ≡ []) (stops sub_names nothing_held idle 1 false (codes "recover") [] (r ∷ rest))
    below in
    absurd (nothing_behind (sub_shape (codes "recover")) r rest refl parts.0 inner)
alone Format (r ∷ rest) none plain e =
    let parts = or_parts (is_dashed r) (list_any is_dashed rest) plain in
    let below : entered_fault (built program) (walk [] sub_names nothing_held (codes "format" ∷ r ∷ rest)).stopped ≡ [] = (neither _ _ (neither _ _ e).1).0 in
    let inner : entered_fault (built program) (Some (codes "format", r ∷ rest)) ≡ [] =
    subst (λ (p : Option (Text × List Text)). entered_fault (built program) p ≡ []) (stops sub_names nothing_held idle 1 false (codes "format") [] (r ∷ rest))
    below in
    absurd (nothing_behind (sub_shape (codes "format")) r rest refl parts.0 inner)
alone Certify (r ∷ rest) none plain e =
    let parts = or_parts (is_dashed r) (list_any is_dashed rest) plain in
    let below : entered_fault (built program) (walk [] sub_names nothing_held (codes "certify" ∷ r ∷ rest)).stopped ≡ [] = (neither _ _ (neither _ _ e).1).0 in
    let inner : entered_fault (built program) (Some (codes "certify", r ∷ rest)) ≡ [] =
    subst (λ (p : Option (Text × List Text)). entered_fault (built program) p ≡ []) (stops sub_names nothing_held idle 1 false (codes "certify") [] (r ∷ rest))
    below in
    absurd (nothing_behind (sub_shape (codes "certify")) r rest refl parts.0 inner)
alone (Watch formula) (r ∷ rest) none plain e = absurd cc
alone (Make n seed) (r ∷ rest) none plain e = absurd cc
alone (Soak n seed) (r ∷ rest) none plain e = absurd cc

begins : (c : Command) (w : Text) (rest : List Text) → word_of c ≡ w → list_any is_dashed rest ≡ false → fault_of program (w ∷ rest) ≡ []
    → (rest' : List Text) × (w ∷ rest ≡ word_of c ∷ rest') × (words_behind c ≡ [] → rest' ≡ [])
begins c w rest is plain e =
    (rest, ap (λ (t : Text). t ∷ rest) (sym is), λ none. alone c rest none plain (subst (λ (t : Text). fault_of program (t ∷ rest) ≡ []) (sym is) e))

-- what is taken begins with the word of a command, and is no more where the command has no word behind it
pub only : (words : List Text) → list_any is_dashed words ≡ false → fault_of program words ≡ []
    → (c : Command) × ((rest : List Text) × (words ≡ word_of c ∷ rest) × (words_behind c ≡ [] → rest ≡ []))
only [] plain e = absurd (no_words e)
only (w ∷ rest) plain e =
    let parts = or_parts (is_dashed w) (list_any is_dashed rest) plain in
    elim (cases_Bool (bytes_eq (codes "check") w)) [
      | inl is ↦ (Check, begins Check w rest ((bytes_eq-Decides (codes "check") w).0 is) parts.1 e)
      | inr no_check ↦
          elim (cases_Bool (bytes_eq (codes "fly") w)) [
            | inl is ↦ (Fly, begins Fly w rest ((bytes_eq-Decides (codes "fly") w).0 is) parts.1 e)
            | inr no_fly ↦
                elim (cases_Bool (bytes_eq (codes "replay") w)) [
                  | inl is ↦ (Replay, begins Replay w rest ((bytes_eq-Decides (codes "replay") w).0 is) parts.1 e)
                  | inr no_replay ↦
                      elim (cases_Bool (bytes_eq (codes "recover") w)) [
                        | inl is ↦ (Recover, begins Recover w rest ((bytes_eq-Decides (codes "recover") w).0 is) parts.1 e)
                        | inr no_recover ↦
                            elim (cases_Bool (bytes_eq (codes "watch") w)) [
                              | inl is ↦ (Watch (at_text []), begins (Watch (at_text [])) w rest ((bytes_eq-Decides (codes "watch") w).0 is) parts.1 e)
                              | inr no_watch ↦
                                  elim (cases_Bool (bytes_eq (codes "format") w)) [
                                    | inl is ↦ (Format, begins Format w rest ((bytes_eq-Decides (codes "format") w).0 is) parts.1 e)
                                    | inr no_format ↦
                                        elim (cases_Bool (bytes_eq (codes "certify") w)) [
                                          | inl is ↦ (Certify, begins Certify w rest ((bytes_eq-Decides (codes "certify") w).0 is) parts.1 e)
                                          | inr no_certify ↦
                                              elim (cases_Bool (bytes_eq (codes "make") w)) [
                                                | inl is ↦ (Make 0 0, begins (Make 0 0) w rest ((bytes_eq-Decides (codes "make") w).0 is) parts.1 e)
                                                | inr no_make ↦
                                                    elim (cases_Bool (bytes_eq (codes "soak") w)) [
                                                      | inl is ↦ (Soak 0 0, begins (Soak 0 0) w rest ((bytes_eq-Decides (codes "soak") w).0 is) parts.1 e)
                                                      | inr no_soak ↦
                                                          let none : find (answers_to w) sub_names ≡ None =
                                                          rw (no_check, no_fly, no_replay, no_recover, no_watch, no_format, no_certify, no_make, no_soak)
                                                          refl in
                                                          absurd (strays (built program).top sub_names w rest refl parts.0 none (neither _ _ e).0)
                                                    ]
                                              ]
                                        ]
                                  ]
                            ]
                      ]
                ]
          ]
    ]

-- the word of a command names the command, whatever stands behind it
pub named : (c : Command) (rest : List Text) → option_map (λ p. p.0) (subcommand_of program (word_of c ∷ rest)) ≡ Some (word_of c)
unfolding walked clap_on_literals
named Check rest =
    subst (λ (p : Option (Text × List Text)). option_map (λ q. q.0) (entered (built program) p) ≡ Some (codes "check"))
    (sym (stops sub_names nothing_held idle 1 false (codes "check") [] rest)) refl
named Fly rest =
    subst (λ (p : Option (Text × List Text)). option_map (λ q. q.0) (entered (built program) p) ≡ Some (codes "fly"))
    (sym (stops sub_names nothing_held idle 1 false (codes "fly") [] rest)) refl
named Replay rest =
    subst (λ (p : Option (Text × List Text)). option_map (λ q. q.0) (entered (built program) p) ≡ Some (codes "replay"))
    (sym (stops sub_names nothing_held idle 1 false (codes "replay") [] rest)) refl
named Recover rest =
    subst (λ (p : Option (Text × List Text)). option_map (λ q. q.0) (entered (built program) p) ≡ Some (codes "recover"))
    (sym (stops sub_names nothing_held idle 1 false (codes "recover") [] rest)) refl
named (Watch formula) rest =
    subst (λ (p : Option (Text × List Text)). option_map (λ q. q.0) (entered (built program) p) ≡ Some (codes "watch"))
    (sym (stops sub_names nothing_held idle 1 false (codes "watch") [] rest)) refl
named Format rest =
    subst (λ (p : Option (Text × List Text)). option_map (λ q. q.0) (entered (built program) p) ≡ Some (codes "format"))
    (sym (stops sub_names nothing_held idle 1 false (codes "format") [] rest)) refl
named Certify rest =
    subst (λ (p : Option (Text × List Text)). option_map (λ q. q.0) (entered (built program) p) ≡ Some (codes "certify"))
    (sym (stops sub_names nothing_held idle 1 false (codes "certify") [] rest)) refl
named (Make n seed) rest =
    subst (λ (p : Option (Text × List Text)). option_map (λ q. q.0) (entered (built program) p) ≡ Some (codes "make"))
    (sym (stops sub_names nothing_held idle 1 false (codes "make") [] rest)) refl
named (Soak n seed) rest =
    subst (λ (p : Option (Text × List Text)). option_map (λ q. q.0) (entered (built program) p) ≡ Some (codes "soak"))
    (sym (stops sub_names nothing_held idle 1 false (codes "soak") [] rest)) refl

-- two words that do not begin with '-' are taken behind `make` and `soak`
make_taken : (x y : ℕ) (xs ys : List ℕ) → (x == 45) ≡ false → (y == 45) ≡ false → fault_of program (codes "make" ∷ (x ∷ xs) ∷ (y ∷ ys) ∷ []) ≡ []
unfolding clap_on_literals
make_taken x y xs ys p q = rw (p, p, q, q) refl

soak_taken : (x y : ℕ) (xs ys : List ℕ) → (x == 45) ≡ false → (y == 45) ≡ false → fault_of program (codes "soak" ∷ (x ∷ xs) ∷ (y ∷ ys) ∷ []) ≡ []
unfolding clap_on_literals
soak_taken x y xs ys p q = rw (p, p, q, q) refl

-- so is one behind `watch`, also an empty one
watch_taken : (t : Text) → is_dashed t ≡ false → fault_of program (codes "watch" ∷ t ∷ []) ≡ []
unfolding clap_on_literals
watch_taken [] p = refl
watch_taken (x ∷ xs) p = rw (p, p) refl

-- the words that ask for a command are taken
pub taken : (c : Command) → IsInForm c → fault_of program (word_of c ∷ words_behind c) ≡ []
unfolding clap_on_literals
taken Check form = refl
taken Fly form = refl
taken Replay form = refl
taken Recover form = refl
taken (Watch formula) form = watch_taken formula.now form
taken Format form = refl
taken Certify form = refl
taken (Make n seed) form =
    let d = plain_decimal n (omega arith) in
    let e = plain_decimal seed (omega arith) in
    ap (λ (t : Text). fault_of program (codes "make" ∷ t ∷ decimal seed ∷ [])) d.2
    ∙ ap (λ (t : Text). fault_of program (codes "make" ∷ (d.0 ∷ d.1) ∷ t ∷ [])) e.2
    ∙ make_taken d.0 e.0 d.1 e.1 d.3 e.3
taken (Soak n seed) form =
    let d = plain_decimal n (omega arith) in
    let e = plain_decimal seed (omega arith) in
    ap (λ (t : Text). fault_of program (codes "soak" ∷ t ∷ decimal seed ∷ [])) d.2
    ∙ ap (λ (t : Text). fault_of program (codes "soak" ∷ (d.0 ∷ d.1) ∷ t ∷ [])) e.2
    ∙ soak_taken d.0 e.0 d.1 e.1 d.3 e.3

dashed_words : (words : List (String Global)) → list_any (λ w. is_dashed (string_bytes w)) words ≡ list_any is_dashed (map string_bytes words)
dashed_words [] = refl
dashed_words (w ∷ words) = ap (λ (b : Bool). is_dashed (string_bytes w) || b) (dashed_words words)

two_dashless : (word : Text) (n seed : ℕ) → is_dashed word ≡ false → AreAsked n seed → list_any is_dashed (word ∷ decimal n ∷ decimal seed ∷ []) ≡ false
two_dashless word n seed plain form = rw (plain, dashless n (omega arith), dashless seed (omega arith)) refl

no_dash : (c : Command) → IsInForm c → list_any is_dashed (word_of c ∷ words_behind c) ≡ false
no_dash Check form = refl
no_dash Fly form = refl
no_dash Replay form = refl
no_dash Recover form = refl
no_dash (Watch formula) form = rw form refl
no_dash Format form = refl
no_dash Certify form = refl
no_dash (Make n seed) form = two_dashless (codes "make") n seed refl form
no_dash (Soak n seed) form = two_dashless (codes "soak") n seed refl form

-- words with '-' ask for nothing
pub dash_asks : (words : List (String Global)) (c : Command) → list_any (λ w. is_dashed (string_bytes w)) words ≡ true → Asks words c → ⊥
dash_asks words c dash asks =
    let clean : true ≡ false = sym dash ∙ dashed_words words ∙ ap (list_any is_dashed) asks.0 ∙ no_dash c asks.1 in
    absurd cc

-- a word says whether words stand behind it
is_bare : List Text → Bool
is_bare [] = true
is_bare (t ∷ ts) = false

wants_none : Text → Bool
wants_none word =
    if bytes_eq word (codes "make") then false
    else if bytes_eq word (codes "soak") then false
    else if bytes_eq word (codes "watch") then false
    else true

bare_word : (c : Command) → is_bare (words_behind c) ≡ wants_none (word_of c)
unfolding is_bare wants_none
bare_word Check = refl
bare_word Fly = refl
bare_word Replay = refl
bare_word Recover = refl
bare_word (Watch formula) = refl
bare_word Format = refl
bare_word Certify = refl
bare_word (Make n seed) = refl
bare_word (Soak n seed) = refl

bare_none : (ts : List Text) → is_bare ts ≡ true → ts ≡ []
unfolding is_bare
bare_none [] e = refl
bare_none (t ∷ ts) e = absurd cc

-- commands of one word have both no word behind it
both_bare : (c d : Command) → word_of c ≡ word_of d → is_bare (words_behind c) ≡ true → words_behind d ≡ []
both_bare c d same e = bare_none (words_behind d) (bare_word d ∙ ap wants_none (sym same) ∙ sym (bare_word c) ∙ e)

head_same : (a b : Text) (behind rest : List Text) → a ∷ behind ≡ b ∷ rest → a ≡ b
head_same a b behind rest e = cc

-- a command's word, with what belongs to it behind the first word
asked : (words : List (String Global)) (d : Command) (rest : List Text) → list_any is_dashed (map string_bytes words) ≡ false
    → map string_bytes words ≡ word_of d ∷ rest → (words_behind d ≡ [] → rest ≡ [])
    → (c : Command) → word_of c ≡ word_of d → IsNumbered words c → Asks words c
unfolding is_bare
asked words d rest plain begins none Check same numbered = (begins ∙ cc (none (both_bare Check d same refl)), tt)
asked words d rest plain begins none Fly same numbered = (begins ∙ cc (none (both_bare Fly d same refl)), tt)
asked words d rest plain begins none Replay same numbered = (begins ∙ cc (none (both_bare Replay d same refl)), tt)
asked words d rest plain begins none Recover same numbered = (begins ∙ cc (none (both_bare Recover d same refl)), tt)
asked words d rest plain begins none (Watch formula) same (name, is) =
    let first : name ≡ codes "watch" = head_same name (word_of d) _ rest (sym is ∙ begins) ∙ sym same in
    let behind = or_parts (is_dashed name) (is_dashed formula.now || false) (ap (list_any is_dashed) (sym is) ∙ plain) in
    (is ∙ ap (λ (t : Text). t ∷ formula.now ∷ []) first, (or_parts (is_dashed formula.now) false behind.1).0)
asked words d rest plain begins none Format same numbered = (begins ∙ cc (none (both_bare Format d same refl)), tt)
asked words d rest plain begins none Certify same numbered = (begins ∙ cc (none (both_bare Certify d same refl)), tt)
asked words d rest plain begins none (Make n seed) same (name, is, form) =
    let first : name ≡ codes "make" = head_same name (word_of d) _ rest (sym is ∙ begins) ∙ sym same in
    (is ∙ ap (λ (t : Text). t ∷ decimal n ∷ decimal seed ∷ []) first, form)
asked words d rest plain begins none (Soak n seed) same (name, is, form) =
    let first : name ≡ codes "soak" = head_same name (word_of d) _ rest (sym is ∙ begins) ∙ sym same in
    (is ∙ ap (λ (t : Text). t ∷ decimal n ∷ decimal seed ∷ []) first, form)

-- words that ask for a command have its numbers or its formula behind the first word
numbered_asks : (words : List (String Global)) (c : Command) → Asks words c → IsNumbered words c
numbered_asks words Check asks = tt
numbered_asks words Fly asks = tt
numbered_asks words Replay asks = tt
numbered_asks words Recover asks = tt
numbered_asks words (Watch formula) (is, form) = (codes "watch", is)
numbered_asks words Format asks = tt
numbered_asks words Certify asks = tt
numbered_asks words (Make n seed) (is, form) = (codes "make", is, form)
numbered_asks words (Soak n seed) (is, form) = (codes "soak", is, form)

-- words without '-' that `clap` takes ask for what was found
pub found_asks : (words : List (String Global)) (name : Option Text) (r : Result Command WordFail) → list_any (λ w. is_dashed (string_bytes w)) words ≡ false
    → fault_of program (map string_bytes words) ≡ [] → name ≡ option_map (λ p. p.0) (subcommand_of program (map string_bytes words))
    → IfOk r (λ c. (name ≡ Some (word_of c)) × IsNumbered words c) → IfOk r (λ c. Asks words c)
found_asks words name (Err f) plain free is ok = tt
found_asks words name (Ok c) plain free is (names, numbered) =
    let one = only (map string_bytes words) (sym (dashed_words words) ∙ plain) free in
    let first : name ≡ Some (word_of one.0) = is ∙ ap (λ (ws : List Text). option_map (λ p. p.0) (subcommand_of program ws)) one.1.1 ∙ named one.0 one.1.0 in
    asked words one.0 one.1.0 (sym (dashed_words words) ∙ plain) one.1.1 one.1.2 c (same_Some (word_of c) (word_of one.0) (sym names ∙ first)) numbered

-- and ask for nothing where nothing was found
pub lost_asks : (words : List (String Global)) (name : Option Text) → name ≡ option_map (λ p. p.0) (subcommand_of program (map string_bytes words))
    → ((c : Command) → name ≡ Some (word_of c) → ¬ (IsNumbered words c)) → (c : Command) → ¬ (Asks words c)
lost_asks words name is none c asks =
    let names : name ≡ Some (word_of c) = is ∙ ap (λ (ws : List Text). option_map (λ p. p.0) (subcommand_of program ws)) asks.0
    ∙ named c (words_behind c) in
    none c names (numbered_asks words c asks)

-- the name of the subcommand that was found
pub name_found : {Z : Type 0} (o : Option (Box SubCommand Z))
    → option_map (λ b. (out-SubCommand (box_value b)).name.now) o ≡ option_map (λ p. p.0) (subcommand_rows o)
name_found None = refl
name_found (Some b) = refl

pub is_simple_program : is_simple program ≡ true
unfolding clap_on_literals
is_simple_program = refl

pub is_free_program : is_simple_and_free program ≡ true
unfolding clap_on_literals
is_free_program = refl

-- words that `clap` does not take ask for nothing
pub fault_asks : (k : ErrorKind) (words : List (String Global)) (c : Command) → (k ≡ kind.OutOfMemory) ⊎ IsAmong k (fault_of program (map string_bytes words))
    → k ≢ kind.OutOfMemory
    → ¬ (Asks words c)
fault_asks k words c (inl memory) enough asks = enough memory
fault_asks k words c (inr among) enough asks =
    let free : fault_of program (map string_bytes words) ≡ [] = ap (fault_of program) asks.0 ∙ taken c asks.1 in
    subst (λ (l : Kinds). IsAmong k l) free among

-- the word `make` wants two numbers
pub make_wants : (words : List (String Global)) (c : Command) → codes "make" ≡ word_of c → IsNumbered words c → (n : ℕ) × (seed : ℕ) × HasNumbers words n seed
make_wants words Check e behind = absurd cc
make_wants words Fly e behind = absurd cc
make_wants words Replay e behind = absurd cc
make_wants words Recover e behind = absurd cc
make_wants words (Watch formula) e behind = absurd cc
make_wants words Format e behind = absurd cc
make_wants words Certify e behind = absurd cc
make_wants words (Make n seed) e behind = (n, seed, behind)
make_wants words (Soak n seed) e behind = (let first : 109 ≡ 115 = ap (λ (t : Text). get_or t 0 0) e in absurd (omega (arith, first)))

-- and so does `soak`
pub soak_wants : (words : List (String Global)) (c : Command) → codes "soak" ≡ word_of c → IsNumbered words c → (n : ℕ) × (seed : ℕ) × HasNumbers words n seed
soak_wants words Check e behind = absurd cc
soak_wants words Fly e behind = absurd cc
soak_wants words Replay e behind = absurd cc
soak_wants words Recover e behind = absurd cc
soak_wants words (Watch formula) e behind = absurd cc
soak_wants words Format e behind = absurd cc
soak_wants words Certify e behind = absurd cc
soak_wants words (Make n seed) e behind = (let first : 115 ≡ 109 = ap (λ (t : Text). get_or t 0 0) e in absurd (omega (arith, first)))
soak_wants words (Soak n seed) e behind = (n, seed, behind)

-- and `watch` wants a formula
pub watch_wants : (words : List (String Global)) (c : Command) → codes "watch" ≡ word_of c → IsNumbered words c → (formula : List ℕ) × HasFormula words formula
watch_wants words Check e behind = (let first : 119 ≡ 99 = ap (λ (t : Text). get_or t 0 0) e in absurd (omega (arith, first)))
watch_wants words Fly e behind = absurd cc
watch_wants words Replay e behind = absurd cc
watch_wants words Recover e behind = absurd cc
watch_wants words (Watch formula) e behind = (formula.now, behind)
watch_wants words Format e behind = absurd cc
watch_wants words Certify e behind = absurd cc
watch_wants words (Make n seed) e behind = absurd cc
watch_wants words (Soak n seed) e behind = absurd cc

-- an error stays one, whatever was wanted
pub err_again : {T U : Type 0} (f : WordFail) → IsErrOf {T = T} {E = WordFail} (Err f) Form → IsErrOf {T = U} {E = WordFail} (Err f) Form
err_again f e = (let same : f ≡ Form = cc in ap (λ (w : WordFail). Err w) same)
