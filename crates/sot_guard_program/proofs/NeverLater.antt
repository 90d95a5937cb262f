-- Want of memory ends a call before a robot is answered, or never.
use Rattle.std.proofs.Common.{◌≡◌, ℕ, Bool, true, false, List, [], ◌++◌, inl, inr, sym, ap, ◌∙◌, append-nil, arith}
use Rattle.std.specs.Prelude.{◌≢◌, ◌⊎◌, if◌then◌else◌, String}
use Rattle.std.proofs.Common.{Global}
use Rattle.sot_ports.specs.Outside.{Outside}
use Rattle.sot_tube.specs.Admitted.{Admitted}
use Rattle.sot_report.specs.AcceptedTexts.{accepted_text}
use Rattle.sot_guard_lines.specs.Outline.{outline_text}
use Rattle.sot_guard_protocol.specs.Talks.{Talking}
use Rattle.sot_guard_program.specs.Moments.{Ears}
use Rattle.sot_guard_program.specs.Says.{SaysTalk, SaysRobot, SaysOutline, SaysMission, SaysAll, Says}
use Rattle.sot_guard_program.specs.Ends.{Ends, IsAcceptance, AnswersNoLine}

end_not_six : (b : Bool) → ◌≢◌ {A = ℕ} (if b then 0 else 1) 6
end_not_six true = λ e. absurd (omega arith)
end_not_six false = λ e. absurd (omega arith)

-- no talk ends so
talk_not_six : (t : Talking) (before : ℕ) (b : Ears) (said : ℕ) (spoken : List (List ℕ)) (text : List ℕ) → SaysTalk t before b said spoken text → said ≢ 6
talk_not_six t before b said spoken text (inl closes) =
    λ six. absurd (end_not_six closes.last.hearing.guarding.trusted (sym closes.said_is ∙ six))
talk_not_six t before b said spoken text (inr (inl mistakes)) = λ six. absurd (omega (arith, mistakes.said_is, six))
talk_not_six t before b said spoken text (inr (inr so_far)) = λ six. absurd (omega (arith, so_far.said_is, six))

-- nothing is said behind the answer to the mission
robot_silent : (time : ℕ) (acc : Admitted) (b : Ears) (said : ℕ) (spoken : List (List ℕ)) (text : List ℕ) → SaysRobot time acc b said spoken text → said ≡ 6 → text ≡ []
robot_silent time acc b said spoken text (inl talks) six =
    absurd (talk_not_six talks.first _ b said talks.more talks.says.0 talks.says.2 six)
robot_silent time acc b said spoken text (inr (inl refuses)) six = absurd (omega (arith, refuses.said_is, six))
robot_silent time acc b said spoken text (inr (inr (inl mistakes))) six = absurd (omega (arith, mistakes.said_is, six))
robot_silent time acc b said spoken text (inr (inr (inr (inl so_far)))) six = absurd (omega (arith, so_far.said_is, six))
robot_silent time acc b said spoken text (inr (inr (inr (inr never)))) six = never.1.1

-- nothing is said behind what a robot has to know
outline_alone : (time : ℕ) (acc : Admitted) (b : Ears) (said : ℕ) (spoken : List (List ℕ)) (text : List ℕ) → SaysOutline time acc b said spoken text
    → said ≡ 6 → text ≡ outline_text acc.program
outline_alone time acc b said spoken text (more, is, says) six =
    let outline = outline_text acc.program in
    is ∙ ap (λ l. outline ++ l) (robot_silent time acc b said spoken more says six) ∙ append-nil outline

abbrev SaysNoLine : List ℕ → Type 0
SaysNoLine text = (text ≡ []) ⊎ IsAcceptance text

mission_silent : (time : ℕ) (front : List ℕ) (b : Ears) (said : ℕ) (bytes text : List ℕ) → SaysMission time front b said bytes text → said ≡ 6
    → SaysNoLine text
mission_silent time front b said bytes text (inl (m, spells, accepts)) six =
    let whole = accepted_text m.tables m.cert in
    inr (
      front,
      m,
      spells,
      accepts.accepted,
      accepts.text_is ∙ ap (λ l. whole ++ l) (outline_alone time _ b said _ accepts.more accepts.says six),
    )
mission_silent time front b said bytes text (inr (inl (m, spells, one, refuses))) six = absurd (omega (arith, one, six))
mission_silent time front b said bytes text (inr (inr (inl (three, fault)))) six = absurd (omega (arith, three, six))
mission_silent time front b said bytes text (inr (inr (inr silent))) six = inl silent.1

all_silent : (b : Ears) (said : ℕ) (bytes text : List ℕ) → SaysAll b said bytes text → said ≡ 6 → SaysNoLine text
all_silent b said bytes text (inl divides) six = mission_silent divides.time divides.front b said divides.behind text divides.says six
all_silent b said bytes text (inr (inl lacks)) six = absurd (omega (arith, lacks.said_is, six))
all_silent b said bytes text (inr (inr (inl long))) six = absurd (omega (arith, long.said_is, six))
all_silent b said bytes text (inr (inr (inr (inl (four, none))))) six = absurd (omega (arith, four, six))
all_silent b said bytes text (inr (inr (inr (inr silent)))) six = inl silent.1

says_silent : (words : List (String Global)) (b : Ears) (said : ℕ) (bytes text : List ℕ) → Says words b said bytes text → said ≡ 6 → SaysNoLine text
says_silent words b said bytes text (inl (some, none, inl (two, usage))) six = absurd (omega (arith, two, six))
says_silent words b said bytes text (inl (some, none, inr silent)) six = inl silent.1
says_silent words b said bytes text (inr (none, all)) six = all_silent b said bytes text all six

-- a call that ends with 6 has answered a robot nothing
pub never_later : (words : List (String Global)) (before after : Outside) (status : ℕ) → Ends words before after status → status ≡ 6
    → AnswersNoLine before after
never_later words before after status ends six =
    let r = ends.is in
    elim r.written [
      | inl (is, well, taken) ↦ (r.text, says_silent words _ r.said r.passed r.text r.says (sym is ∙ six), taken)
      | inr (five, rose, part) ↦ absurd (omega (arith, five, six))
    ]
