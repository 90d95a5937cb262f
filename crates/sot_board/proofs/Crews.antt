-- What the crew of a node drafts.
use Rattle.std.proofs.Common.{◌≡◌, ℕ, ℤ, Option, Some, None, List, length, take, refl, sym, ap, ◌∙◌, subst, arith}
use Rattle.std.proofs.Math.Seq.{take-append_seam}
use Rattle.std.proofs.lemmas.Option.{slice_get_within, same_Some}
use Rattle.std.specs.Prelude.{option_map, IsSome}
use Rattle.sot_lists.specs.Places.{At}
use Rattle.sot_lists.proofs.Places.{at_below}
use Rattle.sot_lang.specs.declared.tables.NodeInfo.{NodeInfo}
use Rattle.sot_lang.specs.Tables.{Tables}
use Rattle.sot_code.specs.Recorded.{in_slots}
use Rattle.sot_world.specs.Steps.{Guest}
use Rattle.sot_world.specs.Events.{slot_count}
use Rattle.sot_world.proofs.Possible.{slots_of}
use Rattle.sot_flight.specs.Plans as plans
use Rattle.sot_flight.specs.Stated.{draft_of}
use Rattle.sot_flight.specs.Fits.{FitsCrew}
use Rattle.sot_flight.proofs.Fitting.{draft_size}
use Rattle.sot_board.specs.Flown.{fired_of, IsStated, IsStatedDraft}
use Rattle.sot_board.specs.Standing.{Standing, IsStanding}

-- a guest's node is not coded
pub guest_external : (s : Standing) → IsStanding s → (n : ℕ) → (i : ℕ) × At s.plan.crews n (plans.Guest i)
    → (info : NodeInfo) × At s.accepted.program.nodes n info × (info.body ≡ None)
guest_external s is n (i, at) =
    let info = at_below s.accepted.program.nodes n (omega (arith, slice_get_within s.plan.crews n (plans.Guest i) at, is.fits.crews)) in
    (info.0, info.1, is.fits.crewed n info.0 (plans.Guest i) info.1 at)

-- .. and any draft of it is as stated
pub guest_stated : (s : Standing) → IsStanding s → (n : ℕ) (draft : List (Option ℤ)) → (i : ℕ) × At s.plan.crews n (plans.Guest i)
    → IsStated s.accepted.program s.plan s.position (Guest n draft)
guest_stated s is n draft (i, at) =
    let info = at_below s.accepted.program.nodes n (omega (arith, slice_get_within s.plan.crews n (plans.Guest i) at, is.fits.crews)) in
    (info.0, plans.Guest i, info.1, at, tt)

-- where a node is not coded and no guest flies it, each draft is stated
some_draft :
    (p : Tables) (info : NodeInfo) (crew : plans.Crew) (k : ℕ) → info.body ≡ None → FitsCrew info crew → ((i : ℕ) → crew ≡ plans.Guest i → ⊥)
    → (draft : List (Option ℤ)) × (draft_of p info crew k ≡ Some draft)
some_draft p info plans.Coded k none fits not = absurd (let e = sym none ∙ fits.1.1 in cc)
some_draft p info (plans.Script drafts) k none fits not = (_, refl)
some_draft p info (plans.Wild spread seed stream) k none fits not = (_, refl)
some_draft p info (plans.Guest i) k none fits not = absurd (not i refl)

pub crew_drafts :
    (s : Standing) → IsStanding s → (n : ℕ) → (info : NodeInfo) × At s.accepted.program.nodes n info × (info.body ≡ None)
    → ((i : ℕ) → At s.plan.crews n (plans.Guest i) → ⊥)
    → (info : NodeInfo) × (crew : plans.Crew) × At s.accepted.program.nodes n info × At s.plan.crews n crew × FitsCrew info crew
    × ((draft : List (Option ℤ)) × (draft_of s.accepted.program info crew (fired_of s.position n) ≡ Some draft))
crew_drafts s is n (info, at, none) not =
    let crew = at_below s.plan.crews n (omega (arith, slice_get_within s.accepted.program.nodes n info at, is.fits.crews)) in
    let fits = is.fits.crewed n info crew.0 at crew.1 in (
      info,
      crew.0,
      at,
      crew.1,
      fits,
      some_draft s.accepted.program info crew.0 (fired_of s.position n) none fits
          (λ i e. not i (subst (λ x. At s.plan.crews n x) e crew.1)),
    )

-- the draft in eight slots has the stated one in the node's own
pub stated_is :
    (s : Standing) (n : ℕ) (info : NodeInfo) (crew : plans.Crew) (draft slots : List (Option ℤ)) → At s.accepted.program.nodes n info → At s.plan.crews n crew
    → FitsCrew info crew
    → draft_of s.accepted.program info crew (fired_of s.position n) ≡ Some draft → slots ≡ in_slots draft
    → IsStated s.accepted.program s.plan s.position (Guest n (take (slot_count s.accepted.program n) slots))
stated_is s n info crew draft slots at at_c fits is same =
    let p = s.accepted.program in
    let size : slot_count p n ≡ length draft = slots_of p n info at ∙ sym (draft_size p info crew (fired_of s.position n) draft fits is) in
    let own : take (slot_count p n) slots ≡ draft = ap (λ k. take k slots) size ∙ ap (take (length draft)) same ∙ take-append_seam draft _ in
    (info, crew, at, at_c, subst (λ o. IsStatedDraft o (take (slot_count p n) slots)) (sym is) own)

-- what is answered is the draft in eight slots
answer_is :
    (p q : Tables) (info : NodeInfo) (crew : plans.Crew) (i k : ℕ) (result : Option (List (Option ℤ))) (draft : List (Option ℤ)) → p ≡ q → i ≡ k
    → result ≡ option_map in_slots (draft_of p info crew i)
    → draft_of q info crew k ≡ Some draft → result ≡ Some (in_slots draft)
answer_is p q info crew i k result draft a b told is =
    told ∙ ap (λ t. option_map in_slots (draft_of t info crew i)) a ∙ ap (λ n. option_map in_slots (draft_of q info crew n)) b ∙ ap (option_map in_slots) is

pub some_answer :
    (p q : Tables) (info : NodeInfo) (crew : plans.Crew) (i k : ℕ) (result : Option (List (Option ℤ))) (draft : List (Option ℤ)) → p ≡ q → i ≡ k
    → result ≡ option_map in_slots (draft_of p info crew i)
    → draft_of q info crew k ≡ Some draft → IsSome result
some_answer p q info crew i k result draft a b told is = subst IsSome (sym (answer_is p q info crew i k result draft a b told is)) refl

pub slots_same :
    (p q : Tables) (info : NodeInfo) (crew : plans.Crew) (i k : ℕ) (result : Option (List (Option ℤ))) (draft slots : List (Option ℤ)) → p ≡ q → i ≡ k
    → result ≡ option_map in_slots (draft_of p info crew i)
    → draft_of q info crew k ≡ Some draft → result ≡ Some slots → slots ≡ in_slots draft
slots_same p q info crew i k result draft slots a b told is some =
    same_Some slots (in_slots draft) (sym some ∙ answer_is p q info crew i k result draft a b told is)
