-- The caller's work goes on, and its lists beside the board.
use Rattle.std.proofs.Common.{◌≡◌, ℕ, ◌+◌, ◌<◌, ⊎_elim, ℤ, Bool, List, length, ap, ◌∙◌, subst, arith}
use Rattle.std.proofs.lemmas.Bool.{cases_eq}
use Rattle.std.proofs.lemmas.Option.{slice_get_within}
use Rattle.sot_lists.specs.Places.{At}
use Rattle.sot_lists.proofs.Places.{at_same}
use Rattle.sot_turn.specs.Prefixes.{IsPrefix}
use Rattle.sot_world.specs.HistoryEntry.{Logged}
use Rattle.sot_world.specs.Steps.{Tick}
use Rattle.sot_board.specs.Standing.{Standing}
use Rattle.sot_board.specs.Calls.{Logs}
use Rattle.sot_board.specs.Versions.{drafts_of}
use Rattle.sot_workers.specs.declared.lists.NodeList.{NodeList}
use Rattle.sot_workers.specs.Flying.{IsMine}
use Rattle.sot_workers.specs.Instants.{IsSameInstant, GoesOn}
use Rattle.sot_workers.specs.Lists.{AreMine, KeepsLists}
use Rattle.sot_workers.proofs.Histories.{goes_further, tick_added}
use Rattle.sot_workers.proofs.ListFacts.{own_quiet, own_compared, keeps_moved}

pub goes_on_same : (x y : Standing) → IsSameInstant x y → IsPrefix x.entries y.entries → GoesOn x y
goes_on_same x y same on = record { accepted = same.accepted; plan = same.plan; entries = on }

pub goes_on_again : (x y z : Standing) → GoesOn x y → GoesOn y z → GoesOn x z
goes_on_again x y z a b =
    record { accepted = b.accepted ∙ a.accepted; plan = b.plan ∙ a.plan; entries = goes_further x.entries y.entries z.entries a.entries b.entries }

-- a tick goes on, and adds no firing
pub tick_goes_on : (old new : Standing) (noise : List (List ℤ)) (entry : Logged) → Logs old new (Tick noise) entry → GoesOn old new
tick_goes_on old new noise entry l = record { accepted = l.accepted; plan = l.plan; entries = (tick_added old new noise entry l).goes_on }

pub tick_keeps : (old new : Standing) (noise : List (List ℤ)) (entry : Logged) (away : List Bool) (lists : List NodeList) → Logs old new (Tick noise) entry
    → KeepsLists old away lists → KeepsLists new away lists
tick_keeps old new noise entry away lists l own =
    keeps_moved old new away lists l.accepted l.plan (own_quiet (length old.accepted.program.nodes) old.plan away lists old.entries new.entries own
    (tick_added old new noise entry l))

-- of the first so many nodes, each that the caller fires has fired as often as its list is long
abbrev pub AreInStep : Standing → List Bool → List NodeList → ℕ → Type 0
AreInStep b away lists count = (n : ℕ) (list : NodeList)
    → n < count → At lists n list → IsMine b.plan away n → length (drafts_of n b.entries) ≡ length list.drafts.items

pub in_step_more :
    (b : Standing) (away : List Bool) (lists : List NodeList) (k : ℕ) (here : NodeList) → AreInStep b away lists k → At lists k here
    → (IsMine b.plan away k → length (drafts_of k b.entries) ≡ length here.drafts.items) → AreInStep b away lists (k + 1)
in_step_more b away lists k here before at is n list lt there mine =
    ⊎_elim
    (λ same.
    let at' : At lists k list = subst (λ i. At lists i list) same there in
    let own : IsMine b.plan away k = subst (λ i. IsMine b.plan away i) same mine in
    ap (λ i. length (drafts_of i b.entries)) same ∙ (is own ∙ ap (λ l. length l.drafts.items) (at_same lists k here list at at')))
    (λ other. before n list (omega (arith, lt, other)) there mine)
    (cases_eq n k)

pub compared :
    (b : Standing) (away : List Bool) (lists : List NodeList) (count : ℕ) (seen : List Logged) → AreInStep b away lists count → length lists ≡ count
    → IsPrefix seen b.entries
    → AreMine (length b.accepted.program.nodes) b.plan away lists seen → KeepsLists b away lists
compared b away lists count seen all size on own =
    own_compared (length b.accepted.program.nodes) b.plan away lists seen b.entries own on
    (λ n list at mine. all n list (omega (arith, size, slice_get_within lists n list at)) at mine)
