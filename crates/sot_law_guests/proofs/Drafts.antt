-- The drafts that askings give.
use Rattle.std.proofs.Common.{◌≡◌, ℕ, ℤ, Bool, Option, List, [], ◌∷◌, ◌++◌, length, map, refl, sym, ap, ◌∙◌, subst, eq-eqb}
use Rattle.std.specs.Prelude.{if◌then◌else◌}
use Rattle.std.proofs.lemmas.List.{length-map, map-append}
use Rattle.std.proofs.lemmas.Option.{same_Some}
use Rattle.sot_lists.specs.Places.{At}
use Rattle.sot_lists.proofs.Places.{at_mapped, same_items}
use Rattle.sot_lang.specs.Tables.{Tables}
use Rattle.sot_world.specs.HistoryEntry.{Logged, FireAt}
use Rattle.sot_flight.specs.Plans.{Plan}
use Rattle.sot_board.specs.Versions.{drafts_of}
use Rattle.sot_board.proofs.Entries.{drafts_append}
use Rattle.sot_fly_worker.specs.Askings.{Asking}
use Rattle.sot_fly_worker.specs.Answers.{HasAnswered}
use Rattle.sot_law_guests.specs.Laws.{draft_given, FitsGiveDrafts, AskingsGiveDrafts, OneHistoryOneListOfDrafts, ListsAreOfOneHistory, ListsAreTheAskings}

-- behind a list stands what comes after it
pub at_seam : {A : Type 0} (xs ys : List A) (y : A) → At (xs ++ y ∷ ys) (length xs) y
at_seam [] ys y = refl
at_seam (x ∷ xs) ys y = at_seam xs ys y

-- the drafts of a history are those before a firing, the firing's, and those after it
around : (n time : ℕ) (draft : List (Option ℤ)) (enabled : Bool) (before after : List Logged)
    → drafts_of n (before ++ FireAt time n draft enabled ∷ after) ≡ drafts_of n before ++ draft ∷ drafts_of n after
around n time draft enabled before after =
    drafts_append n before (FireAt time n draft enabled ∷ after)
    ∙ ap (λ b. drafts_of n before ++ (if b then draft ∷ drafts_of n after else drafts_of n after)) (eq-eqb n n refl)

pub fits_give_drafts : FitsGiveDrafts
fits_give_drafts p j f n history k one fits =
    let tail = fits.between ++ FireAt fits.time n fits.draft fits.enabled ∷ fits.rest in
    let later : drafts_of n tail ≡ fits.draft ∷ drafts_of n fits.rest = around n fits.time fits.draft fits.enabled fits.between fits.rest
    ∙ ap (λ l. l ++ fits.draft ∷ drafts_of n fits.rest) fits.no_other in
    let all : drafts_of n history ≡ drafts_of n fits.first ++ fits.draft ∷ drafts_of n fits.rest = ap (drafts_of n) fits.history_is
    ∙ drafts_append n fits.first tail ∙ ap (λ l. drafts_of n fits.first ++ l) later in
    let there = subst (λ i. At (drafts_of n fits.first ++ fits.draft ∷ drafts_of n fits.rest) i fits.draft) fits.number
    (at_seam (drafts_of n fits.first) (drafts_of n fits.rest) fits.draft) in
    subst (λ (d : List (Option ℤ)). At (drafts_of n history) k d) fits.draft_is (subst (λ l. At l k fits.draft) (sym all) there)

-- the askings that were added give the drafts of all firings
pub all_given :
    (p : Tables) (j : ℕ) (f : Plan) (n : ℕ) (history : List Logged) (before : Option (List Asking)) (after : List Asking)
    (answered : HasAnswered p j f n history before after)
    → map (draft_given p n) answered.more ≡ drafts_of n history
all_given p j f n history before after answered =
    same_items (map (draft_given p n) answered.more) (drafts_of n history) (length-map answered.more (draft_given p n) ∙ answered.count) (λ k draft at.
    let asked = at_mapped (draft_given p n) answered.more k draft at in
    subst (λ (d : List (Option ℤ)). At (drafts_of n history) k d) asked.2 (fits_give_drafts p j f n history k asked.0 (answered.fits k asked.0 asked.1)))

pub askings_give_drafts : AskingsGiveDrafts
askings_give_drafts p j f n history before after answered =
    (answered.first, answered.more, answered.before_is, answered.after_is, all_given p j f n history before after answered)

pub one_list_of_drafts : OneHistoryOneListOfDrafts
one_list_of_drafts p j f n history before after other answered answers =
    let one = askings_give_drafts p j f n history before after answered in
    let two = askings_give_drafts p j f n history before other answers in
    let start : one.0 ≡ two.0 = same_Some one.0 two.0 (sym one.2 ∙ two.2) in
    let grown : map (draft_given p n) one.1 ≡ map (draft_given p n) two.1 = one.4 ∙ sym two.4 in
    ap (map (draft_given p n)) one.3 ∙ map-append (draft_given p n) one.0 one.1
    ∙ ap (λ xs. map (draft_given p n) xs ++ map (draft_given p n) one.1) start ∙ ap (λ ds. map (draft_given p n) two.0 ++ ds) grown
    ∙ sym (map-append (draft_given p n) two.0 two.1) ∙ ap (map (draft_given p n)) (sym two.3)

pub lists_of_one_history : ListsAreOfOneHistory
lists_of_one_history count lists others history one two = (
  one.nodes.each ∙ sym two.nodes.each,
  (λ n list other at at_other. (one.nodes.nodes n list at ∙ sym (two.nodes.nodes n other at_other), one.drafts n list at ∙ sym (two.drafts n other at_other))),
)

pub lists_are_askings : ListsAreTheAskings
lists_are_askings p j f n count history lists list before after are at answered =
    let grown = askings_give_drafts p j f n history before after answered in
    (are.nodes.nodes n list at, (grown.0, grown.1, grown.2, grown.3, grown.4 ∙ sym (are.drafts n list at)))
