-- Lines that are followed, one after another.
use Rattle.std.proofs.Common.{◌≡◌, ◌∙◌, ℕ, suc, ◌+◌, List, [], ◌∷◌, ◌++◌, length, refl, sym, ap, subst, arith, append_assoc, append-nil}
use Rattle.std.specs.Prelude.{sum_by}
use Rattle.std.proofs.lemmas.List.{length-append}
use Rattle.std.proofs.lemmas.List.Sums.{sum_by_push}
use Rattle.sot_tube.specs.Admitted.{Admitted}
use Rattle.sot_flight.specs.Plans.{Plan}
use Rattle.sot_board.specs.Standing.{Standing, IsStanding}
use Rattle.sot_trace.specs.Lines.{ticks_in, refused_in}
use Rattle.sot_trace.specs.Words.{AreWords}
use Rattle.sot_replay.specs.GoesOn.{IsTraceOf}
use Rattle.sot_replay.specs.Tests.{IsFirstFailing}
use Rattle.sot_replay.specs.Replays.{Tell, IsRefusedAt}
use Rattle.sot_replay.specs.Judges.{GoesBy, EndsBy}
use Rattle.sot_replay.specs.Follows.{AreFollowed, HasFollowed, HasEnded, AreRefused}
use Rattle.sot_replay.specs.declared.fail.LineKind.{LineKind}
use Rattle.sot_replay.specs.declared.judged.Added.{Added}
use Rattle.sot_replay.specs.declared.fail.LineKind.TheVariants.{Missing}
use Rattle.sot_replay.proofs.Refusals.{refused_by_test, refused_as_short}
use Rattle.sot_replay.proofs.LinesGoOn.{end_is_trace, told_more}

-- what holds of an accepted program and a flight holds of the same
carried : (F : Admitted → Plan → Type 0) (a b : Admitted) (f g : Plan) → b ≡ a → g ≡ f → F b g → F a f
carried F a b f g same_a same_f x = subst (λ c. F c f) same_a (subst (λ h. F b h) same_f x)

-- one line more
one_more : (told left more : List (List ℕ)) (line : List ℕ) → left ≡ line ∷ more → told ++ left ≡ (told ++ line ∷ []) ++ more
one_more told left more line is = ap (λ l. told ++ l) is ∙ sym (append_assoc told (line ∷ []) more)

-- the counts with what an entry adds are those of the history with the entry
pub counts_more :
    (old new : Standing) (line : List ℕ) (added : Added) → GoesBy old new line added → (ticks refused : ℕ) → ticks ≡ sum_by ticks_in old.entries
    → refused ≡ sum_by (refused_in old.accepted.program) old.entries
    → (ticks + added.ticks ≡ sum_by ticks_in new.entries) × (refused + added.refused ≡ sum_by (refused_in new.accepted.program) new.entries)
counts_more old new line added goes ticks refused ticks_is refused_is =
    let p = old.accepted.program in
    let t = sum_by_push ticks_in old.entries goes.entry in
    let r = sum_by_push (refused_in p) old.entries goes.entry in (
      omega (arith, ticks_is, goes.adds.0, t) ∙ sym (ap (sum_by ticks_in) goes.entries),
      omega (arith, refused_is, goes.adds.1, r) ∙ sym (ap (sum_by (refused_in p)) goes.entries)
          ∙ sym (ap (λ (a : Admitted). sum_by (refused_in a.program) new.entries) goes.accepted),
    )

module _ (old : Standing) (lines : List (List ℕ)) (number : ℕ) where
  -- no line is followed at first
  pub none_followed : HasFollowed old old lines number lines number
  none_followed = record {
    accepted = refl;
    plan = refl;
    told = [];
    followed = record { is = refl; next_is = omega arith };
    tells = λ front tell. subst (λ l. Tell old.accepted.program old.accepted.cert.jitter old.plan l old.entries old.position) (sym (append-nil front)) tell;
  }

  module _ (b : Standing) (left : List (List ℕ)) (next : ℕ) (by : HasFollowed old b lines number left next) where
    tell_here : (front : List (List ℕ)) → Tell old.accepted.program old.accepted.cert.jitter old.plan front old.entries old.position
        → Tell b.accepted.program b.accepted.cert.jitter b.plan (front ++ by.told) b.entries b.position
    tell_here front tell =
        carried (λ a f. Tell a.program a.cert.jitter f (front ++ by.told) b.entries b.position) b.accepted old.accepted b.plan old.plan (sym by.accepted)
        (sym by.plan) (by.tells front tell)

    all_lines : (front : List (List ℕ)) → front ++ lines ≡ (front ++ by.told) ++ left
    all_lines front = ap (λ l. front ++ l) by.followed.is ∙ sym (append_assoc front by.told left)

    counted : (front : List (List ℕ)) → number ≡ suc (length front) → next ≡ suc (length (front ++ by.told))
    counted front numbered = omega (arith, by.followed.next_is, numbered, length-append front by.told)

    followed_more : (line : List ℕ) (more : List (List ℕ)) (after : ℕ) → left ≡ line ∷ more → after ≡ suc next
        → AreFollowed lines number more after (by.told ++ line ∷ [])
    followed_more line more after is step =
        record {
          is = by.followed.is ∙ one_more by.told left more line is;
          next_is = omega (arith, step, by.followed.next_is, length-append by.told (line ∷ []));
        }

    -- the flight goes on by the next line
    pub followed_goes : (line : List ℕ) (more : List (List ℕ)) (after : ℕ) (new : Standing) (added : Added) → left ≡ line ∷ more → after ≡ suc next
        → GoesBy b new line added → HasFollowed old new lines number more after
    followed_goes line more after new added is step goes = record {
      accepted = goes.accepted ∙ by.accepted;
      plan = goes.plan ∙ by.plan;
      told = by.told ++ line ∷ [];
      followed = followed_more line more after is step;
      tells = λ front tell.
          let told = told_more b.accepted.program b.accepted.cert.jitter b.plan (front ++ by.told) b.entries b.position goes.entry new.position
          (tell_here front tell) goes.flies goes.handed in
          let lined = subst (λ l. Tell b.accepted.program b.accepted.cert.jitter b.plan ((front ++ by.told) ++ l ∷ []) (b.entries ++ goes.entry ∷ [])
          new.position) (sym goes.is) told in
          let joined = subst (λ l. Tell b.accepted.program b.accepted.cert.jitter b.plan l (b.entries ++ goes.entry ∷ []) new.position)
          (append_assoc front by.told (line ∷ [])) lined in
          let logged = subst (λ es. Tell b.accepted.program b.accepted.cert.jitter b.plan (front ++ (by.told ++ line ∷ [])) es new.position) (sym goes.entries)
          joined in
          carried (λ a f. Tell a.program a.cert.jitter f (front ++ (by.told ++ line ∷ [])) new.entries new.position) old.accepted b.accepted old.plan b.plan
          by.accepted by.plan logged;
    }

    module _ (stands : IsStanding b) where
      -- .. or is at its end with it
      pub followed_ends : (line : List ℕ) (more : List (List ℕ)) (after : ℕ) (new : Standing) → left ≡ line ∷ more → after ≡ suc next → EndsBy b new line
          → HasEnded old new lines number more after
      followed_ends line more after new is step ends = record {
        accepted = ap (λ x. x.accepted) ends.same ∙ by.accepted;
        plan = ap (λ x. x.plan) ends.same ∙ by.plan;
        told = by.told ++ line ∷ [];
        followed = followed_more line more after is step;
        traces = λ front tell.
            let trace = end_is_trace b stands (front ++ by.told) (tell_here front tell) line ends.at_end ends.is in
            let joined = subst (λ l. IsTraceOf b.accepted.program b.accepted.cert.jitter b.plan l b.entries) (append_assoc front by.told (line ∷ [])) trace in
            let logged = subst (λ es. IsTraceOf b.accepted.program b.accepted.cert.jitter b.plan (front ++ (by.told ++ line ∷ [])) es)
            (sym (ap (λ x. x.entries) ends.same)) joined in
            carried (λ a f. IsTraceOf a.program a.cert.jitter f (front ++ (by.told ++ line ∷ [])) new.entries) old.accepted b.accepted old.plan b.plan
            by.accepted by.plan logged;
      }

      back : (front : List (List ℕ)) (kind : LineKind) → IsRefusedAt b.accepted.program b.accepted.cert.jitter b.plan (front ++ lines) next kind
          → IsRefusedAt old.accepted.program old.accepted.cert.jitter old.plan (front ++ lines) next kind
      back front kind refused =
          carried (λ a f. IsRefusedAt a.program a.cert.jitter f (front ++ lines) next kind) old.accepted b.accepted old.plan b.plan by.accepted by.plan refused

      -- .. or it fails
      pub followed_fails :
          AreWords b.accepted.program → (line : List ℕ) (more : List (List ℕ)) (kind : LineKind) → left ≡ line ∷ more
          → IsFirstFailing b.accepted.program b.accepted.cert.jitter b.plan b.entries b.position line kind → AreRefused old lines number next kind
      followed_fails words line more kind is fails front tell numbered =
          back front kind (refused_by_test b stands (front ++ by.told) (tell_here front tell) (front ++ lines) line more next kind words
          (all_lines front ∙ ap (λ l. (front ++ by.told) ++ l) is) (counted front numbered) fails)

      -- .. or there is none
      pub followed_short : left ≡ [] → AreRefused old lines number next Missing
      followed_short none front tell numbered =
          back front Missing (refused_as_short b stands (front ++ by.told) (tell_here front tell) (front ++ lines) next
          (all_lines front ∙ ap (λ l. (front ++ by.told) ++ l) none ∙ append-nil _) (counted front numbered))
