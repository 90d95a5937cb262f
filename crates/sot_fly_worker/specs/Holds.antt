-- What the functions of a turn tell each other.
use Rattle.std.specs.Prelude.{ℕ, ℤ, ◌<◌, ◌≡◌, Bool, true, List, [], ◌∷◌, ◌++◌, Option, Some, length}
use Rattle.sot_lang.specs.Tables.{Tables}
use Rattle.sot_tube.specs.Admitted.{Admitted}
use Rattle.sot_world.specs.Configurations.{is_left}
use Rattle.sot_world.specs.HistoryEntry.{Logged, FireAt}
use Rattle.sot_flight.specs.Plans.{Plan}
use Rattle.sot_board.specs.declared.view.View.{View}
use Rattle.sot_board.specs.Versions.{drafts_of}
use Rattle.sot_board.specs.Standing.{Standing, IsStanding}
use Rattle.sot_board.specs.Views.{IsView}
use Rattle.sot_fly_worker.specs.Rooms.{HasRoomFor}
use Rattle.sot_fly_worker.specs.declared.sight.Sight.{Sight}
use Rattle.sot_fly_worker.specs.declared.sight.Sight.TheVariants.{Ended, Idle, Stated, Runs, Asks}

-- the ground is known, and the node is one of its program
abbrev pub HasNode : Option (Admitted × Plan) → ℕ → Type 0
HasNode ground n =
    (a : Admitted) × (f : Plan) × (ground ≡ Some (a, f)) × (n < length a.program.nodes)

-- where the ground is known, there is room for the drafts of this node of its program
abbrev pub HasRoomIn : Option (Admitted × Plan) → ℕ → ℕ → Type 0
HasRoomIn ground n room =
    (a : Admitted) (f : Plan) → ground ≡ Some (a, f) → HasRoomFor a.program.nodes f.horizon n room

-- a board as it stood when the view was taken, with the node left to fire
pub record IsDueView (b : Standing) (n : ℕ) (v : View) : Type 0 where
  pub standing : IsStanding b
  pub left : is_left b.position.at n ≡ true
  pub view : IsView b.accepted.program b.entries b.position n v

-- the view was taken of a board of this ground, when this was its history
pub record IsSeen (ground : Option (Admitted × Plan)) (seen : List Logged) (n : ℕ) (v : View) : Type
    0 where
  pub board : Standing
  pub due : IsDueView board n v
  pub ground_is : ground ≡ Some (board.accepted, board.plan)
  pub entries : board.entries ≡ seen

-- what a worker sees of its node at a board
abbrev pub MatchSight : Sight → Type 0 → Type 0 → Type 0 → (Tables → View → Type 0)
    → (View → Type 0) → Type 0
MatchSight Ended E I S R A = E
MatchSight Idle E I S R A = I
MatchSight Stated E I S R A = S
MatchSight (Runs p view) E I S R A = R p.now view
MatchSight (Asks view) E I S R A = A view

-- the board went on by one firing of the node with this draft
pub record Appends (old new : Standing) (n : ℕ) (draft : List (Option ℤ)) : Type 0 where
  pub time : ℕ
  pub enabled : Bool
  pub entries : new.entries ≡ old.entries ++ FireAt time n draft enabled ∷ []
  pub accepted : new.accepted ≡ old.accepted
  pub plan : new.plan ≡ old.plan

-- the board went on by one firing of the node, whose draft was noted behind those of its firings
-- before
pub record Notes (old new : Standing) (n : ℕ) (before after : List (List (Option ℤ))) : Type 0 where
  pub draft : List (Option ℤ)
  pub appends : Appends old new n draft
  pub noted : after ≡ before ++ draft ∷ []

-- what is seen has gone on by entries that are no firings of the node, and then by its firing with
-- this draft, which is all that was added by the node's owner
pub record HasFired (n : ℕ) (draft : List (Option ℤ)) (old new added added' : List Logged) : Type 0
  where
    pub between : List Logged
    pub time : ℕ
    pub enabled : Bool
    pub no_other : drafts_of n between ≡ []
    pub seen : new ≡ old ++ (between ++ FireAt time n draft enabled ∷ [])
    pub adds : added' ≡ added ++ FireAt time n draft enabled ∷ []
