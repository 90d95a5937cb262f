-- What is shown of each production: what it stands for is formed, and its words are again tokens of it that mean the same.
use Rattle.std.proofs.Common.{◌≡◌, ℕ, ◌≤◌, List, ap₂}
use Rattle.sot_text.specs.Reading.{Lexeme}
use Rattle.sot_print.specs.Words.{Word}
use Rattle.sot_law_print_parse.proofs.Takes.{Takes}
use Rattle.sot_law_print_parse.proofs.Texts.{AreTexts}

-- A production: its tokens, its tree, the tree without places, its nesting, what holds of its trees, and their words by what
-- stands before them.
pub record Production (G F T : Type 0) : Type 1 where
  pub spelled : F → List Lexeme → List Lexeme
  pub tree : F → T
  pub unplaced : T → T
  pub levels : F → ℕ
  pub Holds : T → Type 0
  pub words : G → T → List Word

-- these tokens are a form of the production too, which means the same and nests no deeper
pub record Again {G F T : Type 0} (p : Production G F T) (f : F) (ts us : List Lexeme) : Type 0 where
  pub form : F
  pub tokens : ts ≡ p.spelled form us
  pub same : p.unplaced (p.tree form) ≡ p.unplaced (p.tree f)
  pub nests : p.levels form ≤ p.levels f

pub record Kept {G F T : Type 0} (p : Production G F T) (f : F) : Type 0 where
  pub holds : p.Holds (p.tree f)
  pub again : (before : G) (ts us : List Lexeme) → Takes ts (p.words before (p.tree f)) us → Again p f ts us

abbrev pub Keeps : {G F T : Type 0} → Production G F T → Type 0
Keeps {F = F} p = (f : F) (more : List Lexeme) → AreTexts (p.spelled f more) → Kept p f × AreTexts more

-- these tokens are a form of the production that means this tree
pub record Written {G F T : Type 0} (p : Production G F T) (t : T) (ts us : List Lexeme) : Type 0 where
  pub form : F
  pub tokens : ts ≡ p.spelled form us
  pub same : p.unplaced (p.tree form) ≡ p.unplaced t

-- the words of a tree are such tokens
abbrev pub IsWritten : {G F T : Type 0} → Production G F T → G → T → Type 0
IsWritten p before t = (ts us : List Lexeme) → Takes ts (p.words before t) us → Written p t ts us

pub kept_written : {G F T : Type 0} (p : Production G F T) (f : F) (before : G) → Kept p f → IsWritten p before (p.tree f)
kept_written p f before kept ts us h = (let a = kept.again before ts us h in record { form = a.form; tokens = a.tokens; same = a.same })

-- for forms that do not nest
abbrev pub no_level : {F : Type 0} → F → ℕ
no_level f = 0

-- an equation of one more argument
pub also : {A B : Type 0} {f g : A → B} {x y : A} → f ≡ g → x ≡ y → f x ≡ g y
also e more = ap₂ (λ k x. k x) e more
