-- The answers of a desk, ask by ask.
use Rattle.std.specs.Prelude.{◌≡◌, ◌⊎◌, Bool, true, List, [], ◌∷◌}
use Rattle.status_report.specs.declared.asks.Answer.{Answer}
use Rattle.status_report.specs.declared.asks.Ask.{Ask}

-- a desk answers these asks with these answers in order, which leads it from one state to another
abbrev pub DeskRun : {D : Type 0} → (D → Ask → Answer → D → Type 0) → D → List Ask → List Answer → D → Type 0
DeskRun Answers d [] [] e = d ≡ e
DeskRun Answers d [] (answer ∷ answers) e = ⊥
DeskRun Answers d (ask ∷ asks) [] e = ⊥
DeskRun {D = D} Answers d (ask ∷ asks) (answer ∷ answers) e = (next : D) × Answers d ask answer next × DeskRun Answers next asks answers e

-- a desk has answered asks one after another, and may have refused one more
pub record HasWorked {D : Type 0} (Answers : D → Ask → Answer → D → Type 0) (Refuses : D → Ask → D → Type 0) (d e : D) : Type 0 where
  pub asks : List Ask
  pub answers : List Answer
  pub left : D
  pub run : DeskRun Answers d asks answers left
  pub last : (left ≡ e) ⊎ ((ask : Ask) × Refuses left ask e)

-- a relation holds of a desk's states before and after each answer and each refusal
pub record EachKeeps {D : Type 0} (Answers : D → Ask → Answer → D → Type 0) (Refuses : D → Ask → D → Type 0) (Keeps : D → D → Type 0) : Type 0 where
  pub answer : (d e : D) (ask : Ask) (answer : Answer) → Answers d ask answer e → Keeps d e
  pub refusal : (d e : D) (ask : Ask) → Refuses d ask e → Keeps d e

-- a test of two states is a preorder: reflexive and transitive
pub record IsPreorder {D : Type 0} (passes : D → D → Bool) : Type 0 where
  pub same : (d : D) → passes d d ≡ true
  pub then : (d mid e : D) → passes d mid ≡ true → passes mid e ≡ true → passes d e ≡ true
