-- What a desk does in a session, and what it keeps.
use Rattle.std.proofs.Common.{◌≡◌, ⊎_elim, inl, inr, ℕ, List, [], ◌∷◌, ◌++◌, refl, sym, subst, Option}
use Rattle.status_report.specs.declared.asks.Answer.{Answer}
use Rattle.status_report.specs.declared.asks.Ask.{Ask}
use Rattle.ami_session.specs.Checks.{Reaction, SessionState}
use Rattle.ami_session.specs.Text.{asks, reaction_asks}
use Rattle.serve.specs.declared.serve_fault.ServeFault.{ServeFault}
use Rattle.serve.specs.declared.serve_fault.ServeFault.TheVariants.{Read, Write, LineTooLong, TooManyFields, DeskDown, Turns, Memory}
use Rattle.serve.specs.Desks.{DeskRun, EachKeeps, HasWorked}
use Rattle.serve.specs.Sessions.{HasCarried}
use Rattle.serve.specs.Steps.{BreaksOff, HasAnswered, HasSaid}
use Rattle.serve.proofs.Serving.{Going}
use Rattle.serve.proofs.TextSteps.{run_then}

-- nothing
pub no_work : {D : Type 0} (Answers : D → Ask → Answer → D → Type 0) (Refuses : D → Ask → D → Type 0) (d : D) → HasWorked Answers Refuses d d
no_work Answers Refuses d = record { asks = []; answers = []; left = d; run = refl; last = inl refl }

-- the desk has answered the asks so far
pub work_so_far : {D : Type 0} (Answers : D → Ask → Answer → D → Type 0) (Refuses : D → Ask → D → Type 0) (s now : SessionState) (d e : D) (given before old new : Option (List ℕ))
    (held : List ℕ) (reads : ℕ) → HasCarried given before old new (Going Answers s d e now held reads) → HasWorked Answers Refuses d e
work_so_far Answers Refuses s now d e given before old new held reads c =
    record { asks = asks s c.holds.messages; answers = c.holds.has_text.answers; left = e; run = c.holds.has_text.run; last = inl refl }

-- the desk has answered the asks so far, and then that of one more message
work_then : {D : Type 0} (Answers : D → Ask → Answer → D → Type 0) (Refuses : D → Ask → D → Type 0) (s now : SessionState) (d mid e : D) (given before old new : Option (List ℕ))
    (held : List ℕ) (reads : ℕ) (more : List Ask) (others : List Answer) → HasCarried given before old new (Going Answers s d mid now held reads)
    → DeskRun Answers mid more others e → HasWorked Answers Refuses d e
work_then Answers Refuses s now d mid e given before old new held reads more others c run =
    let x = c.holds in
    record {
      asks = asks s x.messages ++ more;
      answers = x.has_text.answers ++ others;
      left = e;
      run = run_then Answers (asks s x.messages) x.has_text.answers more others d mid e x.has_text.run run;
      last = inl refl;
    }

pub work_said : {D : Type 0} (Answers : D → Ask → Answer → D → Type 0) (Refuses : D → Ask → D → Type 0) (s now : SessionState) (r : Reaction) (d mid e : D)
    (given before old written new : Option (List ℕ)) (held : List ℕ) (reads : ℕ) → HasCarried given before old written (Going Answers s d mid now held reads)
    → HasSaid Answers r mid e written new → HasWorked Answers Refuses d e
work_said Answers Refuses s now r d mid e given before old written new held reads c has =
    work_then Answers Refuses s now d mid e given before old written held reads (reaction_asks r []) has.done.answers c has.done.run

-- also where that breaks off
pub work_broken : {D : Type 0} (Answers : D → Ask → Answer → D → Type 0) (Refuses : D → Ask → D → Type 0) (fault : ServeFault) (s now : SessionState) (r : Reaction) (d mid e : D)
    (given before old written new : Option (List ℕ)) (held : List ℕ) (reads : ℕ) → HasCarried given before old written (Going Answers s d mid now held reads)
    → BreaksOff Answers Refuses r mid e written new fault → HasWorked Answers Refuses d e
work_broken Answers Refuses Write s now r d mid e given before old written new held reads c broken =
    work_then Answers Refuses s now d mid e given before old written held reads (reaction_asks r []) broken.done.answers c broken.done.run
work_broken Answers Refuses Memory s now r d mid e given before old written new held reads c broken = ⊎_elim
    (λ (same : e ≡ mid). subst (λ x. HasWorked Answers Refuses d x) (sym same) (work_so_far Answers Refuses s now d mid given before old written held reads c))
    (λ (y : HasAnswered Answers r mid e).
    work_then Answers Refuses s now d mid e given before old written held reads (y.ask ∷ []) (y.answer ∷ []) c (e, y.answered, refl))
    broken.desk
work_broken Answers Refuses DeskDown s now r d mid e given before old written new held reads c broken =
    record { asks = asks s c.holds.messages; answers = c.holds.has_text.answers; left = mid; run = c.holds.has_text.run; last = inr (broken.ask, broken.refused) }
work_broken Answers Refuses Read s now r d mid e given before old written new held reads c broken = absurd broken
work_broken Answers Refuses LineTooLong s now r d mid e given before old written new held reads c broken = absurd broken
work_broken Answers Refuses TooManyFields s now r d mid e given before old written new held reads c broken = absurd broken
work_broken Answers Refuses Turns s now r d mid e given before old written new held reads c broken = absurd broken

-- what holds of each state with itself, of the first and the last of three where it holds of both steps, and of each answer, holds of a run
run_keeps : {D : Type 0} (Answers : D → Ask → Answer → D → Type 0) (Keeps : D → D → Type 0) → ((d : D) → Keeps d d) → ((d mid e : D) → Keeps d mid → Keeps mid e → Keeps d e)
    → ((d e : D) (ask : Ask) (answer : Answer) → Answers d ask answer e → Keeps d e)
    → (asked : List Ask) (answers : List Answer) (d e : D) → DeskRun Answers d asked answers e → Keeps d e
run_keeps Answers Keeps same then each [] [] d e run = subst (λ x. Keeps d x) run (same d)
run_keeps Answers Keeps same then each [] (answer ∷ answers) d e run = absurd run
run_keeps Answers Keeps same then each (ask ∷ asked) [] d e run = absurd run
run_keeps Answers Keeps same then each (ask ∷ asked) (answer ∷ answers) d e run =
    then d run.0 e (each d run.0 ask answer run.1) (run_keeps Answers Keeps same then each asked answers run.0 e run.2)

-- a relation that is a preorder and that each answer keeps holds of all that a desk does
pub work_keeps : {D : Type 0} (Answers : D → Ask → Answer → D → Type 0) (Refuses : D → Ask → D → Type 0) (Keeps : D → D → Type 0) → ((d : D) → Keeps d d)
    → ((d mid e : D) → Keeps d mid → Keeps mid e → Keeps d e) → EachKeeps Answers Refuses Keeps → (d e : D) → HasWorked Answers Refuses d e → Keeps d e
work_keeps Answers Refuses Keeps same then each d e worked =
    let ran = run_keeps Answers Keeps same then each.answer worked.asks worked.answers d worked.left worked.run in
    ⊎_elim
    (λ (is : worked.left ≡ e). subst (λ x. Keeps d x) is ran)
    (λ (last : (ask : Ask) × Refuses worked.left ask e). then d worked.left e ran (each.refusal worked.left e last.0 last.1))
    worked.last
