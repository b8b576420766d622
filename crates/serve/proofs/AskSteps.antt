-- The reply to an ask that the desk answers.
use Rattle.std.proofs.Common.{◌≡◌, inr, ℕ, List, [], ◌∷◌, refl, sym, ◌∙◌, subst, append-nil, Option, Result, Ok, Err, IfErr, OnErr, OnOk}
use Rattle.std.specs.Io.KnownBytes.{Appends}
use Rattle.ami_text.specs.Devices.{HasTaken}
use Rattle.status_report.specs.declared.asks.Answer.{Answer}
use Rattle.status_report.specs.declared.asks.Ask.{Ask}
use Rattle.ami_session.specs.Checks.{Asks, Reaction, Waiting, answer_reply}
use Rattle.serve.specs.declared.serve_fault.ServeFault.{ServeFault}
use Rattle.serve.specs.declared.serve_fault.ServeFault.TheVariants.{Write}
use Rattle.serve.specs.Steps.{BreaksOff, HasReacted, HasSaid, IsUnsaid}

-- the reply with the answer is to be written
pub ask_done : {D : Type 0} (Answers : D → Ask → Answer → D → Type 0) (ask : Ask) (waiting : Waiting) (answer : Answer) (d e : D) (text : List ℕ)
    → Answers d ask answer e → text ≡ answer_reply waiting answer → HasReacted Answers (Asks ask waiting) d e text
ask_done Answers ask waiting answer d e text answered is = record {
  answers = answer ∷ [];
  run = (e, answered, refl);
  is = is ∙ sym (append-nil (answer_reply waiting answer));
}

-- the reply with the answer was written
pub all_said : {D T E : Type 0} (Answers : D → Ask → Answer → D → Type 0) (r : Reaction) (d e : D) (old new : Option (List ℕ)) (text : List ℕ) (result : Result T E)
    → HasReacted Answers r d e text → OnOk result (Appends old new text) → OnOk result (HasSaid Answers r d e old new)
all_said Answers r d e old new text (Ok x) done taken = record { text = text; done = done; taken = taken }
all_said Answers r d e old new text (Err f) done taken = tt

-- a prefix of the reply with the answer was written
pub front_said : {D T : Type 0} (Answers : D → Ask → Answer → D → Type 0) (Refuses : D → Ask → D → Type 0) (r : Reaction) (d e : D) (old new : Option (List ℕ)) (text : List ℕ)
    (result : Result T ServeFault) → HasReacted Answers r d e text → IfErr result (λ fault. fault ≡ Write) → OnErr result (HasTaken old new text)
    → IfErr result (λ fault. BreaksOff Answers Refuses r d e old new fault)
front_said Answers Refuses r d e old new text (Ok x) done is taken = tt
front_said Answers Refuses r d e old new text (Err f) done is taken =
    subst (λ fault. BreaksOff Answers Refuses r d e old new fault) (sym is) (record { text = text; done = done; taken = taken })

-- nothing of the reply with the answer was written
pub none_said : {D : Type 0} (Answers : D → Ask → Answer → D → Type 0) (ask : Ask) (waiting : Waiting) (answer : Answer) (d e : D) (old : Option (List ℕ))
    → Answers d ask answer e → IsUnsaid Answers (Asks ask waiting) d e old old
none_said Answers ask waiting answer d e old answered =
    record { taken = refl; desk = inr (record { ask = ask; waiting = waiting; asked = refl; answer = answer; answered = answered }) }
