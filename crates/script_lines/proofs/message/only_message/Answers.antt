use Rattle.std.proofs.Common.{◌≡◌, Result, Ok, Err, Option, Some, None}
use Rattle.script_lines.proofs.message.only_message.Goals as goal

another : {A E : Type 0} (r : Result (Option A) E) (o : Option A) (x : A) → r ≡ Ok None → r ≡ Ok o → o ≡ Some x → ⊥
another r o x none some is = cc

fault : {A E : Type 0} (r : Result (Option A) E) (e : E) → r ≡ Ok None → r ≡ Err e → ⊥
fault r e none err = cc

pub returns-in-Ok-Some-clause-none : goal.returns-in-Ok-Some-clause-none
returns-in-Ok-Some-clause-none c =
    λ _ rest gives is. another c.next_message.result _ _ (c.next_message.ensures.rest_shown c.requires rest gives is) c.in-Ok-Some.is c.in-Ok-Some.field-0-is

pub returns-in-Err-clause-none : goal.returns-in-Err-clause-none
returns-in-Err-clause-none c = λ _ rest gives is. fault c.next_message.result _ (c.next_message.ensures.rest_shown c.requires rest gives is) c.in-Err.is
