use Rattle.std.proofs.Common.{◌≡◌, ◌++◌, ℕ, List, Option, Result, Ok, Err, OnErr, subst, codes}
use Rattle.std.specs.Io.KnownBytes.{Appends}
use Rattle.ami_text.specs.Devices.{HasTaken}
use Rattle.serve.proofs.Taking.{begun_first, begun_then}
use Rattle.serve.proofs.replying.greet.Goals as goal

line_begun : {T E : Type 0} (r : Result T E) (before after : Option (List ℕ)) (line greeting : List ℕ) → line ≡ greeting → HasTaken before after line
    → OnErr r (HasTaken before after (greeting ++ codes "\r\n"))
line_begun (Ok x) before after line greeting is begun = tt
line_begun (Err e) before after line greeting is begun = begun_first before after greeting (codes "\r\n") (subst (λ t. HasTaken before after t) is begun)

end_begun : {T E : Type 0} (r : Result T E) (before now after : Option (List ℕ)) (line greeting : List ℕ) → line ≡ greeting → Appends before now line
    → OnErr r (HasTaken now after (codes "\r\n")) → OnErr r (HasTaken before after (greeting ++ codes "\r\n"))
end_begun (Ok x) before now after line greeting is taken begun = tt
end_begun (Err e) before now after line greeting is taken begun = begun_then before now after greeting (codes "\r\n") (subst (Appends before now) is taken) begun

pub returns-in_err-write_all-clause-begun : goal.returns-in_err-write_all-clause-begun
returns-in_err-write_all-clause-begun g c = line_begun c.from_residual.result _ _ c.greeting.result.now c.args.session.now.greeting c.greeting.ensures c.in_err-write_all.ensures.begun

pub returns-clause-begun : goal.returns-clause-begun
returns-clause-begun g c =
    end_begun c.write_all-2.result _ _ _ c.greeting.result.now c.args.session.now.greeting c.greeting.ensures c.in_ok-write_all.ensures.written c.write_all-2.ensures.begun
