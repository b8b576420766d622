use Rattle.std.proofs.lemmas.Result.{IfOk-weaker}
use Rattle.scripts.proofs.Happening.{offered_none, offered_some}
use Rattle.scripts.proofs.script.Script.run_offer.Goals as goal

pub returns-in-None : goal.returns-in-None
returns-in-None c = λ w at. offered_none c.args.self.now.world w c.args.site _ _ _ at c.in-None.ensures.value c.new.ensures.items

pub returns-in-Some : goal.returns-in-Some
returns-in-Some c =
    IfOk-weaker c.offer_of.result _ _
    (λ text offers. λ w at. offered_some c.args.self.now.world w c.args.site c.in-Some.replica.now _ _ _ at c.in-Some.ensures.value offers) c.offer_of.ensures
