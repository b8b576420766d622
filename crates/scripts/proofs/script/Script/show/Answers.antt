use Rattle.std.proofs.lemmas.Result.{IfOk-weaker}
use Rattle.scripts.proofs.Happening.{shown_none, shown_some}
use Rattle.scripts.proofs.script.Script.show.Goals as goal

pub returns-in-None : goal.returns-in-None
returns-in-None c =
    IfOk-weaker c.no_entry_text.result _ _ (λ text is. λ w at. shown_none c.args.self.now.world w c.args.entry _ at c.in-None.ensures.value is) c.no_entry_text.ensures

pub returns-in-Some : goal.returns-in-Some
returns-in-Some c =
    IfOk-weaker c.shown.result _ _ (λ text is. λ w at. shown_some c.args.self.now.world w c.args.entry c.in-Some.frame.now _ at c.in-Some.ensures.value is)
    (c.shown.ensures c.in-Some.ensures.in_ranges)
