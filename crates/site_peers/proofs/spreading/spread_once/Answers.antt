use Rattle.std.proofs.Common.{rules, ◌++◌, ap, inl, inr, ◌∙◌}
use Rattle.std.proofs.lemmas.Result.{on_err_weaker, on_ok_weaker}
use Rattle.std.specs.Result.{result_err}
use Rattle.site_peers.specs.Outboxes.{cut_count}
use Rattle.site_peers.proofs.Spreads.{cut_counts, cut_then_none, cut_then_whole, spread_more}
use Rattle.site_peers.proofs.spreading.spread_once.Goals as goal

-- the port refuses the cut
pub returns-in-Err-clause-spread : goal.returns-in-Err-clause-spread
returns-in-Err-clause-spread g c = let step = c.in-Err.ensures.spread in (step.0, step.1, tt, inl (ap cut_count step.3))

-- no outbox wants a whole
pub returns-in-Ok-false-clause-spread : goal.returns-in-Ok-false-clause-spread
returns-in-Ok-false-clause-spread g c = let step = c.in-Ok-false.ensures.spread in let cut = step.2 in
    (step.0, step.1, (ap cut_count cut.2 ∙ cut_counts cut.0 cut.1, inr (cut.0, cut.2, cut.1, cut.3 (search rules))), tt)

-- a whole is made, or the port refuses it
pub returns-in-Ok-true-clause-spread : goal.returns-in-Ok-true-clause-spread
returns-in-Ok-true-clause-spread g c =
    let step = c.in-Ok-true.ensures.spread in
    let whole = c.whole_to_each.ensures.spread in (
      step.0 ++ whole.0,
      spread_more g.P.Port.makes g.P.Port.refuses g.O.Outbox.handed _ _ _ _ _ _ step.0 whole.0 (result_err c.whole_to_each.result) step.1 whole.1,
      on_ok_weaker c.whole_to_each.result (λ made. (cut_then_whole step.0 whole.0 step.2.0 step.2.1 step.2.2 made.0 made.1 made.2, inl (step.0, made.0, ap (λ l. step.0 ++ l) made.2, made.1))) whole.2,
      on_err_weaker c.whole_to_each.result (λ none. inr (cut_then_none step.0 whole.0 step.2.0 step.2.1 step.2.2 none)) whole.3,
    )
