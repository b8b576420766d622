use Rattle.std.proofs.Common.{rules, ◌+◌, ◌++◌, [], ⊎_elim, None, Some, arith, inl, inr, refl}
use Rattle.site_peers.proofs.Spreads.{cuts_append, spread_more, spread_none}
use Rattle.site_peers.proofs.spreading.spread.Goals as goal

pub loop-init : goal.loop-init
loop-init g c = (0, [], omega arith, spread_none g.P.Port.makes g.P.Port.refuses g.O.Outbox.handed _ _, refl, refl)

pub loop-preserved : goal.loop-preserved
loop-preserved g c = let was = c.loop.invariant in let step = c.in_default.ensures.spread in (
  was.0 + 1,
  was.1 ++ step.0,
  omega (arith, c.if-not-wait.ensures.rings, was.2),
  spread_more g.P.Port.makes g.P.Port.refuses g.O.Outbox.handed _ _ _ _ _ _ was.1 step.0 None was.3 step.1,
  (let one = step.2.0 in omega (arith, cuts_append was.1 step.0, was.4, one)),
  search rules,
)

-- a fault at a ring
pub returns-in-Err-clause-spread : goal.returns-in-Err-clause-spread
returns-in-Err-clause-spread g c = let was = c.loop.invariant in let step = c.in-Err.ensures.spread in (
  was.0 + 1,
  was.1 ++ step.0,
  omega (arith, c.if-not-wait.ensures.rings, was.2),
  spread_more g.P.Port.makes g.P.Port.refuses g.O.Outbox.handed _ _ _ _ _ _ was.1 step.0 (Some c.in-Err.fault) was.3 step.1,
  tt,
  ⊎_elim (λ none. inr (omega (arith, cuts_append was.1 step.0, was.4, none))) (λ one. inl (omega (arith, cuts_append was.1 step.0, was.4, one))) step.3,
)
