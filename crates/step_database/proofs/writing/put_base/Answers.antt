use Rattle.std.proofs.Common.{◌∷◌, [], arith}
use Rattle.sqlite.specs.Held.{state}
use Rattle.step_database.proofs.Kept.{keeps_put, stores_keeps}
use Rattle.step_database.proofs.writing.put_base.Goals as goal

pub returns-in-Ok-true-clause-put : goal.returns-in-Ok-true-clause-put
returns-in-Ok-true-clause-put g c clean origin steps it stand =
    let both = c.in-Ok-true.ensures.replaced clean it.first it.rows it.holds c.in-Ok-true.field-0-test in
    record { first = c.args.at; rows = c.args.row.now ∷ []; next_is = omega arith; holds = both.0; leaves = both.1; stand = stand }

pub returns-in-Ok-true-clause-kept : goal.returns-in-Ok-true-clause-kept
returns-in-Ok-true-clause-kept g c clean origin steps it stand =
    keeps_put (state g.S.Store c.args.conn.now) (state g.S.Store c.replace_base.new.conn) origin c.args.at c.args.at steps (c.args.row.now ∷ []) it stand (c.replace_base.ensures.crash clean it.first it.rows it.holds)

pub returns-in-Ok-false-clause-kept : goal.returns-in-Ok-false-clause-kept
returns-in-Ok-false-clause-kept g c clean origin steps it stand =
    keeps_put (state g.S.Store c.args.conn.now) (state g.S.Store c.replace_base.new.conn) origin c.args.at c.args.at steps (c.args.row.now ∷ []) it stand (c.replace_base.ensures.crash clean it.first it.rows it.holds)

pub returns-in-Err-clause-kept : goal.returns-in-Err-clause-kept
returns-in-Err-clause-kept g c clean origin steps it stand =
    keeps_put (state g.S.Store c.args.conn.now) (state g.S.Store c.replace_base.new.conn) origin c.args.at c.args.at steps (c.args.row.now ∷ []) it stand (c.replace_base.ensures.crash clean it.first it.rows it.holds)

pub returns-then-at-gt-LAST_POSITION-clause-kept : goal.returns-then-at-gt-LAST_POSITION-clause-kept
returns-then-at-gt-LAST_POSITION-clause-kept g c clean origin steps it stand = stores_keeps (state g.S.Store c.args.conn.now) origin c.args.at steps [] it
