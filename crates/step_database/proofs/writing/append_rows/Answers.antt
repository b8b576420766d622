use Rattle.sqlite.specs.Held.{state}
use Rattle.step_database.proofs.Kept.{keeps_more, stores_keeps, stores_more}
use Rattle.step_database.proofs.writing.append_rows.Goals as goal

pub returns-in-Ok-clause-added : goal.returns-in-Ok-clause-added
returns-in-Ok-clause-added g c clean origin steps more it are legal =
    stores_more (state g.S.Store c.args.conn.now) (state g.S.Store c.append_all.new.conn) origin c.args.at steps more c.args.rows.now it are legal (c.in-Ok.ensures.added clean it.first it.rows it.holds it.next_is)

pub returns-in-Ok-clause-kept : goal.returns-in-Ok-clause-kept
returns-in-Ok-clause-kept g c clean origin steps more it are legal =
    keeps_more (state g.S.Store c.args.conn.now) (state g.S.Store c.append_all.new.conn) origin c.args.at steps more c.args.rows.now it are legal (c.append_all.ensures.crash clean it.first it.rows it.holds it.next_is)

pub returns-in-Err-clause-kept : goal.returns-in-Err-clause-kept
returns-in-Err-clause-kept g c clean origin steps more it are legal =
    keeps_more (state g.S.Store c.args.conn.now) (state g.S.Store c.append_all.new.conn) origin c.args.at steps more c.args.rows.now it are legal (c.append_all.ensures.crash clean it.first it.rows it.holds it.next_is)

pub returns-then-at-gt-LAST_POSITION-clause-kept : goal.returns-then-at-gt-LAST_POSITION-clause-kept
returns-then-at-gt-LAST_POSITION-clause-kept g c clean origin steps more it are legal = stores_keeps (state g.S.Store c.args.conn.now) origin c.args.at steps more it
