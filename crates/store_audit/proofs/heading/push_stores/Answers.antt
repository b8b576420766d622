use Rattle.std.proofs.Common.{length, refl}
use Rattle.std.proofs.lemmas.Option.{slice_get_read}
use Rattle.store_audit.specs.Headings.{store_line}
use Rattle.store_audit.proofs.Lines.{comments_all, comments_next, lines_all, lines_next}
use Rattle.store_audit.proofs.heading.push_stores.Goals as goal

-- one line more is appended
pub loop-store-preserved : goal.loop-store-preserved
loop-store-preserved c =
    let index = c.loop-store.store-index in
    let stores = c.args.stores.now in
    let here = slice_get_read stores (length stores) index c.store-item.result refl c.loop-store-test.true c.store-item.is in
    record {
      lines = lines_next store_line stores index c.store-item.result c.args.out.now.items c.loop-store.out.items c.push_store.new.out.items here c.loop-store.invariant.lines
          c.in_ok-push_store.ensures.line;
      comments = comments_next store_line stores index c.store-item.result here c.loop-store.invariant.comments c.in_ok-push_store.ensures.comment;
    }

-- all lines are
pub returns-clause-lines : goal.returns-clause-lines
returns-clause-lines c =
    lines_all store_line c.args.stores.now c.loop-store.store-index c.args.out.now.items c.loop-store.out.items c.loop-store-test.false c.loop-store.invariant.lines

pub returns-clause-comments : goal.returns-clause-comments
returns-clause-comments c = comments_all store_line c.args.stores.now c.loop-store.store-index c.loop-store-test.false c.loop-store.invariant.comments
