use Rattle.std.proofs.Common.{List, subst, sym}
use Rattle.std.proofs.lemmas.List.Elements.{All-push}
use Rattle.std.specs.List.{All}
use Rattle.store_audit.specs.declared.store_journal.StoreJournal.{StoreJournal}
use Rattle.store_reports.specs.Reports.{IsOfFile}
use Rattle.store_reports.proofs.reading.push_store.Goals as goal

-- each store before is of a file, and so is the one that was appended
pub returns-clause-each : goal.returns-clause-each
returns-clause-each c =
    let P : List StoreJournal → Type 0 = λ stores. All IsOfFile stores in
    subst P (sym c.in_ok-push.ensures.items) (All-push IsOfFile c.args.stores.now.items c.args.store c.requires.each c.requires.store)
