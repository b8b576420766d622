use Rattle.std.proofs.Common.{◌≡◌, length}
use Rattle.std.specs.List.{All}
use Rattle.store_reports.specs.Reports.{IsOfFile}
use Rattle.store_reports.proofs.reading.journals_of_files.Given as goal

-- each file before this one gave a store
abbrev pub invariant-loop-file : goal.invariant-loop-file
invariant-loop-file g l = (length l.stores.items ≡ l.file) × All IsOfFile l.stores.items
