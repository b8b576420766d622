use Rattle.std.specs.Prelude.{◌≡◌, ◌+◌, ◌≤◌}
use Rattle.site_desk.specs.Passes.{AreNewPasses}
use Rattle.site_desk.proofs.desk.SiteDesk.new.Given as goal

-- the passes so far are new, and the rest of the ledger has the other parts
abbrev pub invariant-loop-ordinal : goal.invariant-loop-ordinal
invariant-loop-ordinal g l = (l.rest.parts + l.ordinal ≡ l.passes) × (l.rest.amount ≡ 0) × (l.book.total ≡ 0) × (l.passes ≤ l.all.cap) × (l.journal.count ≡ 0) × AreNewPasses l.ordinal l.all.items
