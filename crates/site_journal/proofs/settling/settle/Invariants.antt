use Rattle.std.proofs.Common.{◌≡◌, map}
use Rattle.site_journal.proofs.SettledLists.{AreRight}
use Rattle.site_journal.proofs.settling.settle.Given as goal

-- the lists so far are those of their passes
abbrev pub invariant-loop-list : goal.invariant-loop-list
invariant-loop-list l = record {
  counted : l.pass ≡ l.list-index;
  right : AreRight l.steps (map (λ list. list.items) l.lists) l.pass;
}
