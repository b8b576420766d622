use Rattle.std.proofs.Common.{◌≤◌, ◌∙◌, List, length, ap, subst, sym}
use Rattle.std.specs.List.{All}
use Rattle.ami_text.specs.Lines.{lines_text}
use Rattle.event_script.specs.Comments.{IsComment}
use Rattle.site_audit.specs.Runs.{AreSites}
use Rattle.store_audit.specs.declared.store_journal.StoreJournal.{StoreJournal}
use Rattle.store_audit.specs.Headings.{heading_lines}
use Rattle.store_audit.specs.Stores.{AreFresh, journals_of}
use Rattle.store_audit.proofs.Ending.{if_ok_weaker, parts_cause, sorted_end}
use Rattle.store_audit.proofs.Walking.{if_err_weaker}
use Rattle.store_audit.proofs.Sorted.{all_counted, all_fresh}
use Rattle.store_audit.proofs.auditing.audit_sorted.Goals as goal

-- the journals have all steps
pub write_parts-ended-requires-clause-fresh : goal.write_parts-ended-requires-clause-fresh
write_parts-ended-requires-clause-fresh g c = subst AreFresh (sym c.in-Ok-split.ensures.journals) (all_fresh c.args.stores.items)

pub write_parts-ended-requires-clause-counted : goal.write_parts-ended-requires-clause-counted
write_parts-ended-requires-clause-counted g c = all_counted c.args.stores.items c.in-Ok-split.parts c.in-Ok-split.ensures

-- what was written at a fault is of the stores
pub returns-clause-fault : goal.returns-clause-fault
returns-clause-fault g c =
    if_err_weaker c.write_parts-ended.result
    (λ cause why. parts_cause c.args.stores.items c.in-Ok-split.parts c.deref-3.result.now (g.W.Sink.taken c.args.out.now) (g.W.Sink.taken c.write_parts-ended.new.out) cause c.in-Ok-split.ensures
    (c.deref-3.ensures.value ∙ c.in-Ok.ensures.text ∙ ap (λ (ss : List StoreJournal). lines_text (heading_lines ss)) c.deref-2.ensures.value)
    (subst (λ (ss : List StoreJournal). AreSites (journals_of ss)) c.deref.ensures.value c.in_default.ensures.sites)
    (subst (λ (ss : List StoreJournal). length ss ≤ 64) c.deref.ensures.value c.in_default.ensures.few)
    why) c.write_parts-ended.ensures.fault

-- the end is that of the stores
pub returns-clause-ended : goal.returns-clause-ended
returns-clause-ended g c =
    if_ok_weaker c.write_parts-ended.result
    (λ end ends. sorted_end c.args.stores.items c.in-Ok-split.parts c.deref-3.result.now (g.W.Sink.taken c.args.out.now) (g.W.Sink.taken c.write_parts-ended.new.out) end c.in-Ok-split.ensures
    (c.deref-3.ensures.value ∙ c.in-Ok.ensures.text ∙ ap (λ (ss : List StoreJournal). lines_text (heading_lines ss)) c.deref-2.ensures.value)
    (subst (λ (ss : List StoreJournal). All IsComment (heading_lines ss)) c.deref-2.ensures.value c.in-Ok.ensures.comments)
    (subst (λ (ss : List StoreJournal). AreSites (journals_of ss)) c.deref.ensures.value c.in_default.ensures.sites)
    (subst (λ (ss : List StoreJournal). length ss ≤ 64) c.deref.ensures.value c.in_default.ensures.few)
    ends) c.write_parts-ended.ensures.ended
