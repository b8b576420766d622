use Rattle.std.proofs.Common.{◌≡◌, ◌∙◌, sym, Some}
use Rattle.std.proofs.lemmas.Result.{IfOk-weaker}
use Rattle.operations.specs.Rows.{dot_view}
use Rattle.replica.specs.Changes.{add_at, within_limits}
use Rattle.replica.specs.SiteViews.{dots_seen}
use Rattle.reference_model.specs.declared.meaning.Meaning.{Meaning}
use Rattle.reference_model.specs.Plain.{knowledge_of}
use Rattle.reference_model.specs.Sites.{known_view, buffer_view, meaning_of}
use Rattle.reference_model.proofs.LimitSteps.{absent_means}
use Rattle.reference_model.proofs.meanings.add_member.Goals as goal

pub returns-then-is_empty : goal.returns-then-is_empty
returns-then-is_empty c =
    let s = c.args.old.now in
    let r = known_view c.args.site s in
    let added = within_limits r (buffer_view c.args.site s) (add_at c.args.site r c.args.member c.args.penalty c.args.paused c.args.label.now) in
    IfOk-weaker c.add_at.result (λ (m : Meaning). meaning_of m ≡ added) _
    (λ m means. means ∙ absent_means (dots_seen r.dots (Some c.args.member.queue) c.args.member.interface) c.in_ok-dots.dots.items c.in_ok-dots.dots.len added
    (c.in_ok-dots.ensures ∙ (λ i. dots_seen (dot_view (knowledge_of (c.deref.ensures.value i))) (Some c.args.member.queue) c.args.member.interface))
    (sym c.in_ok-dots.dots.ok.0) c.if-is_empty.ensures)
    c.add_at.ensures
