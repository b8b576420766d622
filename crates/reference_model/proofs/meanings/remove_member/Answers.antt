use Rattle.std.proofs.Common.{◌≡◌, ℕ, ◌∙◌, Some, List}
use Rattle.std.proofs.lemmas.Result.{IfOk-weaker}
use Rattle.dots.specs.declared.member.Member.{Member}
use Rattle.dots.specs.Values.{Dot}
use Rattle.operations.specs.Rows.{dot_view}
use Rattle.replica.specs.Changes.{remove_of, within_limits}
use Rattle.replica.specs.SiteViews.{dots_seen}
use Rattle.reference_model.specs.declared.meaning.Meaning.{Meaning}
use Rattle.reference_model.specs.Plain.{knowledge_of}
use Rattle.reference_model.specs.Sites.{known_view, buffer_view, meaning_of}
use Rattle.reference_model.proofs.LimitSteps.{present_means}
use Rattle.reference_model.proofs.meanings.remove_member.Goals as goal

pub returns : goal.returns
returns c =
    let s = c.args.old.now in
    IfOk-weaker c.remove_of.result (λ (m : Meaning). (site : ℕ) → meaning_of m ≡ within_limits (known_view site s) (buffer_view site s) (remove_of c.deref-else-is_empty.result.now)) _
    (λ m means site. means site ∙ present_means (λ (ds : List (Dot × Member)). within_limits (known_view site s) (buffer_view site s) (remove_of ds)) c.deref-else-is_empty.result.now
    (dots_seen (dot_view (knowledge_of s.known.items)) (Some c.args.queue) c.args.interface.now) _
    (c.deref-else-is_empty.ensures.value ∙ c.in_ok-dots.ensures ∙ (λ i. dots_seen (dot_view (knowledge_of (c.deref.ensures.value i))) (Some c.args.queue) c.args.interface.now))
    c.deref-else-is_empty.ensures.len c.if-is_empty.ensures)
    c.remove_of.ensures
