use Rattle.std.proofs.Common.{◌≡◌, ℕ, ◌∙◌, sym, ap, Some}
use Rattle.std.proofs.lemmas.Result.{IfOk-weaker}
use Rattle.replica.specs.Changes.{meaning, remove_of, within_limits, in_queue, where_present}
use Rattle.replica.specs.SiteViews.{dots_seen}
use Rattle.reference_model.specs.declared.meaning.Meaning.{Meaning}
use Rattle.reference_model.specs.Sites.{known_view, buffer_view, change_meant, meaning_of}
use Rattle.reference_model.proofs.meanings.meaning_at.Goals as goal

pub returns-in-Some-position : goal.returns-in-Some-position
returns-in-Some-position c =
    let s = c.args.old.now in
    let r = known_view c.args.site s in
    let b = buffer_view c.args.site s in
    let interface = c.in-RemoveMember.interface in
    IfOk-weaker c.remove_member.result
    (λ (m : Meaning). (site : ℕ) → meaning_of m ≡ where_present (dots_seen (known_view site s).dots (Some c.in-Some-position.queue) interface)
    (within_limits (known_view site s) (buffer_view site s) (remove_of (dots_seen (known_view site s).dots (Some c.in-Some-position.queue) interface)))) _
    (λ m means.
    means c.args.site
    ∙ ap (λ n. in_queue n (λ q. where_present (dots_seen r.dots (Some q) interface) (within_limits r b (remove_of (dots_seen r.dots (Some q) interface))))) c.in-Some-position.ensures.number
    ∙ ap (λ change. meaning c.args.site c.args.list.now r b (change_meant change)) (sym c.in-RemoveMember.is))
    c.remove_member.ensures
