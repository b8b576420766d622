use Rattle.std.proofs.Common.{◌||◌, ◌∙◌, ap}
use Rattle.replica.specs.SiteViews.{site_view}
use Rattle.reference_model.specs.Plain.{knowledge_of}
use Rattle.reference_model.specs.Sites.{known_view, buffer_view}
use Rattle.reference_model.proofs.LimitSteps.{first_is, second_is, past_limits}
use Rattle.reference_model.proofs.meanings.is_past_limits.Goals as goal

pub returns-then-known : goal.returns-then-known
returns-then-known c = λ site o touches.
    let known = c.in_ok-known.known in
    let rest = c.in_ok-buffer.buffer || c.in_ok-long.long in
    first_is known rest c.if-known.true
    ∙ past_limits o (site_view site (knowledge_of c.deref.result.now)) (site_view site (knowledge_of c.deref-2.result.now)) (known_view site c.args.old.now) (buffer_view site c.args.old.now) known c.in_ok-buffer.buffer c.in_ok-long.long
    (ap (λ os. site_view site (knowledge_of os)) c.deref.ensures.value) (ap (λ os. site_view site (knowledge_of os)) c.deref-2.ensures.value)
    (c.in_ok-known.ensures site o touches) (c.in_ok-buffer.ensures site o touches) (c.in_ok-long.ensures o touches)

pub returns-then-buffer : goal.returns-then-buffer
returns-then-buffer c = λ site o touches.
    let known = c.in_ok-known.known in
    let rest = c.in_ok-buffer.buffer || c.in_ok-long.long in
    first_is c.in_ok-buffer.buffer c.in_ok-long.long c.if-buffer.true
    ∙ second_is known rest c.if-known.false
    ∙ past_limits o (site_view site (knowledge_of c.deref.result.now)) (site_view site (knowledge_of c.deref-2.result.now)) (known_view site c.args.old.now) (buffer_view site c.args.old.now) known c.in_ok-buffer.buffer c.in_ok-long.long
    (ap (λ os. site_view site (knowledge_of os)) c.deref.ensures.value) (ap (λ os. site_view site (knowledge_of os)) c.deref-2.ensures.value)
    (c.in_ok-known.ensures site o touches) (c.in_ok-buffer.ensures site o touches) (c.in_ok-long.ensures o touches)

pub returns-else-buffer : goal.returns-else-buffer
returns-else-buffer c = λ site o touches.
    let known = c.in_ok-known.known in
    let rest = c.in_ok-buffer.buffer || c.in_ok-long.long in
    second_is c.in_ok-buffer.buffer c.in_ok-long.long c.if-buffer.false
    ∙ second_is known rest c.if-known.false
    ∙ past_limits o (site_view site (knowledge_of c.deref.result.now)) (site_view site (knowledge_of c.deref-2.result.now)) (known_view site c.args.old.now) (buffer_view site c.args.old.now) known c.in_ok-buffer.buffer c.in_ok-long.long
    (ap (λ os. site_view site (knowledge_of os)) c.deref.ensures.value) (ap (λ os. site_view site (knowledge_of os)) c.deref-2.ensures.value)
    (c.in_ok-known.ensures site o touches) (c.in_ok-buffer.ensures site o touches) (c.in_ok-long.ensures o touches)
