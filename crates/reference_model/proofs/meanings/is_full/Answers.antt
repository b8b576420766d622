use Rattle.std.proofs.Common.{◌||◌, nat_lt, ◌∙◌}
use Rattle.replica.specs.SiteViews.{site_view, visible_with, known_with}
use Rattle.reference_model.specs.Plain.{knowledge_of}
use Rattle.reference_model.proofs.LimitSteps.{first_is, second_is, visible_then, known_then, past_most, not_past}
use Rattle.reference_model.proofs.meanings.is_full.Goals as goal

pub returns-then-dots-gt-MOST_LIVE : goal.returns-then-dots-gt-MOST_LIVE
returns-then-dots-gt-MOST_LIVE c = λ site o touches.
    let k = knowledge_of c.args.operations.now in
    let r = site_view site k in
    let foreseen = c.a_site_view_foresees_one_operation_more.ensures site k o in
    let dots = c.in_ok-dots.ensures.dots (visible_with r o) (visible_then o c.args.asserted.now c.args.named.now touches site k foreseen) in
    let runs = c.in_ok-dots.ensures.runs (known_with r o) (known_then o c.args.asserted.now c.args.named.now touches site k foreseen) in
    first_is (nat_lt 16384 c.in_ok-dots.dots) (nat_lt 65536 c.in_ok-dots.runs) (past_most 16384 c.in_ok-dots.dots c.if-dots-gt-MOST_LIVE.true)
    ∙ (λ i. nat_lt 16384 (dots i) || nat_lt 65536 (runs i))

pub returns-else-dots-gt-MOST_LIVE : goal.returns-else-dots-gt-MOST_LIVE
returns-else-dots-gt-MOST_LIVE c = λ site o touches.
    let k = knowledge_of c.args.operations.now in
    let r = site_view site k in
    let foreseen = c.a_site_view_foresees_one_operation_more.ensures site k o in
    let dots = c.in_ok-dots.ensures.dots (visible_with r o) (visible_then o c.args.asserted.now c.args.named.now touches site k foreseen) in
    let runs = c.in_ok-dots.ensures.runs (known_with r o) (known_then o c.args.asserted.now c.args.named.now touches site k foreseen) in
    second_is (nat_lt 16384 c.in_ok-dots.dots) (nat_lt 65536 c.in_ok-dots.runs) (not_past 16384 c.in_ok-dots.dots c.if-dots-gt-MOST_LIVE.false)
    ∙ (λ i. nat_lt 16384 (dots i) || nat_lt 65536 (runs i))
