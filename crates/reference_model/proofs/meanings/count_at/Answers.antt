use Rattle.std.proofs.Common.{◌≡◌, ◌+◌, suc, [], refl, sym, ap, ◌∙◌, nat_lt, arith}
use Rattle.operations.specs.Counts.{site_total}
use Rattle.operations.specs.Operations.{Count}
use Rattle.replica.specs.Changes.{Makes, count_at}
use Rattle.reference_model.specs.Plain.{knowledge_of}
use Rattle.reference_model.specs.Sites.{Touches, known_view, buffer_view}
use Rattle.reference_model.proofs.LimitSteps.{means_full, means_past_total, means_made, above, past_most, not_past}
use Rattle.reference_model.proofs.meanings.count_at.Goals as goal

pub returns-then-branch : goal.returns-then-branch
returns-then-branch c =
    let k = c.args.old.now in
    let r = known_view c.args.site k in
    let o = count_at c.args.site r c.args.queue c.args.calls in
    let touches : Touches o [] [] = record { asserted_are = refl; named_are = refl } in
    let limits = c.in_ok-is_past_limits.ensures c.args.site o touches in
    means_full r (buffer_view c.args.site k) o c.in_ok-is_past_limits.field-0 limits c.if-branch.true

pub returns-in-Some : goal.returns-in-Some
returns-in-Some c =
    let k = c.args.old.now in
    let r = known_view c.args.site k in
    let o = count_at c.args.site r c.args.queue c.args.calls in
    let touches : Touches o [] [] = record { asserted_are = refl; named_are = refl } in
    let limits = c.in_ok-is_past_limits.ensures c.args.site o touches in
    let at : c.site_total-number.result ≡ site_total (knowledge_of k.known.items) c.args.site c.args.queue c.args.calls =
    c.site_total-number.ensures.value ∙ (λ i. site_total (knowledge_of (c.deref.ensures.value i)) (c.number.ensures.value i) c.args.queue c.args.calls) in
    let next : c.site_total-number.result + 1 ≡ suc (site_total (knowledge_of k.known.items) c.args.site c.args.queue c.args.calls) = omega (arith, at) in
    let within = c.in-Some.ensures.within.0 refl in
    ap (λ n. Makes (Count c.args.site c.args.queue c.args.calls n)) (c.in-Some.ensures.value ∙ next)
    ∙ means_made r (buffer_view c.args.site k) o c.in_ok-is_past_limits.field-0 limits c.if-branch.false refl (ap (nat_lt 1000000000) (sym next) ∙ not_past 1000000000 (c.site_total-number.result + 1) within)

pub returns-in-None : goal.returns-in-None
returns-in-None c =
    let k = c.args.old.now in
    let r = known_view c.args.site k in
    let o = count_at c.args.site r c.args.queue c.args.calls in
    let touches : Touches o [] [] = record { asserted_are = refl; named_are = refl } in
    let limits = c.in_ok-is_past_limits.ensures c.args.site o touches in
    let at : c.site_total-number.result ≡ site_total (knowledge_of k.known.items) c.args.site c.args.queue c.args.calls =
    c.site_total-number.ensures.value ∙ (λ i. site_total (knowledge_of (c.deref.ensures.value i)) (c.number.ensures.value i) c.args.queue c.args.calls) in
    let next : c.site_total-number.result + 1 ≡ suc (site_total (knowledge_of k.known.items) c.args.site c.args.queue c.args.calls) = omega (arith, at) in
    let past = past_most 1000000000 (c.site_total-number.result + 1) (above 1000000000 (c.site_total-number.result + 1) c.in-None.ensures.within.1) in
    means_past_total r (buffer_view c.args.site k) o c.in_ok-is_past_limits.field-0 limits c.if-branch.false refl (ap (nat_lt 1000000000) (sym next) ∙ past)
