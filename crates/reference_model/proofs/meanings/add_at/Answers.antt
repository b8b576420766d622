use Rattle.std.proofs.Common.{◌≡◌, ◌+◌, suc, ◌||◌, [], ◌∷◌, refl, sym, ap, ◌∙◌, arith}
use Rattle.std.specs.FinSet as set
use Rattle.operations.specs.Operations.{Operation}
use Rattle.replica.specs.Changes.{is_full, is_too_long}
use Rattle.replica.specs.SiteViews.{greatest, count_used, time_used, older_dots, site_view}
use Rattle.reference_model.specs.Plain.{knowledge_of}
use Rattle.reference_model.specs.Sites.{Touches, known_view, buffer_view}
use Rattle.reference_model.proofs.LimitSteps.{add_full, add_no_count, add_no_time, add_made, no_number, has_number, pause_is}
use Rattle.reference_model.proofs.meanings.add_at.Goals as goal

pub returns-then-branch : goal.returns-then-branch
returns-then-branch c =
    let site = c.args.site in
    let s = c.args.old.now in
    let r = known_view site s in
    let counts : c.last_count-count.result + 1 ≡ suc r.last_count =
    let at = c.last_count-count.ensures.value ∙ (λ i. greatest (count_used site) (knowledge_of (c.deref.ensures.value i))) in omega (arith, at) in
    let dot_is : c.new.result ≡ record { site = site; count = suc r.last_count } = c.new.ensures ∙ (λ i. record { site = site; count = counts i }) in
    let older_is : set.from_list c.in_ok-older.older.items ≡ older_dots r (c.new.result ∷ []) =
    c.in_ok-older.ensures site ∙ (λ i. older_dots (site_view site (knowledge_of (c.deref-3.ensures.value i))) (c.new.result ∷ [])) in
    let limits : (o : Operation) → Touches o (c.new.result ∷ []) c.in_ok-older.older.items → c.in_ok-is_past_limits.field-0 ≡ (is_full r o || (is_full (buffer_view site s) o || is_too_long o)) =
    λ o touches. c.in_ok-is_past_limits.ensures site o (record { asserted_are = touches.asserted_are; named_are = touches.named_are ∙ ap set.from_list (sym c.deref-4.ensures.value) }) in
    add_full site r (buffer_view site s) c.args.member c.args.penalty c.args.paused c.args.label.now c.new.result c.in_ok-older.older.items c.in_ok-is_past_limits.field-0 dot_is older_is limits c.if-branch.true

pub returns-in_default : goal.returns-in_default
returns-in_default c =
    let site = c.args.site in
    let s = c.args.old.now in
    let r = known_view site s in
    let counts : c.last_count-count.result + 1 ≡ suc r.last_count =
    let at = c.last_count-count.ensures.value ∙ (λ i. greatest (count_used site) (knowledge_of (c.deref.ensures.value i))) in omega (arith, at) in
    let dot_is : c.new.result ≡ record { site = site; count = suc r.last_count } = c.new.ensures ∙ (λ i. record { site = site; count = counts i }) in
    let older_is : set.from_list c.in_ok-older.older.items ≡ older_dots r (c.new.result ∷ []) =
    c.in_ok-older.ensures site ∙ (λ i. older_dots (site_view site (knowledge_of (c.deref-3.ensures.value i))) (c.new.result ∷ [])) in
    let limits : (o : Operation) → Touches o (c.new.result ∷ []) c.in_ok-older.older.items → c.in_ok-is_past_limits.field-0 ≡ (is_full r o || (is_full (buffer_view site s) o || is_too_long o)) =
    λ o touches. c.in_ok-is_past_limits.ensures site o (record { asserted_are = touches.asserted_are; named_are = touches.named_are ∙ ap set.from_list (sym c.deref-4.ensures.value) }) in
    add_no_count site r (buffer_view site s) c.args.member c.args.penalty c.args.paused c.args.label.now c.new.result c.in_ok-older.older.items c.in_ok-is_past_limits.field-0 dot_is older_is limits c.if-branch.false (no_number _ _ counts c.in_default.ensures.within.1 (omega arith))

pub returns-in_default-new : goal.returns-in_default-new
returns-in_default-new c =
    let site = c.args.site in
    let s = c.args.old.now in
    let r = known_view site s in
    let counts : c.last_count-count.result + 1 ≡ suc r.last_count =
    let at = c.last_count-count.ensures.value ∙ (λ i. greatest (count_used site) (knowledge_of (c.deref.ensures.value i))) in omega (arith, at) in
    let dot_is : c.new.result ≡ record { site = site; count = suc r.last_count } = c.new.ensures ∙ (λ i. record { site = site; count = counts i }) in
    let older_is : set.from_list c.in_ok-older.older.items ≡ older_dots r (c.new.result ∷ []) =
    c.in_ok-older.ensures site ∙ (λ i. older_dots (site_view site (knowledge_of (c.deref-3.ensures.value i))) (c.new.result ∷ [])) in
    let times : c.last_time-time.result + 1 ≡ suc r.last_time =
    let at = c.last_time-time.ensures.value ∙ (λ i. greatest (time_used site) (knowledge_of (c.deref-2.ensures.value i))) in omega (arith, at) in
    let limits : (o : Operation) → Touches o (c.new.result ∷ []) c.in_ok-older.older.items → c.in_ok-is_past_limits.field-0 ≡ (is_full r o || (is_full (buffer_view site s) o || is_too_long o)) =
    λ o touches. c.in_ok-is_past_limits.ensures site o (record { asserted_are = touches.asserted_are; named_are = touches.named_are ∙ ap set.from_list (sym c.deref-4.ensures.value) }) in
    add_no_time site r (buffer_view site s) c.args.member c.args.penalty c.args.paused c.args.label.now c.new.result c.in_ok-older.older.items c.in_ok-is_past_limits.field-0 dot_is older_is limits c.if-branch.false (no_number _ _ times c.in_default-new.ensures.within.1 (omega arith))

pub returns : goal.returns
returns c =
    let site = c.args.site in
    let s = c.args.old.now in
    let r = known_view site s in
    let counts : c.last_count-count.result + 1 ≡ suc r.last_count =
    let at = c.last_count-count.ensures.value ∙ (λ i. greatest (count_used site) (knowledge_of (c.deref.ensures.value i))) in omega (arith, at) in
    let dot_is : c.new.result ≡ record { site = site; count = suc r.last_count } = c.new.ensures ∙ (λ i. record { site = site; count = counts i }) in
    let older_is : set.from_list c.in_ok-older.older.items ≡ older_dots r (c.new.result ∷ []) =
    c.in_ok-older.ensures site ∙ (λ i. older_dots (site_view site (knowledge_of (c.deref-3.ensures.value i))) (c.new.result ∷ [])) in
    let times : c.last_time-time.result + 1 ≡ suc r.last_time =
    let at = c.last_time-time.ensures.value ∙ (λ i. greatest (time_used site) (knowledge_of (c.deref-2.ensures.value i))) in omega (arith, at) in
    let limits : (o : Operation) → Touches o (c.new.result ∷ []) c.in_ok-older.older.items → c.in_ok-is_past_limits.field-0 ≡ (is_full r o || (is_full (buffer_view site s) o || is_too_long o)) =
    λ o touches. c.in_ok-is_past_limits.ensures site o (record { asserted_are = touches.asserted_are; named_are = touches.named_are ∙ ap set.from_list (sym c.deref-4.ensures.value) }) in
    add_made site r (buffer_view site s) c.args.member c.args.penalty c.args.paused c.args.label.now c.new.result c.in_ok-older.older.items c.in_ok-is_past_limits.field-0 dot_is older_is limits c.if-branch.false
    (has_number _ _ counts (c.in-Some.ensures.within.0 refl)) (has_number _ _ times (c.in-Some-new.ensures.within.0 refl))
    c.in-Some.dot c.in-Some-new.stamp c.new-4.result c.copy.result
    (λ i. record { site = c.in-Some.ensures.value.0 i; count = (c.in-Some.ensures.value.1 ∙ counts) i })
    (λ i. record { time = (c.in-Some-new.ensures.value.0 ∙ times) i; site = c.in-Some-new.ensures.value.1 i })
    (pause_is c.args.paused c.new-4.result c.empty.result c.empty.ensures c.new-4.ensures.paused c.new-4.ensures.reason c.new-4.ensures.dropped)
    c.copy.ensures
