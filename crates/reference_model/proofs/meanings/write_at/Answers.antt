use Rattle.std.proofs.Common.{◌≡◌, ℕ, ◌+◌, suc, max, ◌||◌, List, map as each, refl, sym, ap, ◌∙◌, arith}
use Rattle.std.specs.FinSet as set
use Rattle.dots.specs.declared.member.Member.{Member}
use Rattle.dots.specs.Values.{Dot}
use Rattle.operations.specs.Operations.{Operation}
use Rattle.operations.specs.Rows.{dot_view}
use Rattle.replica.specs.Changes.{is_full, is_too_long, time_replaced}
use Rattle.replica.specs.SiteViews.{greatest, time_used, older_dots, site_view}
use Rattle.reference_model.specs.Plain.{knowledge_of, setting_of}
use Rattle.reference_model.specs.Sites.{Touches, known_view, buffer_view}
use Rattle.reference_model.proofs.LimitSteps.{write_full, write_no_time, write_made, no_number, has_number}
use Rattle.reference_model.proofs.meanings.write_at.Goals as goal

pub returns-then-branch : goal.returns-then-branch
returns-then-branch c =
    let site = c.args.site in
    let s = c.args.old.now in
    let r = known_view site s in
    let dots = c.args.dots.items in
    let made = c.in_ok-asserted.asserted.items in
    let made_is : made ≡ each (λ d. d.0) dots = c.in_ok-asserted.ensures ∙ ap (each (λ d. d.0)) c.deref-4.ensures.value in
    let older_is : set.from_list c.in_ok-older.older.items ≡ older_dots r made =
    c.in_ok-older.ensures site ∙ (λ i. older_dots (site_view site (knowledge_of (c.deref-5.ensures.value i))) (c.deref-6.ensures.value i)) in
    let limits : (o : Operation) → Touches o made c.in_ok-older.older.items → c.in_ok-is_past_limits.field-0 ≡ (is_full r o || (is_full (buffer_view site s) o || is_too_long o)) =
    λ o touches. c.in_ok-is_past_limits.ensures site o (record { asserted_are = touches.asserted_are ∙ sym c.deref-7.ensures.value; named_are = touches.named_are ∙ ap set.from_list (sym c.deref-8.ensures.value) }) in
    write_full site r (buffer_view site s) (setting_of c.args.setting.now) dots made c.in_ok-older.older.items c.in_ok-is_past_limits.field-0 made_is older_is limits c.if-branch.true

pub returns-in_default : goal.returns-in_default
returns-in_default c =
    let site = c.args.site in
    let s = c.args.old.now in
    let r = known_view site s in
    let dots = c.args.dots.items in
    let made = c.in_ok-asserted.asserted.items in
    let made_is : made ≡ each (λ d. d.0) dots = c.in_ok-asserted.ensures ∙ ap (each (λ d. d.0)) c.deref-4.ensures.value in
    let older_is : set.from_list c.in_ok-older.older.items ≡ older_dots r made =
    c.in_ok-older.ensures site ∙ (λ i. older_dots (site_view site (knowledge_of (c.deref-5.ensures.value i))) (c.deref-6.ensures.value i)) in
    let limits : (o : Operation) → Touches o made c.in_ok-older.older.items → c.in_ok-is_past_limits.field-0 ≡ (is_full r o || (is_full (buffer_view site s) o || is_too_long o)) =
    λ o touches. c.in_ok-is_past_limits.ensures site o (record { asserted_are = touches.asserted_are ∙ sym c.deref-7.ensures.value; named_are = touches.named_are ∙ ap set.from_list (sym c.deref-8.ensures.value) }) in
    let replaced : List (Dot × Member) → ℕ = greatest (λ d. time_replaced r.dots (setting_of c.args.setting.now) d.0) in
    let times : c.max-time.result + 1 ≡ suc (max r.last_time (replaced dots)) =
    let own = c.last_time-own.ensures.value ∙ (λ i. greatest (time_used site) (knowledge_of (c.deref.ensures.value i))) in
    let others = c.last_replaced.ensures.value ∙ (λ i. greatest (λ d. time_replaced (dot_view (knowledge_of (c.deref-2.ensures.value i))) (setting_of c.args.setting.now) d.0) (c.deref-3.ensures.value i)) in
    let both = c.max-time.ensures ∙ (λ i. max (own i) (others i)) in omega (arith, both) in
    write_no_time site r (buffer_view site s) (setting_of c.args.setting.now) dots made c.in_ok-older.older.items c.in_ok-is_past_limits.field-0 made_is older_is limits c.if-branch.false (no_number _ _ times c.in_default.ensures.within.1 (omega arith))

pub returns : goal.returns
returns c =
    let site = c.args.site in
    let s = c.args.old.now in
    let r = known_view site s in
    let dots = c.args.dots.items in
    let made = c.in_ok-asserted.asserted.items in
    let made_is : made ≡ each (λ d. d.0) dots = c.in_ok-asserted.ensures ∙ ap (each (λ d. d.0)) c.deref-4.ensures.value in
    let older_is : set.from_list c.in_ok-older.older.items ≡ older_dots r made =
    c.in_ok-older.ensures site ∙ (λ i. older_dots (site_view site (knowledge_of (c.deref-5.ensures.value i))) (c.deref-6.ensures.value i)) in
    let limits : (o : Operation) → Touches o made c.in_ok-older.older.items → c.in_ok-is_past_limits.field-0 ≡ (is_full r o || (is_full (buffer_view site s) o || is_too_long o)) =
    λ o touches. c.in_ok-is_past_limits.ensures site o (record { asserted_are = touches.asserted_are ∙ sym c.deref-7.ensures.value; named_are = touches.named_are ∙ ap set.from_list (sym c.deref-8.ensures.value) }) in
    let replaced : List (Dot × Member) → ℕ = greatest (λ d. time_replaced r.dots (setting_of c.args.setting.now) d.0) in
    let times : c.max-time.result + 1 ≡ suc (max r.last_time (replaced dots)) =
    let own = c.last_time-own.ensures.value ∙ (λ i. greatest (time_used site) (knowledge_of (c.deref.ensures.value i))) in
    let others = c.last_replaced.ensures.value ∙ (λ i. greatest (λ d. time_replaced (dot_view (knowledge_of (c.deref-2.ensures.value i))) (setting_of c.args.setting.now) d.0) (c.deref-3.ensures.value i)) in
    let both = c.max-time.ensures ∙ (λ i. max (own i) (others i)) in omega (arith, both) in
    write_made site r (buffer_view site s) (setting_of c.args.setting.now) dots made c.in_ok-older.older.items c.in_ok-is_past_limits.field-0 made_is older_is limits c.if-branch.false (has_number _ _ times (c.in-Some.ensures.within.0 refl))
    c.in-Some.stamp (setting_of c.copy.result) (λ i. record { time = (c.in-Some.ensures.value.0 ∙ times) i; site = c.in-Some.ensures.value.1 i }) c.copy.ensures
