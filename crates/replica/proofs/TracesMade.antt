-- What a command makes leaves a trace.
use Rattle.std.proofs.Common.{◌≡◌, ◌≢◌, ℕ, ◌||◌, true≢false, refl, List, [], ◌∷◌, Some, None, map as each, sym, ap, subst, ◌∙◌, arith}
use Rattle.std.specs.FinSet as set
use Rattle.std.specs.List.{list_any}
use Rattle.std.specs.Ordering.{eq_by_cmp, is_eq}
use Rattle.std.proofs.lemmas.Cmp.{tied_itself}
use Rattle.dots.specs.declared.member.Member.{Member}
use Rattle.dots.specs.Values.{Dot}
use Rattle.dots.specs.Orders.{dot_cmp}
use Rattle.operations.specs.Operations.{Operation, Setting}
use Rattle.operations.specs.Traces.{LeavesTrace}
use Rattle.dots.proofs.DotOrder.{dots_total}
use Rattle.replica.specs.Changes.{Meaning, Makes, AddMember, RemoveMember, SetField, CountCall, add_at, count_at, meaning_of_setting, remove_of, where_present, within_limits, write_at}
use Rattle.replica.specs.Promises.{MakesTraces}
use Rattle.replica.specs.Queues.{number_of}
use Rattle.replica.specs.SiteViews.{SiteView, dots_seen}
use Rattle.replica.proofs.MadeLimits.{in_queue_made, made, where_absent_made}

-- what is made where some dot is seen
present_made : (dots : List (Dot × Member)) (m : Meaning) (o : Operation) → where_present dots m ≡ Makes o → (dots ≢ []) × (m ≡ Makes o)
present_made [] m o h = absurd (cc)
present_made (d ∷ dots) m o h = (λ e. (cc), h)

-- the dots of pairs are some where the pairs are
some_dots : (dots : List (Dot × Member)) → dots ≢ [] → set.from_list {R = dot_cmp} (each (λ d. d.0) dots) ≢ set.empty
some_dots [] some = absurd (some refl)
some_dots (d ∷ dots) some = λ e.
    true≢false (sym (set.contains-from_list dots_total (each (λ p. p.0) (d ∷ dots)) d.0 ∙ ap (λ b. b || list_any (eq_by_cmp dot_cmp d.0) (each (λ p. p.0) dots)) (ap is_eq (tied_itself dots_total d.0)))
    ∙ ap (λ s. set.contains s d.0) e ∙ set.contains-empty dot_cmp d.0)

setting_traces : (site : ℕ) (r buffer : SiteView) (setting : Setting) (dots : List (Dot × Member)) (o : Operation) → meaning_of_setting site r buffer setting dots ≡ Makes o → LeavesTrace o
setting_traces site r buffer setting dots o h =
    let write = write_at site r setting dots in
    let p = present_made dots (within_limits r buffer write) o h in
    subst LeavesTrace (made r buffer write o p.1).same p.0

pub makes_traces : MakesTraces
makes_traces site names (AddMember queue interface penalty paused label) r buffer o h =
    let q = in_queue_made (number_of names queue) _ o h in
    let add = add_at site r (record { queue = q.0; interface = interface }) penalty paused label in
    subst LeavesTrace (made r buffer add o (where_absent_made (dots_seen r.dots (Some q.0) interface) (within_limits r buffer add) o q.2)).same tt
makes_traces site names (RemoveMember queue interface) r buffer o h =
    let q = in_queue_made (number_of names queue) _ o h in
    let dots = dots_seen r.dots (Some q.0) interface in
    let p = present_made dots (within_limits r buffer (remove_of dots)) o q.2 in
    subst LeavesTrace (made r buffer (remove_of dots) o p.1).same (some_dots dots p.0)
makes_traces site names (SetField None interface setting) r buffer o h = setting_traces site r buffer setting (dots_seen r.dots None interface) o h
makes_traces site names (SetField (Some queue) interface setting) r buffer o h =
    let q = in_queue_made (number_of names queue) _ o h in
    setting_traces site r buffer setting (dots_seen r.dots (Some q.0) interface) o q.2
makes_traces site names (CountCall queue calls) r buffer o h =
    let q = in_queue_made (number_of names queue) _ o h in
    subst LeavesTrace (made r buffer (count_at site r q.0 calls) o q.2).same (omega arith)
