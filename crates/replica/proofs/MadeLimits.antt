-- What a command makes is within the limits of operations.
use Rattle.std.proofs.Common.{◌≡◌, ℕ, suc, ◌<◌, ◌≤◌, max, Bool, true, false, ◌&&◌, ◌||◌, not, nat_lt, unwrap_or, bytes_eq, inl, inr, List, [], ◌∷◌, Contains, Option, Some, None, map as each, refl, sym, ap, subst, ◌∙◌, arith, if◌then◌else◌}
use Rattle.std.specs.FinSet as set
use Rattle.std.specs.Cmp.Lexicographic.{pointwise}
use Rattle.std.specs.Option.{option_and_then}
use Rattle.std.specs.Prelude.{nat_eq}
use Rattle.std.specs.Ordering.{is_eq}
use Rattle.std.proofs.lemmas.Cmp.{tied_itself}
use Rattle.std.proofs.lemmas.Bool.{or_parts}
use Rattle.std.proofs.lemmas.Option.{same_Some}
use Rattle.std.proofs.lemmas.Bool.Decides.{nat_tests}
use Rattle.std.proofs.lemmas.List.Quantifiers.{position-Some}
use Rattle.dots.specs.declared.limits.TheConstants.{MOST_CALLS, QUEUES}
use Rattle.dots.specs.declared.member.Member.{Member}
use Rattle.dots.specs.Values.{Dot, IsSite, IsCount, IsName}
use Rattle.dots.specs.DotSets.{is_older}
use Rattle.operations.specs.Operations.{Operation, Setting}
use Rattle.operations.specs.Knowledge.{Knowledge, is_asserted, is_dot, is_named, member_of, visible_dots}
use Rattle.operations.specs.Rows.{dot_view, dots_of, is_of}
use Rattle.general_lemmas.specs.SetItems.{in_order}
use Rattle.dots.specs.WithinLimits.{AreDots, IsDot, IsMember}
use Rattle.operations.specs.OperationLimits.{AreAsserted, AreWithinLimits, IsSetting, IsWithinLimits}
use Rattle.dots.proofs.DotOrder.{dots_total}
use Rattle.general_lemmas.proofs.Filters.{filter_in}
use Rattle.general_lemmas.proofs.ItemOrder.{in_order_has}
use Rattle.general_lemmas.proofs.Membership.{any_in, cases_in, first_in, in_any, in_some, later_in, nothing_in}
use Rattle.operations.proofs.VisibleLaws.{visible_dot}
use Rattle.operations.proofs.WithinLimitsLaws.{asserted_dot_is, member_of_is, named_dot_is, one_dot}
use Rattle.replica.specs.declared.refusal.Refusal.TheVariants.{Exhausted, MembersFull, TotalFull}
use Rattle.replica.specs.Changes.{Meaning, Refused, Makes, AddMember, RemoveMember, SetField, CountCall, add_at, count_at, in_queue, is_exhausted, is_full, is_past_total, is_too_long, is_used_up, meaning_of_setting, remove_of, time_replaced, where_absent, where_present, within_limits, write_at}
use Rattle.replica.specs.Promises.{MakesWithinLimits}
use Rattle.replica.specs.Queues.{AreQueues, number_of}
use Rattle.replica.specs.SiteViews.{SiteView, dots_seen, greatest, older_dots, site_view, with_interface}
use Rattle.replica.proofs.SiteViewLaws.{older_named}

-- an operation that is made passes every test
pub record Made (o p : Operation) : Type 0 where
  pub same : o ≡ p
  pub numbers : is_exhausted o ≡ false
  pub total : is_past_total o ≡ false

pub made : (r buffer : SiteView) (o p : Operation) → within_limits r buffer o ≡ Makes p → Made o p
made r buffer o p h = by (is_full r o || (is_full buffer o || is_too_long o)) (is_exhausted o) (is_past_total o) refl refl h
  where
    by : (a b c : Bool) → is_exhausted o ≡ b → is_past_total o ≡ c → (if a then Refused MembersFull else if b then Refused Exhausted else if c then Refused TotalFull else Makes o) ≡ Makes p → Made o p
    by true b c e f h = absurd (cc)
    by false true c e f h = absurd (cc)
    by false false true e f h = absurd (cc)
    by false false false e f h = record { same = cc; numbers = e; total = f }

pub in_queue_made : (x : Option ℕ) (go : ℕ → Meaning) (o : Operation) → in_queue x go ≡ Makes o → (q : ℕ) × (x ≡ Some q) × (go q ≡ Makes o)
in_queue_made None go o h = absurd (cc)
in_queue_made (Some q) go o h = (q, refl, h)

pub where_absent_made : (dots : List (Dot × Member)) (m : Meaning) (o : Operation) → where_absent dots m ≡ Makes o → m ≡ Makes o
where_absent_made [] m o h = h
where_absent_made (d ∷ dots) m o h = absurd (cc)

pub where_present_made : (dots : List (Dot × Member)) (m : Meaning) (o : Operation) → where_present dots m ≡ Makes o → m ≡ Makes o
where_present_made [] m o h = absurd (cc)
where_present_made (d ∷ dots) m o h = h

-- the number of a queue
queue-is : (names : List (List ℕ)) → AreQueues names → (queue : List ℕ) (q : ℕ) → number_of names queue ≡ Some q → q < QUEUES
queue-is names are queue q h = let there = position-Some (pointwise nat_eq queue) names q [] h in omega (arith, there.0, are.few)

-- numbers that are left
count_is : (n : ℕ) → is_used_up (suc n) ≡ false → IsCount (suc n)
count_is n h = (omega arith, grind (arith, nat_tests))

total-is : (n : ℕ) → nat_lt MOST_CALLS n ≡ false → n ≤ MOST_CALLS
total-is n h = grind (arith, nat_tests)

and_left : (a b : Bool) → (a && b) ≡ true → a ≡ true
and_left true b h = refl
and_left false b h = h

-- the older dots
older-are : (site : ℕ) (k : Knowledge) (dots : List Dot) → AreWithinLimits k → AreDots (older_dots (site_view site k) dots)
older-are site k dots within dot h = named_dot_is k within dot (and_left (is_named k dot) (is_older dots dot) (sym (older_named site k dots dot) ∙ h))

-- a dot that is visible
visible_is : (k : Knowledge) (dot : Dot) → Contains (in_order (visible_dots k)) dot → is_asserted k dot ≡ true
visible_is k dot here =
    and_left (is_asserted k dot) (not (is_named k dot))
    (sym (visible_dot k dot) ∙ sym (in_order_has dots_total (visible_dots k) dot) ∙ any_in (is_dot dot) (in_order (visible_dots k)) dot here (ap is_eq (tied_itself dots_total dot)))

-- the dots that are seen of an interface
pub in_each : {X Y : Type 0} (f : X → Y) (xs : List X) (y : Y) → Contains (each f xs) y → (x : X) × Contains xs x × (f x ≡ y)
in_each f [] y h = absurd (nothing_in y h)
in_each f (x ∷ xs) y h = elim (cases_in (f x) (each f xs) y h) [
  | inl e ↦ (x, first_in x xs, e)
  | inr r ↦ let s = in_each f xs y r in (s.0, later_in x xs s.0 s.1, s.2)
]

-- what a function gives of an element is in the list that it gives
pub map_in : {X Y : Type 0} (f : X → Y) (xs : List X) (x : X) → Contains xs x → Contains (each f xs) (f x)
map_in f [] x h = absurd (nothing_in x h)
map_in f (y ∷ ys) x h = elim (cases_in y ys x h) [
  | inl e ↦ subst (Contains (each f (y ∷ ys))) (ap f e) (first_in (f y) (each f ys))
  | inr r ↦ later_in (f y) (each f ys) (f x) (map_in f ys x r)
]

-- the member that is shown has the interface, and each dot of it is shown
pub is_with : (interface : List ℕ) (o : Option Member) (d dot : Dot) (member : Member)
    → option_and_then {U = Dot × Member} (λ m. if bytes_eq m.interface interface then Some (d, m) else None) o ≡ Some (dot, member) → bytes_eq member.interface interface ≡ true
is_with interface None d dot member h = absurd (cc)
is_with interface (Some m) d dot member h = by (bytes_eq m.interface interface) refl h
  where
    shown : Bool → Option (Dot × Member)
    shown b = if b then Some (d, m) else None

    by : (b : Bool) → bytes_eq m.interface interface ≡ b → shown b ≡ Some (dot, member) → bytes_eq member.interface interface ≡ true
    by true e same = subst (λ n. bytes_eq n.interface interface ≡ true) (ap (λ p. p.1) (same_Some (d, m) (dot, member) same)) e
    by false e same = absurd (cc)

pub shown_with : (interface : List ℕ) (d : Dot) (member : Member) → bytes_eq member.interface interface ≡ true → (o : Option Member) → o ≡ Some member
    → option_and_then {U = Dot × Member} (λ m. if bytes_eq m.interface interface then Some (d, m) else None) o ≡ Some (d, member)
shown_with interface d member e o is =
    ap (λ o. option_and_then {U = Dot × Member} (λ m. if bytes_eq m.interface interface then Some (d, m) else None) o) is ∙ ap (λ (b : Bool). if b then Some (d, member) else None) e

pub with_is : (interface : List ℕ) (o : Option Member) (d dot : Dot) (member : Member)
    → option_and_then {U = Dot × Member} (λ m. if bytes_eq m.interface interface then Some (d, m) else None) o ≡ Some (dot, member) → (d ≡ dot) × (o ≡ Some member)
with_is interface None d dot member h = absurd (cc)
with_is interface (Some m) d dot member h = by (bytes_eq m.interface interface) h
  where
    shown : Bool → Option (Dot × Member)
    shown b = if b then Some (d, m) else None

    by : (b : Bool) → shown b ≡ Some (dot, member) → (d ≡ dot) × (Some m ≡ Some member)
    by true e = let same = same_Some (d, m) (dot, member) e in (ap (λ p. p.0) same, ap (λ p. Some p.1) same)
    by false e = absurd (cc)

seen_are : (k : Knowledge) → AreWithinLimits k → (queue : Option ℕ) (interface : List ℕ) → ((q : ℕ) → queue ≡ Some q → q < QUEUES) → IsName interface → AreAsserted (dots_seen (dot_view k) queue interface)
seen_are k within None interface few name dot member here =
    let x = in_some (with_interface (dot_view k) interface) (in_order (visible_dots k)) (dot, member) here in
    let e = with_is interface (member_of k x.0) x.0 dot member x.2 in
    let is = member_of_is k within x.0 member e.1 in
    (subst IsDot e.0 is.0, is.1)
seen_are k within (Some q) interface few name dot member here =
    let m : Member = record { queue = q; interface = interface } in
    let x = in_each (λ d. (d, m)) (dots_of (dot_view k) m) (dot, member) here in
    let seen = visible_is k x.0 (filter_in (is_of (dot_view k) m) (in_order (visible_dots k)) x.0 x.1) in
    (subst IsDot (ap (λ p. p.0) x.2) (asserted_dot_is k within x.0 seen), subst IsMember (ap (λ p. p.1) x.2) (record { queue = few q refl; interface = name }))

-- dots alone
alone_are : (dots : List (Dot × Member)) → AreAsserted dots → AreDots (set.from_list (each (λ d. d.0) dots))
alone_are dots are dot h =
    let x = in_any (is_dot dot) (each (λ d. d.0) dots) (sym (set.contains-from_list dots_total (each (λ d. d.0) dots) dot) ∙ h) in
    let p = in_each (λ d. d.0) dots x.0 x.1 in
    subst IsDot (p.2 ∙ sym (one_dot dot x.0 x.2)) (are p.0.0 p.0.1 p.1).0

-- what is made, change by change
none_few : (q : ℕ) → None ≡ Some q → q < QUEUES
none_few q h = absurd (cc)

setting_made : (site : ℕ) (k buffer : Knowledge) (setting : Setting) (queue : Option ℕ) (interface : List ℕ) (o : Operation) → IsSite site → IsSetting setting
    → ((q : ℕ) → queue ≡ Some q → q < QUEUES) → IsName interface → AreWithinLimits k
    → meaning_of_setting site (site_view site k) (site_view site buffer) setting (dots_seen (dot_view k) queue interface) ≡ Makes o → IsWithinLimits o
setting_made site k buffer setting queue interface o at is few name within h =
    let dots = dots_seen (dot_view k) queue interface in
    let r = site_view site k in
    let write = write_at site r setting dots in
    let m = made r (site_view site buffer) write o (where_present_made dots (within_limits r (site_view site buffer) write) o h) in
    subst IsWithinLimits m.same (record {
      dots_are = seen_are k within queue interface few name;
      setting_is = is;
      stamp_is = record { site = at; time = count_is (max r.last_time (greatest (λ d. time_replaced r.dots setting d.0) dots)) m.numbers };
      older_are = older-are site k (each (λ d. d.0) dots) within;
    })

pub makes_within_limits : MakesWithinLimits
makes_within_limits site names (AddMember queue interface penalty paused label) k buffer o at are is within h =
    let r = site_view site k in
    let q = in_queue_made (number_of names queue) _ o h in
    let member : Member = record { queue = q.0; interface = interface } in
    let add = add_at site r member penalty paused label in
    let m = made r (site_view site buffer) add o (where_absent_made (dots_seen r.dots (Some q.0) interface) (within_limits r (site_view site buffer) add) o q.2) in
    subst IsWithinLimits m.same (record {
      dot_is = record { site = at; count = count_is r.last_count (or_parts _ _ m.numbers).0 };
      member_is = record { queue = queue-is names are queue q.0 q.1; interface = is.0 };
      stamp_is = record { site = at; time = count_is r.last_time (or_parts _ _ m.numbers).1 };
      penalty_is = is.1.0;
      pause_is = record { reason = record { short = omega arith; clean = refl }; none = λ _. refl };
      label_is = is.1.1;
      older_are = older-are site k _ within;
    })
makes_within_limits site names (RemoveMember queue interface) k buffer o at are is within h =
    let r = site_view site k in
    let q = in_queue_made (number_of names queue) _ o h in
    let dots = dots_seen r.dots (Some q.0) interface in
    let m = made r (site_view site buffer) (remove_of dots) o (where_present_made dots (within_limits r (site_view site buffer) (remove_of dots)) o q.2) in
    subst IsWithinLimits m.same (alone_are dots (seen_are k within (Some q.0) interface (λ p e. subst (λ n. n < QUEUES) (same q.0 p e) (queue-is names are queue q.0 q.1)) is))
  where
    same : (a b : ℕ) → Some a ≡ Some b → a ≡ b
    same a b e = ap (λ o. unwrap_or o a) e
makes_within_limits site names (SetField None interface setting) k buffer o at are is within h = setting_made site k buffer setting None interface o at is.1 none_few is.0 within h
makes_within_limits site names (SetField (Some queue) interface setting) k buffer o at are is within h =
    let q = in_queue_made (number_of names queue) _ o h in
    setting_made site k buffer setting (Some q.0) interface o at is.1 (λ p e. subst (λ n. n < QUEUES) (ap (λ o. unwrap_or o q.0) e) (queue-is names are queue q.0 q.1)) is.0 within q.2
makes_within_limits site names (CountCall queue calls) k buffer o at are is within h =
    let r = site_view site k in
    let q = in_queue_made (number_of names queue) _ o h in
    let m = made r (site_view site buffer) (count_at site r q.0 calls) o q.2 in
    subst IsWithinLimits m.same (record { site_is = at; queue_is = queue-is names are queue q.0 q.1; total_is = total-is _ m.total })
