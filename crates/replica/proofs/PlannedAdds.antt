-- What is planned for an add is what it means.
use Rattle.std.proofs.Common.{◌≡◌, ◌≢◌, ◌≤◌, ◌<◌, inl, inr, ℕ, suc, Bool, true, false, ◌||◌, List, [], ◌∷◌, length, map as each, Contains, Some, refl, sym, ap, subst, ◌∙◌, arith, nat_lt}
use Rattle.std.proofs.lemmas.Bool.Decides.{nat_tests}
use Rattle.std.specs.Option.{is_some, option_map, option_map_or}
use Rattle.std.specs.Ordering.{eq_by_cmp, is_eq}
use Rattle.std.proofs.lemmas.Cmp.{tied_itself}
use Rattle.std.specs.FinMap as map
use Rattle.std.specs.FinSet as set
use Rattle.dots.specs.declared.label.Label.{Label}
use Rattle.dots.specs.declared.limits.TheConstants.{MOST_COUNT, MOST_RUNS}
use Rattle.dots.specs.declared.member.Member.{Member}
use Rattle.dots.specs.Values.{Dot, Stamp, IsCount}
use Rattle.dots.specs.Orders.{dot_cmp, member_cmp}
use Rattle.dots.specs.DotSets.{run_count}
use Rattle.operations.specs.Operations.{Operation}
use Rattle.operations.specs.Rows.{DotView, dots_of, is_of}
use Rattle.general_lemmas.specs.SetItems.{in_order}
use Rattle.dots.proofs.DotOrder.{dots_total}
use Rattle.general_lemmas.proofs.Filters.{filter_has}
use Rattle.general_lemmas.proofs.ItemOrder.{in_order_has}
use Rattle.dots.proofs.MemberOrder.{members_total}
use Rattle.general_lemmas.proofs.Membership.{first_in, in_any, nothing_in}
use Rattle.member_orset.specs.Members.{Holding, IsPresent, IsWithinLimits}
use Rattle.member_orset.specs.Reads.{dots_seen_below}
use Rattle.live_cells.proofs.DotTests.{one_dot}
use Rattle.replica.specs.declared.planned.Planned.{Planned}
use Rattle.replica.specs.declared.refusal.Refusal.{Refusal}
use Rattle.replica.specs.declared.refusal.Refusal.TheVariants.{AlreadyThere, MembersFull}
use Rattle.replica.specs.Changes.{AddMember, Meaning, Refused, add_at, in_queue, is_exhausted, is_used_up, where_absent, within_limits}
use Rattle.replica.specs.Changing.{IsChangeOf}
use Rattle.replica.specs.Commands.{IsRefusalOf, IsRefusalOfAdds, MayWantMemory}
use Rattle.replica.specs.Keeping.{IsKept}
use Rattle.replica.specs.Planning.{IsPlan, IsUnplanned}
use Rattle.replica.specs.Queues.{number_of}
use Rattle.replica.specs.SetFields.{fields_added}
use Rattle.replica.specs.Site.{SiteState, meaning_at, view_of}
use Rattle.replica.specs.SiteViews.{dots_seen, older_dots}
use Rattle.replica.proofs.Doing.{full_means, limits_want}
use Rattle.replica.proofs.Fullness.{older_new, seen_older, visible_live}
use Rattle.replica.proofs.GreatestTimes.{own_latest}
use Rattle.replica.specs.Writing.{HasParts, one_held}
use Rattle.replica.proofs.MadeChanges.{add_delta, known_by}
use Rattle.replica.proofs.SiteChanges.{add_change}
use Rattle.replica.proofs.WrittenChanges.{in_pairs, seen_holding}

-- a visible dot of a member is seen in its queue
pub visible_seen : (r : DotView) (queue : ℕ) (interface : List ℕ) (dot : Dot) → set.contains r.visible dot ≡ true
    → r.member dot ≡ Some (record { queue = queue; interface = interface }) → Contains (dots_of r (record { queue = queue; interface = interface })) dot
visible_seen r queue interface dot visible is =
    let member : Member = record { queue = queue; interface = interface } in
    let one = in_any (eq_by_cmp dot_cmp dot) (in_order r.visible) (in_order_has dots_total r.visible dot ∙ visible) in
    filter_has (is_of r member) (in_order r.visible) dot (subst (Contains (in_order r.visible)) (sym (one_dot dot one.0 one.2)) one.1)
    (ap (λ o. option_map_or (eq_by_cmp member_cmp member) o false) is ∙ ap is_eq (tied_itself members_total member))

-- an add where the member is there, and where it isn't
seen_there : (dots : List (Dot × Member)) (m : Meaning) → dots ≢ [] → where_absent dots m ≡ Refused AlreadyThere
seen_there [] m some = absurd (some refl)
seen_there (d ∷ ds) m some = refl

-- a number is past the greatest where it is no count
pub used_up : (n : ℕ) → (IsCount (suc n) → ⊥) → is_used_up (suc n) ≡ true
used_up n none = by (nat_lt MOST_COUNT (suc n)) refl
  where
    within : (n : ℕ) → nat_lt MOST_COUNT (suc n) ≡ false → suc n ≤ MOST_COUNT
    within n h = grind (arith, nat_tests)

    by : (b : Bool) → nat_lt MOST_COUNT (suc n) ≡ b → nat_lt MOST_COUNT (suc n) ≡ true
    by true e = e
    by false e = absurd (none (omega arith, within n e))

-- a number that is a count isn't past the greatest
pub not_used_up : (n : ℕ) → IsCount n → is_used_up n ≡ false
not_used_up n count = by n count.1
  where
    by : (n : ℕ) → n ≤ MOST_COUNT → nat_lt MOST_COUNT n ≡ false
    by n h = grind (arith, nat_tests)

module _ (s : SiteState) (kept : IsKept s) (limits : IsWithinLimits s.state.members)
    (queue interface : List ℕ) (penalty : ℕ) (paused : Bool) (label : Label) (number : ℕ) (numbered : number_of s.names queue ≡ Some number) where
  abbrev member : Member
  member = record { queue = number; interface = interface }

  abbrev next : Dot
  next = record { site = s.site; count = suc s.last_count }

  abbrev stamp : Stamp
  stamp = record { time = suc s.last_time; site = s.site }

  abbrev adding : Operation
  adding = add_at s.site (view_of s s.state) member penalty paused label

  abbrev meant : Meaning
  meant = meaning_at s (AddMember queue interface penalty paused label)

  abbrev its_dots : List (Dot × Member)
  its_dots = dots_seen (view_of s s.state).dots (Some number) interface

  -- what it means, by the dots of the member
  add_means : meant ≡ where_absent its_dots (within_limits (view_of s s.state) (view_of s s.pending) adding)
  add_means = ap (λ n. in_queue n (λ q. where_absent (dots_seen (view_of s s.state).dots (Some q) interface)
      (within_limits (view_of s s.state) (view_of s s.pending) (add_at s.site (view_of s s.state) (record { queue = q; interface = interface }) penalty paused label)))) numbered

  -- a member that is there has a dot
  present_dots : IsPresent s.state.members member → its_dots ≢ []
  present_dots present e =
      let here = visible_seen (view_of s s.state).dots number interface present.dot (visible_live s s.state present.dot ∙ ap is_some present.live) (ap (option_map (λ (h : Holding). h.0)) present.live) in
      by (dots_of (view_of s s.state).dots member) e here
    where
      by : (ds : List Dot) → each (λ dot. let p : Dot × Member = (dot, member) in p) ds ≡ [] → Contains ds present.dot → ⊥
      by [] e here = nothing_in present.dot here
      by (d ∷ ds) e here = (cc)

  -- the add of a member that is there is refused
  pub add_there : IsPresent s.state.members member → meant ≡ Refused AlreadyThere
  add_there present = add_means ∙ seen_there its_dots _ (present_dots present)

  -- one that isn't there has none
  absent_dots : (IsPresent s.state.members member → ⊥) → its_dots ≡ []
  absent_dots absent = by its_dots refl
    where
      by : (ds : List (Dot × Member)) → its_dots ≡ ds → its_dots ≡ []
      by [] e = e
      by (p ∷ ps) e =
          let here : Contains its_dots p = subst (λ ds. Contains ds p) (sym e) (first_in p ps) in
          let g = seen_holding s (Some number) interface p here in
          let same = (in_pairs member (dots_of (view_of s s.state).dots member) p here).1 in
          absurd (absent (record { dot = p.0; fields = g.0; live = g.1 ∙ ap (λ m. let h : Holding = (m, g.0) in Some h) same }))

  module _ (absent : IsPresent s.state.members member → ⊥) where
    -- the add of a member that isn't there means the next dot, within the limits
    means_next : meant ≡ within_limits (view_of s s.state) (view_of s s.pending) adding
    means_next = add_means ∙ ap (λ ds. where_absent ds (within_limits (view_of s s.state) (view_of s s.pending) adding)) (absent_dots absent)

    -- an add may run out of memory
    pub add_wants : MayWantMemory meant
    add_wants = subst MayWantMemory (sym means_next) (limits_want (view_of s s.state) (view_of s s.pending) adding refl)

    -- the refusal of all adds is that of this one
    pub add_reported : (refusal : Refusal) → IsRefusalOfAdds s refusal → is_exhausted adding ≡ true → IsUnplanned meant refusal
    add_reported refusal reported exhausted = by (reported member penalty paused label exhausted)
      where
        by : IsRefusalOf s adding refusal → IsUnplanned meant refusal
        by (inl e) = inl (e, add_wants)
        by (inr e) = inr (means_next ∙ e)

    -- a context of too many runs gives this refusal
    pub add_long : MOST_RUNS < run_count (dots_seen_below s.state.members (next ∷ [])) → meant ≡ Refused MembersFull
    add_long many = means_next ∙ full_means (view_of s s.state) (view_of s s.pending) adding (inr (inr
        (ap (λ k. nat_lt MOST_RUNS (run_count k)) (known_by adding ((next, member) ∷ []) (older_dots (view_of s s.state) (next ∷ [])) refl refl ∙ sym (seen_older s s.state (next ∷ [])))
        ∙ test (run_count (dots_seen_below s.state.members (next ∷ []))) many)))
      where
        test : (n : ℕ) → MOST_RUNS < n → nat_lt MOST_RUNS n ≡ true
        test n h = grind (arith, nat_tests)

    -- the plan is that of the add
    pub add_plan : (planned : Planned) → number < length s.names → IsCount (suc s.last_count) → IsCount (suc s.last_time)
        → planned.count ≡ suc s.last_count → planned.time ≡ suc s.last_time
        → HasParts planned.change (dots_seen_below s.state.members (next ∷ [])) (one_held next (member, fields_added stamp penalty (record { paused = paused; reason = [] }) label)) map.empty
        → IsPlan s meant planned
    add_plan planned within count_is time_is count time parts = record {
      operation = adding;
      means = means_next;
      stands = add_delta planned.change next member stamp penalty (record { paused = paused; reason = [] }) label (older_dots (view_of s s.state) (next ∷ []))
          (older_new s s.state next) (parts.known ∙ seen_older s s.state (next ∷ [])) parts.live parts.totals;
      not_exhausted = λ i. not_used_up (suc s.last_count) count_is i || not_used_up (suc s.last_time) time_is i;
      not_past_total = refl;
      counted = count ∙ own_latest s.site (suc s.last_count) s.last_count (omega arith);
      timed = time ∙ own_latest s.site (suc s.last_time) s.last_time (omega arith);
      change = subst (λ n. IsChangeOf s n planned.time planned.change) (sym count) (subst (λ t. IsChangeOf s (suc s.last_count) t planned.change) (sym time)
          (add_change s kept limits planned.change member penalty (record { paused = paused; reason = [] }) label within count_is.1 time_is.1 parts.known parts.live parts.totals));
      limits = parts.limits;
    }
