-- What a site makes is a change of its own: new to its state, of its queues, and of its next numbers.
use Rattle.std.proofs.Common.{◌≡◌, ◌≤◌, ◌<◌, ◌⊎◌, inl, inr, ℕ, suc, Bool, true, false, ◌||◌, cond, List, [], ◌∷◌, length, Contains, Option, Some, None, refl, sym, ap, subst, ◌∙◌, arith, nat_eq, true≢false, if◌then◌else◌}
use Rattle.std.proofs.lemmas.Bool.{and_parts}
use Rattle.std.proofs.lemmas.Bool.Decides.{nat_tests}
use Rattle.std.specs.FinMap as map
use Rattle.std.specs.FinSet as set
use Rattle.dots.specs.declared.call_totals.CallTotals.{CallTotals}
use Rattle.dots.specs.declared.calls.Calls.{Calls}
use Rattle.dots.specs.declared.label.Label.{Label}
use Rattle.dots.specs.declared.limits.TheConstants.{MOST_COUNT}
use Rattle.dots.specs.declared.member.Member.{Member}
use Rattle.dots.specs.Values.{Dot, PauseState, Stamp}
use Rattle.dots.specs.Orders.{dot_cmp}
use Rattle.operations.specs.Knowledge.{is_dot}
use Rattle.operations.specs.Totals.{Key, join_of, single}
use Rattle.std.specs.List.{list_any}
use Rattle.std.specs.Ordering.{eq_by_cmp, is_eq}
use Rattle.std.proofs.lemmas.Cmp.{tied_itself}
use Rattle.operations.specs.Operations.{entry_under}
use Rattle.operations.specs.Totals.{key_cmp}
use Rattle.general_lemmas.proofs.Membership.{in_any, only_in}
use Rattle.dots.proofs.DotOrder.{dots_total}
use Rattle.live_cells.proofs.DotTests.{one_dot}
use Rattle.site_totals.specs.Raising.{alone}
use Rattle.member_orset.specs.Members.{Holding, IsWithinLimits, condition_at, condition_of}
use Rattle.member_orset.specs.Reads.{dots_seen_below}
use Rattle.delta.specs.DeltaStates.{DeltaState}
use Rattle.replica.specs.SetFields.{fields_added}
use Rattle.replica.specs.Changing.{IsChangeOf, IsNewTo}
use Rattle.replica.specs.Keeping.{AreWrittenBy, HasOwnStamps, IsKept, IsWrittenBy}
use Rattle.replica.specs.Site.{SiteState, view_of}
use Rattle.replica.specs.SiteViews.{older_dots, own_time}
use Rattle.replica.proofs.Fullness.{contains_older, seen_older}
use Rattle.replica.proofs.KeptJoins.{condition_live}
use Rattle.replica.specs.Writing.{one_held}
use Rattle.replica.proofs.MadeChanges.{get_counted, same_key}
use Rattle.replica.proofs.NoNumbers.{own_counts, own_unknown}

-- ---- changes in which no dot is live

module _ (x : DeltaState) (none : (q : Dot) → map.get x.members.live q ≡ None) where
  no_holding : (q : Dot) (h : Holding) → map.get x.members.live q ≡ Some h → ⊥
  no_holding q h e = let n = none q in (cc)

  -- changes in which no dot is live are new to every delta
  pub none_new : (d : DeltaState) → IsNewTo d x
  none_new d = record { room = λ dot m f e. absurd (no_holding dot (m, f) (condition_live x dot m f e)) }

  -- changes in which no dot is live have no stamps
  pub none_stamped : (site time : ℕ) → HasOwnStamps site time x
  none_stamped site time dot h live = absurd (no_holding dot h live)

-- totals that are empty are of all queues
pub none_totalled : {X : Type 0} (x : DeltaState) → x.totals.entries ≡ map.empty → (key : Key) (totals : CallTotals) → map.get x.totals.entries key ≡ Some totals → X
none_totalled x empty key totals here = absurd (let no = sym (ap (λ e. map.get e key) empty ∙ map.get-empty _ key) ∙ here in cc)

-- a count is a change of its site
pub count_change : (s : SiteState) → IsKept s → (x : DeltaState) (queue : ℕ) (calls : Calls) (n : ℕ) → 1 ≤ n → queue < length s.names
    → x.members.known ≡ set.empty → ((q : Dot) → map.get x.members.live q ≡ None)
    → x.totals.entries ≡ join_of map.empty (single (record { site = s.site; queue = queue }) (alone calls n))
    → IsChangeOf s s.last_count s.last_time x
count_change s kept x queue calls n some within known none entries =
    record {
      is_new = none_new x none s.state;
      queues = record {
        members = λ dot h here. absurd (no_holding x none dot h here);
        totals = λ key totals here.
            by key totals (eq_by_cmp key_cmp key (record { site = s.site; queue = queue })) refl (sym (get_counted s.site queue calls n some key) ∙ ap (λ e. map.get e key) (sym entries) ∙ here);
      };
      stamps = none_stamped x none s.site s.last_time;
      later = omega arith;
      times = kept.times;
      counts = kept.counts;
      dots = inl (refl, record { counts = λ count first here. absurd (true≢false (sym here ∙ ap (λ k. set.contains k (record { site = s.site; count = count })) known ∙ set.contains-empty dot_cmp (record { site = s.site; count = count }))) });
    }
  where
    by : (key : Key) (totals : CallTotals) (b : Bool) → eq_by_cmp key_cmp key (record { site = s.site; queue = queue }) ≡ b → cond b (Some (alone calls n)) None ≡ Some totals → key.queue < length s.names
    by key totals true is e = let p = and_parts (nat_eq s.site key.site) (nat_eq queue key.queue) (sym (same_key key.site key.queue s.site queue) ∙ is) in let same = p.1 in grind (arith, nat_tests, same, within)
    by key totals false is e = absurd (cc)

-- a remove is one
pub remove_change : (s : SiteState) → IsKept s → (x : DeltaState) (dots : List Dot) → ((q : Dot) → Contains dots q → set.contains s.state.members.known q ≡ true)
    → x.members.known ≡ set.from_list dots → ((q : Dot) → map.get x.members.live q ≡ None) → x.totals.entries ≡ map.empty
    → IsChangeOf s s.last_count s.last_time x
remove_change s kept x dots seen known none entries =
    record {
      is_new = none_new x none s.state;
      queues = record {
        members = λ dot h here. absurd (no_holding x none dot h here);
        totals = λ key totals here. none_totalled x entries key totals here;
      };
      stamps = none_stamped x none s.site s.last_time;
      later = omega arith;
      times = kept.times;
      counts = kept.counts;
      dots = inl (refl, record { counts = λ count first here. own_counts s kept (record { site = s.site; count = count }) (known_here (record { site = s.site; count = count }) (sym (ap (λ k. set.contains k (record { site = s.site; count = count })) known) ∙ here)) refl });
    }
  where
    known_here : (q : Dot) → set.contains (set.from_list {R = dot_cmp} dots) q ≡ true → set.contains s.state.members.known q ≡ true
    known_here q h = let found = in_any (is_dot q) dots (sym (set.contains-from_list dots_total dots q) ∙ h) in ap (set.contains s.state.members.known) (one_dot q found.0 found.2) ∙ seen found.0 found.1

-- ---- an add

-- a site's own time of a stamp is no greater than the stamp's
own_time_least : (site : ℕ) (stamp : Stamp) → own_time site stamp ≤ stamp.time
own_time_least site stamp = by (nat_eq stamp.site site)
  where
    by : (b : Bool) → (if b then stamp.time else 0) ≤ stamp.time
    by true = omega arith
    by false = omega arith

-- what is written under one stamp is written up to its time
pub written_under : {T : Type 0} (site : ℕ) (stamp : Stamp) (value : Option T) → IsWrittenBy site stamp.time (entry_under stamp value)
written_under site stamp None entry e = absurd (cc)
written_under site stamp (Some value) entry e = let is : stamp ≡ entry.stamp = cc in subst (λ t. own_time site t ≤ stamp.time) is (own_time_least site stamp)

-- what is seen below given dots is given, or known
pub seen_known : (s : SiteState) (given : List Dot) (q : Dot) → set.contains (dots_seen_below s.state.members given) q ≡ true
    → (list_any (is_dot q) given ≡ true) ⊎ (set.contains s.state.members.known q ≡ true)
seen_known s given q h = by (list_any (is_dot q) given) refl
  where
    either : (a b : Bool) → (a || b) ≡ true → a ≡ false → b ≡ true
    either true b e f = absurd (true≢false f)
    either false b e f = e

    by : (b : Bool) → list_any (is_dot q) given ≡ b → (list_any (is_dot q) given ≡ true) ⊎ (set.contains s.state.members.known q ≡ true)
    by true e = inl e
    by false e = inr (and_parts (set.contains s.state.members.known q) _
        (sym (contains_older s s.state given q)
        ∙ either (set.contains (set.from_list given) q) (set.contains (older_dots (view_of s s.state) given) q)
        (sym (set.contains-union dots_total (set.from_list given) (older_dots (view_of s s.state) given) q) ∙ ap (λ k. set.contains k q) (sym (seen_older s s.state given)) ∙ h)
        (set.contains-from_list dots_total given q ∙ e))).0

-- a dot that isn't known has no condition
unknown_none : (d : DeltaState) → IsWithinLimits d.members → (q : Dot) → set.contains d.members.known q ≡ false → condition_of d.members q ≡ None
unknown_none d limits q unknown = by (map.get d.members.live q) refl
  where
    by : (held : Option Holding) → map.get d.members.live q ≡ held → condition_of d.members q ≡ None
    by None e = λ i. condition_at (e i) (unknown i)
    by (Some h) e = absurd (true≢false (sym (limits.held q h e).known ∙ unknown))

-- an add is a change of its site
pub add_change : (s : SiteState) → IsKept s → IsWithinLimits s.state.members → (x : DeltaState) (member : Member) (penalty : ℕ) (pause : PauseState) (label : Label)
    → let next : Dot = record { site = s.site; count = suc s.last_count } in let stamp : Stamp = record { time = suc s.last_time; site = s.site } in
    member.queue < length s.names → suc s.last_count ≤ MOST_COUNT → suc s.last_time ≤ MOST_COUNT
    → x.members.known ≡ dots_seen_below s.state.members (next ∷ []) → ((q : Dot) → map.get x.members.live q ≡ one_held next (member, fields_added stamp penalty pause label) q) → x.totals.entries ≡ map.empty
    → IsChangeOf s (suc s.last_count) (suc s.last_time) x
add_change s kept limits x member penalty pause label within count_within time_within known live entries = record {
  is_new = record { room = λ dot m f e. inl (ap (condition_of s.state.members) (holding_is dot (m, f) (condition_live x dot m f e)).0 ∙ unknown_none s.state limits next (own_unknown s kept)) };
  queues = record {
    members = λ dot h here. subst (λ (h : Holding). h.0.queue < length s.names) (holding_is dot h here).1 within;
    totals = λ key totals here. none_totalled x entries key totals here;
  };
  stamps = λ dot h here. subst (λ (h : Holding). AreWrittenBy s.site (suc s.last_time) h.1) (holding_is dot h here).1 written;
  later = omega arith;
  times = time_within;
  counts = count_within;
  dots = inr (refl, (ap (λ k. set.contains k next) known ∙ next_seen, record { counts = λ count first here. up_to count (sym (ap (λ k. set.contains k (record { site = s.site; count = count })) known) ∙ here) }));
}
  where
    next : Dot
    next = record { site = s.site; count = suc s.last_count }

    stamp : Stamp
    stamp = record { time = suc s.last_time; site = s.site }

    held : Holding
    held = (member, fields_added stamp penalty pause label)

    written : AreWrittenBy s.site (suc s.last_time) (fields_added stamp penalty pause label)
    written = record {
      penalty = written_under s.site stamp (Some penalty);
      pause = written_under s.site stamp (Some pause);
      label = written_under s.site stamp (Some label);
      ring = written_under s.site stamp None;
    }

    holding_is : (dot : Dot) (h : Holding) → map.get x.members.live dot ≡ Some h → (dot ≡ next) × (held ≡ h)
    holding_is dot h e = by (is_dot dot next) refl (sym (live dot ∙ map.get-insert dots_total map.empty next held dot ∙ ap (cond (is_dot dot next) (Some held)) (map.get-empty dot_cmp dot)) ∙ e)
      where
        by : (b : Bool) → is_dot dot next ≡ b → cond b (Some held) None ≡ Some h → (dot ≡ next) × (held ≡ h)
        by true is f = (one_dot dot next is, (cc))
        by false is f = absurd (cc)

    next_seen : set.contains (dots_seen_below s.state.members (next ∷ [])) next ≡ true
    next_seen =
        ap (λ k. set.contains k next) (seen_older s s.state (next ∷ []))
        ∙ set.contains-union dots_total (set.from_list (next ∷ [])) (older_dots (view_of s s.state) (next ∷ [])) next
        ∙ ap (λ b. b || set.contains (older_dots (view_of s s.state) (next ∷ [])) next) (set.contains-from_list dots_total (next ∷ []) next ∙ ap (λ b. b || false) (ap is_eq (tied_itself dots_total next)))

    up_to : (count : ℕ) → set.contains (dots_seen_below s.state.members (next ∷ [])) (record { site = s.site; count = count }) ≡ true → count ≤ suc s.last_count
    up_to count h = elim (seen_known s (next ∷ []) (record { site = s.site; count = count }) h) [
      | inl is ↦ let found = in_any (is_dot (record { site = s.site; count = count })) (next ∷ []) is in
          let same : record { site = s.site; count = count } ≡ next = one_dot (record { site = s.site; count = count }) found.0 found.2 ∙ sym (only_in next found.0 found.1) in
          let count_is : count ≡ suc s.last_count = ap (λ (d : Dot). d.count) same in omega (arith, count_is)
      | inr here ↦ let most = own_counts s kept (record { site = s.site; count = count }) here refl in omega arith
    ]
