-- A write of what a site sees is a change of its own: it is later than all that it replaces.
use Rattle.std.proofs.Common.{◌≡◌, ◌≤◌, ◌<◌, inl, inr, ℕ, suc, max, true, List, [], ◌∷◌, length, map as each, Contains, Option, Some, None, refl, sym, ap, subst, ◌∙◌, arith}
use Rattle.std.specs.Option.{option_map, option_map_or}
use Rattle.std.specs.List.{find}
use Rattle.std.specs.Ordering.{nat_cmp, ordering_then}
use Rattle.std.specs.declared.cmp.Ordering.{Ordering}
use Rattle.std.specs.declared.cmp.Ordering.TheVariants.{Less, Equal, Greater}
use Rattle.std.specs.Cmp.{nat_cmp_is}
use Rattle.std.specs.FinMap as map
use Rattle.std.specs.FinSet as set
use Rattle.dots.specs.declared.limits.TheConstants.{MOST_COUNT}
use Rattle.dots.specs.declared.member.Member.{Member}
use Rattle.dots.specs.Values.{Dot, Stamp}
use Rattle.dots.specs.Orders.{stamp_cmp}
use Rattle.operations.specs.Registers.{Entry}
use Rattle.operations.specs.Conditions.{DotFields, Live, no_fields}
use Rattle.operations.specs.Knowledge.{is_dot}
use Rattle.operations.specs.Operations.{Setting, SetPenalty, SetPause, SetLabel, SetRing, entry_under, set_penalty, set_pause, set_label, set_ring}
use Rattle.general_lemmas.proofs.Membership.{any_map, cases_in, first_in, in_any, in_find, later_in, nothing_in}
use Rattle.member_orset.specs.Members.{Holding, IsWithinLimits, condition_of}
use Rattle.member_orset.specs.Reads.{dots_seen_below}
use Rattle.live_cells.proofs.DotTests.{one_dot}
use Rattle.delta.specs.DeltaStates.{DeltaState}
use Rattle.replica.specs.SetFields.{fields_written}
use Rattle.replica.specs.Changes.{time_in, time_of, time_replaced}
use Rattle.replica.specs.Changing.{FieldsNewer, IsChangeOf, IsNewer, IsOlder}
use Rattle.replica.specs.Keeping.{AreWrittenBy, IsKept}
use Rattle.replica.specs.Site.{SiteState, view_of}
use Rattle.replica.specs.SiteViews.{dots_seen, greatest}
use Rattle.replica.proofs.KeptJoins.{condition_live, live_condition}
use Rattle.replica.proofs.MadeChanges.{held_by}
use Rattle.replica.proofs.NoNumbers.{own_counts}
use Rattle.replica.proofs.SeenLists.{seen_member}
use Rattle.replica.proofs.SiteChanges.{none_totalled, seen_known, written_under}

-- ---- stamps

-- a stamp of a lesser time is less
pub earlier_less : (a b : Stamp) → a.time < b.time → stamp_cmp a b ≡ Less
earlier_less a b less = by (nat_cmp a.time b.time) (nat_cmp_is a.time b.time Less less)
  where
    by : (o : Ordering) → Less ≡ o → ordering_then o (nat_cmp a.site b.site) ≡ Less
    by Less e = refl
    by Equal e = absurd (cc)
    by Greater e = absurd (cc)

-- each number of a list is at most its greatest
pub one_of_greatest : {X : Type 0} (f : X → ℕ) (xs : List X) (x : X) → Contains xs x → f x ≤ greatest f xs
one_of_greatest f [] x h = absurd (nothing_in x h)
one_of_greatest f (y ∷ ys) x h = elim (cases_in y ys x h) [
  | inl e ↦ let same : f y ≡ f x = ap f e in omega arith
  | inr r ↦ omega (arith, one_of_greatest f ys x r)
]

-- what is written under a later stamp is newer
newer_under : {T : Type 0} (field : Option (Entry T)) (stamp : Stamp) (value : Option T) → time_of field < stamp.time → IsNewer field (entry_under stamp value)
newer_under field stamp None later = record { less = λ a b e f. absurd (cc) }
newer_under field stamp (Some value) later = record {
  less = λ a b e f.
      let time : time_of field ≡ a.stamp.time = ap time_of e in
      let is : stamp ≡ b.stamp = cc in
      earlier_less a.stamp b.stamp (let same : stamp.time ≡ b.stamp.time = ap (λ s. s.time) is in omega (arith, time, same, later));
}

-- what is written of a field that is not set is newer than all
newer_unset : {T : Type 0} (field : Option (Entry T)) (stamp : Stamp) → IsNewer field (entry_under stamp None)
newer_unset field stamp = record { less = λ a b e f. absurd (cc) }

-- ---- the dots that are seen

-- a pair of a list that has one member throughout
pub in_pairs : (member : Member) (dots : List Dot) (p : Dot × Member) → Contains (each (λ dot. let d : Dot × Member = (dot, member) in d) dots) p → Contains dots p.0 × (p.1 ≡ member)
in_pairs member [] p h = absurd (nothing_in p h)
in_pairs member (x ∷ xs) p h = elim (cases_in (x, member) (each (λ dot. let d : Dot × Member = (dot, member) in d) xs) p h) [
  | inl e ↦ (subst (λ (q : Dot × Member). Contains (x ∷ xs) q.0) e (first_in x xs), ap (λ (q : Dot × Member). q.1) (sym e))
  | inr r ↦ let more = in_pairs member xs p r in (later_in x xs p.0 more.0, more.1)
]

-- ---- the write

-- a dot that is seen at a site is live there with its member
pub seen_holding : (s : SiteState) (queue : Option ℕ) (interface : List ℕ) (p : Dot × Member) → Contains (dots_seen (view_of s s.state).dots queue interface) p
    → (g : DotFields) × (map.get s.state.members.live p.0 ≡ Some (p.1, g))
seen_holding s queue interface p h = by (map.get s.state.members.live p.0) refl (seen_member (view_of s s.state).dots queue interface p h)
  where
    by : (o : Option Holding) → map.get s.state.members.live p.0 ≡ o → option_map (λ (h : Holding). h.0) o ≡ Some p.1 → (g : DotFields) × (map.get s.state.members.live p.0 ≡ Some (p.1, g))
    by None is e = absurd (cc)
    by (Some held) is e = (held.1, is ∙ ap (λ m. let k : Holding = (m, held.1) in Some k) (one held.0 e))
      where
        one : (m : Member) → Some m ≡ Some p.1 → m ≡ p.1
        one m e = cc

-- fields that are written under a later stamp than that of what the setting replaces are newer
fields_newer : (g : DotFields) (setting : Setting) (stamp : Stamp) → time_in setting g < stamp.time → FieldsNewer g (fields_written stamp setting)
fields_newer g (SetPenalty n) stamp later = record {
  penalty = newer_under g.penalty stamp (Some n) later;
  pause = newer_unset g.pause stamp;
  label = newer_unset g.label stamp;
  ring = newer_unset g.ring stamp;
}
fields_newer g (SetPause p) stamp later = record {
  penalty = newer_unset g.penalty stamp;
  pause = newer_under g.pause stamp (Some p) later;
  label = newer_unset g.label stamp;
  ring = newer_unset g.ring stamp;
}
fields_newer g (SetLabel l) stamp later = record {
  penalty = newer_unset g.penalty stamp;
  pause = newer_unset g.pause stamp;
  label = newer_under g.label stamp (Some l) later;
  ring = newer_unset g.ring stamp;
}
fields_newer g (SetRing r) stamp later = record {
  penalty = newer_unset g.penalty stamp;
  pause = newer_unset g.pause stamp;
  label = newer_unset g.label stamp;
  ring = newer_under g.ring stamp (Some r) later;
}

-- what a setting replaces on a live dot is what it replaces in the dot's fields
replaced_in : (s : SiteState) (setting : Setting) (dot : Dot) (h : Holding) → map.get s.state.members.live dot ≡ Some h → time_replaced (view_of s s.state).dots setting dot ≡ time_in setting h.1
replaced_in s setting dot h live = ap (λ o. time_in setting (option_map_or (λ (h : Holding). h.1) o no_fields)) live

-- a write is a change of its site
pub write_change : (s : SiteState) → IsKept s → IsWithinLimits s.state.members → (x : DeltaState) (queue : Option ℕ) (interface : List ℕ) (setting : Setting)
    → let seen = dots_seen (view_of s s.state).dots queue interface in
    let time = suc (max s.last_time (greatest (λ d. time_replaced (view_of s s.state).dots setting d.0) seen)) in
    let stamp : Stamp = record { time = time; site = s.site } in
    time ≤ MOST_COUNT → x.members.known ≡ dots_seen_below s.state.members (each (λ p. p.0) seen)
    → ((q : Dot) → map.get x.members.live q ≡ held_by seen (fields_written stamp setting) q) → x.totals.entries ≡ map.empty
    → IsChangeOf s s.last_count time x
write_change s kept limits x queue interface setting within known live entries = record {
  is_new = record { room = λ dot m f e. inr (older dot m f (condition_live x dot m f e)) };
  queues = record {
    members = λ dot h here. let w = held dot h here in let g = seen_holding s queue interface w.0 w.1 in
        subst (λ (h : Holding). h.0.queue < length s.names) w.2.1 (kept.state_queues.members w.0.0 (w.0.1, g.0) g.1);
    totals = λ key totals here. none_totalled x entries key totals here;
  };
  stamps = λ dot h here. subst (λ (h : Holding). AreWrittenBy s.site time h.1) (held dot h here).2.1 written;
  later = omega arith;
  times = within;
  counts = kept.counts;
  dots = inl (refl, record { counts = λ count first here. up_to (record { site = s.site; count = count }) (sym (ap (λ k. set.contains k (record { site = s.site; count = count })) known) ∙ here) refl });
}
  where
    seen : List (Dot × Member)
    seen = dots_seen (view_of s s.state).dots queue interface

    replaced : Dot × Member → ℕ
    replaced d = time_replaced (view_of s s.state).dots setting d.0

    time : ℕ
    time = suc (max s.last_time (greatest replaced seen))

    stamp : Stamp
    stamp = record { time = time; site = s.site }

    fields : DotFields
    fields = fields_written stamp setting

    written : AreWrittenBy s.site time fields
    written = record {
      penalty = written_under s.site stamp (set_penalty setting);
      pause = written_under s.site stamp (set_pause setting);
      label = written_under s.site stamp (set_label setting);
      ring = written_under s.site stamp (set_ring setting);
    }

    -- what is held of a dot is a pair's that is seen
    held : (dot : Dot) (h : Holding) → map.get x.members.live dot ≡ Some h → (p : Dot × Member) × Contains seen p × ((p.0 ≡ dot) × ((p.1, fields) ≡ h))
    held dot h e = by (find (λ p. is_dot dot p.0) seen) refl (sym (live dot) ∙ e)
      where
        by : (o : Option (Dot × Member)) → find (λ p. is_dot dot p.0) seen ≡ o → option_map (λ (p : Dot × Member). let k : Holding = (p.1, fields) in k) o ≡ Some h
            → (p : Dot × Member) × Contains seen p × ((p.0 ≡ dot) × ((p.1, fields) ≡ h))
        by None is f = absurd (cc)
        by (Some p) is f = let found = in_find (λ p. is_dot dot p.0) seen p is in (p, found.0, (sym (one_dot dot p.0 found.1), one (p.1, fields) f))
          where
            one : (k : Holding) → Some k ≡ Some h → k ≡ h
            one k e = cc

    older : (dot : Dot) (m : Member) (f : DotFields) → map.get x.members.live dot ≡ Some (m, f) → IsOlder (condition_of s.state.members dot) m f
    older dot m f e =
        let w = held dot (m, f) e in let g = seen_holding s queue interface w.0 w.1 in
        record {
          fields = g.0;
          is = ap (condition_of s.state.members) (sym w.2.0) ∙ live_condition s.state w.0.0 (w.0.1, g.0) g.1 ∙ ap (λ (h : Holding). Some (Live h.0 g.0)) w.2.1;
          newer = subst (λ (h : Holding). FieldsNewer g.0 h.1) w.2.1
              (fields_newer g.0 setting stamp (let most = one_of_greatest replaced seen w.0 w.1 in let is = replaced_in s setting w.0.0 (w.0.1, g.0) g.1 in omega (arith, most, is)));
        }

    up_to : (q : Dot) → set.contains (dots_seen_below s.state.members (each (λ p. p.0) seen)) q ≡ true → q.site ≡ s.site → q.count ≤ s.last_count
    up_to q h own = elim (seen_known s (each (λ p. p.0) seen) q h) [
      | inl is ↦ let found = in_any (λ (p : Dot × Member). is_dot q p.0) seen (sym (any_map (is_dot q) (λ (p : Dot × Member). p.0) seen) ∙ is) in let g = seen_holding s queue interface found.0 found.1 in
          own_counts s kept q (ap (set.contains s.state.members.known) (one_dot q found.0.0 found.2) ∙ (limits.held found.0.0 (found.0.1, g.0) g.1).known) own
      | inr here ↦ own_counts s kept q here own
    ]
