-- A site of a world may take each frame of it.
use Rattle.std.proofs.Common.{◌≡◌, ◌<◌, ◌≤◌, ◌⊎◌, inl, inr, ℕ, Bool, true, false, List, [], ◌∷◌, ◌++◌, ◌&&◌, Contains, length, Option, Some, None, refl, sym, ap, subst, ◌∙◌, if◌then◌else◌, nat_eq, arith}
use Rattle.std.specs.FinMap as map
use Rattle.std.specs.FinSet as set
use Rattle.std.specs.Option.{option_map, unwrap_or}
use Rattle.std.proofs.lemmas.Bool.Decides.{nat_tests}
use Rattle.dots.specs.declared.call_totals.CallTotals.{CallTotals}
use Rattle.dots.specs.declared.calls.Calls.{Calls}
use Rattle.dots.specs.declared.calls.Calls.TheVariants.{Completed, Abandoned}
use Rattle.dots.specs.declared.member.Member.{Member}
use Rattle.dots.specs.Values.{Dot, Stamp}
use Rattle.operations.specs.Conditions.{Dead, DotFields, Live, condition_in, fields_in}
use Rattle.dots.specs.CountedCalls.{same_calls}
use Rattle.operations.specs.Counts.{count_in, site_total}
use Rattle.operations.specs.Operations.{Operation, Field, Add, Write, Remove, Count, asserted_by, label_field, pause_field, penalty_field, ring_field}
use Rattle.operations.specs.Registers.{Entry}
use Rattle.operations.specs.Knowledge.{Knowledge, field_of, is_named, known_dots, member_of}
use Rattle.dots.specs.CountedCalls.{is_zero, no_calls}
use Rattle.operations.specs.Totals.{totals_of}
use Rattle.operations.proofs.FieldLaws.{field_is}
use Rattle.general_lemmas.proofs.Membership.{first_in, later_in, part_in}
use Rattle.operations.proofs.JoinedKnowledge.{member_in}
use Rattle.operations.proofs.ShownLaws.{is_greatest}
use Rattle.site_totals.specs.Raising.{number_of}
use Rattle.member_orset.specs.Members.{Holding, condition_at}
use Rattle.member_orset.proofs.Agreeing.{sets_apart}
use Rattle.delta.specs.DeltaStates.{DeltaState}
use Rattle.delta.specs.Standing.{IsDeltaOf}
use Rattle.delta.proofs.StandingDeltas.{consistent_agree}
use Rattle.replica.specs.Site.{SiteState}
use Rattle.replica.specs.Shows.{KnowsNonePast}
use Rattle.replica.specs.SiteViews.{count_used, greatest, time_used}
use Rattle.replica.specs.Steps.{SiteKnowledge}
use Rattle.replica.specs.Taking.{HasDotPast, HasFieldPast, HasStampPast, HasStrangeMember, HasStrangeTotal, HasTotalPast, IsNotMine, IsWrittenPast, SpeaksOfStrangeQueue}
use Rattle.replica.proofs.WrittenChanges.{one_of_greatest}
use Rattle.sites_world.specs.Histories.{IsHistory, IsOf, IsPartOf, IsSiteIn, stamp_of}
use Rattle.sites_world.specs.SiteOutcomes.{MayBeTaken}
use Rattle.sites_world.specs.WorldStates.{IsSiteOf}
use Rattle.sites_world.proofs.Lists.{none_some}
use Rattle.sites_world.proofs.Dots.{is-asserted}
use Rattle.sites_world.proofs.MadeHistories.{count-used, stamped_of, stamped_time}
use Rattle.sites_world.proofs.Parts.{IsStamped, asserted_part, both_part, consistent_part, known_asserted, known_part, label_stamped, pause_stamped, penalty_stamped, ring_stamped, set_by}

-- ---- what a delta says, its knowledge says

-- a live condition of a knowledge has its member and its fields
live_condition : (k : Knowledge) (dot : Dot) (m : Member) (f : DotFields) → condition_in k dot ≡ Some (Live m f) → (member_of k dot ≡ Some m) × (f ≡ fields_in k dot)
live_condition k dot m f is = by (is_named k dot) (member_of k dot) refl is
  where
    dead : Some Dead ≡ Some (Live m f) → ⊥
    dead e = (cc)

    the_member : (n : Member) → Some (Live n (fields_in k dot)) ≡ Some (Live m f) → n ≡ m
    the_member n e = cc

    the_fields : (n : Member) → Some (Live n (fields_in k dot)) ≡ Some (Live m f) → f ≡ fields_in k dot
    the_fields n e = cc

    by : (b : Bool) (o : Option Member) → member_of k dot ≡ o → (if b then Some Dead else option_map (λ member. Live member (fields_in k dot)) o) ≡ Some (Live m f)
        → (member_of k dot ≡ Some m) × (f ≡ fields_in k dot)
    by true o e h = absurd (dead h)
    by false None e h = absurd (none_some (Live m f) h)
    by false (Some n) e h = (e ∙ ap Some (the_member n h), the_fields n h)

-- of a live dot too
live_dot : (d : DeltaState) (k : Knowledge) (dot : Dot) (held : Holding) → IsDeltaOf d k → map.get d.members.live dot ≡ Some held → (member_of k dot ≡ Some held.0) × (held.1 ≡ fields_in k dot)
live_dot d k dot held is live =
    live_condition k dot held.0 held.1 (sym (is.conditions dot) ∙ ap (λ o. condition_at o (set.contains d.members.known dot)) live)

-- a total that isn't 0 was counted
counted_by : (k : Knowledge) (site queue : ℕ) (calls : Calls) → 0 < site_total k site queue calls → (o : Operation) × Contains k o × (count_in site queue calls o ≡ site_total k site queue calls)
counted_by k site queue calls some = elim (is_greatest k site queue calls).is_one [
  | inl zero_is ↦ absurd (omega (arith, some, zero_is))
  | inr one ↦ one
]

-- what counts calls of a site and a queue is a count of these
count_of : (site queue : ℕ) (calls : Calls) (o : Operation) → 0 < count_in site queue calls o → (total : ℕ) × ((c : Calls) × (o ≡ Count site queue c total))
count_of site queue calls (Add dot member stamp penalty pause label older) some = absurd (omega (arith, some))
count_of site queue calls (Write dots setting stamp older) some = absurd (omega (arith, some))
count_of site queue calls (Remove dots) some = absurd (omega (arith, some))
count_of site queue calls (Count s q c total) some = by (nat_eq s site) (nat_eq q queue) refl refl some
  where
    same : (a b : ℕ) → nat_eq a b ≡ true → a ≡ b
    same a b e = grind (arith, nat_tests, e)

    by : (x y : Bool) → nat_eq s site ≡ x → nat_eq q queue ≡ y → 0 < (if x && (y && same_calls c calls) then total else 0) → (t : ℕ) × ((d : Calls) × (Count s q c total ≡ Count site queue d t))
    by true true e f h = (total, (c, λ i. Count (same s site e i) (same q queue f i) c total))
    by true false e f h = absurd (omega (arith, h))
    by false y e f h = absurd (omega (arith, h))

-- the numbers of totals
number_is : (calls : Calls) (t : CallTotals) (k : Knowledge) (site queue : ℕ) → t ≡ record { completed = site_total k site queue Completed; abandoned = site_total k site queue Abandoned }
    → number_of calls t ≡ site_total k site queue calls
number_is Completed t k site queue e = ap (λ x. x.completed) e
number_is Abandoned t k site queue e = ap (λ x. x.abandoned) e

-- totals that aren't both 0 have one that isn't
not_zero : (t : CallTotals) → is_zero t ≡ false → (0 < t.completed) ⊎ (0 < t.abandoned)
not_zero t h = grind (arith, nat_tests, h)

-- ---- a part of a history at one of its sites

module _ (names_of_queues : List (List ℕ)) (sites site : ℕ) (h : Knowledge) (s : SiteKnowledge) (made : IsHistory names_of_queues sites h) (own : IsSiteIn h site s) (there : site < sites)
    (k : Knowledge) (part : IsPartOf k h) where
  -- an operation of the part with a stamp of the site is of no later time
  time_below : (o : Operation) (stamp : Stamp) → Contains k o → stamp_of o ≡ Some stamp → stamp.site ≡ site → stamp.time ≤ greatest (time_used site) s.known
  time_below o stamp here e is =
      let known = own.own o (part o here) (stamped_of site o stamp e is) in
      let used = one_of_greatest (time_used site) s.known o known in
      let time = stamped_time site o stamp e is in
      omega (arith, used, time)

  -- the part says nothing of members in other queues
  no_strange_member : (d : DeltaState) → IsDeltaOf d k → HasStrangeMember (length names_of_queues) d.members → ⊥
  no_strange_member d is strange =
      let member = (live_dot d k strange.dot strange.held is strange.live).0 in
      let in_list = made.queues strange.dot strange.held.0 (asserted_part k h part (strange.dot, strange.held.0) (member_in k strange.dot strange.held.0 member)) in
      let past = strange.strange in
      omega (arith, in_list, past)

  -- what it counts is of a queue in the list
  counted_in_list : (at queue : ℕ) (calls : Calls) → 0 < site_total k at queue calls → queue < length names_of_queues
  counted_in_list at queue calls some =
      let o = counted_by k at queue calls some in
      let c = count_of at queue calls o.0 (let same = o.2 in omega (arith, some, same)) in
      made.counts at queue c.1.0 c.0 (subst (Contains h) c.1.1 (part o.0 o.1))

  -- the totals of a delta of the history are of queues in the list
  no_strange_total : (d : DeltaState) → IsDeltaOf d k → HasStrangeTotal (length names_of_queues) d.totals.entries → ⊥
  no_strange_total d is strange =
      let past = strange.strange in
      elim (not_zero strange.totals (is.no_zeros strange.key strange.totals strange.counted)) [
        | inl some ↦ let lt = counted_in_list strange.key.site strange.key.queue Completed (let same = ap (λ t. t.completed) same_totals in omega (arith, some, same)) in omega (arith, lt, past)
        | inr some ↦ let lt = counted_in_list strange.key.site strange.key.queue Abandoned (let same = ap (λ t. t.abandoned) same_totals in omega (arith, some, same)) in omega (arith, lt, past)
      ]
    where
      same_totals : strange.totals ≡ record { completed = site_total k strange.key.site strange.key.queue Completed; abandoned = site_total k strange.key.site strange.key.queue Abandoned }
      same_totals = ap (λ o. unwrap_or o no_calls) (sym strange.counted) ∙ is.totals strange.key.site strange.key.queue

  -- dots of the site in such a delta are of counts that the site has used
  no_dot_past : (d : DeltaState) → IsDeltaOf d k → HasDotPast site (greatest (count_used site) s.known) d.members.known → ⊥
  no_dot_past d is past =
      let dot : Dot = record { site = site; count = past.count } in
      let known = known_part k h dot part (ap (λ dots. set.contains dots dot) (sym is.dots) ∙ past.known_dot) in
      let used = count-used names_of_queues sites site h s made own there dot known refl in
      let later = past.past in
      omega (arith, used, later)

  -- no field that is set there by the site is of a later time
  no_field_past : {T : Type 0} (field : Field T) → IsStamped field → (dot : Dot) (held : Option (Entry T)) → held ≡ field_of field k dot → IsWrittenPast site (greatest (time_used site) s.known) held → ⊥
  no_field_past field stamped dot held same past =
      let given = (field_is field k dot past.entry (sym same ∙ past.set)).given in
      let o = set_by field k dot past.entry given in
      let below = time_below o.0 past.entry.stamp o.1 (stamped o.0 past.entry o.2) past.own in
      let later = past.past in
      omega (arith, below, later)

  no_stamp_past : (d : DeltaState) → IsDeltaOf d k → HasStampPast site (greatest (time_used site) s.known) d.members → ⊥
  no_stamp_past d is past = by past.past
    where
      fields : past.held.1 ≡ fields_in k past.dot
      fields = (live_dot d k past.dot past.held is past.live).1

      by : HasFieldPast site (greatest (time_used site) s.known) past.held.1 → ⊥
      by (inl p) = no_field_past penalty_field penalty_stamped past.dot past.held.1.penalty (ap (λ f. f.penalty) fields) p
      by (inr (inl p)) = no_field_past pause_field pause_stamped past.dot past.held.1.pause (ap (λ f. f.pause) fields) p
      by (inr (inr (inl p))) = no_field_past label_field label_stamped past.dot past.held.1.label (ap (λ f. f.label) fields) p
      by (inr (inr (inr p))) = no_field_past ring_field ring_stamped past.dot past.held.1.ring (ap (λ f. f.ring) fields) p

  -- no total of the site is greater than its own
  total_below : (queue : ℕ) (calls : Calls) → site_total k site queue calls ≤ site_total s.known site queue calls
  total_below queue calls = by (nat_eq (site_total k site queue calls) 0) refl
    where
      by : (b : Bool) → nat_eq (site_total k site queue calls) 0 ≡ b → site_total k site queue calls ≤ site_total s.known site queue calls
      by true e = grind (arith, nat_tests, e)
      by false e =
          let some : 0 < site_total k site queue calls = grind (arith, nat_tests, e) in
          let o = counted_by k site queue calls some in
          let same = o.2 in
          let c = count_of site queue calls o.0 (omega (arith, some, same)) in
          let known = own.own o.0 (part o.0 o.1) (subst (IsOf site) (sym c.1.1) refl) in
          let least = (is_greatest s.known site queue calls).at_least o.0 known in
          omega (arith, least, same)

  -- none of its counts and times of the site is later
  none-later : (o : Operation) → Contains k o → (count_used site o ≤ greatest (count_used site) s.known) × (time_used site o ≤ greatest (time_used site) s.known)
  none-later (Add dot member stamp penalty pause label older) here = (count (nat_eq dot.site site) refl, time (nat_eq stamp.site site) refl)
    where
      same : (a b : ℕ) → nat_eq a b ≡ true → a ≡ b
      same a b e = grind (arith, nat_tests, e)

      asserted : set.contains (known_dots h) dot ≡ true
      asserted = known_asserted h dot (is-asserted h dot member (part_in asserted_by h (Add dot member stamp penalty pause label older) (dot, member) (part _ here) (first_in (dot, member) [])))

      count : (b : Bool) → nat_eq dot.site site ≡ b → (if b then dot.count else 0) ≤ greatest (count_used site) s.known
      count true e = count-used names_of_queues sites site h s made own there dot asserted (same dot.site site e)
      count false e = omega arith

      time : (b : Bool) → nat_eq stamp.site site ≡ b → (if b then stamp.time else 0) ≤ greatest (time_used site) s.known
      time true e = time_below (Add dot member stamp penalty pause label older) stamp here refl (same stamp.site site e)
      time false e = omega arith
  none-later (Write dots setting stamp older) here = (omega arith, time (nat_eq stamp.site site) refl)
    where
      same : (a b : ℕ) → nat_eq a b ≡ true → a ≡ b
      same a b e = grind (arith, nat_tests, e)

      time : (b : Bool) → nat_eq stamp.site site ≡ b → (if b then stamp.time else 0) ≤ greatest (time_used site) s.known
      time true e = time_below (Write dots setting stamp older) stamp here refl (same stamp.site site e)
      time false e = omega arith
  none-later (Remove dots) here = (omega arith, omega arith)
  none-later (Count at queue calls total) here = (omega arith, omega arith)

-- the greatest of a list is no more than what none is above
greatest_below : {X : Type 0} (f : X → ℕ) (xs : List X) (most : ℕ) → ((x : X) → Contains xs x → f x ≤ most) → greatest f xs ≤ most
greatest_below f [] most all = omega arith
greatest_below f (x ∷ xs) most all =
    let first = all x (first_in x xs) in
    let rest = greatest_below f xs most (λ y here. all y (later_in x xs y here)) in
    omega (arith, first, rest)

-- a site may take each part of the history
pub may_take : (names_of_queues : List (List ℕ)) (sites site : ℕ) (h : Knowledge) (s : SiteKnowledge) (state : SiteState) (k : Knowledge) → IsHistory names_of_queues sites h → IsSiteIn h site s → site < sites
    → IsSiteOf names_of_queues site state s → IsPartOf k h → MayBeTaken state k
may_take names_of_queues sites site h s state k made own there is part = record {
  queues = λ d of strange. strange_queue d of (subst (λ n. SpeaksOfStrangeQueue (length n) d) is.names_are strange);
  own = λ d of not_mine. mine d of not_mine;
  agrees = λ d of conflict. sets_apart state.state.members d.members
      (consistent_agree state.state d s.known k (consistent_part names_of_queues sites h (s.known ++ k) made (both_part s.known k h own.known part)) is.stands.known of) conflict;
  none_later = record {
    counts = subst (λ n. greatest (count_used n) k ≤ state.last_count) (sym is.site) (subst (λ n. greatest (count_used site) k ≤ n) last_count (greatest_below (count_used site) k _ (λ o here. (later o here).0)));
    times = subst (λ n. greatest (time_used n) k ≤ state.last_time) (sym is.site) (subst (λ n. greatest (time_used site) k ≤ n) last_time (greatest_below (time_used site) k _ (λ o here. (later o here).1)));
  };
}
  where
    later : (o : Operation) → Contains k o → (count_used site o ≤ greatest (count_used site) s.known) × (time_used site o ≤ greatest (time_used site) s.known)
    later = none-later names_of_queues sites site h s made own there k part

    last_count : greatest (count_used site) s.known ≡ state.last_count
    last_count = ap (λ n. greatest (count_used n) s.known) (sym is.site) ∙ is.stands.last_count

    last_time : greatest (time_used site) s.known ≡ state.last_time
    last_time = ap (λ n. greatest (time_used n) s.known) (sym is.site) ∙ is.stands.last_time

    strange_queue : (d : DeltaState) → IsDeltaOf d k → SpeaksOfStrangeQueue (length names_of_queues) d → ⊥
    strange_queue d of (inl p) = no_strange_member names_of_queues sites site h s made own there k part d of p
    strange_queue d of (inr p) = no_strange_total names_of_queues sites site h s made own there k part d of p

    dot_past : (d : DeltaState) → HasDotPast state.site state.last_count d.members.known → HasDotPast site (greatest (count_used site) s.known) d.members.known
    dot_past d p = subst (λ n. HasDotPast n (greatest (count_used site) s.known) d.members.known) is.site (subst (λ n. HasDotPast state.site n d.members.known) (sym last_count) p)

    stamp_past : (d : DeltaState) → HasStampPast state.site state.last_time d.members → HasStampPast site (greatest (time_used site) s.known) d.members
    stamp_past d p = subst (λ n. HasStampPast n (greatest (time_used site) s.known) d.members) is.site (subst (λ n. HasStampPast state.site n d.members) (sym last_time) p)

    no_total_past : (d : DeltaState) → IsDeltaOf d k → HasTotalPast state.site state.state.totals.entries d.totals.entries → ⊥
    no_total_past d of p =
        let below = total_below names_of_queues sites site h s made own there k part p.queue p.calls in
        let ours = number_is p.calls _ s.known site p.queue (ap (λ n. totals_of state.state.totals.entries n p.queue) is.site ∙ is.stands.known.totals site p.queue) in
        let theirs = number_is p.calls _ k site p.queue (ap (λ n. totals_of d.totals.entries n p.queue) is.site ∙ of.totals site p.queue) in
        let past = p.past in
        omega (arith, below, ours, theirs, past)

    mine : (d : DeltaState) → IsDeltaOf d k → IsNotMine state d → ⊥
    mine d of (inl (inl p)) = no_dot_past names_of_queues sites site h s made own there k part d of (dot_past d p)
    mine d of (inl (inr p)) = no_stamp_past names_of_queues sites site h s made own there k part d of (stamp_past d p)
    mine d of (inr p) = no_total_past d of p

-- a site knows no dot of its own past the last that it made
pub knows_none_past : (names_of_queues : List (List ℕ)) (sites site : ℕ) (h : Knowledge) (s : SiteKnowledge) → IsHistory names_of_queues sites h → IsSiteIn h site s → site < sites → KnowsNonePast site s.known
knows_none_past names_of_queues sites site h s made own there past =
    let dot : Dot = record { site = site; count = past.count } in
    let known = known_part s.known h dot own.known past.known_dot in
    let used = count-used names_of_queues sites site h s made own there dot known refl in
    let later = past.past in
    omega (arith, used, later)
