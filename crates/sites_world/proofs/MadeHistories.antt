-- What a site makes of what it knows may be the next operation of the history.
use Rattle.std.proofs.Common.{◌≡◌, ◌<◌, ◌≤◌, inl, inr, ℕ, suc, Bool, true, false, List, [], ◌∷◌, Contains, Some, refl, sym, ap, subst, ◌∙◌, true≢false, map as each, if◌then◌else◌, nat_eq, arith}
use Rattle.std.specs.FinSet as set
use Rattle.std.proofs.lemmas.Bool.{and_from, and_parts}
use Rattle.std.proofs.lemmas.Bool.Decides.{nat_tests}
use Rattle.dots.specs.declared.label.Label.{Label}
use Rattle.dots.specs.declared.member.Member.{Member}
use Rattle.dots.specs.Values.{Dot, Stamp, PauseState}
use Rattle.dots.specs.Orders.{dot_cmp}
use Rattle.dots.specs.DotSets.{is_older}
use Rattle.operations.specs.Operations.{Operation, Setting, Add, Write, Remove, Count, asserted_by}
use Rattle.operations.specs.Knowledge.{Knowledge, all_asserted, is_named, known_dots, member_of, names}
use Rattle.general_lemmas.proofs.Membership.{any_in, first_in, in_part, nothing_in, only_in, part_in}
use Rattle.operations.proofs.JoinedKnowledge.{member_in}
use Rattle.operations.proofs.VisibleLaws.{visible_from, visible_parts}
use Rattle.replica.specs.SiteViews.{count_used, greatest, time_used}
use Rattle.replica.specs.Steps.{SiteKnowledge}
use Rattle.replica.specs.MadeOperations.{IsAddAt, IsMadeAt, IsWriteAt}
use Rattle.sites_world.specs.Histories.{IsHistory, IsOf, IsSiteIn, Makes, stamp_of}
use Rattle.replica.proofs.MadeLimits.{map_in}
use Rattle.replica.proofs.WrittenChanges.{one_of_greatest}
use Rattle.sites_world.proofs.Lists.{none_some, one_some}
use Rattle.sites_world.proofs.Dots.{is-asserted, member_is, older_than}
use Rattle.sites_world.proofs.Parts.{asserted_part, known_asserted, known_named, known_part, named_part}
use Rattle.sites_world.proofs.GrownHistories.{IsNewDot, IsNext, makes_pair}

-- ---- numbers that a site has used

-- an operation with a stamp of a site is of that site
pub stamped_of : (site : ℕ) (o : Operation) (stamp : Stamp) → stamp_of o ≡ Some stamp → stamp.site ≡ site → IsOf site o
stamped_of site (Add dot member s penalty pause label older) stamp e is = ap (λ x. x.site) (one_some s stamp e) ∙ is
stamped_of site (Write dots setting s older) stamp e is = ap (λ x. x.site) (one_some s stamp e) ∙ is
stamped_of site (Remove dots) stamp e is = absurd (none_some stamp e)
stamped_of site (Count s queue calls total) stamp e is = absurd (none_some stamp e)

-- an own time, where the stamp is of the site
own_time : (site : ℕ) (s stamp : Stamp) → Some s ≡ Some stamp → stamp.site ≡ site → (if nat_eq s.site site then s.time else 0) ≡ stamp.time
own_time site s stamp e is =
    let same = ap (λ x. x.site) (one_some s stamp e) in
    let time = ap (λ x. x.time) (one_some s stamp e) in
    grind (arith, nat_tests, same, time, is)

-- the time of an operation's own stamp is used
pub stamped_time : (site : ℕ) (o : Operation) (stamp : Stamp) → stamp_of o ≡ Some stamp → stamp.site ≡ site → time_used site o ≡ stamp.time
stamped_time site (Add dot member s penalty pause label older) stamp e is = own_time site s stamp e is
stamped_time site (Write dots setting s older) stamp e is = own_time site s stamp e is
stamped_time site (Remove dots) stamp e is = absurd (none_some stamp e)
stamped_time site (Count s queue calls total) stamp e is = absurd (none_some stamp e)

-- the count of a dot of a site is used by the add of it
pub makes_count : (site : ℕ) (o : Operation) (dot : Dot) → Makes dot o → dot.site ≡ site → count_used site o ≡ dot.count
makes_count site (Add made member stamp penalty pause label older) dot p is =
    let same = ap (λ d. d.site) p in
    let count = ap (λ d. d.count) p in
    grind (arith, nat_tests, same, count, is)
makes_count site (Write dots setting stamp older) dot p is = absurd p
makes_count site (Remove dots) dot p is = absurd p
makes_count site (Count s queue calls total) dot p is = absurd p

-- what two tests pass, each passes
module _ (names_of_queues : List (List ℕ)) (sites site : ℕ) (h : Knowledge) (s : SiteKnowledge) (made : IsHistory names_of_queues sites h) (own : IsSiteIn h site s) (there : site < sites) where
  -- a stamp of the site that is later than all that it has used is new
  stamp_new : (o p : Operation) (time : ℕ) (stamp : Stamp) → Contains h p → stamp_of p ≡ Some stamp → stamp.site ≡ site → greatest (time_used site) s.known < time → stamp.time ≡ time → ⊥
  stamp_new o p time stamp here e is later same =
      let known = own.own p here (stamped_of site p stamp e is) in
      let used = one_of_greatest (time_used site) s.known p known in
      let is_time = stamped_time site p stamp e is in
      omega (arith, used, is_time, later, same)

  -- the dots of the site are of counts that it has used
  pub count-used : (q : Dot) → set.contains (known_dots h) q ≡ true → q.site ≡ site → q.count ≤ greatest (count_used site) s.known
  count-used q is at =
      let w = made.made q is in
      let known = own.own w.add w.is (subst (λ n. IsOf n w.add) at w.at_site) in
      let used = one_of_greatest (count_used site) s.known w.add known in
      let is_count = makes_count site w.add q w.makes at in
      omega (arith, used, is_count)

  -- what is named at the site is known
  named_known : (dot : Dot) → is_named s.known dot ≡ true → set.contains (known_dots h) dot ≡ true
  named_known dot is = known_named h dot (named_part s.known h dot own.known is)

  -- what is visible there with a member is asserted in the history
  seen_asserted : (dot : Dot) (m : Member) → member_of s.known dot ≡ Some m → Contains (all_asserted h) (dot, m)
  seen_asserted dot m is = asserted_part s.known h own.known (dot, m) (member_in s.known dot m is)

  -- a dot of the site that the history asserts is asserted at the site
  asserted_there : (dot : Dot) (m : Member) → Contains (all_asserted h) (dot, m) → dot.site ≡ site → Contains (all_asserted s.known) (dot, m)
  asserted_there dot m here at =
      let w = made.made dot (known_asserted h dot (is-asserted h dot m here)) in
      let known = own.own w.add w.is (subst (λ n. IsOf n w.add) at w.at_site) in
      let p = makes_pair w.add dot w.makes in
      let there = part_in asserted_by s.known w.add (dot, p.0) known p.1 in
      let same = made.members dot p.0 m (asserted_part s.known h own.known (dot, p.0) there) here in
      subst (λ n. Contains (all_asserted s.known) (dot, n)) same there

  module _ (dot : Dot) (member : Member) (stamp : Stamp) (penalty : ℕ) (pause : PauseState) (label : Label) (older : set.FinSet dot_cmp) (a : IsAddAt site names_of_queues s.known dot member stamp older) where
    abbrev o : Operation
    o = Add dot member stamp penalty pause label older

    at-site : dot.site ≡ site
    at-site = ap (λ d. d.site) a.dot_is

    the_count : dot.count ≡ suc (greatest (count_used site) s.known)
    the_count = ap (λ d. d.count) a.dot_is

    is_new : IsNewDot names_of_queues sites h o dot member
    is_new = record {
      makes = refl;
      at_site = ap (λ x. x.site) a.stamp_is ∙ sym at-site;
      latest = λ q known same. let used = count-used q known (same ∙ at-site) in omega (arith, used, the_count);
      site = omega (arith, there, at-site);
      queue = a.queue;
    }

    -- an earlier dot of the member at the site is named there, since the member isn't there
    earlier_named : (earlier : Dot) → Contains (all_asserted h) (earlier, member) → earlier.site ≡ dot.site → is_named s.known earlier ≡ true
    earlier_named earlier here same = by (is_named s.known earlier) refl
      where
        there_too : Contains (all_asserted s.known) (earlier, member)
        there_too = asserted_there earlier member here (same ∙ at-site)

        member_reported : member_of s.known earlier ≡ Some member
        member_reported = member_is s.known earlier member there_too (λ n other. made.members earlier n member (asserted_part s.known h own.known (earlier, n) other) here)

        by : (b : Bool) → is_named s.known earlier ≡ b → is_named s.known earlier ≡ true
        by true e = e
        by false e = absurd (a.absent earlier (visible_from s.known earlier (is-asserted s.known earlier member there_too) e) member_reported)

    -- an add may be the next
    pub add_next : IsNext names_of_queues sites h o
    add_next = record {
      stamps = λ p t here eo ep.
          let same = one_some stamp t eo in
          stamp_new o p (suc (greatest (time_used site) s.known)) t here ep (ap (λ x. x.site) (sym same ∙ a.stamp_is)) (omega arith) (ap (λ x. x.time) (sym same ∙ a.stamp_is));
      members = λ d m n hm hn. ap (λ p. p.1) (sym (only_in (dot, member) (d, m) hm) ∙ only_in (dot, member) (d, n) hn);
      asserted = λ d m here. inl (subst (λ p. IsNewDot names_of_queues sites h (Add dot member stamp penalty pause label older) p.0 p.1) (only_in (dot, member) (d, m) here) is_new);
      named = λ d is. named_known d (and_parts (is_named s.known d) (is_older (dot ∷ []) d) (sym (a.older_are d) ∙ is)).0;
      made_once = λ d makes known. let less = is_new.latest d known (ap (λ x. x.site) (sym makes)) in let same = ap (λ x. x.count) makes in omega (arith, less, same);
      counts = tt;
      older = λ d earlier m here before same less.
          let pair = only_in (dot, member) (d, m) here in
          let dots_are = ap (λ p. p.0) pair in
          let at : earlier.site ≡ dot.site = same ∙ ap (λ x. x.site) (sym dots_are) in
          let lesser : earlier.count < dot.count = let counts = ap (λ x. x.count) dots_are in omega (arith, less, counts) in
          let named = earlier_named earlier (subst (λ n. Contains (all_asserted h) (earlier, n)) (ap (λ p. p.1) (sym pair)) before) at in
          a.older_are earlier ∙ and_from _ _ named (older_than (dot ∷ []) dot earlier (first_in dot []) at lesser);
    }

  module _ (dots : List (Dot × Member)) (setting : Setting) (stamp : Stamp) (older : set.FinSet dot_cmp) (w : IsWriteAt site s.known dots stamp older) where
    -- a dot of a pair is one of the dots
    first_of : (ds : List (Dot × Member)) (d : Dot) (m : Member) → Contains ds (d, m) → Contains (each (λ p. p.0) ds) d
    first_of ds d m here = map_in (λ p. p.0) ds (d, m) here

    -- what is named by what asserts a dot that the site sees, is named there
    written_older : (d earlier : Dot) (m : Member) → Contains dots (d, m) → Contains (all_asserted h) (earlier, m) → earlier.site ≡ d.site → earlier.count < d.count → is_named s.known earlier ≡ true
    written_older d earlier m here before same less =
        let p = in_part asserted_by s.known (d, m) (member_in s.known d m (w.seen d m here).1) in
        any_in (names earlier) s.known p.0 p.1 (made.older p.0 d earlier m (own.known p.0 p.1) p.2 before same less)

    -- a write may be the next
    pub write_next : IsNext names_of_queues sites h (Write dots setting stamp older)
    write_next = record {
      stamps = λ p t here eo ep.
          let same = one_some stamp t eo in
          stamp_new p p t.time t here ep (ap (λ x. x.site) (sym same) ∙ w.site_is) (let later = w.later in let time = ap (λ x. x.time) same in omega (arith, later, time)) refl;
      members = λ d m n hm hn. one_some m n (sym (w.seen d m hm).1 ∙ (w.seen d n hn).1);
      asserted = λ d m here. inr (seen_asserted d m (w.seen d m here).1);
      named = λ d is. named_known d (and_parts (is_named s.known d) (is_older (each (λ p. p.0) dots) d) (sym (w.older_are d) ∙ is)).0;
      made_once = λ d makes known. makes;
      counts = tt;
      older = λ d earlier m here before same less.
          w.older_are earlier ∙ and_from _ _ (written_older d earlier m here before same less) (older_than (each (λ p. p.0) dots) d earlier (first_of dots d m here) same less);
    }

  -- what a site makes may be the next
  pub made_next : (o : Operation) → IsMadeAt site names_of_queues s.known o → IsNext names_of_queues sites h o
  made_next (Add dot member stamp penalty pause label older) a = add_next dot member stamp penalty pause label older a
  made_next (Write dots setting stamp older) w = write_next dots setting stamp older w
  made_next (Remove dots) r = record {
    stamps = λ p t here eo ep. none_some t eo;
    members = λ d m n hm hn. absurd (nothing_in (d, m) hm);
    asserted = λ d m here. absurd (nothing_in (d, m) here);
    named = λ d is. let v = visible_parts s.known d (r.seen d is) in known_part s.known h d own.known (known_asserted s.known d v.0);
    made_once = λ d makes known. makes;
    counts = tt;
    older = λ d earlier m here before same less. absurd (nothing_in (d, m) here);
  }
  made_next (Count site_of queue calls total) c = record {
    stamps = λ p t here eo ep. none_some t eo;
    members = λ d m n hm hn. absurd (nothing_in (d, m) hm);
    asserted = λ d m here. absurd (nothing_in (d, m) here);
    named = λ d is. absurd (true≢false (sym is ∙ set.contains-empty dot_cmp d));
    made_once = λ d makes known. makes;
    counts = c.queue_is;
    older = λ d earlier m here before same less. absurd (nothing_in (d, m) here);
  }
