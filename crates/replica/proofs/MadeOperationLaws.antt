-- What a command makes is what its site may make of what it knows.
use Rattle.std.proofs.Common.{◌≡◌, ℕ, ◌<◌, true, List, [], ◌∷◌, Contains, length, Option, Some, None, map as each, refl, sym, ap, subst, ◌∙◌, arith}
use Rattle.std.specs.FinSet as set
use Rattle.std.specs.Cmp.Lexicographic.{pointwise}
use Rattle.std.specs.Prelude.{nat_eq}
use Rattle.std.proofs.lemmas.List.Quantifiers.{position-Some}
use Rattle.dots.specs.declared.member.Member.{Member}
use Rattle.dots.specs.Values.{Dot}
use Rattle.dots.specs.Orders.{dot_cmp}
use Rattle.operations.specs.Operations.{Operation, Setting}
use Rattle.operations.specs.Knowledge.{Knowledge, is_dot, member_of, visible_dots}
use Rattle.operations.specs.Rows.{dot_view, dots_of, is_of}
use Rattle.general_lemmas.specs.SetItems.{in_order}
use Rattle.dots.proofs.DotOrder.{dots_total}
use Rattle.general_lemmas.proofs.Filters.{filter_in}
use Rattle.general_lemmas.proofs.Membership.{any_in, in_any, in_some, nothing_in, some_in}
use Rattle.operations.proofs.RowLaws.{dot_of}
use Rattle.operations.proofs.WithinLimitsLaws.{one_dot}
use Rattle.live_cells.proofs.DotTests.{same_itself}
use Rattle.replica.specs.Changes.{Change, Meaning, Makes, AddMember, RemoveMember, SetField, CountCall, add_at, count_at, meaning, meaning_of_setting, remove_of, where_absent, within_limits, write_at}
use Rattle.replica.specs.MadeOperations.{IsMadeAt, IsRemoveAt}
use Rattle.replica.specs.Queues.{number_of}
use Rattle.replica.specs.SiteViews.{dots_seen, site_view, with_interface}
use Rattle.replica.proofs.MadeLimits.{in_each, in_queue_made, is_with, made, map_in, shown_with, where_absent_made, where_present_made, with_is}
use Rattle.replica.proofs.SeenLists.{of_member, paired_with}
use Rattle.replica.proofs.SeenOnce.{dots_paired, in_paired, seen_visible}
use Rattle.replica.proofs.SiteViewLaws.{older_named}

-- the number of a queue is that of a name in the list
number_below : (names : List (List ℕ)) (queue : List ℕ) (q : ℕ) → number_of names queue ≡ Some q → q < length names
number_below names queue q h = (position-Some (pointwise nat_eq queue) names q [] h).0

module _ (k : Knowledge) where
  -- each dot that is seen has the member that it is seen with
  seen_member : (queue : Option ℕ) (interface : List ℕ) (dot : Dot) (member : Member) → Contains (dots_seen (dot_view k) queue interface) (dot, member) → member_of k dot ≡ Some member
  seen_member None interface dot member here =
      let x = in_some (with_interface (dot_view k) interface) (in_order (visible_dots k)) (dot, member) here in
      let e = with_is interface (member_of k x.0) x.0 dot member x.2 in
      ap (member_of k) (sym e.0) ∙ e.1
  seen_member (Some q) interface dot member here =
      let own : Member = record { queue = q; interface = interface } in
      let dots = dots_of (dot_view k) own in
      let found = any_in (is_dot dot) dots dot (in_paired own dots (dot, member) here) (same_itself dot) in
      (of_member (dot_view k) own dot found).member ∙ ap Some (sym (paired_with own dots (dot, member) here))

  -- if no dot is seen, none is visible with that member
  absent_where : (q : ℕ) (interface : List ℕ) → dots_seen (dot_view k) (Some q) interface ≡ [] → (dot : Dot) → set.contains (visible_dots k) dot ≡ true
      → member_of k dot ≡ Some (record { queue = q; interface = interface }) → ⊥
  absent_where q interface none dot visible is =
      let own : Member = record { queue = q; interface = interface } in
      let no_dots = sym (dots_paired own (dots_of (dot_view k) own)) ∙ ap (each (λ (p : Dot × Member). p.0)) none in
      nothing_in dot (subst (λ dots. Contains dots dot) no_dots (dot_of k own dot visible is))

  -- all visible dots of a member that is seen are seen
  all_seen : (queue : Option ℕ) (interface : List ℕ) (dot other : Dot) (member : Member) → Contains (dots_seen (dot_view k) queue interface) (dot, member)
      → set.contains (visible_dots k) other ≡ true → member_of k other ≡ Some member → Contains (dots_seen (dot_view k) queue interface) (other, member)
  all_seen None interface dot other member here visible is =
      let x = in_some (with_interface (dot_view k) interface) (in_order (visible_dots k)) (dot, member) here in
      some_in (with_interface (dot_view k) interface) (in_order (visible_dots k)) other (other, member) (filter_in (is_of (dot_view k) member) (in_order (visible_dots k)) other (dot_of k member other visible is))
      (shown_with interface other member (is_with interface (member_of k x.0) x.0 dot member x.2) (member_of k other) is)
  all_seen (Some q) interface dot other member here visible is =
      let own : Member = record { queue = q; interface = interface } in
      let dots = dots_of (dot_view k) own in
      let same = paired_with own dots (dot, member) here in
      subst (λ m. Contains {X = Dot × Member} (each (λ d. (d, own)) dots) (other, m)) (sym same)
      (map_in (λ d. (d, own)) dots other (dot_of k own other visible (is ∙ ap Some same)))

  -- what is removed is all that is visible of its member
  remove_may : (q : ℕ) (interface : List ℕ) → IsRemoveAt k (set.from_list (each (λ d. d.0) (dots_seen (dot_view k) (Some q) interface)))
  remove_may q interface = record {
    member = own;
    seen = λ dot h.
        let x = of_pair dot h in subst (λ d. set.contains (visible_dots k) d ≡ true) x.2 (seen_visible (dot_view k) (Some q) interface x.0 x.1);
    only = λ dot h.
        let x = of_pair dot h in
        subst (λ d. member_of k d ≡ Some own) x.2
        (seen_member (Some q) interface x.0.0 x.0.1 x.1 ∙ ap Some (paired_with own (dots_of (dot_view k) own) x.0 x.1));
    all = λ dot visible is.
        set.contains-from_list dots_total removed dot
        ∙ any_in (is_dot dot) removed dot
        (subst (λ dots. Contains dots dot) (sym (dots_paired own (dots_of (dot_view k) own))) (dot_of k own dot visible is)) (same_itself dot);
  }
    where
      own : Member
      own = record { queue = q; interface = interface }

      removed : List Dot
      removed = each (λ d. d.0) (dots_seen (dot_view k) (Some q) interface)

      removed_set : set.FinSet dot_cmp
      removed_set = set.from_list removed

      -- each is of a pair that is seen
      of_pair : (dot : Dot) → set.contains removed_set dot ≡ true → (p : Dot × Member) × Contains (dots_seen (dot_view k) (Some q) interface) p × (p.0 ≡ dot)
      of_pair dot h =
          let x = in_any (is_dot dot) removed (sym (set.contains-from_list dots_total removed dot) ∙ h) in
          let p = in_each (λ d. d.0) (dots_seen (dot_view k) (Some q) interface) x.0 x.1 in
          (p.0, p.1, p.2 ∙ sym (one_dot dot x.0 x.2))

-- where an operation is made though none may be seen, none is
none_seen : (dots : List (Dot × Member)) (m : Meaning) (o : Operation) → where_absent dots m ≡ Makes o → dots ≡ []
none_seen [] m o h = refl
none_seen (d ∷ dots) m o h = absurd (cc)

-- what is made, change by change
setting_may : (site : ℕ) (names : List (List ℕ)) (k buffer : Knowledge) (setting : Setting) (queue : Option ℕ) (interface : List ℕ) (o : Operation)
    → meaning_of_setting site (site_view site k) (site_view site buffer) setting (dots_seen (dot_view k) queue interface) ≡ Makes o → IsMadeAt site names k o
setting_may site names k buffer setting queue interface o h =
    let dots = dots_seen (dot_view k) queue interface in
    let r = site_view site k in
    let write = write_at site r setting dots in
    let m = made r (site_view site buffer) write o (where_present_made dots (within_limits r (site_view site buffer) write) o h) in
    subst (IsMadeAt site names k) m.same (record {
      seen = λ dot member here. (seen_visible (dot_view k) queue interface (dot, member) here, seen_member k queue interface dot member here);
      all = λ dot other member here visible is. all_seen k queue interface dot other member here visible is;
      site_is = refl;
      later = omega arith;
      older_are = older_named site k (each (λ d. d.0) dots);
    })

pub makes_what_it_may : (site : ℕ) (names : List (List ℕ)) (change : Change) (k buffer : Knowledge) (o : Operation)
    → meaning site names (site_view site k) (site_view site buffer) change ≡ Makes o → IsMadeAt site names k o
makes_what_it_may site names (AddMember queue interface penalty paused label) k buffer o h =
    let r = site_view site k in
    let q = in_queue_made (number_of names queue) _ o h in
    let member : Member = record { queue = q.0; interface = interface } in
    let add = add_at site r member penalty paused label in
    let seen = dots_seen r.dots (Some q.0) interface in
    let m = made r (site_view site buffer) add o (where_absent_made seen (within_limits r (site_view site buffer) add) o q.2) in
    subst (IsMadeAt site names k) m.same (record {
      dot_is = refl;
      stamp_is = refl;
      queue = number_below names queue q.0 q.1;
      absent = absent_where k q.0 interface (none_seen seen (within_limits r (site_view site buffer) add) o q.2);
      older_are = older_named site k _;
    })
makes_what_it_may site names (RemoveMember queue interface) k buffer o h =
    let r = site_view site k in
    let q = in_queue_made (number_of names queue) _ o h in
    let dots = dots_seen r.dots (Some q.0) interface in
    let m = made r (site_view site buffer) (remove_of dots) o (where_present_made dots (within_limits r (site_view site buffer) (remove_of dots)) o q.2) in
    subst (IsMadeAt site names k) m.same (remove_may k q.0 interface)
makes_what_it_may site names (SetField None interface setting) k buffer o h = setting_may site names k buffer setting None interface o h
makes_what_it_may site names (SetField (Some queue) interface setting) k buffer o h =
    let q = in_queue_made (number_of names queue) _ o h in setting_may site names k buffer setting (Some q.0) interface o q.2
makes_what_it_may site names (CountCall queue calls) k buffer o h =
    let r = site_view site k in
    let q = in_queue_made (number_of names queue) _ o h in
    let m = made r (site_view site buffer) (count_at site r q.0 calls) o q.2 in
    subst (IsMadeAt site names k) m.same (record { site_is = refl; queue_is = number_below names queue q.0 q.1; total_is = refl })
