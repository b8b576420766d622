-- What is shown of an add and of a remove: the member's row, or none, and all else as it was.
use Rattle.std.proofs.Common.{◌≡◌, ◌≢◌, inl, inr, ℕ, suc, Bool, true, false, cond, ◌&&◌, ◌||◌, List, [], ◌∷◌, Some, None, map as each, refl, sym, ap, subst, ◌∙◌, arith, true≢false}
use Rattle.std.specs.Prelude.{IsSome}
use Rattle.std.specs.List.{find, list_any}
use Rattle.std.specs.Option.{option_map}
use Rattle.std.specs.FinSet as set
use Rattle.std.proofs.lemmas.Bool.{cases_Bool, false_from_ne_true, or_parts}
use Rattle.std.proofs.lemmas.Option.{same_Some}
use Rattle.dots.specs.declared.label.Label.{Label}
use Rattle.dots.specs.declared.member.Member.{Member}
use Rattle.dots.specs.DotSets.{is_older}
use Rattle.dots.specs.Values.{Dot}
use Rattle.dots.proofs.DotOrder.{dots_total}
use Rattle.general_lemmas.proofs.Membership.{in_any, only_in, same_tests}
use Rattle.operations.proofs.JoinedKnowledge.{joined_none, no_field}
use Rattle.operations.proofs.VisibleLaws.{visible_from, visible_parts}
use Rattle.operations.specs.Conditions.{fields_in}
use Rattle.operations.specs.Counts.{site_total}
use Rattle.operations.specs.Knowledge.{Knowledge, all_asserted, asserts, field_of, is_asserted, is_dot, is_named, known_dots, member_of, names}
use Rattle.operations.specs.Operations.{Field, Operation, asserted_by, label_field, pause_field, penalty_field, ring_field}
use Rattle.operations.specs.Registers.{join_of}
use Rattle.operations.specs.Rows.{DotView, MemberRow, dot_view, dots_of, member_fields, row_if, row_of, row_of_fields}
use Rattle.operations.proofs.KnownLaws.{known_dot}
use Rattle.live_cells.proofs.DotTests.{one_dot, same_itself}
use Rattle.replica.specs.Changes.{Meaning, Makes, AddMember, RemoveMember, add_at, meaning, remove_of, where_absent, where_present, within_limits}
use Rattle.replica.specs.Queues.{number_of}
use Rattle.replica.specs.SetFields.{fields_added}
use Rattle.replica.specs.Shows.{KnowsNonePast, ShowsAdd, ShowsRemove, member_at, row_added, row_in}
use Rattle.replica.specs.SiteViews.{SiteView, count_used, dots_seen, greatest, site_view, time_used}
use Rattle.replica.proofs.MadeLimits.{in_queue_made, made, where_absent_made, where_present_made}
use Rattle.replica.proofs.OneMoreRows.{field_said, lone_row, member_passed, no_dots, no_row, none_own, row_passed}
use Rattle.replica.proofs.SeenLists.{IsOwn, member_rises, of_member, same_rising, to_member}
use Rattle.replica.proofs.SeenOnce.{dots_paired, paired}
use Rattle.replica.proofs.ShownCounts.{none_counted}
use Rattle.replica.proofs.SiteViewLaws.{older_named}

-- ---- a member that is there, and one that isn't

module _ (r : DotView) (queue : ℕ) (interface : List ℕ) where
  -- the row of what has dots
  abbrev shown : MemberRow
  shown = row_of_fields (member_fields r (member_at queue interface))

  -- where a command asks for a member that is there, it has a row
  present_row : (m : Meaning) (o : Operation) → where_present (dots_seen r (Some queue) interface) m ≡ Makes o → IsSome (row_of r (member_at queue interface))
  present_row m o h = by (dots_of r (member_at queue interface)) h
    where
      by : (dots : List Dot) → where_present (paired (member_at queue interface) dots) m ≡ Makes o → IsSome (row_if dots shown)
      by [] h = absurd (cc)
      by (d ∷ ds) h = refl

  -- if a command asks for a member that isn't there, the member has no dots
  absent_dots : (m : Meaning) (o : Operation) → where_absent (dots_seen r (Some queue) interface) m ≡ Makes o → dots_of r (member_at queue interface) ≡ []
  absent_dots m o h = by (dots_of r (member_at queue interface)) refl h
    where
      by : (dots : List Dot) → dots_of r (member_at queue interface) ≡ dots → where_absent (paired (member_at queue interface) dots) m ≡ Makes o → dots_of r (member_at queue interface) ≡ []
      by [] e h = e
      by (d ∷ ds) e h = absurd (cc)

-- ---- a remove

module _ (k : Knowledge) (queue : ℕ) (interface : List ℕ) where
  -- the member, and the remove of all its dots
  abbrev gone : Member
  gone = member_at queue interface

  abbrev removed : Operation
  removed = remove_of (dots_seen (dot_view k) (Some queue) interface)

  -- the remove names exactly these dots
  removed_names : (q : Dot) → names q removed ≡ list_any (is_dot q) (dots_of (dot_view k) gone)
  removed_names q =
      set.contains-from_list dots_total (each (λ d. d.0) (dots_seen (dot_view k) (Some queue) interface)) q
      ∙ ap (list_any (is_dot q)) (dots_paired gone (dots_of (dot_view k) gone))

  remove_gone : row_in (removed ∷ k) gone ≡ None
  remove_gone = no_row (dot_view (removed ∷ k)) gone (no_dots (dot_view (removed ∷ k)) gone (λ q own.
      let parts = visible_parts (removed ∷ k) q own.visible in
      let unnamed = or_parts (names q removed) (is_named k q) parts.1 in
      let was : IsOwn (dot_view k) gone q = record { visible = visible_from k q parts.0 unnamed.1; member = own.member } in
      true≢false (sym (to_member (dot_view k) gone q was) ∙ sym (removed_names q) ∙ unnamed.0)))

  remove_others : (other : Member) → other ≢ gone → row_in (removed ∷ k) other ≡ row_in k other
  remove_others other apart =
      row_passed removed k other (λ q h. absurd (true≢false (sym h))) (λ q h. absurd (true≢false (sym h))) (λ q own.
      removed_names q
      ∙ false_from_ne_true (list_any (is_dot q) (dots_of (dot_view k) gone)) (λ h.
      apart (same_Some other gone (sym own.member ∙ (of_member (dot_view k) gone q h).member))))

-- what is shown of a remove
pub remove_shown : (site : ℕ) (names : List (List ℕ)) (queue interface : List ℕ) (k : Knowledge) (buffer : SiteView) (o : Operation)
    → meaning site names (site_view site k) buffer (RemoveMember queue interface) ≡ Makes o → ShowsRemove names k (o ∷ k) queue interface
remove_shown site names queue interface k buffer o h =
    let r = site_view site k in
    let q = in_queue_made (number_of names queue) _ o h in
    let dots = dots_seen r.dots (Some q.0) interface in
    let limits = within_limits r buffer (remove_of dots) in
    let m = made r buffer (remove_of dots) o (where_present_made dots limits o q.2) in
    subst (λ x. ShowsRemove names k (x ∷ k) queue interface) m.same (record {
      number = q.0;
      in_list = q.1;
      was_there = present_row r.dots q.0 interface limits o q.2;
      is_gone = remove_gone k q.0 interface;
      others = remove_others k q.0 interface;
      totals = λ s n calls. none_counted (site_total k s n calls);
    })

-- ---- an add

module _ (site : ℕ) (k : Knowledge) (queue : ℕ) (interface : List ℕ) (penalty : ℕ) (paused : Bool) (label : Label) where
  -- the member, the add, and the dot that it makes
  abbrev new_member : Member
  new_member = member_at queue interface

  abbrev added : Operation
  added = add_at site (site_view site k) new_member penalty paused label

  abbrev new_dot : Dot
  new_dot = record { site = site; count = suc (greatest (count_used site) k) }

  -- the add asserts only its dot
  asserts_new : asserts new_dot added ≡ true
  asserts_new = ap (λ b. b || false) (same_itself new_dot)

  only_new : (q : Dot) → asserts q added ≡ true → q ≡ new_dot
  only_new q h =
      let p = in_any (λ p. is_dot q p.0) (asserted_by added) h in
      one_dot q p.0.0 p.2 ∙ sym (ap (λ (x : Dot × Member). x.0) (only_in {X = Dot × Member} (new_dot, new_member) p.0 p.1))

  -- with its member
  new_is : (q : Dot) → asserts q added ≡ true → member_of (added ∷ k) q ≡ Some new_member
  new_is q h =
      let pair : Dot × Member = (new_dot, new_member) in
      ap (member_of (added ∷ k)) (only_new q h)
      ∙ ap (λ b. option_map (λ p. p.1) (cond b (Some pair) (find (λ p. is_dot new_dot p.0) (all_asserted k)))) (same_itself new_dot)

  -- what it names was named
  names_older : (q : Dot) → is_named k q ≡ false → names q added ≡ false
  names_older q h = older_named site k (new_dot ∷ []) q ∙ ap (λ b. b && is_older (new_dot ∷ []) q) h

  module _ (none_past : KnowsNonePast site k) where
    -- the dot is neither asserted nor named before
    fresh : (is_asserted k new_dot ≡ false) × (is_named k new_dot ≡ false)
    fresh = or_parts (is_asserted k new_dot) (is_named k new_dot) (sym (known_dot k new_dot) ∙ unknown)
      where
        unknown : set.contains (known_dots k) new_dot ≡ false
        unknown = false_from_ne_true (set.contains (known_dots k) new_dot) (λ h. none_past (record { count = suc (greatest (count_used site) k); known_dot = h; past = omega arith }))

    -- the new dot isn't any member's own before
    fresh_own : (member : Member) (q : Dot) → asserts q added ≡ true → IsOwn (dot_view k) member q → ⊥
    fresh_own member q h own = true≢false (sym (visible_parts k q own.visible).0 ∙ ap (is_asserted k) (only_new q h) ∙ fresh.0)

    -- the new dot is the new member's own after the add
    new_own : IsOwn (dot_view (added ∷ k)) new_member new_dot
    new_own = record {
      visible = visible_from (added ∷ k) new_dot (ap (λ b. b || is_asserted k new_dot) asserts_new) (λ i. names_older new_dot fresh.1 i || fresh.1 i);
      member = new_is new_dot asserts_new;
    }

    -- the fields of it are those that were added
    new_field : {T : Type 0} (field : Field T) → field_of field (added ∷ k) new_dot ≡ field added
    new_field {T} field =
        field_said added k new_dot field asserts_new ∙ ap (join_of (field added)) (no_field field k new_dot fresh.0) ∙ joined_none (field added)

    new_fields : fields_in (added ∷ k) new_dot ≡ fields_added (record { time = suc (greatest (time_used site) k); site = site }) penalty (record { paused = paused; reason = [] }) label
    new_fields = λ i. record {
      penalty = new_field penalty_field i;
      pause = new_field pause_field i;
      label = new_field label_field i;
      ring = new_field ring_field i;
    }

    -- where the member had no dot, that is its only one
    lone : dots_of (dot_view k) new_member ≡ [] → dots_of (dot_view (added ∷ k)) new_member ≡ new_dot ∷ []
    lone none =
        same_rising (dots_of (dot_view (added ∷ k)) new_member) (new_dot ∷ []) (member_rises (dot_view (added ∷ k)) new_member) refl (λ q.
        same_tests (list_any (is_dot q) (dots_of (dot_view (added ∷ k)) new_member)) (list_any (is_dot q) (new_dot ∷ []))
        (λ h. only q (of_member (dot_view (added ∷ k)) new_member q h))
        (λ h. to_member (dot_view (added ∷ k)) new_member q (subst (IsOwn (dot_view (added ∷ k)) new_member) (sym (only_new q h)) new_own)))
      where
        only : (q : Dot) → IsOwn (dot_view (added ∷ k)) new_member q → asserts q added ≡ true
        only q own = elim (cases_Bool (asserts q added)) [
          | inl t ↦ t
          | inr f ↦ let parts = visible_parts (added ∷ k) q own.visible in
              absurd (none_own (dot_view k) new_member none q (record {
                visible = visible_from k q (ap (λ b. b || is_asserted k q) (sym f) ∙ parts.0) (or_parts (names q added) (is_named k q) parts.1).1;
                member = sym (member_passed added k q f) ∙ own.member;
              }))
        ]

    add_row : dots_of (dot_view k) new_member ≡ [] → row_in (added ∷ k) new_member ≡ Some (row_added penalty paused label)
    add_row none = lone_row (dot_view (added ∷ k)) new_member new_dot (lone none) ∙ ap (λ f. Some (row_of_fields f)) new_fields

    add_others : (other : Member) → other ≢ new_member → row_in (added ∷ k) other ≡ row_in k other
    add_others other apart =
        row_passed added k other (λ q h own. apart (same_Some other new_member (sym own.member ∙ new_is q h))) (fresh_own other) (λ q own.
        names_older q (visible_parts k q own.visible).1)

-- what is shown of an add, at a site that knows none of its dots past its last
pub add_shown : (site : ℕ) (names : List (List ℕ)) (queue interface : List ℕ) (penalty : ℕ) (paused : Bool) (label : Label) (k : Knowledge) (buffer : SiteView) (o : Operation)
    → KnowsNonePast site k → meaning site names (site_view site k) buffer (AddMember queue interface penalty paused label) ≡ Makes o
    → ShowsAdd names k (o ∷ k) queue interface penalty paused label
add_shown site names queue interface penalty paused label k buffer o none_past h =
    let r = site_view site k in
    let q = in_queue_made (number_of names queue) _ o h in
    let add = add_at site r (member_at q.0 interface) penalty paused label in
    let seen = dots_seen r.dots (Some q.0) interface in
    let limits = within_limits r buffer add in
    let m = made r buffer add o (where_absent_made seen limits o q.2) in
    let none = absent_dots r.dots q.0 interface limits o q.2 in
    subst (λ x. ShowsAdd names k (x ∷ k) queue interface penalty paused label) m.same (record {
      number = q.0;
      in_list = q.1;
      was_absent = no_row r.dots (member_at q.0 interface) none;
      row = add_row site k q.0 interface penalty paused label none_past none;
      others = add_others site k q.0 interface penalty paused label none_past;
      totals = λ s n calls. none_counted (site_total k s n calls);
    })
