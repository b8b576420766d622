-- What is shown of a setting: the rows of the members that it is for have its value, and all else is as it was.
use Rattle.std.proofs.Common.{◌≡◌, inl, inr, ℕ, suc, ◌<◌, max, true, false, ◌&&◌, ◌||◌, List, [], ◌∷◌, Contains, Option, Some, None, map as each, if◌then◌else◌, refl, sym, ap, subst, ◌∙◌, arith}
use Rattle.std.specs.Prelude.{IsSome}
use Rattle.std.specs.List.{cons_option, filter_map}
use Rattle.std.specs.Option.{option_map}
use Rattle.std.specs.Ordering.{is_lt, ordering_reverse}
use Rattle.std.specs.FinSet as set
use Rattle.std.proofs.lemmas.Bool.{cases_Bool, or_from, or_parts, or_right}
use Rattle.std.proofs.lemmas.Option.{same_Some}
use Rattle.std.proofs.lemmas.Slice.Eq.{bytes_eq-Decides}
use Rattle.dots.specs.declared.member.Member.{Member}
use Rattle.dots.specs.DotSets.{is_older}
use Rattle.dots.specs.Orders.{dot_cmp}
use Rattle.dots.specs.Values.{Dot, Stamp}
use Rattle.general_lemmas.specs.SetItems.{in_order}
use Rattle.general_lemmas.proofs.Filters.{filter_in}
use Rattle.general_lemmas.proofs.Membership.{any_in, first_in, in_any, in_some, later_in, nothing_in, some_in}
use Rattle.operations.proofs.VisibleLaws.{visible_from, visible_parts}
use Rattle.operations.specs.Conditions.{DotFields, fields_in}
use Rattle.operations.specs.Counts.{site_total}
use Rattle.operations.specs.Knowledge.{Knowledge, asserts, field_of, is_asserted, is_dot, is_named, latest_of, member_of, names}
use Rattle.operations.specs.Operations.{Operation, SetLabel, SetPause, SetPenalty, SetRing, Setting, Write, entry_under, label_field, pause_field, penalty_field, ring_field}
use Rattle.operations.specs.Registers.{Entry, join_of}
use Rattle.operations.specs.Rows.{DotView, dot_view, dots_of, is_of, member_field, member_fields, row_if, row_of, row_of_fields}
use Rattle.operations.proofs.AlikeViews.{filter_map_same}
use Rattle.operations.proofs.RegisterLaws.{joined_self, stamps_total}
use Rattle.operations.proofs.RowLaws.{has_row}
use Rattle.live_cells.proofs.DotTests.{one_dot, same_itself}
use Rattle.replica.specs.Changes.{Meaning, Makes, SetField, meaning, meaning_of_setting, time_in, time_of, time_replaced, where_present, within_limits, write_at}
use Rattle.replica.specs.Queues.{number_of}
use Rattle.replica.specs.Shows.{IsSetOn, ShowsSetting, member_at, row_in, row_with}
use Rattle.replica.specs.SiteViews.{SiteView, dots_seen, greatest, older_dots, site_view, time_used, with_interface}
use Rattle.replica.proofs.MadeLimits.{in_queue_made, is_with, made, map_in, shown_with, where_present_made}
use Rattle.replica.proofs.OneMoreRows.{field_said, member_kept, no_row, own_of, row_passed, same_own}
use Rattle.replica.proofs.SeenLists.{IsOwn, paired_with, seen_member}
use Rattle.replica.proofs.SeenOnce.{seen_visible}
use Rattle.replica.proofs.ShownCounts.{none_counted}
use Rattle.replica.proofs.SiteViewLaws.{older_named}
use Rattle.replica.proofs.WrittenChanges.{earlier_less, one_of_greatest}

-- ---- fields and rows

-- an entry under a later time wins
later_wins : {T : Type 0} (e : Entry T) (x : Option (Entry T)) → time_of x < e.stamp.time → join_of (Some e) x ≡ Some e
later_wins e None l = refl
later_wins e (Some a) l =
    ap (λ o. Some (if is_lt o then a else e)) (stamps_total.antisymm e.stamp a.stamp ∙ ap ordering_reverse (earlier_less a.stamp e.stamp l))

-- the latest of entries that are all one is that
all_latest : {T : Type 0} (f : Dot → Option (Entry T)) (e : Entry T) (d : Dot) (ds : List Dot) → ((q : Dot) → Contains (d ∷ ds) q → f q ≡ Some e)
    → latest_of (filter_map f (d ∷ ds)) ≡ Some e
all_latest f e d [] same = ap (λ o. latest_of (cons_option o [])) (same d (first_in d []))
all_latest f e d (x ∷ xs) same =
    ap (λ o. latest_of (cons_option o (filter_map f (x ∷ xs)))) (same d (first_in d (x ∷ xs)))
    ∙ ap (join_of (Some e)) (all_latest f e x xs (λ q here. same q (later_in d (x ∷ xs) q here))) ∙ joined_self (Some e)

-- fields with the value of a setting under a stamp, and all else as it was
abbrev fields_with : Stamp → Setting → DotFields → DotFields
fields_with stamp (SetPenalty penalty) f = record f { penalty = entry_under stamp (Some penalty) }
fields_with stamp (SetPause pause) f = record f { pause = entry_under stamp (Some pause) }
fields_with stamp (SetLabel label) f = record f { label = entry_under stamp (Some label) }
fields_with stamp (SetRing ring) f = record f { ring = entry_under stamp (Some ring) }

-- the row of these has the value of the setting, and all else as it was
row_set : (stamp : Stamp) (setting : Setting) (f : DotFields) → row_of_fields (fields_with stamp setting f) ≡ row_with setting (row_of_fields f)
row_set stamp (SetPenalty penalty) f = refl
row_set stamp (SetPause pause) f = refl
row_set stamp (SetLabel label) f = refl
row_set stamp (SetRing ring) f = refl

-- a dot that is written later than what is replaced has such fields
fields_set : (dots : List (Dot × Member)) (setting : Setting) (stamp : Stamp) (older : set.FinSet dot_cmp) (k : Knowledge) (q : Dot)
    → asserts q (Write dots setting stamp older) ≡ true → time_in setting (fields_in k q) < stamp.time
    → fields_in (Write dots setting stamp older ∷ k) q ≡ fields_with stamp setting (fields_in k q)
fields_set dots (SetPenalty penalty) stamp older k q is later =
    let o = Write dots (SetPenalty penalty) stamp older in
    λ i. record {
      penalty = (field_said o k q penalty_field is ∙ later_wins (record { stamp = stamp; value = penalty }) (field_of penalty_field k q) later) i;
      pause = field_said o k q pause_field is i;
      label = field_said o k q label_field is i;
      ring = field_said o k q ring_field is i;
    }
fields_set dots (SetPause pause) stamp older k q is later =
    let o = Write dots (SetPause pause) stamp older in
    λ i. record {
      penalty = field_said o k q penalty_field is i;
      pause = (field_said o k q pause_field is ∙ later_wins (record { stamp = stamp; value = pause }) (field_of pause_field k q) later) i;
      label = field_said o k q label_field is i;
      ring = field_said o k q ring_field is i;
    }
fields_set dots (SetLabel label) stamp older k q is later =
    let o = Write dots (SetLabel label) stamp older in
    λ i. record {
      penalty = field_said o k q penalty_field is i;
      pause = field_said o k q pause_field is i;
      label = (field_said o k q label_field is ∙ later_wins (record { stamp = stamp; value = label }) (field_of label_field k q) later) i;
      ring = field_said o k q ring_field is i;
    }
fields_set dots (SetRing ring) stamp older k q is later =
    let o = Write dots (SetRing ring) stamp older in
    λ i. record {
      penalty = field_said o k q penalty_field is i;
      pause = field_said o k q pause_field is i;
      label = field_said o k q label_field is i;
      ring = (field_said o k q ring_field is ∙ later_wins (record { stamp = stamp; value = ring }) (field_of ring_field k q) later) i;
    }

-- a member has the same dots in two views, some, and each has the fields that it had with the value of a setting
module _ (r s : DotView) (member : Member) (stamp : Stamp) (setting : Setting) (d : Dot) (ds : List Dot) (had : dots_of r member ≡ d ∷ ds) (has : dots_of s member ≡ d ∷ ds)
    (wrote : (q : Dot) → Contains (d ∷ ds) q → s.fields q ≡ fields_with stamp setting (r.fields q)) where
  -- a field that is not set is as it was
  field_kept : {T : Type 0} (field : DotFields → Option (Entry T)) {x : Setting} → setting ≡ x → ((f : DotFields) → field (fields_with stamp x f) ≡ field f)
      → member_field (λ q. field (s.fields q)) s member ≡ member_field (λ q. field (r.fields q)) r member
  field_kept field e same =
      ap (λ dots. latest_of (filter_map (λ q. field (s.fields q)) dots)) has
      ∙ ap latest_of (filter_map_same (λ q. field (s.fields q)) (λ q. field (r.fields q)) (d ∷ ds) (λ q here.
      ap field (wrote q here) ∙ ap (λ y. field (fields_with stamp y (r.fields q))) e ∙ same (r.fields q)))
      ∙ sym (ap (λ dots. latest_of (filter_map (λ q. field (r.fields q)) dots)) had)

  -- one that is set is what was set
  field_set : {T : Type 0} (field : DotFields → Option (Entry T)) {x : Setting} → setting ≡ x → (entry : Entry T) → ((f : DotFields) → field (fields_with stamp x f) ≡ Some entry)
      → member_field (λ q. field (s.fields q)) s member ≡ Some entry
  field_set field e entry is =
      ap (λ dots. latest_of (filter_map (λ q. field (s.fields q)) dots)) has
      ∙ all_latest (λ q. field (s.fields q)) entry d ds (λ q here. ap field (wrote q here) ∙ ap (λ y. field (fields_with stamp y (r.fields q))) e ∙ is (r.fields q))

  -- the member's fields are those with the setting
  member_set : member_fields s member ≡ fields_with stamp setting (member_fields r member)
  member_set = by setting refl
    where
      by : (x : Setting) → setting ≡ x → member_fields s member ≡ fields_with stamp x (member_fields r member)
      by (SetPenalty penalty) e = λ i. record {
        penalty = field_set (λ f. f.penalty) e (record { stamp = stamp; value = penalty }) (λ f. refl) i;
        pause = field_kept (λ f. f.pause) e (λ f. refl) i;
        label = field_kept (λ f. f.label) e (λ f. refl) i;
        ring = field_kept (λ f. f.ring) e (λ f. refl) i;
      }
      by (SetPause pause) e = λ i. record {
        penalty = field_kept (λ f. f.penalty) e (λ f. refl) i;
        pause = field_set (λ f. f.pause) e (record { stamp = stamp; value = pause }) (λ f. refl) i;
        label = field_kept (λ f. f.label) e (λ f. refl) i;
        ring = field_kept (λ f. f.ring) e (λ f. refl) i;
      }
      by (SetLabel label) e = λ i. record {
        penalty = field_kept (λ f. f.penalty) e (λ f. refl) i;
        pause = field_kept (λ f. f.pause) e (λ f. refl) i;
        label = field_set (λ f. f.label) e (record { stamp = stamp; value = label }) (λ f. refl) i;
        ring = field_kept (λ f. f.ring) e (λ f. refl) i;
      }
      by (SetRing ring) e = λ i. record {
        penalty = field_kept (λ f. f.penalty) e (λ f. refl) i;
        pause = field_kept (λ f. f.pause) e (λ f. refl) i;
        label = field_kept (λ f. f.label) e (λ f. refl) i;
        ring = field_set (λ f. f.ring) e (record { stamp = stamp; value = ring }) (λ f. refl) i;
      }

  -- the member's row is the one with the setting
  row_written : row_of s member ≡ Some (row_with setting (row_of_fields (member_fields r member)))
  row_written =
      ap (λ dots. row_if dots (row_of_fields (member_fields s member))) has ∙ ap (λ f. Some (row_of_fields f)) member_set ∙ ap Some (row_set stamp setting (member_fields r member))

-- each member with dots has the row with the setting, and a member without dots has no row
rows_set : (r s : DotView) (member : Member) (stamp : Stamp) (setting : Setting) → dots_of s member ≡ dots_of r member
    → ((q : Dot) → Contains (dots_of r member) q → s.fields q ≡ fields_with stamp setting (r.fields q)) → row_of s member ≡ option_map (row_with setting) (row_of r member)
rows_set r s member stamp setting same wrote = by (dots_of r member) refl
  where
    by : (dots : List Dot) → dots_of r member ≡ dots → row_of s member ≡ option_map (row_with setting) (row_of r member)
    by [] e = no_row s member (same ∙ e) ∙ sym (ap (option_map (row_with setting)) (no_row r member e))
    by (d ∷ ds) e =
        row_written r s member stamp setting d ds e (same ∙ e) (λ q here. wrote q (subst (λ dots. Contains dots q) (sym e) here))
        ∙ sym (ap (λ dots. option_map (row_with setting) (row_if dots (row_of_fields (member_fields r member)))) e)

-- ---- the members that it is for

-- a member has this interface, and is in the queue of this number, where one is given
abbrev pub IsAt : Option ℕ → List ℕ → Member → Type 0
IsAt None interface member = member.interface ≡ interface
IsAt (Some queue) interface member = member ≡ member_at queue interface

-- all dots of such a member are seen, with it
seen_all : (r : DotView) (queue : Option ℕ) (interface : List ℕ) (member : Member) (q : Dot) → IsAt queue interface member → Contains (dots_of r member) q
    → Contains (dots_seen r queue interface) (q, member)
seen_all r None interface member q at here =
    some_in (with_interface r interface) (in_order r.visible) q (q, member) (filter_in (is_of r member) (in_order r.visible) q here)
    (shown_with interface q member ((bytes_eq-Decides member.interface interface).1 at) (r.member q) (own_of r member q here).member)
seen_all r (Some queue) interface member q at here =
    subst (λ (m : Member). Contains (dots_of r m) q → Contains {X = Dot × Member} (dots_seen r (Some queue) interface) (q, m)) (sym at)
    (λ h. map_in {Y = Dot × Member} (λ dot. (dot, member_at queue interface)) (dots_of r (member_at queue interface)) q h) here

-- each dot that is seen is of a member that the setting is for
seen_at : (r : DotView) (queue : Option ℕ) (interface : List ℕ) (p : Dot × Member) → Contains (dots_seen r queue interface) p → IsAt queue interface p.1
seen_at r None interface p here =
    let x = in_some (with_interface r interface) (in_order r.visible) p here in
    (bytes_eq-Decides p.1.interface interface).0 (is_with interface (r.member x.0) x.0 p.0 p.1 x.2)
seen_at r (Some queue) interface p here = paired_with (member_at queue interface) (dots_of r (member_at queue interface)) p here

module _ (k : Knowledge) (queue : Option ℕ) (interface : List ℕ) where
  -- where something is seen, a member of it is there
  pub seen_there : (p : Dot × Member) (ps : List (Dot × Member)) → dots_seen (dot_view k) queue interface ≡ p ∷ ps
      → (member : Member) × IsAt queue interface member × IsSome (row_in k member)
  seen_there p ps e =
      let here : Contains (dots_seen (dot_view k) queue interface) p = subst (λ xs. Contains xs p) (sym e) (first_in p ps) in (
        p.1,
        seen_at (dot_view k) queue interface p here,
        has_row k p.1 p.0 (seen_visible (dot_view k) queue interface p here) (seen_member (dot_view k) queue interface p here),
      )

  -- if no dot is seen, no member that the setting is for is there
  pub none_seen : dots_seen (dot_view k) queue interface ≡ [] → (member : Member) → IsAt queue interface member → row_in k member ≡ None
  none_seen none member at = no_row (dot_view k) member (by (dots_of (dot_view k) member) refl)
    where
      by : (dots : List Dot) → dots_of (dot_view k) member ≡ dots → dots_of (dot_view k) member ≡ []
      by [] e = e
      by (q ∷ qs) e =
          let here = seen_all (dot_view k) queue interface member q at (subst (λ dots. Contains dots q) (sym e) (first_in q qs)) in
          absurd (nothing_in {X = Dot × Member} (q, member) (subst (λ ps. Contains ps (q, member)) none here))

module _ (names : List (List ℕ)) (queue : List ℕ) (number : ℕ) (interface : List ℕ) (numbered : number_of names queue ≡ Some number) where
  -- a member that a setting is for in the queue of this name is that in the queue of its number
  pub to_number : (member : Member) → IsSetOn names (Some queue) interface member → IsAt (Some number) interface member
  to_number member is = at_number (sym is.0 ∙ numbered)
    where
      at_number : Some member.queue ≡ Some number → member ≡ member_at number interface
      at_number e = let same : member.queue ≡ number = cc in λ i. record { queue = same i; interface = is.1 i }

  -- a member in the queue of its number is one that the setting is for
  pub from_number : (member : Member) → IsAt (Some number) interface member → IsSetOn names (Some queue) interface member
  from_number member at = (numbered ∙ ap (λ (m : Member). Some m.queue) (sym at), ap (λ (m : Member). m.interface) at)

-- ---- the write

module _ (site : ℕ) (k : Knowledge) (queue : Option ℕ) (interface : List ℕ) (setting : Setting) where
  -- the dots that are seen, the write, and its stamp
  abbrev seen : List (Dot × Member)
  seen = dots_seen (dot_view k) queue interface

  abbrev written : Operation
  written = write_at site (site_view site k) setting seen

  abbrev write_stamp : Stamp
  write_stamp = record { time = suc (max (greatest (time_used site) k) (greatest (λ d. time_replaced (dot_view k) setting d.0) seen)); site = site }

  -- what it asserts is seen
  asserted_pair : (q : Dot) → asserts q written ≡ true → (member : Member) × Contains seen (q, member)
  asserted_pair q h =
      let p = in_any (λ p. is_dot q p.0) seen h in (p.0.1, subst (λ dot. Contains seen (dot, p.0.1)) (sym (one_dot q p.0.0 p.2)) p.1)

  -- what it names was named
  write_names : (q : Dot) → is_named k q ≡ false → names q written ≡ false
  write_names q h = older_named site k (each (λ d. d.0) seen) q ∙ ap (λ b. b && is_older (each (λ d. d.0) seen) q) h

  -- each dot has the member that it had
  members_stay : (q : Dot) → member_of (written ∷ k) q ≡ member_of k q
  members_stay q = member_kept written k q (λ p here. seen_member (dot_view k) queue interface p here)

  -- each member has the dots that it had
  dots_stay : (member : Member) → dots_of (dot_view (written ∷ k)) member ≡ dots_of (dot_view k) member
  dots_stay member = same_own (dot_view (written ∷ k)) (dot_view k) member was is
    where
      visible_before : (q : Dot) → set.contains (dot_view (written ∷ k)).visible q ≡ true → set.contains (dot_view k).visible q ≡ true
      visible_before q h =
          let parts = visible_parts (written ∷ k) q h in
          elim (cases_Bool (asserts q written)) [
            | inl t ↦ let p = asserted_pair q t in seen_visible (dot_view k) queue interface (q, p.0) p.1
            | inr f ↦ visible_from k q (ap (λ b. b || is_asserted k q) (sym f) ∙ parts.0) (or_parts (names q written) (is_named k q) parts.1).1
          ]

      was : (q : Dot) → IsOwn (dot_view (written ∷ k)) member q → IsOwn (dot_view k) member q
      was q own = record { visible = visible_before q own.visible; member = sym (members_stay q) ∙ own.member }

      is : (q : Dot) → IsOwn (dot_view k) member q → IsOwn (dot_view (written ∷ k)) member q
      is q own =
          let parts = visible_parts k q own.visible in
          record {
            visible = visible_from (written ∷ k) q (or_right (asserts q written) (is_asserted k q) parts.0) (or_from (names q written) (is_named k q) (write_names q parts.1) parts.1);
            member = members_stay q ∙ own.member;
          }

  -- a dot that is seen is written later than what is replaced
  seen_later : (q : Dot) (member : Member) → Contains seen (q, member) → time_in setting (fields_in k q) < write_stamp.time
  seen_later q member here =
      let most = one_of_greatest (λ (d : Dot × Member). time_replaced (dot_view k) setting d.0) seen (q, member) here in omega (arith, most)

  set_rows : (member : Member) → IsAt queue interface member → row_in (written ∷ k) member ≡ option_map (row_with setting) (row_in k member)
  set_rows member at =
      rows_set (dot_view k) (dot_view (written ∷ k)) member write_stamp setting (dots_stay member) (λ q here.
      let found = seen_all (dot_view k) queue interface member q at here in
      fields_set seen setting write_stamp (older_dots (site_view site k) (each (λ d. d.0) seen)) k q (any_in (λ p. is_dot q p.0) seen (q, member) found (same_itself q)) (seen_later q member found))

  -- what it asserts isn't another member's
  not_other : (other : Member) → (IsAt queue interface other → ⊥) → (q : Dot) → asserts q written ≡ true → member_of k q ≡ Some other → ⊥
  not_other other apart q h is =
      let p = asserted_pair q h in
      let same = same_Some p.0 other (sym (seen_member (dot_view k) queue interface (q, p.0) p.1) ∙ is) in
      apart (subst (IsAt queue interface) same (seen_at (dot_view k) queue interface (q, p.0) p.1))

  set_others : (other : Member) → (IsAt queue interface other → ⊥) → row_in (written ∷ k) other ≡ row_in k other
  set_others other apart =
      row_passed written k other (λ q h own. not_other other apart q h (sym (members_stay q) ∙ own.member)) (λ q h own. not_other other apart q h own.member) (λ q own.
      write_names q (visible_parts k q own.visible).1)

  -- if a setting asks for a member that is there, one is
  set_there : (m : Meaning) (o : Operation) → where_present seen m ≡ Makes o → (member : Member) × IsAt queue interface member × IsSome (row_in k member)
  set_there m o h = by seen refl h
    where
      by : (ps : List (Dot × Member)) → seen ≡ ps → where_present ps m ≡ Makes o → (member : Member) × IsAt queue interface member × IsSome (row_in k member)
      by [] e h = absurd (cc)
      by (p ∷ ps) e h = seen_there k queue interface p ps e

-- what is shown of a setting, on the dots that are seen of an interface at this place
shown_at : (site : ℕ) (names : List (List ℕ)) (queue : Option (List ℕ)) (place : Option ℕ) (interface : List ℕ) (setting : Setting) (k : Knowledge) (buffer : SiteView) (o : Operation)
    → ((member : Member) → IsSetOn names queue interface member → IsAt place interface member) → ((member : Member) → IsAt place interface member → IsSetOn names queue interface member)
    → meaning_of_setting site (site_view site k) buffer setting (dots_seen (dot_view k) place interface) ≡ Makes o → ShowsSetting names k (o ∷ k) queue interface setting
shown_at site names queue place interface setting k buffer o to from h =
    let r = site_view site k in
    let dots = dots_seen (dot_view k) place interface in
    let write = write_at site r setting dots in
    let limits = within_limits r buffer write in
    let m = made r buffer write o (where_present_made dots limits o h) in
    let there = set_there site k place interface setting limits o h in
    subst (λ x. ShowsSetting names k (x ∷ k) queue interface setting) m.same (record {
      was_there = (there.0, from there.0 there.1, there.2);
      rows = λ member is. set_rows site k place interface setting member (to member is);
      others = λ other apart. set_others site k place interface setting other (λ at. apart (from other at));
      totals = λ s n calls. none_counted (site_total k s n calls);
    })

-- what is shown of a setting
pub set_shown : (site : ℕ) (names : List (List ℕ)) (queue : Option (List ℕ)) (interface : List ℕ) (setting : Setting) (k : Knowledge) (buffer : SiteView) (o : Operation)
    → meaning site names (site_view site k) buffer (SetField queue interface setting) ≡ Makes o → ShowsSetting names k (o ∷ k) queue interface setting
set_shown site names None interface setting k buffer o h = shown_at site names None None interface setting k buffer o (λ member is. is) (λ member at. at) h
set_shown site names (Some queue) interface setting k buffer o h =
    let q = in_queue_made (number_of names queue) _ o h in
    shown_at site names (Some queue) (Some q.0) interface setting k buffer o (to_number names queue q.0 interface q.1) (from_number names queue q.0 interface q.1) q.2
