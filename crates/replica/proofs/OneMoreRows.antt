-- What one operation more makes of dots, of their members and fields, and of the rows of members.
use Rattle.std.proofs.Common.{◌≡◌, inl, inr, true, false, ◌||◌, List, [], ◌∷◌, Contains, Option, Some, None, is_some, append-nil, refl, sym, ap, subst, ◌∙◌, true≢false}
use Rattle.std.specs.List.{cons_option, filter_map, list_any}
use Rattle.std.specs.Option.{option_or}
use Rattle.std.proofs.lemmas.Bool.{cases_Bool, or_from, or_parts, or_right}
use Rattle.dots.specs.declared.member.Member.{Member}
use Rattle.dots.specs.Values.{Dot}
use Rattle.operations.specs.Conditions.{DotFields, fields_in}
use Rattle.operations.specs.Knowledge.{Knowledge, asserts, field_of, is_asserted, is_dot, is_named, latest_of, member_of, names}
use Rattle.operations.specs.Operations.{Field, Operation, asserted_by}
use Rattle.operations.specs.Registers.{Entry, join_of}
use Rattle.operations.specs.Rows.{DotView, dot_view, dots_of, member_field, member_fields, row_if, row_of, row_of_fields}
use Rattle.general_lemmas.proofs.Membership.{any_in, same_tests}
use Rattle.operations.proofs.AlikeViews.{filter_map_same}
use Rattle.operations.proofs.JoinedKnowledge.{field_both, fields_right, member_both, member_in, member_some}
use Rattle.operations.proofs.VisibleLaws.{visible_from, visible_parts}
use Rattle.live_cells.proofs.DotTests.{same_itself}
use Rattle.replica.proofs.MadeChanges.{field_asserted}
use Rattle.replica.proofs.SeenLists.{IsOwn, member_rises, of_member, same_rising, to_member}

-- ---- rows of two views

module _ (r s : DotView) (member : Member) where
  -- a member has the same dots where those of either are its own in the other
  pub same_own : ((q : Dot) → IsOwn r member q → IsOwn s member q) → ((q : Dot) → IsOwn s member q → IsOwn r member q) → dots_of r member ≡ dots_of s member
  same_own to from =
      same_rising (dots_of r member) (dots_of s member) (member_rises r member) (member_rises s member) (λ q.
      same_tests (list_any (is_dot q) (dots_of r member)) (list_any (is_dot q) (dots_of s member))
      (λ h. to_member s member q (to q (of_member r member q h)))
      (λ h. to_member r member q (from q (of_member s member q h))))

  -- a member has the same row if its dots are the same and have the same fields
  pub same_row : dots_of r member ≡ dots_of s member → ((q : Dot) → Contains (dots_of r member) q → r.fields q ≡ s.fields q) → row_of r member ≡ row_of s member
  same_row dots fields = λ i. row_if (dots i) (row_of_fields (record {
    penalty = same (λ f. f.penalty) i;
    pause = same (λ f. f.pause) i;
    label = same (λ f. f.label) i;
    ring = same (λ f. f.ring) i;
  }))
    where
      same : {T : Type 0} (field : DotFields → Option (Entry T)) → member_field (λ dot. field (r.fields dot)) r member ≡ member_field (λ dot. field (s.fields dot)) s member
      same field =
          ap latest_of (filter_map_same (λ dot. field (r.fields dot)) (λ dot. field (s.fields dot)) (dots_of r member) (λ dot here. ap field (fields dot here)))
          ∙ ap (λ ds. latest_of (filter_map (λ dot. field (s.fields dot)) ds)) dots

module _ (r : DotView) (member : Member) where
  -- a dot of a member is its own
  pub own_of : (q : Dot) → Contains (dots_of r member) q → IsOwn r member q
  own_of q here = of_member r member q (any_in (is_dot q) (dots_of r member) q here (same_itself q))

  -- a member has no dots where none is its own
  pub no_dots : ((q : Dot) → IsOwn r member q → ⊥) → dots_of r member ≡ []
  no_dots none = by (dots_of r member) refl
    where
      by : (dots : List Dot) → dots_of r member ≡ dots → dots_of r member ≡ []
      by [] e = e
      by (q ∷ qs) e = absurd (none q (of_member r member q (ap (list_any (is_dot q)) e ∙ ap (λ b. b || list_any (is_dot q) qs) (same_itself q))))

  -- if a member has no dots, none is its own
  pub none_own : dots_of r member ≡ [] → (q : Dot) → IsOwn r member q → ⊥
  none_own none q own = true≢false (sym (to_member r member q own) ∙ ap (list_any (is_dot q)) none)

  -- if a member has no dots, it has no row
  pub no_row : dots_of r member ≡ [] → row_of r member ≡ None
  no_row none = ap (λ dots. row_if dots (row_of_fields (member_fields r member))) none

  -- if a member has one dot, its row shows the fields of that
  pub lone_row : (dot : Dot) → dots_of r member ≡ dot ∷ [] → row_of r member ≡ Some (row_of_fields (r.fields dot))
  lone_row dot lone = λ i. row_if (lone i) (row_of_fields (record {
    penalty = of_one (λ f. f.penalty) i;
    pause = of_one (λ f. f.pause) i;
    label = of_one (λ f. f.label) i;
    ring = of_one (λ f. f.ring) i;
  }))
    where
      alone : {T : Type 0} (x : Option (Entry T)) → latest_of (cons_option x []) ≡ x
      alone None = refl
      alone (Some e) = refl

      of_one : {T : Type 0} (field : DotFields → Option (Entry T)) → member_field (λ q. field (r.fields q)) r member ≡ field (r.fields dot)
      of_one field = ap (λ dots. latest_of (filter_map (λ q. field (r.fields q)) dots)) lone ∙ alone (field (r.fields dot))

-- ---- one dot

module _ (o : Operation) (k : Knowledge) (q : Dot) where
  -- where the operation doesn't assert it, it has the member that it had
  pub member_passed : asserts q o ≡ false → member_of (o ∷ k) q ≡ member_of k q
  member_passed h = member_both (o ∷ []) k q ∙ by (member_of (o ∷ []) q) (member_some (o ∷ []) q ∙ ap (λ b. b || false) h)
    where
      by : (x : Option Member) → is_some x ≡ false → option_or x (member_of k q) ≡ member_of k q
      by None none = refl
      by (Some m) none = absurd (true≢false none)

  -- a dot keeps its member if all dots that the operation asserts keep theirs
  pub member_kept : ((p : Dot × Member) → Contains (asserted_by o) p → member_of k p.0 ≡ Some p.1) → member_of (o ∷ k) q ≡ member_of k q
  member_kept same = member_both (o ∷ []) k q ∙ by (member_of (o ∷ []) q) refl
    where
      by : (x : Option Member) → member_of (o ∷ []) q ≡ x → option_or x (member_of k q) ≡ member_of k q
      by None e = refl
      by (Some m) e = sym (same (q, m) (subst (λ ps. Contains ps (q, m)) (append-nil (asserted_by o)) (member_in (o ∷ []) q m e)))

  -- if the operation asserts a dot, a field is the later one of what the operation sets and what it was
  pub field_said : {T : Type 0} (field : Field T) → asserts q o ≡ true → field_of field (o ∷ k) q ≡ join_of (field o) (field_of field k q)
  field_said field h = field_both field (o ∷ []) k q ∙ ap (λ x. join_of x (field_of field k q)) (field_asserted field o q h)

  -- where the operation doesn't assert it, all its fields are as they were
  pub fields_passed : asserts q o ≡ false → fields_in (o ∷ k) q ≡ fields_in k q
  fields_passed h = fields_right (o ∷ []) k q (ap (λ b. b || false) h)

-- ---- a member that the operation isn't about

module _ (o : Operation) (k : Knowledge) (member : Member) where
  -- A member has the row that it had where the operation asserts no dot that is its own, be it before or after, and names none that was.
  pub row_passed : ((q : Dot) → asserts q o ≡ true → IsOwn (dot_view (o ∷ k)) member q → ⊥) → ((q : Dot) → asserts q o ≡ true → IsOwn (dot_view k) member q → ⊥)
      → ((q : Dot) → IsOwn (dot_view k) member q → names q o ≡ false) → row_of (dot_view (o ∷ k)) member ≡ row_of (dot_view k) member
  row_passed after before spares =
      same_row (dot_view (o ∷ k)) (dot_view k) member (same_own (dot_view (o ∷ k)) (dot_view k) member (λ q own. was q own (passed_after q own)) (λ q own. is q own (passed_before q own)))
      (λ q here. fields_passed o k q (passed_after q (own_of (dot_view (o ∷ k)) member q here)))
    where
      passed_after : (q : Dot) → IsOwn (dot_view (o ∷ k)) member q → asserts q o ≡ false
      passed_after q own = elim (cases_Bool (asserts q o)) [ inl t ↦ absurd (after q t own) | inr f ↦ f ]

      passed_before : (q : Dot) → IsOwn (dot_view k) member q → asserts q o ≡ false
      passed_before q own = elim (cases_Bool (asserts q o)) [ inl t ↦ absurd (before q t own) | inr f ↦ f ]

      was : (q : Dot) → IsOwn (dot_view (o ∷ k)) member q → asserts q o ≡ false → IsOwn (dot_view k) member q
      was q own passed =
          let parts = visible_parts (o ∷ k) q own.visible in
          record {
            visible = visible_from k q (ap (λ b. b || is_asserted k q) (sym passed) ∙ parts.0) (or_parts (names q o) (is_named k q) parts.1).1;
            member = sym (member_passed o k q passed) ∙ own.member;
          }

      is : (q : Dot) → IsOwn (dot_view k) member q → asserts q o ≡ false → IsOwn (dot_view (o ∷ k)) member q
      is q own passed =
          let parts = visible_parts k q own.visible in
          record {
            visible = visible_from (o ∷ k) q (or_right (asserts q o) (is_asserted k q) parts.0) (or_from (names q o) (is_named k q) (spares q own) parts.1);
            member = member_passed o k q passed ∙ own.member;
          }
