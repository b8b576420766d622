-- Whether some dot is live with a member, by the index of the live dots.
use Rattle.std.proofs.Common.{◌≡◌, ◌↔◌, true, false, List, Option, Some, None, sym, ap, ◌∙◌}
use Rattle.std.specs.Prelude.{IsTrue}
use Rattle.std.specs.List.{list_any}
use Rattle.std.specs.Option.{option_map, option_map_or}
use Rattle.std.specs.FinMap as maps
use Rattle.std.specs.Ordering.{eq_by_cmp}
use Rattle.std.specs.Cmp.{tied_then}
use Rattle.std.proofs.lemmas.Bool.{and_from, and_parts}
use Rattle.dots.specs.declared.member.Member.{Member}
use Rattle.operations.specs.Conditions.{DotFields}
use Rattle.dots.specs.Orders.{dot_cmp, member_cmp}
use Rattle.general_lemmas.proofs.Membership.{any_in, in_any}
use Rattle.live_cells.specs.Index.{Listed}
use Rattle.live_cells.specs.Index.{IsIndex, listed_cmp}
use Rattle.live_cells.specs.ShownRows.{is_own}
use Rattle.live_cells.proofs.DotTests.{same_itself}
use Rattle.live_cells.proofs.MemberOrder.{member_itself, one_member}
use Rattle.live_cells.specs.Holdings.{Holding, IsPresentIn}

-- what is held under a member is of it
held_is : (m : Member) (o : Option Holding) → option_map_or (eq_by_cmp member_cmp m) (option_map (λ h. h.0) o) false ≡ true → (f : DotFields) × (o ≡ Some (m, f))
held_is m None t = absurd (cc)
held_is m (Some h) t = (h.1, ap (λ n. Some (n, h.1)) (sym (one_member m h.0 t)))

pub presence : (live : maps.FinMap dot_cmp Holding) (index : List Listed) (m : Member) → IsIndex index live → IsTrue (list_any (is_own m) index) ↔ IsPresentIn live m
presence live index m is = (
  λ t.
      let own = in_any (is_own m) index t in
      let listed = any_in (eq_by_cmp listed_cmp (record { member = m; dot = own.0.dot })) index own.0 own.1
      (sym (tied_then (member_cmp m own.0.member) (dot_cmp own.0.dot own.0.dot)) ∙ and_from (is_own m own.0) (eq_by_cmp dot_cmp own.0.dot own.0.dot) own.2 (same_itself own.0.dot)) in
      let held = held_is m (maps.get live own.0.dot) (sym (is.lists m own.0.dot) ∙ listed) in
      record { dot = own.0.dot; fields = held.0; live = held.1 },
  λ p.
      let listed = in_any (eq_by_cmp listed_cmp (record { member = m; dot = p.dot })) index
      (is.lists m p.dot ∙ ap (λ o. option_map_or (eq_by_cmp member_cmp m) (option_map (λ h. h.0) o) false) p.live ∙ member_itself m) in
      any_in (is_own m) index listed.0 listed.1
      (and_parts (is_own m listed.0) (eq_by_cmp dot_cmp p.dot listed.0.dot) (tied_then (member_cmp m listed.0.member) (dot_cmp p.dot listed.0.dot) ∙ listed.2)).0,
)
