-- Views that show alike have the same dots of each member, and the same rows.
use Rattle.std.proofs.Common.{◌≡◌, ℕ, Bool, true, false, cond, filter, List, [], ◌∷◌, Contains, Option, refl, sym, ap, ◌∙◌}
use Rattle.std.specs.List.{filter_map, cons_option}
use Rattle.std.specs.Option.{option_map, option_map_or, option_and_then}
use Rattle.std.specs.FinSet as set
use Rattle.std.specs.Ordering.{eq_by_cmp, is_eq}
use Rattle.std.proofs.lemmas.Cmp.{tied_itself}
use Rattle.dots.specs.declared.member.Member.{Member}
use Rattle.dots.specs.Values.{Dot}
use Rattle.dots.specs.Orders.{dot_cmp, member_cmp}
use Rattle.operations.specs.Registers.{Entry}
use Rattle.operations.specs.Knowledge.{latest_of}
use Rattle.operations.specs.Conditions.{DotFields}
use Rattle.operations.specs.Rows.{DotView, ShowAlike, is_of, dots_of, member_field, member_fields, row_of_fields, row_if, row_of, interface_in, interfaces_of, rows_of}
use Rattle.general_lemmas.specs.SetItems.{in_order}
use Rattle.dots.proofs.DotOrder.{dots_total}
use Rattle.general_lemmas.proofs.ItemOrder.{in_order_has}
use Rattle.general_lemmas.proofs.Membership.{first_in, later_in, any_in}
use Rattle.general_lemmas.proofs.Filters.{filter_in}

-- what two functions leave of a list is the same where they are the same on its elements
pub filter_same : {X : Type 0} (p q : X → Bool) (xs : List X) → ((x : X) → Contains xs x → p x ≡ q x) → filter p xs ≡ filter q xs
filter_same p q [] same = refl
filter_same p q (x ∷ xs) same = λ i. let rest = filter_same p q xs (λ y here. same y (later_in x xs y here)) i in cond (same x (first_in x xs) i) (x ∷ rest) rest

pub filter_map_same : {X Y : Type 0} (f g : X → Option Y) (xs : List X) → ((x : X) → Contains xs x → f x ≡ g x) → filter_map f xs ≡ filter_map g xs
filter_map_same f g [] same = refl
filter_map_same f g (x ∷ xs) same = λ i. cons_option (same x (first_in x xs) i) (filter_map_same f g xs (λ y here. same y (later_in x xs y here)) i)

-- what is listed of a set is in it
pub listed_in : (s : set.FinSet dot_cmp) (dot : Dot) → Contains (in_order s) dot → set.contains s dot ≡ true
listed_in s dot here = sym (in_order_has dots_total s dot) ∙ any_in (eq_by_cmp dot_cmp dot) (in_order s) dot here (ap is_eq (tied_itself dots_total dot))

-- a dot of a member is visible
pub own_visible : (r : DotView) (member : Member) (dot : Dot) → Contains (dots_of r member) dot → set.contains r.visible dot ≡ true
own_visible r member dot here = listed_in r.visible dot (filter_in (is_of r member) (in_order r.visible) dot here)

pub same_dots : (r s : DotView) → ShowAlike r s → (member : Member) → dots_of r member ≡ dots_of s member
same_dots r s alike member =
    filter_same (is_of r member) (is_of s member) (in_order r.visible) (λ dot here. ap (λ o. option_map_or (eq_by_cmp member_cmp member) o false) (alike.member dot (listed_in r.visible dot here)))
    ∙ ap (λ v. filter (is_of s member) (in_order v)) alike.visible

same_member_field : {T : Type 0} (f g : Dot → Option (Entry T)) (r s : DotView) → ShowAlike r s → ((dot : Dot) → set.contains r.visible dot ≡ true → f dot ≡ g dot)
    → (member : Member) → member_field f r member ≡ member_field g s member
same_member_field f g r s alike same member =
    ap latest_of (filter_map_same f g (dots_of r member) (λ dot here. same dot (own_visible r member dot here)) ∙ ap (filter_map g) (same_dots r s alike member))

same_member_fields : (r s : DotView) → ShowAlike r s → (member : Member) → member_fields r member ≡ member_fields s member
same_member_fields r s alike member = λ i. record {
  penalty = same (λ f. f.penalty) i;
  pause = same (λ f. f.pause) i;
  label = same (λ f. f.label) i;
  ring = same (λ f. f.ring) i;
}
  where
    same : {T : Type 0} (field : DotFields → Option (Entry T)) → member_field (λ dot. field (r.fields dot)) r member ≡ member_field (λ dot. field (s.fields dot)) s member
    same field = same_member_field (λ dot. field (r.fields dot)) (λ dot. field (s.fields dot)) r s alike (λ dot visible. ap field (alike.fields dot visible)) member

pub same_row : (r s : DotView) → ShowAlike r s → (member : Member) → row_of r member ≡ row_of s member
same_row r s alike member = λ i. row_if (same_dots r s alike member i) (row_of_fields (same_member_fields r s alike member i))

same_interfaces : (r s : DotView) → ShowAlike r s → (queue : ℕ) → interfaces_of r queue ≡ interfaces_of s queue
unfolding interfaces_of
same_interfaces r s alike queue =
    ap set.from_list
    (filter_map_same (λ dot. option_and_then (interface_in queue) (r.member dot)) (λ dot. option_and_then (interface_in queue) (s.member dot)) (in_order r.visible)
    (λ dot here. ap (option_and_then (interface_in queue)) (alike.member dot (listed_in r.visible dot here)))
    ∙ ap (λ v. filter_map (λ dot. option_and_then (interface_in queue) (s.member dot)) (in_order v)) alike.visible)

pub same_rows : (r s : DotView) → ShowAlike r s → (queue : ℕ) → rows_of r queue ≡ rows_of s queue
same_rows r s alike queue = λ i. filter_map (λ interface. option_map (λ row. (interface, row)) (same_row r s alike (record { queue = queue; interface = interface }) i)) (in_order (same_interfaces r s alike queue i))
