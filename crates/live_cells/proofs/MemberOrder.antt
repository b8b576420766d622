-- The order of members, and of listed dots by their members.
use Rattle.std.proofs.Common.{◌≡◌, ◌⊎◌, inl, inr, ◌<◌, ◌≤◌, Bool, true, false, cond, nat_eq, refl, sym, ap, ◌∙◌, arith}
use Rattle.std.specs.Prelude.{nat_lt}
use Rattle.std.specs.Ordering.{eq_by_cmp, is_eq, is_le, is_lt, nat_cmp, ordering_reverse, ordering_then}
use Rattle.std.specs.declared.cmp.Ordering.{Ordering}
use Rattle.std.specs.declared.cmp.Ordering.TheVariants.{Less, Equal, Greater}
use Rattle.std.proofs.lemmas.Bool.{cases_Bool}
use Rattle.std.proofs.lemmas.Bool.Decides.{nat_tests}
use Rattle.std.proofs.lemmas.Cmp.{nat_cmp_total, tied_itself}
use Rattle.dots.specs.declared.member.Member.{Member}
use Rattle.dots.specs.Orders.{dot_cmp, member_cmp, text_cmp}
use Rattle.dots.proofs.MemberOrder.{members_total, exact_members}
use Rattle.general_lemmas.proofs.TruthTables.{less_of, equal_of}
use Rattle.live_cells.specs.Index.{Listed}
use Rattle.live_cells.specs.Index.{listed_cmp}
use Rattle.live_cells.specs.ShownRows.{is_own}

pub one_member : (m n : Member) → eq_by_cmp member_cmp m n ≡ true → m ≡ n
one_member m n h = exact_members m n (equal_of _ h)

pub member_itself : (m : Member) → eq_by_cmp member_cmp m m ≡ true
member_itself m = ap is_eq (tied_itself members_total m)

-- one that lies before another that doesn't lie past a third lies before the third
pub less_upto : (a b m : Member) → member_cmp a b ≡ Less → is_le (member_cmp b m) ≡ true → member_cmp a m ≡ Less
less_upto a b m l h = split (member_cmp b m) refl h
  where
    split : (o : Ordering) → member_cmp b m ≡ o → is_le o ≡ true → member_cmp a m ≡ Less
    split Less e k = members_total.trans a b m l e
    split Equal e k = ap (member_cmp a) (sym (exact_members b m e)) ∙ l
    split Greater e k = absurd (cc)

-- of two members of which one lies before the other, that one has the lesser queue, or the same and the lesser interface
pub less_parts : (a b : Member) → member_cmp a b ≡ Less → (a.queue < b.queue) ⊎ ((a.queue ≡ b.queue) × (text_cmp a.interface b.interface ≡ Less))
less_parts a b h = split (nat_lt a.queue b.queue) (nat_eq a.queue b.queue) refl refl h
  where
    split : (p q : Bool) → nat_lt a.queue b.queue ≡ p → nat_eq a.queue b.queue ≡ q → ordering_then (cond p Less (cond q Equal Greater)) (text_cmp a.interface b.interface) ≡ Less
        → (a.queue < b.queue) ⊎ ((a.queue ≡ b.queue) × (text_cmp a.interface b.interface ≡ Less))
    split true q e f h = inl (grind (arith, nat_tests, e))
    split false true e f h = inr (grind (arith, nat_tests, f), h)
    split false false e f h = absurd (cc)

-- one that doesn't lie before another has no lesser queue, and in its queue no lesser interface
pub queue_not_less : (a b : Member) → is_lt (member_cmp b a) ≡ false → a.queue ≤ b.queue
queue_not_less a b h = elim (cases_Bool (nat_lt b.queue a.queue)) [
  | inl t ↦ absurd (let x = ap (λ p. is_lt (ordering_then (cond p Less (cond (nat_eq b.queue a.queue) Equal Greater)) (text_cmp b.interface a.interface))) (sym t) ∙ h in cc)
  | inr f ↦ grind (arith, nat_tests, f)
]

pub interface_not_less : (a b : Member) → a.queue ≡ b.queue → is_lt (member_cmp b a) ≡ false → is_lt (text_cmp b.interface a.interface) ≡ false
interface_not_less a b e h =
    ap (λ o. is_lt (ordering_then o (text_cmp b.interface a.interface))) (sym (ap (nat_cmp b.queue) e ∙ tied_itself nat_cmp_total b.queue)) ∙ h

-- of two listed dots of which one lies before the other, the members do so too, or are one
pub by_members : (a b : Listed) → is_lt (listed_cmp a b) ≡ true → (member_cmp a.member b.member ≡ Less) ⊎ (a.member ≡ b.member)
by_members a b h = split (member_cmp a.member b.member) refl h
  where
    split : (o : Ordering) → member_cmp a.member b.member ≡ o → is_lt (ordering_then o (dot_cmp a.dot b.dot)) ≡ true → (member_cmp a.member b.member ≡ Less) ⊎ (a.member ≡ b.member)
    split Less e k = inl e
    split Equal e k = inr (exact_members a.member b.member e)
    split Greater e k = absurd (cc)

-- of two listed dots of one member, the dots are in the order of their entries
pub by_dots : (a b : Listed) → a.member ≡ b.member → is_lt (listed_cmp a b) ≡ true → is_lt (dot_cmp a.dot b.dot) ≡ true
by_dots a b e h = ap (λ o. is_lt (ordering_then o (dot_cmp a.dot b.dot))) (sym (ap (member_cmp a.member) (sym e) ∙ tied_itself members_total a.member)) ∙ h

-- whether an entry is of a member, by how its member lies to that one
own_turned : (m : Member) (l : Listed) → is_own m l ≡ is_eq (ordering_reverse (member_cmp l.member m))
own_turned m l = ap is_eq (members_total.antisymm m l.member)

pub own_before : (m : Member) (l : Listed) → is_lt (member_cmp l.member m) ≡ true → is_own m l ≡ false
own_before m l h = own_turned m l ∙ ap (λ o. is_eq (ordering_reverse o)) (less_of _ h)

pub own_between : (m : Member) (l : Listed) → is_lt (member_cmp l.member m) ≡ false → is_le (member_cmp l.member m) ≡ true → is_own m l ≡ true
own_between m l h k = own_turned m l ∙ split (member_cmp l.member m) h k
  where
    split : (o : Ordering) → is_lt o ≡ false → is_le o ≡ true → is_eq (ordering_reverse o) ≡ true
    split Less h k = absurd (cc)
    split Equal h k = refl
    split Greater h k = absurd (cc)

pub own_past : (m : Member) (l : Listed) → is_le (member_cmp l.member m) ≡ false → is_own m l ≡ false
own_past m l h = own_turned m l ∙ split (member_cmp l.member m) h
  where
    split : (o : Ordering) → is_le o ≡ false → is_eq (ordering_reverse o) ≡ false
    split Less h = absurd (cc)
    split Equal h = absurd (cc)
    split Greater h = refl
