-- What a knowledge within the limits of operations has.
use Rattle.std.proofs.Common.{◌≡◌, true, Contains, Option, Some, None, refl, sym, ap, subst, ◌∙◌, true≢false}
use Rattle.std.specs.List.{find}
use Rattle.std.specs.Option.{option_map}
use Rattle.std.specs.FinSet as set
use Rattle.std.specs.Ordering.{is_eq}
use Rattle.std.specs.declared.cmp.Ordering.{Ordering}
use Rattle.std.specs.declared.cmp.Ordering.TheVariants.{Less, Equal, Greater}
use Rattle.dots.specs.declared.member.Member.{Member}
use Rattle.dots.specs.Values.{Dot}
use Rattle.dots.specs.Orders.{dot_cmp}
use Rattle.operations.specs.Operations.{Operation, Add, Write, Remove, Count, asserted_by}
use Rattle.operations.specs.Knowledge.{Knowledge, all_asserted, asserts, is_asserted, is_dot, is_named, member_of, names}
use Rattle.dots.specs.WithinLimits.{IsDot, IsMember}
use Rattle.operations.specs.OperationLimits.{AreWithinLimits, IsWithinLimits}
use Rattle.dots.proofs.DotOrder.{dots_exact}
use Rattle.general_lemmas.proofs.Membership.{in_any, in_find, in_part, nothing_in, only_in}

equal_of : (o : Ordering) → is_eq o ≡ true → o ≡ Equal
equal_of Less h = absurd (true≢false (sym h))
equal_of Equal h = refl
equal_of Greater h = absurd (true≢false (sym h))

-- a test for a dot passes that dot alone
pub one_dot : (a b : Dot) → is_dot a b ≡ true → a ≡ b
one_dot a b h = dots_exact a b (equal_of (dot_cmp a b) h)

-- what an operation asserts
asserted_is : (o : Operation) → IsWithinLimits o → (dot : Dot) (member : Member) → Contains (asserted_by o) (dot, member) → IsDot dot × IsMember member
asserted_is (Add made held stamp penalty pause label older) h dot member here =
    let e = only_in (made, held) (dot, member) here in (subst IsDot (ap (λ p. p.0) e) h.dot_is, subst IsMember (ap (λ p. p.1) e) h.member_is)
asserted_is (Write dots setting stamp older) h dot member here = h.dots_are dot member here
asserted_is (Remove dots) h dot member here = absurd (nothing_in (dot, member) here)
asserted_is (Count site queue calls total) h dot member here = absurd (nothing_in (dot, member) here)

-- what it names
named_is : (o : Operation) → IsWithinLimits o → (dot : Dot) → names dot o ≡ true → IsDot dot
named_is (Add made held stamp penalty pause label older) h dot e = h.older_are dot e
named_is (Write dots setting stamp older) h dot e = h.older_are dot e
named_is (Remove dots) h dot e = h dot e
named_is (Count site queue calls total) h dot e = absurd (true≢false (sym e ∙ set.contains-empty dot_cmp dot))

-- all dots that are asserted, with their members
pub asserted_in : (k : Knowledge) → AreWithinLimits k → (dot : Dot) (member : Member) → Contains (all_asserted k) (dot, member) → IsDot dot × IsMember member
asserted_in k within dot member here = let o = in_part asserted_by k (dot, member) here in asserted_is o.0 (within o.0 o.1) dot member o.2

-- a dot that is asserted
pub asserted_dot_is : (k : Knowledge) → AreWithinLimits k → (dot : Dot) → is_asserted k dot ≡ true → IsDot dot
asserted_dot_is k within dot h =
    let o = in_any (asserts dot) k h in
    let p = in_any (λ p. is_dot dot p.0) (asserted_by o.0) o.2 in
    subst IsDot (sym (one_dot dot p.0.0 p.2)) (asserted_is o.0 (within o.0 o.1) p.0.0 p.0.1 p.1).0

-- one that is named
pub named_dot_is : (k : Knowledge) → AreWithinLimits k → (dot : Dot) → is_named k dot ≡ true → IsDot dot
named_dot_is k within dot h = let o = in_any (names dot) k h in named_is o.0 (within o.0 o.1) dot o.2

-- a dot with its member
pub member_of_is : (k : Knowledge) → AreWithinLimits k → (dot : Dot) (member : Member) → member_of k dot ≡ Some member → IsDot dot × IsMember member
member_of_is k within dot member h = by (find (λ p. is_dot dot p.0) (all_asserted k)) refl h
  where
    by : (o : Option (Dot × Member)) → find (λ p. is_dot dot p.0) (all_asserted k) ≡ o → option_map (λ p. p.1) o ≡ Some member → IsDot dot × IsMember member
    by None e h = absurd (cc)
    by (Some p) e h =
        let found = in_find (λ p. is_dot dot p.0) (all_asserted k) p e in
        let is = asserted_in k within p.0 p.1 found.0 in
        let same : p.1 ≡ member = cc in
        (subst IsDot (sym (one_dot dot p.0 found.1)) is.0, subst IsMember same is.1)
