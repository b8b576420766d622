-- What a knowledge asserts, and of which member its dots are.
use Rattle.std.proofs.Common.{◌≡◌, ◌<◌, nat_eq, nat_lt, true, false, ◌&&◌, List, Contains, Option, Some, None, is_some, refl, sym, ap, subst, ◌∙◌, true≢false, arith}
use Rattle.std.specs.Ordering.{is_eq}
use Rattle.std.proofs.lemmas.Cmp.{tied_itself}
use Rattle.std.proofs.lemmas.Bool.Decides.{nat_tests}
use Rattle.dots.specs.declared.member.Member.{Member}
use Rattle.dots.specs.Values.{Dot}
use Rattle.dots.specs.DotSets.{is_older}
use Rattle.dots.specs.Orders.{dot_cmp}
use Rattle.operations.specs.Operations.{Operation, asserted_by}
use Rattle.operations.specs.Knowledge.{Knowledge, all_asserted, asserts, is_asserted, is_dot, member_of}
use Rattle.dots.proofs.DotOrder.{dots_exact, dots_total}
use Rattle.operations.proofs.JoinedKnowledge.{member_in, member_some}
use Rattle.general_lemmas.proofs.Membership.{any_in, in_any, in_part, part_in}
use Rattle.general_lemmas.proofs.TruthTables.{equal_of}

-- ---- what is asserted

-- an operation asserts the dots of its pairs
pub asserts_in : (o : Operation) (dot : Dot) (m : Member) → Contains (asserted_by o) (dot, m) → asserts dot o ≡ true
asserts_in o dot m here = any_in (λ p. is_dot dot p.0) (asserted_by o) (dot, m) here (ap is_eq (tied_itself dots_total dot))

-- a dot that a knowledge's list asserts is asserted by the knowledge
pub is-asserted : (k : Knowledge) (dot : Dot) (m : Member) → Contains (all_asserted k) (dot, m) → is_asserted k dot ≡ true
is-asserted k dot m here =
    let o = in_part asserted_by k (dot, m) here in any_in (asserts dot) k o.0 o.1 (asserts_in o.0 dot m o.2)

-- a dot that is asserted stands in a pair
pub pair_of : (k : Knowledge) (dot : Dot) → is_asserted k dot ≡ true → (m : Member) × Contains (all_asserted k) (dot, m)
pair_of k dot is =
    let o = in_any (asserts dot) k is in
    let p = in_any (λ q. is_dot dot q.0) (asserted_by o.0) o.2 in
    let same : dot ≡ p.0.0 = dots_exact dot p.0.0 (equal_of (dot_cmp dot p.0.0) p.2) in
    (p.0.1, part_in asserted_by k o.0 (dot, p.0.1) o.1 (subst (λ d. Contains (asserted_by o.0) (d, p.0.1)) (sym same) p.1))

-- ---- members

-- where a dot is of one member, `member_of` gives that member
pub member_is : (k : Knowledge) (dot : Dot) (m : Member) → Contains (all_asserted k) (dot, m)
    → ((n : Member) → Contains (all_asserted k) (dot, n) → n ≡ m) → member_of k dot ≡ Some m
member_is k dot m here one = by (member_of k dot) refl (member_some k dot ∙ is-asserted k dot m here)
  where
    by : (o : Option Member) → member_of k dot ≡ o → is_some o ≡ true → member_of k dot ≡ Some m
    by None e some = absurd (true≢false (sym some))
    by (Some n) e some = e ∙ ap Some (one n (member_in k dot n e))

-- ---- older dots

-- a dot of the site of one of these, with a lesser count, is older
pub older_than : (dots : List Dot) (dot earlier : Dot) → Contains dots dot → earlier.site ≡ dot.site → earlier.count < dot.count → is_older dots earlier ≡ true
older_than dots dot earlier here site less = any_in (λ d. nat_eq d.site earlier.site && nat_lt earlier.count d.count) dots dot here (grind (arith, nat_tests, site, less))
