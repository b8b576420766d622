-- Which dots are asserted, named and visible, operation by operation.
use Rattle.std.proofs.Common.{◌≡◌, Bool, true, false, cond, not, ◌&&◌, ◌||◌, List, [], ◌∷◌, ◌++◌, Option, Some, None, is_some, option_map, T, filter, refl, sym, ap, ◌∙◌}
use Rattle.std.specs.List.{list_any, find}
use Rattle.std.specs.List.Sorted.{IsStrictlySortedBy}
use Rattle.std.specs.BTreeSet.{insert_key}
use Rattle.std.specs.FinMap as map
use Rattle.std.specs.FinSet as set
use Rattle.std.proofs.lemmas.Cmp.{eq_by_cmp_equiv}
use Rattle.std.proofs.lemmas.List.Kept.{IsStrictlySortedBy-filter}
use Rattle.std.proofs.lemmas.Map.Made.{is_member-filter}
use Rattle.dots.specs.declared.member.Member.{Member}
use Rattle.dots.specs.Values.{Dot}
use Rattle.dots.specs.Orders.{dot_cmp}
use Rattle.operations.specs.Operations.{Operation, asserted_by, named_by}
use Rattle.operations.specs.Knowledge.{Knowledge, is_dot, asserts, names, is_asserted, is_named, all_asserted, member_of, visible_dots}
use Rattle.general_lemmas.specs.SetItems.{in_order}
use Rattle.dots.proofs.DotOrder.{dots_total, dots_exact}
use Rattle.general_lemmas.proofs.ItemOrder.{units, in_order_list}
use Rattle.general_lemmas.proofs.Membership.{some_find}
use Rattle.operations.proofs.VisibleLaws.{visible_dot}
use Rattle.general_lemmas.proofs.TruthTables.{equal_of, truth}
use Rattle.reference_model.proofs.SetSteps.{any_insert, rises, each_itself}

-- ---- one operation
pub names_is : (dot : Dot) (o : Operation) (dots : List Dot) → set.from_list dots ≡ named_by o → list_any (is_dot dot) dots ≡ names dot o
names_is dot o dots e = sym (set.contains-from_list dots_total dots dot) ∙ ap (λ s. set.contains s dot) e

is_some_map : {A B : Type 0} (f : A → B) (x : Option A) → is_some (option_map f x) ≡ is_some x
is_some_map f None = refl
is_some_map f (Some a) = refl

-- a dot is asserted where it has a member
pub asserts_is : {A : Type 0} (see : A → Member) (dot : Dot) (o : Operation) (r : Option A) → option_map see r ≡ option_map (λ p. p.1) (find (λ p. is_dot dot p.0) (asserted_by o)) → is_some r ≡ asserts dot o
asserts_is see dot o r h =
    let test : Dot × Member → Bool = λ p. is_dot dot p.0 in
    let member : Dot × Member → Member = λ p. p.1 in
    sym (is_some_map see r) ∙ ap is_some h ∙ is_some_map member (find test (asserted_by o)) ∙ some_find test (asserted_by o)

-- a set of dots with one dot more
pub one_dot_more : (q dot : Dot) (old new : List Dot) → new ≡ insert_key dot_cmp old dot → list_any (is_dot q) new ≡ (list_any (is_dot q) old || is_dot q dot)
one_dot_more q dot old new e = ap (list_any (is_dot q)) e ∙ any_insert dot_cmp dots_total q dot old

-- ---- the member of a dot
or_else : {A : Type 0} → Option A → Option A → Option A
or_else None y = y
or_else (Some x) y = Some x

module _ (test : Dot × Member → Bool) where
  found : List (Dot × Member) → Option Member
  found ps = option_map (λ p. p.1) (find test ps)

  found_both : (xs ys : List (Dot × Member)) → found (xs ++ ys) ≡ or_else (found xs) (found ys)
  unfolding found or_else
  found_both [] ys = refl
  found_both (x ∷ xs) ys =
      let rest = found_both xs ys in
      elim (test x) as (λ b. option_map (λ p. p.1) (cond b (Some x) (find test (xs ++ ys))) ≡ or_else (option_map (λ p. p.1) (cond b (Some x) (find test xs))) (found ys)) [ true ↦ refl | false ↦ rest ]

pub member_first : (o : Operation) (k : Knowledge) (dot : Dot) (m : Member) → Some m ≡ option_map (λ p. p.1) (find (λ p. is_dot dot p.0) (asserted_by o)) → Some m ≡ member_of (o ∷ k) dot
unfolding found or_else
member_first o k dot m h =
    let test : Dot × Member → Bool = λ p. is_dot dot p.0 in
    ap (λ r. or_else r (found test (all_asserted k))) h ∙ sym (found_both test (asserted_by o) (all_asserted k))

pub member_later : (o : Operation) (k : Knowledge) (dot : Dot) → None ≡ option_map (λ p. p.1) (find (λ p. is_dot dot p.0) (asserted_by o)) → member_of k dot ≡ member_of (o ∷ k) dot
unfolding found or_else
member_later o k dot h =
    let test : Dot × Member → Bool = λ p. is_dot dot p.0 in
    ap (λ r. or_else r (found test (all_asserted k))) h ∙ sym (found_both test (asserted_by o) (all_asserted k))

-- ---- the visible dots

-- the asserted dots in order, without those that are named, are the visible ones in order
pub visible_list : (k : Knowledge) (found listed : List Dot) → ((dot : Dot) → list_any (is_dot dot) found ≡ is_asserted k dot) → IsStrictlySortedBy dot_cmp found
    → listed ≡ filter (λ d. not (is_named k d)) found → listed ≡ in_order (visible_dots k)
visible_list k found listed has sorted is =
    let unnamed : Dot → Bool = λ d. not (is_named k d) in
    let kept = filter unnamed found in
    let rising : T (map.is_sorted dot_cmp (units kept)) =
    truth (map.is_sorted dot_cmp (units kept)) (ap (λ ds. map.is_sorted dot_cmp (units ds)) (sym (each_itself kept)) ∙ rises dot_cmp (λ d. d) kept (IsStrictlySortedBy-filter dot_cmp unnamed found sorted)) in
    is
    ∙ sym (in_order_list dots_total dots_exact (visible_dots k) kept rising (λ q.
    visible_dot k q
    ∙ ap (λ b. b && not (is_named k q)) (sym (has q))
    ∙ sym (is_member-filter (eq_by_cmp_equiv dots_total) unnamed q (λ x e. ap unnamed (dots_exact q x (equal_of (dot_cmp q x) e))) found)))
