-- A set of members that knows no dot: its join with any other is never refused, and changes nothing.
use Rattle.std.proofs.Common.{◌≡◌, ◌<◌, Bool, true, false, ◌&&◌, Option, Some, None, is_some, Result, Ok, Err, refl, sym, ap, subst, ◌∙◌, arith}
use Rattle.std.specs.FinMap as map
use Rattle.std.specs.FinSet as set
use Rattle.dots.specs.declared.limits.TheConstants.{MOST_LIVE, MOST_RUNS}
use Rattle.dots.specs.Values.{Dot}
use Rattle.dots.specs.Orders.{dot_cmp}
use Rattle.dots.specs.DotSets.{run_count}
use Rattle.operations.specs.Conditions.{Condition, Live, Dead, ConditionsAgree, condition_joined}
use Rattle.operations.proofs.ConditionLaws.{agrees_with_none, unknown_is_neutral}
use Rattle.dots.proofs.DotOrder.{dots_exact}
use Rattle.dots.proofs.KeySets.{len_of_keys}
use Rattle.dots.proofs.Unions.{union_empty}
use Rattle.member_orset.specs.declared.join_fault.JoinFault.{JoinFault}
use Rattle.member_orset.specs.Members.{Members, Holding, IsWithinLimits, SetsAgree, SetsInConflict, ConditionsInConflict, both_joined, cells_joined, condition_at, condition_of, is_live, joined_dots, runs_joined}
use Rattle.member_orset.specs.Refusals.{IsRefusedJoin}

-- a call that is done
abbrev done : Result (Unit {0}) JoinFault
done = Ok tt

-- a dot that isn't known isn't live
none_live : (s : Members) → IsWithinLimits s → (q : Dot) → set.contains s.known q ≡ false → map.get s.live q ≡ None
none_live s within q h = by (map.get s.live q) refl
  where
    by : (o : Option Holding) → map.get s.live q ≡ o → map.get s.live q ≡ None
    by None e = e
    by (Some held) e = absurd (let known = (within.held q held e).known in cc)

module _ (t : Members) (within : IsWithinLimits t) (nothing : t.known ≡ set.empty) where
  not_known : (q : Dot) → set.contains t.known q ≡ false
  not_known q = ap (λ s. set.contains s q) nothing ∙ set.contains-empty dot_cmp q

  -- nothing is said of any dot
  pub unknown : (q : Dot) → condition_of t q ≡ None
  unknown q = (λ i. condition_at (none_live t within q (not_known q) i) (not_known q i))

  module _ (s : Members) (limits : IsWithinLimits s) where
    pub union_is : set.union s.known t.known ≡ s.known
    union_is = ap (set.union s.known) nothing ∙ union_empty s.known

    -- the other joined with it stays as it is, and knows the same dots
    pub joined_nothing : (q : Dot) → condition_of s q ≡ both_joined s t q
    joined_nothing q = sym (ap (condition_joined (condition_of s q)) (unknown q) ∙ (unknown_is_neutral (condition_of s q)).1)

    live_test : (o : Option Holding) (known : Bool) → ((h : Holding) → o ≡ Some h → known ≡ true) → (known && is_live (condition_at o known)) ≡ is_some o
    live_test (Some h) true f = refl
    live_test (Some h) false f = absurd (let e = f h refl in cc)
    live_test None true f = refl
    live_test None false f = refl

    as_many : cells_joined s t ≡ map.len s.live
    unfolding joined_dots
    as_many = len_of_keys s.live (joined_dots s t) (λ q.
        set.contains-retain (set.union s.known t.known) (λ d. is_live (both_joined s t d)) q (λ x h. ap (λ d. is_live (both_joined s t d)) (sym (dots_exact q x h)))
        ∙ (λ i. set.contains (union_is i) q && is_live (sym (joined_nothing q) i))
        ∙ live_test (map.get s.live q) (set.contains s.known q) (λ h e. (limits.held q h e).known))

    no_conflict : SetsInConflict s t → ⊥
    no_conflict c = with_none (condition_of s c.dot) (subst (ConditionsInConflict (condition_of s c.dot)) (unknown c.dot) c.conflict)
      where
        with_none : (x : Option Condition) → ConditionsInConflict x None → ⊥
        with_none None h = h
        with_none (Some Dead) h = h
        with_none (Some (Live m f)) h = h

    -- an empty set agrees with every other
    pub agrees : SetsAgree s t
    agrees q = subst (ConditionsAgree (condition_of s q)) (sym (unknown q)) (agrees_with_none (condition_of s q))

    few_cells : MOST_LIVE < cells_joined s t → ⊥
    few_cells many = omega (arith, many, as_many, limits.cells)

    few_runs : MOST_RUNS < runs_joined s t → ⊥
    few_runs h = omega (arith, h, ap run_count union_is, limits.runs)

    -- the join of an empty set isn't refused
    pub not_refused : IsRefusedJoin s t (λ fault. done ≡ Err fault)
    not_refused = record {
      conflict = (λ h. (cc), λ h. absurd (no_conflict h));
      cells_full = (λ h. (cc), λ h. absurd (few_cells h.1));
      runs_full = (λ h. (cc), λ h. absurd (few_runs h.2));
    }
