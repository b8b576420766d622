-- What deltas stand for.
use Rattle.std.proofs.Common.{◌≡◌, ◌↔◌, Bool, true, false, not, ◌&&◌, ◌||◌, [], ◌++◌, Option, Some, None, is_some, if◌then◌else◌, refl, sym, ap, subst, ◌∙◌}
use Rattle.std.specs.Option.{option_map}
use Rattle.std.specs.FinMap as map
use Rattle.std.specs.FinSet as set
use Rattle.dots.specs.declared.member.Member.{Member}
use Rattle.dots.specs.Values.{Dot}
use Rattle.dots.specs.DotSets.{run_count}
use Rattle.operations.specs.Conditions.{Live, Dead, ConditionsAgree, condition_in, condition_joined, fields_in}
use Rattle.operations.specs.Knowledge.{Knowledge, IsConsistent, SameOperations, is_asserted, is_named, known_dots, member_of, visible_dots}
use Rattle.operations.specs.Totals.{totals_of}
use Rattle.operations.specs.Traces.{LeaveTraces}
use Rattle.dots.proofs.DotOrder.{dots_exact, dots_total}
use Rattle.operations.proofs.JoinedKnowledge.{condition_both, conditions_agree, known_both, member_some}
use Rattle.dots.proofs.KeySets.{len_of_keys}
use Rattle.operations.proofs.KnownLaws.{known_dot}
use Rattle.operations.proofs.StandingJoins.{represents_both, represents_none, represents_same}
use Rattle.operations.proofs.StandingLaws.{represents_one}
use Rattle.operations.proofs.TraceLaws.{traces_none}
use Rattle.operations.proofs.VisibleLaws.{visible_dot}
use Rattle.member_orset.specs.Members.{Holding, both_joined, cells_joined, condition_at, condition_of, is_live, joined_dots, runs_joined}
use Rattle.delta.specs.DeltaStates.{DeltaState, IsEmpty, IsSame}
use Rattle.delta.specs.Joining.{DeltasAgree, IsJoinOf}
use Rattle.delta.specs.Standing.{IsDeltaOf}

pub one_delta : (x y : DeltaState) (k : Knowledge) → IsDeltaOf x k → IsDeltaOf y k → IsSame x y
one_delta x y k r s =
    let one = represents_one (condition_of x.members) (condition_of y.members) x.members.known y.members.known x.totals.entries y.totals.entries k r s in
    record { conditions = one.conditions; known = one.dots; totals = one.totals_are }

pub same_stands : (x y : DeltaState) (k : Knowledge) → IsSame x y → IsDeltaOf x k → IsDeltaOf y k
same_stands x y k same r = record {
  conditions = λ dot. sym (same.conditions dot) ∙ r.conditions dot;
  dots = sym same.known ∙ r.dots;
  totals = λ site queue. ap (λ e. totals_of e site queue) (sym same.totals) ∙ r.totals site queue;
  no_zeros = λ key p e. r.no_zeros key p (ap (λ m. map.get m key) same.totals ∙ e);
}

pub same_operations : (x : DeltaState) (k l : Knowledge) → IsConsistent k → SameOperations k l → IsDeltaOf x k → IsDeltaOf x l
same_operations x k l = represents_same (condition_of x.members) x.members.known x.totals.entries k l

pub consistent_agree : (x y : DeltaState) (k l : Knowledge) → IsConsistent (k ++ l) → IsDeltaOf x k → IsDeltaOf y l → DeltasAgree x y
consistent_agree x y k l one r s dot =
    subst (λ c. ConditionsAgree c (condition_of y.members dot)) (sym (r.conditions dot)) (subst (ConditionsAgree (condition_in k dot)) (sym (s.conditions dot)) (conditions_agree k l one dot))

pub stands_for_both : (x y joint : DeltaState) (k l : Knowledge) → IsDeltaOf x k → IsDeltaOf y l → IsJoinOf x y joint → IsDeltaOf joint (k ++ l)
stands_for_both x y joint k l r s j =
    represents_both (condition_of x.members) (condition_of y.members) (condition_of joint.members) x.members.known y.members.known joint.members.known x.totals.entries y.totals.entries joint.totals.entries k l
    r s j.members.conditions j.members.known j.totals

-- ---- sizes

-- a dot is live by its condition exactly where it is visible
live_visible : (k : Knowledge) (dot : Dot) → is_live (condition_in k dot) ≡ set.contains (visible_dots k) dot
live_visible k dot =
    by (is_named k dot) (member_of k dot) ∙ ap (λ b. b && not (is_named k dot)) (member_some k dot) ∙ sym (visible_dot k dot)
  where
    by : (n : Bool) (o : Option Member) → is_live (if n then Some Dead else option_map (λ m. Live m (fields_in k dot)) o) ≡ (is_some o && not n)
    by true None = refl
    by true (Some m) = refl
    by false None = refl
    by false (Some m) = refl

known_visible : (k : Knowledge) (dot : Dot) → (set.contains (known_dots k) dot && set.contains (visible_dots k) dot) ≡ set.contains (visible_dots k) dot
known_visible k dot = (λ i. known_dot k dot i && visible_dot k dot i) ∙ bools (is_asserted k dot) (is_named k dot) ∙ sym (visible_dot k dot)
  where
    bools : (a n : Bool) → ((a || n) && (a && not n)) ≡ (a && not n)
    bools true n = refl
    bools false true = refl
    bools false false = refl

pub own_cells : (x : DeltaState) (k : Knowledge) → IsDeltaOf x k → map.len x.members.live ≡ set.len (visible_dots k)
own_cells x k r = sym (len_of_keys x.members.live (visible_dots k) (λ q.
    sym (live_visible k q) ∙ ap is_live (sym (r.conditions q)) ∙ live_at (map.get x.members.live q) (set.contains x.members.known q)))
  where
    live_at : (o : Option Holding) (known : Bool) → is_live (condition_at o known) ≡ is_some o
    live_at (Some h) known = refl
    live_at None true = refl
    live_at None false = refl

pub cells_both : (x y : DeltaState) (k l : Knowledge) → IsDeltaOf x k → IsDeltaOf y l → cells_joined x.members y.members ≡ set.len (visible_dots (k ++ l))
unfolding joined_dots
cells_both x y k l r s = ap set.len (set.same_set dots_total dots_exact (joined_dots x.members y.members) (visible_dots (k ++ l)) (λ q.
    set.contains-retain (set.union x.members.known y.members.known) (λ d. is_live (both_joined x.members y.members d)) q (λ d e. ap (λ d. is_live (both_joined x.members y.members d)) (sym (dots_exact q d e)))
    ∙ (λ i. set.contains (together i) q && is_live (condition_joined (r.conditions q i) (s.conditions q i)))
    ∙ ap (λ c. set.contains (known_dots (k ++ l)) q && is_live c) (sym (condition_both k l q))
    ∙ ap (λ b. set.contains (known_dots (k ++ l)) q && b) (live_visible (k ++ l) q)
    ∙ known_visible (k ++ l) q))
  where
    together : set.union x.members.known y.members.known ≡ known_dots (k ++ l)
    together = (λ i. set.union (r.dots i) (s.dots i)) ∙ sym (known_both k l)

pub runs_both : (x y : DeltaState) (k l : Knowledge) → IsDeltaOf x k → IsDeltaOf y l → runs_joined x.members y.members ≡ run_count (known_dots (k ++ l))
runs_both x y k l r s = ap run_count ((λ i. set.union (r.dots i) (s.dots i)) ∙ sym (known_both k l))

-- ---- traces

pub empty_where : (x : DeltaState) (buffer : Knowledge) → LeaveTraces buffer → IsDeltaOf x buffer → IsEmpty x ↔ (buffer ≡ [])
empty_where x buffer leave r = (
  λ e. traces_none (condition_of x.members) x.members.known x.totals.entries buffer leave r e.known e.totals,
  λ e.
      let none : IsDeltaOf x [] = subst (IsDeltaOf x) e r in
      let one = represents_one (condition_of x.members) (λ dot. None) x.members.known set.empty x.totals.entries map.empty [] none represents_none in
      record { conditions = one.conditions; known = one.dots; totals = one.totals_are },
)
