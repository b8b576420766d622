-- The parts of a replica are refused for no cause: its buffer is below its state, so the join of both is the state.
use Rattle.std.proofs.Common.{◌≡◌, ◌≢◌, ◌<◌, ◌≤◌, inl, inr, Bool, true, false, ◌||◌, ◌&&◌, Option, Some, None, refl, sym, ap, subst, ◌∙◌, arith}
use Rattle.std.specs.Prelude.{is_some}
use Rattle.std.specs.FinMap as map
use Rattle.std.specs.FinSet as set
use Rattle.dots.specs.declared.limits.TheConstants.{MOST_LIVE, MOST_RUNS}
use Rattle.dots.specs.DotSets.{run_count}
use Rattle.dots.specs.Values.{Dot, Stamp}
use Rattle.dots.proofs.DotOrder.{dots_exact, dots_total}
use Rattle.dots.proofs.KeySets.{len_of_keys}
use Rattle.operations.specs.Registers.{Entry, IsBelow as IsRegisterBelow, RegistersAgree}
use Rattle.operations.specs.Conditions.{Condition, Live, Dead, ConditionsAgree, DotFields, FieldsAgree, FieldsBelow, IsConditionBelow, condition_joined}
use Rattle.operations.proofs.ConditionOrder.{condition_below_both_ways, condition_below_self, conditions_least, not_less}
use Rattle.dots.specs.Orders.{stamp_cmp}
use Rattle.std.specs.declared.cmp.Ordering.TheVariants.{Less}
use Rattle.member_orset.specs.Members.{Holding, IsWithinLimits, Members, SetsInConflict, both_joined, cells_joined, condition_at, condition_of, is_live, joined_dots, runs_joined}
use Rattle.member_orset.proofs.Agreeing.{conditions_apart}
use Rattle.replica.specs.declared.restore_fault.RestoreFault.{RestoreFault}
use Rattle.replica.specs.declared.restore_fault.RestoreFault.TheVariants.{NumberTooLarge, OwnDots, OwnStamps, NoSuchQueue, Conflict, CellsFull, RunsFull, Memory}
use Rattle.replica.specs.Keeping.{IsKept}
use Rattle.replica.specs.Replicas.{IsReplica}
use Rattle.replica.specs.Restoring.{HasItsDots, IsJoinCause, IsPartCause, IsRestoreCause}
use Rattle.replica.specs.Site.{SiteState}
use Rattle.replica.specs.Taking.{HasDotPast}
use Rattle.replica.proofs.RestoredSites.{own_not_past}

-- a set has few enough live dots and runs, and knows each live dot
pub record IsFew (m : Members) : Type 0 where
  pub cells : map.len m.live ≤ MOST_LIVE
  pub runs : run_count m.known ≤ MOST_RUNS
  pub known : (dot : Dot) (h : Holding) → map.get m.live dot ≡ Some h → set.contains m.known dot ≡ true

-- a site keeps what each replica does, and its parts are few enough
pub record HasFewParts (s : SiteState) : Type 0 where
  pub kept : IsKept s
  pub state : IsFew s.state.members
  pub pending : IsFew s.pending.members

few_within : (m : Members) → IsWithinLimits m → IsFew m
few_within m limits = record { cells = limits.cells; runs = limits.runs; known = λ dot h live. (limits.held dot h live).known }

-- as those of a replica are
pub few_parts : (s : SiteState) → IsReplica s → HasFewParts s
few_parts s is = record { kept = is.kept; state = few_within s.state.members is.state_limits; pending = few_within s.pending.members is.pending_limits }

-- ---- what is below agrees

register_agrees : {T : Type 0} (x y : Option (Entry T)) → IsRegisterBelow y x → RegistersAgree x y
register_agrees None y below a b in_x in_y stamps = absurd (cc)
register_agrees (Some p) None below a b in_x in_y stamps = absurd (cc)
register_agrees (Some p) (Some q) (inl same) a b in_x in_y stamps = cc
register_agrees (Some p) (Some q) (inr less) a b in_x in_y stamps =
    let at : q.stamp ≡ p.stamp = cc in
    absurd (not_less p.stamp (subst (λ (s : Stamp). stamp_cmp s p.stamp ≡ Less) at less))

fields_agree : (f g : DotFields) → FieldsBelow g f → FieldsAgree f g
fields_agree f g below = record {
  penalty = register_agrees f.penalty g.penalty below.penalty;
  pause = register_agrees f.pause g.pause below.pause;
  label = register_agrees f.label g.label below.label;
  ring = register_agrees f.ring g.ring below.ring;
}

condition_agrees : (x y : Option Condition) → IsConditionBelow y x → ConditionsAgree x y
condition_agrees None y below = tt
condition_agrees (Some Dead) y below = tt
condition_agrees (Some (Live m f)) None below = tt
condition_agrees (Some (Live m f)) (Some Dead) below = tt
condition_agrees (Some (Live m f)) (Some (Live n g)) below = (sym below.0, fields_agree f g below.1)

-- ---- the join with what is below

joined_below : (x y : Option Condition) → IsConditionBelow y x → condition_joined x y ≡ x
joined_below x y below =
    let least = conditions_least x y (condition_agrees x y below) in
    condition_below_both_ways (condition_joined x y) x (least.least x (condition_below_self x) below) least.first

-- what is below a condition is known where it is
some_above : (x y : Option Condition) → IsConditionBelow y x → is_some y ≡ true → is_some x ≡ true
some_above x None below known = absurd (cc)
some_above None (Some (Live n g)) below known = absurd below
some_above None (Some Dead) below known = absurd below
some_above (Some c) (Some d) below known = refl

known_at : (o : Option Holding) (known : Bool) → ((h : Holding) → o ≡ Some h → known ≡ true) → known ≡ is_some (condition_at o known)
known_at (Some h) known live = live h refl
known_at None true live = refl
known_at None false live = refl

known_by_condition : (m : Members) → IsFew m → (dot : Dot) → set.contains m.known dot ≡ is_some (condition_of m dot)
known_by_condition m few dot = known_at (map.get m.live dot) (set.contains m.known dot) (few.known dot)

live_test : (o : Option Holding) (known : Bool) → ((h : Holding) → o ≡ Some h → known ≡ true) → (known && is_live (condition_at o known)) ≡ is_some o
live_test (Some h) true f = refl
live_test (Some h) false f = absurd (let e = f h refl in cc)
live_test None true f = refl
live_test None false f = refl

either_known : (a b : Bool) → (b ≡ true → a ≡ true) → (a || b) ≡ a
either_known true b f = refl
either_known false true f = absurd (let e = f refl in cc)
either_known false false f = refl

module _ (s t : Members) (limits : IsFew s) (others : IsFew t) (below : (dot : Dot) → IsConditionBelow (condition_of t dot) (condition_of s dot)) where
  pub known_above : (dot : Dot) → set.contains t.known dot ≡ true → set.contains s.known dot ≡ true
  known_above dot known =
      known_by_condition s limits dot ∙ some_above (condition_of s dot) (condition_of t dot) (below dot) (sym (known_by_condition t others dot) ∙ known)

  pub union_is : set.union s.known t.known ≡ s.known
  union_is = set.same_set dots_total dots_exact (set.union s.known t.known) s.known (λ dot.
      set.contains-union dots_total s.known t.known dot ∙ either_known (set.contains s.known dot) (set.contains t.known dot) (known_above dot))

  pub joined_is : (dot : Dot) → both_joined s t dot ≡ condition_of s dot
  joined_is dot = joined_below (condition_of s dot) (condition_of t dot) (below dot)

  as_many : cells_joined s t ≡ map.len s.live
  unfolding joined_dots
  as_many = len_of_keys s.live (joined_dots s t) (λ q.
      set.contains-retain (set.union s.known t.known) (λ d. is_live (both_joined s t d)) q (λ x h. ap (λ d. is_live (both_joined s t d)) (sym (dots_exact q x h)))
      ∙ (λ i. set.contains (union_is i) q && is_live (joined_is q i))
      ∙ live_test (map.get s.live q) (set.contains s.known q) (limits.known q))

  pub no_conflict : SetsInConflict s t → ⊥
  no_conflict c = conditions_apart (condition_of s c.dot) (condition_of t c.dot) (condition_agrees (condition_of s c.dot) (condition_of t c.dot) (below c.dot)) c.conflict

  pub few_cells : MOST_LIVE < cells_joined s t → ⊥
  few_cells many = omega (arith, many, as_many, limits.cells)

  pub few_runs : MOST_RUNS < runs_joined s t → ⊥
  few_runs many = omega (arith, many, ap run_count union_is, limits.runs)

-- ---- the parts of a replica

-- the buffer of a replica has no own dot past the last one
its_dots : (s : SiteState) → HasFewParts s → HasItsDots s
its_dots s is = record { state = is.kept.own_dots; pending = none }
  where
    above : (past : HasDotPast s.site s.last_count s.pending.members.known) → HasDotPast s.site s.last_count s.state.members.known
    above past = record {
      count = past.count;
      known_dot = known_above s.state.members s.pending.members is.state is.pending is.kept.below.conditions (record { site = s.site; count = past.count }) past.known_dot;
      past = past.past;
    }

    none : HasDotPast s.site s.last_count s.pending.members.known → ⊥
    none past = own_not_past s.state.members.known s.site s.last_count is.kept.own_dots (above past)

no_part_cause : (s : SiteState) (fault : RestoreFault) → HasFewParts s → IsPartCause s fault → ⊥
no_part_cause s NumberTooLarge is cause = cause (record { count = is.kept.counts; time = is.kept.times; frames = is.kept.frames })
no_part_cause s OwnDots is cause = cause.1 (its_dots s is)
no_part_cause s OwnStamps is cause = cause.2 (record { state = is.kept.own_stamps; pending = is.kept.pending_stamps })
no_part_cause s NoSuchQueue is cause = cause.3 (record { state = is.kept.state_queues; pending = is.kept.pending_queues })
no_part_cause s Conflict is cause = cause
no_part_cause s CellsFull is cause = cause
no_part_cause s RunsFull is cause = cause
no_part_cause s Memory is cause = cause

no_join_cause : (s : SiteState) (fault : RestoreFault) → HasFewParts s → fault ≢ Memory → IsJoinCause s.state s.pending fault → ⊥
no_join_cause s NumberTooLarge is other cause = cause
no_join_cause s OwnDots is other cause = cause
no_join_cause s OwnStamps is other cause = cause
no_join_cause s NoSuchQueue is other cause = cause
no_join_cause s Conflict is other cause = no_conflict s.state.members s.pending.members is.state is.pending is.kept.below.conditions cause
no_join_cause s CellsFull is other cause = few_cells s.state.members s.pending.members is.state is.pending is.kept.below.conditions cause.1
no_join_cause s RunsFull is other cause = few_runs s.state.members s.pending.members is.state is.pending is.kept.below.conditions cause.2
no_join_cause s Memory is other cause = other refl

-- no cause refuses them
pub no_restore_cause : (s : SiteState) (fault : RestoreFault) → HasFewParts s → fault ≢ Memory → IsRestoreCause s fault → ⊥
no_restore_cause s fault is other (inl cause) = no_part_cause s fault is cause
no_restore_cause s fault is other (inr cause) = no_join_cause s fault is other cause.1
