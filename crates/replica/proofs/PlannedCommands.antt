-- What is planned for each command is what it means.
use Rattle.std.proofs.Common.{◌≡◌, ◌≤◌, ◌<◌, inl, inr, ℕ, suc, ◌+◌, true, false, List, length, Some, Result, Err, refl, sym, ap, subst, ◌∙◌, arith, nat_lt}
use Rattle.std.proofs.lemmas.Bool.Decides.{nat_tests}
use Rattle.std.specs.FinMap as map
use Rattle.std.specs.FinSet as set
use Rattle.dots.specs.declared.calls.Calls.{Calls}
use Rattle.dots.specs.declared.limits.TheConstants.{MOST_CALLS}
use Rattle.operations.specs.Operations.{Operation, Count}
use Rattle.operations.specs.Totals.{join_of, single, totals_of}
use Rattle.site_totals.specs.Raising.{alone, number_of as number_of_calls}
use Rattle.member_orset.specs.Members.{IsWithinLimits}
use Rattle.replica.specs.declared.refusal.Refusal.{Refusal}
use Rattle.replica.specs.declared.refusal.Refusal.TheVariants.{TotalFull}
use Rattle.replica.specs.Changes.{CountCall, Meaning, Refused, count_at, in_queue, within_limits}
use Rattle.replica.specs.Changing.{IsChangeOf}
use Rattle.replica.specs.Commands.{IsDone, MayWantMemory}
use Rattle.replica.specs.Keeping.{IsKept}
use Rattle.replica.specs.Making.{IsMade}
use Rattle.replica.specs.declared.planned.Planned.{Planned}
use Rattle.replica.specs.Planning.{IsPlan, IsUnplanned}
use Rattle.replica.proofs.SiteChanges.{count_change}
use Rattle.replica.specs.Queues.{number_of}
use Rattle.replica.specs.Site.{SiteState, IsUnchanged, meaning_at, view_of}
use Rattle.replica.proofs.Below.{below_agrees, new_agrees}
use Rattle.replica.proofs.Doing.{limits_want, made_done, memory_done, refused_done, total_means}
use Rattle.replica.proofs.Fullness.{full_count, too_long_count}
use Rattle.replica.specs.Writing.{HasParts, none_held}
use Rattle.replica.proofs.MadeChanges.{count_delta}
use Rattle.replica.proofs.TakenSites.{unchanged_self}

module _ (s : SiteState) (kept : IsKept s) (limits : IsWithinLimits s.state.members) (limits_pending : IsWithinLimits s.pending.members) where
  -- ---- counts
  module _ (queue : List ℕ) (calls : Calls) (number : ℕ) (numbered : number_of s.names queue ≡ Some number) where
    abbrev so_far : ℕ
    so_far = number_of_calls calls (totals_of s.state.totals.entries s.site number)

    abbrev counting : Operation
    counting = Count s.site number calls (suc so_far)

    count_means : meaning_at s (CountCall queue calls) ≡ within_limits (view_of s s.state) (view_of s s.pending) counting
    count_means = ap (λ n. in_queue n (λ q. within_limits (view_of s s.state) (view_of s s.pending) (count_at s.site (view_of s s.state) q calls))) numbered

    -- a total at its limit is refused
    pub count_full : MOST_CALLS ≤ so_far → meaning_at s (CountCall queue calls) ≡ Refused TotalFull
    count_full most =
        count_means
        ∙ total_means (view_of s s.state) (view_of s s.pending) counting (full_count s s.state s.site number calls (suc so_far) limits) (full_count s s.pending s.site number calls (suc so_far) limits_pending)
        (too_long_count s.site number calls (suc so_far)) refl (test so_far most)
      where
        test : (n : ℕ) → MOST_CALLS ≤ n → nat_lt MOST_CALLS (suc n) ≡ true
        test n h = grind (arith, nat_tests)

    -- one below it isn't past the greatest with one call more
    below_most : (n : ℕ) → n < MOST_CALLS → nat_lt MOST_CALLS (suc n) ≡ false
    below_most n h = grind (arith, nat_tests)

    -- a call below its limit may run out of memory
    pub count_wants : so_far < MOST_CALLS → MayWantMemory (meaning_at s (CountCall queue calls))
    count_wants less = subst MayWantMemory (sym count_means) (limits_want (view_of s s.state) (view_of s s.pending) counting (below_most so_far less))

    -- the plan of a call below its limit raises the total
    pub count_plan : (planned : Planned) (total : ℕ) → so_far < MOST_CALLS → total ≡ so_far + 1 → number < length s.names
        → planned.count ≡ s.last_count → planned.time ≡ s.last_time
        → HasParts planned.change set.empty none_held (join_of map.empty (single (record { site = s.site; queue = number }) (alone calls total)))
        → IsPlan s (meaning_at s (CountCall queue calls)) planned
    count_plan planned total less is within count time parts = record {
      operation = counting;
      means = count_means;
      stands = count_delta planned.change s.site number calls (suc so_far) (omega arith) parts.known parts.live totals;
      not_exhausted = refl;
      not_past_total = below_most so_far less;
      counted = count ∙ omega arith;
      timed = time ∙ omega arith;
      change = subst (λ n. IsChangeOf s n planned.time planned.change) (sym count) (subst (λ t. IsChangeOf s s.last_count t planned.change) (sym time)
          (count_change s kept planned.change number calls (suc so_far) (omega arith) within parts.known parts.live totals));
      limits = parts.limits;
    }
      where
        one : (n : ℕ) → n + 1 ≡ suc n
        one n = omega arith

        totals : planned.change.totals.entries ≡ join_of map.empty (single (record { site = s.site; queue = number }) (alone calls (suc so_far)))
        totals = parts.totals ∙ ap (λ n. join_of map.empty (single (record { site = s.site; queue = number }) (alone calls n))) (is ∙ one so_far)

-- the result of a planned change is that of its meaning
pub plan_done : (old new : SiteState) (meant : Meaning) (planned : Planned) (result : Result (Unit {0}) Refusal) → IsKept old → IsWithinLimits old.state.members → IsWithinLimits old.pending.members
    → IsPlan old meant planned → IsMade old planned.change planned.count planned.time new result → IsDone old meant new result
plan_done old new meant planned result kept limits limits_pending plan made =
    subst (λ m. IsDone old m new result) (sym plan.means)
    (made_done old new planned.change plan.operation planned.count planned.time (new_agrees old.state planned.change plan.change.is_new) (below_agrees old.pending old.state planned.change kept.below plan.change.is_new)
    limits limits_pending plan.limits plan.stands plan.not_exhausted plan.not_past_total plan.counted plan.timed result made)

-- a site says the same as itself
pub itself : (s : SiteState) → IsUnchanged s s
itself s = record { site = refl; names = refl; state = unchanged_self s.state; pending = unchanged_self s.pending; last_count = refl; last_time = refl; frames = refl }

-- where nothing was planned the site stays, and the refusal is that of the meaning
pub refusal_done : (old : SiteState) (meant : Meaning) (refusal : Refusal) → IsUnplanned meant refusal → IsDone old meant old (Err refusal)
refusal_done old meant refusal (inl e) = subst (λ r. IsDone old meant old (Err r)) (sym e.0) (memory_done old old meant e.1 (itself old))
refusal_done old meant refusal (inr e) = refused_done old old meant refusal e (itself old)
