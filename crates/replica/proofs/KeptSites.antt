-- What a replica keeps through all that happens to it.
use Rattle.std.proofs.Common.{◌≡◌, ◌≤◌, inl, inr, ℕ, List, length, sym, ap, subst, ◌∙◌, arith}
use Rattle.std.specs.FinMap as map
use Rattle.std.specs.FinSet as set
use Rattle.dots.specs.declared.limits.TheConstants.{MOST_COUNT}
use Rattle.operations.specs.Conditions.{IsConditionBelow}
use Rattle.operations.specs.Totals.{totals_of}
use Rattle.site_totals.specs.Raising.{number_of}
use Rattle.member_orset.specs.Members.{condition_of}
use Rattle.delta.specs.DeltaStates.{DeltaState, IsEmpty, IsSame, IsUnchanged}
use Rattle.delta.specs.Joining.{IsJoinOf}
use Rattle.replica.specs.Changing.{IsChangeOf, KnowsNext}
use Rattle.replica.specs.Keeping.{AreInQueues, HasOwnDots, HasOwnStamps, IsBelow, IsKept}
use Rattle.replica.specs.Site.{SiteState}
use Rattle.replica.proofs.Below.{below_agrees, empty_below, joined_keeps_below, new_agrees, same_below}
use Rattle.replica.proofs.KeptJoins.{dots_empty, dots_joined, dots_joined_next, dots_unchanged, queues_empty, queues_joined, queues_unchanged, stamps_empty, stamps_joined, stamps_later, stamps_unchanged}
use Rattle.replica.proofs.TakingIn.{copied_live}

-- a new replica keeps it
pub new_kept : (it : SiteState) → IsEmpty it.state → IsEmpty it.pending → it.last_count ≡ 0 → it.last_time ≡ 0 → it.frames ≡ 0 → IsKept it
new_kept it state pending count time frames = record {
  own_dots = subst (λ n. HasOwnDots it.site n it.state) (sym count) (dots_empty it.site it.state state);
  own_stamps = stamps_empty it.site it.last_time it.state state;
  pending_stamps = stamps_empty it.site it.last_time it.pending pending;
  below = empty_below it.pending it.state pending;
  state_queues = queues_empty (length it.names) it.state state;
  pending_queues = queues_empty (length it.names) it.pending pending;
  counts = omega (arith, count);
  times = omega (arith, time);
  frames = omega (arith, frames);
}

-- what the same deltas keep
dots_same : (site last : ℕ) (d e : DeltaState) → IsSame d e → HasOwnDots site last d → HasOwnDots site last e
dots_same site last d e same own count some = ap (λ k. set.contains k (record { site = site; count = count })) (sym same.known) ∙ own count some

stamps_same : (site last : ℕ) (d e : DeltaState) → IsSame d e → HasOwnStamps site last d → HasOwnStamps site last e
stamps_same site last d e same own dot h live = own dot h (ap (λ m. map.get m dot) (copied_live d e same) ∙ live)

queues_same : (n : ℕ) (d e : DeltaState) → IsSame d e → AreInQueues n d → AreInQueues n e
queues_same n d e same within = record {
  members = λ dot h live. within.members dot h (ap (λ m. map.get m dot) (copied_live d e same) ∙ live);
  totals = λ key totals here. within.totals key totals (ap (λ m. map.get m key) same.totals ∙ here);
}

below_same : (d e f g : DeltaState) → IsBelow d e → IsSame d f → IsSame e g → IsBelow f g
below_same d e f g p a b = record {
  conditions = λ dot. subst (IsConditionBelow (condition_of f.members dot)) (b.conditions dot)
      (subst (λ c. IsConditionBelow c (condition_of e.members dot)) (a.conditions dot) (p.conditions dot));
  totals = λ site queue calls. let x = p.totals site queue calls in
      subst (λ t. number_of calls (totals_of f.totals.entries site queue) ≤ number_of calls (totals_of t site queue)) b.totals
      (subst (λ t. number_of calls (totals_of t site queue) ≤ number_of calls (totals_of e.totals.entries site queue)) a.totals x);
}

-- a copy keeps what is copied, whatever number of frames within the limit it has
pub copied_kept : (s : SiteState) (names : List (List ℕ)) (state pending : DeltaState) (frames : ℕ) → IsKept s → names ≡ s.names → IsSame s.state state → IsSame s.pending pending → frames ≤ MOST_COUNT
    → IsKept (record { site = s.site; names = names; state = state; pending = pending; last_count = s.last_count; last_time = s.last_time; frames = frames })
copied_kept s names state pending frames kept same_names same same_pending few = record {
  own_dots = dots_same s.site s.last_count s.state state same kept.own_dots;
  own_stamps = stamps_same s.site s.last_time s.state state same kept.own_stamps;
  pending_stamps = stamps_same s.site s.last_time s.pending pending same_pending kept.pending_stamps;
  below = below_same s.pending s.state pending state kept.below same_pending same;
  state_queues = subst (λ n. AreInQueues (length n) state) (sym same_names) (queues_same (length s.names) s.state state same kept.state_queues);
  pending_queues = subst (λ n. AreInQueues (length n) pending) (sym same_names) (queues_same (length s.names) s.pending pending same_pending kept.pending_queues);
  counts = kept.counts;
  times = kept.times;
  frames = few;
}

-- the own dots after a change
dots_changed : (site last count : ℕ) (d x e : DeltaState) → HasOwnDots site last d → KnowsNext site last count x → IsJoinOf d x e → HasOwnDots site count e
dots_changed site last count d x e own (inl stays) j = subst (λ n. HasOwnDots site n e) (sym stays.0) (dots_joined site last d x e own stays.1 j)
dots_changed site last count d x e own (inr next) j = subst (λ n. HasOwnDots site n e) (sym next.0) (dots_joined_next site last d x e own next.1.0 next.1.1 j)

-- a change that both deltas take in leaves it kept
pub changed_kept : (s : SiteState) (x state pending : DeltaState) (count time : ℕ) → IsKept s → IsChangeOf s count time x → IsJoinOf s.state x state → IsJoinOf s.pending x pending
    → IsKept (record { site = s.site; names = s.names; state = state; pending = pending; last_count = count; last_time = time; frames = s.frames })
changed_kept s x state pending count time kept change j k = record {
  own_dots = dots_changed s.site s.last_count count s.state x state kept.own_dots change.dots j;
  own_stamps = stamps_joined s.site time s.state x state (stamps_later s.site s.last_time time s.state change.later kept.own_stamps) change.stamps j;
  pending_stamps = stamps_joined s.site time s.pending x pending (stamps_later s.site s.last_time time s.pending change.later kept.pending_stamps) change.stamps k;
  below = joined_keeps_below s.pending s.state x pending state kept.below (below_agrees s.pending s.state x kept.below change.is_new) (new_agrees s.state x change.is_new) k j;
  state_queues = queues_joined (length s.names) s.state x state kept.state_queues change.queues j;
  pending_queues = queues_joined (length s.names) s.pending x pending kept.pending_queues change.queues k;
  counts = change.counts;
  times = change.times;
  frames = kept.frames;
}

-- deltas that say the same keep a site's invariant
pub unchanged_kept : (s : SiteState) (state pending : DeltaState) → IsKept s → IsUnchanged s.state state → IsUnchanged s.pending pending
    → IsKept (record { site = s.site; names = s.names; state = state; pending = pending; last_count = s.last_count; last_time = s.last_time; frames = s.frames })
unchanged_kept s state pending kept u v = record {
  own_dots = dots_unchanged s.site s.last_count s.state state kept.own_dots u;
  own_stamps = stamps_unchanged s.site s.last_time s.state state kept.own_stamps u;
  pending_stamps = stamps_unchanged s.site s.last_time s.pending pending kept.pending_stamps v;
  below = same_below s.pending s.state pending state kept.below v u;
  state_queues = queues_unchanged (length s.names) s.state state kept.state_queues u;
  pending_queues = queues_unchanged (length s.names) s.pending pending kept.pending_queues v;
  counts = kept.counts;
  times = kept.times;
  frames = kept.frames;
}

-- an empty buffer and one frame more leave it kept
pub cut_kept : (s : SiteState) (pending : DeltaState) (frames : ℕ) → IsKept s → IsEmpty pending → frames ≤ MOST_COUNT
    → IsKept (record { site = s.site; names = s.names; state = s.state; pending = pending; last_count = s.last_count; last_time = s.last_time; frames = frames })
cut_kept s pending frames kept empty few = record {
  own_dots = kept.own_dots;
  own_stamps = kept.own_stamps;
  pending_stamps = stamps_empty s.site s.last_time pending empty;
  below = empty_below pending s.state empty;
  state_queues = kept.state_queues;
  pending_queues = queues_empty (length s.names) pending empty;
  counts = kept.counts;
  times = kept.times;
  frames = few;
}
