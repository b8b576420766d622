-- Sites that say the same do the same.
use Rattle.std.proofs.Common.{◌≡◌, ◌<◌, ◌≤◌, inl, inr, ℕ, suc, max, length, Result, refl, sym, ap, subst, ◌∙◌}
use Rattle.std.specs.FinSet as set
use Rattle.dots.specs.declared.limits.TheConstants.{MOST_LIVE, MOST_RUNS}
use Rattle.operations.specs.Conditions.{ConditionsAgree, condition_joined}
use Rattle.dots.specs.DotSets.{run_count}
use Rattle.operations.specs.Operations.{Operation}
use Rattle.operations.specs.Rows.{rows_of as rows_read}
use Rattle.operations.specs.Totals.{join_of, sum_of, totals_of}
use Rattle.site_totals.specs.Raising.{number_of as number_of_calls}
use Rattle.member_orset.specs.Members as sets
use Rattle.member_orset.specs.Members.{ConditionsInConflict, cells_joined, condition_of, is_live, joined_dots, runs_joined}
use Rattle.delta.specs.DeltaStates.{DeltaState, IsEmpty, IsSame}
use Rattle.delta.specs.Frames.{IsSameFrame}
use Rattle.delta.specs.Joining.{DeltasInConflict, IsJoinOf}
use Rattle.delta.specs.declared.frame.Frame.{Frame}
use Rattle.delta.proofs.StandingDeltas.{one_delta}
use Rattle.replica.specs.declared.refusal.Refusal.{Refusal}
use Rattle.replica.specs.Changes.{Change, Makes, Meaning, Refused, meaning}
use Rattle.replica.specs.Commands.{Follows, HasJoined}
use Rattle.replica.specs.Deeds.{IsCutDeed, IsTakeDeed, IsWholeDeed}
use Rattle.replica.specs.Site.{IsSameSite, SiteState, meaning_at, rows_of, sums_of, view_of}
use Rattle.replica.specs.SiteViews.{count_used, time_used}
use Rattle.replica.specs.declared.take_fault.TakeFault.{TakeFault}
use Rattle.replica.specs.Taking.{HasMemberPast, HasTotalPast, IsNotMine, IsRefusedTake, MayHear, MayJoin, MayTake, SpeaksOfStrangeQueue}
use Rattle.replica.proofs.SameSites.{delta_through, delta_turned, site_through, site_turned, unchanged_site}
use Rattle.replica.proofs.StandingSites.{equal_same}
use Rattle.replica.proofs.TakingIn.{copied_live}

-- ---- deltas that say the same

-- what is empty says the same
both_empty : (d e : DeltaState) → IsEmpty d → IsEmpty e → IsSame d e
both_empty d e a b = record { conditions = λ dot. a.conditions dot ∙ sym (b.conditions dot); known = a.known ∙ sym b.known; totals = a.totals ∙ sym b.totals }

-- a delta that says the same as an empty one is empty
empty_too : (d e : DeltaState) → IsSame d e → IsEmpty d → IsEmpty e
empty_too d e same empty = record { conditions = λ dot. sym (same.conditions dot) ∙ empty.conditions dot; known = sym same.known ∙ empty.known; totals = sym same.totals ∙ empty.totals }

-- what is equal to two that say the same says the same
equal_to : (d e f g : DeltaState) → f ≡ d → g ≡ e → IsSame d e → IsSame f g
equal_to d e f g a b same = subst (λ x. IsSame x g) (sym a) (subst (IsSame d) (sym b) same)

-- joins of what says the same say the same
joins_same : (d e x y f g : DeltaState) → IsSame d e → IsSame x y → IsJoinOf d x f → IsJoinOf e y g → IsSame f g
joins_same d e x y f g a b j k = record {
  conditions = λ dot. j.members.conditions dot ∙ (λ i. condition_joined (a.conditions dot i) (b.conditions dot i)) ∙ sym (k.members.conditions dot);
  known = j.members.known ∙ (λ i. set.union (a.known i) (b.known i)) ∙ sym k.members.known;
  totals = j.totals ∙ (λ i. join_of (a.totals i) (b.totals i)) ∙ sym k.totals;
}

-- joins with one operation of deltas that say the same say the same
joined_same : (d e f g : DeltaState) (o : Operation) → IsSame d e → HasJoined d o f → HasJoined e o g → IsSame f g
joined_same d e f g o same j k = joins_same d e j.change k.change f g same (one_delta j.change k.change _ j.stands k.stands) j.joined k.joined

-- a join with what says the same has as many live dots
cells_same : (d e x : DeltaState) → IsSame d e → cells_joined d.members x.members ≡ cells_joined e.members x.members
unfolding joined_dots
cells_same d e x same = λ i. set.len (set.retain (set.union (same.known i) x.members.known) (λ dot. is_live (condition_joined (same.conditions dot i) (condition_of x.members dot))))

-- a join with a delta that says the same has as many runs
runs_same : (d e x : DeltaState) → IsSame d e → runs_joined d.members x.members ≡ runs_joined e.members x.members
runs_same d e x same = ap (λ known. run_count (set.union known x.members.known)) same.known

-- ---- two sites

module _ (s t : SiteState) (same : IsSameSite s t) where
  -- what is read of deltas that say the same is the same
  view_same : (d e : DeltaState) → IsSame d e → view_of s d ≡ view_of t e
  view_same d e alike = let live = copied_live d e alike in λ i. record {
    dots = sets.view_of (live i);
    known = alike.known i;
    totals = λ site queue calls. number_of_calls calls (totals_of (alike.totals i) site queue);
    last_count = sym same.last_count i;
    last_time = sym same.last_time i;
  }

  -- a command means the same at sites that say the same
  pub means_same : (change : Change) → meaning_at s change ≡ meaning_at t change
  means_same change = λ i. meaning (sym same.site i) (sym same.names i) (view_same s.state t.state same.state i) (view_same s.pending t.pending same.pending i) change

  -- a queue has the same rows
  pub rows_same : (queue : ℕ) → rows_of s queue ≡ rows_of t queue
  rows_same queue = ap (λ live. rows_read (sets.view_of live) queue) (copied_live s.state t.state same.state)

  -- a queue has the same totals at sites that say the same
  pub sums_same : (queue : ℕ) → sums_of s queue ≡ sums_of t queue
  sums_same queue = ap (λ entries. sum_of entries queue) same.state.totals

  -- one buffer is empty where the other is
  pub pending_same : IsEmpty s.pending → IsEmpty t.pending
  pending_same = empty_too s.pending t.pending same.pending

  -- what one site hasn't made the other hasn't
  not_mine : (d : DeltaState) → IsNotMine t d → IsNotMine s d
  not_mine d (inl past) = inl
      (subst (λ n. HasMemberPast n s.last_count s.last_time d.members) same.site
      (subst (λ n. HasMemberPast t.site n s.last_time d.members) same.last_count
      (subst (λ n. HasMemberPast t.site t.last_count n d.members) same.last_time past)))
  not_mine d (inr past) = inr
      (subst (λ n. HasTotalPast n s.state.totals.entries d.totals.entries) same.site
      (subst (λ entries. HasTotalPast t.site entries d.totals.entries) (sym same.state.totals) past))

  -- what is strange to one is to the other
  pub strange_same : (d : DeltaState) → SpeaksOfStrangeQueue (length s.names) d → SpeaksOfStrangeQueue (length t.names) d
  strange_same d strange = subst (λ names. SpeaksOfStrangeQueue (length names) d) (sym same.names) strange

  -- sites that say the same may hear the same deltas
  hear_same : (d : DeltaState) → MayHear s d → MayHear t d
  hear_same d hears = record {
    queues = λ strange. hears.queues (subst (λ names. SpeaksOfStrangeQueue (length names) d) same.names strange);
    own = λ past. hears.own (not_mine d past);
  }

  -- sites that say the same may join the same deltas
  join_same : (d : DeltaState) → MayJoin s d → MayJoin t d
  join_same d joins = record {
    hears = hear_same d joins.hears;
    agree = λ dot. subst (λ c. ConditionsAgree c (condition_of d.members dot)) (same.state.conditions dot) (joins.agree dot);
  }

  -- sites that say the same may take the same deltas
  pub may_same : (d : DeltaState) → MayTake s d → MayTake t d
  may_same d may = record {
    joins = join_same d may.joins;
    cells = subst (λ n. n ≤ MOST_LIVE) (cells_same s.state t.state d same.state) may.cells;
    runs = subst (λ n. n ≤ MOST_RUNS) (runs_same s.state t.state d same.state) may.runs;
  }

  -- what disagrees with one, and may be heard, does with the other
  pub conflict_same : (d : DeltaState) → MayHear s d × DeltasInConflict s.state d → MayHear t d × DeltasInConflict t.state d
  conflict_same d (hears, disagree) = (
    hear_same d hears,
    record {
      dot = disagree.dot;
      conflict = subst (λ c. ConditionsInConflict c (condition_of d.members disagree.dot)) (same.state.conditions disagree.dot) disagree.conflict;
    },
  )

  -- what makes too many live dots does at both
  pub cells_full_same : (d : DeltaState) → MayJoin s d × (MOST_LIVE < cells_joined s.state.members d.members) → MayJoin t d × (MOST_LIVE < cells_joined t.state.members d.members)
  cells_full_same d (joins, many) = (join_same d joins, subst (λ n. MOST_LIVE < n) (cells_same s.state t.state d same.state) many)

  -- a delta that makes too many runs does at both
  pub runs_full_same : (d : DeltaState) → MayJoin s d × (cells_joined s.state.members d.members ≤ MOST_LIVE) × (MOST_RUNS < runs_joined s.state.members d.members)
      → MayJoin t d × (cells_joined t.state.members d.members ≤ MOST_LIVE) × (MOST_RUNS < runs_joined t.state.members d.members)
  runs_full_same d (joins, few, many) = (
    join_same d joins,
    subst (λ n. n ≤ MOST_LIVE) (cells_same s.state t.state d same.state) few,
    subst (λ n. MOST_RUNS < n) (runs_same s.state t.state d same.state) many,
  )

  module _ (new after : SiteState) where
    -- the result of one meaning is the same
    meant_same : (m : Meaning) (result other : Result (Unit {0}) Refusal) → Follows s m new result → Follows t m after other → (result ≡ other) × IsSameSite new after
    meant_same (Makes o) result other (done, made) (also, makes) = (
      done ∙ sym also,
      record {
        site = makes.site ∙ same.site ∙ sym made.site;
        names = makes.names ∙ same.names ∙ sym made.names;
        state = joined_same s.state t.state new.state after.state o same.state made.state makes.state;
        pending = joined_same s.pending t.pending new.pending after.pending o same.pending made.pending makes.pending;
        last_count = makes.last_count ∙ (λ i. max (count_used (same.site i) o) (same.last_count i)) ∙ sym made.last_count;
        last_time = makes.last_time ∙ (λ i. max (time_used (same.site i) o) (same.last_time i)) ∙ sym made.last_time;
        frames = makes.frames ∙ same.frames ∙ sym made.frames;
      },
    )
    meant_same (Refused refusal) result other (refused, kept) (also, keeps) = (
      refused ∙ sym also,
      site_through new s after (site_turned s new (unchanged_site s new kept)) (site_through s t after same (unchanged_site t after keeps)),
    )

    -- the result of one command is the same
    pub follows_same : (change : Change) (result other : Result (Unit {0}) Refusal) → Follows s (meaning_at s change) new result → Follows t (meaning_at t change) after other
        → (result ≡ other) × IsSameSite new after
    follows_same change result other follows also =
        meant_same (meaning_at s change) result other follows (subst (λ m. Follows t m after other) (sym (means_same change)) also)

    -- frames that are cut of both say the same
    pub cut_same : (frame other : Frame) → IsCutDeed s frame new → IsCutDeed t other after → IsSameFrame frame other × IsSameSite new after
    cut_same frame other deed also = let a = deed.made in let b = also.made in (
      record {
        maker = a.heading.maker ∙ sym same.site ∙ sym b.heading.maker;
        number = a.heading.number ∙ ap suc (sym same.frames) ∙ sym b.heading.number;
        delta = equal_to s.pending t.pending frame.delta other.delta a.delta b.delta same.pending;
      },
      record {
        site = b.site ∙ same.site ∙ sym a.site;
        names = b.names ∙ same.names ∙ sym a.names;
        state = equal_to s.state t.state new.state after.state a.state b.state same.state;
        pending = both_empty new.pending after.pending a.pending b.pending;
        last_count = b.last_count ∙ same.last_count ∙ sym a.last_count;
        last_time = b.last_time ∙ same.last_time ∙ sym a.last_time;
        frames = b.frames ∙ ap suc same.frames ∙ sym a.frames;
      },
    )

    -- frames of everything from both sites say the same
    pub whole_same : (frame other : Frame) → IsWholeDeed s frame new → IsWholeDeed t other after → IsSameFrame frame other × IsSameSite new after
    whole_same frame other deed also = let a = deed.made in let b = also.made in (
      record {
        maker = a.heading.maker ∙ sym same.site ∙ sym b.heading.maker;
        number = a.heading.number ∙ ap suc (sym same.frames) ∙ sym b.heading.number;
        delta = delta_through frame.delta s.state other.delta (delta_turned s.state frame.delta a.delta) (delta_through s.state t.state other.delta same.state b.delta);
      },
      record {
        site = b.site ∙ same.site ∙ sym a.site;
        names = b.names ∙ same.names ∙ sym a.names;
        state = equal_to s.state t.state new.state after.state a.state b.state same.state;
        pending = equal_to s.pending t.pending new.pending after.pending a.pending b.pending same.pending;
        last_count = b.last_count ∙ same.last_count ∙ sym a.last_count;
        last_time = b.last_time ∙ same.last_time ∙ sym a.last_time;
        frames = b.frames ∙ ap suc same.frames ∙ sym a.frames;
      },
    )

    -- sites that have taken one delta say the same
    pub take_same : (d : DeltaState) → IsTakeDeed s d new → IsTakeDeed t d after → IsSameSite new after
    take_same d deed also = let a = deed.taken in let b = also.taken in record {
      site = b.site ∙ same.site ∙ sym a.site;
      names = b.names ∙ same.names ∙ sym a.names;
      state = joins_same s.state t.state d d new.state after.state same.state (equal_same d d refl) a.state b.state;
      pending = equal_to s.pending t.pending new.pending after.pending a.pending b.pending same.pending;
      last_count = b.last_count ∙ same.last_count ∙ sym a.last_count;
      last_time = b.last_time ∙ same.last_time ∙ sym a.last_time;
      frames = b.frames ∙ same.frames ∙ sym a.frames;
    }

-- ---- refused takes

module _ (s t : SiteState) (same : IsSameSite s t) where
  -- what one site hasn't made the other hasn't, both ways
  pub not_mine_same : (d : DeltaState) → IsNotMine s d → IsNotMine t d
  not_mine_same d past = not_mine t s (site_turned s t same) d past

  -- a take that is refused at one site is refused for the same cause at the other
  pub refusals_same : (d : DeltaState) (IsRefused : TakeFault → Type 0) → IsRefusedTake s d IsRefused → IsRefusedTake t d IsRefused
  refusals_same d IsRefused refused = let turned = site_turned s t same in record {
    no_such_queue = (λ h. strange_same s t same d (refused.no_such_queue.0 h), λ h. refused.no_such_queue.1 (strange_same t s turned d h));
    not_mine = (
      λ h. let was = refused.not_mine.0 h in (λ strange. was.0 (strange_same t s turned d strange), not_mine_same d was.1),
      λ h. refused.not_mine.1 (λ strange. h.0 (strange_same s t same d strange), not_mine s t same d h.1),
    );
    conflict = (λ h. conflict_same s t same d (refused.conflict.0 h), λ h. refused.conflict.1 (conflict_same t s turned d h));
    cells_full = (λ h. cells_full_same s t same d (refused.cells_full.0 h), λ h. refused.cells_full.1 (cells_full_same t s turned d h));
    runs_full = (λ h. runs_full_same s t same d (refused.runs_full.0 h), λ h. refused.runs_full.1 (runs_full_same t s turned d h));
  }
