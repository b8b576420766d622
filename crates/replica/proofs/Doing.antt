-- The result of a change is the meaning of the operation that it stands for.
use Rattle.std.proofs.Common.{◌≡◌, ◌≤◌, ◌<◌, ◌⊎◌, inl, inr, ℕ, max, Bool, true, false, ◌||◌, [], ◌∷◌, Result, Ok, Err, refl, sym, subst, ◌∙◌, arith, nat_lt, true≢false, if◌then◌else◌}
use Rattle.std.proofs.lemmas.Bool.Decides.{nat_tests}
use Rattle.dots.specs.declared.limits.TheConstants.{MOST_LIVE, MOST_RUNS}
use Rattle.dots.specs.DotSets.{run_count}
use Rattle.operations.specs.Operations.{Operation}
use Rattle.member_orset.specs.Members.{IsWithinLimits, cells_joined, runs_joined}
use Rattle.delta.specs.DeltaStates as deltas
use Rattle.delta.specs.DeltaStates.{DeltaState}
use Rattle.delta.specs.Joining.{DeltasAgree}
use Rattle.delta.specs.Standing.{IsDeltaOf}
use Rattle.replica.specs.declared.refusal.Refusal.{Refusal}
use Rattle.replica.specs.declared.refusal.Refusal.TheVariants.{NoSuchQueue, AlreadyThere, NotThere, MembersFull, Exhausted, TotalFull, Memory}
use Rattle.replica.specs.Changes.{Meaning, Refused, Makes, is_exhausted, is_full, is_past_total, is_too_long, within_limits}
use Rattle.replica.specs.Commands.{IsDone, MayWantMemory}
use Rattle.replica.specs.Fitting.{HasRoomFor, IsTooFullFor}
use Rattle.replica.specs.Making.{IsMade}
use Rattle.replica.specs.Site.{SiteState, IsUnchanged, view_of}
use Rattle.replica.specs.SiteViews.{SiteView, count_used, time_used}
use Rattle.replica.proofs.Fullness.{full_joined, too_long_change}

-- an operation that is within the limits by these tests is made, or refused for the first of them that is true
chosen : Bool → Bool → Bool → Bool → Bool → Operation → Meaning
chosen full buffer_full too_long exhausted past_total o =
    if full || (buffer_full || too_long) then Refused MembersFull else if exhausted then Refused Exhausted else if past_total then Refused TotalFull else Makes o

-- an operation is made if all tests are false
made_where : (f b l e t : Bool) (o : Operation) → f ≡ false → b ≡ false → l ≡ false → e ≡ false → t ≡ false → chosen f b l e t o ≡ Makes o
unfolding chosen
made_where f b l e t o p q r s u = λ i. chosen (p i) (q i) (r i) (s i) (u i) o

-- the refusal is `MembersFull` if one of the first tests is true
full_where : (f b l e t : Bool) (o : Operation) → (f ≡ true) ⊎ ((b ≡ true) ⊎ (l ≡ true)) → chosen f b l e t o ≡ Refused MembersFull
unfolding chosen
full_where true b l e t o h = refl
full_where false true l e t o h = refl
full_where false false true e t o h = refl
full_where false false false e t o (inl h) = absurd (true≢false (sym h))
full_where false false false e t o (inr (inl h)) = absurd (true≢false (sym h))
full_where false false false e t o (inr (inr h)) = absurd (true≢false (sym h))

-- an operation past the limits of one of both, or too long, is refused as full
pub full_means : (r buffer : SiteView) (o : Operation) → (is_full r o ≡ true) ⊎ ((is_full buffer o ≡ true) ⊎ (is_too_long o ≡ true)) → within_limits r buffer o ≡ Refused MembersFull
unfolding chosen
full_means r buffer o h = full_where (is_full r o) (is_full buffer o) (is_too_long o) (is_exhausted o) (is_past_total o) o h

-- one within all limits is made
pub makes_it : (r buffer : SiteView) (o : Operation) → is_full r o ≡ false → is_full buffer o ≡ false → is_too_long o ≡ false → is_exhausted o ≡ false → is_past_total o ≡ false
    → within_limits r buffer o ≡ Makes o
unfolding chosen
makes_it r buffer o p q l e t = made_where (is_full r o) (is_full buffer o) (is_too_long o) (is_exhausted o) (is_past_total o) o p q l e t

-- an operation within the limits of live dots and runs, but past those of its numbers, is refused as exhausted
pub exhausted_means : (r buffer : SiteView) (o : Operation) → is_full r o ≡ false → is_full buffer o ≡ false → is_too_long o ≡ false → is_exhausted o ≡ true
    → within_limits r buffer o ≡ Refused Exhausted
unfolding chosen
exhausted_means r buffer o p q l e = λ i. chosen (p i) (q i) (l i) (e i) (is_past_total o) o

-- an operation past the limit of totals is refused as full
pub total_means : (r buffer : SiteView) (o : Operation) → is_full r o ≡ false → is_full buffer o ≡ false → is_too_long o ≡ false → is_exhausted o ≡ false → is_past_total o ≡ true
    → within_limits r buffer o ≡ Refused TotalFull
unfolding chosen
total_means r buffer o p q l e t = λ i. chosen (p i) (q i) (l i) (e i) (t i) o

-- an operation within the limit of totals may run out of memory, by these tests
wants : (f b l e t : Bool) (o : Operation) → t ≡ false → MayWantMemory (chosen f b l e t o)
unfolding chosen
wants true b l e t o h = tt
wants false true l e t o h = tt
wants false false true e t o h = tt
wants false false false true t o h = tt
wants false false false false true o h = absurd (true≢false h)
wants false false false false false o h = tt

-- be it made or refused
pub limits_want : (r buffer : SiteView) (o : Operation) → is_past_total o ≡ false → MayWantMemory (within_limits r buffer o)
unfolding chosen
limits_want r buffer o h = wants (is_full r o) (is_full buffer o) (is_too_long o) (is_exhausted o) (is_past_total o) o h

-- a refusal that is meant comes with a site that stays
pub refused_done : (old new : SiteState) (m : Meaning) (r : Refusal) → m ≡ Refused r → IsUnchanged old new → IsDone old m new (Err r)
refused_done old new m r e u = subst (λ m. IsDone old m new (Err r)) (sym e) (inl (refl, u))

-- out of memory may replace a meaning that may run out of it
pub memory_done : (old new : SiteState) (m : Meaning) → MayWantMemory m → IsUnchanged old new → IsDone old m new (Err Memory)
memory_done old new m w u = inr (u, refl, w)

module _ (s : SiteState) (d x : DeltaState) (o : Operation) (limits : IsWithinLimits d.members) (stands : IsDeltaOf x (o ∷ [])) where
  -- what finds room isn't full
  not_full : HasRoomFor d x → is_full (view_of s d) o ≡ false
  not_full room = full_joined s d x o limits stands ∙ by (cells_joined d.members x.members) (runs_joined d.members x.members) room.cells room.runs
    where
      by : (cells runs : ℕ) → cells ≤ MOST_LIVE → runs ≤ MOST_RUNS → (nat_lt MOST_LIVE cells || nat_lt MOST_RUNS runs) ≡ false
      by cells runs few short = grind (arith, nat_tests)

  -- what finds none is full
  too_full : IsTooFullFor d x → is_full (view_of s d) o ≡ true
  too_full (inl many) = full_joined s d x o limits stands ∙ by (cells_joined d.members x.members) (runs_joined d.members x.members) many
    where
      by : (cells runs : ℕ) → MOST_LIVE < cells → (nat_lt MOST_LIVE cells || nat_lt MOST_RUNS runs) ≡ true
      by cells runs many = grind (arith, nat_tests)
  too_full (inr many) = full_joined s d x o limits stands ∙ by (cells_joined d.members x.members) (runs_joined d.members x.members) many
    where
      by : (cells runs : ℕ) → MOST_RUNS < runs → (nat_lt MOST_LIVE cells || nat_lt MOST_RUNS runs) ≡ true
      by cells runs many = grind (arith, nat_tests)

-- a change that exists isn't too long
pub not_too_long : (x : DeltaState) (o : Operation) → IsWithinLimits x.members → IsDeltaOf x (o ∷ []) → is_too_long o ≡ false
not_too_long x o there stands = too_long_change x o stands ∙ by (run_count x.members.known) there.runs
  where
    by : (runs : ℕ) → runs ≤ MOST_RUNS → nat_lt MOST_RUNS runs ≡ false
    by runs few = grind (arith, nat_tests)

-- a site that stays after a refusal
stays : (old new : SiteState) (x : DeltaState) (count time : ℕ) (r : Refusal) → IsMade old x count time new (Err r) → deltas.IsUnchanged old.state new.state → deltas.IsUnchanged old.pending new.pending
    → IsUnchanged old new
stays old new x count time r made u v = record {
  site = made.site;
  names = made.names;
  state = u;
  pending = v;
  last_count = made.stay.last_count;
  last_time = made.stay.last_time;
  frames = made.frames;
}

module _ (old new : SiteState) (x : DeltaState) (o : Operation) (count time : ℕ) (agrees : DeltasAgree old.state x) (agrees_pending : DeltasAgree old.pending x)
    (limits : IsWithinLimits old.state.members) (limits_pending : IsWithinLimits old.pending.members) (there : IsWithinLimits x.members) (stands : IsDeltaOf x (o ∷ []))
    (exhausted : is_exhausted o ≡ false) (past_total : is_past_total o ≡ false)
    (counted : count ≡ max (count_used old.site o) old.last_count) (timed : time ≡ max (time_used old.site o) old.last_time) where
  abbrev meant : Meaning
  meant = within_limits (view_of old old.state) (view_of old old.pending) o

  -- done, where both have taken it in
  taken : IsMade old x count time new (Ok tt) → IsDone old meant new (Ok tt)
  taken made =
      let state = made.taken.0 in let pending = made.taken.1 in
      let is : meant ≡ Makes o =
      makes_it (view_of old old.state) (view_of old old.pending) o (not_full old old.state x o limits stands state.room)
      (not_full old old.pending x o limits_pending stands pending.room) (not_too_long x o there stands) exhausted past_total in
      subst (λ m. IsDone old m new (Ok tt)) (sym is) (inl (
        refl,
        record {
          site = made.site;
          names = made.names;
          state = record { change = x; stands = stands; agrees = agrees; joined = state.joined; ids = state.ids };
          pending = record { change = x; stands = stands; agrees = agrees_pending; joined = pending.joined; ids = pending.ids };
          last_count = made.numbers.last_count ∙ counted;
          last_time = made.numbers.last_time ∙ timed;
          frames = made.frames;
        },
      ))

  -- full, where one of both finds no room
  full : IsMade old x count time new (Err MembersFull) → IsDone old meant new (Err MembersFull)
  full made = by made.taken.1
    where
      stay : IsUnchanged old new
      stay = stays old new x count time MembersFull made made.taken.0.0 made.taken.0.1

      by : IsTooFullFor old.state x ⊎ IsTooFullFor old.pending x → IsDone old meant new (Err MembersFull)
      by (inl f) =
          refused_done old new meant MembersFull (full_means (view_of old old.state) (view_of old old.pending) o (inl (too_full old old.state x o limits stands f))) stay
      by (inr f) =
          refused_done old new meant MembersFull (full_means (view_of old old.state) (view_of old old.pending) o (inr (inl (too_full old old.pending x o limits_pending stands f)))) stay

  -- the result of the change is that of its meaning
  pub made_done : (result : Result (Unit {0}) Refusal) → IsMade old x count time new result → IsDone old meant new result
  made_done (Ok u) made = taken made
  made_done (Err NoSuchQueue) made = absurd made.taken
  made_done (Err AlreadyThere) made = absurd made.taken
  made_done (Err NotThere) made = absurd made.taken
  made_done (Err MembersFull) made = full made
  made_done (Err Exhausted) made = absurd made.taken
  made_done (Err TotalFull) made = absurd made.taken
  made_done (Err Memory) made =
      memory_done old new meant (limits_want (view_of old old.state) (view_of old old.pending) o past_total) (stays old new x count time Memory made made.taken.0 made.taken.1)
