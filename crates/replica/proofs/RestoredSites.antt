-- The results of the tests of a replica's parts, and the replica once its buffer is joined into its state.
use Rattle.std.proofs.Common.{◌≡◌, ◌≢◌, ◌⊎◌, ◌↔◌, inl, inr, ℕ, suc, ◌<◌, ◌≤◌, Option, Some, None, Bool, true, false, if◌then◌else◌, Result, Ok, Err, IfErr, OnOk, length, refl, sym, ap, subst, ◌∙◌, arith}
use Rattle.std.specs.Prelude.{IsTrue, nat_eq, nat_le, not, is_some}
use Rattle.std.specs.FinMap as map
use Rattle.std.specs.FinSet as set
use Rattle.std.proofs.lemmas.Bool.Decides.{nat_tests}
use Rattle.dots.specs.declared.call_totals.CallTotals.{CallTotals}
use Rattle.dots.specs.declared.calls.Calls.{Calls}
use Rattle.dots.specs.declared.calls.Calls.TheVariants.{Completed, Abandoned}
use Rattle.dots.specs.DotSets.{IsPrefix}
use Rattle.dots.specs.Orders.{dot_cmp}
use Rattle.dots.specs.Values.{Dot}
use Rattle.dots.proofs.DotOrder.{dots_exact, dots_total}
use Rattle.operations.specs.Registers.{Entry}
use Rattle.operations.specs.Conditions.{Condition, DotFields, IsConditionBelow}
use Rattle.operations.specs.Totals.{Entries, InLimits, totals_of}
use Rattle.operations.proofs.ConditionOrder.{condition_below_both_ways}
use Rattle.operations.proofs.TotalsLaws.{by_numbers, joined_limits, read_alike}
use Rattle.site_totals.specs.Raising.{number_of}
use Rattle.member_orset.specs.Members.{Holding, IsWithinLimits, Members, condition_at, condition_of}
use Rattle.delta.specs.DeltaStates.{DeltaState, IsSame}
use Rattle.delta.specs.Joining.{DeltasAgree, IsJoinOf}
use Rattle.delta.specs.Joining.{IsRefusedJoin}
use Rattle.member_orset.specs.declared.join_fault.JoinFault.{JoinFault}
use Rattle.member_orset.specs.declared.join_fault.JoinFault.TheVariants as join
use Rattle.replica.specs.declared.restore_fault.RestoreFault.{RestoreFault}
use Rattle.replica.specs.declared.restore_fault.RestoreFault.TheVariants.{NumberTooLarge, OwnDots, OwnStamps, NoSuchQueue, Conflict, CellsFull, RunsFull, Memory}
use Rattle.replica.specs.Queues.{AreQueues}
use Rattle.replica.specs.Replicas.{IsReplica}
use Rattle.replica.specs.Restoring.{IsJoinCause, IsPartCause, IsSound, restore_fault_of}
use Rattle.replica.specs.Site.{SiteState}
use Rattle.replica.proofs.KeptJoins.{dots_joined, queues_joined, stamps_joined}
use Rattle.replica.proofs.TakenSites.{in_queues, stamps_up_to, up_to}
use Rattle.replica.proofs.TakingIn.{copied_live}
use Rattle.replica.specs.Keeping.{AreInQueues, AreWrittenBy, HasOwnDots, HasOwnStamps, IsBelow, IsWrittenBy}
use Rattle.replica.specs.SiteViews.{own_time}
use Rattle.replica.specs.Taking.{HasDotPast, HasFieldPast, HasStampPast, HasStrangeMember, HasStrangeTotal, IsWrittenPast, SpeaksOfStrangeQueue}
use Rattle.replica.proofs.Below.{below_joined, below_self, joined_least, other_below_joined}

-- ---- own dots

-- the own dots that a test finds are those of the counts up to the last one
pub own_dots : (dots : set.FinSet dot_cmp) (site n last : ℕ) → IsPrefix dots site n → n ≡ last → (HasDotPast site last dots → ⊥)
    → (count : ℕ) → 1 ≤ count → set.contains dots (record { site = site; count = count }) ≡ nat_le count last
own_dots dots site n last is e none count some = by (set.contains dots (record { site = site; count = count })) refl
  where
    by : (b : Bool) → set.contains dots (record { site = site; count = count }) ≡ b → b ≡ nat_le count last
    by true known = let within : (last < count → ⊥) = λ past. none (record { count = count; known_dot = known; past = past }) in at within
      where
        at : (last < count → ⊥) → true ≡ nat_le count last
        at within = grind (arith, nat_tests)
    by false known = let past : (count ≤ n → ⊥) = λ le. absurd (let has = is.has count some le in cc) in at past
      where
        at : (count ≤ n → ⊥) → false ≡ nat_le count last
        at past = grind (arith, nat_tests)

abbrev IsUpTo : set.FinSet dot_cmp → ℕ → ℕ → Type 0
IsUpTo dots site last = (count : ℕ) → 1 ≤ count → set.contains dots (record { site = site; count = count }) ≡ nat_le count last

le_itself : (n : ℕ) → nat_le n n ≡ true
le_itself n = grind (arith, nat_tests)

not_past : (n : ℕ) → nat_le (suc n) n ≡ false
not_past n = grind (arith, nat_tests)

below_is_le : (m n : ℕ) → m < n → nat_le (suc m) n ≡ true
below_is_le m n h = grind (arith, nat_tests)

-- where the own dots are these, the first counts that are all there are those up to the last one
pub own_prefix : (dots : set.FinSet dot_cmp) (site n last : ℕ) → IsPrefix dots site n → IsUpTo dots site last → n ≡ last
own_prefix dots site n last is own = same short long
  where
    short : n < last → ⊥
    short h = let there = own (suc n) (omega arith) ∙ below_is_le n last h in let ends = is.ends in cc

    long : last < n → ⊥
    long h = let there = sym (own (suc last) (omega arith)) ∙ is.has (suc last) (omega arith) (omega arith) in let none = not_past last in cc

    same : (n < last → ⊥) → (last < n → ⊥) → n ≡ last
    same short long = omega arith

-- if the own dots are these, none is past the last
pub own_not_past : (dots : set.FinSet dot_cmp) (site last : ℕ) → IsUpTo dots site last → HasDotPast site last dots → ⊥
own_not_past dots site last own past = let le = sym (own past.count (let p = past.past in omega arith)) ∙ past.known_dot in at past.count last past.past le
  where
    at : (count last : ℕ) → last < count → nat_le count last ≡ true → ⊥
    at count last h e = grind (arith, nat_tests)

-- ---- own stamps

own_time_past : (same : Bool) (time last : ℕ) → same ≡ true → last < time → (if same then time else 0) ≤ last → ⊥
own_time_past true time last e past h = omega arith
own_time_past false time last e past h = cc

not_written_past : {T : Type 0} (site last : ℕ) (field : Option (Entry T)) → IsWrittenBy site last field → IsWrittenPast site last field → ⊥
not_written_past site last field by past =
    own_time_past (nat_eq past.entry.stamp.site site) past.entry.stamp.time last (is_site past.entry.stamp.site site past.own) past.past (by past.entry past.set)
  where
    is_site : (s site : ℕ) → s ≡ site → nat_eq s site ≡ true
    is_site s site e = grind (arith, nat_tests)

pub stamps_not_past : (site last : ℕ) (d : DeltaState) → HasOwnStamps site last d → HasStampPast site last d.members → ⊥
stamps_not_past site last d own past = at (own past.dot past.held past.live) past.past
  where
    at : AreWrittenBy site last past.held.1 → HasFieldPast site last past.held.1 → ⊥
    at by (inl p) = not_written_past site last past.held.1.penalty by.penalty p
    at by (inr (inl p)) = not_written_past site last past.held.1.pause by.pause p
    at by (inr (inr (inl p))) = not_written_past site last past.held.1.label by.label p
    at by (inr (inr (inr p))) = not_written_past site last past.held.1.ring by.ring p

-- a test for a stamp past a time fails exactly where the own stamps are up to it
pub stamps_test : (site last : ℕ) (d : DeltaState) (b : Bool) → (IsTrue b ↔ HasStampPast site last d.members) → IsTrue (not b) ↔ HasOwnStamps site last d
stamps_test site last d true reports = (λ h. absurd cc, λ own. absurd (stamps_not_past site last d own (reports.0 refl)))
stamps_test site last d false reports = (λ h. stamps_up_to site last d (λ past. never (reports.1 past)), λ own. refl)
  where
    never : IsTrue false → ⊥
    never h = cc

-- ---- queues

pub not_strange : (n : ℕ) (d : DeltaState) → AreInQueues n d → SpeaksOfStrangeQueue n d → ⊥
not_strange n d within (inl s) = let p = s.strange in omega (arith, within.members s.dot s.held s.live)
not_strange n d within (inr s) = let p = s.strange in omega (arith, within.totals s.key s.totals s.counted)

-- where no total is of a strange queue, a test for a member of one fails exactly where all are of the queues
pub queues_test : (n : ℕ) (d : DeltaState) (b : Bool) → (HasStrangeTotal n d.totals.entries → ⊥) → (IsTrue b ↔ HasStrangeMember n d.members) → IsTrue (not b) ↔ AreInQueues n d
queues_test n d true none reports = (λ h. absurd cc, λ within. absurd (not_strange n d within (inl (reports.0 refl))))
queues_test n d false none reports = (λ h. in_queues n d (λ strange. elim strange [ inl s ↦ never (reports.1 s) | inr s ↦ none s ]), λ within. refl)
  where
    never : IsTrue false → ⊥
    never h = cc

-- ---- the join

-- a dot is known where it has a condition
known_at : (o : Option Holding) (known : Bool) → ((h : Holding) → o ≡ Some h → known ≡ true) → known ≡ is_some (condition_at o known)
known_at (Some h) known live = live h refl
known_at None true live = refl
known_at None false live = refl

known_by_condition : (m : Members) → IsWithinLimits m → (dot : Dot) → set.contains m.known dot ≡ is_some (condition_of m dot)
known_by_condition m limits dot = known_at (map.get m.live dot) (set.contains m.known dot) (λ h live. (limits.held dot h live).known)

-- deltas that are below each other, whose sets are within their limits and whose totals are, say the same
pub same_both_ways : (d e : DeltaState) → IsBelow d e → IsBelow e d → IsWithinLimits d.members → IsWithinLimits e.members
    → InLimits d.totals.entries → InLimits e.totals.entries → IsSame d e
same_both_ways d e p q limits others counted reported = record {
  conditions = conditions;
  known = set.same_set dots_total dots_exact d.members.known e.members.known (λ dot.
      known_by_condition d.members limits dot ∙ ap is_some (conditions dot) ∙ sym (known_by_condition e.members others dot));
  totals = read_alike d.totals.entries e.totals.entries counted reported (λ site queue.
      by_numbers (totals_of d.totals.entries site queue) (totals_of e.totals.entries site queue) (number Completed site queue) (number Abandoned site queue));
}
  where
    conditions : (dot : Dot) → condition_of d.members dot ≡ condition_of e.members dot
    conditions dot = condition_below_both_ways (condition_of d.members dot) (condition_of e.members dot) (p.conditions dot) (q.conditions dot)

    number : (calls : Calls) (site queue : ℕ) → number_of calls (totals_of d.totals.entries site queue) ≡ number_of calls (totals_of e.totals.entries site queue)
    number calls site queue = omega (arith, p.totals site queue calls, q.totals site queue calls)

-- the join of a delta with one below it says the same as it did
pub below_adds_nothing : (d x f : DeltaState) → DeltasAgree d x → IsJoinOf d x f → IsBelow x d → IsWithinLimits d.members → IsWithinLimits f.members
    → InLimits d.totals.entries → InLimits x.totals.entries → IsSame d f
below_adds_nothing d x f agree j below limits others counted reported =
    same_both_ways d f (below_joined d x f agree j) (joined_least d x f d agree j (below_self d) below) limits others counted
    (subst InLimits (sym j.totals) (joined_limits d.totals.entries x.totals.entries counted reported))

-- ---- what the parts make

-- a delta that says the same as one below a third is below it too
same_below : (p x f : DeltaState) → IsSame p x → IsBelow p f → IsBelow x f
same_below p x f same below = record {
  conditions = λ dot. subst (λ c. IsConditionBelow c (condition_of f.members dot)) (same.conditions dot) (below.conditions dot);
  totals = λ site queue calls. subst (λ (e : Entries). number_of calls (totals_of e site queue) ≤ number_of calls (totals_of f.totals.entries site queue)) same.totals (below.totals site queue calls);
}

-- sound parts make a replica: their buffer is joined into their state, and a copy of it is the buffer
pub restored_replica : (s : SiteState) (state pending : DeltaState) → IsSound s → DeltasAgree s.state s.pending → IsJoinOf s.state s.pending state → IsSame s.pending pending
    → IsWithinLimits state.members → IsWithinLimits pending.members → AreQueues s.names
    → IsReplica (record { site = s.site; names = s.names; state = state; pending = pending; last_count = s.last_count; last_time = s.last_time; frames = s.frames })
restored_replica s state pending sound agree j same limits pending_limits queues = record {
  kept = record {
    own_dots = dots_joined s.site s.last_count s.state s.pending state sound.dots.state (up_to s.site s.last_count s.pending sound.dots.pending) j;
    own_stamps = stamps_joined s.site s.last_time s.state s.pending state sound.stamps.state sound.stamps.pending j;
    pending_stamps = λ dot h live. sound.stamps.pending dot h (ap (λ m. map.get m dot) (copied_live s.pending pending same) ∙ live);
    below = same_below s.pending pending state same (other_below_joined s.state s.pending state agree j);
    state_queues = queues_joined (length s.names) s.state s.pending state sound.queues.state sound.queues.pending j;
    pending_queues = record {
      members = λ dot h live. sound.queues.pending.members dot h (ap (λ m. map.get m dot) (copied_live s.pending pending same) ∙ live);
      totals = λ key totals here. sound.queues.pending.totals key totals (ap (λ m. map.get m key) same.totals ∙ here);
    };
    counts = sound.numbers.count;
    times = sound.numbers.time;
    frames = sound.numbers.frames;
  };
  state_limits = limits;
  pending_limits = pending_limits;
  queues = queues;
}

-- ---- why they are refused

-- parts that lack something aren't sound
pub not_sound : (s : SiteState) (fault : RestoreFault) → IsPartCause s fault → IsSound s → ⊥
not_sound s NumberTooLarge lack sound = lack sound.numbers
not_sound s OwnDots lack sound = lack.1 sound.dots
not_sound s OwnStamps lack sound = lack.2 sound.stamps
not_sound s NoSuchQueue lack sound = lack.3 sound.queues
not_sound s Conflict lack sound = lack
not_sound s CellsFull lack sound = lack
not_sound s RunsFull lack sound = lack
not_sound s Memory lack sound = lack

-- parts that aren't sound have one first cause
pub one_lack : (s : SiteState) (f g : RestoreFault) → IsPartCause s f → IsPartCause s g → f ≡ g
one_lack s NumberTooLarge NumberTooLarge p q = refl
one_lack s NumberTooLarge OwnDots p q = absurd (p q.0)
one_lack s NumberTooLarge OwnStamps p q = absurd (p q.0)
one_lack s NumberTooLarge NoSuchQueue p q = absurd (p q.0)
one_lack s OwnDots NumberTooLarge p q = absurd (q p.0)
one_lack s OwnDots OwnDots p q = refl
one_lack s OwnDots OwnStamps p q = absurd (p.1 q.1)
one_lack s OwnDots NoSuchQueue p q = absurd (p.1 q.1)
one_lack s OwnStamps NumberTooLarge p q = absurd (q p.0)
one_lack s OwnStamps OwnDots p q = absurd (q.1 p.1)
one_lack s OwnStamps OwnStamps p q = refl
one_lack s OwnStamps NoSuchQueue p q = absurd (p.2 q.2)
one_lack s NoSuchQueue NumberTooLarge p q = absurd (q p.0)
one_lack s NoSuchQueue OwnDots p q = absurd (q.1 p.1)
one_lack s NoSuchQueue OwnStamps p q = absurd (q.2 p.2)
one_lack s NoSuchQueue NoSuchQueue p q = refl
one_lack s Conflict g p q = absurd p
one_lack s CellsFull g p q = absurd p
one_lack s RunsFull g p q = absurd p
one_lack s Memory g p q = absurd p
one_lack s f Conflict p q = absurd q
one_lack s f CellsFull p q = absurd q
one_lack s f RunsFull p q = absurd q
one_lack s f Memory p q = absurd q

-- a join that was refused has this cause
pub join_cause : (d x : DeltaState) (r : Result (Unit {0}) JoinFault) → IsRefusedJoin d x (λ f. r ≡ Err f) → (fault : JoinFault) → r ≡ Err fault → IsJoinCause d x (restore_fault_of fault)
join_cause d x r refused join.Conflict is = refused.conflict.0 is
join_cause d x r refused join.CellsFull is = refused.cells_full.0 is
join_cause d x r refused join.RunsFull is = refused.runs_full.0 is
join_cause d x r refused join.Memory is = tt

-- a join that has a cause was refused for it
pub join_found : (d x : DeltaState) (r : Result (Unit {0}) JoinFault) → IsRefusedJoin d x (λ f. r ≡ Err f) → (fault : RestoreFault) → fault ≢ Memory → IsJoinCause d x fault
    → (f : JoinFault) × (restore_fault_of f ≡ fault) × (r ≡ Err f)
join_found d x r refused Conflict some cause = (join.Conflict, refl, refused.conflict.1 cause)
join_found d x r refused CellsFull some cause = (join.CellsFull, refl, refused.cells_full.1 cause)
join_found d x r refused RunsFull some cause = (join.RunsFull, refl, refused.runs_full.1 cause)
join_found d x r refused Memory some cause = absurd (some refl)
join_found d x r refused NumberTooLarge some cause = absurd cause
join_found d x r refused OwnDots some cause = absurd cause
join_found d x r refused OwnStamps some cause = absurd cause
join_found d x r refused NoSuchQueue some cause = absurd cause
