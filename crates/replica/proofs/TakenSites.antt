-- What a replica keeps and stands for once it has taken a frame, and for which causes it refuses one.
use Rattle.std.proofs.Common.{◌≡◌, ◌≤◌, ◌<◌, ◌⊎◌, ◌↔◌, inl, inr, ℕ, Bool, true, false, ◌++◌, Option, Some, None, Contains, Result, Ok, Err, length, refl, sym, ap, subst, ◌∙◌, if◌then◌else◌, arith}
use Rattle.std.specs.Prelude.{nat_eq, nat_lt}
use Rattle.std.specs.FinMap as map
use Rattle.std.specs.FinSet as set
use Rattle.std.proofs.lemmas.Bool.Decides.{nat_tests}
use Rattle.std.proofs.lemmas.List.Elements.{Contains-append_cases, Contains-append_left, Contains-append_right}
use Rattle.dots.specs.declared.limits.TheConstants.{MOST_LIVE, MOST_RUNS}
use Rattle.operations.specs.Conditions.{ConditionsAgree}
use Rattle.dots.specs.DotSets.{run_count}
use Rattle.operations.specs.Knowledge.{Knowledge, known_dots, visible_dots}
use Rattle.operations.specs.Operations.{Operation}
use Rattle.operations.specs.Registers.{Entry}
use Rattle.operations.proofs.JoinedKnowledge.{known_both}
use Rattle.dots.proofs.Unions.{union_comm}
use Rattle.operations.proofs.VisibleLaws.{same_visible}
use Rattle.member_orset.specs.declared.join_fault.JoinFault.{JoinFault}
use Rattle.member_orset.specs.declared.join_fault.JoinFault.TheVariants as join
use Rattle.member_orset.specs.Members.{Holding, IsWithinLimits, cells_joined, condition_at, condition_of, runs_joined}
use Rattle.delta.specs.DeltaStates as deltas
use Rattle.delta.specs.DeltaStates.{DeltaState}
use Rattle.delta.specs.Joining.{DeltasAgree, IsJoinOf, IsPrepared, IsRefusedJoin}
use Rattle.delta.specs.Standing.{IsDeltaOf}
use Rattle.delta.proofs.StandingDeltas.{cells_both, runs_both}
use Rattle.replica.specs.declared.take_fault.TakeFault.{TakeFault}
use Rattle.replica.specs.declared.take_fault.TakeFault.TheVariants.{NoSuchQueue, NotMine, Conflict, CellsFull, RunsFull, Memory}
use Rattle.replica.specs.Changing.{KnowsUpTo}
use Rattle.replica.specs.Keeping.{AreInQueues, HasOwnStamps, IsKept, IsWrittenBy}
use Rattle.replica.specs.Site.{SiteState}
use Rattle.replica.specs.Standing.{StandsFor}
use Rattle.replica.specs.Steps as steps
use Rattle.replica.specs.Steps.{Outcome, SiteKnowledge, Taken}
use Rattle.replica.specs.Taking.{HasDotPast, HasNoneLater, HasStampPast, HasTakenDelta, IsMeantFault, IsNotMine, IsRefusedTake, IsWrittenPast, MayHear, MayTake, SpeaksOfStrangeQueue, take_fault_of}
use Rattle.operations.proofs.ConditionLaws.{agrees_with_none}
use Rattle.replica.proofs.Below.{below_joined, below_through, unchanged_condition}
use Rattle.replica.proofs.KeptJoins.{dots_joined, queues_joined, stamps_joined}
use Rattle.replica.proofs.StandingSites.{equal_same, taken_stands}

-- ---- what a delta says that a site may hear

-- of the site's own dots it knows none past the last count
pub up_to : (site last : ℕ) (d : DeltaState) → (HasDotPast site last d.members.known → ⊥) → KnowsUpTo site last d
up_to site last d none = record {
  counts = λ count some known. at count (λ past. none (record { count = count; known_dot = known; past = past }));
}
  where
    at : (count : ℕ) → (last < count → ⊥) → count ≤ last
    at count no_more = omega arith

-- a register that isn't written past a time is written up to it
written_up_to : {T : Type 0} (site last : ℕ) (field : Option (Entry T)) → (IsWrittenPast site last field → ⊥) → IsWrittenBy site last field
written_up_to site last field none entry is =
    at (nat_eq entry.stamp.site site) entry.stamp.site entry.stamp.time refl (λ own past. none (record { entry = entry; set = is; own = own; past = past }))
  where
    at : (b : Bool) (s time : ℕ) → nat_eq s site ≡ b → (s ≡ site → last < time → ⊥) → (if b then time else 0) ≤ last
    at true s time e no_more = let own : s ≡ site = grind (arith, nat_tests) in let within = no_more own in omega arith
    at false s time e no_more = omega arith

-- a delta without later writes of a site has the site's stamps up to its last time
pub stamps_up_to : (site last : ℕ) (d : DeltaState) → (HasStampPast site last d.members → ⊥) → HasOwnStamps site last d
stamps_up_to site last d none dot held live = record {
  penalty = written_up_to site last held.1.penalty (λ w. none (record { dot = dot; held = held; live = live; past = inl w }));
  pause = written_up_to site last held.1.pause (λ w. none (record { dot = dot; held = held; live = live; past = inr (inl w) }));
  label = written_up_to site last held.1.label (λ w. none (record { dot = dot; held = held; live = live; past = inr (inr (inl w)) }));
  ring = written_up_to site last held.1.ring (λ w. none (record { dot = dot; held = held; live = live; past = inr (inr (inr w)) }));
}

-- a delta without foreign queues is of the site's queues
pub in_queues : (n : ℕ) (d : DeltaState) → (SpeaksOfStrangeQueue n d → ⊥) → AreInQueues n d
in_queues n d none = record {
  members = λ dot held live. at held.0.queue (λ strange. none (inl (record { dot = dot; held = held; live = live; strange = strange })));
  totals = λ key totals counted. at key.queue (λ strange. none (inr (record { key = key; totals = totals; counted = counted; strange = strange })));
}
  where
    at : (q : ℕ) → (n ≤ q → ⊥) → q < n
    at q within = omega arith

-- what a replica keeps stays where it takes what it may hear
pub taken_kept : (s : SiteState) (d state : DeltaState) → IsKept s → MayHear s d → DeltasAgree s.state d → IsJoinOf s.state d state
    → IsKept (record { site = s.site; names = s.names; state = state; pending = s.pending; last_count = s.last_count; last_time = s.last_time; frames = s.frames })
taken_kept s d state kept hears agree j = record {
  own_dots = dots_joined s.site s.last_count s.state d state kept.own_dots (up_to s.site s.last_count d (λ past. hears.own (inl (inl past)))) j;
  own_stamps = stamps_joined s.site s.last_time s.state d state kept.own_stamps (stamps_up_to s.site s.last_time d (λ past. hears.own (inl (inr past)))) j;
  pending_stamps = kept.pending_stamps;
  below = below_through s.pending s.state state kept.below (below_joined s.state d state agree j);
  state_queues = queues_joined (length s.names) s.state d state kept.state_queues (in_queues (length s.names) d hears.queues) j;
  pending_queues = kept.pending_queues;
  counts = kept.counts;
  times = kept.times;
  frames = kept.frames;
}

-- ---- what was prepared agrees

-- what a delta has prepared agrees with it, also where nothing is known
pub prepared_agrees : (state d : DeltaState) → IsWithinLimits d.members → IsPrepared state d → DeltasAgree state d
prepared_agrees state d limits ready dot = by (map.get d.members.live dot) (set.contains d.members.known dot) refl refl
  where
    agree : set.contains d.members.known dot ≡ true → ConditionsAgree (condition_of state.members dot) (condition_of d.members dot)
    agree here = (ready.members (λ nothing. absurd (let none = ap (λ k. set.contains k dot) nothing ∙ set.contains-empty _ dot in cc))).agree dot

    by : (o : Option Holding) (known : Bool) → map.get d.members.live dot ≡ o → set.contains d.members.known dot ≡ known → ConditionsAgree (condition_of state.members dot) (condition_of d.members dot)
    by o true e f = agree f
    by (Some held) false e f = agree (limits.held dot held e).known
    by None false e f = subst (ConditionsAgree (condition_of state.members dot)) (sym (λ i. condition_at (e i) (f i))) (agrees_with_none (condition_of state.members dot))

-- what agrees with a delta that says the same agrees with the one before
pub agrees_before : (old same d : DeltaState) → deltas.IsUnchanged old same → DeltasAgree same d → DeltasAgree old d
agrees_before old same d u agree dot = subst (λ c. ConditionsAgree c (condition_of d.members dot)) (unchanged_condition old same u dot) (agree dot)

-- a delta says the same as it does
pub unchanged_self : (d : DeltaState) → deltas.IsUnchanged d d
unchanged_self d = record { members = record { known = refl; live = refl; ids = refl; spent = refl; retired = refl }; totals = refl }

-- ---- refusals

-- the fault of a join by that of a take; `Memory` for those that no join has
back : TakeFault → JoinFault
back NoSuchQueue = join.Memory
back NotMine = join.Memory
back Conflict = join.Conflict
back CellsFull = join.CellsFull
back RunsFull = join.RunsFull
back Memory = join.Memory

back_is : (f : JoinFault) → back (take_fault_of f) ≡ f
unfolding back
back_is join.Conflict = refl
back_is join.CellsFull = refl
back_is join.RunsFull = refl
back_is join.Memory = refl

-- two faults of joins are one where those of takes are
one_fault : (f g : JoinFault) → take_fault_of f ≡ take_fault_of g → f ≡ g
one_fault f g e = sym (back_is f) ∙ ap back e ∙ back_is g

not_join : (f : JoinFault) → (take_fault_of f ≡ NoSuchQueue → ⊥) × (take_fault_of f ≡ NotMine → ⊥)
not_join join.Conflict = (λ e. (cc), λ e. (cc))
not_join join.CellsFull = (λ e. (cc), λ e. (cc))
not_join join.RunsFull = (λ e. (cc), λ e. (cc))
not_join join.Memory = (λ e. (cc), λ e. (cc))

-- a frame isn't heard
abbrev pub unheard : TakeFault → Result (Unit {0}) TakeFault
unheard fault = Err fault

module _ (s : SiteState) (d : DeltaState) where
  -- the refusals of what a site may hear are those of the join
  refusals_heard : (P : TakeFault → Type 0) (Q : JoinFault → Type 0) → MayHear s d → IsRefusedJoin s.state d Q → ((f : JoinFault) → P (take_fault_of f) ↔ Q f)
      → (P NoSuchQueue → ⊥) → (P NotMine → ⊥) → IsRefusedTake s d P
  refusals_heard P Q hears refused same no_strange no_own = record {
    no_such_queue = (λ p. absurd (no_strange p), λ strange. absurd (hears.queues strange));
    not_mine = (λ p. absurd (no_own p), λ own. absurd (hears.own own.1));
    conflict = (λ p. (hears, refused.conflict.0 ((same join.Conflict).0 p)), λ w. (same join.Conflict).1 (refused.conflict.1 w.1));
    cells_full = (
      λ p. let w = refused.cells_full.0 ((same join.CellsFull).0 p) in (record { hears = hears; agree = w.0 }, w.1),
      λ w. (same join.CellsFull).1 (refused.cells_full.1 (w.0.agree, w.1)),
    );
    runs_full = (
      λ p. let w = refused.runs_full.0 ((same join.RunsFull).0 p) in (record { hears = hears; agree = w.0 }, w.1, w.2),
      λ w. (same join.RunsFull).1 (refused.runs_full.1 (w.0.agree, w.1, w.2)),
    );
  }

  -- of a frame that was taken none stands
  pub refusals_taken : MayHear s d → (r : Result (Unit {0}) JoinFault) (u : Unit {0}) → r ≡ Ok u → IsRefusedJoin s.state d (λ f. r ≡ Err f) → IsRefusedTake s d (λ f. ⊥)
  refusals_taken hears r u done refused =
      refusals_heard (λ f. ⊥) (λ f. r ≡ Err f) hears refused (λ f. (λ p. absurd p, λ e. absurd (cc))) (λ p. p) (λ p. p)

  -- a site may take the delta of a frame that was taken
  pub may_take : MayHear s d → DeltasAgree s.state d → (r : Result (Unit {0}) JoinFault) (u : Unit {0}) → r ≡ Ok u → IsRefusedJoin s.state d (λ f. r ≡ Err f) → MayTake s d
  may_take hears agree r u done refused = record {
    joins = record { hears = hears; agree = agree };
    cells = few;
    runs = at (runs_joined s.state.members d.members) MOST_RUNS (λ many. never join.RunsFull (refused.runs_full.1 (agree, few, many)));
  }
    where
      at : (n m : ℕ) → (m < n → ⊥) → n ≤ m
      at n m h = omega arith

      never : (f : JoinFault) → r ≡ Err f → ⊥
      never f e = cc

      few : cells_joined s.state.members d.members ≤ MOST_LIVE
      few = at (cells_joined s.state.members d.members) MOST_LIVE (λ many. never join.CellsFull (refused.cells_full.1 (agree, many)))

  -- of one that wasn't joined that of the join
  pub refusals_joined : MayHear s d → (r : Result (Unit {0}) JoinFault) (fault : JoinFault) → r ≡ Err fault → IsRefusedJoin s.state d (λ f. r ≡ Err f) → IsRefusedTake s d (λ f. take_fault_of fault ≡ f)
  refusals_joined hears r fault is refused =
      refusals_heard (λ f. take_fault_of fault ≡ f) (λ f. r ≡ Err f) hears refused
      (λ f. (λ p. is ∙ ap Err (one_fault fault f p), λ e. ap take_fault_of (same f e))) (not_join fault).0 (not_join fault).1
    where
      same : (f : JoinFault) → r ≡ Err f → fault ≡ f
      same f e = cc

  -- of one that isn't heard the site's own
  pub refusals_unheard : (fault : TakeFault) → (unheard fault ≡ unheard NoSuchQueue) ⊎ (unheard fault ≡ unheard NotMine) → (unheard fault ≡ unheard NoSuchQueue) ↔ SpeaksOfStrangeQueue (length s.names) d
      → (unheard fault ≡ unheard NotMine) ↔ ((SpeaksOfStrangeQueue (length s.names) d → ⊥) × IsNotMine s d) → IsRefusedTake s d (λ f. fault ≡ f)
  refusals_unheard fault only strange own = record {
    no_such_queue = (λ e. strange.0 (ap unheard e), λ w. same NoSuchQueue (strange.1 w));
    not_mine = (λ e. own.0 (ap unheard e), λ w. same NotMine (own.1 w));
    conflict = (λ e. absurd (other Conflict e (λ h. (cc)) (λ h. (cc))), λ w. absurd (deaf w.0));
    cells_full = (λ e. absurd (other CellsFull e (λ h. (cc)) (λ h. (cc))), λ w. absurd (deaf w.0.hears));
    runs_full = (λ e. absurd (other RunsFull e (λ h. (cc)) (λ h. (cc))), λ w. absurd (deaf w.0.hears));
  }
    where
      same : (f : TakeFault) → unheard fault ≡ unheard f → fault ≡ f
      same f e = cc

      other : (f : TakeFault) → fault ≡ f → (f ≡ NoSuchQueue → ⊥) → (f ≡ NotMine → ⊥) → ⊥
      other f e a b = elim only [ inl h ↦ a (sym e ∙ same NoSuchQueue h) | inr h ↦ b (sym e ∙ same NotMine h) ]

      deaf : MayHear s d → ⊥
      deaf hears = elim only [ inl h ↦ hears.queues (strange.0 h) | inr h ↦ hears.own (own.0 h).1 ]

-- ---- what is meant

-- a knowledge behind another is one of the same operations as before it
behind : (k l : Knowledge) (o : Operation) → Contains (k ++ l) o → Contains (l ++ k) o
behind k l o h = elim (Contains-append_cases k l o h) [ inl a ↦ Contains-append_right l k o a | inr b ↦ Contains-append_left l k o b ]

module _ (old : SiteState) (d : DeltaState) (s : SiteKnowledge) (k : Knowledge) (stands : StandsFor old s) (says : IsDeltaOf d k) where
  -- the sizes of the join are those of what is known together
  cells_are : cells_joined old.state.members d.members ≡ set.len (visible_dots (k ++ s.known))
  cells_are = cells_both old.state d s.known k stands.known says ∙ ap set.len (same_visible (s.known ++ k) (k ++ s.known) (λ o. (behind s.known k o, behind k s.known o)))

  runs_are : runs_joined old.state.members d.members ≡ run_count (known_dots (k ++ s.known))
  runs_are =
      runs_both old.state d s.known k stands.known says
      ∙ ap run_count (known_both s.known k ∙ union_comm (known_dots s.known) (known_dots k) ∙ sym (known_both k s.known))

  -- the outcome of a take, by two tests
  abbrev outcome_by : Bool → Bool → SiteKnowledge × Outcome
  outcome_by a b = if a then (s, steps.CellsFull) else if b then (s, steps.RunsFull) else (record { known = k ++ s.known; buffer = s.buffer; frames = s.frames }, Taken)

  -- a take is done if there is room
  is_taken : cells_joined old.state.members d.members ≤ MOST_LIVE → runs_joined old.state.members d.members ≤ MOST_RUNS
      → steps.take s k ≡ (record { known = k ++ s.known; buffer = s.buffer; frames = s.frames }, Taken)
  is_taken few short = λ i. outcome_by (within MOST_LIVE (set.len (visible_dots (k ++ s.known))) (subst (λ n. n ≤ MOST_LIVE) cells_are few) i) (within MOST_RUNS (run_count (known_dots (k ++ s.known))) (subst (λ n. n ≤ MOST_RUNS) runs_are short) i)
    where
      within : (m n : ℕ) → n ≤ m → nat_lt m n ≡ false
      within m n h = grind (arith, nat_tests)

  -- a take is refused if there are too many live dots
  pub many_cells : MOST_LIVE < cells_joined old.state.members d.members → steps.take s k ≡ (s, steps.CellsFull)
  many_cells many = ap (λ b. outcome_by b (nat_lt MOST_RUNS (run_count (known_dots (k ++ s.known))))) (past MOST_LIVE (set.len (visible_dots (k ++ s.known))) (subst (λ n. MOST_LIVE < n) cells_are many))
    where
      past : (m n : ℕ) → m < n → nat_lt m n ≡ true
      past m n h = grind (arith, nat_tests)

  pub many_runs : cells_joined old.state.members d.members ≤ MOST_LIVE → MOST_RUNS < runs_joined old.state.members d.members → steps.take s k ≡ (s, steps.RunsFull)
  many_runs few many =
      λ i. outcome_by (within MOST_LIVE (set.len (visible_dots (k ++ s.known))) (subst (λ n. n ≤ MOST_LIVE) cells_are few) i) (past MOST_RUNS (run_count (known_dots (k ++ s.known))) (subst (λ n. MOST_RUNS < n) runs_are many) i)
    where
      within : (m n : ℕ) → n ≤ m → nat_lt m n ≡ false
      within m n h = grind (arith, nat_tests)

      past : (m n : ℕ) → m < n → nat_lt m n ≡ true
      past m n h = grind (arith, nat_tests)

  -- a refusal of the join is what is meant
  pub fault_meant : (r : Result (Unit {0}) JoinFault) → IsRefusedJoin old.state d (λ f. r ≡ Err f)
      → (fault : JoinFault) → r ≡ Err fault → IsMeantFault (take_fault_of fault) (steps.take s k).1
  fault_meant r refused join.Conflict is = tt
  fault_meant r refused join.CellsFull is = ap (λ a. a.1) (many_cells (refused.cells_full.0 is).1)
  fault_meant r refused join.RunsFull is = let full = refused.runs_full.0 is in ap (λ a. a.1) (many_runs full.1 full.2)
  fault_meant r refused join.Memory is = tt

  -- a take that is done is what is meant
  pub take_meant : (new : SiteState) → MayTake old d → HasTakenDelta old d new → HasNoneLater old k → StandsFor new (steps.take s k).0 × ((steps.take s k).1 ≡ Taken)
  take_meant new may taken later =
      subst (λ (a : SiteKnowledge × Outcome). StandsFor new a.0 × (a.1 ≡ Taken)) (sym (is_taken may.cells may.runs)) (
        taken_stands old new s d k stands says may.joins.agree taken.state taken.site (equal_same old.pending new.pending taken.pending) taken.last_count taken.last_time taken.frames later.counts
            later.times,
        refl,
      )
