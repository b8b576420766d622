-- The frame of a knowledge that fits in a frame fits the format.
use Rattle.std.proofs.Common.{◌≡◌, ◌≤◌, ◌<◌, ◌+◌, ◌==◌, ◌&&◌, ◌||◌, ◌⊎◌, ℕ, max, Bool, true, false, true≢false, [], ◌∷◌, Contains, Option, Some, None, IsSome, IfSome, is_some, if◌then◌else◌, refl, sym, ap, subst, ◌∙◌, arith, inl, inr}
use Rattle.std.specs.Option.{option_map, unwrap_or}
use Rattle.std.specs.FinMap as map
use Rattle.std.specs.FinSet as set
use Rattle.std.proofs.lemmas.Bool.Decides.{nat_tests}
use Rattle.general_lemmas.proofs.Membership.{first_in, in_any, in_some, later_in, some_in}
use Rattle.dots.specs.CountedCalls.{no_calls, same_calls}
use Rattle.dots.specs.declared.call_totals.CallTotals.{CallTotals}
use Rattle.dots.specs.declared.calls.Calls.{Calls}
use Rattle.dots.specs.declared.calls.Calls.TheVariants.{Completed, Abandoned}
use Rattle.dots.specs.declared.limits.TheConstants.{MOST_CALLS, QUEUES}
use Rattle.dots.specs.declared.member.Member.{Member}
use Rattle.dots.specs.DotSets.{run_count}
use Rattle.dots.specs.Values.{Dot, IsCount, IsPenalty, IsSite}
use Rattle.dots.specs.WithinLimits.{IsDot, IsLabel, IsPause}
use Rattle.operations.specs.Conditions.{fields_in}
use Rattle.operations.specs.Counts.{count_in, site_total}
use Rattle.operations.specs.FrameLimits.{FitsInFrame}
use Rattle.operations.specs.Knowledge.{Knowledge, asserts, field_of, is_asserted, is_named, known_dots, member_of, settings_of}
use Rattle.operations.specs.OperationLimits.{AreWithinLimits, IsWithinLimits}
use Rattle.operations.specs.Operations.{Operation, Field, SetPenalty, SetPause, SetLabel, SetRing, Add, Write, Remove, Count, penalty_field, pause_field, label_field, ring_field}
use Rattle.operations.specs.Registers.{Entry}
use Rattle.operations.specs.Totals.{IsTotal, Key}
use Rattle.operations.proofs.FieldLaws.{chosen, latest_in, latest_some}
use Rattle.operations.proofs.JoinedKnowledge.{member_some}
use Rattle.operations.proofs.KnownLaws.{known_dot}
use Rattle.operations.proofs.TotalsLaws.{counted_of}
use Rattle.operations.proofs.WithinLimitsLaws.{asserted_dot_is, member_of_is, named_dot_is}
use Rattle.member_orset.specs.Members.{HasField, Holding}
use Rattle.delta.specs.declared.frame.Frame.{Frame}
use Rattle.delta.specs.Standing.{IsDeltaOf}
use Rattle.delta.proofs.ShownDeltas.{live_is}
use Rattle.delta.proofs.StandingDeltas.{own_cells}
use Rattle.delta_codec.specs.Fitting.{FitsFormat}
use Rattle.delta_codec.specs.Parts.{AreInLimits, IsCell, IsEntry, IsField, IsRing}
use Rattle.delta_codec.specs.declared.limits.TheConstants.{VERSION}
use Rattle.delta_codec.proofs.CellLaws.{flags_few}

-- ---- fields

-- what was chosen, the operation gives
chosen_gives : {T : Type 0} (field : Field T) (dot : Dot) (o : Operation) (e : Entry T) → chosen field dot o ≡ Some e → field o ≡ Some e
chosen_gives {T} field dot o e h = by (asserts dot o) h
  where
    by : (b : Bool) → (if b then field o else None) ≡ Some e → field o ≡ Some e
    by true h = h
    by false h = absurd (cc)

-- each value of a field is one that an operation gives
field_within : {T : Type 0} (IsValue : T → Type 0) (field : Field T) (k : Knowledge) (dot : Dot) → ((o : Operation) (e : Entry T) → Contains k o → field o ≡ Some e → IsEntry IsValue e)
    → IsField IsValue (field_of field k dot)
field_within {T} IsValue field k dot given = by (field_of field k dot) refl
  where
    by : (o : Option (Entry T)) → field_of field k dot ≡ o → IfSome o (IsEntry IsValue)
    by None e = tt
    by (Some entry) e =
        let o = in_some (chosen field dot) k entry (latest_in (settings_of field k dot) entry e) in given o.0 entry o.1 (chosen_gives field dot o.0 entry o.2)

-- an entry that is there
one_entry : {T : Type 0} (IsValue : T → Type 0) (x e : Entry T) → IsEntry IsValue x → Some x ≡ Some e → IsEntry IsValue e
one_entry IsValue x e is h = let same : x ≡ e = cc in subst (IsEntry IsValue) same is

penalty_within : (o : Operation) (e : Entry ℕ) → IsWithinLimits o → penalty_field o ≡ Some e → IsEntry IsPenalty e
penalty_within (Add dot member stamp penalty pause label older) e is h = one_entry IsPenalty _ e (record { stamp = is.stamp_is; value = is.penalty_is }) h
penalty_within (Write dots (SetPenalty n) stamp older) e is h = one_entry IsPenalty _ e (record { stamp = is.stamp_is; value = is.setting_is }) h
penalty_within (Write dots (SetPause p) stamp older) e is h = absurd (cc)
penalty_within (Write dots (SetLabel l) stamp older) e is h = absurd (cc)
penalty_within (Write dots (SetRing r) stamp older) e is h = absurd (cc)
penalty_within (Remove dots) e is h = absurd (cc)
penalty_within (Count site queue calls total) e is h = absurd (cc)

pause_within : (o : Operation) (e : Entry _) → IsWithinLimits o → pause_field o ≡ Some e → IsEntry IsPause e
pause_within (Add dot member stamp penalty pause label older) e is h = one_entry IsPause _ e (record { stamp = is.stamp_is; value = is.pause_is }) h
pause_within (Write dots (SetPenalty n) stamp older) e is h = absurd (cc)
pause_within (Write dots (SetPause p) stamp older) e is h = one_entry IsPause _ e (record { stamp = is.stamp_is; value = is.setting_is }) h
pause_within (Write dots (SetLabel l) stamp older) e is h = absurd (cc)
pause_within (Write dots (SetRing r) stamp older) e is h = absurd (cc)
pause_within (Remove dots) e is h = absurd (cc)
pause_within (Count site queue calls total) e is h = absurd (cc)

label_within : (o : Operation) (e : Entry _) → IsWithinLimits o → label_field o ≡ Some e → IsEntry IsLabel e
label_within (Add dot member stamp penalty pause label older) e is h = one_entry IsLabel _ e (record { stamp = is.stamp_is; value = is.label_is }) h
label_within (Write dots (SetPenalty n) stamp older) e is h = absurd (cc)
label_within (Write dots (SetPause p) stamp older) e is h = absurd (cc)
label_within (Write dots (SetLabel l) stamp older) e is h = one_entry IsLabel _ e (record { stamp = is.stamp_is; value = is.setting_is }) h
label_within (Write dots (SetRing r) stamp older) e is h = absurd (cc)
label_within (Remove dots) e is h = absurd (cc)
label_within (Count site queue calls total) e is h = absurd (cc)

ring_within : (o : Operation) (e : Entry Bool) → IsWithinLimits o → ring_field o ≡ Some e → IsEntry IsRing e
ring_within (Add dot member stamp penalty pause label older) e is h = absurd (cc)
ring_within (Write dots (SetPenalty n) stamp older) e is h = absurd (cc)
ring_within (Write dots (SetPause p) stamp older) e is h = absurd (cc)
ring_within (Write dots (SetLabel l) stamp older) e is h = absurd (cc)
ring_within (Write dots (SetRing r) stamp older) e is h = one_entry IsRing _ e (record { stamp = is.stamp_is; value = tt }) h
ring_within (Remove dots) e is h = absurd (cc)
ring_within (Count site queue calls total) e is h = absurd (cc)

fields_within : (k : Knowledge) (dot : Dot) → AreWithinLimits k → AreInLimits (fields_in k dot)
fields_within k dot within = record {
  penalty = field_within IsPenalty penalty_field k dot (λ o e here. penalty_within o e (within o here));
  pause = field_within IsPause pause_field k dot (λ o e here. pause_within o e (within o here));
  label = field_within IsLabel label_field k dot (λ o e here. label_within o e (within o here));
  ring = field_within IsRing ring_field k dot (λ o e here. ring_within o e (within o here));
}

-- a field that an operation gives of a dot that it asserts is set
is_set : {T : Type 0} (field : Field T) (k : Knowledge) (dot : Dot) (o : Operation) (e : Entry T) → Contains k o → asserts dot o ≡ true → field o ≡ Some e → field_of field k dot ≡ None → ⊥
is_set {T} field k dot o e here asserted gives none =
    not_some (subst IsSome none (latest_some (settings_of field k dot) e (some_in (chosen field dot) k o e here (ap (λ b. if b then field o else None) asserted ∙ gives))))
  where
    not_some : IsSome {T = Entry T} None → ⊥
    not_some h = (cc)

-- a dot that some operation asserts has a field
some_field : (k : Knowledge) (dot : Dot) → is_asserted k dot ≡ true → HasField (fields_in k dot)
some_field k dot h unset = let o = in_any (asserts dot) k h in by o.0 o.1 o.2
  where
    by : (o : Operation) → Contains k o → asserts dot o ≡ true → ⊥
    by (Add made member stamp penalty pause label older) here asserted =
        is_set penalty_field k dot (Add made member stamp penalty pause label older) (record { stamp = stamp; value = penalty }) here asserted refl (ap (λ f. f.penalty) unset)
    by (Write dots (SetPenalty n) stamp older) here asserted =
        is_set penalty_field k dot (Write dots (SetPenalty n) stamp older) (record { stamp = stamp; value = n }) here asserted refl (ap (λ f. f.penalty) unset)
    by (Write dots (SetPause p) stamp older) here asserted =
        is_set pause_field k dot (Write dots (SetPause p) stamp older) (record { stamp = stamp; value = p }) here asserted refl (ap (λ f. f.pause) unset)
    by (Write dots (SetLabel l) stamp older) here asserted =
        is_set label_field k dot (Write dots (SetLabel l) stamp older) (record { stamp = stamp; value = l }) here asserted refl (ap (λ f. f.label) unset)
    by (Write dots (SetRing r) stamp older) here asserted =
        is_set ring_field k dot (Write dots (SetRing r) stamp older) (record { stamp = stamp; value = r }) here asserted refl (ap (λ f. f.ring) unset)
    by (Remove dots) here asserted = true≢false (sym asserted)
    by (Count site queue calls total) here asserted = true≢false (sym asserted)

-- ---- totals

-- a number of calls is within its limit, and of a site and a queue where it isn't zero
record IsCounted (site queue total : ℕ) : Type 0 where
  most : total ≤ MOST_CALLS
  site_is : 0 < total → IsSite site
  queue_is : 0 < total → queue < QUEUES

none_counted : (site queue total : ℕ) → total ≡ 0 → IsCounted site queue total
none_counted site queue total h = record { most = omega (arith, h); site_is = λ some. absurd (omega (arith, h, some)); queue_is = λ some. absurd (omega (arith, h, some)) }

greater_counted : (site queue a b : ℕ) → IsCounted site queue a → IsCounted site queue b → IsCounted site queue (max a b)
greater_counted site queue a b x y = record {
  most = let p = x.most in let q = y.most in omega (arith, p, q);
  site_is = λ some. elim (either some) [ inl p ↦ x.site_is p | inr q ↦ y.site_is q ];
  queue_is = λ some. elim (either some) [ inl p ↦ x.queue_is p | inr q ↦ y.queue_is q ];
}
  where
    either : 0 < max a b → (0 < a) ⊎ (0 < b)
    either some = grind arith

operation_counted : (o : Operation) (site queue : ℕ) (calls : Calls) → IsWithinLimits o → IsCounted site queue (count_in site queue calls o)
operation_counted (Add dot member stamp penalty pause label older) site queue calls is = none_counted site queue 0 refl
operation_counted (Write dots setting stamp older) site queue calls is = none_counted site queue 0 refl
operation_counted (Remove dots) site queue calls is = none_counted site queue 0 refl
operation_counted (Count s q c total) site queue calls is = by (s == site) (q == queue) (same_calls c calls) refl refl
  where
    number : (m n : ℕ) → (m == n) ≡ true → m ≡ n
    number m n h = grind (arith, nat_tests)

    by : (x y z : Bool) → (s == site) ≡ x → (q == queue) ≡ y → IsCounted site queue (if x && (y && z) then total else 0)
    by false y z e f = none_counted site queue 0 refl
    by true false z e f = none_counted site queue 0 refl
    by true true false e f = none_counted site queue 0 refl
    by true true true e f = record {
      most = is.total_is;
      site_is = λ some. subst IsSite (number s site e) is.site_is;
      queue_is = λ some. subst (λ n. n < QUEUES) (number q queue f) is.queue_is;
    }

total_counted : (k : Knowledge) (site queue : ℕ) (calls : Calls) → AreWithinLimits k → IsCounted site queue (site_total k site queue calls)
total_counted [] site queue calls within = none_counted site queue 0 refl
total_counted (o ∷ k) site queue calls within =
    greater_counted site queue (count_in site queue calls o) (site_total k site queue calls)
    (operation_counted o site queue calls (within o (first_in o k)))
    (total_counted k site queue calls (λ p here. within p (later_in o k p here)))

total_is : (key : Key) (t : CallTotals) → IsCounted key.site key.queue t.completed → IsCounted key.site key.queue t.abandoned → 0 < t.completed + t.abandoned → IsTotal key t
total_is key t done gone some = record {
  site = elim either [ inl p ↦ done.site_is p | inr q ↦ gone.site_is q ];
  queue = elim either [ inl p ↦ done.queue_is p | inr q ↦ gone.queue_is q ];
  completed = done.most;
  abandoned = gone.most;
  counted = some;
}
  where
    either : (0 < t.completed) ⊎ (0 < t.abandoned)
    either = grind (arith, some)

-- ---- frames

module _ (frame : Frame) (k : Knowledge) (fits : FitsInFrame k) (is : IsDeltaOf frame.delta k) where
  known_is : (dot : Dot) → set.contains (known_dots k) dot ≡ true → IsDot dot
  known_is dot h = by (is_asserted k dot) refl (sym (known_dot k dot) ∙ h)
    where
      by : (b : Bool) → is_asserted k dot ≡ b → (b || is_named k dot) ≡ true → IsDot dot
      by true e h = asserted_dot_is k fits.within dot e
      by false e h = named_dot_is k fits.within dot h

  -- a live dot has the member and the fields that the knowledge gives it
  record IsGiven (dot : Dot) (held : Holding) : Type 0 where
    member : Member
    is_member : member_of k dot ≡ Some member
    holding : (member, fields_in k dot) ≡ held

  given : (dot : Dot) (held : Holding) → map.get frame.delta.members.live dot ≡ Some held → IsGiven dot held
  given dot held h = by (is_named k dot) (member_of k dot) refl (sym (live_is frame.delta k is dot) ∙ h)
    where
      one : (x y : Holding) → Some x ≡ Some y → x ≡ y
      one x y e = cc

      by : (n : Bool) (m : Option Member) → member_of k dot ≡ m → (if n then None else option_map (λ x. (x, fields_in k dot)) m) ≡ Some held → IsGiven dot held
      by true m e l = absurd (cc)
      by false None e l = absurd (cc)
      by false (Some x) e l = record { member = x; is_member = e; holding = one (x, fields_in k dot) held l }

  asserted : (dot : Dot) (held : Holding) → IsGiven dot held → is_asserted k dot ≡ true
  asserted dot held g = sym (member_some k dot) ∙ ap is_some g.is_member

  cell_is : (dot : Dot) (held : Holding) → IsGiven dot held → IsCell VERSION (dot, held)
  cell_is dot held g =
      let m = member_of_is k fits.within dot g.member g.is_member in
      subst (λ h. IsCell VERSION (dot, h)) g.holding (record {
        dot = m.0;
        member = m.1;
        fields = record { within = fields_within k dot fits.within; some = some_field k dot (asserted dot held g); of_version = flags_few (fields_in k dot) };
      })

  pub fits_format : IsSite frame.maker → IsCount frame.number → FitsFormat frame
  fits_format maker number =
      let members = frame.delta.members in
      let as_many = own_cells frame.delta k is in
      let runs_are : run_count members.known ≡ run_count (known_dots k) = ap run_count is.dots in
      let few_runs = fits.small.runs in
      let few_cells = fits.small.cells in
      record {
        maker = maker;
        number = number;
        dots = λ dot h. known_is dot (sym (ap (λ s. set.contains s dot) is.dots) ∙ h);
        runs = omega (arith, runs_are, few_runs);
        cells = λ dot held h. cell_is dot held (given dot held h);
        known = λ dot held h.
            ap (λ s. set.contains s dot) is.dots ∙ known_dot k dot ∙ ap (λ b. b || is_named k dot) (asserted dot held (given dot held h));
        few = omega (arith, as_many, few_cells);
        totals = λ key totals h.
            let same = sym (is.totals key.site key.queue) ∙ ap (λ o. unwrap_or o no_calls) h in
            total_is key totals
            (subst (λ t. IsCounted key.site key.queue t.completed) same (total_counted k key.site key.queue Completed fits.within))
            (subst (λ t. IsCounted key.site key.queue t.abandoned) same (total_counted k key.site key.queue Abandoned fits.within))
            (counted_of totals (is.no_zeros key totals h));
      }
