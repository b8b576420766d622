-- The order of deltas: a join is the least above both, and what is new to a delta agrees with all that is below it.
use Rattle.std.proofs.Common.{◌≡◌, ◌⊎◌, inl, inr, ℕ, max, Option, Some, None, refl, sym, ap, subst, ◌∙◌, arith}
use Rattle.std.specs.Option.{unwrap_or}
use Rattle.std.specs.FinMap as map
use Rattle.std.specs.FinSet as set
use Rattle.std.specs.declared.cmp.Ordering.TheVariants.{Less}
use Rattle.dots.specs.declared.call_totals.CallTotals.{CallTotals}
use Rattle.dots.specs.declared.calls.Calls.{Calls}
use Rattle.dots.specs.declared.calls.Calls.TheVariants.{Completed, Abandoned}
use Rattle.dots.specs.Values.{Dot}
use Rattle.dots.specs.Orders.{stamp_cmp}
use Rattle.operations.specs.Registers as registers
use Rattle.operations.specs.Registers.{Entry}
use Rattle.operations.specs.Conditions.{Condition, ConditionsAgree, Dead, DotFields, FieldsBelow, IsConditionBelow, Live}
use Rattle.dots.specs.CountedCalls.{no_calls}
use Rattle.operations.specs.Totals.{greater, key_cmp, totals_of}
use Rattle.operations.proofs.ConditionOrder.{condition_below_self, condition_below_through, conditions_least, not_less}
use Rattle.operations.proofs.RegisterLaws.{stamps_total}
use Rattle.operations.proofs.TotalsLaws.{totals_at_joined}
use Rattle.site_totals.specs.Raising.{number_of}
use Rattle.member_orset.specs.Members.{condition_at, condition_of}
use Rattle.delta.specs.DeltaStates as deltas
use Rattle.delta.specs.DeltaStates.{DeltaState, IsEmpty}
use Rattle.delta.specs.Joining.{DeltasAgree, IsJoinOf}
use Rattle.replica.specs.Changing.{FieldsNewer, IsNewTo, IsNewer, IsOlder, LeavesRoom}
use Rattle.replica.specs.Keeping.{IsBelow}

-- ---- the order

-- a delta is below itself
pub below_self : (d : DeltaState) → IsBelow d d
below_self d = record { conditions = λ dot. condition_below_self (condition_of d.members dot); totals = λ site queue calls. omega arith }

-- the order of deltas is transitive
pub below_through : (d e f : DeltaState) → IsBelow d e → IsBelow e f → IsBelow d f
below_through d e f p q = record {
  conditions = λ dot. condition_below_through (condition_of d.members dot) (condition_of e.members dot) (condition_of f.members dot) (p.conditions dot) (q.conditions dot);
  totals = λ site queue calls. omega (arith, p.totals site queue calls, q.totals site queue calls);
}

-- a number of the greater of two totals is the greater of both
number_greater : (calls : Calls) (p q : CallTotals) → number_of calls (greater p q) ≡ max (number_of calls p) (number_of calls q)
number_greater Completed p q = refl
number_greater Abandoned p q = refl

-- each number of a join is the greater of both
pub number_joined : (d x f : DeltaState) → IsJoinOf d x f → (site queue : ℕ) (calls : Calls)
    → number_of calls (totals_of f.totals.entries site queue) ≡ max (number_of calls (totals_of d.totals.entries site queue)) (number_of calls (totals_of x.totals.entries site queue))
number_joined d x f j site queue calls =
    ap (λ e. number_of calls (totals_of e site queue)) j.totals
    ∙ ap (number_of calls) (totals_at_joined d.totals.entries x.totals.entries (record { site = site; queue = queue }))
    ∙ number_greater calls (totals_of d.totals.entries site queue) (totals_of x.totals.entries site queue)

-- the first of two that agree is below their join
pub below_joined : (e x f : DeltaState) → DeltasAgree e x → IsJoinOf e x f → IsBelow e f
below_joined e x f agree j = record {
  conditions = λ dot. subst (IsConditionBelow (condition_of e.members dot)) (sym (j.members.conditions dot)) (conditions_least (condition_of e.members dot) (condition_of x.members dot) (agree dot)).first;
  totals = λ site queue calls. omega (arith, number_joined e x f j site queue calls);
}

-- the second of two deltas that agree is below their join
pub other_below_joined : (e x f : DeltaState) → DeltasAgree e x → IsJoinOf e x f → IsBelow x f
other_below_joined e x f agree j = record {
  conditions = λ dot. subst (IsConditionBelow (condition_of x.members dot)) (sym (j.members.conditions dot)) (conditions_least (condition_of e.members dot) (condition_of x.members dot) (agree dot)).second;
  totals = λ site queue calls. omega (arith, number_joined e x f j site queue calls);
}

-- the join of two that agree is below all that is above both
pub joined_least : (d x f g : DeltaState) → DeltasAgree d x → IsJoinOf d x f → IsBelow d g → IsBelow x g → IsBelow f g
joined_least d x f g agree j p q = record {
  conditions = λ dot.
      subst (λ c. IsConditionBelow c (condition_of g.members dot)) (sym (j.members.conditions dot))
      ((conditions_least (condition_of d.members dot) (condition_of x.members dot) (agree dot)).least (condition_of g.members dot) (p.conditions dot) (q.conditions dot));
  totals = λ site queue calls. omega (arith, number_joined d x f j site queue calls, p.totals site queue calls, q.totals site queue calls);
}

-- a delta that is below another stays so where the same is joined into both
pub joined_keeps_below : (d e x f g : DeltaState) → IsBelow d e → DeltasAgree d x → DeltasAgree e x → IsJoinOf d x f → IsJoinOf e x g → IsBelow f g
joined_keeps_below d e x f g p a b j k =
    joined_least d x f g a j (below_through d e g p (below_joined e x g b k)) (other_below_joined e x g b k)

-- no calls are none of either kind
number_none : (calls : Calls) → number_of calls no_calls ≡ 0
number_none Completed = refl
number_none Abandoned = refl

-- an empty delta has no calls
pub number_empty : (d : DeltaState) → IsEmpty d → (site queue : ℕ) (calls : Calls) → number_of calls (totals_of d.totals.entries site queue) ≡ 0
number_empty d empty site queue calls =
    ap (λ e. number_of calls (totals_of e site queue)) empty.totals
    ∙ ap (λ o. number_of calls (unwrap_or o no_calls)) (map.get-empty key_cmp (record { site = site; queue = queue }))
    ∙ number_none calls

-- an empty delta is below all
pub empty_below : (d e : DeltaState) → IsEmpty d → IsBelow d e
empty_below d e empty = record {
  conditions = λ dot. subst (λ c. IsConditionBelow c (condition_of e.members dot)) (sym (empty.conditions dot)) tt;
  totals = λ site queue calls. omega (arith, number_empty d empty site queue calls);
}

-- a delta that says the same has the same condition of each dot
pub unchanged_condition : (old new : DeltaState) → deltas.IsUnchanged old new → (dot : Dot) → condition_of new.members dot ≡ condition_of old.members dot
unchanged_condition old new same dot = λ i. condition_at (map.get (same.members.live i) dot) (set.contains (same.members.known i) dot)

-- an unchanged delta is below the old one, and the old one is below it
pub unchanged_below : (old new : DeltaState) → deltas.IsUnchanged old new → IsBelow old new × IsBelow new old
unchanged_below old new same = (
  record {
    conditions = λ dot. subst (IsConditionBelow (condition_of old.members dot)) (sym (unchanged_condition old new same dot)) (condition_below_self (condition_of old.members dot));
    totals = λ site queue calls. omega (arith, ap (λ e. number_of calls (totals_of e site queue)) same.totals);
  },
  record {
    conditions = λ dot. subst (IsConditionBelow (condition_of new.members dot)) (unchanged_condition old new same dot) (condition_below_self (condition_of new.members dot));
    totals = λ site queue calls. omega (arith, ap (λ e. number_of calls (totals_of e site queue)) same.totals);
  },
)

-- the order stays where both say the same
pub same_below : (d e f g : DeltaState) → IsBelow d e → deltas.IsUnchanged d f → deltas.IsUnchanged e g → IsBelow f g
same_below d e f g p a b = below_through f d g (unchanged_below d f a).1 (below_through d e g p (unchanged_below e g b).0)

-- ---- what is new to a delta

-- a register agrees with a newer one
newer_agrees : {T : Type 0} (x y : Option (Entry T)) → IsNewer x y → registers.RegistersAgree x y
newer_agrees x y newer a b e f same = absurd (not_less a.stamp (subst (λ s. stamp_cmp a.stamp s ≡ Less) (sym same) (newer.less a b e f)))

-- what is newer than a register is newer than all below that
newer_below : {T : Type 0} (x y z : Option (Entry T)) → registers.IsBelow x y → IsNewer y z → IsNewer x z
newer_below None y z p newer = record { less = λ a b e f. absurd (cc e) }
newer_below (Some c) None z p newer = absurd p
newer_below (Some c) (Some d) z (inl same) newer = record { less = λ a b e f. newer.less a b (ap Some (sym same) ∙ e) f }
newer_below (Some c) (Some d) z (inr less) newer = record {
  less = λ a b e f.
      let is : c ≡ a = cc in
      stamps_total.trans a.stamp d.stamp b.stamp (subst (λ (w : Entry _). stamp_cmp w.stamp d.stamp ≡ Less) is less) (newer.less d b refl f);
}

-- what is newer than fields is newer than all fields below them
fields_newer_below : (x y z : DotFields) → FieldsBelow x y → FieldsNewer y z → FieldsNewer x z
fields_newer_below x y z p newer = record {
  penalty = newer_below x.penalty y.penalty z.penalty p.penalty newer.penalty;
  pause = newer_below x.pause y.pause z.pause p.pause newer.pause;
  label = newer_below x.label y.label z.label p.label newer.label;
  ring = newer_below x.ring y.ring z.ring p.ring newer.ring;
}

-- a condition agrees with one for which it leaves room
room_agrees : (c y : Option Condition) → LeavesRoom c y → ConditionsAgree c y
room_agrees None y room = tt
room_agrees (Some Dead) y room = tt
room_agrees (Some (Live n g)) None room = tt
room_agrees (Some (Live n g)) (Some Dead) room = tt
room_agrees (Some (Live n g)) (Some (Live m f)) room = by (room m f refl)
  where
    at : (older : IsOlder (Some (Live n g)) m f) → ConditionsAgree (Some (Live n g)) (Some (Live m f))
    at older =
        let e = older.is in
        let one : n ≡ m = cc in
        let fields : older.fields ≡ g = cc in
        let newer : FieldsNewer g f = subst (λ w. FieldsNewer w f) fields older.newer in (
          one,
          record {
            penalty = newer_agrees g.penalty f.penalty newer.penalty;
            pause = newer_agrees g.pause f.pause newer.pause;
            label = newer_agrees g.label f.label newer.label;
            ring = newer_agrees g.ring f.ring newer.ring;
          },
        )

    by : (Some (Live n g) ≡ None) ⊎ IsOlder (Some (Live n g)) m f → ConditionsAgree (Some (Live n g)) (Some (Live m f))
    by (inl e) = absurd (cc)
    by (inr older) = at older

-- what is below a condition that leaves room leaves it too
room_below : (b c y : Option Condition) → IsConditionBelow b c → LeavesRoom c y → LeavesRoom b y
room_below None c y p room m f e = inl refl
room_below (Some b) None y p room m f e = absurd (none b p)
  where
    none : (b : Condition) → IsConditionBelow (Some b) None → ⊥
    none (Live m f) h = h
    none Dead h = h
room_below (Some Dead) (Some (Live n g)) y p room m f e = absurd p
room_below (Some Dead) (Some Dead) y p room m f e = elim (room m f e) [
  | inl q ↦ absurd (cc)
  | inr older ↦ absurd (let no = older.is in cc)
]
room_below (Some (Live l k)) (Some Dead) y p room m f e = elim (room m f e) [
  | inl q ↦ absurd (cc)
  | inr older ↦ absurd (let no = older.is in cc)
]
room_below (Some (Live l k)) (Some (Live n g)) y p room m f e = by (room m f e)
  where
    at : IsOlder (Some (Live n g)) m f → IsOlder (Some (Live l k)) m f
    at older =
        let is = older.is in
        let one : n ≡ m = cc in
        let fields : older.fields ≡ g = cc in
        record {
          fields = k;
          is = λ i. Some (Live ((p.0 ∙ one) i) k);
          newer = fields_newer_below k g f p.1 (subst (λ w. FieldsNewer w f) fields older.newer);
        }

    by : (Some (Live n g) ≡ None) ⊎ IsOlder (Some (Live n g)) m f → (Some (Live l k) ≡ None) ⊎ IsOlder (Some (Live l k)) m f
    by (inl e) = absurd (cc)
    by (inr older) = inr (at older)

-- what is new to a delta agrees with it
pub new_agrees : (e x : DeltaState) → IsNewTo e x → DeltasAgree e x
new_agrees e x new dot = room_agrees (condition_of e.members dot) (condition_of x.members dot) (new.room dot)

-- a change that is new to a delta is new to all deltas below it
pub below_new : (d e x : DeltaState) → IsBelow d e → IsNewTo e x → IsNewTo d x
below_new d e x p new = record { room = λ dot. room_below (condition_of d.members dot) (condition_of e.members dot) (condition_of x.members dot) (p.conditions dot) (new.room dot) }

-- with which it agrees too
pub below_agrees : (d e x : DeltaState) → IsBelow d e → IsNewTo e x → DeltasAgree d x
below_agrees d e x p new = new_agrees d x (below_new d e x p new)
