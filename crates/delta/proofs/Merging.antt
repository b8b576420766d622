-- Joins of deltas, whatever they stand for.
use Rattle.std.proofs.Common.{sym, ap, subst, ◌∙◌}
use Rattle.std.specs.FinMap as map
use Rattle.std.specs.FinSet as set
use Rattle.operations.specs.Conditions.{ConditionsAgree, condition_joined}
use Rattle.operations.specs.Totals as totals
use Rattle.operations.proofs.ConditionLaws.{conditions_agree, conditions_assoc, conditions_comm, conditions_self, unknown_is_neutral}
use Rattle.operations.proofs.TotalsLaws.{joined_assoc, joined_comm, joined_empty, joined_self}
use Rattle.dots.proofs.Unions.{union_assoc, union_comm, union_empty, union_same}
use Rattle.member_orset.specs.Members.{condition_of}
use Rattle.delta.specs.DeltaStates.{DeltaState, IsEmpty, IsSame}
use Rattle.delta.specs.Joining.{DeltasAgree, IsJoinOf}

pub commutative : (x y joint turned : DeltaState) → DeltasAgree x y → IsJoinOf x y joint → IsJoinOf y x turned → IsSame joint turned
commutative x y joint turned agree j t = record {
  conditions = λ q. j.members.conditions q ∙ conditions_comm (condition_of x.members q) (condition_of y.members q) (agree q) ∙ sym (t.members.conditions q);
  known = j.members.known ∙ union_comm x.members.known y.members.known ∙ sym t.members.known;
  totals = j.totals ∙ joined_comm x.totals.entries y.totals.entries ∙ sym t.totals;
}

pub turned : (x y joint : DeltaState) → DeltasAgree x y → IsJoinOf x y joint → IsJoinOf y x joint
turned x y joint agree j = record {
  members = record {
    known = j.members.known ∙ union_comm x.members.known y.members.known;
    conditions = λ q. j.members.conditions q ∙ conditions_comm (condition_of x.members q) (condition_of y.members q) (agree q);
  };
  totals = j.totals ∙ joined_comm x.totals.entries y.totals.entries;
}

pub associative : (x y z xy yz left right : DeltaState) → IsJoinOf x y xy → IsJoinOf xy z left → IsJoinOf y z yz → IsJoinOf x yz right → IsSame left right
associative x y z xy yz left right a l b r = record {
  conditions = λ q.
      l.members.conditions q
      ∙ ap (λ c. condition_joined c (condition_of z.members q)) (a.members.conditions q)
      ∙ conditions_assoc (condition_of x.members q) (condition_of y.members q) (condition_of z.members q)
      ∙ ap (condition_joined (condition_of x.members q)) (sym (b.members.conditions q))
      ∙ sym (r.members.conditions q);
  known =
      l.members.known
      ∙ ap (λ s. set.union s z.members.known) a.members.known
      ∙ union_assoc x.members.known y.members.known z.members.known
      ∙ ap (set.union x.members.known) (sym b.members.known)
      ∙ sym r.members.known;
  totals =
      l.totals
      ∙ ap (λ e. totals.join_of e z.totals.entries) a.totals
      ∙ joined_assoc x.totals.entries y.totals.entries z.totals.entries
      ∙ ap (totals.join_of x.totals.entries) (sym b.totals)
      ∙ sym r.totals;
}

pub idempotent : (x copy joint : DeltaState) → IsSame x copy → IsJoinOf x copy joint → IsSame joint x
idempotent x copy joint same j = record {
  conditions = λ q. j.members.conditions q ∙ ap (condition_joined (condition_of x.members q)) (sym (same.conditions q)) ∙ conditions_self (condition_of x.members q);
  known = j.members.known ∙ ap (set.union x.members.known) (sym same.known) ∙ union_same x.members.known;
  totals = j.totals ∙ ap (totals.join_of x.totals.entries) (sym same.totals) ∙ joined_self x.totals.entries;
}

pub keeps_agreement : (x y z xy : DeltaState) → DeltasAgree x y → DeltasAgree x z → DeltasAgree y z → IsJoinOf x y xy → DeltasAgree xy z
keeps_agreement x y z xy a b c j q =
    subst (λ o. ConditionsAgree o (condition_of z.members q)) (sym (j.members.conditions q)) (conditions_agree (condition_of x.members q) (condition_of y.members q) (condition_of z.members q) (a q) (b q) (c q))

pub empty : (x nothing joint : DeltaState) → IsEmpty nothing → IsJoinOf x nothing joint → IsSame joint x
empty x nothing joint e j = record {
  conditions = λ q. j.members.conditions q ∙ ap (condition_joined (condition_of x.members q)) (e.conditions q) ∙ (unknown_is_neutral (condition_of x.members q)).1;
  known = j.members.known ∙ ap (set.union x.members.known) e.known ∙ union_empty x.members.known;
  totals = j.totals ∙ ap (totals.join_of x.totals.entries) e.totals ∙ joined_empty x.totals.entries;
}

pub into_empty : (x nothing joint : DeltaState) → IsEmpty nothing → IsJoinOf nothing x joint → IsSame joint x
into_empty x nothing joint e j = record {
  conditions = λ q. j.members.conditions q ∙ ap (λ c. condition_joined c (condition_of x.members q)) (e.conditions q);
  known = j.members.known ∙ ap (λ s. set.union s x.members.known) e.known ∙ union_comm set.empty x.members.known ∙ union_empty x.members.known;
  totals = j.totals ∙ ap (λ t. totals.join_of t x.totals.entries) e.totals ∙ joined_comm map.empty x.totals.entries ∙ joined_empty x.totals.entries;
}
