-- What stands for two knowledges together, for none, and for knowledges of the same operations.
use Rattle.std.proofs.Common.{◌≡◌, false, ◌||◌, cond, [], ◌++◌, Option, Some, None, is_some, refl, sym, ap, ◌∙◌, arith}
use Rattle.std.specs.Option.{unwrap_or}
use Rattle.std.specs.FinMap as map
use Rattle.std.specs.FinSet as set
use Rattle.std.proofs.lemmas.Bool.Decides.{nat_tests}
use Rattle.std.proofs.lemmas.Option.{none-some}
use Rattle.dots.specs.declared.call_totals.CallTotals.{CallTotals}
use Rattle.dots.specs.declared.calls.Calls.TheVariants.{Completed, Abandoned}
use Rattle.dots.specs.Values.{Dot}
use Rattle.dots.specs.Orders.{dot_cmp}
use Rattle.operations.specs.Conditions.{Condition, Represents, condition_joined}
use Rattle.operations.specs.Knowledge.{Knowledge, IsConsistent, SameOperations, asserts, names}
use Rattle.dots.specs.CountedCalls.{is_zero, no_calls}
use Rattle.operations.specs.Totals.{Entries, greater, join_of, key_cmp, totals_of}
use Rattle.operations.proofs.CountLaws.{same_total}
use Rattle.dots.proofs.DotOrder.{dots_exact, dots_total}
use Rattle.operations.proofs.FieldLaws.{same_fields, same_member}
use Rattle.operations.proofs.JoinedKnowledge.{condition_both, condition_by, known_both, total_both}
use Rattle.operations.proofs.KnownLaws.{known_dot}
use Rattle.operations.proofs.TotalsLaws.{by_numbers, get_joined, totals_at_joined, zero_greater, greater_zero}
use Rattle.operations.proofs.VisibleLaws.{same_any}

not_zero : (p q : CallTotals) → is_zero p ≡ false → is_zero (greater p q) ≡ false
not_zero p q h = grind (arith, nat_tests)

-- an entry of a join is not of two zeros where none of both is
none_zero : (a b : Option CallTotals) → ((p : CallTotals) → a ≡ Some p → is_zero p ≡ false) → ((p : CallTotals) → b ≡ Some p → is_zero p ≡ false)
    → (p : CallTotals) → cond (is_some a || is_some b) (Some (greater (unwrap_or a no_calls) (unwrap_or b no_calls))) None ≡ Some p → is_zero p ≡ false
none_zero None None f g p e = absurd (cc)
none_zero None (Some q) f g p e = g p (ap Some (sym (zero_greater q)) ∙ e)
none_zero (Some q) None f g p e = f p (ap Some (sym (greater_zero q)) ∙ e)
none_zero (Some q) (Some r) f g p e = ap is_zero (sym (same_totals _ p e)) ∙ not_zero q r (f q refl)
  where
    same_totals : (x y : CallTotals) → Some x ≡ Some y → x ≡ y
    same_totals x y h = cc

-- what stands for each of two knowledges, joined, stands for them together
pub represents_both : (c d joint : Dot → Option Condition) (known heard all : set.FinSet dot_cmp) (counts totals sums : Entries) (k l : Knowledge)
    → Represents c known counts k → Represents d heard totals l
    → ((dot : Dot) → joint dot ≡ condition_joined (c dot) (d dot)) → all ≡ set.union known heard → sums ≡ join_of counts totals
    → Represents joint all sums (k ++ l)
represents_both c d joint known heard all counts totals sums k l r s conditions dots are = record {
  conditions = λ dot. conditions dot ∙ (λ i. condition_joined (r.conditions dot i) (s.conditions dot i)) ∙ sym (condition_both k l dot);
  dots = dots ∙ (λ i. set.union (r.dots i) (s.dots i)) ∙ sym (known_both k l);
  totals = λ site queue.
      ap (λ x. totals_of x site queue) are
      ∙ totals_at_joined counts totals (record { site = site; queue = queue })
      ∙ (λ i. greater (r.totals site queue i) (s.totals site queue i))
      ∙ by_numbers _ _ (sym (total_both k l site queue Completed)) (sym (total_both k l site queue Abandoned));
  no_zeros = λ key p e. none_zero (map.get counts key) (map.get totals key) (r.no_zeros key) (s.no_zeros key) p (sym (get_joined counts totals key) ∙ ap (λ x. map.get x key) (sym are) ∙ e);
}

-- nothing stands for the knowledge of no operation
pub represents_none : Represents (λ dot. None) set.empty map.empty []
represents_none = record {
  conditions = λ dot. refl;
  dots = set.same_set dots_total dots_exact _ _ (λ dot. set.contains-empty dot_cmp dot ∙ sym (known_dot [] dot));
  totals = λ site queue. ap (λ o. unwrap_or o no_calls) (map.get-empty key_cmp (record { site = site; queue = queue }));
  no_zeros = λ key p e. absurd (none-some p (sym (map.get-empty key_cmp key) ∙ e));
}

-- what stands for a consistent knowledge stands for each with the same operations
pub represents_same : (c : Dot → Option Condition) (known : set.FinSet dot_cmp) (counts : Entries) (k l : Knowledge)
    → IsConsistent k → SameOperations k l → Represents c known counts k → Represents c known counts l
represents_same c known counts k l one same r = record {
  conditions = λ dot. r.conditions dot ∙ (λ i. condition_by (same_any (names dot) k l same i) (same_member k l dot same one.members i) (same_fields k l dot same one i));
  dots = r.dots ∙ set.same_set dots_total dots_exact _ _ (λ dot. known_dot k dot ∙ (λ i. same_any (asserts dot) k l same i || same_any (names dot) k l same i) ∙ sym (known_dot l dot));
  totals = λ site queue. r.totals site queue ∙ by_numbers _ _ (same_total k l same site queue Completed) (same_total k l same site queue Abandoned);
  no_zeros = r.no_zeros;
}
