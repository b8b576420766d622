-- What stands for a knowledge is one.
use Rattle.std.proofs.Common.{◌≡◌, false, true≢false, Option, Some, None, refl, sym, ap, ◌∙◌}
use Rattle.std.specs.Option.{unwrap_or}
use Rattle.std.specs.FinMap as map
use Rattle.std.specs.FinSet as set
use Rattle.dots.specs.declared.call_totals.CallTotals.{CallTotals}
use Rattle.dots.specs.Values.{Dot}
use Rattle.dots.specs.Orders.{dot_cmp}
use Rattle.dots.specs.CountedCalls.{is_zero, no_calls}
use Rattle.operations.specs.Totals.{Entries}
use Rattle.operations.specs.Knowledge.{Knowledge}
use Rattle.operations.specs.Conditions.{Condition, Represents, IsOne}
use Rattle.operations.proofs.TotalsLaws.{same_totals}

-- entries that aren't two zeros and read alike are one
read_one : (a b : Option CallTotals) → ((p : CallTotals) → a ≡ Some p → is_zero p ≡ false) → ((p : CallTotals) → b ≡ Some p → is_zero p ≡ false) → unwrap_or a no_calls ≡ unwrap_or b no_calls → a ≡ b
read_one None None f g e = refl
read_one None (Some q) f g e = absurd (true≢false (ap is_zero e ∙ g q refl))
read_one (Some p) None f g e = absurd (true≢false (ap is_zero (sym e) ∙ f p refl))
read_one (Some p) (Some q) f g e = ap Some e

pub represents_one : (c d : Dot → Option Condition) (known heard : set.FinSet dot_cmp) (counts totals : Entries) (k : Knowledge)
    → Represents c known counts k → Represents d heard totals k → IsOne c d known heard counts totals
represents_one c d known heard counts totals k r s = record {
  conditions = λ dot. r.conditions dot ∙ sym (s.conditions dot);
  dots = r.dots ∙ sym s.dots;
  totals_are = same_totals counts totals (λ q.
      read_one (map.get counts q) (map.get totals q) (r.no_zeros q) (s.no_zeros q) (r.totals q.site q.queue ∙ sym (s.totals q.site q.queue)));
}
