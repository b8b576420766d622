-- Sets of members that have the same conditions say the same, and one that says the same is within the same limits.
use Rattle.std.proofs.Common.{◌≡◌, Bool, true, false, Option, Some, None, refl, sym, ap, subst, ◌∙◌}
use Rattle.std.specs.FinMap as map
use Rattle.std.specs.FinSet as set
use Rattle.dots.specs.Values.{Dot}
use Rattle.operations.specs.Conditions.{Condition, Live, Dead}
use Rattle.dots.proofs.DotOrder.{dots_exact, dots_total}
use Rattle.member_orset.specs.Members.{Members, Holding, IsUnchanged, IsWithinLimits, SaysTheSame, condition_at, condition_of}

-- what is live by a condition
abbrev holding_in : Option Condition → Option Holding
holding_in None = None
holding_in (Some Dead) = None
holding_in (Some (Live member fields)) = Some (member, fields)

holding_back : (o : Option Holding) (known : Bool) → holding_in (condition_at o known) ≡ o
holding_back (Some h) known = refl
holding_back None true = refl
holding_back None false = refl

-- sets with the same conditions and the same known dots say the same
pub says_the_same : (s t : Members) → ((q : Dot) → condition_of s q ≡ condition_of t q) → s.known ≡ t.known → SaysTheSame s t
says_the_same s t conditions known = record {
  known = sym known;
  live = map.same_map dots_total dots_exact t.live s.live (λ q.
      sym (holding_back (map.get t.live q) (set.contains t.known q)) ∙ ap holding_in (sym (conditions q)) ∙ holding_back (map.get s.live q) (set.contains s.known q));
}

-- sets that say the same have the same conditions
pub same_conditions : (s t : Members) → SaysTheSame s t → (q : Dot) → condition_of s q ≡ condition_of t q
same_conditions s t same q = λ i. condition_at (map.get (sym same.live i) q) (set.contains (sym same.known i) q)

-- what says the same as before, with the same ids, is within the limits as before
pub unchanged_limits : (old new : Members) → IsUnchanged old new → IsWithinLimits old → IsWithinLimits new
unchanged_limits old new same limits = subst IsWithinLimits (λ i. record {
  known = sym same.known i;
  live = sym same.live i;
  ids = sym same.ids i;
  spent = sym same.spent i;
  retired = sym same.retired i;
  cell_room = new.cell_room;
  run_room = new.run_room;
}) roomed
  where
    -- whatever its rooms are
    roomed : IsWithinLimits (record {
      known = old.known;
      live = old.live;
      ids = old.ids;
      spent = old.spent;
      retired = old.retired;
      cell_room = new.cell_room;
      run_room = new.run_room;
    })
    roomed = record {
      cells = limits.cells;
      rested = limits.rested;
      runs = limits.runs;
      known = limits.known;
      held = λ dot h live. let was = limits.held dot h live in record { known = was.known; set = was.set };
      named = limits.named;
      apart = limits.apart;
      worn = limits.worn;
    }
