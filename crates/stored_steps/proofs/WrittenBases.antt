-- The row of a base, as it was written, is one of which that base is read.
use Rattle.std.proofs.Common.{◌≡◌, ◌≤◌, ◌⊎◌, inl, inr, ℕ, List, Option, Some, None, Result, Ok, Err, IfErr, refl, sym, ap, ◌∙◌, arith}
use Rattle.std.specs.Option.{unwrap_or}
use Rattle.std.specs.FinMap as map
use Rattle.dots.specs.declared.call_totals.CallTotals.{CallTotals}
use Rattle.dots.specs.declared.calls.Calls.{Calls}
use Rattle.dots.specs.declared.calls.Calls.TheVariants.{Abandoned, Completed}
use Rattle.dots.specs.CountedCalls.{no_calls}
use Rattle.operations.specs.Totals.{Entries, InLimits, IsTotal, Key, join_of, totals_of}
use Rattle.operations.proofs.TotalsLaws.{by_numbers, either, get_joined, greater_zero, same_totals}
use Rattle.site_totals.specs.Raising.{number_of}
use Rattle.delta.specs.DeltaStates.{DeltaState}
use Rattle.delta.specs.Frames.{frame_of}
use Rattle.delta.specs.Joining.{IsJoinOf}
use Rattle.delta_codec.proofs.Spellings.{spelled_fits}
use Rattle.replica.specs.Keeping.{IsBelow}
use Rattle.replica.proofs.SameSites.{site_itself}
use Rattle.stored_steps.specs.declared.base.StoredBase.{StoredBase}
use Rattle.stored_steps.specs.declared.base_fault.BaseFault.{BaseFault}
use Rattle.stored_steps.specs.declared.base_fault.BaseFault.TheVariants.{Memory}
use Rattle.stored_steps.specs.BaseFaults.{LacksBase}
use Rattle.stored_steps.specs.Bases.{IsOfBase, IsReadBase, IsRowOfBase, SpellsDelta}
use Rattle.stored_steps.specs.Stored.{Stored}
use Rattle.stored_steps.proofs.PartsLaws.{HasFewParts, IsFew, joined_is, no_restore_cause, union_is}

-- ---- what is spelled is few enough

few_spelled : (site : ℕ) (delta : DeltaState) (bytes : List ℕ) → SpellsDelta site delta bytes → IsFew delta.members
few_spelled site delta bytes spelled =
    let fits = spelled_fits (frame_of site 1 delta) bytes spelled in record { cells = fits.few; runs = fits.runs; known = fits.known }

parts_of_row : (base : StoredBase) (row : Stored) → IsRowOfBase base row → HasFewParts base.replica
parts_of_row base row of = record {
  kept = of.good.kept;
  state = few_spelled base.replica.site base.replica.state of.spelled.state of.spelled.state_is;
  pending = few_spelled base.replica.site base.replica.pending of.spelled.pending of.spelled.pending_is;
}

-- ---- the join with what is below

-- a total that is no greater adds nothing
kept_total : (key : Key) (a b : Option CallTotals) → ((totals : CallTotals) → b ≡ Some totals → IsTotal key totals) → (unwrap_or b no_calls).completed ≤ (unwrap_or a no_calls).completed
    → (unwrap_or b no_calls).abandoned ≤ (unwrap_or a no_calls).abandoned → either a b ≡ a
kept_total key None None good completed abandoned = refl
kept_total key None (Some q) good completed abandoned = absurd (omega (arith, (good q refl).counted, completed, abandoned))
kept_total key (Some p) None good completed abandoned = ap Some (greater_zero p)
kept_total key (Some p) (Some q) good completed abandoned = ap Some (by_numbers _ _ (omega (arith, completed)) (omega (arith, abandoned)))

kept_totals : (x y : Entries) → InLimits y → ((site queue : ℕ) (calls : Calls) → number_of calls (totals_of y site queue) ≤ number_of calls (totals_of x site queue)) → join_of x y ≡ x
kept_totals x y good below =
    same_totals _ _ (λ key. get_joined x y key ∙ kept_total key (map.get x key) (map.get y key) (good key) (below key.site key.queue Completed) (below key.site key.queue Abandoned))

joined_with_below : (d e : DeltaState) → IsFew d.members → IsFew e.members → InLimits e.totals.entries → IsBelow e d → IsJoinOf d e d
joined_with_below d e few others good below = record {
  members = record { known = sym (union_is d.members e.members few others below.conditions); conditions = λ dot. sym (joined_is d.members e.members few others below.conditions dot) };
  totals = sym (kept_totals d.totals.entries e.totals.entries good below.totals);
}

-- ---- bases

read_of_row : (base : StoredBase) (row : Stored) → IsRowOfBase base row → IsReadBase row base
read_of_row base row of =
    let replica = base.replica in
    let parts = parts_of_row base row of in
    let buffered = spelled_fits (frame_of replica.site 1 replica.pending) of.spelled.pending of.spelled.pending_is in
    record {
      parts = replica;
      kind = of.kind;
      limits = of.good.limits;
      spelled = of.spelled;
      accepted = λ fault other cause. no_restore_cause replica fault parts other cause;
      restored = record {
        site = refl;
        names = refl;
        state = joined_with_below replica.state replica.pending parts.state parts.pending buffered.totals of.good.kept.below;
        pending = record { conditions = λ dot. refl; known = refl; totals = refl };
        last_count = refl;
        last_time = refl;
        frames = refl;
      };
      same = λ below. site_itself replica;
    }

-- a row that is that of a base is one of which this base is read
read_of_base : (base : StoredBase) (row : Stored) → IsOfBase base row → IsReadBase row base
read_of_base base row (inl written) = read_of_row base row written
read_of_base base row (inr read) = read

-- so a reading of it fails only when out of memory
pub base_found : (site : ℕ) (names : List (List ℕ)) (row : Stored) (r : Result StoredBase BaseFault) → IfErr r (λ fault. (fault ≡ Memory) ⊎ LacksBase site names row fault) → (base : StoredBase) → IsOfBase base row
    → base.replica.site ≡ site → base.replica.names ≡ names → IfErr r (λ fault. fault ≡ Memory)
base_found site names row (Ok read) has base of site_is names_are = tt
base_found site names row (Err fault) (inl memory) base of site_is names_are = memory
base_found site names row (Err fault) (inr lacks) base of site_is names_are = absurd (lacks.none base site_is names_are (read_of_base base row of))
