-- What may be taken of a delta, and was, is so of each that says the same.
use Rattle.std.proofs.Common.{◌≡◌, ◌≤◌, inl, inr, ℕ, length, sym, ap, subst, ◌∙◌}
use Rattle.std.specs.FinMap as map
use Rattle.dots.specs.declared.limits.TheConstants.{MOST_LIVE, MOST_RUNS}
use Rattle.delta.specs.DeltaStates.{DeltaState, IsSame}
use Rattle.delta.proofs.Sameness.{says_the_same}
use Rattle.replica.specs.Deeds.{IsTakeDeed}
use Rattle.replica.specs.Site.{SiteState}
use Rattle.replica.specs.Taking.{HasDotPast, HasStrangeTotal, HasTotalPast, IsNotMine, MayTake, SpeaksOfStrangeQueue}
use Rattle.replica.proofs.SameSites.{delta_turned}
use Rattle.replica.proofs.TakingIn.{copy_agrees, copy_joined, same_cells, same_runs}

module _ (d e : DeltaState) (same : IsSame d e) where
  -- deltas that say the same have the same live dots
  live_is : d.members.live ≡ e.members.live
  live_is = sym (says_the_same d.members e.members same.conditions same.known).live

  -- of a strange queue both speak
  strange_too : (queues : ℕ) → SpeaksOfStrangeQueue queues e → SpeaksOfStrangeQueue queues d
  strange_too queues (inl s) = inl (record { dot = s.dot; held = s.held; live = ap (λ live. map.get live s.dot) live_is ∙ s.live; strange = s.strange })
  strange_too queues (inr s) = inr (subst (HasStrangeTotal queues) (sym same.totals) s)

  -- if a delta has what a site hasn't made, so has each that says the same
  not_mine_too : (s : SiteState) → IsNotMine s e → IsNotMine s d
  not_mine_too s (inl (inl p)) = inl (inl (subst (HasDotPast s.site s.last_count) (sym same.known) p))
  not_mine_too s (inl (inr p)) = inl (inr (record { dot = p.dot; held = p.held; live = ap (λ live. map.get live p.dot) live_is ∙ p.live; past = p.past }))
  not_mine_too s (inr p) = inr (subst (HasTotalPast s.site s.state.totals.entries) (sym same.totals) p)

  -- a site that may take a delta may take each that says the same
  pub may_take_same : (s : SiteState) → MayTake s d → MayTake s e
  may_take_same s may = record {
    joins = record {
      hears = record { queues = λ strange. may.joins.hears.queues (strange_too (length s.names) strange); own = λ past. may.joins.hears.own (not_mine_too s past) };
      agree = copy_agrees s.state d e same may.joins.agree;
    };
    cells = subst (λ n. n ≤ MOST_LIVE) (sym (same_cells s.state d e same)) may.cells;
    runs = subst (λ n. n ≤ MOST_RUNS) (sym (same_runs s.state d e same)) may.runs;
  }

  -- a site that has taken a delta has taken each that says the same
  pub taken_same : (old new : SiteState) → IsTakeDeed old d new → IsTakeDeed old e new
  taken_same old new deed = let taken = deed.taken in record {
    may = may_take_same old deed.may;
    taken = record {
      site = taken.site;
      names = taken.names;
      state = copy_joined old.state e d new.state (delta_turned d e same) taken.state;
      ids = taken.ids;
      pending = taken.pending;
      last_count = taken.last_count;
      last_time = taken.last_time;
      frames = taken.frames;
    };
  }
