-- Sites that say the same.
use Rattle.std.proofs.Common.{◌≡◌, refl, sym, subst, ◌∙◌}
use Rattle.delta.specs.DeltaStates.{DeltaState, IsSame}
use Rattle.replica.specs.Site.{IsSameSite, IsUnchanged, SiteState}
use Rattle.replica.specs.Standing.{StandsFor}
use Rattle.replica.specs.Steps.{SiteKnowledge}
use Rattle.replica.proofs.StandingSites.{equal_same, same-stands, unchanged_same}

-- deltas say the same both ways
pub delta_turned : (d e : DeltaState) → IsSame d e → IsSame e d
delta_turned d e same = record { conditions = λ dot. sym (same.conditions dot); known = sym same.known; totals = sym same.totals }

-- to say the same is transitive on deltas
pub delta_through : (d e f : DeltaState) → IsSame d e → IsSame e f → IsSame d f
delta_through d e f one two = record { conditions = λ dot. one.conditions dot ∙ two.conditions dot; known = one.known ∙ two.known; totals = one.totals ∙ two.totals }

-- a site says the same as itself
pub site_itself : (s : SiteState) → IsSameSite s s
site_itself s = record {
  site = refl;
  names = refl;
  state = equal_same s.state s.state refl;
  pending = equal_same s.pending s.pending refl;
  last_count = refl;
  last_time = refl;
  frames = refl;
}

-- to say the same is symmetric on sites
pub site_turned : (s t : SiteState) → IsSameSite s t → IsSameSite t s
site_turned s t same = record {
  site = sym same.site;
  names = sym same.names;
  state = delta_turned s.state t.state same.state;
  pending = delta_turned s.pending t.pending same.pending;
  last_count = sym same.last_count;
  last_time = sym same.last_time;
  frames = sym same.frames;
}

-- to say the same is transitive on sites
pub site_through : (s t u : SiteState) → IsSameSite s t → IsSameSite t u → IsSameSite s u
site_through s t u one two = record {
  site = two.site ∙ one.site;
  names = two.names ∙ one.names;
  state = delta_through s.state t.state u.state one.state two.state;
  pending = delta_through s.pending t.pending u.pending one.pending two.pending;
  last_count = two.last_count ∙ one.last_count;
  last_time = two.last_time ∙ one.last_time;
  frames = two.frames ∙ one.frames;
}

-- one that is unchanged says the same
pub unchanged_site : (old new : SiteState) → IsUnchanged old new → IsSameSite old new
unchanged_site old new same = record {
  site = same.site;
  names = same.names;
  state = unchanged_same old.state new.state same.state;
  pending = unchanged_same old.pending new.pending same.pending;
  last_count = same.last_count;
  last_time = same.last_time;
  frames = same.frames;
}

-- an equal site says the same
pub equal_site : (old new : SiteState) → new ≡ old → IsSameSite old new
equal_site old new e = subst (IsSameSite old) (sym e) (site_itself old)

-- what says the same stands for the same
pub same_site_stands : (old new : SiteState) (s : SiteKnowledge) → StandsFor old s → IsSameSite old new → StandsFor new s
same_site_stands old new s stands same =
    same-stands old new s s.frames stands same.site same.state same.pending same.last_count same.last_time (stands.frames ∙ sym same.frames)
