-- What contracts see of a ledger's site.
use Rattle.std.specs.Prelude.{[]}
use Rattle.std.specs.FinMap as map
use Rattle.std.specs.FinSet as set
use Rattle.delta.specs.DeltaStates.{DeltaState}
use Rattle.replica.specs.Site.{SiteState}

-- the state of an empty delta without room
abbrev nothing : DeltaState
nothing = record {
  members = record { known = set.empty; live = map.empty; ids = map.empty; spent = set.empty; retired = 0; cell_room = 0; run_room = 0 };
  totals = record { entries = map.empty; room = 0 };
}

-- the state of the site of a ledger that no call has named
abbrev pub no_site : SiteState
no_site = record { site = 0; names = []; state = nothing; pending = nothing; last_count = 0; last_time = 0; frames = 0 }
