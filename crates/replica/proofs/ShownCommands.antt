-- What is shown of each command that is done.
use Rattle.std.proofs.Common.{◌≡◌, ℕ, List, ◌∷◌}
use Rattle.dots.specs.declared.calls.Calls.TheVariants.{Completed, Abandoned}
use Rattle.operations.specs.Knowledge.{Knowledge}
use Rattle.operations.specs.Operations.{Operation, SetPause, SetPenalty, SetRing}
use Rattle.replica.specs.Changes.{Makes, change_of, meaning}
use Rattle.replica.specs.declared.command.Command.{Command}
use Rattle.replica.specs.declared.command.Command.TheVariants as command
use Rattle.replica.specs.Shows.{KnowsNonePast, Shows}
use Rattle.replica.specs.SiteViews.{SiteView, site_view}
use Rattle.replica.proofs.ShownCounts.{count_shown}
use Rattle.replica.proofs.ShownMembers.{add_shown, remove_shown}
use Rattle.replica.proofs.ShownSettings.{set_shown}

-- what is shown of a command, at a site that knows none of its dots past its last
pub command_shown : (site : ℕ) (names : List (List ℕ)) (done : Command) (k : Knowledge) (buffer : SiteView) (o : Operation) → KnowsNonePast site k
    → meaning site names (site_view site k) buffer (change_of done) ≡ Makes o → Shows site names done k (o ∷ k)
command_shown site names (command.Add queue interface penalty paused label) k buffer o none_past h = add_shown site names queue interface penalty paused label k buffer o none_past h
command_shown site names (command.Remove queue interface) k buffer o none_past h = remove_shown site names queue interface k buffer o h
command_shown site names (command.Pause queue interface pause) k buffer o none_past h = set_shown site names queue interface (SetPause pause) k buffer o h
command_shown site names (command.Penalty queue interface penalty) k buffer o none_past h = set_shown site names queue interface (SetPenalty penalty) k buffer o h
command_shown site names (command.RingInUse queue interface ring) k buffer o none_past h = set_shown site names queue interface (SetRing ring) k buffer o h
command_shown site names (command.Completed queue) k buffer o none_past h = count_shown site names queue Completed k buffer o h
command_shown site names (command.Abandoned queue) k buffer o none_past h = count_shown site names queue Abandoned k buffer o h
