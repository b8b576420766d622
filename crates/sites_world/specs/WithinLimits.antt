-- Events and worlds whose values are within the limits of operations.
use Rattle.std.specs.Prelude.{⊤}
use Rattle.operations.specs.Knowledge.{Knowledge}
use Rattle.operations.specs.OperationLimits.{AreWithinLimits}
use Rattle.replica.specs.Changes.{change_of}
use Rattle.replica.specs.Promises.{IsChange}
use Rattle.status_report.specs.declared.asks.Ask.TheVariants.{Command as asked_command}
use Rattle.sites_world.specs.declared.event.Event.{Event}
use Rattle.sites_world.specs.declared.event.Event.TheVariants as event
use Rattle.sites_world.specs.Histories.{IsIn}
use Rattle.sites_world.specs.Worlds.{World}

-- the values of the command of an event, if it has one, are within their limits; the types ensure
-- this of a program's events
abbrev pub HasValuesWithinLimits : Event → Type 0
HasValuesWithinLimits (event.Ask site (asked_command command)) = IsChange (change_of command)
HasValuesWithinLimits other = ⊤

-- each operation that a site of world `w` knows or has in its buffer, or that an entry carries, is
-- within its limits
abbrev pub KnowsWithinLimits : World → Type 0
KnowsWithinLimits w = (k : Knowledge) → IsIn w k → AreWithinLimits k
