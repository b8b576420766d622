-- The fault of a linked site whose threads could not be started (this project's own).
use Rattle.linked_site.specs.declared.linked_site_fault.LinkedSiteFault.{LinkedSiteFault}
use Rattle.linked_site.specs.declared.linked_site_fault.LinkedSiteFault.TheVariants as linked
use Rattle.launcher.specs.declared.launch_fault.LaunchFault.{LaunchFault}
use Rattle.launcher.specs.declared.launch_fault.LaunchFault.TheVariants as launched

-- the fault of a linked site for that of its launch
abbrev pub linked_fault : LaunchFault → LinkedSiteFault
linked_fault launched.NoThread = linked.NoThread
linked_fault launched.Memory = linked.Memory
