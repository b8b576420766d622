-- The fault of a server whose sites could not be started (this project's own).
use Rattle.server.specs.declared.serve_sites_fault.ServeSitesFault.{ServeSitesFault}
use Rattle.server.specs.declared.serve_sites_fault.ServeSitesFault.TheVariants as served
use Rattle.launcher.specs.declared.launch_fault.LaunchFault.{LaunchFault}
use Rattle.launcher.specs.declared.launch_fault.LaunchFault.TheVariants as launched

-- the fault of a server for that of its launch
abbrev pub served_fault : LaunchFault → ServeSitesFault
served_fault launched.NoThread = served.NoThread
served_fault launched.Memory = served.Memory
