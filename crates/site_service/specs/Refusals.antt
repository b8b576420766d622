-- Why a store isn't opened (this project's own).
use Rattle.std.specs.Prelude.{⊤}
use Rattle.site_service.specs.declared.service_fault.ServiceFault.{ServiceFault}
use Rattle.site_service.specs.declared.service_fault.ServiceFault.TheVariants.{Linked, Memory, Server, Store, Write}

-- a store gives no site, or memory is refused
abbrev pub IsRefusal : ServiceFault → Type 0
IsRefusal (Store path fault) = ⊤
IsRefusal Write = ⊥
IsRefusal (Server fault) = ⊥
IsRefusal (Linked fault) = ⊥
IsRefusal Memory = ⊤
