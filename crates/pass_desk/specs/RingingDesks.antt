-- What clauses see of a desk that rings.
use Rattle.pass_desk.specs.declared.ringing_desk.RingingDesk.{RingingDesk}

-- the desk under a desk that rings
abbrev pub inner_desk : {D : Type 0} → RingingDesk D → D
inner_desk d = d.desk
