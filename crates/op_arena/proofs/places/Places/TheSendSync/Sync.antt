use denote.RattleType.{RattleType}
use denote.Param.Send.{IsSync}
use Rattle.op_arena.specs.contracts.places.Places.{the_row}
use Rattle.op_arena.proofs.Crossing.{places_sync}

pub sync : (R : RattleType) → IsSync R → IsSync (the_row R)
sync = places_sync
