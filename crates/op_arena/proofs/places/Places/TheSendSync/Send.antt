use denote.RattleType.{RattleType}
use denote.Param.Send.{IsSend}
use Rattle.op_arena.specs.contracts.places.Places.{the_row}
use Rattle.op_arena.proofs.Crossing.{places_send}

pub send : (R : RattleType) → IsSend R → IsSend (the_row R)
send = places_send
