-- A database may cross threads as its store may.
use denote.RattleType.{RattleType}
use denote.Struct.Declared.{shape}
use denote.Param.Send.{IsSend, sendable, recorded_send, struct_send, view_send}
use Rattle.std.proofs.Crossing.{crosses}
use Rattle.sqlite.below.sqlite_trees.specs.declared.store.Store as Store
use Rattle.sqlite.proofs.connection.Connection.TheSendSync as connection
use Rattle.step_database.specs.contracts.step_database.StepDatabase as StepDatabase
use Rattle.step_database.specs.contracts.step_database.StepDatabase.TheInside as Inside

module _ (T : RattleType) (g : Store.Ghosts T.Denot) where
  fields_send : IsSend T → IsSend (Inside.the_field T g).row
  fields_send s =
      struct_send (shape (Inside.the_type T g)) (connection.the_send T g s, (search (crosses, sendable), (search sendable, (search sendable, (search sendable, (search sendable, (search (crosses, sendable), tt)))))))

  inside_send : IsSend T → IsSend (Inside.the_row T g)
  inside_send s = recorded_send (Inside.the_field T g).row _ _ ((Inside.the_type T g).to_one) (fields_send s)

  pub database_send : IsSend T → IsSend (StepDatabase.the_row T g)
  database_send s = view_send _ _ _ _ _ (inside_send s)
