use Rattle.std.proofs.Common.{rules}
use Rattle.lww_registers.proofs.Conflict.{conflict_by_test}
use Rattle.lww_registers.proofs.register.Register.agrees.Goals as goal

-- under one stamp the values decide
pub returns-else-ne-clause-conflict : goal.returns-else-ne-clause-conflict
returns-else-ne-clause-conflict g c =
    conflict_by_test _ _ (record { stamp = c.in-Some-Some.stamp; value = c.in-Some-Some.value }) (record { stamp = c.in-Some-Some.other_stamp; value = c.in-Some-Some.other_value })
    (search rules) (search rules) (search rules) _ c.same.ensures
