use Rattle.sqlite.specs.Order.{column}
use Rattle.site_store.proofs.OrderLemmas.{first_place, no_first, read_first}
use Rattle.site_store.proofs.reading.first_of.Goals as goal

pub returns-in-Some : goal.returns-in-Some
returns-in-Some c first steps are some =
    read_first first (column c.in-Some.row.now 0) _ c.get.result c.get.ensures.ok (first_place first steps c.args.rows.now c.in-Some.row.now c.in-Some.ensures.value are some)

pub returns-in-None : goal.returns-in-None
returns-in-None c first steps are some = absurd (some (no_first first steps c.args.rows.now c.in-None.ensures.value are))
