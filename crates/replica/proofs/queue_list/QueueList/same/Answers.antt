use Rattle.std.proofs.lemmas.Slice.Eq.{slice_eq-Decides}
use Rattle.replica.proofs.NameLemmas.{same_names}
use Rattle.replica.proofs.queue_list.QueueList.same.Goals as goal

pub returns : goal.returns
returns c =
    rw (← c.self.view_is, ← c.other.view_is, ← c.as_slice.ensures.keys, ← c.as_slice-2.ensures.keys)
    (slice_eq-Decides same_names c.as_slice.result.now c.as_slice-2.result.now c.eq.result c.eq.ensures)
