use Rattle.stored_threads.proofs.StoreLemmas.{if_store_same}
use Rattle.stored_threads.proofs.stored_site.close_stored_site.Goals as goal

pub returns : goal.returns
returns g c = λ tasks replica is done. record {
  ended = c.close_site-journal.ensures tasks replica is done;
  stored = if_store_same g.D.StepStore.holds g.D.StepStore.keeps g.D.StepStore.begun g.L.SiteLedger.base replica _ _ is.base_is c.store_of-store.ensures.stored;
  lost = c.store_of-store.ensures.lost;
}
