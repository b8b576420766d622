use Rattle.std.proofs.Common.{◌≡◌, ◌∙◌, length, IsTrue, true≢false, refl, sym, subst, arith}
use Rattle.std.proofs.lemmas.Option.{slice_get_read}
use Rattle.site_audit.specs.Runs.{names_in}
use Rattle.site_audit.proofs.Lists.{holds_more}
use Rattle.store_audit.specs.declared.store_journal.StoreJournal.{StoreJournal}
use Rattle.store_audit.specs.Stores.{journals_of}
use Rattle.store_audit.proofs.Sorted.{first_names}
use Rattle.store_audit.proofs.checking.other_queues.Goals as goal

-- the store at the place has the queues of the first
pub loop-place-preserved : goal.loop-place-preserved
loop-place-preserved c =
    let low = c.loop-place-test.true in
    let here = slice_get_read c.args.stores.now (length c.args.stores.now) c.loop-place.place c.index-stores-place.result refl low c.index-stores-place.is in
    let first = slice_get_read c.args.stores.now (length c.args.stores.now) 0 c.index-stores-0.result refl (omega (arith, low)) c.index-stores-0.is in
    let same : c.list_of-list.result.now ≡ c.list_of-first.result.now = c.same.ensures.0 (subst IsTrue (sym c.if-not-same.false) refl) in
    record {
      within = omega (arith, low);
      one = holds_more (λ n (s : StoreJournal). s.journal.base.names ≡ names_in (journals_of c.args.stores.now)) c.args.stores.now c.loop-place.place c.index-stores-place.result
          c.loop-place.invariant.one here (sym c.list_of-list.ensures.value ∙ same ∙ c.list_of-first.ensures.value ∙ first_names c.args.stores.now c.index-stores-0.result first);
    }

-- the store at the place has other queues
pub returns-then-not-same-clause-found : goal.returns-then-not-same-clause-found
returns-then-not-same-clause-found c =
    let low = c.loop-place-test.true in
    let here = slice_get_read c.args.stores.now (length c.args.stores.now) c.loop-place.place c.index-stores-place.result refl low c.index-stores-place.is in
    let first = slice_get_read c.args.stores.now (length c.args.stores.now) 0 c.index-stores-0.result refl (omega (arith, low)) c.index-stores-0.is in
    record {
      store = c.index-stores-place.result;
      is = here;
      of = c.requires.numbered c.loop-place.place c.index-stores-place.result low here;
      other = λ e. true≢false (sym (c.same.ensures.1 (c.list_of-list.ensures.value ∙ e ∙ sym (first_names c.args.stores.now c.index-stores-0.result first) ∙ sym c.list_of-first.ensures.value))
          ∙ c.if-not-same.true);
      lesser = c.loop-place.invariant.one;
    }
