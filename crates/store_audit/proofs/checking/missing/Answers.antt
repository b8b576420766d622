use Rattle.std.proofs.Common.{◌≡◌, ◌∙◌, length, refl, sym, arith}
use Rattle.std.proofs.lemmas.Option.{slice_get_read}
use Rattle.site_audit.proofs.Lists.{holds_more}
use Rattle.store_audit.specs.declared.store_journal.StoreJournal.{StoreJournal}
use Rattle.store_audit.specs.Stores.{site_number}
use Rattle.store_audit.proofs.Sorted.{gap_at}
use Rattle.store_audit.proofs.checking.missing.Goals as goal

-- the store at the place is of its site
pub loop-place-preserved : goal.loop-place-preserved
loop-place-preserved c =
    let low = c.loop-place-test.true in
    let here = slice_get_read c.args.stores.now (length c.args.stores.now) c.loop-place.place c.index-stores-place.result refl low c.index-stores-place.is in
    let number : site_number c.index-stores-place.result ≡ c.loop-place.place = sym c.site_of.ensures.value ∙ sym c.from.ensures ∙ c.if-from-place.false in
    record {
      few = let a = c.site_of.ensures.limit in let b = c.site_of.ensures.value in omega (arith, a, b, number);
      within = omega (arith, low);
      numbered = holds_more (λ n (s : StoreJournal). site_number s ≡ n) c.args.stores.now c.loop-place.place c.index-stores-place.result c.loop-place.invariant.numbered here number;
    }

-- no store is of the site of the place
pub returns-then-from-place-clause-found : goal.returns-then-from-place-clause-found
returns-then-from-place-clause-found c =
    let low = c.loop-place-test.true in
    let here = slice_get_read c.args.stores.now (length c.args.stores.now) c.loop-place.place c.index-stores-place.result refl low c.index-stores-place.is in
    gap_at c.args.stores.now c.loop-place.place c.index-stores-place.result c.requires c.loop-place.invariant.numbered here
    (λ e. c.if-from-place.true (c.from.ensures ∙ c.site_of.ensures.value ∙ e))
