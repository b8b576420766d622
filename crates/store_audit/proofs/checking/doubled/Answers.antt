use Rattle.std.proofs.Common.{◌+◌, length, refl, arith}
use Rattle.std.proofs.lemmas.Option.{slice_get_read, slice_get_within}
use Rattle.store_audit.proofs.Sorted.{rising_more, twice_at}
use Rattle.store_audit.proofs.checking.doubled.Goals as goal

-- the store at the place is of a greater site than the one before it
pub loop-place-preserved : goal.loop-place-preserved
loop-place-preserved c =
    let low = c.loop-place-test.true in
    let some = c.loop-place.invariant.some in
    let one_is = slice_get_read c.args.stores.now (length c.args.stores.now) _ c.index-stores-before.result refl (omega (arith, low)) c.index-stores-before.is in
    let other_is = slice_get_read c.args.stores.now (length c.args.stores.now) c.loop-place.place c.index-stores-place.result refl low c.index-stores-place.is in
    let less = c.if-site-lesser.false in
    let a = c.site_of-lesser.ensures.value in
    let b = c.site_of-site.ensures.value in
    record {
      some = omega (arith, some);
      rising = rising_more c.args.stores.now _ c.loop-place.place c.index-stores-before.result c.index-stores-place.result (omega (arith, some)) one_is other_is
          (omega (arith, less, a, b)) c.loop-place.invariant.rising;
    }

pub returns-clause-none : goal.returns-clause-none
returns-clause-none c = λ place one other one_is other_is.
    let past = c.loop-place-test.false in
    let inside = slice_get_within c.args.stores.now (place + 1) other other_is in
    c.loop-place.invariant.rising place one other (omega (arith, past, inside)) one_is other_is

-- both stores are of the site
pub returns-then-site-lesser-clause-found : goal.returns-then-site-lesser-clause-found
returns-then-site-lesser-clause-found c =
    let low = c.loop-place-test.true in
    let some = c.loop-place.invariant.some in
    let one_is = slice_get_read c.args.stores.now (length c.args.stores.now) _ c.index-stores-before.result refl (omega (arith, low)) c.index-stores-before.is in
    let other_is = slice_get_read c.args.stores.now (length c.args.stores.now) c.loop-place.place c.index-stores-place.result refl low c.index-stores-place.is in
    twice_at c.args.stores.now _ c.loop-place.place c.index-stores-before.result c.index-stores-place.result c.site_of-site.result c.site_of-lesser.result c.requires
    c.loop-place.invariant.rising (omega (arith, some)) one_is other_is c.site_of-lesser.ensures.value c.site_of-site.ensures.value c.if-site-lesser.true
