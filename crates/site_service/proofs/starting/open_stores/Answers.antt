use Rattle.std.proofs.Common.{◌≡◌, arith, rules}
use Rattle.launcher.proofs.PlaceLemmas.{each_push}
use Rattle.site_service.proofs.Pushing.{all_push}
use Rattle.site_service.proofs.starting.open_stores.Goals as goal

-- one store more
pub loop-number-preserved : goal.loop-number-preserved
loop-number-preserved g c =
    let was = c.loop-number.invariant in
    let made = c.in-Ok-open_in_folder.ensures in
    let is = c.push_back_reserved.ensures.items in
    let before = c.loop-number.stores.items in
    let after = c.push_back_reserved.new.self.items in
    let store = c.in-Ok-open_in_folder.store in
    let number : c.in-Some.site ≡ c.loop-number.number = search rules in (
      omega (arith, c.push_back_reserved.ensures.len, was.0),
      (let e = c.push_back_reserved.ensures.capacity in omega (arith, e, was.1)),
      each_push (λ place (it : _). (g.D.StoreInFile.restored_site it.file).site ≡ place) before after store is was.2 (omega (arith, made.site, number, was.0, c.loop-number.stores.ok.0)),
      all_push (λ (it : _). (g.D.StoreInFile.restored_site it.file).names ≡ c.args.list.now) before after store is was.3 made.names,
      all_push (λ (it : _). g.D.StoreInFile.is_restored it.file) before after store is was.4 made.restored,
    )
