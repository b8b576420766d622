use Rattle.std.proofs.Common.{◌++◌, [], IsTrue, arith, map, rules, ap}
use Rattle.std.proofs.lemmas.List.Elements.{All-nil, All-rest, All-same}
use Rattle.site_service.specs.declared.opening.OpenedStore.{OpenedStore}
use Rattle.stored_threads.specs.ResumedSites.{ResumedState}
use Rattle.site_service.proofs.Pushing.{all_push, moved}
use Rattle.site_service.proofs.starting.start_sites.Goals as goal

-- no site has started yet
pub loop-opened-init : goal.loop-opened-init
loop-opened-init g c =
    let none = c.in-Ok.ensures.items in
    let keeps = λ (it : ResumedState g.row.D.Denot). IsTrue c.args.keeps → g.D.StoreInFile.keeps_rows it.store in (
      omega (arith, c.in-Ok.ensures.len),
      search rules,
      ap (λ l. map (λ (it : ResumedState g.row.D.Denot). it.replica) l ++ map (λ (it : OpenedStore g.row.D-Restored.Denot). g.D.StoreInFile.restored_site it.file) c.args.stores.items) none,
      c.requires.restored,
      All-same keeps c.in-Ok.sites.items [] none (All-nil keeps),
    )

-- one site more has started
pub loop-opened-preserved : goal.loop-opened-preserved
loop-opened-preserved g c =
    let was = c.loop-opened.invariant in
    let made = c.in-Ok-start_opened.ensures in
    let is = c.push_reserved.ensures.items in
    let left = c.in-Some.ensures.items in
    let before = c.loop-opened.sites.items in
    let after = c.push_reserved.new.self.items in
    let stores = c.loop-opened.stores.items in
    let rest = c.pop_front.new.self.items in
    let resumed : ResumedState g.row.D.Denot = c.in-Ok-start_opened.site.resumed in (
      omega (arith, c.push_reserved.ensures.len, c.in-Some.ensures.cases, was.0),
      (let e = c.push_reserved.ensures.capacity in omega (arith, e, was.1)),
      moved (λ (it : ResumedState g.row.D.Denot). it.replica) (λ (it : OpenedStore g.row.D-Restored.Denot). g.D.StoreInFile.restored_site it.file) before after stores rest resumed c.in-Some.opened
          (map (λ (it : OpenedStore g.row.D-Restored.Denot). g.D.StoreInFile.restored_site it.file) c.args.stores.items) is left made.replica was.2,
      All-rest (λ (it : OpenedStore g.row.D-Restored.Denot). g.D.StoreInFile.is_restored it.file) c.in-Some.opened rest stores left was.3,
      all_push (λ (it : ResumedState g.row.D.Denot). IsTrue c.args.keeps → g.D.StoreInFile.keeps_rows it.store) before after resumed is was.4 made.kept,
    )
