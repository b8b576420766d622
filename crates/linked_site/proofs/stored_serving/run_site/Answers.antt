use Rattle.std.proofs.Common.{◌≡◌, ◌∙◌, IfSome, arith, length, subst, sym}
use Rattle.stored_threads.specs.StoredEnds.{IsStoreOf}
use Rattle.linked_site.specs.LinkedJournals.{IsLinkedJournal}
use Rattle.linked_site.proofs.OnlyEnds.{first_of_one, first_pushed}
use Rattle.linked_site.proofs.stored_serving.run_site.Goals as goal

-- the one site has ended as its replica does
pub returns-in-Ok-run_stored_sites-clause-journal : goal.returns-in-Ok-run_stored_sites-clause-journal
returns-in-Ok-run_stored_sites-clause-journal g c =
    let one : length c.in-Ok-run_stored_sites.ends.items ≡ 1 = omega (arith, c.in-Ok-run_stored_sites.ensures.number, c.in-Ok-run_stored_sites.ends.ok.0, c.push_reserved.ensures.len, c.in-Ok.ensures.len) in
    let none : length c.in-Ok.sites.items ≡ 0 = omega (arith, c.in-Ok.ensures.len, c.in-Ok.sites.ok.0) in
    let end = first_of_one c.in-Ok-run_stored_sites.ends.items one in
    let site = first_pushed _ _ _ none c.push_reserved.ensures.items in
    let ended = c.in-Ok-run_stored_sites.ensures.ends 0 _ end.0 site end.1 in
    let is = ended.ended in
    subst (IsLinkedJournal c.args.site.resumed.replica) (sym (c.end_of.ensures.journal end.0 end.1)) (record { of_site = is.own_site; limit = is.limit_is; begun = is.begun })

-- and its store is its own
pub returns-in-Ok-run_stored_sites-clause-stored : goal.returns-in-Ok-run_stored_sites-clause-stored
returns-in-Ok-run_stored_sites-clause-stored g c =
    let one : length c.in-Ok-run_stored_sites.ends.items ≡ 1 = omega (arith, c.in-Ok-run_stored_sites.ensures.number, c.in-Ok-run_stored_sites.ends.ok.0, c.push_reserved.ensures.len, c.in-Ok.ensures.len) in
    let none : length c.in-Ok.sites.items ≡ 0 = omega (arith, c.in-Ok.ensures.len, c.in-Ok.sites.ok.0) in
    let end = first_of_one c.in-Ok-run_stored_sites.ends.items one in
    let site = first_pushed _ _ _ none c.push_reserved.ensures.items in
    let ended = c.in-Ok-run_stored_sites.ensures.ends 0 _ end.0 site end.1 in
    subst (λ fault. IfSome c.end_of.result.store (λ s. IsStoreOf g.D.StepStore.holds g.D.StepStore.keeps g.D.StepStore.begun c.args.site.resumed.replica fault s)) (sym (c.end_of.ensures.fault end.0 end.1))
    (subst (λ store. IfSome store (λ s. IsStoreOf g.D.StepStore.holds g.D.StepStore.keeps g.D.StepStore.begun c.args.site.resumed.replica end.0.fault s)) (sym (c.end_of.ensures.store end.0 end.1)) ended.stored)

-- or there is a fault
pub returns-in-Ok-run_stored_sites-clause-lost : goal.returns-in-Ok-run_stored_sites-clause-lost
returns-in-Ok-run_stored_sites-clause-lost g c =
    let one : length c.in-Ok-run_stored_sites.ends.items ≡ 1 = omega (arith, c.in-Ok-run_stored_sites.ensures.number, c.in-Ok-run_stored_sites.ends.ok.0, c.push_reserved.ensures.len, c.in-Ok.ensures.len) in
    let none : length c.in-Ok.sites.items ≡ 0 = omega (arith, c.in-Ok.ensures.len, c.in-Ok.sites.ok.0) in
    let end = first_of_one c.in-Ok-run_stored_sites.ends.items one in
    let site = first_pushed _ _ _ none c.push_reserved.ensures.items in
    let ended = c.in-Ok-run_stored_sites.ensures.ends 0 _ end.0 site end.1 in
    λ lost. c.end_of.ensures.fault end.0 end.1 ∙ ended.lost (sym (c.end_of.ensures.store end.0 end.1) ∙ lost)
