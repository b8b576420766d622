use Rattle.std.proofs.Common.{◌≡◌, arith, length, subst, sym}
use Rattle.linked_site.specs.LinkedJournals.{IsLinkedJournal}
use Rattle.linked_site.proofs.OnlyEnds.{first_of_one, first_pushed}
use Rattle.linked_site.proofs.serving.run_site.Goals as goal

-- the one site has ended as its replica does
pub returns-in-Ok-run_sites : goal.returns-in-Ok-run_sites
returns-in-Ok-run_sites g c =
    let one : length c.in-Ok-run_sites.ends.items ≡ 1 = omega (arith, c.in-Ok-run_sites.ensures.number, c.in-Ok-run_sites.ends.ok.0, c.push_reserved.ensures.len, c.in-Ok.ensures.len) in
    let none : length c.in-Ok.sites.items ≡ 0 = omega (arith, c.in-Ok.ensures.len, c.in-Ok.sites.ok.0) in
    let end = first_of_one c.in-Ok-run_sites.ends.items one in
    let site = first_pushed _ _ _ none c.push_reserved.ensures.items in
    let ended = c.in-Ok-run_sites.ensures.ends 0 _ end.0 site end.1 in
    subst (IsLinkedJournal c.args.site.replica) (sym (c.end_of.ensures end.0 end.1)) (record { of_site = ended.own_site; limit = ended.limit_is; begun = ended.begun })
