use Rattle.std.proofs.Common.{length, refl, sym, ◌∙◌, arith, true≢false}
use Rattle.std.proofs.lemmas.Option.{slice_get_read}
use Rattle.sites_world.proofs.Happenings.{at_site_happened, may_take_all, no_site_happened, taken_found}
use Rattle.sites_world.proofs.Lists.{at_least}
use Rattle.sites_world.proofs.SteppedHistories.{reached_history}
use Rattle.sites_world.proofs.Unchanged.{site_unchanged, sites_unchanged}
use Rattle.sites_world.proofs.OutcomesByConditions.{leads_at, leads_nowhere}
use Rattle.sites_world.proofs.run.happen.Goals as goal

-- at the site of the event
pub returns-in-Some-clause-meaning : goal.returns-in-Some-clause-meaning
returns-in-Some-clause-meaning c = λ names w reached stands.
    let sites = c.args.sites.now.items in
    let pool = c.args.pool.now.items in
    let old = c.in-Some.replica.now in
    let at = c.from.ensures ∙ c.number.ensures.value ∙ c.site_of.ensures in
    let long = c.args.sites.now.ok.0 in
    let within = c.in-Some.ensures.variant.0 refl in
    let here = slice_get_read sites (length sites) c.from.result old refl (omega (arith, within, long)) c.in-Some.ensures.value in
    at_site_happened names sites pool w stands c.args.event c.from.result old c.happen_at.new.replica c.happen_at.new.pool.items c.happen_at.result at here
    c.happen_at.ensures.site c.happen_at.ensures.names (λ is. taken_found c.args.event c.args.pool.now.items w stands.pool (c.happen_at.ensures.entry is))
    (λ s known. c.happen_at.ensures.meaning s w.pool (stands.sites.each c.from.result old s here known).stands ((stands.sites.each c.from.result old s here known).site ∙ at) stands.pool
    (may_take_all names sites pool w stands (reached_history names (length sites) w reached) c.from.result old s here known))

pub returns-in-Some-clause-unchanged : goal.returns-in-Some-clause-unchanged
returns-in-Some-clause-unchanged c = λ nothing.
    let sites = c.args.sites.now.items in
    let old = c.in-Some.replica.now in
    let long = c.args.sites.now.ok.0 in
    let within = c.in-Some.ensures.variant.0 refl in
    let here = slice_get_read sites (length sites) c.from.result old refl (omega (arith, within, long)) c.in-Some.ensures.value in
    site_unchanged sites c.from.result old c.happen_at.new.replica here (c.happen_at.ensures.unchanged nothing)

-- there is no such site
pub returns-in-None-clause-meaning : goal.returns-in-None-clause-meaning
returns-in-None-clause-meaning c = λ names w reached stands.
    let sites = c.args.sites.now.items in
    let at = c.from.ensures ∙ c.number.ensures.value ∙ c.site_of.ensures in
    let long = c.args.sites.now.ok.0 in
    let past = at_least c.from.result (length sites) (λ less. true≢false (sym (c.in-None.ensures.variant.1 (omega (arith, less, long))))) in
    no_site_happened names sites c.args.pool.now.items w stands c.args.event (omega (arith, past, at))

pub returns-in-None-clause-unchanged : goal.returns-in-None-clause-unchanged
returns-in-None-clause-unchanged c = λ nothing. sites_unchanged c.args.sites.now.items

-- the outcome by conditions
pub returns-in-Some-clause-conditions : goal.returns-in-Some-clause-conditions
returns-in-Some-clause-conditions c = λ names is.
    let sites = c.args.sites.now.items in
    let pool = c.args.pool.now.items in
    let old = c.in-Some.replica.now in
    let at = c.from.ensures ∙ c.number.ensures.value ∙ c.site_of.ensures in
    let long = c.args.sites.now.ok.0 in
    let within = c.in-Some.ensures.variant.0 refl in
    let here = slice_get_read sites (length sites) c.from.result old refl (omega (arith, within, long)) c.in-Some.ensures.value in
    leads_at names sites pool is c.args.event c.from.result old c.happen_at.new.replica c.happen_at.new.pool.items c.happen_at.result at here
    (c.happen_at.ensures.conditions is.world.pool is.stands.pool)

pub returns-in-None-clause-conditions : goal.returns-in-None-clause-conditions
returns-in-None-clause-conditions c = λ names is.
    let sites = c.args.sites.now.items in
    let at = c.from.ensures ∙ c.number.ensures.value ∙ c.site_of.ensures in
    let long = c.args.sites.now.ok.0 in
    let past = at_least c.from.result (length sites) (λ less. true≢false (sym (c.in-None.ensures.variant.1 (omega (arith, less, long))))) in
    leads_nowhere (record { names = names; sites = sites; pool = c.args.pool.now.items }) c.args.event (omega (arith, past, at))
