use Rattle.std.proofs.Common.{IsOk, subst, sym, ◌∙◌, arith, true≢false}
use Rattle.sites_world.proofs.OutcomesByConditions.{leads_nowhere, leads_no_memory}
use Rattle.sites_world.proofs.Happenings.{no_site_happened}
use Rattle.sites_world.proofs.KeptWorlds.{status_within}
use Rattle.sites_world.proofs.run.happen_by_copy.Goals as goal

-- the copy of an ask wanted memory
pub returns-in-Err-clause-conditions : goal.returns-in-Err-clause-conditions
returns-in-Err-clause-conditions c = λ names is.
    let at = c.from.ensures ∙ c.number.ensures.value ∙ c.site_of.ensures in
    let less = c.if-from-len.true in
    let len = c.len.ensures in
    leads_no_memory (record { names = names; sites = c.args.sites.now.items; pool = c.args.pool.now.items }) c.args.event.now c.in-Err.ensures.asks
    (λ site command reported. absurd (true≢false (sym (subst IsOk c.in-Err.is (c.copy.ensures.command site command reported))))) (omega (arith, at, less, len))

-- an event whose copy ran out of memory asks for a status, which has no values
pub returns-in-Err-clause-values : goal.returns-in-Err-clause-values
returns-in-Err-clause-values c = status_within c.args.event.now c.in-Err.ensures.asks (λ site command reported. absurd (true≢false (sym (subst IsOk c.in-Err.is (c.copy.ensures.command site command reported)))))

pub returns-in-Err-2-clause-values : goal.returns-in-Err-2-clause-values
returns-in-Err-2-clause-values c = status_within c.args.event.now c.in-Err-2.ensures.asks (λ site command reported. absurd (true≢false (sym (subst IsOk c.in-Err-2.is (c.copy.ensures.command site command reported)))))

-- there is no such site
pub returns-in-Err-2-clause-meaning : goal.returns-in-Err-2-clause-meaning
returns-in-Err-2-clause-meaning c = λ names w reached stands.
    let at = c.from.ensures ∙ c.number.ensures.value ∙ c.site_of.ensures in
    let past = c.if-from-len.false in
    let len = c.len.ensures in
    no_site_happened names c.args.sites.now.items c.args.pool.now.items w stands c.args.event.now (omega (arith, at, past, len))

pub returns-in-Err-2-clause-conditions : goal.returns-in-Err-2-clause-conditions
returns-in-Err-2-clause-conditions c = λ names is.
    let at = c.from.ensures ∙ c.number.ensures.value ∙ c.site_of.ensures in
    let past = c.if-from-len.false in
    let len = c.len.ensures in
    leads_nowhere (record { names = names; sites = c.args.sites.now.items; pool = c.args.pool.now.items }) c.args.event.now (omega (arith, at, past, len))
