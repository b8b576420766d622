use Rattle.std.proofs.Common.{sym, ◌∙◌, rules, subst, IsTrue}
use Rattle.site_store.specs.Steps.{IsStoreSchema}
use Rattle.site_store.proofs.opening.with_shape.Goals as goal

pub returns-then-has_shape-clause-store : goal.returns-then-has_shape-clause-store
returns-then-has_shape-clause-store g c store =
    let passed : IsTrue c.has_shape.result = search rules in
    subst IsStoreSchema c.schema.ensures.value (c.has_shape.ensures.store store passed)

pub returns-then-has_shape-clause-blank : goal.returns-then-has_shape-clause-blank
returns-then-has_shape-clause-blank g c blank =
    let passed : IsTrue c.has_shape.result = search rules in
    sym c.schema.ensures.value ∙ c.has_shape.ensures.blank blank passed
