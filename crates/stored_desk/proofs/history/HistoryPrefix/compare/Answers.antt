use Rattle.std.proofs.Common.{ap, subst, List}
use mathlib.Core.List.{IsPrefix}
use Rattle.site_journal.specs.declared.step.Step.{Step}
use Rattle.stored_desk.proofs.Prefixes.{prefix_shorter}
use Rattle.stored_desk.proofs.history.HistoryPrefix.compare.Goals as goal

pub returns-clause-this : goal.returns-clause-this
returns-clause-this g c less =
    let both = c.learn.new.self.log in
    let this : IsPrefix c.self.inside.seen.log both = subst (λ (l : List Step). IsPrefix l both) (ap (λ s. s.log) c.again-both.ensures) c.learn.ensures.2 in
    rw (← c.self.view_is, ← c.other.view_is) (prefix_shorter c.self.inside.seen.log c.other.inside.seen.log both this c.learn.ensures.3 (rw (c.self.view_is, c.other.view_is) less))

pub returns-clause-that : goal.returns-clause-that
returns-clause-that g c less =
    let both = c.learn.new.self.log in
    let this : IsPrefix c.self.inside.seen.log both = subst (λ (l : List Step). IsPrefix l both) (ap (λ s. s.log) c.again-both.ensures) c.learn.ensures.2 in
    rw (← c.self.view_is, ← c.other.view_is) (prefix_shorter c.other.inside.seen.log c.self.inside.seen.log both c.learn.ensures.3 this (rw (c.self.view_is, c.other.view_is) less))
