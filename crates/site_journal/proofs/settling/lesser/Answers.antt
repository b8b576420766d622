use Rattle.std.proofs.Common.{rules, subst}
use Rattle.site_journal.specs.Settling.{IsLeastPass}
use Rattle.site_journal.proofs.SettledLists.{begins, less, no_less, stays}
use Rattle.site_journal.proofs.settling.lesser.Goals as goal

pub returns-then-pass-from : goal.returns-then-pass-from
returns-then-pass-from c = λ steps step is h. stays _ _ _ steps step is (search rules) h

pub returns-in_default : goal.returns-in_default
returns-in_default c = λ steps step is h. begins _ _ steps step is (search rules) (subst (λ found. IsLeastPass c.args.from steps found) c.in_default.is h)

pub returns-then-least-pass : goal.returns-then-least-pass
returns-then-least-pass c = λ steps step is h. no_less _ _ _ steps step is (search rules) (subst (λ found. IsLeastPass c.args.from steps found) c.in-Some.is h)

pub returns : goal.returns
returns c = λ steps step is h. less _ _ _ steps step is (search rules) (search rules) (subst (λ found. IsLeastPass c.args.from steps found) c.in-Some.is h)
