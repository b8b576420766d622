use Rattle.std.proofs.Common.{◌≡◌, [], ◌∷◌, ◌++◌, Err, take, ap, sym, ◌∙◌, arith}
use Rattle.std.specs.FinSet as set
use Rattle.std.proofs.lemmas.List.{take_more}
use Rattle.dots.specs.DotSets.{run_count}
use Rattle.dots.proofs.DotOrder.{dots_exact, dots_total}
use Rattle.causal_context.specs.declared.context_fault.ContextFault.TheVariants.{RunsFull}
use Rattle.replica.proofs.DotCounts.{runs_more}
use Rattle.replica.proofs.changes.context_of.Goals as goal

pub returns-in-Err-clause-full : goal.returns-in-Err-clause-full
returns-in-Err-clause-full c e =
    let is : c.in-Err.fault ≡ RunsFull = cc in
    let full = c.in-Err.ensures.full.0 (ap Err is) in
    let few = runs_more c.args.dots.now c.loop-dot.dot-index c.dot-item.result c.requires c.loop-dot-test.true in
    let same = ap (λ s. run_count (set.insert s c.dot-item.result)) c.loop-dot.invariant in
    absurd (omega (arith, full, few, same))

pub loop-dot-preserved : goal.loop-dot-preserved
loop-dot-preserved c =
    c.in_default.ensures.ok ∙ ap (λ s. set.insert s c.dot-item.result) c.loop-dot.invariant
    ∙ sym (ap set.from_list (take_more c.args.dots.now c.loop-dot.dot-index c.dot-item.result c.loop-dot-test.true
    ∙ ap (λ d. take c.loop-dot.dot-index c.args.dots.now ++ d ∷ []) (sym c.dot-item.is))
    ∙ set.from_list_push dots_total dots_exact (take c.loop-dot.dot-index c.args.dots.now) c.dot-item.result)
