use Rattle.std.proofs.Common.{Bool, ◌+◌, drop, ap}
use Rattle.std.specs.List.{list_any}
use Rattle.dots.specs.declared.member.Member.{Member}
use Rattle.dots.specs.Values.{Dot}
use Rattle.operations.specs.Knowledge.{is_dot}
use Rattle.reference_model.proofs.DotSteps.{one_dot_more}
use Rattle.reference_model.proofs.SetSteps.{adds_first}
use Rattle.general_lemmas.proofs.Fronts.{open_at}
use Rattle.reference_model.proofs.dots_seen.add_dots.Goals as goal

pub loop-dot-preserved : goal.loop-dot-preserved
loop-dot-preserved c = λ q.
    let test : Dot × Member → Bool = λ p. is_dot q p.0 in
    let dots = c.args.dots.now in
    let next = open_at dots c.loop-dot.dot-index c.loop-dot-item.result c.loop-dot-test.true c.loop-dot-item.is in
    adds_first (list_any (is_dot q) c.loop-dot.found.keys) (is_dot q c.loop-dot-item.result.0) (list_any test (drop (c.loop-dot.dot-index + 1) dots)) (list_any test (drop c.loop-dot.dot-index dots)) (list_any (is_dot q) c.insert.new.self.keys) _
    (ap (list_any test) next) (one_dot_more q c.loop-dot-item.result.0 c.loop-dot.found.keys c.insert.new.self.keys c.in_ok-insert.ensures.keys) (c.loop-dot.invariant q)
