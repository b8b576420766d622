use Rattle.std.proofs.Common.{Bool, ◌||◌, ℕ, ◌+◌, List, drop, Bor, map as each, ap, sym, ◌∙◌}
use Rattle.std.specs.List.{list_any, filter_map}
use Rattle.std.specs.Ordering.{eq_by_cmp}
use Rattle.dots.specs.Orders.{text_cmp}
use Rattle.reference_model.specs.Plain.{knowledge_of}
use Rattle.reference_model.proofs.RowSteps.{interface_at, interface_first, interface_absent, one_interface_more}
use Rattle.reference_model.proofs.SetSteps.{adds_first}
use Rattle.general_lemmas.proofs.Fronts.{open_at}
use Rattle.reference_model.proofs.member_rows.interfaces_at.Goals as goal
use Rattle.reference_model.proofs.member_rows.interfaces_at.Goals.{in-Some+in_ok-insert, in_default}

pub loop-dot-preserved : goal.loop-dot-preserved
loop-dot-preserved c = λ q.
    let k = knowledge_of c.args.operations.now in
    let queue = c.args.queue in
    let dots = c.args.dots.now in
    let has : List ℕ → Bool = eq_by_cmp text_cmp q in
    let now : Bor (List ℕ) → List ℕ = λ i. i.now in
    let rest = drop (c.loop-dot.dot-index + 1) dots in
    let left = drop c.loop-dot.dot-index dots in
    let next = open_at dots c.loop-dot.dot-index c.dot-item.result c.loop-dot-test.true c.dot-item.is in
    elim c.match-interface_of.branch [
      | in-Some+in_ok-insert w ↦
          adds_first (list_any has (each now c.loop-dot.found.keys)) (has w.in-Some.interface.now) (list_any has (filter_map (interface_at k queue) rest)) (list_any has (filter_map (interface_at k queue) left)) (list_any has (each now c.match-interface_of.found.keys)) _
          (interface_first k queue q c.dot-item.result left rest next w.in-Some.interface.now w.in-Some.ensures)
          (ap (λ s. list_any has (each now s.keys)) w.found-is ∙ one_interface_more q w.in-Some.interface c.loop-dot.found.keys w.insert.new.self.keys w.in_ok-insert.ensures.keys)
          (c.loop-dot.invariant q)
      | in_default w ↦
          (λ i. list_any has (each now (w.found-is i).keys) || sym (interface_absent k queue q c.dot-item.result left rest next w.in_default.ensures) i)
          ∙ c.loop-dot.invariant q
    ]
