use Rattle.std.proofs.Common.{◌≡◌, ℕ, List, Vec, Global, Bor, map as each, ap, ◌∙◌}
use Rattle.std.specs.List.{list_any, filter_map}
use Rattle.std.specs.Ordering.{eq_by_cmp}
use Rattle.std.proofs.lemmas.Result.{IfOk-weaker}
use Rattle.dots.specs.Orders.{text_cmp}
use Rattle.operations.specs.Rows.{dot_view}
use Rattle.reference_model.specs.Plain.{knowledge_of}
use Rattle.reference_model.proofs.RowSteps.{interface_at, interface_list}
use Rattle.reference_model.proofs.member_rows.interfaces_of.Goals as goal

pub returns : goal.returns
returns c =
    let k = knowledge_of c.args.operations.now in
    let now : Bor (List ℕ) → List ℕ = λ i. i.now in
    IfOk-weaker c.in_vec.result (λ (listed : Vec (Bor (List ℕ)) Global). listed.items ≡ c.in_ok-found.found.keys) _ (λ listed is.
    ap (each now) is
    ∙ interface_list (dot_view k) c.args.queue c.in_ok-found.found.keys (λ q.
    c.in_ok-found.ensures q ∙ ap (λ ds. list_any (eq_by_cmp text_cmp q) (filter_map (interface_at k c.args.queue) ds)) (c.deref.ensures.value ∙ c.in_ok-dots.ensures)) c.in_vec.ensures.ordered) c.in_vec.ensures.value
