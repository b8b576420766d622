use Rattle.std.proofs.Common.{◌≡◌, inr, List, ℕ, length, take, refl, sym, ap, ap₂, ◌∙◌, ◌++◌, rules}
use Rattle.std.proofs.lemmas.List.{take-append-drop, take_at}
use Rattle.stored_steps.specs.Bases.{list_bytes}
use Rattle.stored_steps.proofs.base_reading.behind_list.Goals as goal

-- other bytes are there
pub returns-else-is_same-clause-fault : goal.returns-else-is_same-clause-fault
returns-else-is_same-clause-fault c =
    let names : c.put_list.new.out.items ≡ list_bytes c.args.list.now = search rules in
    let long : length c.put_list.new.out.items ≡ c.len-2.result = search rules in
    let size : length (list_bytes c.args.list.now) ≡ c.len-2.result = ap length (sym names) ∙ long in
    let other : c.split_at.result.0.now ≡ c.as_slice.result.now → ⊥ = search rules in
    inr (
      refl,
      λ more e.
          other (c.split_at.ensures.front ∙ ap (take c.len-2.result) e ∙ take_at (list_bytes c.args.list.now) more c.len-2.result size ∙ sym names ∙ sym c.as_slice.ensures.value),
    )

pub returns-then-is_same-clause-found : goal.returns-then-is_same-clause-found
returns-then-is_same-clause-found c =
    let same : c.split_at.result.0.now ≡ c.as_slice.result.now = search rules in
    let names : c.put_list.new.out.items ≡ list_bytes c.args.list.now = search rules in
    sym (take-append-drop c.len-2.result c.args.bytes.now) ∙ ap₂ (λ (a b : List ℕ). a ++ b) (sym c.split_at.ensures.front ∙ same ∙ c.as_slice.ensures.value ∙ names) (sym c.split_at.ensures.back)
