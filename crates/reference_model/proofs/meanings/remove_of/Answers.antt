use Rattle.std.proofs.Common.{[], refl, sym, ap, ◌∙◌}
use Rattle.std.specs.FinSet as set
use Rattle.operations.specs.Operations.{Remove}
use Rattle.replica.specs.Changes.{Makes, remove_of}
use Rattle.reference_model.specs.Sites.{Touches, known_view, buffer_view}
use Rattle.reference_model.proofs.LimitSteps.{means_full, means_made}
use Rattle.reference_model.proofs.meanings.remove_of.Goals as goal

pub returns-then-branch : goal.returns-then-branch
returns-then-branch c = λ site.
    let s = c.args.old.now in
    let o = remove_of c.args.dots.now in
    let touches : Touches o [] c.deref.result.now = record { asserted_are = refl; named_are = ap set.from_list (sym (c.deref.ensures.value ∙ c.in_ok-named.ensures)) } in
    let limits = c.in_ok-is_past_limits.ensures site o touches in
    means_full (known_view site s) (buffer_view site s) o c.in_ok-is_past_limits.field-0 limits c.if-branch.true

pub returns : goal.returns
returns c = λ site.
    let s = c.args.old.now in
    let o = remove_of c.args.dots.now in
    let touches : Touches o [] c.deref.result.now = record { asserted_are = refl; named_are = ap set.from_list (sym (c.deref.ensures.value ∙ c.in_ok-named.ensures)) } in
    let limits = c.in_ok-is_past_limits.ensures site o touches in
    ap (λ ds. Makes (Remove (set.from_list ds))) c.in_ok-named.ensures
    ∙ means_made (known_view site s) (buffer_view site s) o c.in_ok-is_past_limits.field-0 limits c.if-branch.false refl refl
