use Rattle.std.proofs.Common.{◌≡◌, ◌∙◌, false, true, sym, refl, eq-eqb}
use Rattle.std.proofs.lemmas.Bool.{ne_eqb}
use Rattle.std.proofs.lemmas.Result.{on_ok_weaker}
use Rattle.stored_steps.specs.StartRows.{is_start}
use Rattle.store_audit.specs.StoreRows.{is_base}
use Rattle.store_audit.proofs.Walking.{base_walked, if_err_weaker, kept_cause, row_cause, start_walked, step_walked}
use Rattle.store_audit.proofs.reading.walk_row.Goals as goal

-- a base
pub returns-then-kind-number-clause-walked : goal.returns-then-kind-number-clause-walked
returns-then-kind-number-clause-walked c = λ base rows p at.
    let kind : is_base c.args.row.now ≡ true = eq-eqb c.args.row.now.kind 1 (sym c.kind.ensures ∙ c.if-kind-number.true ∙ c.number.ensures) in
    on_ok_weaker c.check_base.result (λ said. base_walked base rows c.args.walk.now c.args.row.now kind said p) c.check_base.ensures.said

pub returns-then-kind-number-clause-fault : goal.returns-then-kind-number-clause-fault
returns-then-kind-number-clause-fault c = λ base rows p.
    let kind : is_base c.args.row.now ≡ true = eq-eqb c.args.row.now.kind 1 (sym c.kind.ensures ∙ c.if-kind-number.true ∙ c.number.ensures) in
    if_err_weaker c.check_base.result
    (λ fault cause. kept_cause base rows c.args.walk.now c.args.position c.args.row.now fault kind p cause) c.check_base.ensures.fault

-- a start
pub returns-then-is_start-clause-walked : goal.returns-then-is_start-clause-walked
returns-then-is_start-clause-walked c = λ base rows p at.
    let kind : is_base c.args.row.now ≡ false = ne_eqb c.args.row.now.kind 1 (λ e. c.if-kind-number.false (c.kind.ensures ∙ e ∙ sym c.number.ensures)) in
    let start : is_start c.args.row.now ≡ true = sym c.is_start.ensures ∙ c.if-is_start.true in
    start_walked base rows c.args.walk.now _ c.args.row.now kind start refl refl refl c.saturating_add-walk.ensures p

-- a step
pub returns-clause-walked : goal.returns-clause-walked
returns-clause-walked c = λ base rows p at.
    let kind : is_base c.args.row.now ≡ false = ne_eqb c.args.row.now.kind 1 (λ e. c.if-kind-number.false (c.kind.ensures ∙ e ∙ sym c.number.ensures)) in
    let start : is_start c.args.row.now ≡ false = sym c.is_start.ensures ∙ c.if-is_start.false in
    on_ok_weaker c.add_step.result (λ added. step_walked base rows c.args.walk.now c.add_step.new.walk c.args.position c.args.row.now kind start at added p) c.add_step.ensures.added

pub returns-clause-fault : goal.returns-clause-fault
returns-clause-fault c = λ base rows p.
    let kind : is_base c.args.row.now ≡ false = ne_eqb c.args.row.now.kind 1 (λ e. c.if-kind-number.false (c.kind.ensures ∙ e ∙ sym c.number.ensures)) in
    let start : is_start c.args.row.now ≡ false = sym c.is_start.ensures ∙ c.if-is_start.false in
    if_err_weaker c.add_step.result (λ fault cause. row_cause base rows c.args.walk.now c.args.position c.args.row.now fault kind start p cause) c.add_step.ensures.fault
