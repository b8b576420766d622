use Rattle.std.proofs.Common.{◌≡◌, ◌+◌, ◌++◌, ◌∷◌, [], ◌∙◌, sym, ap, subst, length, take, arith, length-append, length-take, append_assoc}
use Rattle.std.proofs.lemmas.List.{take_all, take_more}
use Rattle.sqlite.specs.Held.{state}
use Rattle.stored_steps.specs.Stored.{Stored}
use Rattle.site_store.specs.Steps.{Holds}
use Rattle.site_store.proofs.GroupLemmas.{spared_then}
use Rattle.site_store.proofs.group.append_each.Goals as goal

pub loop-step-preserved : goal.loop-step-preserved
loop-step-preserved g c = (
  omega (arith, c.loop-step.invariant.0),
  λ clean. c.loop-step.invariant.1 (c.append.ensures.clean clean),
  λ clean first list holds place inside is_open.
      let was = c.loop-step.invariant.2 (c.append.ensures.clean clean) first list holds place inside is_open in
      let done = take c.loop-step.step-index c.args.steps.now in
      let more = take_more c.args.steps.now c.loop-step.step-index c.step-item.result c.loop-step-test.true in
      let low = c.loop-step-test.true in
      let here : c.loop-step.place ≡ first + length (list ++ done) = omega (arith, length-append list done, length-take c.loop-step.step-index c.args.steps.now, c.loop-step.invariant.0) in
      let added = c.in_ok-append.ensures.added clean first (list ++ done) was.0 here in
      let within = c.in_ok-append.ensures.inside clean first (list ++ done) was.0 was.1 in
      let whole : list ++ take (c.loop-step.step-index + 1) c.args.steps.now ≡ (list ++ done) ++ c.step-item.result ∷ [] =
      ap (λ (t : _). list ++ t) (more ∙ ap (λ (x : Stored). done ++ x ∷ []) (sym c.step-item.is)) ∙ sym (append_assoc list done (c.step-item.result ∷ [])) in (
        subst (λ all. Holds (state g.S.Store c.append.new.conn) first all) (sym whole) added,
        within.0.mode,
        within.0.is_open,
        within.0.committed ∙ was.3,
        λ db may. was.4 db (within.1 db may),
        spared_then (state g.S.Store c.args.conn.now) (state g.S.Store c.loop-step.conn) (state g.S.Store c.append.new.conn) was.5 (c.in_ok-append.ensures.spared clean was.0.schema),
      ),
)

pub returns-clause-added : goal.returns-clause-added
returns-clause-added g c clean first list holds place inside is_open =
    let was = c.loop-step.invariant.2 clean first list holds place inside is_open in
    let whole : take c.loop-step.step-index c.args.steps.now ≡ c.args.steps.now = take_all c.loop-step.step-index c.args.steps.now (omega (arith, c.loop-step-test.false)) in
    (subst (λ (l : _). Holds (state g.S.Store c.loop-step.conn) first (list ++ l)) whole was.0, record { mode = was.1; is_open = was.2; committed = was.3 })
