use Rattle.std.proofs.Common.{◌≡◌, ◌++◌, true, false, ap, refl, ◌∙◌}
use Rattle.dots.specs.DotSets.{run_count}
use Rattle.operations.specs.Knowledge.{visible_dots, known_dots}
use Rattle.replica.specs.Steps.{Taken, CellsFull, RunsFull}
use Rattle.reference_model.specs.Plain.{knowledge_of}
use Rattle.reference_model.specs.Sites.{site_of}
use Rattle.reference_model.proofs.LimitSteps.{visible_now, known_now, take_is, past_most, not_past}
use Rattle.reference_model.proofs.site_steps.take.Goals as goal

pub returns-then-dots-gt-MOST_LIVE : goal.returns-then-dots-gt-MOST_LIVE
returns-then-dots-gt-MOST_LIVE c =
    let s = site_of c.args.old.now in
    let frame = knowledge_of c.args.frame.now in
    let whole : knowledge_of c.in_ok-known.known.items ≡ frame ++ s.known = c.in_ok-known.ensures ∙ (λ i. frame ++ knowledge_of (c.deref.ensures.value i)) in
    let dots = c.in_ok-dots.ensures.dots (visible_dots (frame ++ s.known)) (visible_now (knowledge_of c.deref-2.result.now) (frame ++ s.known) (ap knowledge_of c.deref-2.ensures.value ∙ whole)) in
    (λ i. (c.in_ok-same.ensures i, CellsFull))
    ∙ take_is s frame c.in_ok-dots.dots (run_count (known_dots (frame ++ s.known))) dots refl true _ (past_most 16384 c.in_ok-dots.dots c.if-dots-gt-MOST_LIVE.true) refl

pub returns-then-runs-gt-MOST_RUNS : goal.returns-then-runs-gt-MOST_RUNS
returns-then-runs-gt-MOST_RUNS c =
    let s = site_of c.args.old.now in
    let frame = knowledge_of c.args.frame.now in
    let whole : knowledge_of c.in_ok-known.known.items ≡ frame ++ s.known = c.in_ok-known.ensures ∙ (λ i. frame ++ knowledge_of (c.deref.ensures.value i)) in
    let dots = c.in_ok-dots.ensures.dots (visible_dots (frame ++ s.known)) (visible_now (knowledge_of c.deref-2.result.now) (frame ++ s.known) (ap knowledge_of c.deref-2.ensures.value ∙ whole)) in
    let runs = c.in_ok-dots.ensures.runs (known_dots (frame ++ s.known)) (known_now (knowledge_of c.deref-2.result.now) (frame ++ s.known) (ap knowledge_of c.deref-2.ensures.value ∙ whole)) in
    (λ i. (c.in_ok-same-2.ensures i, RunsFull))
    ∙ take_is s frame c.in_ok-dots.dots c.in_ok-dots.runs dots runs false true
    (not_past 16384 c.in_ok-dots.dots c.if-dots-gt-MOST_LIVE.false) (past_most 65536 c.in_ok-dots.runs c.if-runs-gt-MOST_RUNS.true)

pub returns : goal.returns
returns c =
    let s = site_of c.args.old.now in
    let frame = knowledge_of c.args.frame.now in
    let whole : knowledge_of c.in_ok-known.known.items ≡ frame ++ s.known = c.in_ok-known.ensures ∙ (λ i. frame ++ knowledge_of (c.deref.ensures.value i)) in
    let dots = c.in_ok-dots.ensures.dots (visible_dots (frame ++ s.known)) (visible_now (knowledge_of c.deref-2.result.now) (frame ++ s.known) (ap knowledge_of c.deref-2.ensures.value ∙ whole)) in
    let runs = c.in_ok-dots.ensures.runs (known_dots (frame ++ s.known)) (known_now (knowledge_of c.deref-2.result.now) (frame ++ s.known) (ap knowledge_of c.deref-2.ensures.value ∙ whole)) in
    (λ i. (record { known = whole i; buffer = (c.in_ok-copied.ensures ∙ ap knowledge_of c.deref-3.ensures.value) i; frames = s.frames }, Taken))
    ∙ take_is s frame c.in_ok-dots.dots c.in_ok-dots.runs dots runs false false
    (not_past 16384 c.in_ok-dots.dots c.if-dots-gt-MOST_LIVE.false) (not_past 65536 c.in_ok-dots.runs c.if-runs-gt-MOST_RUNS.false)
