use Rattle.std.proofs.Common.{◌≡◌, ℕ, ◌+◌, List, ◌++◌, length, take, drop, sym, ap, ap₂, ◌∙◌, arith}
use Rattle.std.proofs.lemmas.List.{take-append-drop}
use Rattle.stored_steps.specs.declared.limits.TheConstants.{NAME_BYTES}
use Rattle.stored_steps.proofs.Reading.{head_read, short}
use Rattle.stored_steps.proofs.base_reading.head_in.Goals as goal

pub returns-clause-head : goal.returns-clause-head
returns-clause-head c =
    let bytes = c.args.bytes.now in
    let front : c.in_ok-name.name.now ≡ take NAME_BYTES bytes = cc (c.in_ok-name.ensures.cases.0) in
    let back : c.in_ok-name.rest.now ≡ drop NAME_BYTES bytes = cc (c.in_ok-name.ensures.cases.1) in
    let long : length c.in_ok-name.rest.now + NAME_BYTES ≡ length bytes = cc (c.in_ok-name.ensures.cases.2) in
    let size : length c.in_ok-name.name.now ≡ NAME_BYTES = ap length front ∙ short NAME_BYTES bytes (omega (arith, long)) in
    head_read c.in_ok-name.name.now bytes c.in_ok-name.rest.now c.in_ok-starts.rest.now c.in_ok-last.frames.now c.in_ok-starts.starts c.in_ok-last.last.0 c.in_ok-last.last.1 c.in_ok-last.last.2
    size c.in_ok-starts.ensures.fits c.in_ok-last.ensures.fits.0 c.in_ok-last.ensures.fits.1.0 c.in_ok-last.ensures.fits.1.1
    (sym (take-append-drop NAME_BYTES bytes) ∙ ap₂ (λ (a b : List ℕ). a ++ b) (sym front) (sym back))
    c.in_ok-starts.ensures.spelled
    c.in_ok-last.ensures.spelled
