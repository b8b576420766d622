use Rattle.std.proofs.lemmas.Result.{err_from_is_err_and}
use Rattle.std.proofs.Common.{◌≡◌, ◌-◌, ◌+◌, None, Some, arith, refl}
use Rattle.delta_codec.specs.Reading.{elements_at, known_of, made, run_elements, with_run}
use Rattle.delta_codec.proofs.ReadLists.{ends, goes_on, is_done}
use Rattle.delta_codec.proofs.ReadRuns.{few_runs, none_read, one_more}
use Rattle.delta_codec.proofs.elements.read_counted_runs.Goals as goal

pub loop-init : goal.loop-init
loop-init c = record {
  runs = let start : c.args.count - 0 ≡ c.args.count = omega arith in rw (start, c.new-context.ensures) refl;
  kept = none_read c.new-context.result.dots c.new-context.ensures;
}

pub keep_run-requires : goal.keep_run-requires
keep_run-requires c =
    let run = c.in_ok-run.run' in
    let more = one_more c.loop.last c.loop.context.dots c.loop.counter run c.loop.invariant.kept c.in_ok-run.ensures.within c.in_ok-run.ensures.order in
    record { few = few_runs (Some run) (with_run c.loop.context.dots run) (c.loop.counter + 1) more (omega (arith, c.requires, c.loop-test.true)) }

pub returns-in_err-run : goal.returns-in_err-run
returns-in_err-run c =
    let p = err_from_is_err_and c.from_residual.result c.from_residual.ensures.1 in
    rw (p.1, p.2) (ends run_elements with_run c.loop.context.dots c.args.count c.loop.counter c.loop.last c.loop.reader c.in_err-run.field-0.0 (made known_of (elements_at run_elements c.args.count None c.args.reader.now)) c.loop-test.true c.in_err-run.ensures.value c.loop.invariant.runs)

pub loop-preserved : goal.loop-preserved
loop-preserved c =
    let run = c.in_ok-run.run' in
    record {
      runs = rw c.in_ok-keep_run.ensures.ok (goes_on run_elements with_run c.loop.context.dots c.args.count c.loop.counter c.loop.last c.loop.reader run c.read_next_run.new.reader (made known_of (elements_at run_elements c.args.count None c.args.reader.now)) c.loop-test.true c.in_ok-run.ensures.value c.loop.invariant.runs);
      kept = rw c.in_ok-keep_run.ensures.ok (one_more c.loop.last c.loop.context.dots c.loop.counter run c.loop.invariant.kept c.in_ok-run.ensures.within c.in_ok-run.ensures.order);
    }

pub returns : goal.returns
returns c = is_done run_elements with_run c.loop.context.dots c.args.count c.loop.counter c.loop.last c.loop.reader (made known_of (elements_at run_elements c.args.count None c.args.reader.now)) c.loop-test.false c.loop.invariant.runs
