use Rattle.std.proofs.lemmas.Result.{err_from_is_err_and}
use Rattle.std.proofs.Common.{None}
use Rattle.delta_codec.specs.Elements.{total_read}
use Rattle.delta_codec.specs.Reading.{elements_at, made, total_elements, totals_of, with_total}
use Rattle.delta_codec.proofs.ReadLists.{ends, goes_on, is_done}
use Rattle.delta_codec.proofs.elements.read_counted_totals.Goals as goal

pub returns-in_err-total : goal.returns-in_err-total
returns-in_err-total c =
    let p = err_from_is_err_and c.from_residual.result c.from_residual.ensures.1 in
    rw (p.1, p.2) (ends total_elements with_total c.loop.totals.entries c.args.count c.loop.counter c.loop.last c.loop.reader c.in_err-total.field-0.0 (made totals_of (elements_at total_elements c.args.count None c.args.reader.now)) c.loop-test.true c.in_err-total.ensures.value c.loop.invariant)

pub loop-preserved : goal.loop-preserved
loop-preserved c =
    rw c.in_ok-keep_total.ensures.ok (goes_on total_elements with_total c.loop.totals.entries c.args.count c.loop.counter c.loop.last c.loop.reader (total_read c.in_ok-total.total) c.read_next_total.new.reader (made totals_of (elements_at total_elements c.args.count None c.args.reader.now)) c.loop-test.true c.in_ok-total.ensures.value c.loop.invariant)

pub returns : goal.returns
returns c = is_done total_elements with_total c.loop.totals.entries c.args.count c.loop.counter c.loop.last c.loop.reader (made totals_of (elements_at total_elements c.args.count None c.args.reader.now)) c.loop-test.false c.loop.invariant
