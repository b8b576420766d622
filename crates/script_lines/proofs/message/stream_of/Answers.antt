use Rattle.std.proofs.Common.{◌≤◌, ◌++◌, ℕ, length, ap, refl, arith, length-take, length-drop}
use Rattle.bstr.specs.Find.{is_byte}
use Rattle.ami_text.proofs.ByteSearch.{fails_before}
use Rattle.script_lines.specs.ScriptLines.{stream_of}
use Rattle.script_lines.proofs.Cutting.{stream_ends, stream_goes_on}
use Rattle.script_lines.proofs.message.stream_of.Goals as goal

pub lines-init : goal.lines-init
lines-init c = record {
  within = omega arith;
  whole = ap (λ items. items ++ stream_of c.args.fields.now) c.in_ok-stream.ensures.items;
}

pub lines-preserved : goal.lines-preserved
lines-preserved c =
    let rest = c.lines.rest.now in
    let n = c.in-Some.bar in
    let found = c.in-Some.ensures in
    record {
      within = omega (arith, length-take {A = ℕ}, length-drop {A = ℕ}, c.lines.invariant.within);
      whole = stream_goes_on c.args.fields.now c.lines.stream.items rest _ _ n c.lines.invariant.whole (found.0.high, fails_before (is_byte 124) rest n found.0.before, found.1) c.in_ok-push_line.ensures refl;
    }

pub returns : goal.returns
returns c =
    let rest = c.lines.rest.now in
    let none = fails_before (is_byte 124) rest _ c.in_default.ensures in
    stream_ends c.args.fields.now c.lines.stream.items rest _ _ c.lines.invariant.whole none c.in_ok-push_line-2.ensures c.in_ok-push_end.ensures
