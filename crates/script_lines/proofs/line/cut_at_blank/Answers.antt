use Rattle.std.proofs.Common.{◌∙◌, ap, Some, sym, ◌+◌}
use Rattle.std.proofs.lemmas.List.{take_rest}
use Rattle.bstr.specs.Find.{is_byte}
use Rattle.ami_text.proofs.ByteSearch.{fails_before}
use Rattle.script_lines.proofs.Cutting.{blank_found, blank_none}
use Rattle.script_lines.proofs.line.cut_at_blank.Goals as goal

pub returns-in-None-clause-before : goal.returns-in-None-clause-before
returns-in-None-clause-before c = sym (blank_none c.args.line.now (fails_before (is_byte 32) c.args.line.now _ c.in-None.ensures)).0

pub returns-in-None-clause-behind : goal.returns-in-None-clause-behind
returns-in-None-clause-behind c = sym (blank_none c.args.line.now (fails_before (is_byte 32) c.args.line.now _ c.in-None.ensures)).1

pub returns-in-Some-clause-before : goal.returns-in-Some-clause-before
returns-in-Some-clause-before c =
    let line = c.args.line.now in
    let n = c.in-Some.blank in
    let found = c.in-Some.ensures in
    sym (blank_found line n (found.0.high, fails_before (is_byte 32) line n found.0.before, found.1)).0

pub returns-in-Some-clause-behind : goal.returns-in-Some-clause-behind
returns-in-Some-clause-behind c =
    let line = c.args.line.now in
    let n = c.in-Some.blank in
    let found = c.in-Some.ensures in
    ap Some (take_rest line (n + 1)) ∙ sym (blank_found line n (found.0.high, fails_before (is_byte 32) line n found.0.before, found.1)).1
