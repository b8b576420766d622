use Rattle.std.proofs.Common.{◌∙◌, ap, ◌∷◌, take, sym, ◌+◌}
use Rattle.std.specs.List.{slice_split}
use Rattle.std.proofs.lemmas.List.{take_rest}
use Rattle.bstr.specs.Find.{is_byte}
use Rattle.ami_text.proofs.ByteSearch.{fails_before}
use Rattle.script_lines.specs.ScriptLines.{is_bar}
use Rattle.script_lines.proofs.Cutting.{parts_found, parts_last}
use Rattle.script_lines.proofs.parts.cut_at_bar.Goals as goal

pub returns-in-None-clause-parts : goal.returns-in-None-clause-parts
returns-in-None-clause-parts c = parts_last c.args.parts.now (fails_before (is_byte 124) c.args.parts.now _ c.in-None.ensures)

pub returns-in-Some-clause-parts : goal.returns-in-Some-clause-parts
returns-in-Some-clause-parts c =
    let parts = c.args.parts.now in
    let n = c.in-Some.bar in
    let found = c.in-Some.ensures in
    parts_found parts n (found.0.high, fails_before (is_byte 124) parts n found.0.before, found.1)
    ∙ ap (λ rest. take n parts ∷ slice_split is_bar rest) (sym (take_rest parts (n + 1)))
