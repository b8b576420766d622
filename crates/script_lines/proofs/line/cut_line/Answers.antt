use Rattle.std.proofs.Common.{◌+◌, ◌∷◌, [], length, drop, sym, ◌∙◌, ap}
use Rattle.std.proofs.lemmas.List.{take_rest}
use Rattle.bstr.specs.Find.{is_byte}
use Rattle.ami_text.proofs.ByteSearch.{fails_before}
use Rattle.script_lines.specs.ScriptLines.{lines_of}
use Rattle.script_lines.proofs.Cutting.{last_some, lines_found, lines_last}
use Rattle.script_lines.proofs.line.cut_line.Goals as goal

pub returns-in-None-clause-lines : goal.returns-in-None-clause-lines
returns-in-None-clause-lines c =
    let bytes = c.args.bytes.now in
    lines_last bytes [] (fails_before (is_byte 10) bytes (length bytes) c.in-None.ensures) ∙ last_some bytes c.requires

pub returns-in-Some-clause-lines : goal.returns-in-Some-clause-lines
returns-in-Some-clause-lines c =
    let bytes = c.args.bytes.now in
    let n = c.in-Some.end in
    let found = c.in-Some.ensures in
    let first = lines_found bytes n [] (found.0.high, fails_before (is_byte 10) bytes n found.0.before, found.1) in
    let line = ap (λ line. line ∷ lines_of (drop (n + 1) bytes)) (sym c.content.ensures) in
    first ∙ line ∙ ap (λ rest. c.content.result.now ∷ lines_of rest) (sym (take_rest bytes (n + 1)))
