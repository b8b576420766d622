use Rattle.std.proofs.Common.{rules, arith}
use Rattle.std.specs.Io.KnownBytes.{Appends}
use Rattle.std.proofs.lemmas.Grind.{common_steps}
use Rattle.ami_text.specs.Devices.{HasTaken}
use Rattle.scripts.specs.LineSteps.{place_of}
use Rattle.scripts.proofs.Replying.{began_line, gave_line}
use Rattle.scripts.proofs.script.Script.give_line.Goals as goal

pub returns-clause-ok : goal.returns-clause-ok
returns-clause-ok g c =
    let output = c.in_ok-output.output in
    let written : Appends (g.W.Sink.taken c.args.writer.now) (g.W.Sink.taken c.write_all.new.writer) output.text.items = first_of (search rules, grind (arith, common_steps)) in
    λ w at. gave_line (place_of c.args.self.now) w c.args.number c.args.line.now c.run_line.new.self.world output _ _ (c.in_ok-output.ensures.ok w at) written

pub returns-in_err-map_err-clause-begun : goal.returns-in_err-map_err-clause-begun
returns-in_err-map_err-clause-begun g c =
    let output = c.in_ok-output.output in
    let begun : HasTaken (g.W.Sink.taken c.args.writer.now) (g.W.Sink.taken c.write_all.new.writer) output.text.items = first_of (search rules, grind (arith, common_steps)) in
    λ _ w at. began_line (place_of c.args.self.now) w c.args.number c.args.line.now c.run_line.new.self.world output _ _ (c.in_ok-output.ensures.ok w at) begun
