use Rattle.std.proofs.Common.{◌≡◌, ◌≤◌, ℕ, List, Option, arith, inr, length, subst, sym}
use Rattle.std.proofs.lemmas.Result.{IfOk-weaker}
use Rattle.std.specs.Io.KnownBytes.{Consumes}
use Rattle.sites_world.specs.Worlds.{World, new_world}
use Rattle.scripts.specs.declared.script.Script.{Script}
use Rattle.scripts.specs.LineSteps.{StandsAt, place_of}
use Rattle.scripts.specs.Script.{HasBegunText, HasDoneLines, HasWritten, IsScriptRun, IsRunInPart, IsRunInWholeLines, ScriptSites}
use Rattle.scripts.proofs.run.run_script.Goals as goal

-- a script that was read, and whose lines were run over new sites, was run
run_whole : (place : ScriptSites) (script : Script) (text : List ℕ) (left left_new taken taken_new : Option (List ℕ)) (unknown : ℕ)
    → place_of script ≡ place → StandsAt script.world (new_world place.sites) → length text ≤ 16777216 → Consumes left left_new text
    → ((w : World) → StandsAt script.world w → HasWritten (place_of script) w text taken taken_new unknown)
    → IsScriptRun place left left_new taken taken_new unknown
run_whole place script text left left_new taken taken_new unknown same stands short read written = record {
  script = text;
  short = short;
  read = read;
  written = subst (λ p. HasWritten p (new_world place.sites) text taken taken_new unknown) same (written (new_world place.sites) stands);
}

-- one whose lines were begun there was run in part
run_in_part : (place : ScriptSites) (script : Script) (text : List ℕ) (left left_new taken taken_new : Option (List ℕ))
    → place_of script ≡ place → StandsAt script.world (new_world place.sites) → length text ≤ 16777216 → Consumes left left_new text
    → ((w : World) → StandsAt script.world w → HasBegunText (place_of script) w text taken taken_new)
    → IsRunInPart place left left_new taken taken_new
run_in_part place script text left left_new taken taken_new same stands short read begun = record {
  script = text;
  short = short;
  read = read;
  written = subst (λ p. HasBegunText p (new_world place.sites) text taken taken_new) same (begun (new_world place.sites) stands);
}

-- a script whose first lines were done there was run in whole lines
run_in_whole_lines : (place : ScriptSites) (script : Script) (text : List ℕ) (left left_new taken taken_new : Option (List ℕ))
    → place_of script ≡ place → StandsAt script.world (new_world place.sites) → length text ≤ 16777216 → Consumes left left_new text
    → ((w : World) → StandsAt script.world w → HasDoneLines (place_of script) w text taken taken_new)
    → IsRunInWholeLines place left left_new taken taken_new
run_in_whole_lines place script text left left_new taken taken_new same stands short read done = record {
  script = text;
  short = short;
  read = read;
  written = subst (λ p. HasDoneLines p (new_world place.sites) text taken taken_new) same (done (new_world place.sites) stands);
}

pub returns-clause-text : goal.returns-clause-text
returns-clause-text g c =
    let text = c.deref.result.now in
    let short : length text ≤ 16777216 = omega (arith, c.in_ok-text.ensures.limit, c.deref.ensures.len) in
    let read : Consumes (g.S.Source.left c.args.reader.now) (g.S.Source.left c.read_script.new.reader) text =
    subst (Consumes (g.S.Source.left c.args.reader.now) (g.S.Source.left c.read_script.new.reader)) (sym c.deref.ensures.value) c.in_ok-text.ensures.whole in
    IfOk-weaker c.run_lines.result _ _
    (λ unknown written. run_whole _ c.in_ok-script.script text _ _ _ _ unknown c.in_ok-script.ensures.place c.in_ok-script.ensures.stands short read written)
    c.run_lines.ensures.ok

pub returns-clause-unwritten : goal.returns-clause-unwritten
returns-clause-unwritten g c = λ is.
    let text = c.deref.result.now in
    let short : length text ≤ 16777216 = omega (arith, c.in_ok-text.ensures.limit, c.deref.ensures.len) in
    let read : Consumes (g.S.Source.left c.args.reader.now) (g.S.Source.left c.read_script.new.reader) text =
    subst (Consumes (g.S.Source.left c.args.reader.now) (g.S.Source.left c.read_script.new.reader)) (sym c.deref.ensures.value) c.in_ok-text.ensures.whole in
    run_in_part _ c.in_ok-script.script text _ _ _ _ c.in_ok-script.ensures.place c.in_ok-script.ensures.stands short read (c.run_lines.ensures.begun is)

pub returns-clause-memory : goal.returns-clause-memory
returns-clause-memory g c = λ is.
    let text = c.deref.result.now in
    let short : length text ≤ 16777216 = omega (arith, c.in_ok-text.ensures.limit, c.deref.ensures.len) in
    let read : Consumes (g.S.Source.left c.args.reader.now) (g.S.Source.left c.read_script.new.reader) text =
    subst (Consumes (g.S.Source.left c.args.reader.now) (g.S.Source.left c.read_script.new.reader)) (sym c.deref.ensures.value) c.in_ok-text.ensures.whole in
    inr (c.in_ok-text.ensures.ended, run_in_whole_lines _ c.in_ok-script.script text _ _ _ _ c.in_ok-script.ensures.place c.in_ok-script.ensures.stands short read (c.run_lines.ensures.memory is))
