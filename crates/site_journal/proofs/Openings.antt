-- How the bytes of a frame begin.
use Rattle.std.proofs.Common.{ℕ, List, [], ◌++◌, refl, sym, ◌∙◌}
use Rattle.std.proofs.lemmas.List.{append-nil}
use Rattle.delta.specs.declared.frame.Frame.{Frame}
use Rattle.delta_codec.specs.Decoding.{HasOpening}
use Rattle.delta_codec.specs.Frames.{Spells, content_bytes}
use Rattle.delta_codec.specs.Parts.{cell_bytes, list_bytes, run_bytes, total_bytes}
use Rattle.delta_codec.proofs.FrameLaws.{lengths}

-- bytes that spell a frame have the opening of one
pub opened : (frame : Frame) (bytes : List ℕ) → Spells frame bytes → HasOpening bytes
opened frame bytes s =
    let parts = s.parts in
    let within = lengths parts s.within in
    record {
      version = parts.version;
      heading = parts.heading;
      content = content_bytes parts;
      more = list_bytes run_bytes parts.runs ++ (list_bytes cell_bytes parts.cells ++ list_bytes total_bytes parts.totals);
      rest = [];
      known = s.within.version;
      good = s.within.heading;
      least = within.0;
      most = within.1;
      opens = refl;
      spelled = s.spelled ∙ sym (append-nil _);
    }
