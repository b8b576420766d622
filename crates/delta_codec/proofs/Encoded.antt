-- The parts of a frame within the ranges of the format are within the limits, and in order.
use Rattle.std.proofs.Common.{◌≡◌, ℕ, ◌<◌, ◌≤◌, List, length, get_or, Some, Result, Ok, Err, IfOk, OnOk, refl, sym, ap, ◌∙◌, arith}
use Rattle.std.specs.FinMap as map
use Rattle.std.specs.List.{All}
use Rattle.std.proofs.lemmas.List.{get_or_default}
use Rattle.dots.specs.declared.limits.TheConstants.{MOST_RUNS}
use Rattle.dots.specs.DotSets.{IsRunsOf, Run}
use Rattle.dots.specs.Orders.{dot_cmp}
use Rattle.general_lemmas.specs.SortedEntries.{IsAt, IsRising}
use Rattle.dots.proofs.DotOrder.{dots_total}
use Rattle.general_lemmas.proofs.SortedEntries.{find_at}
use Rattle.general_lemmas.proofs.TruthTables.{fact}
use Rattle.causal_context.specs.Contexts.{IsRunWithinLimits}
use Rattle.member_orset.specs.Members.{Holding, IsLiveIn}
use Rattle.delta.specs.declared.frame.Frame.{Frame}
use Rattle.delta.specs.Frames.{IsInRanges}
use Rattle.delta_codec.specs.Frames.{AreCells, Heading, SpellsIn, frame_bytes, parts_with}
use Rattle.delta_codec.specs.Parts.{CellParts}
use Rattle.delta_codec.specs.Written.{AreWritten}
use Rattle.delta_codec.specs.declared.limits.TheConstants.{VERSION}
use Rattle.delta_codec.proofs.CellLaws.{flags_few}
use Rattle.delta_codec.proofs.Counting.{few_totals}

abbrev Live : Type 0
Live = map.FinMap dot_cmp Holding

rising : (live : Live) → IsRising dot_cmp (map.entries live)
rising live = fact _ (map.entries_sorted live)

-- an entry of a map is found there
entry_found : (live : Live) (k : ℕ) (d : CellParts) → k < length (map.entries live) → map.get live (get_or (map.entries live) k d).0 ≡ Some (get_or (map.entries live) k d).1
entry_found live k d lt =
    let at : IsAt (map.entries live) (get_or (map.entries live) k d).0 k = record { in_range = lt; has_key = λ none. ap (λ (x : CellParts). x.0) (get_or_default (map.entries live) k none d lt) } in
    map.get-entries live (get_or (map.entries live) k d).0 ∙ find_at dot_cmp dots_total (map.entries live) (rising live) (get_or (map.entries live) k d).0 k d at

cells_are : (frame : Frame) (runs : List Run) → IsInRanges frame → IsRunsOf runs frame.delta.members.known → AreWritten frame.maker frame.delta → AreCells VERSION runs (map.entries frame.delta.members.live)
cells_are frame runs ranges are written =
    let live : Live = frame.delta.members.live in
    let held : (k : ℕ) (d : CellParts) → k < length (map.entries live) → IsLiveIn frame.delta.members (get_or (map.entries live) k d).0 (get_or (map.entries live) k d).1 = λ k d lt. written.members.held _ _ (entry_found live k d lt) in
    record {
      listed = record {
        each = λ k d lt. record {
          dot = (written.cells k d lt).dot;
          member = record { queue = ranges.queues _ _ (entry_found live k d lt); interface = (written.cells k d lt).interface };
          fields = record { within = (written.cells k d lt).fields; some = (held k d lt).set; of_version = flags_few (get_or (map.entries live) k d).1.1 };
        };
        order = rising live;
        few = let same : map.len live ≡ length (map.entries live) = map.len-entries live in omega (arith, same, written.members.cells);
      };
      known = λ k d lt. sym (are.same _) ∙ (held k d lt).known;
    }

-- the heading of a frame
abbrev pub heading_of : Frame → Heading
heading_of frame = record { maker = frame.maker; number = frame.number }

-- what is written of a frame within the ranges spells it, in the version that is written
frame_spelled : (frame : Frame) (runs : List Run) (bytes : List ℕ) → IsInRanges frame → IsRunsOf runs frame.delta.members.known → All IsRunWithinLimits runs → length runs ≤ MOST_RUNS → AreWritten frame.maker frame.delta → bytes ≡ frame_bytes (parts_with (heading_of frame) frame.delta runs) → SpellsIn VERSION frame bytes
frame_spelled frame runs bytes ranges are each few written spelled = record {
  spells = record {
    parts = parts_with (heading_of frame) frame.delta runs;
    of_frame = record { maker = refl; number = refl; runs = are; cells = refl; totals = refl };
    within = record {
      version = (omega arith, omega arith);
      heading = record { maker = written.maker_is; number = ranges.number };
      runs = record { each = each; order = are.apart; few = few };
      cells = cells_are frame runs ranges are written;
      totals = record { each = written.totals; order = fact _ (map.entries_sorted frame.delta.totals.entries); few = few_totals frame.delta.totals.entries written.totals };
    };
    spelled = spelled;
  };
  version_is = refl;
}

-- the bytes that were written, if any, spell a frame within the ranges
pub written_spells : {X E : Type 0} (result : Result X E) (bytes_of : X → List ℕ) (frame : Frame) (runs : List Run) → IsInRanges frame → IsRunsOf runs frame.delta.members.known → All IsRunWithinLimits runs → length runs ≤ MOST_RUNS → OnOk result (AreWritten frame.maker frame.delta) → IfOk result (λ x. bytes_of x ≡ frame_bytes (parts_with (heading_of frame) frame.delta runs)) → IfOk result (λ x. SpellsIn VERSION frame (bytes_of x))
written_spells (Ok x) bytes_of frame runs ranges are each few written spelled = frame_spelled frame runs (bytes_of x) ranges are each few written spelled
written_spells (Err fault) bytes_of frame runs ranges are each few written spelled = tt
