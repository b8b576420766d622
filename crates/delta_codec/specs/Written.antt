-- What contracts show of the parts of a frame as they are written: they are within their limits, except those that only a frame
-- has.
use Rattle.std.specs.Prelude.{ℕ}
use Rattle.std.specs.FinMap as map
use Rattle.std.specs.List.{All}
use Rattle.operations.specs.Totals.{IsTotal}
use Rattle.dots.specs.Values.{IsName, IsSite}
use Rattle.dots.specs.WithinLimits.{IsDot}
use Rattle.member_orset.specs.Members.{IsWithinLimits}
use Rattle.delta.specs.DeltaStates.{DeltaState}
use Rattle.delta_codec.specs.Parts.{AreInLimits, CellParts}

-- all parts of a cell are within their limits; its queue may be any, and all its fields may be unset
pub record IsWritten (cell : CellParts) : Type 0 where
  pub dot : IsDot cell.0
  pub interface : IsName cell.1.0.interface
  pub fields : AreInLimits cell.1.1

-- all parts of a maker and a delta are within their limits; a queue may be any
pub record AreWritten (maker : ℕ) (delta : DeltaState) : Type 0 where
  pub maker_is : IsSite maker
  pub members : IsWithinLimits delta.members
  pub cells : All IsWritten (map.entries delta.members.live)
  pub totals : All (λ total. IsTotal total.0 total.1) (map.entries delta.totals.entries)
