-- What is written of the rows of a store, up to the last or up to a fault.
use Rattle.std.specs.Prelude.{ℕ, ◌≡◌, ◌+◌, ◌++◌, Bool, List, [], ◌∷◌, length, Option}
use Rattle.std.specs.Io.KnownBytes.{Appends}
use Rattle.ami_text.specs.Devices.{HasTaken}
use Rattle.stored_steps.specs.Stored.{Stored}
use Rattle.store_listing.specs.declared.listing_fault.ListingFault.{ListingFault}
use Rattle.store_listing.specs.declared.listing_fault.ListingFault.TheVariants.{Write}
use Rattle.store_listing.specs.Causes.{HasCause}
use Rattle.store_listing.specs.Rows.{IsRowText}

-- a text is that of rows, the first of which has this position: their texts, in order
abbrev pub AreTexts : Bool → ℕ → List Stored → List ℕ → Type 0
AreTexts with_frames first [] text = text ≡ []
AreTexts with_frames first (row ∷ rows) text =
    (front : List ℕ) × (more : List ℕ) × IsRowText with_frames first row front × AreTexts with_frames (first + 1) rows more × (text ≡ front ++ more)

-- what a sink took between two states is the text of rows
pub record AreWritten (with_frames : Bool) (first : ℕ) (rows : List Stored) (before after : Option (List ℕ)) : Type 0 where
  pub text : List ℕ
  pub texts : AreTexts with_frames first rows text
  pub taken : Appends before after text

-- what a sink took between two states is the text of the row of a position
pub record IsWritten (with_frames : Bool) (position : ℕ) (row : Stored) (before after : Option (List ℕ)) : Type 0 where
  pub text : List ℕ
  pub row_text : IsRowText with_frames position row text
  pub taken : Appends before after text

-- a sink took a prefix of the text of a row
pub record HasBegun (with_frames : Bool) (position : ℕ) (row : Stored) (before after : Option (List ℕ)) : Type 0 where
  pub text : List ℕ
  pub row_text : IsRowText with_frames position row text
  pub taken : HasTaken before after text

-- what a sink took of the row of a fault: a prefix of its text if the sink failed, otherwise nothing
abbrev pub IsBegun : ListingFault → Bool → ℕ → Stored → Option (List ℕ) → Option (List ℕ) → Type 0
IsBegun Write with_frames position row before after = HasBegun with_frames position row before after
IsBegun fault with_frames position row before after = after ≡ before

-- Writing ended with a fault at a row. The text of the rows before it was written, and nothing after it.
pub record HasStopped (with_frames : Bool) (first : ℕ) (rows : List Stored) (fault : ListingFault) (before after : Option (List ℕ)) : Type 0 where
  pub done : List Stored
  pub row : Stored
  pub left : List Stored
  pub rows_are : rows ≡ done ++ row ∷ left
  pub cause : HasCause fault (first + length done) row
  pub middle : Option (List ℕ)
  pub written : AreWritten with_frames first done before middle
  pub begun : IsBegun fault with_frames (first + length done) row middle after
