-- What is written of rows, one after the other, and how that ends.
use Rattle.std.proofs.Common.{◌≡◌, ◌≢◌, ◌∙◌, ◌<◌, ◌+◌, ℕ, suc, Bool, List, [], ◌∷◌, ◌++◌, length, get_or, take, drop, Option, refl, sym, ap, subst, append_assoc, append-nil, arith}
use Rattle.std.proofs.KnownBytes.{Appends-nil, Appends-trans}
use Rattle.std.proofs.lemmas.List.{drop_more, length-take-le, take-append-drop, take_more}
use Rattle.stored_steps.specs.Stored.{Stored}
use Rattle.store_listing.specs.declared.listing_fault.ListingFault.{ListingFault}
use Rattle.store_listing.specs.declared.listing_fault.ListingFault.TheVariants.{Row, Base, Frame, Write, Memory}
use Rattle.store_listing.specs.Causes.{HasCause}
use Rattle.store_listing.specs.Listings.{AreTexts, AreWritten, HasStopped, IsBegun, IsWritten}
use Rattle.store_listing.specs.Rows.{IsRowText}

-- the text of one row more
texts_push : (f : Bool) (first : ℕ) (rows : List Stored) (row : Stored) (text more : List ℕ) → AreTexts f first rows text → IsRowText f (first + length rows) row more
    → AreTexts f first (rows ++ row ∷ []) (text ++ more)
texts_push f first [] row text more none last =
    (more, [], subst (λ p. IsRowText f p row more) (plus_none first) last, refl, ap (λ l. l ++ more) none ∙ sym (append-nil more))
  where
    plus_none : (n : ℕ) → n + 0 ≡ n
    plus_none n = omega arith
texts_push f first (r ∷ rs) row text more texts last = (
  texts.0,
  texts.1 ++ more,
  texts.2,
  texts_push f (first + 1) rs row texts.1 more texts.3 (subst (λ p. IsRowText f p row more) (one_on first (length rs)) last),
  ap (λ l. l ++ more) texts.4 ∙ append_assoc texts.0 texts.1 more,
)
  where
    one_on : (n m : ℕ) → n + suc m ≡ n + 1 + m
    one_on n m = omega arith

-- nothing is written of no rows
pub none_written : (f : Bool) (first : ℕ) (rows : List Stored) (before : Option (List ℕ)) → AreWritten f first (take 0 rows) before before
none_written f first rows before = record { text = []; texts = refl; taken = Appends-nil before }

-- the text of one row more is written
pub more_written : (f : Bool) (first position : ℕ) (rows : List Stored) (i : ℕ) (row : Stored) (before middle after : Option (List ℕ)) → i < length rows → row ≡ get_or rows i row
    → position ≡ first + i → AreWritten f first (take i rows) before middle → IsWritten f position row middle after → AreWritten f first (take (i + 1) rows) before after
more_written f first position rows i row before middle after within is place written one =
    let size : length (take i rows) ≡ i = length-take-le i rows (omega arith) in
    let here : position ≡ first + length (take i rows) = place ∙ ap (λ n. first + n) (sym size) in
    let rows_are : take i rows ++ row ∷ [] ≡ take (i + 1) rows = ap (λ r. take i rows ++ r ∷ []) is ∙ sym (take_more rows i row within) in
    record {
      text = written.text ++ one.text;
      texts = subst (λ rs. AreTexts f first rs (written.text ++ one.text)) rows_are
          (texts_push f first (take i rows) row written.text one.text written.texts (subst (λ p. IsRowText f p row one.text) here one.row_text));
      taken = Appends-trans before middle after written.text one.text written.taken one.taken;
    }

-- writing has stopped at a row
pub stopped_at : (f : Bool) (first position : ℕ) (rows : List Stored) (i : ℕ) (row : Stored) (fault : ListingFault) (before middle after : Option (List ℕ)) → i < length rows
    → row ≡ get_or rows i row → position ≡ first + i → AreWritten f first (take i rows) before middle → HasCause fault position row → IsBegun fault f position row middle after
    → HasStopped f first rows fault before after
stopped_at f first position rows i row fault before middle after within is place written cause begun =
    let size : length (take i rows) ≡ i = length-take-le i rows (omega arith) in
    let here : position ≡ first + length (take i rows) = place ∙ ap (λ n. first + n) (sym size) in
    record {
      done = take i rows;
      row = row;
      left = drop (i + 1) rows;
      rows_are = sym (take-append-drop i rows) ∙ ap (λ rs. take i rows ++ rs) (drop_more rows i row within ∙ ap (λ r. r ∷ drop (i + 1) rows) (sym is));
      cause = subst (λ p. HasCause fault p row) here cause;
      middle = middle;
      written = written;
      begun = subst (λ p. IsBegun fault f p row middle after) here begun;
    }

-- nothing was written of a row without a text
pub none_begun : (fault : ListingFault) (f : Bool) (position : ℕ) (row : Stored) (before : Option (List ℕ)) → fault ≢ Write → IsBegun fault f position row before before
none_begun (Row place fault) f position row before other = refl
none_begun (Base place fault) f position row before other = refl
none_begun (Frame place fault) f position row before other = refl
none_begun Write f position row before other = absurd (other refl)
none_begun Memory f position row before other = refl
