-- How bytes are cut: behind a front, into lines at LF, and into fields at bars.
use Rattle.std.proofs.Common.{◌≡◌, ℕ, zero, suc, ◌+◌, ◌<◌, ◌==◌, Bool, true, false, ◌&&◌, cond, List, [], ◌∷◌, ◌++◌, length, take, drop, get_or, refl, sym, ◌∙◌, ap, arith, append_assoc, append-nil, add-one, ◌-◌, Option, Some, None, codes}
use lib.Pointwise.{pointwise}
use Rattle.std.specs.Option.{MatchOption, option_map}
use Rattle.std.proofs.lemmas.List.{take_rest}
use Rattle.ami_text.specs.Lines.{content}
use Rattle.std.specs.List.{onto_first, slice_split}
use Rattle.script_lines.specs.ScriptLines.{before_blank, behind, behind_blank, is_bar, last_line, lines_after, lines_of, stream_of}

-- two bytes are the same
abbrev pub same : ℕ → ℕ → Bool
same a b = a == b

-- bytes begin with a front where their first bytes are those of the front
pub behind_is : (front bytes : List ℕ)
    → behind front bytes ≡ cond (pointwise same (take (length front) bytes) front) (Some (drop (length front) bytes)) None
behind_is [] [] = refl
behind_is [] (b ∷ bytes) = refl
behind_is (f ∷ front) [] = refl
behind_is (f ∷ front) (b ∷ bytes) = step (b == f) (behind front bytes) (pointwise same (take (length front) bytes) front) (Some (drop (length front) bytes)) (behind_is front bytes) where
  step : (t : Bool) (x : Option (List ℕ)) (p : Bool) (r : Option (List ℕ)) → x ≡ cond p r None → cond t x None ≡ cond (t && p) r None
  step true x p r e = e
  step false x p r e = refl

-- the byte at a place is the first of its kind
abbrev pub IsFirstAt : ℕ → List ℕ → ℕ → Type 0
IsFirstAt byte bytes n = (n < length bytes) × ((k : ℕ) → k < n → (get_or bytes k 0 == byte) ≡ false) × ((get_or bytes n 0 == byte) ≡ true)

-- there is none
abbrev pub IsNowhere : ℕ → List ℕ → Type 0
IsNowhere byte bytes = (k : ℕ) → k < length bytes → (get_or bytes k 0 == byte) ≡ false

first_tail : (byte b : ℕ) (bytes : List ℕ) (n : ℕ) → IsFirstAt byte (b ∷ bytes) (suc n) → IsFirstAt byte bytes n
first_tail byte b bytes n h = ((let lt : suc n < suc (length bytes) = h.0 in omega (arith, lt)), (λ k lt. h.1 (suc k) (omega (arith, lt))), h.2)

nowhere_tail : (byte b : ℕ) (bytes : List ℕ) → IsNowhere byte (b ∷ bytes) → IsNowhere byte bytes
nowhere_tail byte b bytes h k lt = h (suc k) (omega (arith, lt))

-- the first line of bytes, found by its LF
pub lines_cut : (bytes : List ℕ) (n : ℕ) (front : List ℕ) → IsFirstAt 10 bytes n
    → lines_after front bytes ≡ content (front ++ take n bytes) ∷ lines_of (drop (suc n) bytes)
lines_cut [] n front h = absurd (omega (arith, h.0))
lines_cut (b ∷ bytes) zero front h = rw (h.2, append-nil front) refl
lines_cut (b ∷ bytes) (suc n) front h =
    rw (h.1 0 (omega arith)) (lines_cut bytes n (front ++ b ∷ []) (first_tail 10 b bytes n h)
    ∙ ap (λ line. content line ∷ lines_of (drop (suc n) bytes)) (append_assoc front (b ∷ []) (take n bytes)))

-- bytes without LF are the last line
pub lines_last : (bytes front : List ℕ) → IsNowhere 10 bytes → lines_after front bytes ≡ last_line (front ++ bytes)
lines_last [] front h = ap last_line (sym (append-nil front))
lines_last (b ∷ bytes) front h =
    rw (h 0 (omega arith)) (lines_last bytes (front ++ b ∷ []) (nowhere_tail 10 b bytes h) ∙ ap last_line (append_assoc front (b ∷ []) bytes))

-- some bytes are a last line
pub last_some : (bytes : List ℕ) → 0 < length bytes → last_line bytes ≡ bytes ∷ []
last_some [] lt = absurd (omega (arith, lt))
last_some (b ∷ bytes) lt = refl

-- the stream of fields, up to the first bar
pub stream_cut : (bytes : List ℕ) (n : ℕ) → IsFirstAt 124 bytes n
    → stream_of bytes ≡ take n bytes ++ (codes "\r\n" ++ stream_of (drop (suc n) bytes))
stream_cut [] n h = absurd (omega (arith, h.0))
stream_cut (b ∷ bytes) zero h = rw h.2 refl
stream_cut (b ∷ bytes) (suc n) h = rw (h.1 0 (omega arith)) (ap (λ t. b ∷ t) (stream_cut bytes n (first_tail 124 b bytes n h)))

-- the stream of fields after the last bar
pub stream_last : (bytes : List ℕ) → IsNowhere 124 bytes → stream_of bytes ≡ bytes ++ codes "\r\n\r\n"
stream_last [] h = refl
stream_last (b ∷ bytes) h = rw (h 0 (omega arith)) (ap (λ t. b ∷ t) (stream_last bytes (nowhere_tail 124 b bytes h)))

-- the parts of bytes, up to the first bar
pub parts_cut : (bytes : List ℕ) (n : ℕ) → IsFirstAt 124 bytes n → slice_split is_bar bytes ≡ take n bytes ∷ slice_split is_bar (drop (suc n) bytes)
parts_cut [] n h = absurd (omega (arith, h.0))
parts_cut (b ∷ bytes) zero h = rw h.2 refl
parts_cut (b ∷ bytes) (suc n) h = rw (h.1 0 (omega arith)) (ap (onto_first b) (parts_cut bytes n (first_tail 124 b bytes n h)))

-- the parts of bytes without a bar
pub parts_last : (bytes : List ℕ) → IsNowhere 124 bytes → slice_split is_bar bytes ≡ bytes ∷ []
parts_last [] h = refl
parts_last (b ∷ bytes) h = rw (h 0 (omega arith)) (ap (onto_first b) (parts_last bytes (nowhere_tail 124 b bytes h)))

-- what stands before the first blank, and behind it
pub blank_cut : (bytes : List ℕ) (n : ℕ) → IsFirstAt 32 bytes n → (before_blank bytes ≡ take n bytes) × (behind_blank bytes ≡ Some (drop (suc n) bytes))
blank_cut [] n h = absurd (omega (arith, h.0))
blank_cut (b ∷ bytes) zero h = rw h.2 (refl, refl)
blank_cut (b ∷ bytes) (suc n) h =
    let rest = blank_cut bytes n (first_tail 32 b bytes n h) in
    rw (h.1 0 (omega arith)) (ap (λ t. b ∷ t) rest.0, rest.1)

-- the bytes before the first blank and after it, in a line without a blank
pub blank_none : (bytes : List ℕ) → IsNowhere 32 bytes → (before_blank bytes ≡ bytes) × (behind_blank bytes ≡ None)
blank_none [] h = (refl, refl)
blank_none (b ∷ bytes) h =
    let rest = blank_none bytes (nowhere_tail 32 b bytes h) in
    rw (h 0 (omega arith)) (ap (λ t. b ∷ t) rest.0, rest.1)

-- what a search for the front found
pub behind_found : {A : Type 0} (now : A → List ℕ) (r : Option A) (front bytes : List ℕ)
    → MatchOption r (pointwise same (take (length front) bytes) front ≡ false)
    (λ x. (pointwise same (take (length front) bytes) front ≡ true) × (now x ≡ drop (length front) bytes) × (length (now x) + length front ≡ length bytes))
    → option_map now r ≡ behind front bytes
behind_found now None front bytes h = sym (behind_is front bytes ∙ ap (λ t. cond t (Some (drop (length front) bytes)) None) h)
behind_found now (Some x) front bytes h = ap Some h.1 ∙ sym (behind_is front bytes ∙ ap (λ t. cond t (Some (drop (length front) bytes)) None) h.0)

-- the result of a search for the front, with the bytes after the LF or the bar as the code counts them
pub lines_found : (bytes : List ℕ) (n : ℕ) (front : List ℕ) → IsFirstAt 10 bytes n
    → lines_after front bytes ≡ content (front ++ take n bytes) ∷ lines_of (drop (n + 1) bytes)
lines_found bytes n front h = rw add-one (lines_cut bytes n front h)

pub stream_found : (bytes : List ℕ) (n : ℕ) → IsFirstAt 124 bytes n
    → stream_of bytes ≡ take n bytes ++ (codes "\r\n" ++ stream_of (drop (n + 1) bytes))
stream_found bytes n h = rw add-one (stream_cut bytes n h)

pub parts_found : (bytes : List ℕ) (n : ℕ) → IsFirstAt 124 bytes n → slice_split is_bar bytes ≡ take n bytes ∷ slice_split is_bar (drop (n + 1) bytes)
parts_found bytes n h = rw add-one (parts_cut bytes n h)

pub blank_found : (bytes : List ℕ) (n : ℕ) → IsFirstAt 32 bytes n → (before_blank bytes ≡ take n bytes) × (behind_blank bytes ≡ Some (drop (n + 1) bytes))
blank_found bytes n h = rw add-one (blank_cut bytes n h)

-- what is written of the stream of the fields, all but for the rest, goes on to the next bar
pub stream_goes_on : (fields written rest new after : List ℕ) (n : ℕ) → written ++ stream_of rest ≡ stream_of fields → IsFirstAt 124 rest n
    → new ≡ written ++ take n rest ++ codes "\r\n" → after ≡ take (length rest - (n + 1)) (drop (n + 1) rest) → new ++ stream_of after ≡ stream_of fields
stream_goes_on fields written rest new after n whole first is_new is_after =
    let tail = stream_of (drop (n + 1) rest) in
    (λ i. is_new i ++ stream_of ((is_after ∙ take_rest rest (n + 1)) i))
    ∙ append_assoc (written ++ take n rest) (codes "\r\n") tail ∙ append_assoc written (take n rest) (codes "\r\n" ++ tail)
    ∙ ap (λ t. written ++ t) (sym (stream_found rest n first)) ∙ whole

-- what is written of the stream of the fields, all but the rest, goes on after the last bar to the end
pub stream_ends : (fields written rest new last : List ℕ) → written ++ stream_of rest ≡ stream_of fields → IsNowhere 124 rest
    → new ≡ written ++ rest ++ codes "\r\n" → last ≡ new ++ codes "\r\n" → last ≡ stream_of fields
stream_ends fields written rest new last whole none is_new is_last =
    is_last ∙ ap (λ t. t ++ codes "\r\n") is_new ∙ append_assoc (written ++ rest) (codes "\r\n") (codes "\r\n") ∙ append_assoc written rest (codes "\r\n\r\n")
    ∙ ap (λ t. written ++ t) (sym (stream_last rest none)) ∙ whole
