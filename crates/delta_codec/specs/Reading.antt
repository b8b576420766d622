-- Reading bytes in order: the part at the front and the bytes after it, or the first fault.
use Rattle.std.specs.Prelude.{◌≡◌, ℕ, zero, suc, Bool, true, false, not, ◌&&◌, ◌==◌, ◌+◌, List, [], ◌∷◌, length, take, drop, Option, Some, None, Result, Ok, Err, nat_le, nat_lt, fold, if◌then◌else◌}
use Rattle.std.specs.FinMap as map
use Rattle.std.specs.FinSet as set
use Rattle.std.specs.Int.{Width, w16, w32, w64, byte_len, from_be_bytes}
use Rattle.std.specs.List.{list_any}
use Rattle.std.specs.Ordering.{is_lt}
use Rattle.dots.specs.declared.label.Label.{Label}
use Rattle.dots.specs.declared.limits.TheConstants.{MOST_CALLS, MOST_COUNT, MOST_LIVE, MOST_PENALTY, MOST_RUNS, QUEUES, SITES, TEXT_BYTES}
use Rattle.operations.specs.Conditions.{DotFields}
use Rattle.dots.specs.DotSets.{Run, dots_between, is_apart}
use Rattle.dots.specs.Orders.{dot_cmp}
use Rattle.operations.specs.Registers.{Entry}
use Rattle.dots.specs.CountedCalls.{is_zero}
use Rattle.operations.specs.Totals.{Entries, Key, join_of, key_cmp, single}
use Rattle.dots.specs.Values.{Dot, PauseState, Stamp, is_bad_byte}
use Rattle.member_orset.specs.Members.{Holding}
use Rattle.delta_codec.specs.declared.decode_fault.DecodeFault.{DecodeFault}
use Rattle.delta_codec.specs.declared.decode_fault.DecodeFault.TheVariants.{Truncated, BadMagic, BadVersion, BadRange, BadOrder, BadText, TooLarge, Memory}
use Rattle.delta_codec.specs.declared.limits.TheConstants.{LEAST_LENGTH, MOST_LENGTH, MOST_TOTALS, OLDEST_VERSION, VERSION}
use Rattle.delta_codec.specs.Parts.{CellParts, TotalParts, most_flags}
use Rattle.delta_codec.specs.Frames.{Heading, magic}
use Rattle.delta_codec.specs.Faults.{QueuedDot, label_flag, pause_flag, penalty_flag, ring_flag}

-- what is read: a part and the bytes after it, or a fault
abbrev pub Read : Type 0 → Type 0
Read A = Result (A × List ℕ) DecodeFault

-- ---- sequences of parts

-- a fault stays; otherwise reading goes on with the part
infixl 10 ◌>>=◌
abbrev pub ◌>>=◌ : {A B : Type 0} → Result A DecodeFault → (A → Result B DecodeFault) → Result B DecodeFault
(Ok x) >>= f = f x
(Err e) >>= f = Err e

-- a part that must pass a test
abbrev pub tested : {A : Type 0} → (A → Bool) → DecodeFault → Read A → Read A
tested test rule read = read >>= λ x. if test x.0 then Ok x else Err rule

-- a part, and what is made of it
abbrev pub made : {A B : Type 0} → (A → B) → Read A → Read B
made f read = read >>= λ x. Ok (f x.0, x.1)

-- a part, and then another
abbrev pub both : {A B : Type 0} → Read A → (A → List ℕ → Read B) → Read (A × B)
both first next = first >>= λ x. next x.0 x.1 >>= λ y. Ok ((x.0, y.0), y.1)

-- ---- numbers

-- the next byte
abbrev pub byte_at : List ℕ → Read ℕ
byte_at [] = Err BadRange
byte_at (b ∷ rest) = Ok (b, rest)

-- the next number of a width, its greatest byte first
abbrev pub number_at : Width → List ℕ → Read ℕ
number_at w bytes = if nat_lt (length bytes) (byte_len w) then Err BadRange else Ok (from_be_bytes w (take (byte_len w) bytes), drop (byte_len w) bytes)

-- whether a number is from 1 to 2 ^ 40
abbrev pub is_count : ℕ → Bool
is_count n = nat_le 1 n && nat_le n MOST_COUNT

-- the number of a site
unfoldable pub site_at : List ℕ → Read ℕ
site_at bytes = tested (λ n. nat_lt n SITES) BadRange (byte_at bytes)

-- a count, a time or a frame's number
unfoldable pub count_at : List ℕ → Read ℕ
count_at bytes = tested is_count BadRange (number_at w64 bytes)

-- the last count of a run, from its first on
unfoldable pub last_at : ℕ → List ℕ → Read ℕ
last_at first bytes = tested (λ n. nat_le first n && nat_le n MOST_COUNT) BadRange (number_at w64 bytes)

-- the number of a queue
unfoldable pub queue_at : List ℕ → Read ℕ
queue_at bytes = tested (λ n. nat_lt n QUEUES) BadRange (number_at w16 bytes)

-- a penalty
unfoldable pub penalty_at : List ℕ → Read ℕ
penalty_at bytes = tested (λ n. nat_le n MOST_PENALTY) BadRange (number_at w32 bytes)

-- how many calls were counted
unfoldable pub calls_at : List ℕ → Read ℕ
calls_at bytes = tested (λ n. nat_le n MOST_CALLS) BadRange (number_at w64 bytes)

-- a bit, which takes a byte
unfoldable pub bit_at : List ℕ → Read ℕ
bit_at bytes = tested (λ n. nat_lt n 2) BadRange (byte_at bytes)

-- the flags of fields of a version, of which one at least is set
unfoldable pub flags_at : ℕ → List ℕ → Read ℕ
flags_at version bytes = tested (λ n. nat_le 1 n && nat_le n (most_flags version)) BadRange (byte_at bytes)

-- ---- texts

-- the next `len` bytes
abbrev pub bytes_of : ℕ → List ℕ → Read (List ℕ)
bytes_of len rest = if nat_lt (length rest) len then Err BadRange else Ok (take len rest, drop len rest)

-- the next `len` bytes, which make a text
unfoldable pub text_of : ℕ → List ℕ → Read (List ℕ)
text_of len rest =
    if nat_lt (length rest) len then Err BadRange
    else if list_any is_bad_byte (take len rest) then Err BadText
    else Ok (take len rest, drop len rest)

-- how many bytes a text has: at least `least`
abbrev pub length_at : ℕ → List ℕ → Read ℕ
length_at least bytes = tested (λ len. nat_le least len && nat_le len TEXT_BYTES) BadText (byte_at bytes)

-- a text of at least `least` bytes
unfoldable pub text_at : ℕ → List ℕ → Read (List ℕ)
text_at least bytes = length_at least bytes >>= λ len. text_of len.0 len.1

-- the reason where there is no pause: it is empty
unfoldable pub no_reason_at : List ℕ → Read (List ℕ)
no_reason_at bytes = made (λ _. []) (tested (λ len. len == 0) BadRange (tested (λ len. nat_le len TEXT_BYTES) BadText (byte_at bytes)))

-- ---- fields

-- a stamp: its time, and then its site
unfoldable pub stamp_at : List ℕ → Read Stamp
stamp_at bytes = made (λ p. record { time = p.0; site = p.1 }) (both (count_at bytes) (λ _. site_at))

-- the reason of a pause; one that isn't paused has none
unfoldable pub reason_at : ℕ → List ℕ → Read (List ℕ)
reason_at zero rest = no_reason_at rest
reason_at (suc n) rest = text_at 0 rest

-- a pause: whether it is one, and then its reason
unfoldable pub pause_at : List ℕ → Read PauseState
pause_at bytes = made (λ p. record { paused = p.0 == 1; reason = p.1 }) (both (bit_at bytes) reason_at)

-- a label: the name, and then the state interface
unfoldable pub label_at : List ℕ → Read Label
label_at bytes = made (λ p. record { name = p.0; state = p.1 }) (both (text_at 0 bytes) (λ _. text_at 0))

-- a ring: whether its bit is 1
unfoldable pub ring_at : List ℕ → Read Bool
ring_at bytes = made (λ n. n == 1) (bit_at bytes)

-- the value of a set field: its stamp, and then its value
unfoldable pub entry_at : {T : Type 0} → (List ℕ → Read T) → List ℕ → Read (Entry T)
entry_at value_at bytes = made (λ p. record { stamp = p.0; value = p.1 }) (both (stamp_at bytes) (λ _. value_at))

-- a field, if its flag says that it is set
unfoldable pub field_at : {T : Type 0} → Bool → (List ℕ → Read T) → List ℕ → Read (Option (Entry T))
field_at false value_at bytes = Ok (None, bytes)
field_at true value_at bytes = made Some (entry_at value_at bytes)

-- the fields after their flags
unfoldable pub set_fields_at : ℕ → List ℕ → Read DotFields
set_fields_at flags bytes =
    made (λ p. record { penalty = p.0; pause = p.1.0; label = p.1.1.0; ring = p.1.1.1 })
    (both (field_at (penalty_flag flags) penalty_at bytes) (λ _ rest.
    both (field_at (pause_flag flags) pause_at rest) (λ _ rest.
    both (field_at (label_flag flags) label_at rest) (λ _. field_at (ring_flag flags) ring_at))))

-- the flags of fields of a version, and then the fields that they name
unfoldable pub fields_at : ℕ → List ℕ → Read DotFields
fields_at version bytes = made (λ p. p.1) (both (flags_at version bytes) set_fields_at)

-- ---- runs, cells, totals

-- a run: its site, its first count and its last
unfoldable pub run_at : List ℕ → Read Run
run_at bytes = made (λ p. record { site = p.0; first = p.1.0; last = p.1.1 }) (both (site_at bytes) (λ _ rest. both (count_at rest) last_at))

-- a dot: its site, and then its count
unfoldable pub dot_at : List ℕ → Read Dot
dot_at bytes = made (λ p. record { site = p.0; count = p.1 }) (both (site_at bytes) (λ _. count_at))

-- a dot, and then the queue of its member
unfoldable pub place_at : List ℕ → Read QueuedDot
place_at bytes = made (λ p. record { dot = p.0; queue = p.1 }) (both (dot_at bytes) (λ _. queue_at))

-- a cell of a version: dot and queue, the interface, and then the fields
unfoldable pub cell_at : ℕ → List ℕ → Read CellParts
cell_at version bytes =
    made (λ p. (p.0.dot, (record { queue = p.0.queue; interface = p.1.0 }, p.1.1)))
    (both (place_at bytes) (λ _ rest. both (text_at 1 rest) (λ _. fields_at version)))

-- a total: its site, its queue, and the calls completed and abandoned, of which one is counted at least
unfoldable pub total_at : List ℕ → Read TotalParts
total_at bytes =
    tested (λ total. not (is_zero total.1)) BadRange
    (made (λ p. (record { site = p.0; queue = p.1.0 }, record { completed = p.1.1.0; abandoned = p.1.1.1 }))
    (both (site_at bytes) (λ _ rest. both (queue_at rest) (λ _ rest. both (calls_at rest) (λ _. calls_at)))))

-- ---- lists

-- no fault if a test holds, and otherwise this one
abbrev pub unless : Bool → DecodeFault → Option DecodeFault
unless true fault = None
unless false fault = Some fault

-- `BadOrder` where a key doesn't follow the last one
abbrev pub order_fault : {K : Type 0} → (K → K → Bool) → Option K → K → Option DecodeFault
order_fault follows None key = None
order_fault follows (Some last) key = unless (follows last key) BadOrder

-- the first of two faults that is there
abbrev pub or_else : Option DecodeFault → Option DecodeFault → Option DecodeFault
or_else None fault = fault
or_else (Some first) fault = Some first

-- whether a dot lies before another
abbrev pub is_dot_before : Dot → Dot → Bool
is_dot_before dot next = is_lt (dot_cmp dot next)

-- whether a key of totals lies before another
abbrev pub is_key_before : Key → Key → Bool
is_key_before key next = is_lt (key_cmp key next)

-- the fault of a dot that doesn't follow the last one or isn't known, if it has one
abbrev pub dot_fault : (Dot → Bool) → Option Dot → Dot → Option DecodeFault
dot_fault is_known last dot = or_else (order_fault is_dot_before last dot) (unless (is_known dot) BadRange)

-- an element, or the fault that there is for it
abbrev pub accepted : {A : Type 0} → Option DecodeFault → A → Result A DecodeFault
accepted None x = Ok x
accepted (Some fault) x = Err fault

-- how elements are read: one of them, its key, and why a key can't follow another
pub record Elements (A K : Type 0) : Type 0 where
  pub at : List ℕ → Read A
  pub key : A → K
  pub fault_of : Option K → K → Option DecodeFault

-- runs, each apart from the last one
abbrev pub run_elements : Elements Run Run
run_elements = record { at = run_at; key = λ run. run; fault_of = order_fault is_apart }

-- cells of a version, of known dots, in the order of these
abbrev pub cell_elements : ℕ → (Dot → Bool) → Elements CellParts Dot
cell_elements version is_known = record { at = cell_at version; key = λ cell. cell.0; fault_of = dot_fault is_known }

-- totals, in the order of their keys
abbrev pub total_elements : Elements TotalParts Key
total_elements = record { at = total_at; key = λ total. total.0; fault_of = order_fault is_key_before }

-- the next element, after the last one
abbrev pub next_at : {A K : Type 0} → Elements A K → Option K → List ℕ → Read A
next_at e last bytes = e.at bytes >>= λ x. accepted (e.fault_of last (e.key x.0)) x

-- a given number of elements, each after the one before
unfoldable pub elements_at : {A K : Type 0} → Elements A K → ℕ → Option K → List ℕ → Read (List A)
elements_at e zero last bytes = Ok ([], bytes)
elements_at e (suc n) last bytes = next_at e last bytes >>= λ x. elements_at e n (Some (e.key x.0)) x.1 >>= λ xs. Ok (x.0 ∷ xs.0, xs.1)

-- how many elements a list has, at most `most`
unfoldable pub size_at : ℕ → List ℕ → Read ℕ
size_at most bytes = tested (λ n. nat_le n most) TooLarge (number_at w32 bytes)

-- a list: how many elements there are, and then these
unfoldable pub list_at : {A K : Type 0} → Elements A K → ℕ → List ℕ → Read (List A)
list_at e most bytes = size_at most bytes >>= λ n. elements_at e n.0 None n.1

-- what is kept of a list of runs, element by element: a run's dots are known
abbrev pub with_run : set.FinSet dot_cmp → Run → set.FinSet dot_cmp
with_run dots run = set.union dots (dots_between run.site run.first run.last)

-- what is kept of a list of cells, element by element: a cell's dot is live
abbrev pub with_cell : map.FinMap dot_cmp Holding → CellParts → map.FinMap dot_cmp Holding
with_cell live cell = map.insert live cell.0 cell.1

-- what is kept of a list of totals, element by element: a total is joined with those before
abbrev pub with_total : Entries → TotalParts → Entries
with_total entries total = join_of entries (single total.0 total.1)

-- the dots of runs
abbrev pub known_of : List Run → set.FinSet dot_cmp
known_of = fold with_run set.empty

-- the live dots of cells
abbrev pub live_of : List CellParts → map.FinMap dot_cmp Holding
live_of = fold with_cell map.empty

-- the entries of totals
abbrev pub totals_of : List TotalParts → Entries
totals_of = fold with_total map.empty

-- the list of runs
abbrev pub runs_at : List ℕ → Read (List Run)
runs_at = list_at run_elements MOST_RUNS

-- the list of cells of a version, of known dots
abbrev pub cells_at : ℕ → (Dot → Bool) → List ℕ → Read (List CellParts)
cells_at version is_known = list_at (cell_elements version is_known) MOST_LIVE

-- the list of totals
abbrev pub totals_at : List ℕ → Read (List TotalParts)
totals_at = list_at total_elements MOST_TOTALS

-- ---- the whole

-- the letters Q and D, which follow the length of a frame
unfoldable pub magic_at : List ℕ → Read (List ℕ)
magic_at [] = Err BadMagic
magic_at (q ∷ []) = Err BadMagic
magic_at (q ∷ d ∷ rest) = if (q == 81) && (d == 68) then Ok (magic, rest) else Err BadMagic

-- whether a number is one of the versions that are read
abbrev pub is_version : ℕ → Bool
is_version n = nat_le OLDEST_VERSION n && nat_le n VERSION

-- the version of the format
unfoldable pub version_at : List ℕ → Read ℕ
version_at [] = Err BadVersion
version_at (n ∷ rest) = if is_version n then Ok (n, rest) else Err BadVersion

-- the maker of the frame, and its number
unfoldable pub heading_at : List ℕ → Read Heading
heading_at bytes = made (λ p. record { maker = p.0; number = p.1 }) (both (site_at bytes) (λ _. count_at))

-- a part after which no bytes are left
abbrev pub ended : {A : Type 0} → A × List ℕ → Result A DecodeFault
ended x = if length x.1 == 0 then Ok x.0 else Err BadRange

-- the bytes that a length says, which follow it
unfoldable pub within_at : ℕ → List ℕ → Result (List ℕ) DecodeFault
within_at len rest =
    if nat_lt MOST_LENGTH len then Err TooLarge
    else if nat_lt len LEAST_LENGTH then Err BadRange
    else if nat_lt (length rest) len then Err Truncated
    else Ok (take len rest)

-- the length, and the bytes that it says
unfoldable pub content_in : List ℕ → Result (List ℕ) DecodeFault
content_in bytes = if nat_lt (length bytes) 4 then Err Truncated else within_at (from_be_bytes w32 (take 4 bytes)) (drop 4 bytes)

-- what is kept of a frame: heading, known dots, live dots and totals
abbrev pub Kept : Type 0
Kept = Heading × (set.FinSet dot_cmp × (map.FinMap dot_cmp Holding × Entries))

-- what is kept of the parts of a frame, which are all of the bytes
unfoldable pub kept_at : List ℕ → Result Kept DecodeFault
kept_at bytes =
    magic_at bytes >>= λ letters. version_at letters.1 >>= λ version. heading_at version.1 >>= λ heading.
    made known_of (runs_at heading.1) >>= λ known. made live_of (cells_at version.0 (set.contains known.0) known.1) >>= λ live. made totals_of (totals_at live.1) >>= λ totals.
    ended ((heading.0, (known.0, (live.0, totals.0))), totals.1)

-- the heading, after the letters and the version
unfoldable pub opening_at : List ℕ → Read Heading
opening_at bytes = magic_at bytes >>= λ letters. version_at letters.1 >>= λ version. heading_at version.1

-- the heading of the frame that bytes begin with
unfoldable pub opening_in : List ℕ → Read Heading
opening_in bytes = content_in bytes >>= opening_at

-- what is kept of the frame that bytes begin with, and how many bytes it has
unfoldable pub kept_in : List ℕ → Result (Kept × ℕ) DecodeFault
kept_in bytes = content_in bytes >>= λ content. kept_at content >>= λ kept. Ok (kept, 4 + length content)

-- ---- what functions return

-- A function's result, by its view, is the result of reading.
abbrev pub ReturnsRead : {X Y : Type 0} → (X → Y) → Result X DecodeFault → Result Y DecodeFault → Type 0
ReturnsRead view (Ok x) read = read ≡ Ok (view x)
ReturnsRead view (Err fault) read = read ≡ Err fault

-- A result is the fault that reading gives, or out of memory.
abbrev pub Fails : {Y : Type 0} → DecodeFault → Result Y DecodeFault → Type 0
Fails Memory read = Unit {0}
Fails Truncated read = read ≡ Err Truncated
Fails BadMagic read = read ≡ Err BadMagic
Fails BadVersion read = read ≡ Err BadVersion
Fails BadRange read = read ≡ Err BadRange
Fails BadOrder read = read ≡ Err BadOrder
Fails BadText read = read ≡ Err BadText
Fails TooLarge read = read ≡ Err TooLarge

-- The result of a function that takes memory, by its view, is the result of reading, unless memory ran out.
abbrev pub GivesWithMemory : {X Y : Type 0} → (X → Y) → Result X DecodeFault → Result Y DecodeFault → Type 0
GivesWithMemory view (Ok x) read = read ≡ Ok (view x)
GivesWithMemory view (Err fault) read = Fails fault read
