-- The lines of a script, and what each of them asks.
use Rattle.std.specs.Prelude.{ℕ, ◌==◌, Bool, nat_lt, List, [], ◌∷◌, ◌++◌, Option, Some, None, codes, if◌then◌else◌}
use Rattle.std.specs.Option.{option_and_then, option_map}
use Rattle.std.specs.List.{filter_map, slice_split}
use Rattle.ami_text.specs.MessageFields.{NameAndValue}
use Rattle.ami_text.specs.Lines.{content}
use Rattle.ami_text.specs.Stream.{Reads, Rest}
use Rattle.ami_text.specs.Numbers.{number_in}
use Rattle.ami_session.specs.FieldValues.{name_of}
use Rattle.dots.specs.declared.calls.Calls.{Calls}
use Rattle.dots.specs.declared.calls.Calls.TheVariants.{Completed, Abandoned}

-- the lines of bytes after the last LF: these bytes as one line, or none where there are no bytes
abbrev pub last_line : List ℕ → List (List ℕ)
last_line [] = []
last_line (b ∷ bs) = (b ∷ bs) ∷ []

-- the lines of a script from the middle of a line on, after the part `front` of that line: LF ends a line, and one
-- CR right before it belongs to the end
abbrev pub lines_after : List ℕ → List ℕ → List (List ℕ)
lines_after front [] = last_line front
lines_after front (b ∷ bs) = if b == 10 then content front ∷ lines_after [] bs else lines_after (front ++ b ∷ []) bs

-- the lines of a script, each without its end
abbrev pub lines_of : List ℕ → List (List ℕ)
lines_of script = lines_after [] script

-- what a line asks: nothing; of a site a message (its lines between bars), a call of a queue, an offer (a queue's
-- name and the tried interfaces, between bars), a cut, a whole or a take; to show an entry; or it isn't understood
pub data Sense : Type 0 where
  Nothing : Sense
  Message : (site : ℕ) → (fields : List ℕ) → Sense
  Count : (site : ℕ) → (calls : Calls) → (queue : List ℕ) → Sense
  Offer : (site : ℕ) → (parts : List ℕ) → Sense
  Cut : (site : ℕ) → Sense
  Whole : (site : ℕ) → Sense
  Take : (site : ℕ) → (entry : ℕ) → Sense
  Show : (entry : ℕ) → Sense
  Unknown : Sense

-- the bytes after a front, where the bytes begin with that; else `None`
abbrev pub behind : List ℕ → List ℕ → Option (List ℕ)
behind [] bytes = Some bytes
behind (f ∷ front) [] = None
behind (f ∷ front) (b ∷ bytes) = if b == f then behind front bytes else None

-- the number of an entry that a word of one digit to nine spells
abbrev pub entry_in : List ℕ → Option ℕ
entry_in word = number_in 9 word

-- `site`, where that is the number of one of `sites` sites
abbrev pub one_of : ℕ → ℕ → Option ℕ
one_of sites site = if nat_lt site sites then Some site else None

-- the number of one of `sites` sites that a word of one digit or two spells
abbrev pub site_in : ℕ → List ℕ → Option ℕ
site_in sites word = option_and_then (one_of sites) (number_in 2 word)

-- the first of a list of senses that is there; `Unknown` where none is
abbrev pub first_sense : List (Option Sense) → Sense
first_sense [] = Unknown
first_sense (None ∷ others) = first_sense others
first_sense (Some sense ∷ others) = sense

-- `sense` if the line has no further word, else `Unknown`
abbrev pub end_sense : Sense → List ℕ → Sense
end_sense sense [] = sense
end_sense sense (b ∷ bs) = Unknown

-- the sense of the number of an entry; `Unknown` if there is none
abbrev pub entry_sense : (ℕ → Sense) → Option ℕ → Sense
entry_sense sense None = Unknown
entry_sense sense (Some entry) = sense entry

-- what the words after the number of `site` ask of it, by the first of them
abbrev pub words_sense : ℕ → List ℕ → Sense
words_sense site words = first_sense (
    option_map (Message site) (behind (codes "ami ") words)
    ∷ option_map (Count site Completed) (behind (codes "completed ") words)
    ∷ option_map (Count site Abandoned) (behind (codes "abandoned ") words)
    ∷ option_map (Offer site) (behind (codes "offer ") words)
    ∷ option_map (λ word. entry_sense (Take site) (entry_in word)) (behind (codes "take ") words)
    ∷ option_map (end_sense (Cut site)) (behind (codes "cut") words)
    ∷ option_map (end_sense (Whole site)) (behind (codes "whole") words)
    ∷ []
    )

-- the bytes of a line before its first blank; all if it has none
abbrev pub before_blank : List ℕ → List ℕ
before_blank [] = []
before_blank (b ∷ bs) = if b == 32 then [] else b ∷ before_blank bs

-- the bytes of a line after its first blank; `None` where it has none
abbrev pub behind_blank : List ℕ → Option (List ℕ)
behind_blank [] = None
behind_blank (b ∷ bs) = if b == 32 then Some bs else behind_blank bs

-- what a line asks by the site that its first word names and the words after that; `Unknown` where it names no
-- site, or nothing follows it
abbrev pub site_sense : Option ℕ → Option (List ℕ) → Sense
site_sense (Some site) (Some words) = words_sense site words
site_sense site words = Unknown

-- what `line` asks of one of `sites` sites, or, where it begins with `show `, of the pool; the last argument is
-- what follows that word
abbrev pub asked_in : ℕ → List ℕ → Option (List ℕ) → Sense
asked_in sites line (Some word) = entry_sense Show (entry_in word)
asked_in sites line None = site_sense (site_in sites (before_blank line)) (behind_blank line)

-- what a line asks where there are `sites` sites; an empty line and one that begins with `#` ask nothing
abbrev pub sense_of : ℕ → List ℕ → Sense
sense_of sites [] = Nothing
sense_of sites (b ∷ bs) = if b == 35 then Nothing else asked_in sites (b ∷ bs) (behind (codes "show ") (b ∷ bs))

-- the stream of the message whose lines stand between bars: CR and LF in place of each bar and at
-- the end, and then an empty line
abbrev pub stream_of : List ℕ → List ℕ
stream_of [] = codes "\r\n\r\n"
stream_of (b ∷ bs) = if b == 124 then codes "\r\n" ++ stream_of bs else b ∷ stream_of bs

-- the lines of `fields`, between bars, are this one message, with no other and no fault
abbrev pub IsMessage : List ℕ → List NameAndValue → Type 0
IsMessage fields message = (rest : List ℕ) × Reads (stream_of fields) (message ∷ []) (Rest rest)

-- whether a byte is a bar, which ends a part
abbrev pub is_bar : ℕ → Bool
is_bar b = b == 124

-- the parts between the bars of some bytes; none where there are no such bytes
abbrev pub parts_of : Option (List ℕ) → List (List ℕ)
parts_of None = []
parts_of (Some parts) = slice_split is_bar parts

-- the first of a list of parts; no bytes where the list is empty
abbrev pub first_part : List (List ℕ) → List ℕ
first_part [] = []
first_part (part ∷ parts) = part

-- the parts of a list after the first one
abbrev pub later_parts : List (List ℕ) → List (List ℕ)
later_parts [] = []
later_parts (part ∷ parts) = parts

-- the queue of an `offer` line: the bytes before the first bar, if they are a queue's name
abbrev pub queue_in : List ℕ → Option (List ℕ)
queue_in parts = name_of (first_part (slice_split is_bar parts))

-- the interfaces that an `offer` line says were tried: the parts after the first bar, without those that are no
-- interface
abbrev pub tried_in : List ℕ → List (List ℕ)
tried_in parts = filter_map name_of (later_parts (slice_split is_bar parts))
