-- How many bytes the parts of a frame have at most.
use Rattle.std.specs.Prelude.{ℕ, ◌+◌}
use Rattle.dots.specs.declared.limits.TheConstants.{TEXT_BYTES}

-- the most bytes of a text, with its length
abbrev pub most_text : ℕ
most_text = 1 + TEXT_BYTES

-- the bytes of a penalty
abbrev pub most_penalty : ℕ
most_penalty = 4

-- the most bytes of a pause, with its reason
abbrev pub most_pause : ℕ
most_pause = 1 + most_text

-- the most bytes of a label of two texts
abbrev pub most_label : ℕ
most_label = most_text + most_text

-- the bytes of a ring
abbrev pub most_ring : ℕ
most_ring = 1

-- the most bytes of a field whose value has at most `most`: its stamp has nine
abbrev pub most_field : ℕ → ℕ
most_field most = 9 + most

-- the most bytes of fields, with their flags
abbrev pub most_fields : ℕ
most_fields = 1 + (most_field most_penalty + (most_field most_pause + (most_field most_label + most_field most_ring)))

-- the most bytes of a cell, whose dot and queue have eleven
abbrev pub most_cell : ℕ
most_cell = 11 + (most_text + most_fields)
