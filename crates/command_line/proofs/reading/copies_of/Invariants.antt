use Rattle.std.proofs.Common.{◌≡◌, map, take, vec_len}
use Rattle.std.specs.Prelude.{string_bytes}
use Rattle.command_line.proofs.reading.copies_of.Given as goal

-- the words before this one are copied
abbrev pub invariant-loop-word : goal.invariant-loop-word
invariant-loop-word l = (vec_len l.copies ≡ l.word-index)
    × (map string_bytes l.copies.items ≡ map (λ word. word.now) (take l.word-index l.words))
