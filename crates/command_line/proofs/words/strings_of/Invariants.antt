use Rattle.std.proofs.Common.{◌≡◌, map, take}
use Rattle.command_line.proofs.words.strings_of.Given as goal

-- the words before this one are listed
abbrev pub invariant-loop-word : goal.invariant-loop-word
invariant-loop-word l = map (λ word. word.now) l.words.items ≡ map (λ word. word.now) (take l.word-index l.word-items)
