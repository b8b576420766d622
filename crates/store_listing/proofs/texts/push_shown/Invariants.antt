use Rattle.std.proofs.Common.{◌≡◌, ◌++◌, take}
use Rattle.store_listing.specs.Texts.{shown}
use Rattle.store_listing.proofs.texts.push_shown.Given as goal

-- the bytes up to this one are shown
abbrev pub invariant-loop-byte : goal.invariant-loop-byte
invariant-loop-byte l = l.line.items ≡ l.initial.line.items ++ shown (take l.byte-index l.text)
