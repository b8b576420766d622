-- Bytes that are followed by their tags (this project's own).
use Rattle.std.specs.Prelude.{ℕ, ◌≡◌, ◌+◌, ◌-◌, ◌^◌, List, ◌++◌, drop, take}
use Rattle.link_keys.specs.Macs.{tag_of}
use Rattle.link_stream.specs.declared.receive_fault.ReceiveFault.{ReceiveFault}
use Rattle.link_stream.specs.declared.receive_fault.ReceiveFault.TheVariants.{Exhausted, Memory, WrongTag}

-- what was read of a stream and not yet taken, the key of its direction, and how many items were taken
pub record TaggedState : Type 0 where
  pub key : List ℕ
  pub taken : ℕ
  pub held : List ℕ

-- an item, and its tag under a counter
abbrev pub tagged : List ℕ → ℕ → List ℕ → List ℕ
tagged key counter item = item ++ tag_of key counter item

-- the first `size` bytes of these are followed by their tag under a counter
abbrev pub HasTag : List ℕ → ℕ → ℕ → List ℕ → Type 0
HasTag key counter size bytes = take 16 (drop size bytes) ≡ tag_of key counter (take size bytes)

-- why an item of this size isn't taken from the front of a stream: its tag is another, or it is right and no counter is left, or no memory
abbrev pub IsTagFault : ReceiveFault → TaggedState → ℕ → Type 0
IsTagFault WrongTag stream size = HasTag stream.key stream.taken size stream.held → ⊥
IsTagFault Exhausted stream size = HasTag stream.key stream.taken size stream.held × (stream.taken ≡ 2 ^ 64 - 1)
IsTagFault Memory stream size = HasTag stream.key stream.taken size stream.held
IsTagFault _ stream size = ⊥

-- an item was taken from the front of what was held, with its right tag
pub record TakesTagged (old : TaggedState) (item : List ℕ) (new : TaggedState) : Type 0 where
  pub held : old.held ≡ tagged old.key old.taken item ++ new.held
  pub taken : new.taken ≡ old.taken + 1
  pub key : new.key ≡ old.key
