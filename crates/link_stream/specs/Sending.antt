-- What a sender has written (this project's own).
use Rattle.std.specs.Prelude.{ℕ, ◌≡◌, ◌+◌, List, Option}
use Rattle.std.specs.Io.KnownBytes.{Appends}
use Rattle.link_stream.specs.Tagged.{tagged}

-- a sender: the key of its direction, and how many items it has sent
pub record SenderState : Type 0 where
  pub key : List ℕ
  pub sent : ℕ

-- a sink had taken `before` and has taken `after` now: an item and its tag were written
pub record HasSent (before after : Option (List ℕ)) (old : SenderState) (item : List ℕ) (new : SenderState) : Type 0 where
  pub written : Appends before after (tagged old.key old.sent item)
  pub sent : new.sent ≡ old.sent + 1
  pub key : new.key ≡ old.key
