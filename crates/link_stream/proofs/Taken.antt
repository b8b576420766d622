-- What a sink has taken of bytes and of more behind them.
use Rattle.std.proofs.Common.{List, None, Option, Some, ◌++◌, ◌∙◌, ap, append_assoc, sym, ℕ}
use Rattle.std.specs.Io.KnownBytes.{Appends}
use Rattle.ami_text.specs.Devices.{HasTaken}

-- a prefix of the bytes
pub taken_before : (before after : Option (List ℕ)) (bytes more : List ℕ) → HasTaken before after bytes → HasTaken before after (bytes ++ more)
taken_before before after bytes more begun =
    record { front = begun.front; rest = begun.rest ++ more; is = ap (λ b. b ++ more) begun.is ∙ append_assoc begun.front begun.rest more; taken = begun.taken }

-- the bytes, and all that is behind them
pub taken_all : (before between after : Option (List ℕ)) (bytes more : List ℕ) → Appends before between bytes → Appends between after more
    → Appends before after (bytes ++ more)
taken_all None between after bytes more first last = tt
taken_all (Some b) None after bytes more first last = absurd first
taken_all (Some b) (Some m) None bytes more first last = absurd last
taken_all (Some b) (Some m) (Some a) bytes more first last = last ∙ ap (λ x. x ++ more) first ∙ append_assoc b bytes more

-- the bytes, and a prefix of what is behind them
pub taken_behind : (before between after : Option (List ℕ)) (bytes more : List ℕ) → Appends before between bytes → HasTaken between after more
    → HasTaken before after (bytes ++ more)
taken_behind before between after bytes more first begun =
    record { front = bytes ++ begun.front; rest = begun.rest; is = ap (λ m. bytes ++ m) begun.is ∙ sym (append_assoc bytes begun.front begun.rest); taken = taken_all before between after bytes begun.front first begun.taken }
