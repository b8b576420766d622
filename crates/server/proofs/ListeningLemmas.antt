-- The lines of sites that listen.
use Rattle.std.proofs.Common.{◌≡◌, ◌∙◌, ◌+◌, ◌<◌, ◌≤◌, ℕ, zero, suc, List, [], ◌++◌, Option, Result, Err, Ok, OnErr, refl, sym, ap, subst, append_assoc, append-nil, ⊎_elim, arith}
use Rattle.std.proofs.lemmas.Bool.{cases_lt}
use Rattle.std.specs.Io.KnownBytes.{Appends}
use Rattle.std.specs.declared.net.ip_addr.IpAddr.{IpAddr}
use Rattle.ami_text.proofs.Taking.{taken_grows}
use Rattle.ami_text.specs.Devices.{HasTaken}
use Rattle.server.specs.Listening.{listening_line, listening_lines}

-- whatever the result is
pub at_err : {T E : Type 0} (r : Result T E) (P : Type 0) → P → OnErr r P
at_err (Ok x) P holds = tt
at_err (Err e) P holds = holds

-- the lines of some sites stand in front of those of all
lines_front : (address : IpAddr) (port sites site : ℕ) → site ≤ sites
    → (rest : List ℕ) × (listening_lines address port sites ≡ listening_lines address port site ++ rest)
lines_front address port zero site low = let none : zero ≡ site = omega (arith, low) in
    ([], subst (λ n. [] ≡ listening_lines address port n ++ []) none refl)
lines_front address port (suc sites) site low = ⊎_elim
    (λ past. let all : suc sites ≡ site = omega (arith, past, low) in
    ([], subst (λ n. listening_lines address port (suc sites) ≡ listening_lines address port n ++ []) all (sym (append-nil (listening_lines address port (suc sites))))))
    (λ within. let before = lines_front address port sites site within in let line = listening_line address (port + sites) in
    (before.0 ++ line, ap (λ t. t ++ line) before.1 ∙ append_assoc (listening_lines address port site) before.0 line))
    (cases_lt sites site)

-- those of some sites were written
pub some_written : (address : IpAddr) (port sites site : ℕ) (before after : Option (List ℕ)) → site ≤ sites
    → Appends before after (listening_lines address port site) → HasTaken before after (listening_lines address port sites)
some_written address port sites site before after low written = let all = lines_front address port sites site low in record {
  front = listening_lines address port site;
  rest = all.0;
  is = all.1;
  taken = written;
}

-- and a prefix of the next one
pub next_begun : (address : IpAddr) (port sites site : ℕ) (before now after : Option (List ℕ)) (line : List ℕ) → site < sites
    → Appends before now (listening_lines address port site) → line ≡ listening_line address (port + site) → HasTaken now after line
    → HasTaken before after (listening_lines address port sites)
next_begun address port sites site before now after line low written is begun =
    let some = listening_lines address port site in
    let all = lines_front address port sites (suc site) (omega (arith, low)) in
    let split : listening_line address (port + site) ≡ begun.front ++ begun.rest = sym is ∙ begun.is in record {
      front = some ++ begun.front;
      rest = begun.rest ++ all.0;
      is = all.1 ∙ ap (λ t. (some ++ t) ++ all.0) split ∙ ap (λ t. t ++ all.0) (sym (append_assoc some begun.front begun.rest))
          ∙ append_assoc (some ++ begun.front) begun.rest all.0;
      taken = taken_grows before now after some begun.front written begun.taken;
    }

-- all were written, whatever the result is
pub all_written : {T E : Type 0} (r : Result T E) (address : IpAddr) (port sites : ℕ) (before after : Option (List ℕ))
    → Appends before after (listening_lines address port sites) → OnErr r (HasTaken before after (listening_lines address port sites))
all_written r address port sites before after written = at_err r _ (some_written address port sites sites before after (omega arith) written)
