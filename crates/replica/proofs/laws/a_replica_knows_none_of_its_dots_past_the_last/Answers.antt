use Rattle.std.proofs.Common.{◌≡◌, ℕ, ◌<◌, true, sym, ap, ◌∙◌, arith}
use Rattle.std.specs.Prelude.{nat_le}
use Rattle.std.specs.FinSet as set
use Rattle.std.proofs.lemmas.Bool.Decides.{nat_tests}
use Rattle.dots.specs.Values.{Dot}
use Rattle.replica.proofs.laws.a_replica_knows_none_of_its_dots_past_the_last.Goals as goal

-- a count that is up to a last one isn't past it
not_past : (count last : ℕ) → nat_le count last ≡ true → last < count → ⊥
not_past count last upto past = grind (arith, nat_tests)

pub returns : goal.returns
returns c = λ state s kept stands past.
    let dot : Dot = record { site = state.site; count = past.count } in
    let known = ap (λ dots. set.contains dots dot) stands.known.dots ∙ past.known_dot in
    let later = past.past in
    let last = stands.last_count in
    not_past past.count state.last_count (sym (kept.own_dots past.count (omega (arith, later))) ∙ known) (omega (arith, later, last))
