use Rattle.std.proofs.Common.{◌≡◌, ◌∙◌, ◌≤◌, ◌++◌, ◌+◌, ◌∷◌, List, None, Some, [], ap, append-nil, append_assoc, arith, length, slice_get, subst, suc, sym, take, zero, ℕ}
use Rattle.sha2.specs.Hashers.{Holds256}
use Rattle.link_hello.specs.Cards.{queues_bytes}
use Rattle.link_hello.proofs.card.queues_digest.Goals as goal
use Rattle.link_hello.proofs.card.queues_digest.Goals.{in-None, in-Some}

-- one name more
next_name : (names : List (List ℕ)) (k : ℕ) (name : List ℕ) → slice_get names k ≡ Some name
    → queues_bytes (take k names) ++ (length name ∷ name) ≡ queues_bytes (take (k + 1) names)
next_name [] k name is = cc
next_name (first ∷ names) zero name is =
    let same : first ≡ name = cc in
    ap (λ n. length n ∷ n) (sym same) ∙ ap (λ b. length first ∷ b) (sym (append-nil first))
next_name (first ∷ names) (suc k) name is =
    let n_is : suc (k + 1) ≡ suc k + 1 = omega arith in
    ap (λ b. length first ∷ b) (append_assoc first (queues_bytes (take k names)) (length name ∷ name) ∙ ap (λ b. first ++ b) (next_name names k name is))
    ∙ ap (λ n. queues_bytes (take n (first ∷ names))) n_is

-- there is no name past the last
none_past : (names : List (List ℕ)) (k : ℕ) → None ≡ slice_get names k → length names ≤ k
none_past [] k is = omega arith
none_past (first ∷ names) zero is = absurd (cc)
none_past (first ∷ names) (suc k) is = omega (arith, none_past names k is)

pub names-preserved : goal.names-preserved
names-preserved c =
    elim c.match-name.branch [
      | in-Some w ↦
          let is : slice_get c.args.list.now c.names.place ≡ Some w.in-Some.name.now = sym (rw w.in-Some.is at c.name.ensures.value) in
          let more = subst (Holds256 w.add_name.new.hasher) (next_name c.args.list.now c.names.place w.in-Some.name.now is) (w.add_name.ensures _ c.names.invariant) in
          subst (λ h. Holds256 h (queues_bytes (take (c.names.place + 1) c.args.list.now))) (sym w.hasher-is) more
      | in-None w ↦
          let is : None ≡ slice_get c.args.list.now c.names.place = rw w.in-None.is at c.name.ensures.value in
          absurd (omega (arith, none_past c.args.list.now c.names.place is, c.names-test.true, c.len-place-end.ensures.value))
    ]
