use Rattle.std.proofs.Common.{◌≡◌, ◌∙◌, ◌++◌, ◌∷◌, List, [], ap, append_assoc, arith, get_or, length, refl, sym, ℕ}
use Rattle.std.specs.Int.{to_be_bytes, w64}
use Rattle.link_hello.proofs.card.card_in.Goals as goal

-- one byte
single : (n : List ℕ) → length n ≡ 1 → get_or n 0 0 ∷ [] ≡ n
single [] long = absurd (omega (arith, long))
single (x ∷ []) long = refl
single (x ∷ y ∷ more) long = absurd (omega (arith, long))

-- the parts of a card, one after another
joined : (bytes front queues middle process before starts number store count : List ℕ) → bytes ≡ front ++ queues → front ≡ middle ++ process
    → middle ≡ before ++ starts → before ≡ number ++ store → length number ≡ 1 → count ≡ starts
    → get_or number 0 0 ∷ (store ++ (count ++ (process ++ queues))) ≡ bytes
joined bytes front queues middle process before starts number store count is front_is middle_is before_is long count_is =
    ap (λ n. n ++ (store ++ (count ++ (process ++ queues)))) (single number long)
    ∙ ap (λ t. number ++ (store ++ (t ++ (process ++ queues)))) count_is
    ∙ sym (append_assoc number store (starts ++ (process ++ queues)))
    ∙ ap (λ b. b ++ (starts ++ (process ++ queues))) (sym before_is)
    ∙ sym (append_assoc before starts (process ++ queues))
    ∙ ap (λ m. m ++ (process ++ queues)) (sym middle_is)
    ∙ sym (append_assoc middle process queues)
    ∙ ap (λ f. f ++ queues) (sym front_is)
    ∙ sym is

pub returns-clause-bytes : goal.returns-clause-bytes
returns-clause-bytes c =
    ap (λ s. get_or c.split_at-4.result.0.now 0 0 ∷ (s ++ (to_be_bytes w64 c.number_in.result ++ (c.copy_from_slice-2.new.self ++ c.copy_from_slice-3.new.self)))) c.copy_from_slice.ensures.after
    ∙ ap (λ p. get_or c.split_at-4.result.0.now 0 0 ∷ (c.split_at-4.result.1.now ++ (to_be_bytes w64 c.number_in.result ++ (p ++ c.copy_from_slice-3.new.self)))) c.copy_from_slice-2.ensures.after
    ∙ ap (λ q. get_or c.split_at-4.result.0.now 0 0 ∷ (c.split_at-4.result.1.now ++ (to_be_bytes w64 c.number_in.result ++ (c.split_at-2.result.1.now ++ q)))) c.copy_from_slice-3.ensures.after
    ∙ joined c.args.bytes.now c.split_at.result.0.now c.split_at.result.1.now c.split_at-2.result.0.now c.split_at-2.result.1.now
    c.split_at-3.result.0.now c.split_at-3.result.1.now c.split_at-4.result.0.now c.split_at-4.result.1.now (to_be_bytes w64 c.number_in.result)
    c.split_at.ensures.by_index.0 c.split_at-2.ensures.by_index.0 c.split_at-3.ensures.by_index.0 c.split_at-4.ensures.by_index.0
    c.split_at-4.ensures.front_len c.number_in.ensures
