use Rattle.std.proofs.Common.{◌≡◌, ◌∙◌, ◌<◌, ◌≤◌, ◌+◌, ◌^◌, ◌∷◌, Contains, List, [], ap, arith, get_or, length, refl, suc, sym, take, drop, zero, ℕ}
use Rattle.std.proofs.lemmas.List.{ext_get_or, get_or-take, length-take-le}
use Rattle.std.proofs.lemmas.Nat.{from_be_bytes-to_be_bytes_8}
use Rattle.std.specs.Int.{from_be_bytes, w64}
use Rattle.link_keys.specs.Macs.{counted}
use Rattle.link_stream.specs.Sequences.{all_counted}
use Rattle.link_stream.proofs.laws.what_is_given_was_sent.Goals as goal

-- counter and item stand in what a tag is the code of
same_counter : (a b : ℕ) (x y : List ℕ) → a < 2 ^ 64 → b < 2 ^ 64 → counted a x ≡ counted b y → a ≡ b
same_counter a b x y alow blow same =
    sym (from_be_bytes-to_be_bytes_8 a alow) ∙ ap (λ bytes. from_be_bytes w64 (take 8 bytes)) same ∙ from_be_bytes-to_be_bytes_8 b blow

same_item : (a b : ℕ) (x y : List ℕ) → counted a x ≡ counted b y → x ≡ y
same_item a b x y same = ap (λ bytes. drop 8 bytes) same

-- there are as many of these as items
length_counted : (items : List (List ℕ)) (counter : ℕ) → length (all_counted counter items) ≡ length items
length_counted [] counter = refl
length_counted (item ∷ items) counter = ap (λ n. suc n) (length_counted items (counter + 1))

-- and each is of its counter and its item
counted_at : (items : List (List ℕ)) (counter k : ℕ) (d e : List ℕ) → k < length items
    → get_or (all_counted counter items) k d ≡ counted (counter + k) (get_or items k e)
counted_at [] counter k d e low = absurd (omega (arith, low))
counted_at (item ∷ items) counter zero d e low = ap (λ n. counted n item) (omega arith)
counted_at (item ∷ items) counter (suc k) d e low =
    counted_at items (counter + 1) k d e (omega (arith, low)) ∙ ap (λ n. counted n (get_or items k e)) (omega arith)

-- an item that was given was sent at its place
sent_at : (sent given : List (List ℕ)) (k : ℕ) → length sent ≤ 2 ^ 64 → length given ≤ 2 ^ 64
    → k < length given → Contains (all_counted 0 sent) (get_or (all_counted 0 given) k [])
    → (k < length sent) × (get_or sent k [] ≡ get_or given k [])
sent_at sent given k sent_low given_low low (j, jlow, is) =
    let j_in : j < length sent = omega (arith, jlow, length_counted sent 0) in
    let same : counted (0 + j) (get_or sent j []) ≡ counted (0 + k) (get_or given k []) =
    sym (counted_at sent 0 j (get_or (all_counted 0 given) k []) [] j_in) ∙ is ∙ counted_at given 0 k [] [] low in
    let j_is : 0 + j ≡ 0 + k = same_counter (0 + j) (0 + k) (get_or sent j []) (get_or given k []) (omega arith) (omega arith) same in
    let j_k : j ≡ k = omega (arith, j_is) in
    (omega (arith, j_in, j_k), ap (λ n. get_or sent n []) (sym j_k) ∙ same_item (0 + j) (0 + k) (get_or sent j []) (get_or given k []) same)

-- no more was given than was sent
no_more : (sent given : List (List ℕ)) → ((k : ℕ) → k < length given → (k < length sent) × (get_or sent k [] ≡ get_or given k []))
    → length given ≤ length sent
no_more sent [] each = omega arith
no_more sent (item ∷ given) each = let last = each (length given) (omega arith) in omega (arith, last.0)

prefix_of : (sent given : List (List ℕ)) → ((k : ℕ) → k < length given → (k < length sent) × (get_or sent k [] ≡ get_or given k []))
    → given ≡ take (length given) sent
prefix_of sent given each =
    ext_get_or [] given (take (length given) sent) (sym (length-take-le (length given) sent (no_more sent given each)))
    (λ k low. sym (get_or-take (length given) sent k [] low ∙ (each k low).1))

pub returns : goal.returns
returns c = λ sent given sent_low given_low all. prefix_of sent given (λ k low. sent_at sent given k sent_low given_low low
    (all k [] (omega (arith, low, length_counted given 0))))
