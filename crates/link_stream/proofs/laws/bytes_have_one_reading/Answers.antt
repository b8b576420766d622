use Rattle.std.proofs.Common.{◌≡◌, ◌∙◌, ◌≤◌, ◌++◌, ◌+◌, ◌∷◌, All, List, [], ap, append_assoc, arith, length, refl, sym, take, ℕ}
use Rattle.std.proofs.lemmas.List.{append_cancel_left, take-append-le, take_at}
use Rattle.std.proofs.lemmas.List.Elements.{All-head, All-tail}
use Rattle.std.specs.Int.{from_be_bytes, w32}
use Rattle.link_keys.specs.Macs.{tag_of}
use Rattle.link_stream.specs.Items.{IsItemBytes, size_in}
use Rattle.link_stream.specs.Sequences.{all_tagged}
use Rattle.link_stream.proofs.laws.bytes_have_one_reading.Goals as goal

-- all bytes that begin with an item have its size in front
size_of_front : (item rest : List ℕ) → IsItemBytes item → length item ≡ 4 + size_in (item ++ rest)
size_of_front item rest (least, size, long) = long ∙ ap (λ b. 4 + from_be_bytes w32 b) (sym (take-append-le 4 item rest least))

-- two items at the front of the same bytes are the same
same_front : (x y r s : List ℕ) → IsItemBytes x → IsItemBytes y → x ++ r ≡ y ++ s → x ≡ y
same_front x y r s isx isy same =
    let long : length x ≡ length y = size_of_front x r isx ∙ ap (λ b. 4 + size_in b) same ∙ sym (size_of_front y s isy) in
    sym (take_at x r (length x) refl) ∙ ap (λ b. take (length x) b) same ∙ take_at y s (length x) (sym long)

-- an item, its tag and more, grouped to the right
grouped : (x t a r : List ℕ) → ((x ++ t) ++ a) ++ r ≡ x ++ (t ++ (a ++ r))
grouped x t a r = simp append_assoc

-- what follows the first item and its tag is the same on both sides
same_rest : (x y t u a b r s : List ℕ) → x ≡ y → t ≡ u → ((x ++ t) ++ a) ++ r ≡ ((y ++ u) ++ b) ++ s → a ++ r ≡ b ++ s
same_rest x y t u a b r s x_is t_is same =
    append_cancel_left t (a ++ r) (b ++ s) (append_cancel_left x (t ++ (a ++ r)) (t ++ (b ++ s))
    (sym (grouped x t a r) ∙ same ∙ grouped y u b s ∙ ap (λ z. z ++ (u ++ (b ++ s))) (sym x_is) ∙ ap (λ z. x ++ (z ++ (b ++ s))) (sym t_is)))

one_reading : (some more : List (List ℕ)) (key : List ℕ) (counter : ℕ) (rest other : List ℕ) → All IsItemBytes some → All IsItemBytes more
    → length some ≤ length more → all_tagged key counter some ++ rest ≡ all_tagged key counter more ++ other → some ≡ take (length some) more
one_reading [] more key counter rest other are_some are_more low same = refl
one_reading (x ∷ some) [] key counter rest other are_some are_more low same = absurd (omega (arith, low))
one_reading (x ∷ some) (y ∷ more) key counter rest other are_some are_more low same =
    let t = tag_of key counter x in
    let u = tag_of key counter y in
    let a = all_tagged key (counter + 1) some in
    let b = all_tagged key (counter + 1) more in
    let x_is : x ≡ y = same_front x y (t ++ (a ++ rest)) (u ++ (b ++ other)) (All-head IsItemBytes x some are_some) (All-head IsItemBytes y more are_more)
    (sym (grouped x t a rest) ∙ same ∙ grouped y u b other) in
    let later : some ≡ take (length some) more = one_reading some more key (counter + 1) rest other
    (All-tail IsItemBytes x some are_some) (All-tail IsItemBytes y more are_more) (omega (arith, low))
    (same_rest x y t u a b rest other x_is (ap (λ z. tag_of key counter z) x_is) same) in
    ap (λ z. z ∷ some) x_is ∙ ap (λ z. y ∷ z) later

pub returns : goal.returns
returns c = λ key counter some more rest other are_some are_more low same. one_reading some more key counter rest other are_some are_more low same
