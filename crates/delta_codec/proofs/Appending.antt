-- What is written one after the other.
use Rattle.std.proofs.Common.{◌≡◌, ℕ, List, ◌++◌, ap, ◌∙◌, append_assoc}
use Rattle.std.specs.Int.{w32, to_be_bytes}

pub four_written : (o p q r s a b c d : List ℕ) → p ≡ o ++ a → q ≡ p ++ b → r ≡ q ++ c → s ≡ r ++ d → s ≡ o ++ (a ++ (b ++ (c ++ d)))
four_written o p q r s a b c d e f g h = h ∙ ap (λ (x : List ℕ). x ++ d) (g ∙ ap (λ (x : List ℕ). x ++ c) (f ∙ ap (λ (x : List ℕ). x ++ b) e)) ∙ simp append_assoc

-- how many, and then all of them
pub counted_written : (o p q b : List ℕ) (n m : ℕ) → n ≡ m → p ≡ o ++ to_be_bytes w32 n → q ≡ p ++ b → q ≡ o ++ (to_be_bytes w32 m ++ b)
counted_written o p q b n m same e f = f ∙ ap (λ (x : List ℕ). x ++ b) (e ∙ ap (λ (k : ℕ). o ++ to_be_bytes w32 k) same) ∙ append_assoc o (to_be_bytes w32 m) b
