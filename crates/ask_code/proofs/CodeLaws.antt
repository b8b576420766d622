-- Codes are exact: bytes begin with one value at most, or have one fault at most, and never both.
use Rattle.std.proofs.Common.{◌≡◌, inl, inr, ℕ, ◌<◌, ◌^◌, Bool, true, false, List, [], ◌∷◌, ◌++◌, length, take, drop, Option, Some, None, IfSome, IsTrue, is_some, refl, sym, ap, ap₂, subst, ◌∙◌, append_assoc, arith}
use Rattle.std.specs.Int.{w32, to_be_bytes, from_be_bytes}
use Rattle.std.proofs.lemmas.List.{take_at, drop_at, length-append}
use Rattle.std.proofs.lemmas.Nat.{from_be_bytes-to_be_bytes_4}
use Rattle.ask_code.specs.declared.ask_fault.AskFault.{AskFault}
use Rattle.ask_code.specs.declared.ask_fault.AskFault.TheVariants.{BadBit}
use Rattle.ask_code.specs.Codes.{After, Code, bit_code, bit_of, both, byte_code, coded, counted_code, led, number_code, optional, optional_bytes, viewed}

-- bytes begin with one good value at most, or have one fault at most, and never both
pub record IsExact {A : Type 0} (code : Code A) : Type 0 where
  pub unique : (x y : A) (r s : List ℕ) → code.IsGood x → code.IsGood y → code.spell x ++ r ≡ code.spell y ++ s → (x ≡ y) × (r ≡ s)
  pub not_both : (x : A) (r : List ℕ) (fault : AskFault) → code.IsGood x → code.Fails fault (code.spell x ++ r) → ⊥
  pub one : (bytes : List ℕ) (f g : AskFault) → code.Fails f bytes → code.Fails g bytes → f ≡ g

-- ---- raw parts

byte_unique : (x y : ℕ) (r s : List ℕ) → x ∷ r ≡ y ∷ s → (x ≡ y) × (r ≡ s)
byte_unique x y r s e = (cc, cc)

not_empty : (x : ℕ) (r : List ℕ) → x ∷ r ≡ [] → ⊥
not_empty x r e = cc

pub byte_exact : IsExact byte_code
byte_exact = record {
  unique = λ x y r s g h e. byte_unique x y r s e;
  not_both = λ x r fault g h. not_empty x r h.0;
  one = λ bytes f g h k. h.1 ∙ sym k.1;
}

number_unique : (x y : ℕ) (r s : List ℕ) → x < 2 ^ 32 → y < 2 ^ 32 → to_be_bytes w32 x ++ r ≡ to_be_bytes w32 y ++ s → (x ≡ y) × (r ≡ s)
number_unique x y r s g h e =
    let front : to_be_bytes w32 x ≡ to_be_bytes w32 y = sym (take_at (to_be_bytes w32 x) r 4 refl) ∙ ap (take 4) e ∙ take_at (to_be_bytes w32 y) s 4 refl in
    let rest : r ≡ s = sym (drop_at (to_be_bytes w32 x) r 4 refl) ∙ ap (drop 4) e ∙ drop_at (to_be_bytes w32 y) s 4 refl in
    (sym (from_be_bytes-to_be_bytes_4 x g) ∙ ap (from_be_bytes w32) front ∙ from_be_bytes-to_be_bytes_4 y h, rest)

number_there : (x : ℕ) (r : List ℕ) → length (to_be_bytes w32 x ++ r) < 4 → ⊥
number_there x r h = omega (arith, length-append (to_be_bytes w32 x) r)

pub number_exact : IsExact number_code
number_exact = record {
  unique = λ x y r s g h e. number_unique x y r s g h e;
  not_both = λ x r fault g h. number_there x r h.0;
  one = λ bytes f g h k. h.1 ∙ sym k.1;
}

counted_unique : (x y : List ℕ) (r s : List ℕ) → length x ∷ (x ++ r) ≡ length y ∷ (y ++ s) → (x ≡ y) × (r ≡ s)
counted_unique x y r s e =
    let heads = byte_unique (length x) (length y) (x ++ r) (y ++ s) e in (
      sym (take_at x r (length x) refl) ∙ ap (take (length x)) heads.1 ∙ take_at y s (length x) (sym heads.0),
      sym (drop_at x r (length x) refl) ∙ ap (drop (length x)) heads.1 ∙ drop_at y s (length x) (sym heads.0),
    )

counted_there : (x : List ℕ) (r : List ℕ) → length (x ++ r) < length x → ⊥
counted_there x r h = omega (arith, length-append x r)

pub counted_exact : IsExact counted_code
counted_exact = record {
  unique = λ x y r s g h e. counted_unique x y r s e;
  not_both = λ x r fault g h. counted_there x r h.0;
  one = λ bytes f g h k. h.1 ∙ sym k.1;
}

-- ---- codes made of others

-- a fault of bytes that begin with a good value never stands
pub apart : {A : Type 0} (code : Code A) (exact : IsExact code) (Next : A → List ℕ → Type 0) (bytes : List ℕ) (fault : AskFault) → After code Next bytes → code.Fails fault bytes → ⊥
apart code exact Next bytes fault after fails = exact.not_both after.value after.rest fault after.good (subst (λ (l : List ℕ). code.Fails fault l) after.spelled fails)

pub coded_exact : {R A : Type 0} (raw : Code R) (raw_of : A → R) (IsValue : A → Type 0) (rule : AskFault) → IsExact raw
    → ((x : A) → IsValue x → raw.IsGood (raw_of x)) → ((x y : A) → IsValue x → IsValue y → raw_of x ≡ raw_of y → x ≡ y) → IsExact (coded raw raw_of IsValue rule)
coded_exact raw raw_of IsValue rule exact good injective = record {
  unique = λ x y r s g h e. let u = exact.unique (raw_of x) (raw_of y) r s (good x g) (good y h) e in (injective x y g h u.0, u.1);
  not_both = λ x r fault g h. elim h [
    | inl missing ↦ exact.not_both (raw_of x) r fault (good x g) missing
    | inr other ↦ other.next.0 x g (exact.unique (raw_of x) other.value r other.rest (good x g) other.good other.spelled).0
  ];
  one = λ bytes f g h k. elim h [
    | inl m ↦ elim k [
      | inl n ↦ exact.one bytes f g m n
      | inr o ↦ absurd (apart raw exact _ bytes f o m)
    ]
    | inr o ↦ elim k [
      | inl n ↦ absurd (apart raw exact _ bytes g o n)
      | inr q ↦ o.next.1 ∙ sym q.next.1
    ]
  ];
}

pub viewed_exact : {A B : Type 0} (code : Code B) (view : A → B) (IsValue : A → Type 0) → IsExact code
    → ((x : A) → IsValue x → code.IsGood (view x)) → ((x y : A) → IsValue x → IsValue y → view x ≡ view y → x ≡ y) → IsExact (viewed code view IsValue)
viewed_exact code view IsValue exact good injective = record {
  unique = λ x y r s g h e. let u = exact.unique (view x) (view y) r s (good x g) (good y h) e in (injective x y g h u.0, u.1);
  not_both = λ x r fault g h. exact.not_both (view x) r fault (good x g) h;
  one = exact.one;
}

-- values of one lead differ in the rest, and the rest of a good value never has a fault
pub record IsExactRest {A B : Type 0} (lead_of : B → A) (rest_bytes : B → List ℕ) (IsValue : B → Type 0) (RestFails : A → AskFault → List ℕ → Type 0) : Type 0 where
  pub unique : (x y : B) (r s : List ℕ) → IsValue x → IsValue y → lead_of x ≡ lead_of y → rest_bytes x ++ r ≡ rest_bytes y ++ s → (x ≡ y) × (r ≡ s)
  pub not_both : (x : B) (r : List ℕ) (fault : AskFault) → IsValue x → RestFails (lead_of x) fault (rest_bytes x ++ r) → ⊥
  pub one : (a : A) (bytes : List ℕ) (f g : AskFault) → RestFails a f bytes → RestFails a g bytes → f ≡ g

pub led_exact : {A B : Type 0} (lead : Code A) (lead_of : B → A) (rest_bytes : B → List ℕ) (IsValue : B → Type 0) (RestFails : A → AskFault → List ℕ → Type 0)
    → IsExact lead → ((x : B) → IsValue x → lead.IsGood (lead_of x)) → IsExactRest lead_of rest_bytes IsValue RestFails → IsExact (led lead lead_of rest_bytes IsValue RestFails)
led_exact {A = A} lead lead_of rest_bytes IsValue RestFails exact good next = record {
  unique = λ x y r s g h e.
      let parts : lead.spell (lead_of x) ++ (rest_bytes x ++ r) ≡ lead.spell (lead_of y) ++ (rest_bytes y ++ s) = sym (append_assoc (lead.spell (lead_of x)) (rest_bytes x) r) ∙ e ∙ append_assoc (lead.spell (lead_of y)) (rest_bytes y) s in
      let u = exact.unique (lead_of x) (lead_of y) (rest_bytes x ++ r) (rest_bytes y ++ s) (good x g) (good y h) parts in
      next.unique x y r s g h u.0 u.1;
  not_both = λ x r fault g h. elim h [
    | inl missing ↦ exact.not_both (lead_of x) (rest_bytes x ++ r) fault (good x g) (subst (λ (l : List ℕ). lead.Fails fault l) (append_assoc (lead.spell (lead_of x)) (rest_bytes x) r) missing)
    | inr found ↦
        let u = exact.unique (lead_of x) found.value (rest_bytes x ++ r) found.rest (good x g) found.good (sym (append_assoc (lead.spell (lead_of x)) (rest_bytes x) r) ∙ found.spelled) in
        next.not_both x r fault g (subst (λ (l : List ℕ). RestFails (lead_of x) fault l) (sym u.1) (subst (λ (a : A). RestFails a fault found.rest) (sym u.0) found.next))
  ];
  one = λ bytes f g h k. elim h [
    | inl m ↦ elim k [
      | inl n ↦ exact.one bytes f g m n
      | inr o ↦ absurd (apart lead exact _ bytes f o m)
    ]
    | inr o ↦ elim k [
      | inl n ↦ absurd (apart lead exact _ bytes g o n)
      | inr q ↦
          let u = exact.unique o.value q.value o.rest q.rest o.good q.good (sym o.spelled ∙ q.spelled) in
          next.one o.value o.rest f g o.next (subst (λ (l : List ℕ). RestFails o.value g l) (sym u.1) (subst (λ (a : A). RestFails a g q.rest) (sym u.0) q.next))
    ]
  ];
}

pub both_exact : {A B : Type 0} (a : Code A) (b : Code B) → IsExact a → IsExact b → IsExact (both a b)
both_exact {A = A} {B = B} a b first second = led_exact a (λ (p : A × B). p.0) (λ (p : A × B). b.spell p.1) (λ (p : A × B). a.IsGood p.0 × b.IsGood p.1) (λ _ fault rest. b.Fails fault rest) first (λ p g. g.0) (record {
  unique = λ x y r s g h same e. let v = second.unique x.1 y.1 r s g.1 h.1 e in (ap₂ (λ (p : A) (q : B). let it : A × B = (p, q) in it) same v.0, v.1);
  not_both = λ x r fault g h. second.not_both x.1 r fault g.1 h;
  one = λ _ bytes f g h k. second.one bytes f g h k;
})

bit_injective : (x y : Bool) → bit_of x ≡ bit_of y → x ≡ y
bit_injective true true e = refl
bit_injective false false e = refl
bit_injective true false e = absurd (omega (arith, e))
bit_injective false true e = absurd (omega (arith, e))

bit_good : (x : Bool) → bit_of x < 256
bit_good true = omega arith
bit_good false = omega arith

pub bit_exact : IsExact bit_code
bit_exact = coded_exact byte_code bit_of (λ bit. Unit {0}) BadBit byte_exact (λ x g. bit_good x) (λ x y g h e. bit_injective x y e)

optional_unique : {A : Type 0} (code : Code A) → IsExact code → (x y : Option A) (r s : List ℕ) → IfSome x code.IsGood → IfSome y code.IsGood → is_some x ≡ is_some y
    → optional_bytes code.spell x ++ r ≡ optional_bytes code.spell y ++ s → (x ≡ y) × (r ≡ s)
optional_unique code exact None None r s g h same e = (refl, e)
optional_unique code exact (Some x) (Some y) r s g h same e = let u = exact.unique x y r s g h e in (ap Some u.0, u.1)
optional_unique code exact None (Some y) r s g h same e = absurd cc
optional_unique code exact (Some x) None r s g h same e = absurd cc

optional_not_both : {A : Type 0} (code : Code A) → IsExact code → (x : Option A) (r : List ℕ) (fault : AskFault) → IfSome x code.IsGood
    → IsTrue (is_some x) × code.Fails fault (optional_bytes code.spell x ++ r) → ⊥
optional_not_both code exact None r fault g h = absurd (let never = h.0 in cc)
optional_not_both code exact (Some x) r fault g h = exact.not_both x r fault g h.1

pub optional_exact : {A : Type 0} (code : Code A) → IsExact code → IsExact (optional code)
optional_exact code exact = led_exact bit_code is_some (optional_bytes code.spell) (λ value. IfSome value code.IsGood) (λ there fault rest. IsTrue there × code.Fails fault rest) bit_exact (λ x g. tt) (record {
  unique = optional_unique code exact;
  not_both = optional_not_both code exact;
  one = λ there bytes f g h k. exact.one bytes f g h.1 k.1;
})
