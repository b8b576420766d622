-- Codes are complete: bytes begin with a good value, or have a fault.
use Rattle.std.proofs.Common.{◌≡◌, ◌≢◌, ◌⊎◌, inl, inr, ℕ, zero, suc, ◌+◌, ◌<◌, ◌^◌, Bool, true, false, List, [], ◌∷◌, ◌++◌, length, get_or, take, drop, Some, None, IfSome, IsTrue, is_some, refl, sym, ap, ap₂, subst, ◌∙◌, append_assoc, arith}
use Rattle.std.specs.Int.{w32, from_be_bytes, to_be_bytes}
use Rattle.std.proofs.lemmas.Bool.{cases_lt}
use Rattle.std.proofs.lemmas.List.{take-append-drop, length-take, get_or-drop, get_or-take, get_or_past}
use Rattle.std.proofs.lemmas.Nat.{be_bytes_4}
use Rattle.ask_code.specs.declared.ask_fault.AskFault.{AskFault}
use Rattle.ask_code.specs.declared.ask_fault.AskFault.TheVariants.{BadBit, Truncated}
use Rattle.ask_code.specs.Codes.{After, Code, bit_code, bit_of, both, byte_code, coded, counted_code, led, number_code, optional, optional_bytes, viewed}

-- each of them is a byte, and 0 past the end
abbrev pub IsBytes : List ℕ → Type 0
IsBytes bytes = (i : ℕ) → get_or bytes i 0 < 256

drop_bytes : (n : ℕ) (bytes : List ℕ) → IsBytes bytes → IsBytes (drop n bytes)
drop_bytes n bytes h i = rw get_or-drop (h (n + i))

take_bytes : (n : ℕ) (bytes : List ℕ) → IsBytes bytes → IsBytes (take n bytes)
take_bytes n bytes h i =
    elim (cases_lt i n) [
      | inl lt ↦ rw (get_or-take n bytes i 0 lt) (h i)
      | inr le ↦ rw (get_or_past (take n bytes) i 0 (omega (arith, length-take n bytes))) (omega arith)
    ]

-- bytes have a fault, of those that a code has
pub record HasSome (Fails : AskFault → List ℕ → Type 0) (bytes : List ℕ) : Type 0 where
  pub fault : AskFault
  pub fails : Fails fault bytes

-- bytes begin with a good value, or have a fault
pub record IsComplete {A : Type 0} (code : Code A) : Type 0 where
  pub either : (bytes : List ℕ) → IsBytes bytes → After code (λ x rest. IsBytes rest) bytes ⊎ HasSome code.Fails bytes

-- ---- raw parts

byte_either : (bytes : List ℕ) → IsBytes bytes → After byte_code (λ x rest. IsBytes rest) bytes ⊎ HasSome byte_code.Fails bytes
byte_either [] fits = inr (record { fault = Truncated; fails = (refl, refl) })
byte_either (b ∷ rest) fits = inl (record { value = b; rest = rest; good = fits 0; spelled = refl; next = λ i. fits (suc i) })

pub byte_total : IsComplete byte_code
byte_total = record { either = byte_either }

number_either : (bytes : List ℕ) → IsBytes bytes → After number_code (λ x rest. IsBytes rest) bytes ⊎ HasSome number_code.Fails bytes
number_either bytes fits =
    elim (cases_lt (length bytes) 4) [
      | inl short ↦ inr (record { fault = Truncated; fails = (short, refl) })
      | inr long ↦
          let front = take_bytes 4 bytes fits in
          let there : length (take 4 bytes) ≡ 4 = omega (arith, length-take 4 bytes, long) in
          let back : to_be_bytes w32 (from_be_bytes w32 (take 4 bytes)) ≡ take 4 bytes = be_bytes_4 (take 4 bytes) _ there front refl in
          inl (record {
            value = from_be_bytes w32 (take 4 bytes);
            rest = drop 4 bytes;
            good = below (take 4 bytes) front;
            spelled = sym (ap (λ (l : List ℕ). l ++ drop 4 bytes) back ∙ take-append-drop 4 bytes);
            next = drop_bytes 4 bytes fits;
          })
    ]
  where
    below : (bytes : List ℕ) → IsBytes bytes → from_be_bytes w32 bytes < 2 ^ 32
    below bytes fits = omega (arith, fits 0, fits 1, fits 2, fits 3)

pub number_total : IsComplete number_code
number_total = record { either = number_either }

counted_either : (bytes : List ℕ) → IsBytes bytes → After counted_code (λ x rest. IsBytes rest) bytes ⊎ HasSome counted_code.Fails bytes
counted_either [] fits = inr (record { fault = Truncated; fails = (tt, refl) })
counted_either (n ∷ rest) fits =
    elim (cases_lt (length rest) n) [
      | inl short ↦ inr (record { fault = Truncated; fails = (short, refl) })
      | inr long ↦
          let there : length (take n rest) ≡ n = omega (arith, length-take n rest, long) in
          inl (record {
            value = take n rest;
            rest = drop n rest;
            good = subst (λ (k : ℕ). k < 256) (sym there) (fits 0);
            spelled = ap₂ (λ (k : ℕ) (l : List ℕ). k ∷ l) (sym there) (sym (take-append-drop n rest));
            next = drop_bytes n rest (λ i. fits (suc i));
          })
    ]

pub counted_total : IsComplete counted_code
counted_total = record { either = counted_either }

-- ---- codes made of others

-- a good value has this view
pub record HasView {A B : Type 0} (view : A → B) (IsValue : A → Type 0) (b : B) : Type 0 where
  pub value : A
  pub good : IsValue value
  pub is : view value ≡ b

pub coded_total : {R A : Type 0} (raw : Code R) (raw_of : A → R) (IsValue : A → Type 0) (rule : AskFault) → IsComplete raw
    → ((r : R) → HasView raw_of IsValue r ⊎ ((x : A) → IsValue x → raw_of x ≢ r)) → IsComplete (coded raw raw_of IsValue rule)
coded_total {R = R} raw raw_of IsValue rule total decide = record {
  either = λ bytes fits. elim (total.either bytes fits) [
    | inl after ↦ elim (decide after.value) [
      | inl it ↦ inl (record { value = it.value; rest = after.rest; good = it.good; spelled = after.spelled ∙ ap (λ (r : R). raw.spell r ++ after.rest) (sym it.is); next = after.next })
      | inr none ↦ inr (record { fault = rule; fails = inr (record { value = after.value; rest = after.rest; good = after.good; spelled = after.spelled; next = (none, refl) }) })
    ]
    | inr has ↦ inr (record { fault = has.fault; fails = inl has.fails })
  ];
}

pub viewed_total : {A B : Type 0} (code : Code B) (view : A → B) (IsValue : A → Type 0) → IsComplete code → ((b : B) → code.IsGood b → HasView view IsValue b) → IsComplete (viewed code view IsValue)
viewed_total {B = B} code view IsValue total back = record {
  either = λ bytes fits. elim (total.either bytes fits) [
    | inl after ↦
        let it = back after.value after.good in
        inl (record { value = it.value; rest = after.rest; good = it.good; spelled = after.spelled ∙ ap (λ (b : B). code.spell b ++ after.rest) (sym it.is); next = after.next })
    | inr has ↦ inr (record { fault = has.fault; fails = has.fails })
  ];
}

-- bytes begin with the rest of a good value of this lead
pub record Rest {A B : Type 0} (lead_of : B → A) (rest_bytes : B → List ℕ) (IsValue : B → Type 0) (lead : A) (bytes : List ℕ) : Type 0 where
  pub value : B
  pub rest : List ℕ
  pub good : IsValue value
  pub leads : lead_of value ≡ lead
  pub spelled : bytes ≡ rest_bytes value ++ rest
  pub fits : IsBytes rest

pub led_total : {A B : Type 0} (lead : Code A) (lead_of : B → A) (rest_bytes : B → List ℕ) (IsValue : B → Type 0) (RestFails : A → AskFault → List ℕ → Type 0) → IsComplete lead
    → ((a : A) → lead.IsGood a → (bytes : List ℕ) → IsBytes bytes → Rest lead_of rest_bytes IsValue a bytes ⊎ HasSome (RestFails a) bytes) → IsComplete (led lead lead_of rest_bytes IsValue RestFails)
led_total {A = A} lead lead_of rest_bytes IsValue RestFails total next = record {
  either = λ bytes fits. elim (total.either bytes fits) [
    | inl after ↦ elim (next after.value after.good after.rest after.next) [
      | inl it ↦ inl (record {
        value = it.value;
        rest = it.rest;
        good = it.good;
        spelled = after.spelled ∙ ap (λ (l : List ℕ). lead.spell after.value ++ l) it.spelled ∙ ap (λ (a : A). lead.spell a ++ (rest_bytes it.value ++ it.rest)) (sym it.leads)
            ∙ sym (append_assoc (lead.spell (lead_of it.value)) (rest_bytes it.value) it.rest);
        next = it.fits;
      })
      | inr has ↦ inr (record { fault = has.fault; fails = inr (record { value = after.value; rest = after.rest; good = after.good; spelled = after.spelled; next = has.fails }) })
    ]
    | inr has ↦ inr (record { fault = has.fault; fails = inl has.fails })
  ];
}

pub both_total : {A B : Type 0} (a : Code A) (b : Code B) → IsComplete a → IsComplete b → IsComplete (both a b)
both_total {A = A} {B = B} a b first second = led_total a (λ (p : A × B). p.0) (λ (p : A × B). b.spell p.1) (λ (p : A × B). a.IsGood p.0 × b.IsGood p.1) (λ _ fault rest. b.Fails fault rest) first
    (λ x good bytes fits. elim (second.either bytes fits) [
      | inl after ↦ inl (record { value = (x, after.value); rest = after.rest; good = (good, after.good); leads = refl; spelled = after.spelled; fits = after.next })
      | inr has ↦ inr (record { fault = has.fault; fails = has.fails })
    ])

no_bit : (bit : Bool) (n : ℕ) → bit_of bit ≡ suc (suc n) → ⊥
no_bit true n e = omega (arith, e)
no_bit false n e = omega (arith, e)

bit_decide : (n : ℕ) → HasView bit_of (λ bit. Unit {0}) n ⊎ ((bit : Bool) → Unit {0} → bit_of bit ≢ n)
bit_decide zero = inl (record { value = false; good = tt; is = refl })
bit_decide (suc zero) = inl (record { value = true; good = tt; is = refl })
bit_decide (suc (suc n)) = inr (λ bit good. no_bit bit n)

pub bit_total : IsComplete bit_code
bit_total = coded_total byte_code bit_of (λ bit. Unit {0}) BadBit byte_total bit_decide

optional_rest : {A : Type 0} (code : Code A) → IsComplete code → (there : Bool) → bit_code.IsGood there → (bytes : List ℕ) → IsBytes bytes
    → Rest is_some (optional_bytes code.spell) (λ value. IfSome value code.IsGood) there bytes ⊎ HasSome (λ fault rest. IsTrue there × code.Fails fault rest) bytes
optional_rest code total false good bytes fits = inl (record { value = None; rest = bytes; good = tt; leads = refl; spelled = refl; fits = fits })
optional_rest code total true good bytes fits =
    elim (total.either bytes fits) [
      | inl after ↦ inl (record { value = Some after.value; rest = after.rest; good = after.good; leads = refl; spelled = after.spelled; fits = after.next })
      | inr has ↦ inr (record { fault = has.fault; fails = (refl, has.fails) })
    ]

pub optional_total : {A : Type 0} (code : Code A) → IsComplete code → IsComplete (optional code)
optional_total code total = led_total bit_code is_some (optional_bytes code.spell) (λ value. IfSome value code.IsGood) (λ there fault rest. IsTrue there × code.Fails fault rest) bit_total (optional_rest code total)
