-- Which fault is read, and where: for parts, and for parts of parts.
use Rattle.std.proofs.Common.{◌≡◌, ◌⊎◌, ℕ, ◌<◌, ◌≤◌, Bool, true, false, cond, ltb, List, [], ◌∷◌, ◌++◌, length, take, drop, Result, Ok, Err, refl, sym, ap, subst, ◌∙◌, inl, inr, arith}
use Rattle.std.specs.Prelude.{nat_le}
use Rattle.std.specs.Int.{Width, byte_len, from_be_bytes}
use Rattle.std.proofs.lemmas.Bool.Decides.{nat_tests}
use Rattle.std.proofs.lemmas.List.{drop_at}
use Rattle.delta_codec.specs.declared.decode_fault.DecodeFault.{DecodeFault}
use Rattle.delta_codec.specs.declared.decode_fault.DecodeFault.TheVariants.{BadRange}
use Rattle.delta_codec.specs.Faults.{After, Lacks}
use Rattle.delta_codec.specs.Reading.{◌>>=◌, Read, both, byte_at, made, number_at, tested}
use Rattle.delta_codec.proofs.PartLaws.{IsBytes, IsBytes_drop, Reads}

-- what is read fails with a fault where bytes have it, and nowhere else
pub record Reports {B : Type 0} (read : List ℕ → Result B DecodeFault) (Has : DecodeFault → List ℕ → Type 0) : Type 0 where
  pub only : (bytes : List ℕ) (fault : DecodeFault) → IsBytes bytes → read bytes ≡ Err fault → Has fault bytes
  pub always : (bytes : List ℕ) (fault : DecodeFault) → IsBytes bytes → Has fault bytes → read bytes ≡ Err fault

-- ---- steps

abbrev failed : {A : Type 0} → DecodeFault → Result A DecodeFault
failed fault = Err fault

pub fault_is : {A : Type 0} (x y : DecodeFault) → failed {A = A} x ≡ failed y → x ≡ y
fault_is x y e = cc

pub not_both : {A : Type 0} (r : Result A DecodeFault) (x : A) (fault : DecodeFault) → r ≡ Ok x → r ≡ Err fault → ⊥
not_both r x fault found failed = let both : ◌≡◌ {A = Result _ DecodeFault} (Ok x) (Err fault) = sym found ∙ failed in cc

-- a value, or a fault
pub outcome : {A : Type 0} (r : Result A DecodeFault) → ((x : A) × (r ≡ Ok x)) ⊎ ((fault : DecodeFault) × (r ≡ Err fault))
outcome (Ok x) = inl (x, refl)
outcome (Err fault) = inr (fault, refl)

-- the first step failed, or the one behind it
pub bind_err : {A B : Type 0} (r : Result A DecodeFault) (f : A → Result B DecodeFault) (fault : DecodeFault) → (r >>= f) ≡ Err fault → (r ≡ Err fault) ⊎ ((x : A) × (r ≡ Ok x) × (f x ≡ Err fault))
bind_err (Ok x) f fault e = inr (x, refl, e)
bind_err {A = A} {B = B} (Err d) f fault e = inl (ap (λ (y : DecodeFault). failed {A = A} y) (fault_is {A = B} d fault e))

-- a test that failed, or what stands behind it
pub test_err : {A B : Type 0} (b : Bool) (x : A) (rule fault : DecodeFault) (f : A → Result B DecodeFault) → (cond b (Ok x) (Err rule) >>= f) ≡ Err fault → ((b ≡ false) × (fault ≡ rule)) ⊎ ((b ≡ true) × (f x ≡ Err fault))
test_err true x rule fault f e = inr (refl, e)
test_err {B = B} false x rule fault f e = inl (refl, sym (fault_is {A = B} rule fault e))

pub guard_err : {A : Type 0} (b : Bool) (rule fault : DecodeFault) (r : Result A DecodeFault) → cond b (Err rule) r ≡ Err fault → ((b ≡ true) × (fault ≡ rule)) ⊎ ((b ≡ false) × (r ≡ Err fault))
guard_err {A = A} true rule fault r e = inl (refl, sym (fault_is {A = A} rule fault e))
guard_err false rule fault r e = inr (refl, e)

pub last_err : {A : Type 0} (b : Bool) (x : A) (rule fault : DecodeFault) → cond b (Ok x) (Err rule) ≡ Err fault → (b ≡ false) × (fault ≡ rule)
last_err true x rule fault e = absurd cc
last_err {A = A} false x rule fault e = (refl, sym (fault_is {A = A} rule fault e))

-- whether a number is over its limit
pub over : (n most : ℕ) → nat_le n most ≡ false → most < n
over n most h = grind (arith, nat_tests)

pub under : (n most : ℕ) → nat_le n most ≡ true → n ≤ most
under n most h = grind (arith, nat_tests)

pub is_over : (n most : ℕ) → most < n → nat_le n most ≡ false
is_over n most h = grind (arith, nat_tests)

pub is_under : (n most : ℕ) → n ≤ most → nat_le n most ≡ true
is_under n most h = grind (arith, nat_tests)

-- what stands behind bytes is bytes
pub IsBytes_behind : (front rest : List ℕ) → IsBytes (front ++ rest) → IsBytes rest
IsBytes_behind front rest fits = subst (λ (x : List ℕ). IsBytes x) (drop_at front rest (length front) refl) (IsBytes_drop (length front) (front ++ rest) fits)

-- ---- parts of parts

-- of two that are read alike
pub reports_by : {B : Type 0} (read other : List ℕ → Result B DecodeFault) (F : DecodeFault → List ℕ → Type 0) → ((bytes : List ℕ) → read bytes ≡ other bytes) → Reports other F → Reports read F
reports_by read other F same t = record {
  only = λ bytes fault fits e. t.only bytes fault fits (sym (same bytes) ∙ e);
  always = λ bytes fault fits h. same bytes ∙ t.always bytes fault fits h;
}

-- of two relations that say the same
pub reports_same : {B : Type 0} (read : List ℕ → Result B DecodeFault) (F H : DecodeFault → List ℕ → Type 0) → Reports read F → ((fault : DecodeFault) (bytes : List ℕ) → F fault bytes → H fault bytes) → ((fault : DecodeFault) (bytes : List ℕ) → H fault bytes → F fault bytes) → Reports read H
reports_same read F H t there back = record {
  only = λ bytes fault fits e. there fault bytes (t.only bytes fault fits e);
  always = λ bytes fault fits h. t.always bytes fault fits (back fault bytes h);
}

-- of a part and what stands behind it: the part is at fault, or what follows a good one
pub reports_then : {A B : Type 0} (first : List ℕ → Read A) (next : A → List ℕ → Result B DecodeFault) (G : A → Type 0) (s : A → List ℕ) (F : DecodeFault → List ℕ → Type 0) (H : DecodeFault → A → List ℕ → Type 0)
    → Reads first G s → Reports first F → ((x : A) → G x → Reports (next x) (λ fault rest. H fault x rest)) → Reports (λ bytes. first bytes >>= λ x. next x.0 x.1) (λ fault bytes. F fault bytes ⊎ After G s (H fault) bytes)
reports_then first next G s F H r t u = record {
  only = λ bytes fault fits e.
      elim (bind_err (first bytes) (λ x. next x.0 x.1) fault e) [
        | inl here ↦ inl (t.only bytes fault fits here)
        | inr later ↦
            let took = r.takes bytes later.0.0 later.0.1 fits later.1 in
            inr (record { value = later.0.0; rest = later.0.1; good = took.good; spelled = took.parts; next = (u later.0.0 took.good).only later.0.1 fault took.rest_fits later.2 })
      ];
  always = λ bytes fault fits h.
      elim h [
        | inl here ↦ rw (t.always bytes fault fits here) refl
        | inr after ↦
            let one : first bytes ≡ Ok (after.value, after.rest) = ap first after.spelled ∙ r.again after.value after.rest after.good in
            let took = r.takes bytes after.value after.rest fits one in
            rw (one, (u after.value after.good).always after.rest fault took.rest_fits after.next) refl
      ];
}

-- of what is made of a value
pub reports_mapped : {A B : Type 0} (read : List ℕ → Result A DecodeFault) (f : A → B) (F : DecodeFault → List ℕ → Type 0) → Reports read F → Reports (λ bytes. read bytes >>= λ x. Ok (f x)) F
reports_mapped read f F t = record {
  only = λ bytes fault fits e.
      elim (bind_err (read bytes) (λ x. Ok (f x)) fault e) [
        | inl here ↦ t.only bytes fault fits here
        | inr later ↦ absurd (let never = later.2 in cc)
      ];
  always = λ bytes fault fits h. rw (t.always bytes fault fits h) refl;
}

pub reports_made : {A B : Type 0} (f : A → B) (read : List ℕ → Read A) (F : DecodeFault → List ℕ → Type 0) → Reports read F → Reports (λ bytes. made f (read bytes)) F
reports_made f read F t = reports_mapped read (λ x. (f x.0, x.1)) F t

pub reports_both : {A B : Type 0} (first : List ℕ → Read A) (next : A → List ℕ → Read B) (G : A → Type 0) (s : A → List ℕ) (F : DecodeFault → List ℕ → Type 0) (H : DecodeFault → A → List ℕ → Type 0)
    → Reads first G s → Reports first F → ((x : A) → G x → Reports (next x) (λ fault rest. H fault x rest)) → Reports (λ bytes. both (first bytes) next) (λ fault bytes. F fault bytes ⊎ After G s (H fault) bytes)
reports_both first next G s F H r t u = reports_then first (λ x rest. next x rest >>= λ y. Ok ((x, y.0), y.1)) G s F H r t (λ x g. reports_mapped (next x) (λ y. ((x, y.0), y.1)) (λ fault rest. H fault x rest) (u x g))

kept_then : {A B D : Type 0} (f : A → D) (r : Read A) (g : D × List ℕ → Result B DecodeFault) → (made f r >>= g) ≡ (r >>= λ x. g (f x.0, x.1))
kept_then f (Ok x) g = refl
kept_then f (Err fault) g = refl

-- of a part of which something is kept, and what stands behind it
pub reports_kept : {A B D : Type 0} (first : List ℕ → Read A) (f : A → D) (next : D → List ℕ → Result B DecodeFault) (G : A → Type 0) (s : A → List ℕ) (F : DecodeFault → List ℕ → Type 0) (H : DecodeFault → A → List ℕ → Type 0)
    → Reads first G s → Reports first F → ((x : A) → G x → Reports (next (f x)) (λ fault rest. H fault x rest)) → Reports (λ bytes. made f (first bytes) >>= λ x. next x.0 x.1) (λ fault bytes. F fault bytes ⊎ After G s (H fault) bytes)
reports_kept first f next G s F H r t u = reports_by (λ bytes. made f (first bytes) >>= λ x. next x.0 x.1) (λ bytes. first bytes >>= λ x. next (f x.0) x.1) (λ fault bytes. F fault bytes ⊎ After G s (H fault) bytes) (λ bytes. kept_then f (first bytes) (λ x. next x.0 x.1)) (reports_then first (λ x. next (f x)) G s F H r t u)

-- ---- parts that have one fault

-- whatever is wrong, this is the fault
abbrev pub HasOneFault : {B : Type 0} → DecodeFault → (List ℕ → Result B DecodeFault) → Type 0
HasOneFault rule read = (bytes : List ℕ) (fault : DecodeFault) → read bytes ≡ Err fault → fault ≡ rule

pub one_byte : HasOneFault BadRange byte_at
one_byte [] fault e = sym (fault_is {A = ℕ × List ℕ} BadRange fault e)
one_byte (b ∷ bytes) fault e = absurd cc

pub one_number : (w : Width) → HasOneFault BadRange (number_at w)
one_number w bytes fault e =
    let found : ℕ × List ℕ = (from_be_bytes w (take (byte_len w) bytes), drop (byte_len w) bytes) in
    elim (guard_err (ltb (length bytes) (byte_len w)) BadRange fault (Ok found) e) [
      | inl short ↦ short.1
      | inr there ↦ absurd (let never = there.1 in cc)
    ]

one_then : {A B : Type 0} (first : List ℕ → Read A) (next : A → List ℕ → Result B DecodeFault) (rule : DecodeFault) → HasOneFault rule first → ((x : A) → HasOneFault rule (next x)) → HasOneFault rule (λ bytes. first bytes >>= λ x. next x.0 x.1)
one_then first next rule f g bytes fault e =
    elim (bind_err (first bytes) (λ x. next x.0 x.1) fault e) [
      | inl here ↦ f bytes fault here
      | inr later ↦ g later.0.0 later.0.1 fault later.2
    ]

one_mapped : {A B : Type 0} (read : List ℕ → Result A DecodeFault) (f : A → B) (rule : DecodeFault) → HasOneFault rule read → HasOneFault rule (λ bytes. read bytes >>= λ x. Ok (f x))
one_mapped read f rule g bytes fault e =
    elim (bind_err (read bytes) (λ x. Ok (f x)) fault e) [
      | inl here ↦ g bytes fault here
      | inr later ↦ absurd (let never = later.2 in cc)
    ]

pub one_tested : {A : Type 0} (at : List ℕ → Read A) (test : A → Bool) (rule : DecodeFault) → HasOneFault rule at → HasOneFault rule (λ bytes. tested test rule (at bytes))
one_tested {A = A} at test rule f = one_then at (λ x rest. cond (test x) (Ok (x, rest)) (Err rule)) rule f (λ x rest fault e. let found : A × List ℕ = (x, rest) in (last_err (test x) found rule fault e).1)

pub one_made : {A B : Type 0} (f : A → B) (at : List ℕ → Read A) (rule : DecodeFault) → HasOneFault rule at → HasOneFault rule (λ bytes. made f (at bytes))
one_made f at rule g = one_mapped at (λ x. (f x.0, x.1)) rule g

pub one_both : {A B : Type 0} (first : List ℕ → Read A) (next : A → List ℕ → Read B) (rule : DecodeFault) → HasOneFault rule first → ((x : A) → HasOneFault rule (next x)) → HasOneFault rule (λ bytes. both (first bytes) next)
one_both first next rule f g = one_then first (λ x rest. next x rest >>= λ y. Ok ((x, y.0), y.1)) rule f (λ x. one_mapped (next x) (λ y. ((x, y.0), y.1)) rule (g x))

-- such a part is at fault where no good one stands
pub reports_lacks : {A : Type 0} (read : List ℕ → Read A) (G : A → Type 0) (s : A → List ℕ) (rule : DecodeFault) → Reads read G s → HasOneFault rule read → Reports read (Lacks G s rule)
reports_lacks read G s rule r one = record {
  only = λ bytes fault fits e. record {
    none = λ value rest good spelled. not_both (read bytes) (value, rest) fault (ap read spelled ∙ r.again value rest good) e;
    fault_is = one bytes fault e;
  };
  always = λ bytes fault fits h.
      elim (outcome (read bytes)) [
        | inl found ↦ absurd (let took = r.takes bytes found.0.0 found.0.1 fits found.1 in h.none found.0.0 found.0.1 took.good took.parts)
        | inr stopped ↦ stopped.1 ∙ ap (λ (y : DecodeFault). Err y) (one bytes stopped.0 stopped.1 ∙ sym h.fault_is)
      ];
}
