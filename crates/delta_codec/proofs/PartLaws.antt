-- What is read is spelled so, and what is spelled so is read: for parts, and for parts of parts.
use Rattle.std.proofs.Common.{◌≡◌, ℕ, suc, ◌+◌, ◌^◌, ◌<◌, ◌≤◌, Bool, true, false, cond, ltb, List, [], ◌∷◌, ◌++◌, length, get_or, take, drop, Result, Ok, Err, refl, sym, ap, subst, ◌∙◌, append_assoc, arith, inl, inr}
use Rattle.std.specs.Int.{Width, w16, w32, w64, byte_len, from_be_bytes, to_be_bytes}
use Rattle.std.proofs.lemmas.Bool.{cases_lt, ltb-false, le-ltb}
use Rattle.std.proofs.lemmas.List.{take_at, drop_at, take-append-drop, length-append, length-take, get_or-drop, get_or-take, get_or_past}
use Rattle.std.proofs.lemmas.Nat.{be_bytes_2, be_bytes_4, be_bytes_8, from_be_bytes-to_be_bytes_2, from_be_bytes-to_be_bytes_4, from_be_bytes-to_be_bytes_8}
use Rattle.delta_codec.specs.declared.decode_fault.DecodeFault.{DecodeFault}
use Rattle.delta_codec.specs.declared.decode_fault.DecodeFault.TheVariants.{BadRange}
use Rattle.delta_codec.specs.Reading.{◌>>=◌, Read, both, byte_at, made, number_at, tested}

-- each of them is a byte
abbrev pub IsBytes : List ℕ → Type 0
IsBytes bytes = (i : ℕ) → get_or bytes i 0 < 256

pub IsBytes_drop : (n : ℕ) (bytes : List ℕ) → IsBytes bytes → IsBytes (drop n bytes)
IsBytes_drop n bytes h i = rw get_or-drop (h (n + i))

pub IsBytes_take : (n : ℕ) (bytes : List ℕ) → IsBytes bytes → IsBytes (take n bytes)
IsBytes_take n bytes h i =
    elim (cases_lt i n) [
      | inl lt ↦ rw (get_or-take n bytes i 0 lt) (h i)
      | inr le ↦ rw (get_or_past (take n bytes) i 0 (omega (arith, length-take n bytes))) (omega arith)
    ]

-- the value of a step that did not fail
pub bind_ok : {A B : Type 0} (r : Result A DecodeFault) (f : A → Result B DecodeFault) (y : B) → (r >>= f) ≡ Ok y → (x : A) × (r ≡ Ok x) × (f x ≡ Ok y)
bind_ok (Ok x) f y e = (x, refl, e)
bind_ok (Err d) f y e = absurd cc

-- a test that did not fail
pub test_ok : {A : Type 0} (b : Bool) (d : DecodeFault) (x y : A) → cond b (Ok x) (Err d) ≡ Ok y → (b ≡ true) × (x ≡ y)
test_ok true d x y e = (refl, cc)
test_ok false d x y e = absurd cc

pub guard_ok : {A : Type 0} (b : Bool) (d : DecodeFault) (x y : A) → cond b (Err d) (Ok x) ≡ Ok y → (b ≡ false) × (x ≡ y)
guard_ok true d x y e = absurd cc
guard_ok false d x y e = (refl, cc)

abbrev done : {A : Type 0} → A → Result A DecodeFault
done x = Ok x

pub ok_is : {A : Type 0} (x y : A) → done x ≡ done y → x ≡ y
ok_is x y e = cc

-- what was taken from the front
pub record Takes {A : Type 0} (IsGood : A → Type 0) (spell : A → List ℕ) (bytes : List ℕ) (x : A) (rest : List ℕ) : Type 0 where
  pub good : IsGood x
  pub parts : bytes ≡ spell x ++ rest
  pub rest_fits : IsBytes rest

-- a reader of a part, by its values and their spelling
pub record Reads {A : Type 0} (at : List ℕ → Read A) (IsGood : A → Type 0) (spell : A → List ℕ) : Type 0 where
  pub takes : (bytes : List ℕ) (x : A) (rest : List ℕ) → IsBytes bytes → at bytes ≡ Ok (x, rest) → Takes IsGood spell bytes x rest
  pub again : (x : A) (rest : List ℕ) → IsGood x → at (spell x ++ rest) ≡ Ok (x, rest)

-- ---- parts of parts

pub reads_both : {A B : Type 0} (first : List ℕ → Read A) (next : A → List ℕ → Read B) (G : A → Type 0) (H : A → B → Type 0) (s : A → List ℕ) (t : B → List ℕ)
    → Reads first G s → ((x : A) → G x → Reads (next x) (H x) t) → Reads (λ bytes. both (first bytes) next) (λ (p : A × B). G p.0 × H p.0 p.1) (λ (p : A × B). s p.0 ++ t p.1)
reads_both {A = A} {B = B} first next G H s t r q = record {
  takes = λ bytes p rest fits e.
      let a = bind_ok (first bytes) (λ x. next x.0 x.1 >>= λ y. Ok ((x.0, y.0), y.1)) (p, rest) e in
      let b = bind_ok (next a.0.0 a.0.1) (λ y. Ok ((a.0.0, y.0), y.1)) (p, rest) a.2 in
      let u = r.takes bytes a.0.0 a.0.1 fits a.1 in
      let v = (q a.0.0 u.good).takes a.0.1 b.0.0 b.0.1 u.rest_fits b.1 in
      let made_of : (A × B) × List ℕ = ((a.0.0, b.0.0), b.0.1) in
      subst (λ (z : (A × B) × List ℕ). Takes (λ (p : A × B). G p.0 × H p.0 p.1) (λ (p : A × B). s p.0 ++ t p.1) bytes z.0 z.1) (ok_is made_of (p, rest) b.2)
      (record { good = (u.good, v.good); parts = u.parts ∙ ap (λ (x : List ℕ). s a.0.0 ++ x) v.parts ∙ sym (append_assoc (s a.0.0) (t b.0.0) b.0.1); rest_fits = v.rest_fits });
  again = λ p rest good.
      let regrouped : (s p.0 ++ t p.1) ++ rest ≡ s p.0 ++ (t p.1 ++ rest) = append_assoc (s p.0) (t p.1) rest in
      let one : first ((s p.0 ++ t p.1) ++ rest) ≡ Ok (p.0, t p.1 ++ rest) = ap first regrouped ∙ r.again p.0 (t p.1 ++ rest) good.0 in
      rw (one, (q p.0 good.0).again p.1 rest good.1) refl;
}

pub reads_made : {A B : Type 0} (at : List ℕ → Read A) (G : A → Type 0) (s : A → List ℕ) (H : B → Type 0) (t : B → List ℕ) (f : A → B) (g : B → A)
    → Reads at G s → ((x : A) → G x → H (f x) × (s x ≡ t (f x))) → ((y : B) → H y → G (g y) × (f (g y) ≡ y) × (t y ≡ s (g y))) → Reads (λ bytes. made f (at bytes)) H t
reads_made {A = A} {B = B} at G s H t f g r there back = record {
  takes = λ bytes y rest fits e.
      let a = bind_ok (at bytes) (λ x. Ok (f x.0, x.1)) (y, rest) e in
      let u = r.takes bytes a.0.0 a.0.1 fits a.1 in
      let h = there a.0.0 u.good in
      let made_of : B × List ℕ = (f a.0.0, a.0.1) in
      subst (λ (z : B × List ℕ). Takes H t bytes z.0 z.1) (ok_is made_of (y, rest) a.2) (record { good = h.0; parts = u.parts ∙ ap (λ (x : List ℕ). x ++ a.0.1) h.1; rest_fits = u.rest_fits });
  again = λ y rest good.
      let h = back y good in
      let one : at (t y ++ rest) ≡ Ok (g y, rest) = ap (λ (x : List ℕ). at (x ++ rest)) h.2 ∙ r.again (g y) rest h.0 in
      rw one (ap (λ (z : B). Ok (z, rest)) h.1);
}

pub reads_tested : {A : Type 0} (at : List ℕ → Read A) (G : A → Type 0) (s : A → List ℕ) (test : A → Bool) (rule : DecodeFault)
    → Reads at G s → Reads (λ bytes. tested test rule (at bytes)) (λ x. G x × (test x ≡ true)) s
reads_tested {A = A} at G s test rule r = record {
  takes = λ bytes x rest fits e.
      let a = bind_ok (at bytes) (λ x. cond (test x.0) (Ok x) (Err rule)) (x, rest) e in
      let g = test_ok (test a.0.0) rule a.0 (x, rest) a.2 in
      let u = r.takes bytes a.0.0 a.0.1 fits a.1 in
      subst (λ (z : A × List ℕ). Takes (λ x. G x × (test x ≡ true)) s bytes z.0 z.1) g.1 (record { good = (u.good, g.0); parts = u.parts; rest_fits = u.rest_fits });
  again = λ x rest good. rw (r.again x rest good.0) (rw good.1 refl);
}

pub reads_good : {A : Type 0} (at : List ℕ → Read A) (G H : A → Type 0) (s : A → List ℕ) → Reads at G s → ((x : A) → G x → H x) → ((x : A) → H x → G x) → Reads at H s
reads_good at G H s r there back = record {
  takes = λ bytes x rest fits e. let u = r.takes bytes x rest fits e in record { good = there x u.good; parts = u.parts; rest_fits = u.rest_fits };
  again = λ x rest good. r.again x rest (back x good);
}

-- ---- numbers

byte_takes : (bytes : List ℕ) (x : ℕ) (rest : List ℕ) → IsBytes bytes → byte_at bytes ≡ Ok (x, rest) → Takes (λ n. n < 256) (λ n. n ∷ []) bytes x rest
byte_takes [] x rest fits e = absurd cc
byte_takes (b ∷ bytes) x rest fits e =
    let made_of : ℕ × List ℕ = (b, bytes) in
    subst (λ (z : ℕ × List ℕ). Takes (λ n. n < 256) (λ n. n ∷ []) (b ∷ bytes) z.0 z.1) (ok_is made_of (x, rest) e) (record { good = fits 0; parts = refl; rest_fits = λ i. fits (suc i) })

pub byte_reads : Reads byte_at (λ n. n < 256) (λ n. n ∷ [])
byte_reads = record { takes = byte_takes; again = λ x rest good. refl }

pub record IsWide (w : Width) (limit : ℕ) : Type 0 where
  pub len : (n : ℕ) → length (to_be_bytes w n) ≡ byte_len w
  pub back : (bytes : List ℕ) → length bytes ≡ byte_len w → IsBytes bytes → to_be_bytes w (from_be_bytes w bytes) ≡ bytes
  pub again : (n : ℕ) → n < limit → from_be_bytes w (to_be_bytes w n) ≡ n
  pub below : (bytes : List ℕ) → IsBytes bytes → from_be_bytes w bytes < limit

wide16 : IsWide w16 (2 ^ 16)
wide16 = record {
  len = λ n. refl;
  back = λ bytes len fits. be_bytes_2 bytes _ len fits refl;
  again = λ n lt. from_be_bytes-to_be_bytes_2 n lt;
  below = λ bytes fits. omega (arith, fits 0, fits 1);
}

wide32 : IsWide w32 (2 ^ 32)
wide32 = record {
  len = λ n. refl;
  back = λ bytes len fits. be_bytes_4 bytes _ len fits refl;
  again = λ n lt. from_be_bytes-to_be_bytes_4 n lt;
  below = λ bytes fits. omega (arith, fits 0, fits 1, fits 2, fits 3);
}

wide64 : IsWide w64 (2 ^ 64)
wide64 = record {
  len = λ n. refl;
  back = λ bytes len fits. be_bytes_8 bytes _ len fits refl;
  again = λ n lt. from_be_bytes-to_be_bytes_8 n lt;
  below = λ bytes fits. omega (arith, fits 0, fits 1, fits 2, fits 3, fits 4, fits 5, fits 6, fits 7);
}

number_reads : (w : Width) (limit : ℕ) → IsWide w limit → Reads (number_at w) (λ n. n < limit) (to_be_bytes w)
number_reads w limit wide = record {
  takes = λ bytes n rest fits e.
      let g = guard_ok (ltb (length bytes) (byte_len w)) BadRange (from_be_bytes w (take (byte_len w) bytes), drop (byte_len w) bytes) (n, rest) e in
      let long : byte_len w ≤ length bytes = ltb-false _ _ g.0 in
      let front_fits = IsBytes_take (byte_len w) bytes fits in
      let front : to_be_bytes w (from_be_bytes w (take (byte_len w) bytes)) ≡ take (byte_len w) bytes = wide.back (take (byte_len w) bytes) (omega (arith, length-take (byte_len w) bytes)) front_fits in
      subst (λ (z : ℕ × List ℕ). Takes (λ n. n < limit) (to_be_bytes w) bytes z.0 z.1) g.1
      (record { good = wide.below (take (byte_len w) bytes) front_fits; parts = sym (ap (λ (x : List ℕ). x ++ drop (byte_len w) bytes) front ∙ take-append-drop (byte_len w) bytes); rest_fits = IsBytes_drop (byte_len w) bytes fits });
  again = λ n rest lt.
      let len = wide.len n in
      let long : ltb (length (to_be_bytes w n ++ rest)) (byte_len w) ≡ false = le-ltb _ _ (omega (arith, length-append (to_be_bytes w n) rest)) in
      rw (long, take_at (to_be_bytes w n) rest (byte_len w) len, drop_at (to_be_bytes w n) rest (byte_len w) len, wide.again n lt) refl;
}

pub number2_reads : Reads (number_at w16) (λ n. n < 2 ^ 16) (to_be_bytes w16)
number2_reads = number_reads w16 (2 ^ 16) wide16

pub number4_reads : Reads (number_at w32) (λ n. n < 2 ^ 32) (to_be_bytes w32)
number4_reads = number_reads w32 (2 ^ 32) wide32

pub number8_reads : Reads (number_at w64) (λ n. n < 2 ^ 64) (to_be_bytes w64)
number8_reads = number_reads w64 (2 ^ 64) wide64
