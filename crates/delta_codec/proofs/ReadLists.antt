-- Reading the elements of a list one after the other, as a loop does, and keeping what each says.
use Rattle.std.proofs.Common.{◌≡◌, ℕ, suc, ◌-◌, ◌+◌, ◌≤◌, ◌<◌, List, ◌∷◌, Option, Some, Result, Ok, Err, refl, sym, ap, ◌∙◌, arith}
use Rattle.std.specs.Prelude.{fold}
use Rattle.delta_codec.specs.declared.decode_fault.DecodeFault.{DecodeFault}
use Rattle.delta_codec.specs.declared.decode_fault.DecodeFault.TheVariants.{Truncated, BadMagic, BadVersion, BadRange, BadOrder, BadText, TooLarge, Memory}
use Rattle.delta_codec.specs.Reading.{◌>>=◌, Elements, Fails, Read, elements_at, made, next_at}

-- a fault that reading gives is one that a function may return
pub fails_of : {Y : Type 0} (fault : DecodeFault) (read : Result Y DecodeFault) → read ≡ Err fault → Fails fault read
fails_of Truncated read is = is
fails_of BadMagic read is = is
fails_of BadVersion read is = is
fails_of BadRange read is = is
fails_of BadOrder read is = is
fails_of BadText read is = is
fails_of TooLarge read is = is
fails_of Memory read is = tt

-- what one more element adds
kept_more : {A D : Type 0} (step : D → A → D) (d : D) (x : A) (read : Read (List A)) → made (fold step d) (read >>= λ xs. Ok (x ∷ xs.0, xs.1)) ≡ made (fold step (step d x)) read
kept_more step d x (Ok xs) = refl
kept_more step d x (Err fault) = refl

pub goes_on : {A K D : Type 0} (e : Elements A K) (step : D → A → D) (d : D) (count i : ℕ) (last : Option K) (bytes : List ℕ) (x : A) (rest : List ℕ) (total : Read D) → i < count → next_at e last bytes ≡ Ok (x, rest)
    → made (fold step d) (elements_at e (count - i) last bytes) ≡ total → made (fold step (step d x)) (elements_at e (count - (i + 1)) (Some (e.key x)) rest) ≡ total
unfolding elements_at
goes_on e step d count i last bytes x rest total lt h so_far =
    let k : count - i ≡ suc (count - (i + 1)) = omega arith in
    let one : made (fold step d) (elements_at e (count - i) last bytes) ≡ made (fold step (step d x)) (elements_at e (count - (i + 1)) (Some (e.key x)) rest) = rw (k, h) (kept_more step d x (elements_at e (count - (i + 1)) (Some (e.key x)) rest)) in
    sym one ∙ so_far

pub ends : {A K D : Type 0} (e : Elements A K) (step : D → A → D) (d : D) (count i : ℕ) (last : Option K) (bytes : List ℕ) (fault : DecodeFault) (total : Read D) → i < count → next_at e last bytes ≡ Err fault
    → made (fold step d) (elements_at e (count - i) last bytes) ≡ total → Fails fault total
unfolding elements_at
ends e step d count i last bytes fault total lt h so_far =
    let k : count - i ≡ suc (count - (i + 1)) = omega arith in
    let one : made (fold step d) (elements_at e (count - i) last bytes) ≡ Err fault = rw (k, h) refl in
    fails_of fault total (sym so_far ∙ one)

pub is_done : {A K D : Type 0} (e : Elements A K) (step : D → A → D) (d : D) (count i : ℕ) (last : Option K) (bytes : List ℕ) (total : Read D) → count ≤ i → made (fold step d) (elements_at e (count - i) last bytes) ≡ total → total ≡ Ok (d, bytes)
unfolding elements_at
is_done e step d count i last bytes total le so_far =
    let k : count - i ≡ 0 = omega arith in
    let one : made (fold step d) (elements_at e (count - i) last bytes) ≡ Ok (d, bytes) = rw k refl in
    sym so_far ∙ one

-- what was made of an element is a fault where the element is
unmade : {A B : Type 0} (f : A → B) (read : Read A) (fault : DecodeFault) → made f read ≡ Err fault → read ≡ Err fault
unmade f (Ok x) fault h = absurd cc
unmade f (Err e) fault h = let same : e ≡ fault = cc in ap Err same

-- the next element, of which something is made, is a fault or out of memory
pub ends_made : {A B K D : Type 0} (e : Elements A K) (f : A → B) (step : D → A → D) (d : D) (count i : ℕ) (last : Option K) (bytes : List ℕ) (fault : DecodeFault) (total : Read D) → i < count
    → Fails fault (made f (next_at e last bytes)) → made (fold step d) (elements_at e (count - i) last bytes) ≡ total → Fails fault total
ends_made e f step d count i last bytes Truncated total lt h so_far = ends e step d count i last bytes Truncated total lt (unmade f _ Truncated h) so_far
ends_made e f step d count i last bytes BadMagic total lt h so_far = ends e step d count i last bytes BadMagic total lt (unmade f _ BadMagic h) so_far
ends_made e f step d count i last bytes BadVersion total lt h so_far = ends e step d count i last bytes BadVersion total lt (unmade f _ BadVersion h) so_far
ends_made e f step d count i last bytes BadRange total lt h so_far = ends e step d count i last bytes BadRange total lt (unmade f _ BadRange h) so_far
ends_made e f step d count i last bytes BadOrder total lt h so_far = ends e step d count i last bytes BadOrder total lt (unmade f _ BadOrder h) so_far
ends_made e f step d count i last bytes BadText total lt h so_far = ends e step d count i last bytes BadText total lt (unmade f _ BadText h) so_far
ends_made e f step d count i last bytes TooLarge total lt h so_far = ends e step d count i last bytes TooLarge total lt (unmade f _ TooLarge h) so_far
ends_made e f step d count i last bytes Memory total lt h so_far = tt

-- what was made of an element is of one that was read
pub made_of : {A B : Type 0} (f : A → B) (read : Read A) (y : B) (rest : List ℕ) → made f read ≡ Ok (y, rest) → (x : A) × (read ≡ Ok (x, rest)) × (f x ≡ y)
made_of {A} {B} f (Ok x) y rest h =
    let same : (f x.0, x.1) ≡ (y, rest) = cc in
    (x.0, ap (λ (r : List ℕ). Ok (x.0, r)) (ap (λ (p : B × List ℕ). p.1) same), ap (λ (p : B × List ℕ). p.0) same)
made_of f (Err e) y rest h = absurd cc
