-- What a builder has been given lies before what is read next.
use Rattle.std.proofs.Common.{◌≡◌, ℕ, ◌+◌, ◌-◌, ◌≤◌, ◌<◌, List, Ok, Bool, true, false, cond, Option, Some, None, IsSome, inl, inr, refl, ap, subst, ◌∙◌, arith}
use Rattle.std.specs.declared.cmp.Ordering.{Ordering}
use Rattle.std.specs.declared.cmp.Ordering.TheVariants.{Less, Equal, Greater}
use Rattle.std.specs.Prelude.{fold}
use Rattle.std.specs.FinMap as map
use Rattle.std.specs.FinSet as set
use Rattle.std.specs.Ordering.{is_lt, eq_by_cmp}
use Rattle.std.proofs.lemmas.Bool.{cases_Bool}
use Rattle.dots.specs.Values.{Dot}
use Rattle.dots.specs.Orders.{dot_cmp}
use Rattle.dots.proofs.DotOrder.{dots_total, dots_exact}
use Rattle.general_lemmas.proofs.TruthTables.{equal_of}
use Rattle.member_orset.specs.Members.{Holding}
use Rattle.delta_codec.specs.declared.decode_fault.DecodeFault.TheVariants.{BadOrder}
use Rattle.delta_codec.specs.Elements.{IsBehind, kept_cell}
use Rattle.delta_codec.specs.Reading.{Read, cell_elements, elements_at, is_dot_before, made, next_at, order_fault, unless, with_cell}
use Rattle.delta_codec.proofs.ReadLists.{goes_on, made_of}

-- none is live
pub behind_none : (last : Option Dot) (live : map.FinMap dot_cmp Holding) → live ≡ map.empty → IsBehind last live
behind_none last live empty q dot there next = absurd (let none = ap (λ m. map.get m q) empty ∙ map.get-empty dot_cmp q in cc)

less_unless : (o : Ordering) → unless (is_lt o) BadOrder ≡ None → o ≡ Less
less_unless Less h = refl
less_unless Equal h = absurd cc
less_unless Greater h = absurd cc

before_next : (last dot : Dot) → order_fault is_dot_before (Some last) dot ≡ None → dot_cmp last dot ≡ Less
before_next last dot h = less_unless (dot_cmp last dot) h

-- one more dot that stood behind the others
pub behind_more : (last : Option Dot) (live : map.FinMap dot_cmp Holding) (d : Dot) (h : Holding) → order_fault is_dot_before last d ≡ None → IsBehind last live → IsBehind (Some d) (map.insert live d h)
behind_more last live d h follows behind q dot there next =
    let less : dot_cmp d dot ≡ Less = before_next d dot next in
    let at : map.get (map.insert live d h) q ≡ cond (eq_by_cmp dot_cmp q d) (Some h) (map.get live q) = map.get-insert dots_total live d h q in
    elim (cases_Bool (eq_by_cmp dot_cmp q d)) [
      | inl same ↦ let q-is : q ≡ d = dots_exact q d (equal_of (dot_cmp q d) same) in ap (λ x. dot_cmp x dot) q-is ∙ less
      | inr other ↦
          let old : map.get (map.insert live d h) q ≡ map.get live q = at ∙ ap (λ b. cond b (Some h) (map.get live q)) other in
          dots_total.trans q d dot (behind q d (subst (λ (o : Option Holding). IsSome o) old there) follows) less
    ]

one_more : (b : Bool) (n m : ℕ) → n ≤ m → cond b n (n + 1) ≤ m + 1
one_more true n m le = omega arith
one_more false n m le = omega arith

-- at most one more is live
pub few_more : (live : map.FinMap dot_cmp Holding) (d : Dot) (h : Holding) (n : ℕ) → map.len live ≤ n → map.len (map.insert live d h) ≤ n + 1
few_more live d h n le = rw (map.len-insert dots_total live d h) (one_more (map.contains_key live d) (map.len live) n le)

pub few_none : (live : map.FinMap dot_cmp Holding) → live ≡ map.empty → map.len live ≤ 0
few_none live empty = rw (empty, map.len-empty dot_cmp) (omega arith)

-- what holds once a cell was kept, of which the dot and what is live then are given
abbrev pub AfterCell : ℕ → (known : set.FinSet dot_cmp) → ℕ → ℕ → List ℕ → Read (map.FinMap dot_cmp Holding) → Dot × map.FinMap dot_cmp Holding → Type 0
AfterCell version known count i rest total kept =
    (made (fold with_cell kept.1) (elements_at (cell_elements version (set.contains known)) (count - (i + 1)) (Some kept.0) rest) ≡ total)
    × (IsBehind (Some kept.0) kept.1)
    × (map.len kept.1 ≤ i + 1)

-- one more cell, which stood behind the others
pub cell_kept : (version : ℕ) (known : set.FinSet dot_cmp) (live : map.FinMap dot_cmp Holding) (count i : ℕ) (last : Option Dot) (bytes rest : List ℕ) (dot : Dot) (more : map.FinMap dot_cmp Holding) (total : Read (map.FinMap dot_cmp Holding)) → i < count
    → made (kept_cell live) (next_at (cell_elements version (set.contains known)) last bytes) ≡ Ok ((dot, more), rest) → order_fault is_dot_before last dot ≡ None
    → made (fold with_cell live) (elements_at (cell_elements version (set.contains known)) (count - i) last bytes) ≡ total → IsBehind last live → map.len live ≤ i
    → AfterCell version known count i rest total (dot, more)
cell_kept version known live count i last bytes rest dot more total lt h follows so_far behind few =
    let e = cell_elements version (set.contains known) in
    let read = made_of (kept_cell live) (next_at e last bytes) (dot, more) rest h in
    let behind_it : order_fault is_dot_before last read.0.0 ≡ None = ap (λ (p : Dot × map.FinMap dot_cmp Holding). order_fault is_dot_before last p.0) read.2 ∙ follows in
    subst (AfterCell version known count i rest total) read.2 (
      goes_on e with_cell live count i last bytes read.0 rest total lt read.1 so_far,
      behind_more last live read.0.0 read.0.1 behind_it behind,
      few_more live read.0.0 read.0.1 i few,
    )
