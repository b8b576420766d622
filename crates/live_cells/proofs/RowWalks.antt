-- A walk over the rows of a queue: what is next where a place is reached, and which place is reached then.
use Rattle.std.proofs.Common.{◌≡◌, ◌≢◌, ℕ, zero, suc, ◌+◌, ◌-◌, ◌<◌, ◌≤◌, Bool, true, false, not, cond, ◌&&◌, ◌||◌, nat_eq, List, [], ◌∷◌, length, get_or, take, drop, Some, None, inl, inr, refl, sym, ap, ◌∙◌, arith, if◌then◌else◌}
use Rattle.std.specs.Prelude.{nat_lt}
use Rattle.std.specs.List.{All, AllWithin}
use Rattle.std.specs.Option.{option_and_then, option_map}
use Rattle.std.specs.Ordering.{is_le, is_lt, ordering_reverse, ordering_then}
use Rattle.std.specs.declared.cmp.Ordering.{Ordering}
use Rattle.std.specs.declared.cmp.Ordering.TheVariants.{Less, Equal, Greater}
use Rattle.std.proofs.lemmas.Bool.{cases_lt}
use Rattle.std.proofs.lemmas.Bool.Decides.{nat_tests}
use Rattle.std.proofs.lemmas.Cmp.{nat_list_cmp_total, tied_itself}
use Rattle.std.proofs.lemmas.List.{get_or_default}
use Rattle.std.proofs.lemmas.Option.{slice_get-get_or}
use Rattle.dots.specs.declared.member.Member.{Member}
use Rattle.dots.specs.Orders.{member_cmp, text_cmp}
use Rattle.operations.specs.Rows.{MemberRow, interface_in, row_of, row_of_fields}
use Rattle.dots.proofs.MemberOrder.{members_total}
use Rattle.op_arena.specs.Ids.{Id}
use Rattle.live_cells.specs.Index.{Listed, Rises, listed_cmp}
use Rattle.live_cells.specs.PlacedStates.{AreIndexed, PlacedState, cells_of, listed_at}
use Rattle.live_cells.specs.RowWalks.{IsNext, IsReached, interface_before, rows_left}
use Rattle.live_cells.specs.ShownRows.{IsLeastEntry, cells_view, fields_shown, is_left, is_passed, rows_after}
use Rattle.live_cells.proofs.IndexPlaces.{Lesser, Upto, group_between, none_greater, not_lesser}
use Rattle.live_cells.proofs.Indexes.{listed_exact, listed_total}
use Rattle.live_cells.proofs.ListedIds.{as_long, listed_between}
use Rattle.live_cells.proofs.LiveMaps.{rise}
use Rattle.live_cells.proofs.MemberOrder.{by_members, one_member, own_between}
use Rattle.live_cells.proofs.Rising as rising
use Rattle.live_cells.proofs.ShownCells.{fields_at, row_of_group}
use Rattle.live_cells.proofs.Shows.{has_row, least_here, next_row, no_more_rows}

there : (queue : ℕ) (ls : List Listed) (k : ℕ) (e : Listed) → k < length ls → interface_before queue ls (suc k) ≡ interface_in queue (get_or ls k e).member
there queue ls k e l = ap (option_and_then (λ x. interface_in queue x.member)) (slice_get-get_or ls k e l)

in_queue : (b : Bool) (i : List ℕ) → b ≡ true → (if b then Some i else None) ≡ Some i
in_queue b i h = ap (λ x. if x then Some i else None) h

not_in_queue : (b : Bool) (i : List ℕ) → b ≡ false → (if b then Some i else None) ≡ None
not_in_queue b i h = ap (λ x. if x then Some i else None) h

-- at first the members of lesser queues are passed
pub passed_first : (queue : ℕ) (m : Member) → is_passed queue None m ≡ nat_lt m.queue queue
passed_first queue m = split (nat_lt m.queue queue) (nat_eq m.queue queue)
  where
    split : (p q : Bool) → (p || (q && false)) ≡ p
    split true q = refl
    split false true = refl
    split false false = refl

lesser_queue : (q r : ℕ) → nat_lt r q ≡ true → nat_eq q r ≡ false
lesser_queue q r h = grind (arith, nat_tests, h)

none_before : (queue : ℕ) (ls : List Listed) (i : ℕ) → i ≤ length ls → AllWithin (λ l. is_passed queue None l.member ≡ true) ls 0 i → interface_before queue ls i ≡ None
none_before queue ls zero w a = refl
none_before queue ls (suc k) w a =
    let e : Listed = record { member = record { queue = 0; interface = [] }; dot = record { site = 0; count = 0 } } in
    let m = (get_or ls k e).member in
    there queue ls k e (omega arith) ∙ not_in_queue (nat_eq queue m.queue) m.interface (lesser_queue queue m.queue (sym (passed_first queue m) ∙ a k e (omega arith) (omega arith)))

pub reached_first : (queue : ℕ) (ls : List Listed) (i : ℕ) → i ≤ length ls → AllWithin (λ l. is_passed queue None l.member ≡ true) ls 0 i → AllWithin (λ l. is_passed queue None l.member ≡ false) ls i (length ls)
    → IsReached queue ls i × (interface_before queue ls i ≡ None)
reached_first queue ls i w b r =
    let none = none_before queue ls i w b in (
      record {
        within = w;
        before = λ k e lo hi. ap (λ o. is_passed queue o (get_or ls k e).member) none ∙ b k e lo hi;
        rest = λ k e lo hi. ap (λ o. is_passed queue o (get_or ls k e).member) none ∙ r k e lo hi;
      },
      none,
    )

-- once an interface is passed, the members up to it are
passed_upto : (queue : ℕ) (m x : Member) → m.queue ≡ queue → is_passed queue (Some m.interface) x ≡ is_le (member_cmp x m)
passed_upto queue m x own =
    ap (λ q. is_passed q (Some m.interface) x) (sym own)
    ∙ ap (λ o. nat_lt x.queue m.queue || (nat_eq x.queue m.queue && not (is_lt o))) (nat_list_cmp_total.antisymm m.interface x.interface)
    ∙ split (nat_lt x.queue m.queue) (nat_eq x.queue m.queue) (text_cmp x.interface m.interface)
  where
    split : (p q : Bool) (o : Ordering) → (p || (q && not (is_lt (ordering_reverse o)))) ≡ is_le (ordering_then (cond p Less (cond q Equal Greater)) o)
    split true q o = refl
    split false true Less = refl
    split false true Equal = refl
    split false true Greater = refl
    split false false o = refl

same_queue : (q r : ℕ) → r ≡ q → nat_eq q r ≡ true
same_queue q r h = grind (arith, nat_tests, h)

-- an entry of the queue stands at a place that is reached
module _ (queue : ℕ) (ls : List Listed) (place : ℕ) (l : Listed) (r : Rises ls) (reached : IsReached queue ls place) (next : IsNext queue ls place l) where
  same_here : (e : Listed) → get_or ls place e ≡ l
  same_here e = get_or_default ls place e l next.within ∙ sym next.here

  -- the entries before it are of lesser members, and none from there on is
  pub lesser_before : Lesser l.member ls place
  lesser_before = (
    λ k e lo hi. ap (λ y. is_lt (member_cmp (get_or ls k e).member y.member)) (sym (same_here l)) ∙ earlier k e hi,
    λ k e lo hi. ap (λ y. is_lt (member_cmp (get_or ls k e).member y.member)) (sym (same_here e)) ∙ not_lesser ls place k e r lo hi,
  )
    where
      earlier : (k : ℕ) (e : Listed) → k < place → is_lt (member_cmp (get_or ls k e).member (get_or ls place l).member) ≡ true
      earlier k e hi = elim (by_members (get_or ls k e) (get_or ls place l) (rising.earlier listed_cmp listed_total listed_exact (λ x. x) (λ x. tt) ls k place e l r hi next.within)) [
        | inl less ↦ ap is_lt less
        | inr same ↦ absurd (
            let passed = reached.before k e (omega arith) hi in
            let left = reached.rest place l (omega arith) next.within in
            let both = ap (is_passed queue (interface_before queue ls place)) same in
            cc)
      ]

  -- the next entry is of the least interface that is left
  pub least_next : IsLeastEntry queue (interface_before queue ls place) ls l
  least_next = least_here queue (interface_before queue ls place) ls place reached.before reached.rest r l next.within next.here next.own

  -- with it, the entries up to there are of no greater member
  pub upto_next : AllWithin (λ x. is_le (member_cmp x.member l.member) ≡ true) ls 0 (place + 1)
  upto_next k e lo hi = elim (cases_lt k place) [
    | inl early ↦ none_greater l.member ls place lesser_before k e lo early
    | inr late ↦
        let here : k ≡ place = omega arith in
        ap (λ n. is_le (member_cmp (get_or ls n e).member l.member)) here ∙ ap (λ y. is_le (member_cmp y.member l.member)) (same_here e) ∙ ap is_le (tied_itself members_total l.member)
  ]

  -- past the entries of its member the walk has come to its interface
  module _ (end : ℕ) (some : place < end) (within : end ≤ length ls) (upto : Upto l.member ls end) where
    pub passed_next : interface_before queue ls end ≡ Some l.member.interface
    passed_next =
        let k = end - 1 in
        let last : end ≡ suc k = omega arith in
        let m = (get_or ls k l).member in
        let own : l.member ≡ m = one_member l.member m (own_between l.member (get_or ls k l) (lesser_before.1 k l (omega arith) (omega arith)) (upto.0 k l (omega arith) (omega arith))) in
        ap (interface_before queue ls) last ∙ there queue ls k l (omega arith) ∙ ap (interface_in queue) (sym own)
        ∙ in_queue (nat_eq queue l.member.queue) l.member.interface (same_queue queue l.member.queue next.own)

    passed_is : (x : Member) → is_passed queue (interface_before queue ls end) x ≡ is_le (member_cmp x l.member)
    passed_is x = ap (λ o. is_passed queue o x) passed_next ∙ passed_upto queue l.member x next.own

    pub reached_next : IsReached queue ls end
    reached_next = record {
      within = within;
      before = λ k e lo hi. passed_is (get_or ls k e).member ∙ upto.0 k e lo hi;
      rest = λ k e lo hi. passed_is (get_or ls k e).member ∙ upto.1 k e lo hi;
    }

-- the member of the entry that is next, with its ids, of which the last stands before a place
module _ (s : PlacedState) (members : List Id) (queue place : ℕ) (l : Listed) (indexed : AreIndexed s members) (reached : IsReached queue (listed_at s.held members) place) (next : IsNext queue (listed_at s.held members) place l)
    (end : ℕ) (some : place < end) (within : end ≤ length members) (upto : Upto l.member (listed_at s.held members) end) where
  abbrev index : List Listed
  index = listed_at s.held members

  abbrev ids : List Id
  ids = take (end - place) (drop place members)

  inside : end ≤ length index
  inside = let long = as_long s.held members indexed.held in omega arith

  pub walk_next : IsReached queue index end
  walk_next = reached_next queue index place l indexed.index.rises reached next end some inside upto

  -- the ids of the next member show its row
  pub row_next : option_map row_of_fields (fields_shown (fields_at s.held ids)) ≡ row_of (cells_view (cells_of s)) l.member
  row_next =
      let lesser = lesser_before queue index place l indexed.index.rises reached next in
      row_of_group s members ids l.member indexed
      (listed_between s.held members indexed.held place (end - place) ∙ group_between l.member index place end reached.within inside lesser upto)

  -- the row of the next member is the first of the rows that are left
  pub rows_next : (row : MemberRow) → row_of (cells_view (cells_of s)) l.member ≡ Some row → rows_left s members queue place ≡ (l.member.interface, row) ∷ rows_left s members queue end
  rows_next row shown =
      next_row (cells_of s) index queue (rise s.dots s.held s.spent indexed.placed) indexed.index (interface_before queue index place) l row (least_next queue index place l indexed.index.rises reached next) shown
      ∙ ap (λ o. (l.member.interface, row) ∷ rows_after (cells_view (cells_of s)) queue o) (sym (passed_next queue index place l indexed.index.rises reached next end some inside upto))

  pub has_next : row_of (cells_view (cells_of s)) l.member ≢ None
  has_next = has_row (cells_of s) index l (rise s.dots s.held s.spent indexed.placed) indexed.index (least_next queue index place l indexed.index.rises reached next).here

-- no row is left where no entry is
pub no_rows_left : (s : PlacedState) (members : List Id) (queue place : ℕ) → AreIndexed s members → IsReached queue (listed_at s.held members) place → All (λ l. is_left queue (interface_before queue (listed_at s.held members) place) l ≡ false) (listed_at s.held members) → rows_left s members queue place ≡ []
no_rows_left s members queue place indexed reached none =
    no_more_rows (cells_of s) (listed_at s.held members) queue (rise s.dots s.held s.spent indexed.placed) indexed.index (interface_before queue (listed_at s.held members) place) none
