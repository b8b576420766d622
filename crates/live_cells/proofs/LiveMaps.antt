-- What is seen of placed cells: the live dots with what they hold, and their ids.
use Rattle.std.proofs.Common.{◌≡◌, ℕ, ◌≤◌, ◌<◌, Bool, true, false, cond, List, [], ◌∷◌, length, get_or, Option, Some, None, is_some, refl, sym, ap, ◌∙◌, subst, inl, inr, arith}
use Rattle.std.specs.FinMap as maps
use Rattle.std.specs.FinMap.Entries.{find}
use Rattle.std.specs.FinSet as sets
use Rattle.std.specs.List.{All, cons_option}
use Rattle.std.specs.Option.{option_and_then, option_map}
use Rattle.std.specs.Ordering.{eq_by_cmp}
use Rattle.std.proofs.lemmas.Bool.{cases_Bool}
use Rattle.std.proofs.lemmas.List.Elements.{All-head, All-tail}
use Rattle.dots.specs.Values.{Dot}
use Rattle.dots.specs.Orders.{dot_cmp}
use Rattle.dots.proofs.DotOrder.{dots_total, dots_exact}
use Rattle.op_arena.specs.Ids.{Id}
use Rattle.live_cells.specs.declared.live_dot.LiveDot.{LiveDot}
use Rattle.live_cells.specs.declared.placed.Placed.{Placed}
use Rattle.live_cells.specs.CellIds.{AreIdsApart, IdMap, IdSet}
use Rattle.live_cells.specs.LiveLists.{IsCellAt, IsGap, entries_of, holding, live_of}
use Rattle.live_cells.specs.PlacedStates.{ArePlaced, CellMap, cells_at, ids_of}
use Rattle.live_cells.specs.PlacedLists.{id_entries}
use Rattle.live_cells.proofs.CellLists.{found_at}
use Rattle.live_cells.proofs.DotTests.{one_dot}
use Rattle.live_cells.proofs.CellsOfDots.{AreThere, ahead_dots, as_long, before_dots, cells_rise, dot_there, no_cell, same_some}
use Rattle.live_cells.proofs.Rising as rising
use Rattle.live_cells.proofs.RisingMaps.{get_map_of}
use Rattle.live_cells.proofs.Views.{get_live_of, len_live_of}

-- the ids of placed dots, by their dots
abbrev pub ids_by : List Placed → IdMap
ids_by dots = maps.from_sorted (id_entries dots)

-- what holds of each placed id holds of one that is found
pub found_all : (P : Id → Type 0) (dots : List Placed) (q : Dot) (id : Id) → All (λ p. P p.id) dots → find dot_cmp q (id_entries dots) ≡ Some id → P id
found_all P [] q id a e = absurd (cc)
found_all P (p ∷ dots) q id a e = elim (cases_Bool (eq_by_cmp dot_cmp q p.dot)) [
  | inl t ↦ subst P (same_some p.id id (ap (λ b. cond b (Some p.id) (find dot_cmp q (id_entries dots))) (sym t) ∙ e)) (All-head (λ p. P p.id) p dots a)
  | inr f ↦ found_all P dots q id (All-tail (λ p. P p.id) p dots a) (ap (λ b. cond b (Some p.id) (find dot_cmp q (id_entries dots))) (sym f) ∙ e)
]

-- the cell of an id that is found is that of the dot
pub found_held : (dots : List Placed) (held : CellMap) (q : Dot) (id : Id) → AreThere held dots → find dot_cmp q (id_entries dots) ≡ Some id → option_map (λ c. c.dot) (maps.get held id) ≡ Some q
found_held [] held q id a e = absurd (cc)
found_held (p ∷ dots) held q id a e = elim (cases_Bool (eq_by_cmp dot_cmp q p.dot)) [
  | inl t ↦
      ap (λ i. option_map (λ c. c.dot) (maps.get held i)) (sym (same_some p.id id (ap (λ b. cond b (Some p.id) (find dot_cmp q (id_entries dots))) (sym t) ∙ e)))
      ∙ All-head (λ p. option_map (λ c. c.dot) (maps.get held p.id) ≡ Some p.dot) p dots a ∙ ap Some (sym (one_dot q p.dot t))
  | inr f ↦ found_held dots held q id (All-tail (λ p. option_map (λ c. c.dot) (maps.get held p.id) ≡ Some p.dot) p dots a) (ap (λ b. cond b (Some p.id) (find dot_cmp q (id_entries dots))) (sym f) ∙ e)
]

-- what is found of a dot is held by the cell of its id
find_both : (dots : List Placed) (held : CellMap) (q : Dot) → AreThere held dots
    → find dot_cmp q (entries_of (cells_at held (ids_of dots))) ≡ option_and_then (λ id. option_map holding (maps.get held id)) (find dot_cmp q (id_entries dots))
find_both [] held q a = refl
find_both (p ∷ dots) held q a =
    head (maps.get held p.id) refl (All-head (λ p. option_map (λ c. c.dot) (maps.get held p.id) ≡ Some p.dot) p dots a)
    (find_both dots held q (All-tail (λ p. option_map (λ c. c.dot) (maps.get held p.id) ≡ Some p.dot) p dots a))
  where
    step : (b : Bool) (c : LiveDot) → maps.get held p.id ≡ Some c
        → find dot_cmp q (entries_of (cells_at held (ids_of dots))) ≡ option_and_then (λ id. option_map holding (maps.get held id)) (find dot_cmp q (id_entries dots))
        → cond b (Some (holding c)) (find dot_cmp q (entries_of (cells_at held (ids_of dots)))) ≡ option_and_then (λ id. option_map holding (maps.get held id)) (cond b (Some p.id) (find dot_cmp q (id_entries dots)))
    step true c is r = ap (option_map holding) (sym is)
    step false c is r = r

    head : (o : Option LiveDot) → maps.get held p.id ≡ o → option_map (λ c. c.dot) o ≡ Some p.dot
        → find dot_cmp q (entries_of (cells_at held (ids_of dots))) ≡ option_and_then (λ id. option_map holding (maps.get held id)) (find dot_cmp q (id_entries dots))
        → find dot_cmp q (entries_of (cons_option o (cells_at held (ids_of dots)))) ≡ option_and_then (λ id. option_map holding (maps.get held id)) (cond (eq_by_cmp dot_cmp q p.dot) (Some p.id) (find dot_cmp q (id_entries dots)))
    head None is h r = absurd (cc)
    head (Some c) is h r = ap (λ d. cond (eq_by_cmp dot_cmp q d) (Some (holding c)) (find dot_cmp q (entries_of (cells_at held (ids_of dots))))) (same_some c.dot p.dot h) ∙ step (eq_by_cmp dot_cmp q p.dot) c is r

module _ (dots : List Placed) (held : CellMap) (spent : IdSet) (a : ArePlaced dots held spent) where
  abbrev cells : List LiveDot
  cells = cells_at held (ids_of dots)

  pub get_ids_by : (q : Dot) → maps.get (ids_by dots) q ≡ find dot_cmp q (id_entries dots)
  get_ids_by q = get_map_of dot_cmp dots_total dots_exact (λ p. p.dot) (λ p. p.id) dots q a.sorted

  pub rise : maps.is_sorted dot_cmp (entries_of cells) ≡ true
  rise = cells_rise dots held a.there a.sorted

  pub live_found : (q : Dot) → maps.get (live_of cells) q ≡ option_and_then (λ id. option_map holding (maps.get held id)) (maps.get (ids_by dots) q)
  live_found q = get_live_of cells q rise ∙ find_both dots held q a.there ∙ ap (option_and_then (λ id. option_map holding (maps.get held id))) (sym (get_ids_by q))

  -- the cell of a dot's id is the dot's
  pub its_cell : (q : Dot) (id : Id) → maps.get (ids_by dots) q ≡ Some id → option_map (λ c. c.dot) (maps.get held id) ≡ Some q
  its_cell q id e = found_held dots held q id a.there (sym (get_ids_by q) ∙ e)

  -- the id of a cell is its dot's
  pub its_id : (id : Id) (cell : LiveDot) → maps.get held id ≡ Some cell → maps.get (ids_by dots) cell.dot ≡ Some id
  its_id id cell e = get_ids_by cell.dot ∙ a.alone id cell e

  pub its_live : (id : Id) (cell : LiveDot) → maps.get held id ≡ Some cell → maps.get (live_of cells) cell.dot ≡ Some (holding cell)
  its_live id cell e = live_found cell.dot ∙ ap (option_and_then (λ i. option_map holding (maps.get held i))) (its_id id cell e) ∙ ap (option_map holding) e

  -- of a dot that is placed
  pub dot_here : (d : Dot) (i : ℕ) (p : Placed) → IsCellAt cells d i → d ≡ (get_or dots i p).dot
  dot_here d i p at = at.here (no_cell d) ∙ dot_there dots held a.there i p (no_cell d) (let w = at.within in omega (arith, as_long dots held a.there))

  pub within_dots : (d : Dot) (i : ℕ) → IsCellAt cells d i → i < length dots
  within_dots d i at = let w = at.within in omega (arith, as_long dots held a.there)

  pub id_here : (d : Dot) (i : ℕ) (p : Placed) → IsCellAt cells d i → maps.get (ids_by dots) d ≡ Some (get_or dots i p).id
  id_here d i p at = get_ids_by d ∙ rising.found_at dot_cmp dots_total dots_exact (λ p. p.dot) (λ p. p.id) d dots i p a.sorted (within_dots d i at) (dot_here d i p at)

  pub live_here : (d : Dot) (i : ℕ) (c : LiveDot) → IsCellAt cells d i → maps.get (live_of cells) d ≡ Some (holding (get_or cells i c))
  live_here d i c at = get_live_of cells d rise ∙ found_at d cells i c rise at.within (at.here c)

  -- a dot that isn't placed has no id
  pub no_id : (d : Dot) (i : ℕ) → IsGap cells d i → maps.get (ids_by dots) d ≡ None
  no_id d i gap =
      let w : i ≤ length dots = let v = gap.within in omega (arith, as_long dots held a.there) in
      get_ids_by d ∙ rising.missed_at dot_cmp dots_total dots_exact (λ p. p.dot) (λ p. p.id) d dots i a.sorted (ahead_dots dots held a.there d i (no_cell d) w gap.before) w (before_dots dots held a.there d i (no_cell d) gap)

  -- what holds of all live dots
  pub named : (q : Dot) → maps.contains_key (ids_by dots) q ≡ maps.contains_key (live_of cells) q
  named q = split (maps.get (ids_by dots) q) (its_cell q) ∙ ap is_some (sym (live_found q))
    where
      some : (o : Option LiveDot) → option_map (λ c. c.dot) o ≡ Some q → true ≡ is_some (option_map holding o)
      some None e = absurd (cc)
      some (Some c) e = refl

      split : (o : Option Id) → ((id : Id) → o ≡ Some id → option_map (λ c. c.dot) (maps.get held id) ≡ Some q) → is_some o ≡ is_some (option_and_then (λ id. option_map holding (maps.get held id)) o)
      split None f = refl
      split (Some id) f = some (maps.get held id) (f id refl)

  pub apart : AreIdsApart (ids_by dots) spent
  apart = record {
    one = λ dot other id e f. same_some dot other (sym (its_cell dot id e) ∙ its_cell other id f);
    unspent = λ dot id e. found_all (λ i. sets.contains spent i ≡ false) dots dot id a.unspent (sym (get_ids_by dot) ∙ e);
  }

  pub len_live : maps.len (live_of cells) ≡ length dots
  len_live = len_live_of cells rise ∙ as_long dots held a.there
