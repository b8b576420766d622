-- Cells while they are moved into another arena.
use Rattle.std.proofs.Common.{◌≡◌, ℕ, ◌+◌, ◌<◌, true, false, cond, inl, inr, Contains, List, [], ◌∷◌, ◌++◌, Some, None, is_some, refl, sym, ap, subst, ◌∙◌, ◌⊎◌, arith}
use Rattle.std.specs.FinMap as maps
use Rattle.std.specs.FinSet as sets
use Rattle.std.specs.List.{cons_option}
use Rattle.std.specs.Option.{option_map}
use Rattle.std.specs.Ordering.{eq_by_cmp}
use Rattle.std.proofs.lemmas.Bool.{cases_Bool}
use Rattle.std.proofs.lemmas.List.{length-append, map-append}
use Rattle.std.proofs.lemmas.List.Elements.{All-nil, All-push, All-weaker, Contains-append_left, Contains-append_right, filter_map-append}
use Rattle.general_lemmas.proofs.Membership.{first_in}
use Rattle.op_arena.proofs.IdOrder.{ids_exact, ids_total}
use Rattle.op_arena.specs.Ids.{Id, id_cmp, id_of}
use Rattle.live_cells.specs.declared.live_dot.LiveDot.{LiveDot}
use Rattle.live_cells.specs.declared.placed.Placed.{Placed}
use Rattle.live_cells.specs.CellIds.{IdSet}
use Rattle.live_cells.specs.Moves.{AreMoved, IsDotThere, IsUnusedId}
use Rattle.live_cells.specs.PlacedStates.{CellMap}
use Rattle.live_cells.proofs.IdSteps.{look}
use Rattle.live_cells.proofs.MapSteps.{apart_by, got, got_other}
use Rattle.live_cells.proofs.PlacedChanges.{cells_kept, other_id, still_held}
use Rattle.live_cells.proofs.CellsOfDots.{same_some, some_there}
use Rattle.live_cells.proofs.Rising as rising

-- nothing is moved
pub moved_none : (held : CellMap) (spent : IdSet) (there : CellMap) → AreMoved held spent there [] held [] []
moved_none held spent there = record {
  listed = refl;
  named = All-nil (λ p. option_map (λ c. c.dot) (maps.get held p.id) ≡ Some p.dot);
  cells = refl;
  held_now = All-nil (λ id. is_some (maps.get held id) ≡ true);
  new_ids = All-nil (IsUnusedId held spent);
  from = All-nil (λ (p : Placed). IsDotThere there p.dot);
  kept = λ id cell e. e;
  alone = λ id cell e. inl e;
  count = omega arith;
}

-- one cell more is moved
module _ (held : CellMap) (spent : IdSet) (there : CellMap) (ids : List Id) (after : CellMap) (dots : List Placed) (now : List Id) (m : AreMoved held spent there ids after dots now)
    (was id : Id) (cell : LiveDot) (is : maps.get there was ≡ Some cell) (free : maps.get after id ≡ None) (unspent : sets.contains spent id ≡ false)
    (lesser : (generation : ℕ) → generation < id.generation → sets.contains spent (id_of id.index generation) ≡ true) where
  abbrev place : Placed
  place = record { dot = cell.dot; id = id }

  abbrev next : CellMap
  next = maps.insert after id cell

  abbrev HasDot : CellMap → Placed → Type 0
  HasDot map p = option_map (λ c. c.dot) (maps.get map p.id) ≡ Some p.dot

  never_held : maps.get held id ≡ None
  never_held = elim (look (maps.get held id)) [
    | inl n ↦ n
    | inr s ↦ absurd (let e = sym free ∙ m.kept id s.0 s.1 in cc e)
  ]

  still_kept : (q : Id) (c : LiveDot) → maps.get held q ≡ Some c → maps.get next q ≡ Some c
  still_kept q c e = got_other id_cmp ids_total ids_exact after id cell q (other_id after id q free (ap is_some (m.kept q c e))) ∙ m.kept q c e

  still_alone : (q : Id) (c : LiveDot) → maps.get next q ≡ Some c → (maps.get held q ≡ Some c) ⊎ Contains (dots ++ place ∷ []) (record { dot = c.dot; id = q })
  still_alone q c e = elim (cases_Bool (eq_by_cmp id_cmp q id)) [
    | inl t ↦
        let same : q ≡ id = rising.one_key id_cmp ids_total ids_exact q id t in
        let one : cell ≡ c = same_some cell c (sym (got id_cmp ids_total ids_exact after id cell) ∙ ap (maps.get next) (sym same) ∙ e) in
        inr (subst (Contains (dots ++ place ∷ [])) (λ k. record { dot = ap (λ x. x.dot) one k; id = sym same k }) (Contains-append_right dots (place ∷ []) place (first_in place [])))
    | inr f ↦ elim (m.alone q c (sym (got_other id_cmp ids_total ids_exact after id cell q (apart_by id_cmp ids_total ids_exact q id f)) ∙ e)) [
      | inl was ↦ inl was
      | inr came ↦ inr (Contains-append_left dots (place ∷ []) (record { dot = c.dot; id = q }) came)
    ]
  ]

  pub moved_more : AreMoved held spent there (ids ++ was ∷ []) next (dots ++ place ∷ []) (now ++ id ∷ [])
  moved_more = record {
    listed = map-append (λ p. p.id) dots (place ∷ []) ∙ ap (λ xs. xs ++ id ∷ []) m.listed;
    named = All-push (HasDot next) dots place
        (All-weaker (HasDot after) (HasDot next) (λ p h. ap (option_map (λ c. c.dot)) (got_other id_cmp ids_total ids_exact after id cell p.id (other_id after id p.id free (some_there (maps.get after p.id) p.dot h))) ∙ h) dots m.named)
        (ap (option_map (λ c. c.dot)) (got id_cmp ids_total ids_exact after id cell));
    cells = filter_map-append (λ q. maps.get next q) now (id ∷ [])
        ∙ (λ k. (cells_kept after id cell now free m.held_now ∙ m.cells) k ++ cons_option ((got id_cmp ids_total ids_exact after id cell ∙ sym is) k) [])
        ∙ sym (filter_map-append (λ q. maps.get there q) ids (was ∷ []));
    held_now = All-push (λ q. is_some (maps.get next q) ≡ true) now id (still_held after id cell now free m.held_now) (ap is_some (got id_cmp ids_total ids_exact after id cell));
    new_ids = All-push (IsUnusedId held spent) now id m.new_ids (record { free = never_held; unspent = unspent; lesser = lesser });
    from = All-push (λ (p : Placed). IsDotThere there p.dot) dots place m.from (record { id = was; cell = cell; held = is; is = refl });
    kept = still_kept;
    alone = still_alone;
    count = maps.len-insert ids_total after id cell ∙ ap (λ o. cond (is_some o) (maps.len after) (maps.len after + 1)) free ∙ (let n = m.count in let e = length-append now (id ∷ []) in omega arith);
  }
