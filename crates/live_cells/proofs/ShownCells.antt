-- The fields that the cells of ids show.
use Rattle.std.proofs.Common.{◌≡◌, ℕ, ◌+◌, ◌<◌, List, [], ◌∷◌, ◌++◌, length, get_or, take, map as each, Option, Some, None, refl, sym, ap, ◌∙◌}
use Rattle.std.specs.FinMap as maps
use Rattle.std.specs.List.{cons_option}
use Rattle.std.specs.Option.{option_map}
use Rattle.std.proofs.lemmas.List.{append-nil, map-append, take_more}
use Rattle.std.proofs.lemmas.List.Elements.{filter_map-append}
use Rattle.operations.specs.Conditions.{DotFields}
use Rattle.operations.specs.Rows.{row_of, row_of_fields}
use Rattle.dots.specs.declared.member.Member.{Member}
use Rattle.op_arena.specs.Ids.{Id}
use Rattle.live_cells.specs.declared.live_dot.LiveDot.{LiveDot}
use Rattle.live_cells.specs.LiveLists.{live_of}
use Rattle.live_cells.specs.PlacedStates.{AreIndexed, CellMap, IsPlaced, PlacedState, cells_at, cells_of, listed_at}
use Rattle.live_cells.specs.ShownRows.{cells_view, dots_listed, fields_after, fields_held, fields_shown, group}
use Rattle.live_cells.proofs.LiveMaps.{its_live, rise}
use Rattle.live_cells.proofs.ShownFields.{row_shown, shown_push}

-- the fields of the cells of ids
abbrev pub fields_at : CellMap → List Id → List DotFields
fields_at held ids = each (λ c. c.fields) (cells_at held ids)

more : (held : CellMap) (ids : List Id) (i : ℕ) (id : Id) → i < length ids → id ≡ get_or ids i id → fields_at held (take (i + 1) ids) ≡ fields_at held (take i ids) ++ each (λ c. c.fields) (cons_option (maps.get held id) [])
more held ids i id l is =
    ap (fields_at held) (take_more ids i id l) ∙ ap (each (λ c. c.fields)) (filter_map-append (λ q. maps.get held q) (take i ids) (get_or ids i id ∷ []))
    ∙ map-append (λ c. c.fields) (cells_at held (take i ids)) (cons_option (maps.get held (get_or ids i id)) [])
    ∙ ap (λ q. fields_at held (take i ids) ++ each (λ c. c.fields) (cons_option (maps.get held q) [])) (sym is)

-- what is shown after one more id that has a cell
pub shown_cell : (held : CellMap) (ids : List Id) (i : ℕ) (id : Id) (c : LiveDot) (o : Option DotFields) → i < length ids → id ≡ get_or ids i id → Some c ≡ maps.get held id
    → o ≡ fields_shown (fields_at held (take i ids)) → Some (fields_after o c.fields) ≡ fields_shown (fields_at held (take (i + 1) ids))
shown_cell held ids i id c o l is there so =
    ap (λ p. Some (fields_after p c.fields)) so ∙ sym (shown_push (fields_at held (take i ids)) c.fields)
    ∙ ap fields_shown (ap (λ p. fields_at held (take i ids) ++ each (λ x. x.fields) (cons_option p [])) there ∙ sym (more held ids i id l is))

-- what is shown after one more id that has no cell
pub shown_none : (held : CellMap) (ids : List Id) (i : ℕ) (id : Id) (o : Option DotFields) → i < length ids → id ≡ get_or ids i id → None ≡ maps.get held id
    → o ≡ fields_shown (fields_at held (take i ids)) → o ≡ fields_shown (fields_at held (take (i + 1) ids))
shown_none held ids i id o l is none so =
    so ∙ ap fields_shown (sym (append-nil (fields_at held (take i ids))) ∙ ap (λ p. fields_at held (take i ids) ++ each (λ x. x.fields) (cons_option p [])) none ∙ sym (more held ids i id l is))

-- the fields of the dots that are listed are those of the cells
pub held_at : (s : PlacedState) (ids : List Id) → IsPlaced s → fields_held (live_of (cells_of s)) (dots_listed (listed_at s.held ids)) ≡ fields_at s.held ids
held_at s [] a = refl
held_at s (id ∷ ids) a = one (maps.get s.held id) refl (held_at s ids a)
  where
    one : (o : Option LiveDot) → maps.get s.held id ≡ o → fields_held (live_of (cells_of s)) (dots_listed (listed_at s.held ids)) ≡ fields_at s.held ids
        → fields_held (live_of (cells_of s)) (dots_listed (each (λ c. record { member = c.member; dot = c.dot }) (cons_option o (cells_at s.held ids)))) ≡ each (λ c. c.fields) (cons_option o (cells_at s.held ids))
    one None e r = r
    one (Some c) e r = λ k. cons_option (option_map (λ h. h.1) (its_live s.dots s.held s.spent a id c e k)) (r k)

-- the cells of a member's ids show its row
pub row_of_group : (s : PlacedState) (members ids : List Id) (m : Member) → AreIndexed s members → listed_at s.held ids ≡ group m (listed_at s.held members)
    → option_map row_of_fields (fields_shown (fields_at s.held ids)) ≡ row_of (cells_view (cells_of s)) m
row_of_group s members ids m a own =
    ap (λ fields. option_map row_of_fields (fields_shown fields)) (sym (held_at s ids a.placed) ∙ ap (λ ls. fields_held (live_of (cells_of s)) (dots_listed ls)) own)
    ∙ sym (row_shown (cells_of s) (listed_at s.held members) m (rise s.dots s.held s.spent a.placed) a.index)
