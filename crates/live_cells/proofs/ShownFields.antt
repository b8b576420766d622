-- The fields that dots show, with one more of them, and the row of a member.
use Rattle.std.proofs.Common.{◌≡◌, ℕ, ◌+◌, ◌<◌, true, false, List, [], ◌∷◌, ◌++◌, length, get_or, take, Option, Some, None, is_some, refl, sym, ap, ◌∙◌}
use Rattle.std.specs.List.{All, filter_map, cons_option}
use Rattle.std.specs.Option.{option_map, option_map_or}
use Rattle.std.specs.FinMap as maps
use Rattle.std.specs.Ordering.{eq_by_cmp}
use Rattle.std.proofs.lemmas.List.{take_more}
use Rattle.std.proofs.lemmas.List.Elements.{All-head, All-weaker, filter_passes}
use Rattle.dots.specs.declared.member.Member.{Member}
use Rattle.dots.specs.Values.{Dot}
use Rattle.dots.specs.Orders.{dot_cmp, member_cmp}
use Rattle.operations.specs.Registers.{Entry, join_of}
use Rattle.operations.specs.Conditions.{DotFields, no_fields}
use Rattle.operations.specs.Knowledge.{latest_of}
use Rattle.operations.specs.Rows.{is_of, dots_of, member_fields, row_if, row_of, row_of_fields}
use Rattle.general_lemmas.specs.SetItems.{in_order}
use Rattle.operations.proofs.RegisterLaws.{joined_assoc}
use Rattle.live_cells.specs.Index.{Listed}
use Rattle.live_cells.specs.declared.live_dot.LiveDot.{LiveDot}
use Rattle.live_cells.specs.LiveLists.{live_of}
use Rattle.live_cells.specs.Index.{IsIndex}
use Rattle.live_cells.specs.ShownRows.{cells_view, dots_listed, fields_after, fields_held, fields_over, fields_shown, group}
use Rattle.live_cells.proofs.CellLists.{Rise}
use Rattle.live_cells.proofs.MemberDots.{dots_are}
use Rattle.live_cells.specs.Holdings.{Holding}

-- the latest of a field, with one more dot
one_latest : {T : Type 0} (x : Option (Entry T)) → latest_of (cons_option x []) ≡ x
one_latest None = refl
one_latest (Some e) = refl

latest_push : {T : Type 0} (f : DotFields → Option (Entry T)) (xs : List DotFields) (x : DotFields) → latest_of (filter_map f (xs ++ x ∷ [])) ≡ join_of (latest_of (filter_map f xs)) (f x)
latest_push f [] x = one_latest (f x)
latest_push {T} f (y ∷ xs) x = front (f y) (latest_push f xs x)
  where
    front : (e : Option (Entry T)) → latest_of (filter_map f (xs ++ x ∷ [])) ≡ join_of (latest_of (filter_map f xs)) (f x)
        → latest_of (cons_option e (filter_map f (xs ++ x ∷ []))) ≡ join_of (latest_of (cons_option e (filter_map f xs))) (f x)
    front None h = h
    front (Some e) h = ap (join_of (Some e)) h ∙ sym (joined_assoc (Some e) (latest_of (filter_map f xs)) (f x))

pub shown_push : (xs : List DotFields) (x : DotFields) → fields_shown (xs ++ x ∷ []) ≡ Some (fields_after (fields_shown xs) x)
shown_push [] x = λ i. Some (record {
  penalty = one_latest x.penalty i;
  pause = one_latest x.pause i;
  label = one_latest x.label i;
  ring = one_latest x.ring i;
})
shown_push (y ∷ xs) x = λ i. Some (record {
  penalty = latest_push (λ f. f.penalty) (y ∷ xs) x i;
  pause = latest_push (λ f. f.pause) (y ∷ xs) x i;
  label = latest_push (λ f. f.label) (y ∷ xs) x i;
  ring = latest_push (λ f. f.ring) (y ∷ xs) x i;
})

-- the fields of the dots of entries, with one more entry
held_push : (live : maps.FinMap dot_cmp Holding) (ls : List Listed) (x : Listed) → fields_held live (dots_listed (ls ++ x ∷ [])) ≡ fields_held live (dots_listed ls) ++ cons_option (option_map (λ h. h.1) (maps.get live x.dot)) []
held_push live [] x = refl
held_push live (l ∷ ls) x = ap (cons_option (option_map (λ h. h.1) (maps.get live l.dot))) (held_push live ls x) ∙ front (option_map (λ h. h.1) (maps.get live l.dot))
  where
    front : (o : Option DotFields) → cons_option o (fields_held live (dots_listed ls) ++ cons_option (option_map (λ h. h.1) (maps.get live x.dot)) [])
        ≡ (cons_option o (fields_held live (dots_listed ls)) ++ cons_option (option_map (λ h. h.1) (maps.get live x.dot)) [])
    front None = refl
    front (Some f) = refl

held_more : (live : maps.FinMap dot_cmp Holding) (ls : List Listed) (i : ℕ) (x : Listed) (o : Option Holding) → i < length ls → x ≡ get_or ls i x → o ≡ maps.get live x.dot
    → fields_held live (dots_listed (take (i + 1) ls)) ≡ fields_held live (dots_listed (take i ls)) ++ cons_option (option_map (λ h. h.1) o) []
held_more live ls i x o w e is =
    ap (λ ys. fields_held live (dots_listed ys)) (take_more ls i x w ∙ ap (λ y. take i ls ++ y ∷ []) (sym e)) ∙ held_push live (take i ls) x
    ∙ ap (λ y. fields_held live (dots_listed (take i ls)) ++ cons_option (option_map (λ h. h.1) y) []) (sym is)

-- a field of dots, by what is held of them; of what isn't held it is unset
fields_are : {X : Type 0} (g : DotFields → Option X) → g no_fields ≡ None → (live : maps.FinMap dot_cmp Holding) (ds : List Dot)
    → filter_map (λ dot. g (option_map_or (λ h. h.1) (maps.get live dot) no_fields)) ds ≡ filter_map g (fields_held live ds)
fields_are g none live [] = refl
fields_are g none live (d ∷ ds) = ap (cons_option (g (option_map_or (λ h. h.1) (maps.get live d) no_fields))) (fields_are g none live ds) ∙ one (maps.get live d)
  where
    one : (o : Option Holding) → cons_option (g (option_map_or (λ h. h.1) o no_fields)) (filter_map g (fields_held live ds)) ≡ filter_map g (cons_option (option_map (λ h. h.1) o) (fields_held live ds))
    one None = ap (λ x. cons_option x (filter_map g (fields_held live ds))) none
    one (Some h) = refl

-- the fields of a member are those over what is held of its dots
member_fields_are : (cs : List LiveDot) (m : Member) → member_fields (cells_view cs) m ≡ fields_over (fields_held (live_of cs) (dots_of (cells_view cs) m))
member_fields_are cs m = λ i. record {
  penalty = latest_of (are (λ f. f.penalty) refl i);
  pause = latest_of (are (λ f. f.pause) refl i);
  label = latest_of (are (λ f. f.label) refl i);
  ring = latest_of (are (λ f. f.ring) refl i);
}
  where
    are : {X : Type 0} (g : DotFields → Option X) → g no_fields ≡ None
        → filter_map (λ dot. g (option_map_or (λ h. h.1) (maps.get (live_of cs) dot) no_fields)) (dots_of (cells_view cs) m) ≡ filter_map g (fields_held (live_of cs) (dots_of (cells_view cs) m))
    are g none = fields_are g none (live_of cs) (dots_of (cells_view cs) m)

-- the row of dots that are live
row_held : (live : maps.FinMap dot_cmp Holding) (ds : List Dot) → All (λ d. is_some (maps.get live d) ≡ true) ds
    → row_if ds (row_of_fields (fields_over (fields_held live ds))) ≡ option_map row_of_fields (fields_shown (fields_held live ds))
row_held live [] a = refl
row_held live (d ∷ ds) a = first (maps.get live d) (All-head (λ x. is_some (maps.get live x) ≡ true) d ds a)
  where
    first : (o : Option Holding) → is_some o ≡ true → let fields = cons_option (option_map (λ h. h.1) o) (fields_held live ds) in
        Some (row_of_fields (fields_over fields)) ≡ option_map row_of_fields (fields_shown fields)
    first None t = absurd (cc)
    first (Some h) t = refl

-- the dots of a member are live
own_live : (cs : List LiveDot) (m : Member) → All (λ d. is_some (maps.get (live_of cs) d) ≡ true) (dots_of (cells_view cs) m)
own_live cs m =
    All-weaker (λ d. is_of (cells_view cs) m d ≡ true) (λ d. is_some (maps.get (live_of cs) d) ≡ true) (λ d. some (maps.get (live_of cs) d)) (dots_of (cells_view cs) m) (filter_passes (is_of (cells_view cs) m) (in_order (cells_view cs).visible))
  where
    some : (o : Option Holding) → option_map_or (eq_by_cmp member_cmp m) (option_map (λ h. h.0) o) false ≡ true → is_some o ≡ true
    some None t = absurd (cc)
    some (Some h) t = refl

-- the row of a member is that of the dots that the index lists under it
pub row_shown : (cs : List LiveDot) (index : List Listed) (m : Member) → Rise cs → IsIndex index (live_of cs)
    → row_of (cells_view cs) m ≡ option_map row_of_fields (fields_shown (fields_held (live_of cs) (dots_listed (group m index))))
row_shown cs index m s is =
    let live = live_of cs in
    let ds = dots_of (cells_view cs) m in
    ap (λ fields. row_if ds (row_of_fields fields)) (member_fields_are cs m)
    ∙ row_held live ds (own_live cs m)
    ∙ ap (λ xs. option_map row_of_fields (fields_shown (fields_held live xs))) (sym (dots_are cs index m s is))
