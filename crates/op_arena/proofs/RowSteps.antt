-- Steps that the walks of the raw functions share. Assumes `Logic`.
--     Data, data_val, told, made, opened      the one field of `Places`
--     Besides, place_out, place_back      one place is taken out of its row, and put back
--     place_seen      a `&` to a row gives one to a place
--     of_room, to_room      memory for an array is that of as many empty places
use Rattle.std.proofs.Common.{◌≡◌, ℕ, zero, suc, ◌+◌, ◌*◌, ◌<◌, List, [], ◌∷◌, ◌++◌, length, get_or, replicate, refl, ap, ◌∙◌, subst, arith, Some, None}
use native.Mathlib.Nat.{zero-mul, suc-mul}
use lib.ListN.{set}
use seplogic.Ra.Ura.{Ura}
use lib.Dec.{T, lit<}
use mir.Syntax.{ty_array, ty_ptr, ty_struct, tcons, tnil}
use mir.Val.{Val, vstruct, vcons, vnil, of_list, has_ty, WT}
use base.Logic.{ent, sep, emp, via, fst∗, snd∗}
use base.Fml.{Lft, Fml, ftrue, fsep, froom}
use types.Logic.{Logic, sem}
use types.Kit.{‵, ◌⊛◌, ◌$◌, ◌∵◌, !, qed, by, move, keep, use1, split, join, rewrite, fsplit, fjoin, frame, done}
use denote.RattleType.{RattleType}
use denote.Laws.{Is}
use denote.Opens.{Opens}
use denote.Copied.{Struct-Copied}
use denote.RawPtr.{Ptr, block_ptr, null_ptr, ptr_val}
use denote.Shadow.{makes_shadow}
use denote.Struct.Laws.{RawPtr-copy}
use denote.Struct.Struct.{Struct}
use denote.Struct.Owning.{shape}
use Rattle.std.specs.Prelude.{Option}
use Rattle.std.specs.Mem.{type_size}
use Rattle.core.proofs.mem.Param.{El, R, el_x, elτ}
use Rattle.op_arena.specs.CellRows.{owns_place, owns_row, lends_place, lends_row}
use Rattle.op_arena.specs.contracts.places.Places as places

abbrev pub data_val : Ptr → Val
data_val p = vstruct (vcons (ptr_val p) vnil)

-- a pointer has its struct's layout
pub data_good : (p : Ptr) → T (has_ty (ty_struct [] (tcons ty_ptr tnil)) (data_val p)) × WT (data_val p)
data_good (block_ptr b o) = (tt, (tt, tt))
data_good null_ptr = (tt, (record { fits = lit< tt }, tt))

module _ (Y : RattleType) where
  abbrev pub Data : RattleType
  Data = Struct (shape (places.the_type Y))

  pub told : (p : Ptr) (vs : List Val) → Is Data (p, tt) vs → vs ≡ data_val p ∷ []
  told p vs is = is.1.0 ∙ ap (λ (ws : List Val). vstruct (of_list (ws ++ [])) ∷ []) is.1.1.0

  pub made : {M : Type 1} {𝓤 : Ura M} (𝓛 : Logic 𝓤) (p : Ptr) → ent 𝓤 (emp 𝓤) (sem 𝓛 (Data.own_val (p, tt) (data_val p ∷ [])))
  made 𝓛 p = makes_shadow 𝓛 (Data.own_val (p, tt) (data_val p ∷ [])) (λ vss. (tt, (tt, tt))) ((ptr_val p ∷ [], tt), (refl, (refl, tt)))

  pub opened : {M : Type 1} {𝓤 : Ura M} (𝓛 : Logic 𝓤) → Opens 𝓛 Data
  opened {M} {𝓤 = 𝓤} 𝓛 = (Struct-Copied 𝓛 (shape (places.the_type Y)) (refl, tt) (RawPtr-copy.copied M 𝓤 𝓛, tt)).opens

pub within : {X : Type 0} (row : List (Option X)) (i : ℕ) (x : X) → get_or row i None ≡ Some x → i < length row
within [] i x e = cc
within (c ∷ row) zero x e = omega arith
within (c ∷ row) (suc i) x e = omega (arith, within row i x e)

module _ (E : El) (b : ℕ) where
  abbrev pub size : ℕ
  size = type_size (R E)

  abbrev pub Row : Type 0
  Row = List (Option (el_x E))

  -- the places but for the i-th, from the byte o on
  abbrev pub Besides : ℕ → Row → ℕ → Fml
  Besides o [] i = ftrue
  Besides o (c ∷ row) zero = owns_row (R E) b (o + size) row
  Besides o (c ∷ row) (suc i) = fsep (owns_place (R E) b o c) (Besides (o + size) row i)

module _ (E : El) {M : Type 1} {𝓤 : Ura M} (𝓛 : Logic 𝓤) (b : ℕ) where
  open 𝓛 use {H}

  abbrev s : ℕ
  s = type_size (R E)

  abbrev Place : Type 0
  Place = Option (el_x E)

  pub place_out : (o : ℕ) (row : Row E b) (i at : ℕ) → i < length row → at ≡ i * s + o
      → ent 𝓤 (sem 𝓛 (owns_row (R E) b o row)) (sep 𝓤 (sem 𝓛 (owns_place (R E) b at (get_or row i None))) (sem 𝓛 (Besides E b o row i)))
  place_out o [] i at lt e = absurd (omega arith)
  place_out o (c ∷ row) zero at lt e =
      qed 𝓛 (‵ (owns_row (R E) b o (c ∷ row)) ∷ []) ∵ fsplit ! $ rewrite ! 0 (λ (k : ℕ). ‵ (owns_place (R E) b k c)) {x = at} (omega (arith, zero-mul s)) refl $ done !
  place_out o (c ∷ row) (suc i) at lt e =
      qed 𝓛 (‵ (owns_row (R E) b o (c ∷ row)) ∷ []) ∵ fsplit ! $ move ! (1 ∷ []) $
      use1 𝓛 (‵ (owns_place (R E) b at (get_or row i None)) ⊛ ‵ (Besides E b (o + s) row i)) (place_out (o + s) row i at (omega arith) (omega (arith, suc-mul i s))) $
      split ! $ move ! (2 ∷ 1 ∷ []) $ fjoin ! $ move ! (1 ∷ 0 ∷ []) $ done !

  pub place_back : (o : ℕ) (row : Row E b) (i at : ℕ) → i < length row → at ≡ i * s + o → (c : Place)
      → ent 𝓤 (sep 𝓤 (sem 𝓛 (owns_place (R E) b at c)) (sem 𝓛 (Besides E b o row i))) (sem 𝓛 (owns_row (R E) b o (set row i c)))
  place_back o [] i at lt e c = absurd (omega arith)
  place_back o (d ∷ row) zero at lt e c =
      qed 𝓛 (‵ (owns_place (R E) b at c) ∷ ‵ (owns_row (R E) b (o + s) row) ∷ []) ∵
      rewrite ! 0 (λ (k : ℕ). ‵ (owns_place (R E) b k c)) {x = o} (omega (arith, zero-mul s)) refl $ fjoin ! $ done !
  place_back o (d ∷ row) (suc i) at lt e c =
      qed 𝓛 (‵ (owns_place (R E) b at c) ∷ ‵ (fsep (owns_place (R E) b o d) (Besides E b (o + s) row i)) ∷ []) ∵ move ! (1 ∷ []) $ fsplit ! $ move ! (2 ∷ 1 ∷ []) $ join ! $
      use1 𝓛 (‵ (owns_row (R E) b (o + s) (set row i c))) (place_back (o + s) row i at (omega arith) (omega (arith, suc-mul i s)) c) $ move ! (1 ∷ 0 ∷ []) $ fjoin ! $ done !

  pub place_seen : (κ : Lft) (o : ℕ) (row : Row E b) (i at : ℕ) → i < length row → at ≡ i * s + o
      → ent 𝓤 (sem 𝓛 (lends_row (R E) b o row κ)) (sem 𝓛 (lends_place (R E) b at (get_or row i None) κ))
  place_seen κ o [] i at lt e = absurd (omega arith)
  place_seen κ o (c ∷ row) zero at lt e =
      let same : o ≡ at = omega (arith, zero-mul s) in
      subst (λ k. ent 𝓤 (sem 𝓛 (lends_row (R E) b o (c ∷ row) κ)) (sem 𝓛 (lends_place (R E) b k c κ))) same
      (fst∗ 𝓤 (sem 𝓛 (lends_place (R E) b o c κ)) (sem 𝓛 (lends_row (R E) b (o + s) row κ)))
  place_seen κ o (c ∷ row) (suc i) at lt e =
      via 𝓤 (sem 𝓛 (lends_row (R E) b (o + s) row κ)) (snd∗ 𝓤 (sem 𝓛 (lends_place (R E) b o c κ)) (sem 𝓛 (lends_row (R E) b (o + s) row κ)))
      (place_seen κ (o + s) row i at (omega arith) (omega (arith, suc-mul i s)))

  pub of_room : (n o : ℕ) → ent 𝓤 (H.room (ty_array (elτ E) n) b o) (sem 𝓛 (owns_row (R E) b o (replicate n None)))
  of_room zero o = qed 𝓛 (‵ (froom (ty_array (elτ E) 0) b o) ∷ []) ∵ keep ! [] $ done !
  of_room (suc n) o =
      qed 𝓛 (‵ (froom (ty_array (elτ E) (suc n)) b o) ∷ []) ∵
      use1 𝓛 (‵ (froom (elτ E) b o) ⊛ ‵ (froom (ty_array (elτ E) n) b (o + s))) (𝓛.laws.room_uncons (elτ E) n b o) $ split ! $
      use1 𝓛 (‵ (owns_place (R E) b o None)) (𝓛.laws.room-raw (elτ E) b o) $ frame ! $ by ! (of_room n (o + s))

  pub to_room : (n o : ℕ) → ent 𝓤 (sem 𝓛 (owns_row (R E) b o (replicate n None))) (H.room (ty_array (elτ E) n) b o)
  to_room zero o = 𝓛.laws.room_nil (elτ E) b o
  to_room (suc n) o =
      qed 𝓛 (‵ (owns_place (R E) b o None) ∷ ‵ (owns_row (R E) b (o + s) (replicate n None)) ∷ []) ∵ move ! (1 ∷ []) $
      use1 𝓛 (‵ (froom (ty_array (elτ E) n) b (o + s))) (to_room n (o + s)) $ move ! (1 ∷ []) $
      use1 𝓛 (‵ (froom (elτ E) b o)) (𝓛.laws.raw-room (elτ E) b o) $ by ! (𝓛.laws.room_cons (elτ E) n b o)
