-- `release` joins empty places to one room, and gives it back with the allocator's token. Assumes `Logic`.
use Rattle.std.proofs.Common.{◌≡◌, ℕ, ◌*◌, ◌^◌, ◌<◌, List, [], ◌∷◌, replicate, refl, sym, ap, ◌∙◌, subst, arith, w64, None}
use lib.Dec.{T as So}
use lib.ListN.{length-replicate}
use mir.Syntax.{Ty, Args, a_type, ty_array, ty_unit, dcons, dnil}
use mir.Val.{Val, vptr, vint, vunit, has_ty, WT}
use mir.MapTy.{inst_fn}
use mir.Raw.{raw as bare}
use base.Logic.{SProp, ent, never, id⊢}
use base.Fml.{Lft, Share, Fml, ftrue, fsep, froom, flft}
use prog.Memory.{align, capped}
use prog.Capped.{capped_fits}
use prog.Wp.{WpFn}
use contract.BorrowLft.{◌⊑◌, ⊑_trans}
use contract.Monad.{fact}
use contract.Running.{tables}
use types.Kit.{‵, raw, ◌⊛◌, given, later, at_ret, ◌$◌, ◌∵◌, !, qed, by, move, keep, drop, use1, split, split3, join, learn, group, rewrite, fsplit, fjoin, feq_i, flt_l, await}
use types.Run.{stop, fld, unit_lit, bin, of_opd, no_more, and_then, size_word, align_word, first, blocks, exec, returns, enter}
use types.ByLocal.{alloc_all, pass_all, free_all, look_at, get, get_in, sets, lands_last, is, env}
use types.Part.{whole, sub}
use denote.Exit.{yes, no}
use denote.RattleType.{RattleType, owns}
use denote.RawPtr.{Ptr, ptr_val, in_a_block}
use denote.Param.{param, bounded}
use denote.Builtin.{RefOf, usize}
use denote.Signature.{types_at, plain}
use denote.Steps.{nothing, heard}
use denote.Triple.Call.{calls_at_last}
use denote.Triple.Walked.{Stays, stay_dropped, walk_of, Goes-dropped}
use Rattle.std.proofs.raw_atomic.Walks.{proved_at, leaves}
use Rattle.std.specs.Mem.{type_size}
use Rattle.std.specs.Prelude.{Option}
use Rattle.core.proofs.alloc.Calls.{Al, seen, token, Goes-blank, Gives, at_gives, Gives-goes, Gives-Gives}
use Rattle.core.proofs.alloc.Shapes.{after}
use Rattle.core.proofs.atomic.Steps.{fm}
use Rattle.core.proofs.mem.Param.{El, elτ}
use Rattle.core.proofs.slots.Leases.{uncapped, block_ty, block_size, block_align}
use Rattle.op_arena.specs.CellRows.{owns_places, owns_lease}
use Rattle.op_arena.specs.contracts.places.Places as places
use Rattle.op_arena.specs.contracts.places.Lease as lease
use Rattle.op_arena.specs.contracts.places.Places.release.{ended, clauses}
use Rattle.op_arena.specs.contracts.places.Places.release.Key.{name as #self}
use Rattle.op_arena.proofs.RowSteps as places-steps
use Rattle.op_arena.proofs.LeaseSteps as lease-steps
use Rattle.op_arena.proofs.places.Places.release.Statement.{statement}
use Rattle.op_arena.proofs.places.Places.release.Code as code

pub release_spec : {M : Type 1} → statement M
release_spec 𝓤 𝓛 𝓜 𝓡 wired T A laws alloc_laws g d dd met md =
    let H = 𝓛.H in let 𝓣 = tables 𝓤 H 𝓜 𝓡 𝓡.env in let C = 𝓣.C in let Λ = 𝓣.Λ in let at_mem = 𝓜.mem in let run = 𝓡.returns in
    let R : RattleType = param 0 T in let B : RattleType = param 1 A in let E : El = record { row = T; laws = laws } in let Z : Al = record { row = A; laws = alloc_laws; g = g; d = d; drops = dd } in
    let inst : Args = bounded (a_type ∷ a_type ∷ []) (T, (A, tt)) (dcons d (dcons dd dnil)) in let fn = inst_fn inst code.function in
    let En = ended T A g d dd in let c = clauses T A g d dd 𝓛 at_mem run in
    let self = plain (λ _. places.the_row R) in let right = plain (λ _. lease.the_row R B g) in let alloc = RefOf (0 ∷ []) tt (plain (λ _. B)) (λ _. tt) in let number = plain (λ _. usize) in
    let hs : Stays En.signature.params En.kept = (stay_dropped self no, (stay_dropped right no, (stay_dropped alloc yes, (stay_dropped number yes, tt)))) in
    proved_at 𝓛 En hs c 𝓜 𝓡 (Goes-blank 𝓛 3 self no (λ κs x f. tt), (Goes-blank 𝓛 3 right no (λ κs x f. tt), (Goes-dropped 𝓛 3 alloc yes (λ κs x f. refl), (Goes-dropped 𝓛 3 number yes (λ κs x f. refl), tt))))
    (#self inst) fn (code.unfolded 𝓤 H 𝓜 𝓡 wired (T, (A, tt)) d dd) (λ z are.
    let κs = z.0.0 in let qs = z.0.1 in let a = z.0.3 in let κ : Lft = κs.0 in let q : Share = qs.0 in
    let self = a.0 in let right = a.1.0 in let h : A.Denot = a.1.1.0.now in let rb : ℕ = a.1.1.0.ref_ptr.0 in let ro : ℕ = a.1.1.0.ref_ptr.1 in let n : ℕ = a.1.1.1.0 in
    let others : Fml = fsep (flft κs.1.0 qs.1.0) (fsep (flft κs.1.1.0 qs.1.1.0) ftrue) in
    let Asked : Type 0 = (self.slots ≡ replicate n None) × (right.first ≡ self.first) × (right.count ≡ n) × (right.alloc ≡ h) in
    let told = places-steps.told R self.first z.0.4.0 are.0.0 in let told' = lease-steps.told R B g z.0.4.1.0 are.1.0.0 in
    let At : List Val × (List Val × (List Val × (List Val × Unit {0}))) → (walk_of 𝓛 En hs c).Ghost = λ vss. ((κs, qs, z.0.2, a, vss), z.1) in
    let y : (walk_of 𝓛 En hs c).Ghost = At (places-steps.data_val self.first ∷ [], (lease-steps.data_val ∷ [], (vptr rb ro ∷ [], (vint w64 n ∷ [], tt)))) in let Post : Val → SProp 𝓤 = (walk_of 𝓛 En hs c).post y in
    subst (λ (vss : List Val × (List Val × (List Val × (List Val × Unit {0})))). ent 𝓤 ((walk_of 𝓛 En hs c).pre (At vss)) (WpFn 𝓤 H C Λ fn ((walk_of 𝓛 En hs c).args (At vss)) ((walk_of 𝓛 En hs c).post (At vss))))
    (λ k. (sym told k, (sym told' k, (sym are.1.1.0.0 k, (sym are.1.1.1.0.0 k, tt))))) (
    qed 𝓛 (((‵ (flft κ q) ⊛ ‵ others) ⊛ ‵ (owns (types_at En.signature.params κs) a y.0.4)) ∷ (raw (fact 𝓤 (κs.1.0 ⊑ T.lives)) ⊛ raw (fact 𝓤 (κs.1.1.0 ⊑ A.lives)) ⊛ raw (fact 𝓤 Asked)) ∷ []) ∵
    move ! (1 ∷ []) $ split3 ! $ drop ! $ heard ! (κs.1.1.0 ⊑ A.lives) (λ lives. heard ! Asked (λ asked.
    split ! $ split ! $ move ! (2 ∷ []) $ fsplit ! $ fsplit ! $ drop ! $ move ! (1 ∷ []) $ fsplit ! $ fsplit ! $ drop ! $ move ! (1 ∷ []) $ fsplit ! $ fsplit ! $ drop ! $
    keep ! (3 ∷ 2 ∷ 0 ∷ 4 ∷ 5 ∷ []) $
    -- [the places; the allocator's token for them; the `&` to the allocator; its lifetime's token; the other tokens]
    rewrite ! 0 (λ (r : List (Option T.Denot)). ‵ (owns_places R self.first r)) asked.0 refl $
    in_a_block ! self.first (λ p. owns_places R p (replicate n None)) (id⊢ 𝓤 (never 𝓤)) (λ b o e. fsplit ! $ flt_l ! (λ fit.
    let s = type_size R in let small : n * s < 2 ^ 63 = subst (λ (k : ℕ). k * s < 2 ^ 63) (length-replicate n None) fit in let bytes : n * s < 2 ^ 64 = omega arith in let al : ℕ = capped (align (elτ E)) in
    let τ : Ty = block_ty E n in let w = at_gives Z 𝓛 at_mem run κ q (rb, ro) h b o (n * s) al τ in
    use1 𝓛 (‵ (froom (ty_array (elτ E) n) b o)) (places-steps.to_room E 𝓛 b n o) $ use1 𝓛 (‵ (froom (bare (ty_array (elτ E) n)) b o)) (𝓛.laws.room-raw (ty_array (elτ E) n) b o) $
    rewrite ! 1 (λ (l : A.Denot × Ptr × ℕ). ‵ (owns_lease R (token Z l.0) l.1 l.2)) (λ k. (asked.3 k, (asked.1 ∙ e) k, asked.2 k)) refl $
    move ! (2 ∷ []) $ use1 𝓛 (‵ (seen Z κ (rb, ro) h)) (id⊢ 𝓤 _) $ move ! (1 ∷ 2 ∷ 0 ∷ []) $
    enter ! C Λ fn (places-steps.data_val self.first ∷ lease-steps.data_val ∷ vptr rb ro ∷ vint w64 n ∷ []) Post $
    alloc_all ! (λ l. pass_all ! refl (places-steps.data_good self.first, ((tt, (tt, tt)), ((tt, tt), ((tt, record { fits = are.1.1.1.0.1 }), tt)))) $ let Ev = env fn.locals l in
    sets ! (is ! (of_opd ! (get_in ! (fld ! refl (stop !)) (sub ! 0 refl (whole !)))) (ap ptr_val e)) refl (tt, tt) $
    first ! $ blocks ! $ sets ! (of_opd ! (get ! refl)) refl (tt, tt) $
    sets ! (is ! (bin ! (get ! refl) (size_word !) (record { fits = subst (λ (k : ℕ). k < 2 ^ 64) (sym (uncapped n s bytes)) bytes })) (ap (vint w64) (uncapped n s bytes))) refl (tt, record { fits = bytes }) $
    group ! 4 $ use1 𝓛 (raw ((Gives Z 𝓛 at_mem run).pre w))
    (Gives-goes Z 𝓛 at_mem run κ q (rb, ro) h (⊑_trans κ κs.1.1.0 A.lives z.0.2.0 lives) b o (n * s) al τ (block_size E n bytes) (block_align E n) bytes (capped_fits (align (elτ E)))) $
    calls_at_last ! (fm 𝓛 𝓜 𝓡) (Gives Z 𝓛 at_mem run) (met.deallocate dd) w (and_then ! (get ! refl) (and_then ! (get ! refl) (and_then ! (get ! refl) (and_then ! (align_word !) (no_more !))))) (λ v.
    use1 𝓛 (later (given (v ≡ vunit) (‵ (flft κ q)))) (Gives-Gives Z 𝓛 at_mem run κ q (rb, ro) h b o (n * s) al τ v) $ await ! tt $ learn ! (λ unit.
    lands_last ! refl (subst (λ (u : Val). So (has_ty ty_unit u) × WT u) (sym unit) (tt, tt)) $ exec ! C Λ Ev (after 2 fn.body) (at_ret Ev Post) $
    sets ! (of_opd ! (unit_lit !)) refl (tt, tt) $ returns ! (look_at ! 0 refl) $ free_all ! refl $
    move ! (0 ∷ 1 ∷ []) $ join ! $ feq_i ! (List Val) (vunit ∷ []) (vunit ∷ []) refl $ nothing ! $ nothing ! $ nothing ! $ fjoin ! $ nothing ! $ fjoin ! $ nothing ! $ fjoin ! $ nothing ! $ fjoin ! $
    keep ! (3 ∷ 0 ∷ 2 ∷ 1 ∷ []) $ by ! (leaves 𝓛 En hs c y vunit tt (tt, (tt, (tt, (tt, tt)))) (tt, (tt, (tt, (tt, tt))))))))))))))
