-- Changes that a delta takes in: what is joined with a copy, or into a delta that says the same, is joined.
use Rattle.std.proofs.Common.{◌≡◌, ◌≤◌, ◌<◌, ◌⊎◌, inl, inr, sym, ap, subst, ◌∙◌}
use Rattle.std.specs.Prelude.{Result, Err, IsErrOf}
use Rattle.std.specs.FinMap as map
use Rattle.std.specs.FinSet as set
use Rattle.operations.specs.Conditions.{condition_joined, ConditionsAgree}
use Rattle.dots.specs.DotSets.{run_count}
use Rattle.operations.specs.Totals.{join_of}
use Rattle.live_cells.specs.CellIds.{IdsFollow}
use Rattle.member_orset.specs.Members.{KeepsIds, condition_at, condition_of, cells_joined, is_live, joined_dots, runs_joined}
use Rattle.delta.specs.DeltaStates.{DeltaState, IsSame, IsUnchanged}
use Rattle.delta.specs.Joining.{DeltasAgree, IsJoinOf}
use Rattle.delta.proofs.Sameness.{says_the_same}
use Rattle.replica.specs.declared.refusal.Refusal.{Refusal}
use Rattle.replica.specs.declared.refusal.Refusal.TheVariants.{NoSuchQueue, AlreadyThere, NotThere, MembersFull, Exhausted, TotalFull, Memory}
use Rattle.replica.specs.Fitting.{HasRoomFor, IsTooFullFor, BothTakeIn}

-- what is joined into a delta that says the same as before, is joined into the one before
pub unchanged_joined : (d same x e : DeltaState) → IsUnchanged d same → IsJoinOf same x e → IsJoinOf d x e
unchanged_joined d same x e u j = record {
  members = record {
    known = j.members.known ∙ ap (λ k. set.union k x.members.known) u.members.known;
    conditions = λ dot. j.members.conditions dot
        ∙ (λ i. condition_joined (condition_at (map.get (u.members.live i) dot) (set.contains (u.members.known i) dot)) (condition_of x.members dot));
  };
  totals = j.totals ∙ ap (λ t. join_of t x.totals.entries) u.totals;
}

-- a copy has the same live dots
pub copied_live : (x copy : DeltaState) → IsSame x copy → x.members.live ≡ copy.members.live
copied_live x copy same = sym (says_the_same x.members copy.members same.conditions same.known).live

-- a delta that is joined with a copy is joined with the original
pub copy_joined : (d x copy e : DeltaState) → IsSame x copy → IsJoinOf d copy e → IsJoinOf d x e
copy_joined d x copy e same j = record {
  members = record {
    known = j.members.known ∙ ap (set.union d.members.known) (sym same.known);
    conditions = λ dot. j.members.conditions dot ∙ ap (condition_joined (condition_of d.members dot)) (sym (same.conditions dot));
  };
  totals = j.totals ∙ ap (join_of d.totals.entries) (sym same.totals);
}

-- a delta that agrees with one agrees with its copy
pub copy_agrees : (d x copy : DeltaState) → IsSame x copy → DeltasAgree d x → DeltasAgree d copy
copy_agrees d x copy same agree = λ dot. subst (ConditionsAgree (condition_of d.members dot)) (same.conditions dot) (agree dot)

-- a delta that says the same agrees as before
pub unchanged_agrees : (d same x : DeltaState) → IsUnchanged d same → DeltasAgree d x → DeltasAgree same x
unchanged_agrees d same x u agree = λ dot.
    subst (λ c. ConditionsAgree c (condition_of x.members dot)) (λ i. condition_at (map.get (sym u.members.live i) dot) (set.contains (sym u.members.known i) dot)) (agree dot)

-- as many dots are live in the join with a copy as with the original
pub same_cells : (d x copy : DeltaState) → IsSame x copy → cells_joined d.members copy.members ≡ cells_joined d.members x.members
unfolding joined_dots
same_cells d x copy same = λ i.
    let known = sym same.known in let live = sym (copied_live x copy same) in
    set.len (set.retain (set.union d.members.known (known i))
    (λ dot. is_live (condition_joined (condition_of d.members dot) (condition_at (map.get (live i) dot) (set.contains (known i) dot)))))

pub same_runs : (d x copy : DeltaState) → IsSame x copy → runs_joined d.members copy.members ≡ runs_joined d.members x.members
same_runs d x copy same = ap (λ known. run_count (set.union d.members.known known)) (sym same.known)

-- what finds room as a copy finds it as the first
pub copy_room : (d x copy : DeltaState) → IsSame x copy → HasRoomFor d copy → HasRoomFor d x
copy_room d x copy same room = record {
  cells = subst (λ n. n ≤ 16384) (same_cells d x copy same) room.cells;
  runs = subst (λ n. n ≤ 65536) (same_runs d x copy same) room.runs;
}

-- a copy that finds no room means that the original finds none
pub copy_full : (d x copy : DeltaState) → IsSame x copy → IsTooFullFor d copy → IsTooFullFor d x
copy_full d x copy same (inl many) = inl (subst (λ n. 16384 < n) (same_cells d x copy same) many)
copy_full d x copy same (inr many) = inr (subst (λ n. 65536 < n) (same_runs d x copy same) many)

-- ids that follow those of a delta that says the same follow those of the delta before
pub unchanged_ids : (d same e : DeltaState) → IsUnchanged d same → KeepsIds same.members e.members → KeepsIds d.members e.members
unchanged_ids d same e u keeps = subst (λ ids. IdsFollow ids d.members.spent e.members.ids e.members.spent) u.members.ids (subst (λ spent. IdsFollow same.members.ids spent e.members.ids e.members.spent) u.members.spent keeps)

-- the two refusals
pub both_refused : (old other x new after : DeltaState) (result : Result (Unit {0}) Refusal) → IsErrOf result MembersFull ⊎ IsErrOf result Memory → IsUnchanged old new → IsUnchanged other after
    → (IsErrOf result MembersFull → IsTooFullFor old x ⊎ IsTooFullFor other x) → BothTakeIn old other x new after result
both_refused old other x new after result (inl e) u v full = subst (BothTakeIn old other x new after) (sym e) ((u, v), full e)
both_refused old other x new after result (inr e) u v full = subst (BothTakeIn old other x new after) (sym e) (u, v)

-- where a change was refused, both are as they were
pub refused_unchanged : (old other x new after : DeltaState) (r : Refusal) → BothTakeIn old other x new after (Err r) → IsUnchanged old new × IsUnchanged other after
refused_unchanged old other x new after NoSuchQueue h = absurd h
refused_unchanged old other x new after AlreadyThere h = absurd h
refused_unchanged old other x new after NotThere h = absurd h
refused_unchanged old other x new after MembersFull h = h.0
refused_unchanged old other x new after Exhausted h = absurd h
refused_unchanged old other x new after TotalFull h = absurd h
refused_unchanged old other x new after Memory h = h
