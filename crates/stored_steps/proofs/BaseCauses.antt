-- Why no base is read of a row: each cause excludes each base.
use Rattle.std.proofs.Common.{◌≡◌, ◌≢◌, ◌≤◌, ◌<◌, ◌+◌, ◌⊎◌, inl, inr, ℕ, List, [], ◌∷◌, ◌++◌, length, take, Option, Some, None, Bool, true, false, Result, Ok, Err, IfErr, IfOk, refl, sym, ap, subst, subst₂, ◌∙◌, append-nil, arith, length-append}
use Rattle.std.specs.FinMap as map
use Rattle.std.specs.FinSet as set
use Rattle.std.specs.Result.{IsOkAnd}
use Rattle.std.proofs.Math.Seq.{take-append_seam}
use Rattle.dots.specs.Orders.{dot_cmp}
use Rattle.dots.proofs.DotOrder.{dots_exact, dots_total}
use Rattle.operations.specs.Totals.{Entries}
use Rattle.member_orset.specs.Members.{Holding, condition_at, joined_dots}
use Rattle.delta.specs.DeltaStates.{DeltaState, IsSame}
use Rattle.delta.specs.Frames.{IsSameFrame, frame_of}
use Rattle.delta.specs.declared.frame.Frame.{Frame}
use Rattle.delta_codec.specs.declared.decode_fault.DecodeFault.{DecodeFault}
use Rattle.delta_codec.specs.declared.decode_fault.DecodeFault.TheVariants as decode
use Rattle.delta_codec.specs.Decoding.{IsFrontFault, IsFrontFrame, UnlessMemory}
use Rattle.delta_codec.specs.Faults.{HasFault}
use Rattle.delta_codec.specs.Frames.{Spells}
use Rattle.delta_codec.proofs.InnerFaults.{never_memory}
use Rattle.replica.specs.Restoring.{HasItsDots, HasItsQueues, HasItsStamps, HasSmallNumbers, IsJoinCause, IsPartCause, IsRestoreCause, IsSound, parts_of}
use Rattle.replica.specs.Site.{SiteState}
use Rattle.replica.specs.declared.restore_fault.RestoreFault.{RestoreFault}
use Rattle.replica.specs.declared.restore_fault.RestoreFault.TheVariants as restore
use Rattle.stored_steps.specs.declared.base.StoredBase.{StoredBase}
use Rattle.stored_steps.specs.declared.base_fault.BaseFault.{BaseFault}
use Rattle.stored_steps.specs.declared.base_fault.BaseFault.TheVariants.{NoBase, BadVersion, WrongSite, WrongList, Truncated, Decode, WrongFrame, Trailing, Parts, Memory}
use Rattle.stored_steps.specs.declared.limits.TheConstants.{BASE_VERSION}
use Rattle.stored_steps.specs.Bases.{IsReadBase, SpellsDelta, last_of, list_bytes, numbers_bytes, with_parts}
use Rattle.stored_steps.specs.BaseFaults.{HasHead, HasNoBase, HasOtherList, IsBaseRowCause, IsDeltaCause, IsFramesCause, IsSiteCause, IsVersioned, LacksBase, LacksDelta, LacksParts, head_size}
use Rattle.stored_steps.specs.BaseReading.{HasParts, IsDeltaAtFront, IsHead}
use Rattle.stored_steps.specs.Stored.{Stored}
use Rattle.stored_steps.proofs.BaseLaws.{numbers_parted, one_delta, one_number, parted, split}

-- ---- deltas at the front of bytes

-- a result of decoding gave no frame, so there is none
no_frame : (bytes : List ℕ) (result : Result (Frame × ℕ) DecodeFault) (fault : DecodeFault) → IsFrontFrame bytes result → result ≡ Err fault → fault ≢ decode.Memory
    → (frame : Frame) (n : ℕ) → n ≤ length bytes → Spells frame (take n bytes) → ⊥
no_frame bytes result fault front e other frame n there spelled = by (front.found frame n there spelled)
  where
    by : UnlessMemory result (IsOkAnd result (λ x. IsSameFrame x.0 frame × (x.1 ≡ n))) → ⊥
    by (inl memory) = other (let same : ◌≡◌ {A = Result (Frame × ℕ) DecodeFault} (Err fault) (Err decode.Memory) = sym e ∙ memory in cc)
    by (inr found) = subst (λ (r : Result (Frame × ℕ) DecodeFault). IsOkAnd r (λ x. IsSameFrame x.0 frame × (x.1 ≡ n))) e found

-- a delta at the front is a frame there
front_of : (site : ℕ) (delta : DeltaState) (bytes rest : List ℕ) (at : IsDeltaAtFront site delta bytes rest) → (length at.frame ≤ length bytes) × Spells (frame_of site 1 delta) (take (length at.frame) bytes)
front_of site delta bytes rest at = (
  omega (arith, ap length at.is, length-append at.frame rest),
  subst (λ (l : List ℕ). Spells (frame_of site 1 delta) l) (sym (ap (take (length at.frame)) at.is ∙ take-append_seam at.frame rest)) at.spelled,
)

-- bytes aren't decoded, so no delta is there
pub undecoded : (site : ℕ) (bytes : List ℕ) (result : Result (Frame × ℕ) DecodeFault) (fault : DecodeFault) (given : BaseFault) → IsFrontFrame bytes result → IsFrontFault bytes result → result ≡ Err fault
    → (fault ≡ decode.Memory → given ≡ Memory) → (fault ≢ decode.Memory → given ≡ Decode fault) → (given ≡ Memory) ⊎ LacksDelta site bytes given
undecoded site bytes result fault given front has e memory other =
    by (subst (λ (r : Result (Frame × ℕ) DecodeFault). IfErr r (λ f. (f ≡ decode.Memory) ⊎ HasFault bytes f)) e has.had)
  where
    by : (fault ≡ decode.Memory) ⊎ HasFault bytes fault → (given ≡ Memory) ⊎ LacksDelta site bytes given
    by (inl is) = inl (memory is)
    by (inr is) =
        let some : fault ≢ decode.Memory = never_memory fault bytes is in
        inr (subst (λ (g : BaseFault). LacksDelta site bytes g) (sym (other some)) (record {
          cause = is;
          none = λ delta rest at. let there = front_of site delta bytes rest at in no_frame bytes result fault front e some (frame_of site 1 delta) (length at.frame) there.0 there.1;
        }))

-- another frame is at the front, so no delta of the site is there
pub of_other : (site : ℕ) (bytes : List ℕ) (result : Result (Frame × ℕ) DecodeFault) (decoded : Frame × ℕ) (given : BaseFault) → IsFrontFrame bytes result → result ≡ Ok decoded
    → (given ≡ WrongFrame) × ((decoded.0.maker ≢ site) ⊎ (decoded.0.number ≢ 1)) → LacksDelta site bytes given
of_other site bytes result decoded given front e why = subst (λ (g : BaseFault). LacksDelta site bytes g) (sym why.0) (record {
  cause = record {
    frame = decoded.0;
    len = decoded.1;
    there = subst (λ (r : Result (Frame × ℕ) DecodeFault). IfOk r (λ x. x.1 ≤ length bytes)) e front.all_there;
    spelled = subst (λ (r : Result (Frame × ℕ) DecodeFault). IfOk r (λ x. Spells x.0 (take x.1 bytes))) e front.spelled;
    other = why.1;
  };
  none = λ delta rest at. let there = front_of site delta bytes rest at in by delta (length at.frame) (front.found (frame_of site 1 delta) (length at.frame) there.0 there.1);
})
  where
    differs : (delta : DeltaState) → IsSameFrame decoded.0 (frame_of site 1 delta) → (decoded.0.maker ≢ site) ⊎ (decoded.0.number ≢ 1) → ⊥
    differs delta same (inl maker) = maker same.maker
    differs delta same (inr number) = number same.number

    by : (delta : DeltaState) (n : ℕ) → UnlessMemory result (IsOkAnd result (λ x. IsSameFrame x.0 (frame_of site 1 delta) × (x.1 ≡ n))) → ⊥
    by delta n (inl memory) = absurd (let same : ◌≡◌ {A = Result (Frame × ℕ) DecodeFault} (Ok decoded) (Err decode.Memory) = sym e ∙ memory in cc)
    by delta n (inr found) = differs delta (subst (λ (r : Result (Frame × ℕ) DecodeFault). IsOkAnd r (λ x. IsSameFrame x.0 (frame_of site 1 delta) × (x.1 ≡ n))) e found).0 why.1

-- ---- state and buffer

state_cause : (site : ℕ) (frames : List ℕ) (fault : BaseFault) → IsDeltaCause site frames fault → IsFramesCause site frames fault
state_cause site frames (Decode fault) cause = inl cause
state_cause site frames WrongFrame cause = inl cause
state_cause site frames NoBase cause = absurd cause
state_cause site frames BadVersion cause = absurd cause
state_cause site frames WrongSite cause = absurd cause
state_cause site frames WrongList cause = absurd cause
state_cause site frames Truncated cause = absurd cause
state_cause site frames Trailing cause = absurd cause
state_cause site frames (Parts fault) cause = absurd cause
state_cause site frames Memory cause = absurd cause

buffer_cause : (site : ℕ) (state : DeltaState) (frames rest : List ℕ) (fault : BaseFault) → IsDeltaAtFront site state frames rest → IsDeltaCause site rest fault → IsFramesCause site frames fault
buffer_cause site state frames rest (Decode fault) at cause = inr (record { state = state; rest = rest; state_is = at; cause = cause })
buffer_cause site state frames rest WrongFrame at cause = inr (record { state = state; rest = rest; state_is = at; cause = cause })
buffer_cause site state frames rest NoBase at cause = absurd cause
buffer_cause site state frames rest BadVersion at cause = absurd cause
buffer_cause site state frames rest WrongSite at cause = absurd cause
buffer_cause site state frames rest WrongList at cause = absurd cause
buffer_cause site state frames rest Truncated at cause = absurd cause
buffer_cause site state frames rest Trailing at cause = absurd cause
buffer_cause site state frames rest (Parts fault) at cause = absurd cause
buffer_cause site state frames rest Memory at cause = absurd cause

-- the state of parts is at their front, and the buffer behind it
state_there : (site : ℕ) (state pending : DeltaState) (frames : List ℕ) (parts : HasParts site state pending frames) → IsDeltaAtFront site state frames parts.second
state_there site state pending frames parts = record { frame = parts.first; spelled = parts.state_is; is = parts.is }

buffer_there : (site : ℕ) (state pending : DeltaState) (frames : List ℕ) (parts : HasParts site state pending frames) → IsDeltaAtFront site pending parts.second []
buffer_there site state pending frames parts = record { frame = parts.second; spelled = parts.pending_is; is = sym (append-nil parts.second) }

-- the bytes behind a delta are the same for each delta that is there
one_rest : (site : ℕ) (d e : DeltaState) (bytes rest more : List ℕ) → IsDeltaAtFront site d bytes rest → IsDeltaAtFront site e bytes more → (rest ≡ more) × IsSame d e
one_rest site d e bytes rest more one two =
    let both = one_delta site d e one.frame two.frame rest more one.spelled two.spelled (sym one.is ∙ two.is) in
    (both.1, both.2)

-- there is no state
pub lacks_state : (site : ℕ) (frames : List ℕ) (fault : BaseFault) → (fault ≡ Memory) ⊎ LacksDelta site frames fault → (fault ≡ Memory) ⊎ LacksParts site frames fault
lacks_state site frames fault (inl memory) = inl memory
lacks_state site frames fault (inr lacks) = inr (record {
  cause = state_cause site frames fault lacks.cause;
  none = λ state pending parts. lacks.none state parts.second (state_there site state pending frames parts);
})

-- there is no buffer
pub lacks_buffer : (site : ℕ) (state : DeltaState) (frames rest : List ℕ) (fault : BaseFault) → IsDeltaAtFront site state frames rest → (fault ≡ Memory) ⊎ LacksDelta site rest fault → (fault ≡ Memory) ⊎ LacksParts site frames fault
lacks_buffer site state frames rest fault at (inl memory) = inl memory
lacks_buffer site state frames rest fault at (inr lacks) = inr (record {
  cause = buffer_cause site state frames rest fault at lacks.cause;
  none = λ s p parts.
      let same = one_rest site state s frames rest parts.second at (state_there site s p frames parts) in
      lacks.none p [] (subst (λ (l : List ℕ). IsDeltaAtFront site p l []) (sym same.0) (buffer_there site s p frames parts));
})

-- bytes follow the buffer
pub trails : (site : ℕ) (state pending : DeltaState) (frames rest more : List ℕ) → IsDeltaAtFront site state frames rest → IsDeltaAtFront site pending rest more → more ≢ [] → LacksParts site frames Trailing
trails site state pending frames rest more one two some = record {
  cause = record { state = state; pending = pending; rest = rest; more = more; state_is = one; pending_is = two; some = some };
  none = λ s p parts.
      let same = one_rest site state s frames rest parts.second one (state_there site s p frames parts) in
      some (one_rest site pending p rest more [] two (subst (λ (l : List ℕ). IsDeltaAtFront site p l []) (sym same.0) (buffer_there site s p frames parts))).0;
}

-- ---- heads

record AreSameNumbers (last other : ℕ × ℕ × ℕ) (frames more : List ℕ) : Type 0 where
  pub count : last.0 ≡ other.0
  pub time : last.1 ≡ other.1
  pub number : last.2 ≡ other.2
  pub rest : frames ≡ more

same_numbers : (name named : List ℕ) (starts others : ℕ) (last other : ℕ × ℕ × ℕ) (frames more bytes : List ℕ) → IsHead name starts last frames bytes → IsHead named others other more bytes
    → AreSameNumbers last other frames more
same_numbers name named starts others last other frames more bytes good fine =
    let both = split name named (numbers_bytes starts last ++ frames) (numbers_bytes others other ++ more) (good.name_is ∙ sym fine.name_is) (sym good.is ∙ fine.is) in
    let moved = sym (numbers_parted starts last.0 last.1 last.2 frames) ∙ both.1 ∙ numbers_parted others other.0 other.1 other.2 more in
    let one = one_number starts others _ _ good.starts_fit fine.starts_fit moved in
    let two = one_number last.0 other.0 _ _ good.count fine.count one.1 in
    let three = one_number last.1 other.1 _ _ good.time fine.time two.1 in
    let four = one_number last.2 other.2 _ _ good.number fine.number three.1 in
    record { count = two.0; time = three.0; number = four.0; rest = four.1 }

-- a row has one head
pub one_head : (site : ℕ) (names : List (List ℕ)) (row : Stored) (last other : ℕ × ℕ × ℕ) (frames more : List ℕ) → HasHead site names row last frames → HasHead site names row other more → (last ≡ other) × (frames ≡ more)
one_head site names row last other frames more one two =
    let whole : BASE_VERSION ∷ site ∷ (list_bytes names ++ one.rest) ≡ BASE_VERSION ∷ site ∷ (list_bytes names ++ two.rest) = sym one.front.is ∙ two.front.is in
    let lists : list_bytes names ++ one.rest ≡ list_bytes names ++ two.rest = cc in
    let rests = (split (list_bytes names) (list_bytes names) one.rest two.rest refl lists).1 in
    let same = same_numbers one.name two.name one.starts two.starts last other frames more two.rest (subst (λ (l : List ℕ). IsHead one.name one.starts last frames l) rests one.head) two.head in
    ((λ i. (same.count i, same.time i, same.number i)), same.rest)

numbers_long : (starts a b c : ℕ) (frames : List ℕ) → length (numbers_bytes starts (a, b, c) ++ frames) ≡ 32 + length frames
numbers_long starts a b c frames = omega (arith, ap length (numbers_parted starts a b c frames))

-- a head has its size
head_long : (name : List ℕ) (starts : ℕ) (last : ℕ × ℕ × ℕ) (frames bytes : List ℕ) → IsHead name starts last frames bytes → head_size ≤ length bytes
head_long name starts last frames bytes head =
    let whole : length bytes ≡ length name + length (numbers_bytes starts last ++ frames) = ap length head.is ∙ length-append name (numbers_bytes starts last ++ frames) in
    let numbers : length (numbers_bytes starts last ++ frames) ≡ 32 + length frames = numbers_long starts last.0 last.1 last.2 frames in
    omega (arith, whole, numbers, head.name_is)

-- ---- causes of parts are those of all parts that say the same

-- the delta that says this, with the room of another
abbrev delta_at : set.FinSet dot_cmp → map.FinMap dot_cmp Holding → Entries → DeltaState → DeltaState
delta_at known live totals d = record {
  members = record { known = known; live = live; ids = d.members.ids; spent = d.members.spent; retired = d.members.retired; cell_room = d.members.cell_room; run_room = d.members.run_room };
  totals = record { entries = totals; room = d.totals.room };
}

same_holding : (o p : Option Holding) (a b : Bool) → condition_at o a ≡ condition_at p b → o ≡ p
same_holding (Some h) (Some g) a b e = let member : h.0 ≡ g.0 = cc in let fields : h.1 ≡ g.1 = cc in λ i. Some (member i, fields i)
same_holding (Some h) None a true e = absurd cc
same_holding (Some h) None a false e = absurd cc
same_holding None (Some g) true b e = absurd cc
same_holding None (Some g) false b e = absurd cc
same_holding None None a b e = refl

same_live : (d e : DeltaState) → IsSame d e → d.members.live ≡ e.members.live
same_live d e same = map.same_map dots_total dots_exact _ _ (λ q. same_holding (map.get d.members.live q) (map.get e.members.live q) (set.contains d.members.known q) (set.contains e.members.known q) (same.conditions q))

-- a delta is another that says the same, but for its room
with_room : (d e : DeltaState) → IsSame d e → d ≡ delta_at e.members.known e.members.live e.totals.entries d
with_room d e same = let live = same_live d e same in λ i. delta_at (same.known i) (live i) (same.totals i) d

module _ (site : ℕ) (names : List (List ℕ)) (last : ℕ × ℕ × ℕ) (k l : set.FinSet dot_cmp) (m n : map.FinMap dot_cmp Holding) (t u : Entries) where
  abbrev at : DeltaState → DeltaState → SiteState
  at r q = parts_of site names (delta_at k m t r) (delta_at l n u q) last

  small : (r q s o : DeltaState) → HasSmallNumbers (at r q) → HasSmallNumbers (at s o)
  small r q s o h = record { count = h.count; time = h.time; frames = h.frames }

  dots : (r q s o : DeltaState) → HasItsDots (at r q) → HasItsDots (at s o)
  dots r q s o h = record { state = h.state; pending = h.pending }

  stamps : (r q s o : DeltaState) → HasItsStamps (at r q) → HasItsStamps (at s o)
  stamps r q s o h = record { state = h.state; pending = h.pending }

  queues : (r q s o : DeltaState) → HasItsQueues (at r q) → HasItsQueues (at s o)
  queues r q s o h = record { state = record { members = h.state.members; totals = h.state.totals }; pending = record { members = h.pending.members; totals = h.pending.totals } }

  sound : (r q s o : DeltaState) → IsSound (at r q) → IsSound (at s o)
  sound r q s o h = record { numbers = small r q s o h.numbers; dots = dots r q s o h.dots; stamps = stamps r q s o h.stamps; queues = queues r q s o h.queues }

  part : (r q s o : DeltaState) (fault : RestoreFault) → IsPartCause (at r q) fault → IsPartCause (at s o) fault
  part r q s o restore.NumberTooLarge c = λ h. c (small s o r q h)
  part r q s o restore.OwnDots c = (small r q s o c.0, λ h. c.1 (dots s o r q h))
  part r q s o restore.OwnStamps c = (small r q s o c.0, dots r q s o c.1, λ h. c.2 (stamps s o r q h))
  part r q s o restore.NoSuchQueue c = (small r q s o c.0, dots r q s o c.1, stamps r q s o c.2, λ h. c.3 (queues s o r q h))
  part r q s o restore.Conflict c = c
  part r q s o restore.CellsFull c = c
  part r q s o restore.RunsFull c = c
  part r q s o restore.Memory c = c

  join : (r q s o : DeltaState) (fault : RestoreFault) → IsJoinCause (at r q).state (at r q).pending fault → IsJoinCause (at s o).state (at s o).pending fault
  unfolding joined_dots
  join r q s o restore.NumberTooLarge c = c
  join r q s o restore.OwnDots c = c
  join r q s o restore.OwnStamps c = c
  join r q s o restore.NoSuchQueue c = c
  join r q s o restore.Conflict c = record { dot = c.dot; conflict = c.conflict }
  join r q s o restore.CellsFull c = (c.0, c.1)
  join r q s o restore.RunsFull c = (c.0, c.1, c.2)
  join r q s o restore.Memory c = c

  cause_at : (r q s o : DeltaState) (fault : RestoreFault) → IsRestoreCause (at r q) fault → IsRestoreCause (at s o) fault
  cause_at r q s o fault (inl c) = inl (part r q s o fault c)
  cause_at r q s o fault (inr c) = inr (sound r q s o c.0, join r q s o fault c.1)

-- parts are refused for a cause, and so are those that say the same
pub same_cause : (site : ℕ) (names : List (List ℕ)) (last : ℕ × ℕ × ℕ) (d e p q : DeltaState) (fault : RestoreFault) → IsSame d e → IsSame p q → IsRestoreCause (parts_of site names d p last) fault → IsRestoreCause (parts_of site names e q last) fault
same_cause site names last d e p q fault states buffers cause =
    cause_at site names last e.members.known q.members.known e.members.live q.members.live e.totals.entries q.totals.entries d p e q fault
    (subst₂ (λ (a b : DeltaState). IsRestoreCause (parts_of site names a b last) fault) (with_room d e states) (with_room p q buffers) cause)

-- ---- a base that is read

-- what is read of a row, by its parts
record IsPartedBase (site : ℕ) (names : List (List ℕ)) (row : Stored) : Type 0 where
  pub last : ℕ × ℕ × ℕ
  pub frames : List ℕ
  pub head : HasHead site names row last frames
  pub state : DeltaState
  pub pending : DeltaState
  pub parts : HasParts site state pending frames
  pub accepted : (fault : RestoreFault) → fault ≢ restore.Memory → IsRestoreCause (parts_of site names state pending last) fault → ⊥

parted_base : (site : ℕ) (names : List (List ℕ)) (row : Stored) (base : StoredBase) → base.replica.site ≡ site → base.replica.names ≡ names → IsReadBase row base → IsPartedBase site names row
parted_base site names row base of called is =
    let made = with_parts is.parts base in
    let here : is.parts.site ≡ site = sym is.restored.site ∙ of in
    let listed : is.parts.names ≡ names = sym is.restored.names ∙ called in
    let bytes = is.spelled.state ++ is.spelled.pending in
    let rest = base.name ++ (numbers_bytes base.starts (last_of is.parts) ++ bytes) in
    let moved : is.parts ≡ parts_of site names is.parts.state is.parts.pending (last_of is.parts) =
    λ i. record { site = here i; names = listed i; state = is.parts.state; pending = is.parts.pending; last_count = is.parts.last_count; last_time = is.parts.last_time; frames = is.parts.frames } in
    record {
      last = last_of is.parts;
      frames = bytes;
      head = record {
        rest = rest;
        front = record { kind = is.kind; is = is.spelled.is ∙ parted made bytes ∙ (λ i. BASE_VERSION ∷ here i ∷ (list_bytes (listed i) ++ rest)) };
        name = base.name;
        starts = base.starts;
        head = record { name_is = is.limits.name; starts_fit = is.limits.starts; count = is.limits.count; time = is.limits.time; number = is.limits.frames; is = refl };
      };
      state = is.parts.state;
      pending = is.parts.pending;
      parts = record {
        first = is.spelled.state;
        second = is.spelled.pending;
        state_is = subst (λ (n : ℕ). SpellsDelta n is.parts.state is.spelled.state) here is.spelled.state_is;
        pending_is = subst (λ (n : ℕ). SpellsDelta n is.parts.pending is.spelled.pending) here is.spelled.pending_is;
        is = refl;
      };
      accepted = λ fault other cause. is.accepted fault other (subst (λ (s : SiteState). IsRestoreCause s fault) (sym moved) cause);
    }

-- no base is there, where none has these parts
none_parted : (site : ℕ) (names : List (List ℕ)) (row : Stored) → (IsPartedBase site names row → ⊥) → HasNoBase site names row
none_parted site names row none base of called is = none (parted_base site names row base of called is)

-- ---- why a row is no base

-- the row of a base isn't of this kind
pub of_other_kind : (site : ℕ) (names : List (List ℕ)) (row : Stored) → row.kind ≢ 1 → LacksBase site names row NoBase
of_other_kind site names row other = record { cause = other; none = none_parted site names row (λ p. other p.head.front.kind) }

-- version and site aren't there
pub lacks_site : (site : ℕ) (names : List (List ℕ)) (row : Stored) (fault : BaseFault) → row.kind ≡ 1 → IsSiteCause site row.bytes fault → LacksBase site names row fault
lacks_site site names row BadVersion kind cause = record {
  cause = record { kind = kind; other = cause };
  none = none_parted site names row (λ p. cause (site ∷ (list_bytes names ++ p.head.rest)) p.head.front.is);
}
lacks_site site names row Truncated kind cause = record {
  cause = inl (record { kind = kind; is = cause });
  none = none_parted site names row (λ p. let same : BASE_VERSION ∷ [] ≡ BASE_VERSION ∷ site ∷ (list_bytes names ++ p.head.rest) = sym cause ∙ p.head.front.is in absurd (cc));
}
lacks_site site names row WrongSite kind (number, rest, is, other) = record {
  cause = record { number = number; rest = rest; front = record { kind = kind; is = is }; other = other };
  none = none_parted site names row (λ p. other (let same : BASE_VERSION ∷ number ∷ rest ≡ BASE_VERSION ∷ site ∷ (list_bytes names ++ p.head.rest) = sym is ∙ p.head.front.is in cc));
}
lacks_site site names row NoBase kind cause = absurd cause
lacks_site site names row WrongList kind cause = absurd cause
lacks_site site names row (Decode f) kind cause = absurd cause
lacks_site site names row WrongFrame kind cause = absurd cause
lacks_site site names row Trailing kind cause = absurd cause
lacks_site site names row (Parts f) kind cause = absurd cause
lacks_site site names row Memory kind cause = absurd cause

-- the list of queues isn't there
pub lacks_list : (site : ℕ) (names : List (List ℕ)) (row : Stored) (rest : List ℕ) (fault : BaseFault) → IsVersioned row (site ∷ rest) → (fault ≡ Memory) ⊎ ((fault ≡ WrongList) × HasOtherList names rest)
    → (fault ≡ Memory) ⊎ LacksBase site names row fault
lacks_list site names row rest fault front (inl memory) = inl memory
lacks_list site names row rest fault front (inr why) = inr (subst (λ (f : BaseFault). LacksBase site names row f) (sym why.0) (record {
  cause = record { rest = rest; front = front; other = why.1 };
  none = none_parted site names row (λ p. why.1 p.head.rest (let same : BASE_VERSION ∷ site ∷ rest ≡ BASE_VERSION ∷ site ∷ (list_bytes names ++ p.head.rest) = sym front.is ∙ p.head.front.is in cc));
}))

-- the bytes end in the head
pub lacks_head : (site : ℕ) (names : List (List ℕ)) (row : Stored) (rest : List ℕ) → IsVersioned row (site ∷ (list_bytes names ++ rest)) → length rest < head_size → LacksBase site names row Truncated
lacks_head site names row rest front short = record {
  cause = inr (record { rest = rest; front = front; short = short });
  none = none_parted site names row (λ p.
      let whole : BASE_VERSION ∷ site ∷ (list_bytes names ++ rest) ≡ BASE_VERSION ∷ site ∷ (list_bytes names ++ p.head.rest) = sym front.is ∙ p.head.front.is in
      let lists : list_bytes names ++ rest ≡ list_bytes names ++ p.head.rest = cc in
      let same = (split (list_bytes names) (list_bytes names) rest p.head.rest refl lists).1 in
      let long = head_long p.head.name p.head.starts p.last p.frames p.head.rest p.head.head in
      absurd (omega (arith, short, long, ap length same)));
}

frames_cause : (site : ℕ) (names : List (List ℕ)) (row : Stored) (last : ℕ × ℕ × ℕ) (frames : List ℕ) (fault : BaseFault) → HasHead site names row last frames → IsFramesCause site frames fault → IsBaseRowCause site names row fault
frames_cause site names row last frames (Decode f) head cause = record { last = last; frames = frames; head = head; cause = cause }
frames_cause site names row last frames WrongFrame head cause = record { last = last; frames = frames; head = head; cause = cause }
frames_cause site names row last frames Trailing head cause = record { last = last; frames = frames; head = head; cause = cause }
frames_cause site names row last frames NoBase head (inl cause) = absurd cause
frames_cause site names row last frames NoBase head (inr lacks) = absurd lacks.cause
frames_cause site names row last frames BadVersion head (inl cause) = absurd cause
frames_cause site names row last frames BadVersion head (inr lacks) = absurd lacks.cause
frames_cause site names row last frames WrongSite head (inl cause) = absurd cause
frames_cause site names row last frames WrongSite head (inr lacks) = absurd lacks.cause
frames_cause site names row last frames WrongList head (inl cause) = absurd cause
frames_cause site names row last frames WrongList head (inr lacks) = absurd lacks.cause
frames_cause site names row last frames Truncated head (inl cause) = absurd cause
frames_cause site names row last frames Truncated head (inr lacks) = absurd lacks.cause
frames_cause site names row last frames (Parts f) head (inl cause) = absurd cause
frames_cause site names row last frames (Parts f) head (inr lacks) = absurd lacks.cause
frames_cause site names row last frames Memory head (inl cause) = absurd cause
frames_cause site names row last frames Memory head (inr lacks) = absurd lacks.cause

-- the frames aren't there
pub lacks_frames : (site : ℕ) (names : List (List ℕ)) (row : Stored) (last : ℕ × ℕ × ℕ) (frames : List ℕ) (fault : BaseFault) → HasHead site names row last frames → (fault ≡ Memory) ⊎ LacksParts site frames fault
    → (fault ≡ Memory) ⊎ LacksBase site names row fault
lacks_frames site names row last frames fault head (inl memory) = inl memory
lacks_frames site names row last frames fault head (inr lacks) = inr (record {
  cause = frames_cause site names row last frames fault head lacks.cause;
  none = none_parted site names row (λ p.
      let same = (one_head site names row last p.last frames p.frames head p.head).1 in
      lacks.none p.state p.pending (subst (λ (l : List ℕ). HasParts site p.state p.pending l) (sym same) p.parts));
})

-- the parts are refused
pub lacks_parts : (site : ℕ) (names : List (List ℕ)) (row : Stored) (last : ℕ × ℕ × ℕ) (frames : List ℕ) (state pending : DeltaState) (fault : RestoreFault) (given : BaseFault) → HasHead site names row last frames → HasParts site state pending frames
    → (fault ≢ restore.Memory → IsRestoreCause (parts_of site names state pending last) fault) → ((fault ≡ restore.Memory) × (given ≡ Memory)) ⊎ ((fault ≢ restore.Memory) × (given ≡ Parts fault)) → (given ≡ Memory) ⊎ LacksBase site names row given
lacks_parts site names row last frames state pending fault given head parts cause (inl memory) = inl memory.1
lacks_parts site names row last frames state pending fault given head parts cause (inr (other, is)) = inr (subst (λ (f : BaseFault). LacksBase site names row f) (sym is) (record {
  cause = record { last = last; frames = frames; head = head; state = state; pending = pending; parts = parts; other = other; cause = cause other };
  none = none_parted site names row (λ p.
      let same = one_head site names row last p.last frames p.frames head p.head in
      let too = subst (λ (l : List ℕ). HasParts site p.state p.pending l) (sym same.1) p.parts in
      let states = one_rest site state p.state frames parts.second too.second (state_there site state pending frames parts) (state_there site p.state p.pending frames too) in
      let mine = subst (λ (l : List ℕ). IsDeltaAtFront site pending l []) states.0 (buffer_there site state pending frames parts) in
      let buffers = one_rest site pending p.pending too.second [] [] mine (buffer_there site p.state p.pending frames too) in
      let moved = subst (λ (n : ℕ × ℕ × ℕ). IsRestoreCause (parts_of site names state pending n) fault) same.0 (cause other) in
      p.accepted fault other (same_cause site names p.last state p.state pending p.pending fault states.1 buffers.1 moved));
}))

-- ---- the result

-- why there is no base
pub base_cause : {T : Type 0} (site : ℕ) (names : List (List ℕ)) (row : Stored) (result : Result T BaseFault) → IfErr result (λ f. (f ≡ Memory) ⊎ LacksBase site names row f) → IfErr result (λ f. (f ≡ Memory) ⊎ IsBaseRowCause site names row f)
base_cause site names row (Ok base) h = tt
base_cause site names row (Err f) (inl memory) = inl memory
base_cause site names row (Err f) (inr lacks) = inr lacks.cause

-- and that there is none
pub no_base : {T : Type 0} (site : ℕ) (names : List (List ℕ)) (row : Stored) (result : Result T BaseFault) → IfErr result (λ f. (f ≡ Memory) ⊎ LacksBase site names row f) → IfErr result (λ f. (f ≡ Memory) ⊎ HasNoBase site names row)
no_base site names row (Ok base) h = tt
no_base site names row (Err f) (inl memory) = inl memory
no_base site names row (Err f) (inr lacks) = inr lacks.none
