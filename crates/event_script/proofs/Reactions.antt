-- The message of a command asks the command.
use Rattle.std.proofs.Common.{◌≡◌, ◌∙◌, ℕ, ◌<◌, ◌++◌, Bool, true, false, List, [], ◌∷◌, length, map, decimal, codes, Option, Some, None, is_none, unwrap_or, IfSome, if◌then◌else◌, refl, sym, ap, arith}
use Rattle.std.specs.List.{AllByRecursion, find}
use Rattle.std.proofs.lemmas.Bool.{le-ltb}
use Rattle.std.proofs.lemmas.Fmt.{decimal_nonempty}
use Rattle.std.specs.Option.{option_map}
use Rattle.ami_text.specs.MessageFields.{unless_empty, value_of}
use Rattle.ami_text.specs.Numbers.{number_of}
use Rattle.ask_code.specs.Asks.{IsCommand}
use Rattle.dots.specs.declared.limits.TheConstants.{MOST_PENALTY, TEXT_BYTES}
use Rattle.dots.specs.Values.{IsName, IsPenalty, IsText}
use Rattle.replica.specs.declared.command.Command.{Command}
use Rattle.replica.specs.declared.command.Command.TheVariants.{Add, Remove, Pause, Penalty, RingInUse}
use Rattle.status_report.specs.declared.asks.Ask.TheVariants as ask
use Rattle.ami_session.specs.declared.action.Action.{Action}
use Rattle.ami_session.specs.declared.action.Action.TheVariants.{QueueAdd, QueueRemove, QueuePause, QueuePenalty, QueueMemberRingInUse}
use Rattle.ami_session.specs.Actions.{FieldRow, Name, Number, Text, YesOrNo, absent_in, is_unread, penalty_in, row_of, says_yes, text_at, unread_in}
use Rattle.ami_session.specs.Checks.{Asks, Reaction, reaction, row_reaction}
use Rattle.ami_session.specs.FieldValues.{Fields, id_of, is_yes, name_of, penalty_of, text_of}
use Rattle.event_script.specs.Lines.{command_fields, yes_or_no}
use Rattle.scripts.specs.Script.{trusted_session}
use Rattle.event_script.proofs.Fields.{number_read}
use Rattle.event_script.proofs.Marks.{spells}

-- ---- values of fields

-- a value that has a byte is there
some_value : (value : List ℕ) → 0 < length value → unless_empty (Some value) ≡ Some value
some_value [] some = absurd (omega (arith, some))
some_value (b ∷ bs) some = refl

-- a value is the same where an absent one counts as empty
or_empty : (value : List ℕ) → unwrap_or (unless_empty (Some value)) [] ≡ value
or_empty [] = refl
or_empty (b ∷ bs) = refl

-- yes and no are there, and are read as what they say
yes_value : (says : Bool) → unless_empty (Some (yes_or_no says)) ≡ Some (yes_or_no says)
yes_value true = refl
yes_value false = refl

yes_read : (says : Bool) → is_yes (yes_or_no says) ≡ says
yes_read true = refl
yes_read false = refl

-- a text is read
text_read : (value : List ℕ) → IsText value → text_of value ≡ Some value
text_read value is = rw (le-ltb TEXT_BYTES (length value) is.short, is.clean) refl

-- a field with a text is read, be it there or not
text_kept : (value : List ℕ) → IsText value → is_unread Text (unless_empty (Some value)) ≡ false
text_kept [] is = refl
text_kept (b ∷ bs) is = rw (text_read (b ∷ bs) is) refl

-- a field with a name is read
name_kept : (value : List ℕ) → IsName value → is_unread Name (Some value) ≡ false
name_kept [] is = let lt = is.present in absurd (omega (arith, lt))
name_kept (b ∷ bs) is = rw (text_read (b ∷ bs) is.text) refl

pub name_read : (value : List ℕ) → IsName value → name_of value ≡ Some value
name_read [] is = let lt = is.present in absurd (omega (arith, lt))
name_read (b ∷ bs) is = text_read (b ∷ bs) is.text

-- a field with a penalty is read
penalty_read : (n : ℕ) → IsPenalty n → penalty_of (decimal n) ≡ Some n
penalty_read n is =
    rw (number_read 10 n (omega arith) (omega (arith, is)) (let less : n < 10000000000 = omega (arith, is) in less), le-ltb MOST_PENALTY n is) refl

penalty_kept : (n : ℕ) → IsPenalty n → is_unread Number (Some (decimal n)) ≡ false
penalty_kept n is = rw (penalty_read n is) refl

-- nothing is found where nothing passes
find_none : {X : Type 0} (p : X → Bool) (xs : List X) → AllByRecursion (λ x. p x ≡ false) xs → find p xs ≡ None
find_none p [] none = refl
find_none p (x ∷ xs) none = rw none.0 (find_none p xs none.1)

-- no required field is absent
absent_none : (action : Action) (m : Fields) → AllByRecursion (λ name. is_none (value_of name m) ≡ false) (map (λ (f : FieldRow). f.name) (row_of action).required) → absent_in (row_of action) m ≡ None
absent_none action m none = find_none (λ name. is_none (value_of name m)) (map (λ (f : FieldRow). f.name) (row_of action).required) none

-- no field is unread
unread_none : (action : Action) (m : Fields) → AllByRecursion (λ (f : FieldRow). is_unread f.kind (value_of f.name m) ≡ false) ((row_of action).required ++ (row_of action).optional)
    → unread_in (row_of action) m ≡ None
unread_none action m none =
    ap (option_map (λ (f : FieldRow). f.name))
    (find_none (λ (f : FieldRow). is_unread f.kind (value_of f.name m)) ((row_of action).required ++ (row_of action).optional) none)

-- a queue's field is read, be it there or not
queue_kept : (queue : Option (List ℕ)) → IfSome queue IsName → is_unread Name queue ≡ false
queue_kept None is = refl
queue_kept (Some queue) is = name_kept queue is

-- the reason of a pause, which is dropped where the member isn't paused
reason_kept : (paused : Bool) (reason : List ℕ) → (paused ≡ false → reason ≡ []) → (if paused then reason else []) ≡ reason
reason_kept true reason none = refl
reason_kept false reason none = sym (none refl)

-- ---- reactions

-- what a message of an action gets whose fields are all there and read
abbrev pub reaction_by : Action → Fields → Reaction
reaction_by action m = row_reaction action m (absent_in (row_of action) m) (unread_in (row_of action) m)

-- the fields of the message of a command with this action
abbrev message : List ℕ → Command → Fields
message action command = (codes "Action", action) ∷ command_fields command

-- the site is asked, and the message waits without an ActionID
abbrev pub waits : Action → Bool → Command → Reaction
waits action paused command = Asks (ask.Command command) (record { action = action; says_yes = paused; id = [] })

-- a message of an action asks by its row
row_asks : (action : Action) (m : Fields) (command : Command) (paused : Bool) → absent_in (row_of action) m ≡ None → unread_in (row_of action) m ≡ None
    → (row_of action).ask m ≡ ask.Command command → says_yes (codes "Paused") m ≡ paused → id_of m ≡ [] → reaction_by action m ≡ waits action paused command
row_asks action m command paused absent unread asked says id =
    (λ k. row_reaction action m (absent k) (unread k)) ∙ (λ k. Asks (asked k) (record { action = action; says_yes = says k; id = id k }))

-- an add, by the values that its message has
add_by : (m : Fields) (q i : List ℕ) (n : ℕ) (paused : Bool) (name state : List ℕ) → IsCommand (Add q i n paused (record { name = name; state = state }))
    → value_of (codes "Queue") m ≡ Some q → value_of (codes "Interface") m ≡ Some i → value_of (codes "Penalty") m ≡ Some (decimal n)
    → value_of (codes "Paused") m ≡ Some (yes_or_no paused) → value_of (codes "MemberName") m ≡ unless_empty (Some name)
    → value_of (codes "StateInterface") m ≡ unless_empty (Some state) → id_of m ≡ []
    → reaction_by QueueAdd m ≡ waits QueueAdd paused (Add q i n paused (record { name = name; state = state }))
add_by m q i n paused name state is vq vi vn vp vm vs id =
    let says : says_yes (codes "Paused") m ≡ paused = ap (λ v. is_yes (unwrap_or v [])) vp ∙ yes_read paused in
    let penalty : penalty_in m ≡ n = ap (λ v. number_of (unwrap_or v (codes "0"))) vn ∙ spells n (let most = is.1.1.0 in omega (arith, most)) in
    row_asks QueueAdd m (Add q i n paused (record { name = name; state = state })) paused
    (absent_none QueueAdd m (ap is_none vq, (ap is_none vi, tt)))
    (unread_none QueueAdd m (
      ap (is_unread Name) vq ∙ name_kept q is.0,
      (
        ap (is_unread Name) vi ∙ name_kept i is.1.0,
        (
          ap (is_unread Number) vn ∙ penalty_kept n is.1.1.0,
          (
            ap (is_unread YesOrNo) vp,
            (
              ap (is_unread Text) vm ∙ text_kept name is.1.1.1.1.name,
              (ap (is_unread Text) vs ∙ text_kept state is.1.1.1.1.state, tt),
            ),
          ),
        ),
      ),
    ))
    (λ k. ask.Command (Add (unwrap_or (vq k) []) (unwrap_or (vi k) []) (penalty k) (says k) (record {
      name = (ap (λ v. unwrap_or v []) vm ∙ or_empty name) k;
      state = (ap (λ v. unwrap_or v []) vs ∙ or_empty state) k;
    })))
    says id

-- the message of an add
pub add_asks : (q i : List ℕ) (n : ℕ) (paused : Bool) (name state : List ℕ) → IsCommand (Add q i n paused (record { name = name; state = state }))
    → reaction trusted_session ((codes "Action", codes "QueueAdd") ∷ command_fields (Add q i n paused (record { name = name; state = state })))
    ≡ waits QueueAdd paused (Add q i n paused (record { name = name; state = state }))
add_asks q i n paused [] [] is =
    add_by (message (codes "QueueAdd") (Add q i n paused (record { name = []; state = [] }))) q i n paused [] [] is (some_value q is.0.present) (some_value i is.1.0.present)
    (some_value (decimal n) (decimal_nonempty n (let most = is.1.1.0 in omega (arith, most)))) (yes_value paused) refl refl refl
add_asks q i n paused [] (s ∷ state) is =
    add_by (message (codes "QueueAdd") (Add q i n paused (record { name = []; state = s ∷ state }))) q i n paused [] (s ∷ state) is (some_value q is.0.present) (some_value i is.1.0.present)
    (some_value (decimal n) (decimal_nonempty n (let most = is.1.1.0 in omega (arith, most)))) (yes_value paused) refl refl refl
add_asks q i n paused (m ∷ name) [] is =
    add_by (message (codes "QueueAdd") (Add q i n paused (record { name = m ∷ name; state = [] }))) q i n paused (m ∷ name) [] is (some_value q is.0.present) (some_value i is.1.0.present)
    (some_value (decimal n) (decimal_nonempty n (let most = is.1.1.0 in omega (arith, most)))) (yes_value paused) refl refl refl
add_asks q i n paused (m ∷ name) (s ∷ state) is =
    add_by (message (codes "QueueAdd") (Add q i n paused (record { name = m ∷ name; state = s ∷ state }))) q i n paused (m ∷ name) (s ∷ state) is (some_value q is.0.present) (some_value i is.1.0.present)
    (some_value (decimal n) (decimal_nonempty n (let most = is.1.1.0 in omega (arith, most)))) (yes_value paused) refl refl refl

-- the message of a remove
pub remove_asks : (q i : List ℕ) → IsCommand (Remove q i)
    → reaction trusted_session ((codes "Action", codes "QueueRemove") ∷ command_fields (Remove q i)) ≡ waits QueueRemove false (Remove q i)
remove_asks q i is =
    let m = (codes "Action", codes "QueueRemove") ∷ command_fields (Remove q i) in
    let vq : value_of (codes "Queue") m ≡ Some q = some_value q is.0.present in
    let vi : value_of (codes "Interface") m ≡ Some i = some_value i is.1.present in
    row_asks QueueRemove m (Remove q i) false
    (absent_none QueueRemove m (ap is_none vq, (ap is_none vi, tt)))
    (unread_none QueueRemove m (ap (is_unread Name) vq ∙ name_kept q is.0, (ap (is_unread Name) vi ∙ name_kept i is.1, tt)))
    (λ k. ask.Command (Remove (unwrap_or (vq k) []) (unwrap_or (vi k) [])))
    refl refl

-- a pause, by the values that its message has
pause_by : (m : Fields) (queue : Option (List ℕ)) (i : List ℕ) (paused : Bool) (reason : List ℕ) → IsCommand (Pause queue i (record { paused = paused; reason = reason }))
    → value_of (codes "Queue") m ≡ queue → value_of (codes "Interface") m ≡ Some i → value_of (codes "Paused") m ≡ Some (yes_or_no paused)
    → value_of (codes "Reason") m ≡ unless_empty (Some reason) → id_of m ≡ []
    → reaction_by QueuePause m ≡ waits QueuePause paused (Pause queue i (record { paused = paused; reason = reason }))
pause_by m queue i paused reason is vq vi vp vr id =
    let says : says_yes (codes "Paused") m ≡ paused = ap (λ v. is_yes (unwrap_or v [])) vp ∙ yes_read paused in
    let reported : text_at (codes "Reason") m ≡ reason = ap (λ v. unwrap_or v []) vr ∙ or_empty reason in
    let kept : (if says_yes (codes "Paused") m then text_at (codes "Reason") m else []) ≡ reason = (λ k. if says k then reported k else []) ∙ reason_kept paused reason is.1.1.none in
    row_asks QueuePause m (Pause queue i (record { paused = paused; reason = reason })) paused
    (absent_none QueuePause m (ap is_none vi, (ap is_none vp, tt)))
    (unread_none QueuePause m (
      ap (is_unread Name) vi ∙ name_kept i is.1.0,
      (ap (is_unread YesOrNo) vp, (ap (is_unread Name) vq ∙ queue_kept queue is.0, (ap (is_unread Text) vr ∙ text_kept reason is.1.1.reason, tt))),
    ))
    (λ k. ask.Command (Pause (vq k) (unwrap_or (vi k) []) (record { paused = says k; reason = kept k })))
    says id

-- the message of a pause
pub pause_asks : (queue : Option (List ℕ)) (i : List ℕ) (paused : Bool) (reason : List ℕ) → IsCommand (Pause queue i (record { paused = paused; reason = reason }))
    → reaction trusted_session ((codes "Action", codes "QueuePause") ∷ command_fields (Pause queue i (record { paused = paused; reason = reason })))
    ≡ waits QueuePause paused (Pause queue i (record { paused = paused; reason = reason }))
pause_asks None i paused [] is = pause_by (message (codes "QueuePause") (Pause None i (record { paused = paused; reason = [] }))) None i paused [] is refl (some_value i is.1.0.present) (yes_value paused) refl refl
pause_asks None i paused (r ∷ reason) is = pause_by (message (codes "QueuePause") (Pause None i (record { paused = paused; reason = r ∷ reason }))) None i paused (r ∷ reason) is refl (some_value i is.1.0.present) (yes_value paused) refl refl
pause_asks (Some q) i paused [] is = pause_by (message (codes "QueuePause") (Pause (Some q) i (record { paused = paused; reason = [] }))) (Some q) i paused [] is (some_value q is.0.present) (some_value i is.1.0.present) (yes_value paused) refl refl
pause_asks (Some q) i paused (r ∷ reason) is =
    pause_by (message (codes "QueuePause") (Pause (Some q) i (record { paused = paused; reason = r ∷ reason }))) (Some q) i paused (r ∷ reason) is (some_value q is.0.present) (some_value i is.1.0.present) (yes_value paused) refl refl

-- a penalty, by the values that its message has
penalty_by : (m : Fields) (queue : Option (List ℕ)) (i : List ℕ) (n : ℕ) → IsCommand (Penalty queue i n) → value_of (codes "Queue") m ≡ queue
    → value_of (codes "Interface") m ≡ Some i → value_of (codes "Penalty") m ≡ Some (decimal n) → says_yes (codes "Paused") m ≡ false → id_of m ≡ []
    → reaction_by QueuePenalty m ≡ waits QueuePenalty false (Penalty queue i n)
penalty_by m queue i n is vq vi vn says id =
    let penalty : penalty_in m ≡ n = ap (λ v. number_of (unwrap_or v (codes "0"))) vn ∙ spells n (let most = is.1.1 in omega (arith, most)) in
    row_asks QueuePenalty m (Penalty queue i n) false
    (absent_none QueuePenalty m (ap is_none vi, (ap is_none vn, tt)))
    (unread_none QueuePenalty m (
      ap (is_unread Name) vi ∙ name_kept i is.1.0,
      (ap (is_unread Number) vn ∙ penalty_kept n is.1.1, (ap (is_unread Name) vq ∙ queue_kept queue is.0, tt)),
    ))
    (λ k. ask.Command (Penalty (vq k) (unwrap_or (vi k) []) (penalty k)))
    says id

-- the message of a penalty
pub penalty_asks : (queue : Option (List ℕ)) (i : List ℕ) (n : ℕ) → IsCommand (Penalty queue i n)
    → reaction trusted_session ((codes "Action", codes "QueuePenalty") ∷ command_fields (Penalty queue i n)) ≡ waits QueuePenalty false (Penalty queue i n)
penalty_asks None i n is =
    penalty_by (message (codes "QueuePenalty") (Penalty None i n)) None i n is refl (some_value i is.1.0.present) (some_value (decimal n) (decimal_nonempty n (let most = is.1.1 in omega (arith, most)))) refl refl
penalty_asks (Some q) i n is =
    penalty_by (message (codes "QueuePenalty") (Penalty (Some q) i n)) (Some q) i n is (some_value q is.0.present) (some_value i is.1.0.present)
    (some_value (decimal n) (decimal_nonempty n (let most = is.1.1 in omega (arith, most)))) refl refl

-- ring in use, by the values that its message has
ring_by : (m : Fields) (queue : Option (List ℕ)) (i : List ℕ) (ring : Bool) → IsCommand (RingInUse queue i ring) → value_of (codes "Queue") m ≡ queue
    → value_of (codes "Interface") m ≡ Some i → value_of (codes "RingInUse") m ≡ Some (yes_or_no ring) → says_yes (codes "Paused") m ≡ false → id_of m ≡ []
    → reaction_by QueueMemberRingInUse m ≡ waits QueueMemberRingInUse false (RingInUse queue i ring)
ring_by m queue i ring is vq vi vr says id =
    let rings : says_yes (codes "RingInUse") m ≡ ring = ap (λ v. is_yes (unwrap_or v [])) vr ∙ yes_read ring in
    row_asks QueueMemberRingInUse m (RingInUse queue i ring) false
    (absent_none QueueMemberRingInUse m (ap is_none vi, (ap is_none vr, tt)))
    (unread_none QueueMemberRingInUse m (
      ap (is_unread Name) vi ∙ name_kept i is.1.0,
      (ap (is_unread YesOrNo) vr, (ap (is_unread Name) vq ∙ queue_kept queue is.0, tt)),
    ))
    (λ k. ask.Command (RingInUse (vq k) (unwrap_or (vi k) []) (rings k)))
    says id

-- the message of ring in use
pub ring_asks : (queue : Option (List ℕ)) (i : List ℕ) (ring : Bool) → IsCommand (RingInUse queue i ring)
    → reaction trusted_session ((codes "Action", codes "QueueMemberRingInUse") ∷ command_fields (RingInUse queue i ring))
    ≡ waits QueueMemberRingInUse false (RingInUse queue i ring)
ring_asks None i ring is = ring_by (message (codes "QueueMemberRingInUse") (RingInUse None i ring)) None i ring is refl (some_value i is.1.0.present) (yes_value ring) refl refl
ring_asks (Some q) i ring is = ring_by (message (codes "QueueMemberRingInUse") (RingInUse (Some q) i ring)) (Some q) i ring is (some_value q is.0.present) (some_value i is.1.0.present) (yes_value ring) refl refl
