-- The words of a command, put together field by field.
use Rattle.std.proofs.Common.{◌≡◌, ◌∙◌, ℕ, ◌++◌, Bool, List, [], ◌∷◌, decimal, codes, Option, Some, None, Result, Ok, Err, OnOk, if◌then◌else◌, sym, ap, append_assoc, append-nil}
use Rattle.std.specs.List.{flat_map}
use Rattle.std.specs.Result.{is_ok}
use Rattle.std.proofs.lemmas.Grind.{flat_map-append}
use Rattle.ami_session.specs.FieldValues.{Fields}
use Rattle.ami_text.specs.MessageFields.{NameAndValue}
use Rattle.dots.specs.declared.label.Label.{Label}
use Rattle.dots.specs.Values.{PauseState}
use Rattle.replica.specs.declared.command.Command.TheVariants.{Add, Remove, Pause, Penalty, RingInUse}
use Rattle.event_script.specs.Lines.{command_words, field_if_any, field_text, label_fields, queue_field, yes_or_no}

-- further fields behind a head and the first fields
fields_on : (old head : List ℕ) (fields more : Fields) (a b : List ℕ) → a ≡ old ++ (head ++ flat_map field_text fields) → b ≡ a ++ flat_map field_text more
    → b ≡ old ++ (head ++ flat_map field_text (fields ++ more))
fields_on old head fields more a b first after =
    after ∙ ap (λ x. x ++ flat_map field_text more) first ∙ append_assoc old (head ++ flat_map field_text fields) (flat_map field_text more)
    ∙ ap (λ t. old ++ t) (append_assoc head (flat_map field_text fields) (flat_map field_text more)) ∙ ap (λ t. old ++ (head ++ t)) (sym (flat_map-append field_text fields more))

-- one field behind them
field_on : (old head : List ℕ) (fields : Fields) (field : NameAndValue) (a b : List ℕ) → a ≡ old ++ (head ++ flat_map field_text fields) → b ≡ a ++ field_text field
    → b ≡ old ++ (head ++ flat_map field_text (fields ++ field ∷ []))
field_on old head fields field a b first after = fields_on old head fields (field ∷ []) a b first (after ∙ ap (λ t. a ++ t) (sym (append-nil (field_text field))))

pub label_text : (label : Label) (a b c : List ℕ) → c ≡ b ++ flat_map field_text (field_if_any (codes "StateInterface") label.state)
    → b ≡ a ++ flat_map field_text (field_if_any (codes "MemberName") label.name) → c ≡ a ++ flat_map field_text (label_fields label)
label_text label a b c state name =
    state ∙ ap (λ x. x ++ flat_map field_text (field_if_any (codes "StateInterface") label.state)) name
    ∙ append_assoc a (flat_map field_text (field_if_any (codes "MemberName") label.name)) (flat_map field_text (field_if_any (codes "StateInterface") label.state))
    ∙ ap (λ t. a ++ t) (sym (flat_map-append field_text (field_if_any (codes "MemberName") label.name) (field_if_any (codes "StateInterface") label.state)))

pub add_text : (q i : List ℕ) (n : ℕ) (paused : Bool) (label : Label) (l0 l1 l2 l3 l4 l5 l6 : List ℕ) → l6 ≡ l5 ++ flat_map field_text (label_fields label)
    → l5 ≡ l4 ++ field_text (codes "Paused", yes_or_no paused) → l4 ≡ l3 ++ field_text (codes "Penalty", decimal n) → l3 ≡ l2 ++ field_text (codes "Interface", i)
    → l2 ≡ l1 ++ field_text (codes "Queue", q) → l1 ≡ l0 ++ (codes "ami Action: " ++ codes "QueueAdd") → l6 ≡ l0 ++ command_words (Add q i n paused label)
add_text q i n paused label l0 l1 l2 l3 l4 l5 l6 e6 e5 e4 e3 e2 e1 =
    let head = codes "ami Action: " ++ codes "QueueAdd" in
    let a = (codes "Queue", q) ∷ [] in
    let b = (codes "Queue", q) ∷ (codes "Interface", i) ∷ [] in
    let c = (codes "Queue", q) ∷ (codes "Interface", i) ∷ (codes "Penalty", decimal n) ∷ [] in
    let d = (codes "Queue", q) ∷ (codes "Interface", i) ∷ (codes "Penalty", decimal n) ∷ (codes "Paused", yes_or_no paused) ∷ [] in
    fields_on l0 head d (label_fields label) l5 l6
    (field_on l0 head c (codes "Paused", yes_or_no paused) l4 l5 (field_on l0 head b (codes "Penalty", decimal n) l3 l4 (field_on l0 head a (codes "Interface", i) l2 l3 (field_on l0 head [] (codes "Queue", q) l1 l2 e1 e2) e3) e4) e5)
    e6

pub remove_text : (q i l0 l1 l2 l3 : List ℕ) → l3 ≡ l2 ++ field_text (codes "Interface", i) → l2 ≡ l1 ++ field_text (codes "Queue", q)
    → l1 ≡ l0 ++ (codes "ami Action: " ++ codes "QueueRemove") → l3 ≡ l0 ++ command_words (Remove q i)
remove_text q i l0 l1 l2 l3 e3 e2 e1 =
    let head = codes "ami Action: " ++ codes "QueueRemove" in
    field_on l0 head ((codes "Queue", q) ∷ []) (codes "Interface", i) l2 l3 (field_on l0 head [] (codes "Queue", q) l1 l2 e1 e2) e3

pub pause_text : (queue : Option (List ℕ)) (i : List ℕ) (pause : PauseState) (l0 l1 l2 l3 l4 l5 : List ℕ) → l5 ≡ l4 ++ flat_map field_text (field_if_any (codes "Reason") pause.reason)
    → l4 ≡ l3 ++ field_text (codes "Paused", yes_or_no pause.paused) → l3 ≡ l2 ++ field_text (codes "Interface", i) → l2 ≡ l1 ++ flat_map field_text (queue_field queue)
    → l1 ≡ l0 ++ (codes "ami Action: " ++ codes "QueuePause") → l5 ≡ l0 ++ command_words (Pause queue i pause)
pause_text None i pause l0 l1 l2 l3 l4 l5 e5 e4 e3 e2 e1 =
    let head = codes "ami Action: " ++ codes "QueuePause" in
    let a = (codes "Interface", i) ∷ [] in
    let b = (codes "Interface", i) ∷ (codes "Paused", yes_or_no pause.paused) ∷ [] in
    fields_on l0 head b (field_if_any (codes "Reason") pause.reason) l4 l5
    (field_on l0 head a (codes "Paused", yes_or_no pause.paused) l3 l4 (field_on l0 head [] (codes "Interface", i) l2 l3 (fields_on l0 head [] [] l1 l2 e1 e2) e3) e4)
    e5
pause_text (Some q) i pause l0 l1 l2 l3 l4 l5 e5 e4 e3 e2 e1 =
    let head = codes "ami Action: " ++ codes "QueuePause" in
    let own = (codes "Queue", q) ∷ [] in
    let a = (codes "Queue", q) ∷ (codes "Interface", i) ∷ [] in
    let b = (codes "Queue", q) ∷ (codes "Interface", i) ∷ (codes "Paused", yes_or_no pause.paused) ∷ [] in
    fields_on l0 head b (field_if_any (codes "Reason") pause.reason) l4 l5
    (field_on l0 head a (codes "Paused", yes_or_no pause.paused) l3 l4 (field_on l0 head own (codes "Interface", i) l2 l3 (fields_on l0 head [] own l1 l2 e1 e2) e3) e4)
    e5

pub penalty_text : (queue : Option (List ℕ)) (i : List ℕ) (n : ℕ) (l0 l1 l2 l3 l4 : List ℕ) → l4 ≡ l3 ++ field_text (codes "Penalty", decimal n)
    → l3 ≡ l2 ++ field_text (codes "Interface", i) → l2 ≡ l1 ++ flat_map field_text (queue_field queue) → l1 ≡ l0 ++ (codes "ami Action: " ++ codes "QueuePenalty")
    → l4 ≡ l0 ++ command_words (Penalty queue i n)
penalty_text None i n l0 l1 l2 l3 l4 e4 e3 e2 e1 =
    let head = codes "ami Action: " ++ codes "QueuePenalty" in
    field_on l0 head ((codes "Interface", i) ∷ []) (codes "Penalty", decimal n) l3 l4 (field_on l0 head [] (codes "Interface", i) l2 l3 (fields_on l0 head [] [] l1 l2 e1 e2) e3) e4
penalty_text (Some q) i n l0 l1 l2 l3 l4 e4 e3 e2 e1 =
    let head = codes "ami Action: " ++ codes "QueuePenalty" in
    let own = (codes "Queue", q) ∷ [] in
    field_on l0 head ((codes "Queue", q) ∷ (codes "Interface", i) ∷ []) (codes "Penalty", decimal n) l3 l4 (field_on l0 head own (codes "Interface", i) l2 l3 (fields_on l0 head [] own l1 l2 e1 e2) e3) e4

pub ring_text : (queue : Option (List ℕ)) (i : List ℕ) (ring : Bool) (l0 l1 l2 l3 l4 : List ℕ) → l4 ≡ l3 ++ field_text (codes "RingInUse", yes_or_no ring)
    → l3 ≡ l2 ++ field_text (codes "Interface", i) → l2 ≡ l1 ++ flat_map field_text (queue_field queue) → l1 ≡ l0 ++ (codes "ami Action: " ++ codes "QueueMemberRingInUse")
    → l4 ≡ l0 ++ command_words (RingInUse queue i ring)
ring_text None i ring l0 l1 l2 l3 l4 e4 e3 e2 e1 =
    let head = codes "ami Action: " ++ codes "QueueMemberRingInUse" in
    field_on l0 head ((codes "Interface", i) ∷ []) (codes "RingInUse", yes_or_no ring) l3 l4 (field_on l0 head [] (codes "Interface", i) l2 l3 (fields_on l0 head [] [] l1 l2 e1 e2) e3) e4
ring_text (Some q) i ring l0 l1 l2 l3 l4 e4 e3 e2 e1 =
    let head = codes "ami Action: " ++ codes "QueueMemberRingInUse" in
    let own = (codes "Queue", q) ∷ [] in
    field_on l0 head ((codes "Queue", q) ∷ (codes "Interface", i) ∷ []) (codes "RingInUse", yes_or_no ring) l3 l4 (field_on l0 head own (codes "Interface", i) l2 l3 (fields_on l0 head [] own l1 l2 e1 e2) e3) e4

-- the action of a message
pub action_text : (action l0 l1 l2 : List ℕ) → l2 ≡ l1 ++ action → l1 ≡ l0 ++ codes "ami Action: " → l2 ≡ l0 ++ (codes "ami Action: " ++ action)
action_text action l0 l1 l2 e2 e1 = e2 ∙ ap (λ x. x ++ action) e1 ∙ append_assoc l0 (codes "ami Action: ") action

-- what holds at Ok, by what else does
pub on_ok : {T E P Q : Type 0} (r : Result T E) → (P → Q) → OnOk r P → OnOk r Q
on_ok (Ok x) f p = f p
on_ok (Err e) f p = tt

-- what was appended where that went well
pub appended : {T E : Type 0} (r : Result T E) (l a b : List ℕ) → l ≡ (if is_ok r then a else b) → OnOk r (l ≡ a)
appended (Ok x) l a b is = is
appended (Err e) l a b is = tt
