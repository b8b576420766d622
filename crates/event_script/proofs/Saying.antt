-- A line that is written for a command or a frame is read as asking the same.
use Rattle.std.proofs.Common.{◌≡◌, ◌∙◌, ℕ, ◌<◌, ◌≤◌, ◌==◌, ◌++◌, ◌^◌, Bool, true, false, nat_lt, List, [], ◌∷◌, length, map, decimal, codes, Option, Some, None, IfSome, refl, ap, subst, arith}
use Rattle.std.specs.Char.{is_ascii_digit}
use Rattle.std.specs.List.{flat_map, list_all, list_any}
use Rattle.std.specs.Option.{option_and_then}
use Rattle.std.proofs.lemmas.Bool.{and_parts}
use Rattle.std.proofs.lemmas.Bool.Decides.{nat_tests}
use Rattle.std.proofs.lemmas.Fmt.{decimal_nonempty}
use Rattle.std.proofs.lemmas.List.{length-append}
use Rattle.std.proofs.lemmas.List.Folds.{flat_map-map}
use Rattle.ami_text.specs.MessageFields.{NameAndValue}
use Rattle.ask_code.specs.Asks.{IsCommand}
use Rattle.dots.specs.Values.{IsName, IsPenalty, IsText, is_bad_byte}
use Rattle.replica.specs.declared.command.Command.{Command}
use Rattle.replica.specs.declared.command.Command.TheVariants.{Add, Remove, Pause, Penalty, RingInUse, Completed, Abandoned}
use Rattle.ami_session.specs.FieldValues.{Fields}
use Rattle.script_lines.specs.ScriptLines.{IsMessage, before_blank, behind_blank, entry_sense, one_of, sense_of, site_in, site_sense, words_sense, Take}
use Rattle.event_script.specs.Lines.{command_fields, field_if_any, field_text, is_plain, queue_field, queue_text, texts_of, yes_or_no}
use Rattle.event_script.proofs.Fields.{IsFieldName, digits_few, digits_plain, field_line, number_read}
use Rattle.event_script.proofs.Marks.{are_digits, digits_clean, none_of_both}
use Rattle.event_script.proofs.Messages.{HaveFields, IsFieldLine, message_is}

-- ---- the lines of fields

-- the line of a field
abbrev pub line_of : NameAndValue → List ℕ
line_of field = field.0 ++ (codes ": " ++ field.1)

-- each field is written in a line that has it
abbrev pub AreFields : Fields → Type 0
AreFields [] = Unit {0}
AreFields (field ∷ fields) = IsFieldLine (line_of field) field × AreFields fields

are_both : (a b : Fields) → AreFields a → AreFields b → AreFields (a ++ b)
are_both [] b x y = y
are_both (field ∷ a) b x y = (x.0, are_both a b x.1 y)

have_fields : (fields : Fields) → AreFields fields → HaveFields (map line_of fields) fields
have_fields [] is = tt
have_fields (field ∷ fields) is = (is.0, have_fields fields is.1)

as_many_lines : (fields : Fields) → length (map line_of fields) ≡ length fields
as_many_lines [] = refl
as_many_lines (field ∷ fields) = let n = as_many_lines fields in omega (arith, n)

-- what stands behind an action is clean
pub fields_clean : (fields : Fields) → AreFields fields → list_any is_bad_byte (flat_map field_text fields) ≡ false
fields_clean [] is = refl
fields_clean (field ∷ fields) is = none_of_both is_bad_byte (field_text field) (flat_map field_text fields) is.0.clean (fields_clean fields is.1)

-- the fields behind an action are its message
pub fields_message : (action : List ℕ) (fields : Fields) → IsFieldLine (codes "Action: " ++ action) (codes "Action", action) → AreFields fields → length fields < 128
    → IsMessage (codes "Action: " ++ (action ++ flat_map field_text fields)) ((codes "Action", action) ∷ fields)
fields_message action fields is are few =
    subst (λ text. IsMessage (codes "Action: " ++ (action ++ text)) ((codes "Action", action) ∷ fields)) (flat_map-map (λ l. codes "|" ++ l) line_of fields)
    (message_is (codes "Action: " ++ action) (map line_of fields) (codes "Action", action) fields (is, have_fields fields are) (let n = as_many_lines fields in omega (arith, n, few)))

-- ---- the fields of a command

-- a field with a text
text_field : (name value : List ℕ) → IsFieldName name → is_plain value ≡ true → IsText value → IsFieldLine (line_of (name, value)) (name, value)
text_field name value is plain text = field_line name value is plain text.clean text.short

any_field : (name value : List ℕ) → IsFieldName name → is_plain value ≡ true → IsText value → AreFields (field_if_any name value)
any_field name [] is plain text = tt
any_field name (b ∷ bs) is plain text = (text_field name (b ∷ bs) is plain text, tt)

queue_name : IsFieldName (codes "Queue")
queue_name = record { split = λ value. refl; bars = refl; clean = refl; short = omega arith }

interface_field : (i : List ℕ) → is_plain i ≡ true → IsName i → IsFieldLine (line_of (codes "Interface", i)) (codes "Interface", i)
interface_field i plain is = text_field (codes "Interface") i (record { split = λ value. refl; bars = refl; clean = refl; short = omega arith }) plain is.text

queue_fields : (queue : Option (List ℕ)) → IfSome queue IsName → list_all is_plain (queue_text queue) ≡ true → AreFields (queue_field queue)
queue_fields None is plain = tt
queue_fields (Some q) is plain = (text_field (codes "Queue") q queue_name (and_parts (is_plain q) true plain).0 is.text, tt)

penalty_field : (n : ℕ) → IsPenalty n → IsFieldLine (line_of (codes "Penalty", decimal n)) (codes "Penalty", decimal n)
penalty_field n is =
    let fits : n < 2 ^ 64 = omega (arith, is) in
    let digits = are_digits n fits in
    let few = digits_few 10 n (omega arith) fits (let less : n < 10000000000 = omega (arith, is) in less) in
    field_line (codes "Penalty") (decimal n) (record { split = λ value. refl; bars = refl; clean = refl; short = omega arith }) (digits_plain (decimal n) digits)
    (digits_clean (decimal n) digits) (omega (arith, few))

yes_field : (name : List ℕ) (says : Bool) → IsFieldName name → IsFieldLine (line_of (name, yes_or_no says)) (name, yes_or_no says)
yes_field name true is = field_line name (codes "yes") is refl refl (omega arith)
yes_field name false is = field_line name (codes "no") is refl refl (omega arith)

paused_field : (says : Bool) → IsFieldLine (line_of (codes "Paused", yes_or_no says)) (codes "Paused", yes_or_no says)
paused_field says = yes_field (codes "Paused") says (record { split = λ value. refl; bars = refl; clean = refl; short = omega arith })

-- the texts of a queue that may be there, and others
split_texts : (queue : Option (List ℕ)) (others : List (List ℕ)) → list_all is_plain (queue_text queue ++ others) ≡ true
    → (list_all is_plain (queue_text queue) ≡ true) × (list_all is_plain others ≡ true)
split_texts None others plain = (refl, plain)
split_texts (Some q) others plain = let parts = and_parts (is_plain q) (list_all is_plain others) plain in (rw parts.0 refl, parts.1)

-- the fields of a command with plain texts
pub command_fields_are : (command : Command) → IsCommand command → list_all is_plain (texts_of command) ≡ true → AreFields (command_fields command)
command_fields_are (Add q i n paused label) is plain =
    let a = and_parts (is_plain q) (list_all is_plain (i ∷ label.name ∷ label.state ∷ [])) plain in
    let b = and_parts (is_plain i) (list_all is_plain (label.name ∷ label.state ∷ [])) a.1 in
    let c = and_parts (is_plain label.name) (list_all is_plain (label.state ∷ [])) b.1 in
    let d = and_parts (is_plain label.state) true c.1 in (
      text_field (codes "Queue") q queue_name a.0 is.0.text,
      (
        interface_field i b.0 is.1.0,
        (
          penalty_field n is.1.1.0,
          (
            paused_field paused,
            are_both (field_if_any (codes "MemberName") label.name) (field_if_any (codes "StateInterface") label.state)
                (any_field (codes "MemberName") label.name (record { split = λ value. refl; bars = refl; clean = refl; short = omega arith }) c.0 is.1.1.1.1.name)
                (any_field (codes "StateInterface") label.state (record { split = λ value. refl; bars = refl; clean = refl; short = omega arith }) d.0 is.1.1.1.1.state),
          ),
        ),
      ),
    )
command_fields_are (Remove q i) is plain =
    let a = and_parts (is_plain q) (list_all is_plain (i ∷ [])) plain in
    let b = and_parts (is_plain i) true a.1 in
    (text_field (codes "Queue") q queue_name a.0 is.0.text, (interface_field i b.0 is.1, tt))
command_fields_are (Pause queue i pause) is plain =
    let s = split_texts queue (i ∷ pause.reason ∷ []) plain in
    let a = and_parts (is_plain i) (list_all is_plain (pause.reason ∷ [])) s.1 in
    let b = and_parts (is_plain pause.reason) true a.1 in
    are_both (queue_field queue) _ (queue_fields queue is.0 s.0) (
      interface_field i a.0 is.1.0,
      (
        paused_field pause.paused,
        any_field (codes "Reason") pause.reason (record { split = λ value. refl; bars = refl; clean = refl; short = omega arith }) b.0 is.1.1.reason,
      ),
    )
command_fields_are (Penalty queue i n) is plain =
    let s = split_texts queue (i ∷ []) plain in
    let a = and_parts (is_plain i) true s.1 in
    are_both (queue_field queue) ((codes "Interface", i) ∷ (codes "Penalty", decimal n) ∷ []) (queue_fields queue is.0 s.0) (interface_field i a.0 is.1.0, (penalty_field n is.1.1, tt))
command_fields_are (RingInUse queue i ring) is plain =
    let s = split_texts queue (i ∷ []) plain in
    let a = and_parts (is_plain i) true s.1 in
    are_both (queue_field queue) ((codes "Interface", i) ∷ (codes "RingInUse", yes_or_no ring) ∷ []) (queue_fields queue is.0 s.0)
    (interface_field i a.0 is.1.0, (yes_field (codes "RingInUse") ring (record { split = λ value. refl; bars = refl; clean = refl; short = omega arith }), tt))
command_fields_are (Completed queue) is plain = tt
command_fields_are (Abandoned queue) is plain = tt

-- a field that may be there is one at most
any_few : (name value : List ℕ) → length (field_if_any name value) ≤ 1
any_few name [] = omega arith
any_few name (b ∷ bs) = omega arith

queue_few : (queue : Option (List ℕ)) → length (queue_field queue) ≤ 1
queue_few None = omega arith
queue_few (Some q) = omega arith

-- a command has few fields
pub few_fields : (command : Command) → length (command_fields command) < 128
few_fields (Add q i n paused label) =
    let l = length-append (field_if_any (codes "MemberName") label.name) (field_if_any (codes "StateInterface") label.state) in
    let a = any_few (codes "MemberName") label.name in
    let b = any_few (codes "StateInterface") label.state in
    omega (arith, l, a, b)
few_fields (Remove q i) = omega arith
few_fields (Pause queue i pause) =
    let l = length-append (queue_field queue) ((codes "Interface", i) ∷ (codes "Paused", yes_or_no pause.paused) ∷ field_if_any (codes "Reason") pause.reason) in
    let a = queue_few queue in
    let b = any_few (codes "Reason") pause.reason in
    omega (arith, l, a, b)
few_fields (Penalty queue i n) =
    let l = length-append (queue_field queue) ((codes "Interface", i) ∷ (codes "Penalty", decimal n) ∷ []) in
    let a = queue_few queue in
    omega (arith, l, a)
few_fields (RingInUse queue i ring) =
    let l = length-append (queue_field queue) ((codes "Interface", i) ∷ (codes "RingInUse", yes_or_no ring) ∷ []) in
    let a = queue_few queue in
    omega (arith, l, a)
few_fields (Completed queue) = omega arith
few_fields (Abandoned queue) = omega arith

-- ---- the first word

-- digits and a blank name a site
digits_line : (sites n : ℕ) (ds words : List ℕ) → 0 < length ds → list_all is_ascii_digit ds ≡ true → site_in sites ds ≡ Some n
    → sense_of sites (ds ++ 32 ∷ words) ≡ words_sense n words
digits_line sites n [] words some digits is = absurd (omega (arith, some))
digits_line sites n (d ∷ ds) words some digits is =
    let first = (and_parts (is_ascii_digit d) (list_all is_ascii_digit ds) digits).0 in
    let mark : (d == 35) ≡ false = grind (arith, nat_tests, first) in
    let letter : (d == 115) ≡ false = grind (arith, nat_tests, first) in
    rw (mark, letter) ((λ k. site_sense (site_in sites ((cut (d ∷ ds) digits).0 k)) ((cut (d ∷ ds) digits).1 k)) ∙ ap (λ site. site_sense site (Some words)) is)
  where
    cut : (ds : List ℕ) → list_all is_ascii_digit ds ≡ true → (before_blank (ds ++ 32 ∷ words) ≡ ds) × (behind_blank (ds ++ 32 ∷ words) ≡ Some words)
    cut [] h = (refl, refl)
    cut (b ∷ bs) h =
        let parts = and_parts (is_ascii_digit b) (list_all is_ascii_digit bs) h in
        let other : (b == 32) ≡ false = (let p = parts.0 in grind (arith, nat_tests, p)) in
        let rest = cut bs parts.1 in
        (rw other (ap (λ t. b ∷ t) rest.0), rw other rest.1)

-- the number of a site and a blank name the site
pub site_line : (sites site : ℕ) (words : List ℕ) → site < sites → sites ≤ 64 → sense_of sites (decimal site ++ 32 ∷ words) ≡ words_sense site words
site_line sites site words there few =
    let fits : site < 2 ^ 64 = omega (arith, there, few) in
    let less : site < 100 = omega (arith, there, few) in
    let is_there : nat_lt site sites ≡ true = grind (arith, nat_tests, there) in
    let one : one_of sites site ≡ Some site = rw is_there refl in
    digits_line sites site (decimal site) words (decimal_nonempty site fits) (are_digits site fits)
    (ap (option_and_then (one_of sites)) (number_read 2 site (omega arith) fits less) ∙ one)

-- a take of an entry is read as one
pub take_words : (site entry : ℕ) → entry < 1000000000 → words_sense site (codes "take " ++ decimal entry) ≡ Take site entry
take_words site entry less = ap (entry_sense (Take site)) (number_read 9 entry (omega arith) (omega (arith, less)) less)
