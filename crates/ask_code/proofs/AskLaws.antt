-- Bytes are those of one command with its answer at most, or have one fault at most, and never both.
use Rattle.std.proofs.Common.{◌≡◌, inl, inr, ℕ, List, [], ◌++◌, Result, Ok, Err, IfErr, IfOk, sym, ap, subst, ◌∙◌}
use Rattle.std.proofs.lemmas.List.{append-nil}
use Rattle.replica.specs.declared.command.Command.{Command}
use Rattle.replica.specs.declared.command.Command.TheVariants as command
use Rattle.replica.specs.declared.refusal.Refusal.{Refusal}
use Rattle.ask_code.specs.declared.answered.AnsweredCommand.{AnsweredCommand}
use Rattle.ask_code.specs.declared.ask_fault.AskFault.{AskFault}
use Rattle.ask_code.specs.declared.kind.Kind.{Kind}
use Rattle.ask_code.specs.declared.kind.Kind.TheVariants as kind
use Rattle.ask_code.specs.Codes.{Code, bit_code, both, optional}
use Rattle.ask_code.specs.Values.{answer_code, kind_code, label_code, name_code, pause_code, penalty_code}
use Rattle.ask_code.specs.Asks.{ContentFails, HasFault, IsAsk, IsCommand, add_code, ask_bytes, ask_code, command_code, content_bytes, kind_of, remove_code, setting_code}
use Rattle.ask_code.proofs.CodeLaws.{IsExact, apart, bit_exact, both_exact, led_exact, optional_exact}
use Rattle.ask_code.proofs.ValueLaws.{answer_exact, kind_exact, label_exact, name_exact, pause_exact, penalty_exact}

add_exact : IsExact add_code
add_exact = both_exact name_code (both name_code (both penalty_code (both bit_code label_code))) name_exact
    (both_exact name_code (both penalty_code (both bit_code label_code)) name_exact
    (both_exact penalty_code (both bit_code label_code) penalty_exact (both_exact bit_code label_code bit_exact label_exact)))

remove_exact : IsExact remove_code
remove_exact = both_exact name_code name_code name_exact name_exact

setting_exact : {A : Type 0} (code : Code A) → IsExact code → IsExact (setting_code code)
setting_exact code exact = both_exact (optional name_code) (both name_code code) (optional_exact name_code name_exact) (both_exact name_code code name_exact exact)

content_unique : (x y : Command) (r s : List ℕ) → IsCommand x → IsCommand y → kind_of x ≡ kind_of y → content_bytes x ++ r ≡ content_bytes y ++ s → (x ≡ y) × (r ≡ s)
content_unique (command.Add q i p b l) (command.Add q' i' p' b' l') r s g h same e =
    let u = add_exact.unique (q, (i, (p, (b, l)))) (q', (i', (p', (b', l')))) r s g h e in (ap (λ x. command.Add x.0 x.1.0 x.1.1.0 x.1.1.1.0 x.1.1.1.1) u.0, u.1)
content_unique (command.Remove q i) (command.Remove q' i') r s g h same e =
    let u = remove_exact.unique (q, i) (q', i') r s g h e in (ap (λ x. command.Remove x.0 x.1) u.0, u.1)
content_unique (command.Pause q i v) (command.Pause q' i' v') r s g h same e =
    let u = (setting_exact pause_code pause_exact).unique (q, (i, v)) (q', (i', v')) r s g h e in (ap (λ x. command.Pause x.0 x.1.0 x.1.1) u.0, u.1)
content_unique (command.Penalty q i v) (command.Penalty q' i' v') r s g h same e =
    let u = (setting_exact penalty_code penalty_exact).unique (q, (i, v)) (q', (i', v')) r s g h e in (ap (λ x. command.Penalty x.0 x.1.0 x.1.1) u.0, u.1)
content_unique (command.RingInUse q i v) (command.RingInUse q' i' v') r s g h same e =
    let u = (setting_exact bit_code bit_exact).unique (q, (i, v)) (q', (i', v')) r s g h e in (ap (λ x. command.RingInUse x.0 x.1.0 x.1.1) u.0, u.1)
content_unique (command.Completed q) (command.Completed q') r s g h same e =
    let u = name_exact.unique q q' r s g h e in (ap (λ x. command.Completed x) u.0, u.1)
content_unique (command.Abandoned q) (command.Abandoned q') r s g h same e =
    let u = name_exact.unique q q' r s g h e in (ap (λ x. command.Abandoned x) u.0, u.1)
content_unique x y r s g h same e = absurd cc

content_not_both : (x : Command) (r : List ℕ) (fault : AskFault) → IsCommand x → ContentFails (kind_of x) fault (content_bytes x ++ r) → ⊥
content_not_both (command.Add q i p b l) r fault g h = add_exact.not_both (q, (i, (p, (b, l)))) r fault g h
content_not_both (command.Remove q i) r fault g h = remove_exact.not_both (q, i) r fault g h
content_not_both (command.Pause q i v) r fault g h = (setting_exact pause_code pause_exact).not_both (q, (i, v)) r fault g h
content_not_both (command.Penalty q i v) r fault g h = (setting_exact penalty_code penalty_exact).not_both (q, (i, v)) r fault g h
content_not_both (command.RingInUse q i v) r fault g h = (setting_exact bit_code bit_exact).not_both (q, (i, v)) r fault g h
content_not_both (command.Completed q) r fault g h = name_exact.not_both q r fault g h
content_not_both (command.Abandoned q) r fault g h = name_exact.not_both q r fault g h

content_one : (kind : Kind) (bytes : List ℕ) (f g : AskFault) → ContentFails kind f bytes → ContentFails kind g bytes → f ≡ g
content_one kind.Add bytes f g h k = add_exact.one bytes f g h k
content_one kind.Remove bytes f g h k = remove_exact.one bytes f g h k
content_one kind.Pause bytes f g h k = (setting_exact pause_code pause_exact).one bytes f g h k
content_one kind.Penalty bytes f g h k = (setting_exact penalty_code penalty_exact).one bytes f g h k
content_one kind.RingInUse bytes f g h k = (setting_exact bit_code bit_exact).one bytes f g h k
content_one kind.Completed bytes f g h k = name_exact.one bytes f g h k
content_one kind.Abandoned bytes f g h k = name_exact.one bytes f g h k

command_exact : IsExact command_code
command_exact = led_exact kind_code kind_of content_bytes IsCommand ContentFails kind_exact (λ x g. tt) (record { unique = content_unique; not_both = content_not_both; one = content_one })

ask_exact : IsExact ask_code
ask_exact = both_exact command_code answer_code command_exact answer_exact

abbrev Answered : Type 0
Answered = Command × Result (Unit {0}) Refusal

pub one_ask : (x y : AnsweredCommand) (r s : List ℕ) → IsAsk x → IsAsk y → ask_bytes x ++ r ≡ ask_bytes y ++ s → (x ≡ y) × (r ≡ s)
one_ask x y r s g h e =
    let u = ask_exact.unique (x.command, x.answer) (y.command, y.answer) r s g h e in
    (ap (λ (p : Answered). let it : AnsweredCommand = record { command = p.0; answer = p.1 } in it) u.0, u.1)

pub same_bytes : (x y : AnsweredCommand) → IsAsk x → IsAsk y → ask_bytes x ≡ ask_bytes y → x ≡ y
same_bytes x y g h e = (one_ask x y [] [] g h (ap (λ (l : List ℕ). l ++ []) e)).0

pub no_prefix : (x y : AnsweredCommand) (rest : List ℕ) → IsAsk x → IsAsk y → ask_bytes y ≡ ask_bytes x ++ rest → rest ≡ []
no_prefix x y rest g h e = (one_ask x y rest [] g h (sym e ∙ sym (append-nil (ask_bytes y)))).1

pub not_both : (x : AnsweredCommand) (bytes : List ℕ) (fault : AskFault) → IsAsk x → bytes ≡ ask_bytes x → HasFault fault bytes → ⊥
not_both x bytes fault g e h =
    let whole : bytes ≡ ask_bytes x ++ [] = e ∙ sym (append-nil (ask_bytes x)) in
    elim h [
      | inl fails ↦ ask_exact.not_both (x.command, x.answer) [] fault g (subst (λ (l : List ℕ). ask_code.Fails fault l) whole fails)
      | inr more ↦ more.next.0 (sym (ask_exact.unique (x.command, x.answer) more.value [] more.rest g more.good (sym whole ∙ more.spelled)).1)
    ]

pub one_fault : (bytes : List ℕ) (f g : AskFault) → HasFault f bytes → HasFault g bytes → f ≡ g
one_fault bytes f g h k =
    elim h [
      | inl m ↦ elim k [
        | inl n ↦ ask_exact.one bytes f g m n
        | inr o ↦ absurd (apart ask_code ask_exact _ bytes f o m)
      ]
      | inr o ↦ elim k [
        | inl n ↦ absurd (apart ask_code ask_exact _ bytes g o n)
        | inr q ↦ o.next.1 ∙ sym q.next.1
      ]
    ]

-- what is read of bytes, and is theirs or a fault of theirs, is what they are
pub record IsRead (bytes : List ℕ) (result : Result AnsweredCommand AskFault) : Type 0 where
  pub good : IfOk result (λ ask. IsAsk ask)
  pub spelled : IfOk result (λ ask. bytes ≡ ask_bytes ask)
  pub fault : IfErr result (λ fault. HasFault fault bytes)

pub found : (bytes : List ℕ) (result : Result AnsweredCommand AskFault) → IsRead bytes result → (ask : AnsweredCommand) → IsAsk ask → bytes ≡ ask_bytes ask → result ≡ Ok ask
found bytes (Ok x) r ask g e = ap (λ (a : AnsweredCommand). Ok a) (one_ask x ask [] [] r.good g (ap (λ (l : List ℕ). l ++ []) (sym r.spelled ∙ e))).0
found bytes (Err f) r ask g e = absurd (not_both ask bytes f g e r.fault)

pub has_fault : (bytes : List ℕ) (result : Result AnsweredCommand AskFault) → IsRead bytes result → (fault : AskFault) → HasFault fault bytes → result ≡ Err fault
has_fault bytes (Ok x) r fault h = absurd (not_both x bytes fault r.good r.spelled h)
has_fault bytes (Err f) r fault h = ap (λ (a : AskFault). Err a) (one_fault bytes f fault r.fault h)

pub fault_had : (bytes : List ℕ) (result : Result AnsweredCommand AskFault) → IsRead bytes result → (fault : AskFault) → result ≡ Err fault → HasFault fault bytes
fault_had bytes result r fault e = (subst (λ (x : Result AnsweredCommand AskFault). IfErr x (λ fault. HasFault fault bytes)) e r.fault)
