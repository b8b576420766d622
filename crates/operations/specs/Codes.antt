-- How values that contracts see are stored: each record as the tuple of its fields.
use Rattle.std.specs.Prelude.{ℕ, Bool, List, Option, refl}
use Rattle.std.specs.Coded.{Coded, code_by, coded×, coded_ℕ, coded_bool, coded_list, coded_option}
use Rattle.dots.specs.declared.label.Label.{Label}
use Rattle.dots.specs.declared.member.Member.{Member}
use Rattle.dots.specs.Values.{Stamp, PauseState}
use Rattle.operations.specs.Registers.{Entry}
use Rattle.operations.specs.Conditions.{DotFields}

-- a text, or any other list of bytes, is stored as a list of numbers
abbrev pub text_code : Coded (List ℕ)
text_code = coded_list coded_ℕ

-- a member is stored as the pair of its queue's number and its interface
abbrev pub member_code : Coded Member
member_code = code_by (ℕ × List ℕ) (coded× coded_ℕ text_code) (λ m. (m.queue, m.interface)) (λ p. record { queue = p.0; interface = p.1 }) (λ _. refl)

-- a stamp is stored as the pair of its time and its site
abbrev pub stamp_code : Coded Stamp
stamp_code = code_by (ℕ × ℕ) (coded× coded_ℕ coded_ℕ) (λ s. (s.time, s.site)) (λ p. record { time = p.0; site = p.1 }) (λ _. refl)

-- the entry of a register is stored as the pair of its stamp and its value, the latter by the code
-- `value`
abbrev pub entry_code : {T : Type 0} → Coded T → Coded (Entry T)
entry_code {T} value = code_by (Stamp × T) (coded× stamp_code value) (λ e. (e.stamp, e.value)) (λ p. record { stamp = p.0; value = p.1 }) (λ _. refl)

-- a pause is stored as the pair of whether the member is paused and the reason
abbrev pub pause_code : Coded PauseState
pause_code = code_by (Bool × List ℕ) (coded× coded_bool text_code) (λ p. (p.paused, p.reason)) (λ p. record { paused = p.0; reason = p.1 }) (λ _. refl)

-- a label is stored as the pair of the member name and the state interface
abbrev pub label_code : Coded Label
label_code = code_by (List ℕ × List ℕ) (coded× text_code text_code) (λ l. (l.name, l.state)) (λ p. record { name = p.0; state = p.1 }) (λ _. refl)

-- the fields of a dot are stored as the tuple of its penalty, pause, label and ring, each a register
abbrev pub fields_code : Coded DotFields
fields_code =
    code_by (Option (Entry ℕ) × (Option (Entry PauseState) × (Option (Entry Label) × Option (Entry Bool))))
    (coded× (coded_option (entry_code coded_ℕ)) (coded× (coded_option (entry_code pause_code)) (coded× (coded_option (entry_code label_code)) (coded_option (entry_code coded_bool)))))
    (λ f. (f.penalty, (f.pause, (f.label, f.ring)))) (λ p. record { penalty = p.0; pause = p.1.0; label = p.1.1.0; ring = p.1.1.1 }) (λ _. refl)
