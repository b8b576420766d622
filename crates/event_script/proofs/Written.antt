-- What was written of the script of events.
use Rattle.std.proofs.Common.{◌≡◌, ◌∙◌, ℕ, ◌+◌, ◌<◌, ◌++◌, List, [], ◌∷◌, length, take, drop, get_or, codes, count_by, true, false, not, Option, sym, ap, subst, append_assoc, append-nil}
use Rattle.std.specs.Io.KnownBytes.{Appends}
use Rattle.std.proofs.lemmas.List.Elements.{All-push}
use Rattle.std.proofs.lemmas.List.Sums.{count_by_more_no, count_by_more_yes}
use Rattle.std.specs.List.{All}
use Rattle.std.proofs.KnownBytes.{Appends-trans}
use Rattle.std.proofs.lemmas.Grind.{flat_map-append}
use Rattle.std.proofs.lemmas.List.{drop_more, take-append-drop, take_more}
use Rattle.ami_text.specs.Devices.{HasTaken}
use Rattle.sites_world.specs.declared.event.Event.{Event}
use Rattle.event_script.specs.Lines.{HasLimits, can_say, event_line, is_unsaid, script_of}

-- the line of an event, with its end
abbrev pub whole_line : Event → List ℕ
whole_line e = event_line e ++ codes "\n"

-- one line more
taken_more : (events : List Event) (i : ℕ) (e : Event) → i < length events → e ≡ get_or events i e → script_of (take (i + 1) events) ≡ script_of (take i events) ++ whole_line e
taken_more events i e within is =
    ap script_of (take_more events i e within) ∙ ap (λ x. script_of (take i events ++ x ∷ [])) (sym is) ∙ flat_map-append whole_line (take i events) (e ∷ [])
    ∙ ap (λ t. script_of (take i events) ++ t) (append-nil (whole_line e))

pub more_written : (before mid after : Option (List ℕ)) (events : List Event) (i : ℕ) (e : Event) → i < length events → e ≡ get_or events i e
    → Appends before mid (script_of (take i events)) → Appends mid after (whole_line e) → Appends before after (script_of (take (i + 1) events))
more_written before mid after events i e within is first line =
    subst (Appends before after) (sym (taken_more events i e within is)) (Appends-trans before mid after (script_of (take i events)) (whole_line e) first line)

-- the script, up to a line and behind it
whole_script : (events : List Event) (i : ℕ) (e : Event) → i < length events → e ≡ get_or events i e
    → script_of events ≡ script_of (take i events) ++ (whole_line e ++ script_of (drop (i + 1) events))
whole_script events i e within is =
    ap script_of (sym (take-append-drop i events)) ∙ flat_map-append whole_line (take i events) (drop i events)
    ∙ ap (λ es. script_of (take i events) ++ script_of es) (drop_more events i e within ∙ ap (λ x. x ∷ drop (i + 1) events) (sym is))

-- a part of a line was written behind the lines before it
pub line_begun : (before mid after : Option (List ℕ)) (events : List Event) (i : ℕ) (e : Event) → i < length events → e ≡ get_or events i e
    → Appends before mid (script_of (take i events)) → HasTaken mid after (whole_line e) → HasTaken before after (script_of events)
line_begun before mid after events i e within is first line = record {
  front = script_of (take i events) ++ line.front;
  rest = line.rest ++ script_of (drop (i + 1) events);
  is = whole_script events i e within is
      ∙ ap (λ t. script_of (take i events) ++ (t ++ script_of (drop (i + 1) events))) line.is
      ∙ ap (λ t. script_of (take i events) ++ t) (append_assoc line.front line.rest (script_of (drop (i + 1) events)))
      ∙ sym (append_assoc (script_of (take i events)) line.front (line.rest ++ script_of (drop (i + 1) events)));
  taken = Appends-trans before mid after (script_of (take i events)) line.front first line.taken;
}

-- nothing of a line was written behind the lines before it
pub lines_begun : (before mid after : Option (List ℕ)) (events : List Event) (i : ℕ) → after ≡ mid → Appends before mid (script_of (take i events)) → HasTaken before after (script_of events)
lines_begun before mid after events i same first = record {
  front = script_of (take i events);
  rest = script_of (drop i events);
  is = ap script_of (sym (take-append-drop i events)) ∙ flat_map-append whole_line (take i events) (drop i events);
  taken = subst (λ x. Appends before x (script_of (take i events))) (sym same) first;
}

-- one event more, which a line says or none does
pub more_said : (events : List Event) (i : ℕ) (e : Event) (n : ℕ) → i < length events → e ≡ get_or events i e → can_say e ≡ true
    → n ≡ count_by is_unsaid (take i events) → n ≡ count_by is_unsaid (take (i + 1) events)
more_said events i e n within is said counted =
    counted ∙ sym (count_by_more_no is_unsaid events i e within (ap is_unsaid (sym is) ∙ ap not said))

pub more_unsaid : (events : List Event) (i : ℕ) (e : Event) (n : ℕ) → i < length events → e ≡ get_or events i e → can_say e ≡ false
    → n ≡ count_by is_unsaid (take i events) → n + 1 ≡ count_by is_unsaid (take (i + 1) events)
more_unsaid events i e n within is said counted =
    ap (λ m. m + 1) counted ∙ sym (count_by_more_yes is_unsaid events i e within (ap is_unsaid (sym is) ∙ ap not said))

-- its values are within the limits of their types
pub more_limits : (events : List Event) (i : ℕ) (e : Event) → i < length events → e ≡ get_or events i e → All HasLimits (take i events) → HasLimits e
    → All HasLimits (take (i + 1) events)
more_limits events i e within is all limits =
    subst (All HasLimits) (sym (take_more events i e within ∙ ap (λ x. take i events ++ x ∷ []) (sym is))) (All-push HasLimits (take i events) e all limits)
