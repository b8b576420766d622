-- The blocks of a report, written one after the other.
use Rattle.std.proofs.Common.{◌≡◌, ℕ, zero, suc, ◌+◌, ◌<◌, ◌≤◌, Bool, true, false, cond, List, [], ◌∷◌, ◌++◌, length, codes, get_or, drop, drop-cons, map as each, filter, slice_get, Option, Some, append_assoc, append-nil, length-append, refl, sym, ap, ◌∙◌, arith}
use Rattle.std.specs.List.{concat}
use Rattle.std.proofs.lemmas.List.{drop_all}
use Rattle.dots.specs.declared.call_totals.CallTotals.{CallTotals}
use Rattle.ami_text.specs.WrittenLines.{field}
use Rattle.status_report.specs.declared.request.StatusRequest.{StatusRequest}
use Rattle.status_report.specs.Status.{Row, end, event_lines, is_member_wanted, is_queue_wanted, member_block, member_blocks, queue_block, blocks, blocks_named, opening, closing, status_text}

-- ---- a member
-- a field that is written in pieces, before the rest
field_on : (name value rest : List ℕ) → name ++ (codes ": " ++ (value ++ (codes "\r\n" ++ rest))) ≡ field name value ++ rest
field_on name value rest =
    sym (append_assoc (name ++ codes ": " ++ value) (codes "\r\n") rest
    ∙ append_assoc (name ++ codes ": ") value (codes "\r\n" ++ rest)
    ∙ append_assoc name (codes ": ") (value ++ (codes "\r\n" ++ rest)))

-- the lines behind the membership, and the pieces of which they are written
module _ (penalty paused reason ring : List ℕ) where
  abbrev last_lines : List ℕ
  last_lines = field (codes "RingInUse") ring ++ end

  abbrev later_lines : List ℕ
  later_lines = field (codes "Penalty") penalty ++ (field (codes "Paused") paused ++ (field (codes "PausedReason") reason ++ last_lines))

  abbrev last_pieces : List ℕ
  last_pieces = reason ++ (codes "\r\n" ++ last_lines)

  abbrev later_pieces : List ℕ
  later_pieces = penalty ++ ((codes "\r\n" ++ (field (codes "Paused") paused ++ codes "PausedReason: ")) ++ last_pieces)

  later_is : codes "Penalty: " ++ later_pieces ≡ later_lines
  later_is =
      field_on (codes "Penalty") penalty ((field (codes "Paused") paused ++ codes "PausedReason: ") ++ last_pieces)
      ∙ ap (λ t. field (codes "Penalty") penalty ++ t)
      (append_assoc (field (codes "Paused") paused) (codes "PausedReason: ") last_pieces
      ∙ ap (λ t. field (codes "Paused") paused ++ t) (field_on (codes "PausedReason") reason last_lines))

  -- the pieces of a member's block are its lines
  pub member_lines : (action_id queue name interface state : List ℕ)
      → (event_lines action_id (codes "QueueMember") ++ (field (codes "Queue") queue ++ codes "Name: "))
      ++ (name
      ++ (codes "\r\nLocation: "
      ++ (interface
      ++ (codes "\r\nStateInterface: "
      ++ (state
      ++ (codes "\r\nMembership: dynamic\r\nPenalty: "
      ++ later_pieces))))))
      ≡ event_lines action_id (codes "QueueMember")
      ++ (field (codes "Queue") queue
      ++ (field (codes "Name") name
      ++ (field (codes "Location") interface
      ++ (field (codes "StateInterface") state
      ++ (field (codes "Membership") (codes "dynamic")
      ++ later_lines)))))
  member_lines action_id queue name interface state =
      let behind = codes "Membership: dynamic\r\nPenalty: " ++ later_pieces in
      let states = state ++ (codes "\r\n" ++ behind) in
      let places = interface ++ (codes "\r\n" ++ (codes "StateInterface: " ++ states)) in
      let names = name ++ (codes "\r\n" ++ (codes "Location: " ++ places)) in
      append_assoc (event_lines action_id (codes "QueueMember")) (field (codes "Queue") queue ++ codes "Name: ") names
      ∙ ap (λ t. event_lines action_id (codes "QueueMember") ++ t)
      (append_assoc (field (codes "Queue") queue) (codes "Name: ") names
      ∙ ap (λ t. field (codes "Queue") queue ++ t)
      (field_on (codes "Name") name (codes "Location: " ++ places)
      ∙ ap (λ t. field (codes "Name") name ++ t)
      (field_on (codes "Location") interface (codes "StateInterface: " ++ states)
      ∙ ap (λ t. field (codes "Location") interface ++ t)
      (field_on (codes "StateInterface") state behind
      ∙ ap (λ t. field (codes "StateInterface") state ++ (field (codes "Membership") (codes "dynamic") ++ t)) later_is))))

-- ---- the members of a queue
choose : (request : StatusRequest) (name : List ℕ) (row : Row) (rest : List Row) → Bool → List (List ℕ)
choose request name row rest b = each (member_block request.action_id name) (cond b (row ∷ filter (is_member_wanted request.member) rest) (filter (is_member_wanted request.member) rest))

-- the element at a place, before those that follow it
pub next_element : {A B : Type 0} (f : A → B) (xs : List A) (i : ℕ) (x : A) → i < length xs → x ≡ get_or xs i x → each f (drop i xs) ≡ f x ∷ each f (drop (i + 1) xs)
next_element f xs i x lt is =
    let next : suc i ≡ i + 1 = omega arith in
    ap (each f) (drop-cons xs i x lt ∙ (λ j. sym is j ∷ drop (next j) xs))

-- a block has bytes
has_bytes : (action_id name : List ℕ) (row : Row) → 1 ≤ length (member_block action_id name row)
has_bytes action_id name row = omega arith

module _ (request : StatusRequest) (name : List ℕ) (row : Row) (left rest : List Row) (is : left ≡ row ∷ rest) where
  -- a member that is shown has the first block
  shown_first : is_member_wanted request.member row ≡ true → member_blocks request name left ≡ member_block request.action_id name row ∷ member_blocks request name rest
  unfolding choose
  shown_first wanted = ap (member_blocks request name) is ∙ ap (choose request name row rest) wanted

  -- one that isn't has none
  pub hidden_first : is_member_wanted request.member row ≡ false → member_blocks request name left ≡ member_blocks request name rest
  unfolding choose
  hidden_first hidden = ap (member_blocks request name) is ∙ ap (choose request name row rest) hidden

  pub shown_text : (old new : List ℕ) → is_member_wanted request.member row ≡ true → new ≡ old ++ member_block request.action_id name row → new ++ concat (member_blocks request name rest) ≡ old ++ concat (member_blocks request name left)
  shown_text old new wanted e =
      ap (λ o. o ++ concat (member_blocks request name rest)) e
      ∙ append_assoc old (member_block request.action_id name row) (concat (member_blocks request name rest))
      ∙ ap (λ bs. old ++ concat bs) (sym (shown_first wanted))

  pub shown_count : (n : ℕ) → is_member_wanted request.member row ≡ true → (n + 1) + length (member_blocks request name rest) ≡ n + length (member_blocks request name left)
  shown_count n wanted = let e = ap length (shown_first wanted) in omega (arith, e)

  pub shown_few : (old new : List ℕ) (n first : ℕ) → new ≡ old ++ member_block request.action_id name row → first + n ≤ length old → first + (n + 1) ≤ length new
  shown_few old new n first e few =
      let written = ap length e ∙ length-append old (member_block request.action_id name row) in
      let some = has_bytes request.action_id name row in
      omega (arith, written, some, few)

-- nothing is left
pub none_text : (request : StatusRequest) (name : List ℕ) (left : List Row) (out all : List ℕ) → left ≡ [] → out ++ concat (member_blocks request name left) ≡ all → out ≡ all
none_text request name left out all e h = sym (append-nil out) ∙ ap (λ rows. out ++ concat (member_blocks request name rows)) (sym e) ∙ h

pub none_count : (request : StatusRequest) (name : List ℕ) (left : List Row) (n all : ℕ) → left ≡ [] → n + length (member_blocks request name left) ≡ all → n ≡ all
none_count request name left n all e h = let k = ap (λ rows. length (member_blocks request name rows)) e in omega (arith, k, h)

-- ---- the queues
-- the blocks of the queues from a number on
abbrev pub blocks_from : StatusRequest → (ℕ → CallTotals) → (ℕ → List Row) → List (List ℕ) → ℕ → List (List ℕ)
blocks_from request totals rows names number = blocks request totals rows number (drop number names)

-- a queue that is shown has its own block, and then its members'
pub whole_queue : (request : StatusRequest) (totals : ℕ → CallTotals) (rows : ℕ → List Row) (number : ℕ) (slot : Option (List ℕ)) (name : List ℕ) (counted : CallTotals) (listed : List Row) (out between new : List ℕ)
    → slot ≡ Some name → is_queue_wanted request.queue name ≡ true → counted ≡ totals number → listed ≡ rows number
    → between ≡ out ++ queue_block request.action_id name counted → new ≡ between ++ concat (member_blocks request name listed)
    → new ≡ out ++ concat (blocks_named request totals rows number slot)
whole_queue request totals rows number slot name counted listed out between new is wanted same_totals same_rows first rest =
    let shown : Bool → List (List ℕ) = λ b. cond b (queue_block request.action_id name (totals number) ∷ member_blocks request name (rows number)) [] in
    rest
    ∙ (λ i. first i ++ concat (member_blocks request name (same_rows i)))
    ∙ append_assoc out (queue_block request.action_id name counted) (concat (member_blocks request name (rows number)))
    ∙ (λ i. out ++ (queue_block request.action_id name (same_totals i) ++ concat (member_blocks request name (rows number))))
    ∙ (λ i. out ++ concat (shown (sym wanted i)))
    ∙ (λ i. out ++ concat (blocks_named request totals rows number (sym is i)))

concat_append : (xs ys : List (List ℕ)) → concat (xs ++ ys) ≡ concat xs ++ concat ys
concat_append [] ys = refl
concat_append (x ∷ xs) ys = ap (λ rest. x ++ rest) (concat_append xs ys) ∙ sym (append_assoc x (concat xs) (concat ys))

module _ (request : StatusRequest) (totals : ℕ → CallTotals) (rows : ℕ → List Row) where
  blocks_first : (names : List (List ℕ)) (i n : ℕ) → i < length names
      → blocks request totals rows n (drop i names) ≡ blocks_named request totals rows n (slice_get names i) ++ blocks request totals rows (n + 1) (drop (suc i) names)
  blocks_first [] i n lt = absurd (omega arith)
  blocks_first (name ∷ names) zero n lt = refl
  blocks_first (name ∷ names) (suc i) n lt = blocks_first names i n (omega arith)

  module _ (names : List (List ℕ)) (number : ℕ) where
    -- the blocks of a queue, and of the queues after it
    pub blocks_from_more : number < length names → blocks_from request totals rows names number ≡ blocks_named request totals rows number (slice_get names number) ++ blocks_from request totals rows names (number + 1)
    blocks_from_more lt =
        let next : suc number ≡ number + 1 = omega arith in
        blocks_first names number number lt
        ∙ ap (λ i. blocks_named request totals rows number (slice_get names number) ++ blocks request totals rows (number + 1) (drop i names)) next

    pub blocks_from_none : length names ≤ number → blocks_from request totals rows names number ≡ []
    blocks_from_none past = ap (blocks request totals rows number) (drop_all number names past)

    pub queue_text : number < length names → (old new : List ℕ) → new ≡ old ++ concat (blocks_named request totals rows number (slice_get names number))
        → new ++ concat (blocks_from request totals rows names (number + 1)) ≡ old ++ concat (blocks_from request totals rows names number)
    queue_text lt old new e =
        let here = blocks_named request totals rows number (slice_get names number) in
        let rest = blocks_from request totals rows names (number + 1) in
        ap (λ o. o ++ concat rest) e
        ∙ append_assoc old (concat here) (concat rest)
        ∙ ap (λ t. old ++ t) (sym (concat_append here rest))
        ∙ ap (λ bs. old ++ concat bs) (sym (blocks_from_more lt))

    pub queue_count : number < length names → (n k : ℕ) → k ≡ length (blocks_named request totals rows number (slice_get names number))
        → (n + k) + length (blocks_from request totals rows names (number + 1)) ≡ n + length (blocks_from request totals rows names number)
    queue_count lt n k e =
        let here = blocks_named request totals rows number (slice_get names number) in
        let rest = blocks_from request totals rows names (number + 1) in
        let all = ap length (blocks_from_more lt) ∙ length-append here rest in
        omega (arith, all, e)

    -- when all queues are written, and the end
    pub whole_report : (events : ℕ) (out new : List ℕ) → length names ≤ number
        → out ++ concat (blocks_from request totals rows names number) ≡ opening request.action_id ++ concat (blocks_from request totals rows names 0)
        → events + length (blocks_from request totals rows names number) ≡ length (blocks_from request totals rows names 0)
        → new ≡ out ++ closing request.action_id events
        → new ≡ status_text names totals rows request
    whole_report events out new past text count closed =
        let left = blocks_from_none past in
        let none = ap length left in
        let all = blocks_from request totals rows names 0 in
        let written : out ≡ opening request.action_id ++ concat all = sym (append-nil out) ∙ ap (λ bs. out ++ concat bs) (sym left) ∙ text in
        let items : events ≡ length all = omega (arith, none, count) in
        closed
        ∙ (λ k. written k ++ closing request.action_id (items k))
        ∙ append_assoc (opening request.action_id) (concat all) (closing request.action_id (length all))
