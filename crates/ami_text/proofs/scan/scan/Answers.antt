use Rattle.std.proofs.Common.{◌≡◌, ◌<◌, ◌≤◌, ℕ, List, ◌++◌, length, subst, arith}
use Rattle.ami_text.specs.declared.line_kind.LineKind.TheVariants.{Empty, Full, TooLong}
use Rattle.ami_text.specs.LineKind.{HasKind}
use Rattle.ami_text.specs.Lines.{content}
use Rattle.ami_text.proofs.Scanning.{scanned_start, fits_either, line_found, text_is, next_full, next_empty, ends_message, ends_too_many, ends_long, no_lf_ahead, part_is, shows_long, ends_in_rest}
use Rattle.ami_text.proofs.scan.scan.Goals as goal
use Rattle.ami_text.proofs.scan.scan.Goals.{in-Empty-2, in-Full}

pub lines-init : goal.lines-init
lines-init c = scanned_start c.args.held.now c.args.from c.requires

pub returns-in-Empty : goal.returns-in-Empty
returns-in-Empty c =
    let f = line_found _ _ _ _ _ _ c.lines.invariant c.in-Some.ensures in
    let empty : length (content f.text) ≡ 0 = subst (λ (ys : List ℕ). HasKind ys Empty) (text_is _ _ _ _ _ f) c.in-Empty.ensures in
    ends_message _ _ _ _ _ f (record { no_lf = f.no_lf; empty = empty }) c.if-lines-gt0.true

pub returns-in-Full-2 : goal.returns-in-Full-2
returns-in-Full-2 c =
    let f = line_found _ _ _ _ _ _ c.lines.invariant c.in-Some.ensures in
    let full : (0 < length (content f.text)) × (length (content f.text) ≤ 1024) = subst (λ (ys : List ℕ). HasKind ys Full) (text_is _ _ _ _ _ f) c.in-Full-2.ensures in
    ends_too_many _ _ _ _ _ f (record { no_lf = f.no_lf; some = full.0; fits = full.1 }) c.if-lines-lt-LINES_LIMIT.false

pub returns-in-TooLong : goal.returns-in-TooLong
returns-in-TooLong c =
    let f = line_found _ _ _ _ _ _ c.lines.invariant c.in-Some.ensures in
    ends_long _ _ _ _ _ f (subst (λ (ys : List ℕ). HasKind ys TooLong) (text_is _ _ _ _ _ f) c.in-TooLong.ensures)

pub lines-preserved : goal.lines-preserved
lines-preserved c =
    let f = line_found _ _ _ _ _ _ c.lines.invariant c.in-Some.ensures in
    elim c.match-kind.branch [
      | in-Empty-2 w ↦
          let none : c.lines.lines ≡ 0 = omega (arith, w.if-lines-gt0.false) in
          let empty : length (content f.text) ≡ 0 = subst (λ (ys : List ℕ). HasKind ys Empty) (text_is _ _ _ _ _ f) w.in-Empty-2.ensures in
          rw (w.empty-is, w.lines-is) (next_empty _ _ _ _ _ f (record { no_lf = f.no_lf; empty = empty }) none)
      | in-Full w ↦
          let full : (0 < length (content f.text)) × (length (content f.text) ≤ 1024) = subst (λ (ys : List ℕ). HasKind ys Full) (text_is _ _ _ _ _ f) w.in-Full.ensures in
          rw (w.empty-is, w.lines-is) (next_full _ _ _ _ _ f (record { no_lf = f.no_lf; some = full.0; fits = full.1 }) w.if-lines-lt-LINES_LIMIT.true)
    ]

pub returns-in-TooLong-kind : goal.returns-in-TooLong-kind
returns-in-TooLong-kind c =
    let s = c.lines.invariant in
    shows_long _ _ _ _ _ s (no_lf_ahead _ _ _ _ _ s c.in_default.ensures)
    (subst (λ (ys : List ℕ). HasKind ys TooLong) (part_is _ _ _ _ _ s) c.in-TooLong-kind.ensures)

pub returns-in-Empty-kind : goal.returns-in-Empty-kind
returns-in-Empty-kind c =
    let s = c.lines.invariant in
    ends_in_rest _ _ _ _ _ s (no_lf_ahead _ _ _ _ _ s c.in_default.ensures)
    (fits_either (s.part ++ s.ahead) c.kind-2.result (subst (λ (ys : List ℕ). HasKind ys c.kind-2.result) (part_is _ _ _ _ _ s) c.kind-2.ensures) c.in-Empty-kind.is)
